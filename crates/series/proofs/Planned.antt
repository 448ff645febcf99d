-- An accepted planning call leaves planned tables.
-- Assumes nothing.
use Rattle.std.specs.Prelude.{Ok, Err, Some}
use Prim.Native.Nat.{ℕ, ◌+◌, ◌-◌, ◌*◌, ◌<◌, ◌≤◌}
use native.Mathlib.Omega.{arith}
use mathlib.Core.Path.{◌≡◌, refl, ap, sym, ◌∙◌}
use mathlib.Core.Bool.{true}
use mathlib.Core.List.{List, ◌++◌}
use lib.ListN.{length, get_or, take, drop}
use lib.Seq.{length-take-le, take-append_seam}
use borrow.Author.Tests.{lt-ltb, le-ltb}
use Rattle.base.specs.Front.{front, length_of_front}
use Rattle.graph.specs.Derive.{Derived, ranks, cycle}
use Rattle.theory.specs.Admission.{admission, Admission, admitted}
use Rattle.theory.specs.Limits.{limits_of, Limited}
use Rattle.theory.specs.Refusals.{not_both, or_else_left, or-else-right}
use Rattle.theory.specs.WellFormed.{NodeTables, RootTable, WellFormed}
use Rattle.theory.specs.declared.Counts.{Counts}
use Rattle.theory.proofs.Admitted.{admitted_formed}
use Rattle.compile.specs.Producers.{roots_supported, producers_before, producer_words}
use Rattle.compile.specs.ProducersLaws.{few-producers, length-words}
use Rattle.compile.specs.declared.Producer.{Producer}
use Rattle.ranks.specs.Classed.{Classed}
use Rattle.ranks.specs.RankCheck.{rank_check}
use Rattle.ranks.proofs.Planned as paper
use Rattle.ranks.proofs.Ranks.{derived_accepted}
use Rattle.readers.specs.Laid as laying
use Rattle.readers.specs.Laid.{start_of, laid, laid_over, in_order}
use Rattle.readers.specs.LaidLaws.{length-laid, list_there, in_order_there, in_order_more, true_in_order}
use Rattle.readers.specs.Incidences.{incidences, entries_of}
use Rattle.readers.specs.Planned as reading
use Rattle.readers.specs.Readers.{readers_of}
use Rattle.readers.specs.AtomNodes.{atom_nodes_of}
use Rattle.readers.specs.ReaderTable.{list_of, slots, reader_words, built}
use Rattle.readers.proofs.Few.{lists_room}
use Rattle.readers.proofs.Readers.{lists_laid}
use Rattle.plan.specs.Buffers.{short_buffer, LongEnough, long_enough}
use Rattle.theory.specs.LimitsLaws.{within_limits}
use Rattle.plan.specs.Judged.{classes, judged, derived, acyclic, plan_judged, certify_judged}
use Rattle.plan.specs.Outcome.{producers_of, planned, ranks_of, lengths, plan_outcome, certify_outcome}
use Rattle.plan.specs.Written.{written-planned}
use Rattle.plan.specs.declared.Lengths.{Lengths}
use Rattle.kept.specs.Tables.{between, list_at}
use Rattle.kept.specs.Planned.{PlannedTables}
use Rattle.series.specs.Lent.{lent}

between_there : (most : ℕ) (words : List ℕ) (s : ℕ) → in_order words most s ≡ true → between most words (get_or words s 0) (get_or words (s + 1) 0) ≡ Some (laying.list_at words s)
unfolding between in_order laying.list_at
between_there most words s e = rw e

module _ (t : Counts) (nodes operands roots ps rs us ws : List ℕ) where
  abbrev lengths_of : Lengths
  lengths_of = lengths t nodes operands roots ps rs us ws

  abbrev classes_of : List ℕ
  classes_of = classes t nodes operands roots

  abbrev made : List Producer
  made = producers_of t nodes operands roots

  abbrev written : List ℕ
  written = front (producer_words made) ps

  abbrev table : List ℕ
  table = built t nodes operands roots written (length made) us

  abbrev lists : ℕ → List ℕ
  lists s = list_of t nodes operands roots written (length made) s

  module _ (j : judged t nodes operands roots lengths_of ≡ admitted) where
    limits : limits_of t ≡ admitted
    unfolding judged
    limits = or_else_left _ _ j

    buffers : short_buffer t lengths_of ≡ admitted
    unfolding judged
    buffers = or_else_left _ _ (or-else-right (limits_of t) _ j)

    entered : admission t nodes operands roots ≡ admitted
    unfolding judged
    entered = or_else_left _ _ (or-else-right (short_buffer t lengths_of) _ (or-else-right (limits_of t) _ j))

    pub supported : roots_supported t nodes operands classes_of roots ≡ admitted
    unfolding judged
    supported = or-else-right (admission t nodes operands roots) _ (or-else-right (short_buffer t lengths_of) _ (or-else-right (limits_of t) _ j))

    limited : Limited t
    limited = within_limits t limits

    long : LongEnough t lengths_of
    long = long_enough t lengths_of buffers

    pub well : WellFormed t nodes operands roots
    well = admitted_formed t nodes operands roots entered

    pub tables : NodeTables t nodes operands
    tables = record { nodes_long = long.nodes_long; operands_long = long.operands_long; formed = well.node }

    listed : RootTable t roots
    listed = record { roots_long = long.roots_long; in_nodes = well.root }

    pub classed : Classed t nodes operands classes_of
    classed = record { word = λ k l. refl }

    few : length made ≤ t.roots
    unfolding producers_before
    few = omega (arith, few-producers nodes operands classes_of (take t.roots roots), length-take-le t.roots roots long.roots_long)

    same_long : length written ≡ length ps
    same_long = length_of_front (producer_words made) ps (omega (arith, length-words made, few, long.producers_long))

    readable : reading.Planned t nodes operands roots written (length made)
    readable = written-planned t nodes operands classes_of roots ps limited tables listed long.producers_long (length made) written refl same_long refl

    -- ---- the lists of the reader table

    room : start_of lists (slots t) (slots t) ≤ reader_words t
    room =
        omega (
          arith,
          length-laid lists (slots t),
          ap length (lists_laid t nodes operands roots written (length made) readable),
          length-laid (λ s. entries_of s (incidences t nodes operands roots written (length made))) (slots t),
          lists_room t nodes operands roots written (length made) readable,
        )

    laid_there : table ≡ laid lists (slots t) ++ drop (length (laid lists (slots t))) us
    unfolding built laid_over
    laid_there = refl

    list_is : (s : ℕ) → s < slots t → between (reader_words t) table (get_or table s 0) (get_or table (s + 1) 0) ≡ Some (lists s)
    list_is s l =
        between_there (reader_words t) table s
        (true_in_order table (reader_words t) s (in_order_more table (start_of lists (slots t) (slots t)) (reader_words t) s room (in_order_there lists (slots t) table _ laid_there s l)))
        ∙ ap Some (list_there lists (slots t) table _ laid_there s l)

    node_list_lem : (k : ℕ) → k < t.nodes → lists k ≡ readers_of t nodes operands roots written (length made) k
    unfolding list_of
    node_list_lem k l = rw (lt-ltb k t.nodes l)

    atom_list : (a : ℕ) → lists (t.nodes + 1 + a) ≡ atom_nodes_of t nodes a
    unfolding list_of
    atom_list a =
        let e : t.nodes + 1 + a - (t.nodes + 1) ≡ a = omega arith in
        rw (le-ltb (t.nodes + 1 + a) t.nodes (omega arith), lt-ltb t.nodes (t.nodes + 1 + a) (omega arith), e)

    -- ---- the tables

    words_there : take (4 * length made) written ≡ producer_words made
    unfolding front
    words_there = ap (λ n. take n (producer_words made ++ drop (length (producer_words made)) ps)) (sym (length-words made)) ∙ take-append_seam (producer_words made) _

    planned-by : (ranked : List ℕ) → rank_check t nodes operands classes_of roots ranked ≡ admitted
        → PlannedTables (lent t nodes operands roots (length made) (planned t nodes operands roots ps rs us ws admitted ranked))
    unfolding planned list_at producers_before
    planned-by ranked accepted =
        record {
          limited = limited;
          node_tables = tables;
          root_table = listed;
          supported = supported;
          made = refl;
          producer_words_lem = words_there;
          readers = λ k l. list_is k (omega arith) ∙ ap Some (node_list_lem k l);
          atom_nodes = λ a l. list_is (t.nodes + 1 + a) (omega arith) ∙ ap Some (atom_list a);
          ranks = λ a. get_or ranked a 0;
          ranked = paper.planned t nodes operands classes_of roots well tables listed classed supported ranked accepted;
          stamp = refl;
        }

    -- derived ranks are accepted
    accepted_derived : (d : Derived) → derived t nodes operands roots ≡ d → acyclic t nodes operands roots d ≡ admitted
        → rank_check t nodes operands classes_of roots (ranks_of t nodes operands roots d) ≡ admitted
    unfolding derived
    accepted_derived (ranks found) q c = derived_accepted t nodes operands classes_of roots well tables classed found q
    accepted_derived (cycle a) q c = absurd (not_both _ c)

  -- an answer with producers is an admission
  pub answered : (p : ℕ) (j : Admission) (ranked : List ℕ) → (planned t nodes operands roots ps rs us ws j ranked).answer ≡ Ok p → (j ≡ admitted) × (length made ≡ p)
  unfolding planned
  answered p (Ok u) ranked e = (refl, cc)
  answered p (Err r) ranked e = (cc, cc)

  pub certify-planned : (proposed : List ℕ) (p : ℕ) → (certify_outcome t nodes operands roots proposed ps rs us ws).answer ≡ Ok p
      → PlannedTables (lent t nodes operands roots p (certify_outcome t nodes operands roots proposed ps rs us ws))
  unfolding certify_outcome certify_judged
  certify-planned proposed p e =
      let a = answered p _ proposed e in
      rw (a.0, ← a.1) (planned-by (or_else_left (judged t nodes operands roots lengths_of) _ a.0) proposed (or-else-right (judged t nodes operands roots lengths_of) _ a.0))

  pub plan-planned : (p : ℕ) → (plan_outcome t nodes operands roots ps rs us ws).answer ≡ Ok p
      → PlannedTables (lent t nodes operands roots p (plan_outcome t nodes operands roots ps rs us ws))
  unfolding plan_outcome plan_judged
  plan-planned p e =
      let a = answered p _ _ e in
      let j = or_else_left (judged t nodes operands roots lengths_of) _ a.0 in
      rw (a.0, ← a.1) (planned-by j _ (accepted_derived j (derived t nodes operands roots) refl (or-else-right (judged t nodes operands roots lengths_of) _ a.0)))
