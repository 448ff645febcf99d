-- Document 01's example: the lines of its checks C1 to C4 by the definitions, refusals among them; its tables are planned, so that demand 3 speaks of them.
-- Assumes nothing.
use Rattle.std.specs.Prelude.{Some}
use Prim.Native.Nat.{ℕ, zero, suc, ◌<◌, ◌+◌, ◌*◌, ◌^◌}
use native.Mathlib.Omega.{arith}
use mathlib.Core.Path.{◌≡◌, refl}
use mathlib.Core.List.{List, [], ◌∷◌, ◌++◌}
use lib.ListN.{get_or, replicate}
use Rattle.base.specs.Places.{places, count, lowest}
use Rattle.base.specs.Rising.{rising, extended}
use Rattle.formula.specs.Class.{class}
use Rattle.formula.specs.Formula.{of_list}
use Rattle.formula.specs.Rank.{highest}
use Rattle.theory.specs.Admission.{all_below, first_refusal, span_start}
use Rattle.theory.specs.Limits.{limits_of}
use Rattle.theory.specs.Node.{node_at, span, operands_of}
use Rattle.theory.specs.NodeClass.{joined, node_class, node_classes}
use Rattle.theory.specs.NodeFormula.{node_formula, node_formulas, formula}
use Rattle.theory.specs.NodeTruth.{all_true, any_true, node_truth, node_truths}
use Rattle.theory.specs.WellFormed.{NodeFormed}
use Rattle.theory.specs.declared.Refusal.TheVariants.{ForeignStamp, StrayBit, ShortBuffer, BadEntry}
use Rattle.compile.specs.ClassWord.{class_words}
use Rattle.compile.specs.Head as heads
use Rattle.compile.specs.Producer.{fact, rule, produced_by, produced}
use Rattle.compile.specs.Producers.{refused_by, supported_at, roots_supported, made_by, producers, producer_words}
use Rattle.compile.specs.Roots.{root_by, root_of, roots_of}
use Rattle.words.specs.Bit.{bit}
use Rattle.words.specs.Next.{next}
use Rattle.words.specs.Sets.{member, inserted, removed}
use Rattle.readers.specs.Joined as listing
use Rattle.readers.specs.Reader.{reading_of, packed}
use Rattle.readers.specs.Readers.{occurrences, reading_node, readers_of}
use Rattle.readers.specs.AtomNodes.{atom_nodes_of}
use Rattle.kept.specs.Tabulate.{tabulate}
use Rattle.kept.specs.SetOf.{set_of, all_inserted}
use Rattle.kept.specs.CountedSet.{counted_set, moved, with_bit, with_member, lookup}
use Rattle.kept.specs.Worklist.{behind, remembering, alone, before, with_node, filled, advanced, advance, sought_filled, far_next, next_filled, forgotten, without_first, but_lowest, worklist_of}
use Rattle.kept.specs.Tables.{Tables, operands_at, between, list_at}
use Rattle.kept.specs.Evaluation.{held, truth, body_true, supports, support, false_root, summary, fresh}
use Rattle.kept.specs.Verdict.{not_model, residual, stable, missing_atom, verdict, judged, verdict_of}
use Rattle.kept.specs.Seen.{group_seen, node_seen, seen_by}
use Rattle.kept.specs.Step.{entered, missing_by, support_moved, root_turned, reader_updated, readers_updated, settled, seen, step_at, step}
use Rattle.kept.specs.Start.{all_entered, atom_turned, atom_updated, walk_start}
use Rattle.kept.specs.Walk.{walk, kept_walk}
use Rattle.kept.specs.Check.{node_entry, producer_entry, root_entry, tables_admission, fresh_result, kept_result, changes, is_kept, result}
use Rattle.kept.specs.Layout.{flat, cut, image, of_words, written}
use Rattle.kept.specs.Candidate.{Candidate, atoms_of}
use Rattle.kept.specs.Tests.{first_short, stamps, stray_bit, tests}
use Rattle.kept.specs.Outcome.{Answer, accepted, refused, cleared, outcome_at, outcome}
use Rattle.kept.specs.Planned.{PlannedTables}
use Rattle.kept.specs.Series.{zeroed_words, answer_to, words_after, Demand3}
use Rattle.kept.proofs.Series.{series}

-- nodes Atom 0, Atom 1, Implies 0 1, False, Implies 0 3, Or 0 4; roots 5 and 2; a choice of atom 0, and atom 1 from node 0
abbrev tables_with : List ℕ → Tables
tables_with roots =
    record {
      counts = record { stamp = 7; atoms = 2; nodes = 6; operands = 2; roots = 2 };
      plan = 7;
      made = 2;
      nodes = 0 ∷ 0 ∷ 0 ∷ 0 ∷ 1 ∷ 0 ∷ 2 ∷ 0 ∷ 1 ∷ 1 ∷ 0 ∷ 0 ∷ 2 ∷ 0 ∷ 3 ∷ 4 ∷ 0 ∷ 2 ∷ [];
      operands = 0 ∷ 4 ∷ [];
      roots = roots;
      producers = 0 ∷ 0 ∷ 5 ∷ 1 ∷ 1 ∷ 1 ∷ 2 ∷ 0 ∷ [];
      readers =
          10 ∷ 14 ∷ 15 ∷ 16 ∷ 17 ∷ 18 ∷ 19 ∷ 19 ∷ 20 ∷ 21
          ∷ 2 ∷ 4 ∷ 5 ∷ (2 * 2 ^ 62 + 1) ∷ 2 ∷ (3 * 2 ^ 62 + 1) ∷ 4 ∷ 5 ∷ (3 * 2 ^ 62) ∷ 0 ∷ 1
          ∷ replicate 13 0;
    }

example_tables : Tables
example_tables = tables_with (5 ∷ 2 ∷ [])

-- the answers of a series
lines : Tables → List ℕ → List Candidate → List Answer
lines T ws [] = []
lines T ws (c ∷ cs) = answer_to 64 8 T c ws ∷ lines T (words_after 64 8 T c ws) cs

of : ℕ → ℕ → Candidate
of stamp word = record { stamp = stamp; words = word ∷ [] }

shown : List Answer
shown =
    lines example_tables (zeroed_words example_tables (9 ∷ []))
    (of 7 2 ∷ of 8 0 ∷ of 7 3 ∷ of 7 7 ∷ of 7 1 ∷ record { stamp = 7; words = [] } ∷ of 7 0 ∷ of 7 0 ∷ [])

-- held words whose false roots have position 9 of 2
spoilt : List ℕ
spoilt = (1 ∷ 7 ∷ 0 ∷ 1 ∷ 0 ∷ 6 ∷ 0 ∷ 0 ∷ []) ++ ((0 ∷ 0 ∷ 1 ∷ 0 ∷ 1 ∷ 1 ∷ []) ++ (0 ∷ 1 ∷ 0 ∷ 0 ∷ 0 ∷ 512 ∷ 0 ∷ []) ++ replicate 15 0 ++ (9 ∷ []))

-- held words with nodes 2 and 9 of 6 on the worklist
astray : List ℕ
astray = (1 ∷ 7 ∷ 0 ∷ 0 ∷ 1 ∷ 2 ∷ 0 ∷ 0 ∷ []) ++ ((0 ∷ 0 ∷ 1 ∷ 0 ∷ 1 ∷ 1 ∷ []) ++ (512 ∷ 1 ∷ 0 ∷ 0 ∷ 0 ∷ 0 ∷ 1 ∷ []) ++ replicate 15 0 ++ (9 ∷ []))

-- held words whose worklist has 9 of 6 as its first
beyond : List ℕ
beyond = (1 ∷ 7 ∷ 0 ∷ 0 ∷ 0 ∷ 9 ∷ 0 ∷ 0 ∷ []) ++ ((0 ∷ 0 ∷ 1 ∷ 0 ∷ 1 ∷ 1 ∷ []) ++ (0 ∷ 1 ∷ 0 ∷ 0 ∷ 0 ∷ 0 ∷ 0 ∷ []) ++ replicate 15 0 ++ (9 ∷ []))

-- the second root is no node
rootless : Tables
rootless = tables_with (5 ∷ 4294967295 ∷ [])

-- words that hold a check of {0}, which makes the second root false
held_zero : List ℕ
held_zero = words_after 64 8 example_tables (of 7 1) (zeroed_words example_tables (9 ∷ []))

-- C1 to C4, with refusals 15, 16 and 9 among them; and 17, after which every listed word is 0: of `beyond` if no atom changed, and if a node enters; of `rootless`, kept and fresh
example : (shown
    ≡ accepted (residual 1) 6 ∷ refused ForeignStamp ∷ accepted stable 4 ∷ refused (StrayBit 2) ∷ accepted (not_model 2) 2 ∷ refused (ShortBuffer 0) ∷ accepted stable 4 ∷ accepted stable 0 ∷ [])
    × (outcome 64 8 example_tables (of 7 0) spoilt ≡ record { answer = refused (BadEntry 0); words = replicate 36 0 ++ (9 ∷ []) })
    × (outcome 64 8 example_tables (of 7 0) astray ≡ record { answer = refused (BadEntry 0); words = replicate 36 0 ++ (9 ∷ []) })
    × (outcome 64 8 example_tables (of 7 0) beyond ≡ record { answer = refused (BadEntry 0); words = replicate 36 0 ++ (9 ∷ []) })
    × (outcome 64 8 example_tables (of 7 1) beyond ≡ record { answer = refused (BadEntry 0); words = replicate 36 0 ++ (9 ∷ []) })
    × (outcome 64 8 rootless (of 7 1) held_zero ≡ record { answer = refused (BadEntry 0); words = replicate 36 0 ++ (9 ∷ []) })
    × (outcome 64 8 rootless (of 7 1) (replicate 36 0 ++ (9 ∷ [])) ≡ record { answer = refused (BadEntry 0); words = replicate 36 0 ++ (9 ∷ []) })
unfolding shown rootless held_zero spoilt astray beyond lines of example_tables outcome outcome_at tests limits_of first_short stamps stray_bit atoms_of cleared written of_words image flat cut result is_kept changes kept_result fresh_result tables_admission node_entry producer_entry root_entry first_refusal kept_walk walk_start atom_updated atom_turned all_entered walk step step_at seen seen_by node_seen group_seen settled readers_updated reader_updated root_turned missing_by support_moved entered behind remembering alone before with_node filled advanced advance sought_filled far_next next_filled forgotten without_first but_lowest worklist_of verdict judged verdict_of missing_atom held truth body_true supports support false_root summary fresh operands_at between list_at reading_of set_of all_inserted counted_set moved with_bit with_member lookup tabulate member inserted removed next bit places count lowest node_at span operands_of node_truth node_truths all_true any_true all_below rising extended
example = (refl, refl, refl, refl, refl, refl, refl)

-- ---- the tables are planned

node_formed : (k : ℕ) → k < 6 → NodeFormed example_tables.counts example_tables.operands (span_start example_tables.nodes k) k (node_at example_tables.nodes k)
unfolding example_tables node_at span_start span
node_formed zero l = omega arith
node_formed (suc zero) l = omega arith
node_formed (suc (suc zero)) l = (omega arith, omega arith)
node_formed (suc (suc (suc zero))) l = tt
node_formed (suc (suc (suc (suc zero)))) l = (omega arith, omega arith)
node_formed (suc (suc (suc (suc (suc zero))))) l = record { begins = refl; some = omega arith; fits = omega arith; lower = (omega arith, (omega arith, tt)) }
node_formed (suc (suc (suc (suc (suc (suc k)))))) l = absurd (omega arith)

root_in : (r : ℕ) → r < 2 → get_or example_tables.roots r 0 < 6
unfolding example_tables
root_in zero l = omega arith
root_in (suc zero) l = omega arith
root_in (suc (suc r)) l = absurd (omega arith)

readers-listed : (k : ℕ) → k < 6 → list_at example_tables k ≡ Some (readers_of example_tables.counts example_tables.nodes example_tables.operands example_tables.roots example_tables.producers example_tables.made k)
unfolding example_tables list_at between readers_of listing.joined reading_node occurrences packed places node_at span operands_of
readers-listed zero l = refl
readers-listed (suc zero) l = refl
readers-listed (suc (suc zero)) l = refl
readers-listed (suc (suc (suc zero))) l = refl
readers-listed (suc (suc (suc (suc zero)))) l = refl
readers-listed (suc (suc (suc (suc (suc zero))))) l = refl
readers-listed (suc (suc (suc (suc (suc (suc k)))))) l = absurd (omega arith)

atoms_listed : (a : ℕ) → a < 2 → list_at example_tables (7 + a) ≡ Some (atom_nodes_of example_tables.counts example_tables.nodes a)
unfolding example_tables list_at between atom_nodes_of places node_at
atoms_listed zero l = refl
atoms_listed (suc zero) l = refl
atoms_listed (suc (suc a)) l = absurd (omega arith)

planned : PlannedTables example_tables
unfolding example_tables roots_supported first_refusal supported_at refused_by producers producer_words made_by produced produced_by fact rule heads.head_of heads.chosen heads.either_order class_words node_classes node_class joined roots_of root_of root_by formula node_formulas node_formula of_list class highest rising extended node_at span
planned =
    record {
      limited = record { atoms = omega arith; nodes = omega arith; operands = omega arith; roots = omega arith };
      node_tables = record { nodes_long = omega arith; operands_long = omega arith; formed = node_formed };
      root_table = record { roots_long = omega arith; in_nodes = root_in };
      supported = refl;
      made = refl;
      producer_words_lem = refl;
      readers = readers-listed;
      atom_nodes = atoms_listed;
      ranks = λ a. a;
      ranked = (tt, (record { clear = λ e. let z : ◌≡◌ {A = ℕ} 0 1 = cc in omega arith; lower = λ e. omega arith }, tt));
      stamp = refl;
    }

example_series : (past : List ℕ) (cs : List Candidate) → Demand3 64 8 example_tables past cs
example_series = series 64 8 example_tables planned
