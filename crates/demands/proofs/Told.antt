-- From the bytes of a file to Ferraris: what the text of a run tells, for every list of bytes.
-- Assumes nothing.
use Rattle.std.specs.Prelude.{Ok, Err, None, Result}
use Prim.Native.Nat.{ℕ, suc, ◌+◌, ◌*◌, ◌<◌, ◌≤◌}
use native.Mathlib.Omega.{arith}
use mathlib.Core.Path.{◌≡◌, refl, sym, ap, subst, ◌∙◌}
use mathlib.Core.Logic.{⊎_elim}
use mathlib.Core.Bool.{true, false≢true}
use mathlib.Core.List.{List, [], ◌++◌, map}
use lib.ListN.{length, get_or, take, drop, replicate, length-replicate, length-append, length-drop}
use borrow.Author.Tests.{le-ltb}
use Rattle.base.specs.Tests.{below_or}
use Rattle.base.specs.Front.{front}
use Rattle.formula.specs.Satisfaction.{Interpretation}
use Rattle.formula.specs.Removable.{LowestRemovable}
use Rattle.theory.specs.Admission.{all_below, Admission, admitted}
use Rattle.theory.specs.Limits.{Lent}
use Rattle.theory.specs.NodeFormula.{theory_of}
use Rattle.theory.specs.declared.Counts.{Counts}
use Rattle.theory.specs.declared.Refusal.{Refusal}
use Rattle.theory.specs.declared.Refusal.TheVariants.{ShortBuffer}
use Rattle.record.specs.Contents.{Contents}
use Rattle.record.specs.File.{File, sound, refused, theory_file, verdict}
use Rattle.record.specs.declared.Summary.{Summary}
use Rattle.encoding.specs.Value.{TheoryFile}
use Rattle.encoding.specs.Held.{contents_of, counts_of, summary_of}
use Rattle.encoding.specs.Sound.{Below}
use Rattle.encoding.specs.Theory.{theory}
use Rattle.encoding.proofs.Encoding.{read_encoded, sound-encoded}
use Rattle.encoding.proofs.Theory.{roots_held, root_formulas_held}
use Rattle.load.specs.Candidate.{among}
use Rattle.record.proofs.Refused.{file_refusal}
use Rattle.load.specs.Tables as tables
use Rattle.load.specs.Tables.{over}
use Rattle.load.specs.Loading as loading
use Rattle.load.specs.Loading.{loading, loading_sound}
use Rattle.load.proofs.Loads as ways
use Rattle.load.proofs.Admitted.{loaded_sound, loaded_plannable}
use Rattle.load.proofs.Theory.{loaded_theory}
use Rattle.readers.specs.Laid.{laid, laid_over}
use Rattle.readers.specs.ReaderTable.{built, list_of, slots}
use Rattle.plan.specs.Buffers.{readers_length, work_length, short_buffer}
use Rattle.plan.specs.Judged.{derived, plan_judged}
use Rattle.plan.specs.Outcome.{plan_outcome, planned, ranks_of, lengths}
use Rattle.kept.specs.Planned.{PlannedTables}
use Rattle.kept.specs.Tables.{Tables, atom_count}
use Rattle.kept.specs.Verdict.{Verdict}
use Rattle.kept.specs.Decides.{Decides, DecidesTheory}
use Rattle.kept.specs.Outcome.{Answer, accepted, refused as kept-refused}
use Rattle.kept.specs.Tests.{tests}
use Rattle.kept.specs.Series.{answer_to, is_accepted, last_accepted, SeriesCheck}
use Rattle.series.proofs.Planned.{plan-planned}
use Rattle.text.specs.Lines.{theory_line, ranks_line, refused_line}
use Rattle.run.specs.Text.{candidate_of, check_line, own_plan, own_tables, candidates_of, candidates_in, text_of}
use Rattle.run.specs.Planned.{tables_loaded, plan_made, tables_lent, PlannedFile, words_lent}
use Rattle.run.specs.TextLaws.{loaded_own, too_many_atoms, load_refused, plan_refused, load-sound, file_sound, file_refused, too_long as too-long-text}
use Rattle.run.specs.CheckLaws.{file_candidates}
use Rattle.run.proofs.Demand3.{run_text, run_check}
use Rattle.demands.specs.Told.{Encodes, LineTells, Unplannable, Told, too_long, unsound, many_atoms, many_nodes, many_operands, many_roots, unplanned, judged}
use Rattle.demands.proofs.Unplannable.{unplannable}
use Rattle.demands.proofs.Candidates as candidates
use Rattle.demands.proofs.Candidates.{atoms_are, passes}
use Rattle.demands.proofs.Lines.{lines_of, flat_lines, length-lines, line_at, parts_at, length_series}

-- ---- the buffers that a plan leaves are as long as they were lent

over_long : (xs ws : List ℕ) → length ws ≤ length (xs ++ drop (length xs) ws)
over_long xs ws = omega (arith, length-append xs (drop (length xs) ws), length-drop (length xs) ws)

front_long : (xs ws : List ℕ) → length ws ≤ length (front xs ws)
unfolding front
front_long xs ws = over_long xs ws

built_long : (t : Counts) (nodes operands roots producers : List ℕ) (p : ℕ) (us : List ℕ) → length us ≤ length (built t nodes operands roots producers p us)
unfolding built laid_over
built_long t nodes operands roots producers p us = over_long (laid (list_of t nodes operands roots producers p) (slots t)) us

plan_long : (t : Counts) (nodes operands roots ps rs us ws : List ℕ)
    → (length ps ≤ length (plan_outcome t nodes operands roots ps rs us ws).producers) × (length us ≤ length (plan_outcome t nodes operands roots ps rs us ws).readers)
unfolding plan_outcome planned
plan_long t nodes operands roots ps rs us ws = go (plan_judged t nodes operands roots (lengths t nodes operands roots ps rs us ws))
  where
    go : (a : Admission) → (length ps ≤ length (planned t nodes operands roots ps rs us ws a (ranks_of t nodes operands roots (derived t nodes operands roots))).producers)
        × (length us ≤ length (planned t nodes operands roots ps rs us ws a (ranks_of t nodes operands roots (derived t nodes operands roots))).readers)
    go (Ok u) = (front_long _ ps, built_long t nodes operands roots _ _ us)
    go (Err r) = (omega arith, omega arith)

-- ---- a file that encodes a sound theory

module _ (file : List ℕ) (f : TheoryFile) (enc : Encodes file f) where
  abbrev s : Summary
  s = summary_of f

  abbrev t : Contents
  t = contents_of f

  holds : theory_file file ≡ sound s t
  holds = sym (ap theory_file enc.bytes) ∙ read_encoded f enc.sound

  sounds : verdict (theory_file file) ≡ Ok s
  unfolding verdict
  sounds = ap verdict holds

  candidates_are : candidates_in file ≡ f.candidates
  unfolding candidates_of contents_of
  candidates_are = ap candidates_of holds

  -- ---- its theory is loaded

  module _ (few : s.counts.atoms ≤ 512) (held : (loading (theory_file file) own_tables).answer ≡ Ok s) where
    abbrev loaded_tables : tables.Tables
    loaded_tables = tables_loaded file

    loaded_are : loaded_tables ≡ tables.holding t own_tables
    unfolding loading
    loaded_are = ap (λ g. (loading g own_tables).left) holds ∙ (loaded_sound s s t own_tables (sym (ap (λ g. (loading g own_tables).answer) holds) ∙ held)).1

    -- the run's own tables have room for the theory
    room : Lent s.counts 3072 1024 512
    room =
        let own = (loaded_own (theory_file file) s s own_tables sounds held).1 in
        record {
          nodes_long = omega (arith, own.nodes_long, length-replicate {A = ℕ} 3072 0);
          operands_long = omega (arith, own.operands_long, length-replicate {A = ℕ} 1024 0);
          roots_long = omega (arith, own.roots_long, length-replicate {A = ℕ} 512 0);
        }

    loaded_long : (3072 ≤ length loaded_tables.nodes) × (1024 ≤ length loaded_tables.operands) × (512 ≤ length loaded_tables.roots)
    unfolding over
    loaded_long = rw loaded_are (
      omega (arith, over_long t.nodes (replicate 3072 0), length-replicate {A = ℕ} 3072 0),
      omega (arith, over_long t.operands (replicate 1024 0), length-replicate {A = ℕ} 1024 0),
      omega (arith, over_long t.roots (replicate 512 0), length-replicate {A = ℕ} 512 0),
    )

    -- no buffer of the plan is too short
    own_long : short_buffer s.counts (lengths s.counts loaded_tables.nodes loaded_tables.operands loaded_tables.roots (replicate 2048 0) (replicate 512 0) (replicate 6658 0) (replicate 15376 0)) ≡ admitted
    unfolding short_buffer
    own_long =
        rw (
          le-ltb (length loaded_tables.nodes) (3 * s.counts.nodes) (omega (arith, room.nodes_long, loaded_long.0)),
          le-ltb (length loaded_tables.operands) s.counts.operands (omega (arith, room.operands_long, loaded_long.1)),
          le-ltb (length loaded_tables.roots) s.counts.roots (omega (arith, room.roots_long, loaded_long.2)),
          le-ltb (length {A = ℕ} (replicate 2048 0)) (4 * s.counts.roots) (omega (arith, room.roots_long, length-replicate {A = ℕ} 2048 0)),
          le-ltb (length {A = ℕ} (replicate 512 0)) s.counts.atoms (omega (arith, few, length-replicate {A = ℕ} 512 0)),
          le-ltb (length {A = ℕ} (replicate 6658 0)) (readers_length s.counts) (omega (arith, few, room.nodes_long, room.operands_long, room.roots_long, length-replicate {A = ℕ} 6658 0)),
          le-ltb (length {A = ℕ} (replicate 15376 0)) (work_length s.counts) (omega (arith, few, room.nodes_long, room.operands_long, room.roots_long, length-replicate {A = ℕ} 15376 0)),
        )

    -- so its refusal is 10, 11 or 12
    plan_unplannable : (r : Refusal) → (plan_made file s).answer ≡ Err r → Unplannable r
    unfolding own_plan
    plan_unplannable r e =
        let w = loaded_plannable file s own_tables held in
        unplannable s.counts loaded_tables.nodes loaded_tables.operands loaded_tables.roots (replicate 2048 0) (replicate 512 0) (replicate 6658 0) (replicate 15376 0) w.within own_long w.admitted r e

  -- ---- its theory is planned

  module _ (p : ℕ) (made : PlannedFile file s p) where
    abbrev T : Tables
    T = tables_lent file s p

    abbrev cs : List (List ℕ)
    cs = candidates_in file

    -- what decides the theory in the tables decides that of the file
    of_file : (I : Interpretation) (v : Verdict) → DecidesTheory s.counts T.nodes T.operands T.roots I v → Decides f.roots (theory f) I v
    unfolding summary_of
    of_file I v d =
        let same = loaded_theory file s t own_tables holds made.loaded in
        rw (same.formulas, same.root_nodes, root_formulas_held f, roots_held f) at d

    shows_of_file : (I : Interpretation) (a : ℕ) → LowestRemovable I (theory_of s.counts T.nodes T.operands T.roots) a → LowestRemovable I (theory f) a
    unfolding summary_of
    shows_of_file I a w =
        let same = loaded_theory file s t own_tables holds made.loaded in
        rw (same.formulas, same.root_nodes, root_formulas_held f) at w

    lent : candidates.Lent T 4112
    unfolding own_plan
    lent =
        let plan : PlannedTables T = plan-planned s.counts (tables_loaded file).nodes (tables_loaded file).operands (tables_loaded file).roots _ _ _ _ p made.planned in
        let own = room made.few_atoms made.loaded in
        let wrote = plan_long s.counts (tables_loaded file).nodes (tables_loaded file).operands (tables_loaded file).roots (replicate 2048 0) (replicate 512 0) (replicate 6658 0) (replicate 15376 0) in
        record {
          within = (loaded_plannable file s own_tables made.loaded).within;
          nodes_long = plan.node_tables.nodes_long;
          operands_long = plan.node_tables.operands_long;
          roots_long = plan.root_table.roots_long;
          producers_long = omega (arith, wrote.0, own.roots_long, length-replicate {A = ℕ} 2048 0);
          readers_long = omega (arith, wrote.1, made.few_atoms, own.nodes_long, own.operands_long, own.roots_long, length-replicate {A = ℕ} 6658 0);
          kept_long = omega (arith, made.few_atoms, own.nodes_long, own.roots_long);
          stamp = refl;
        }

    abbrev lines : List (List ℕ)
    lines = lines_of T 0 cs (replicate 4112 0)

    module _ (i : ℕ) (h : i < length cs) where
      abbrev c : List ℕ
      c = get_or cs i []

      abbrev ws : List ℕ
      ws = words_lent T (replicate 4112 0) (take i cs)

      below : all_below (atom_count T) c ≡ true
      below =
          let k = file_candidates file s sounds in
          let l : i < s.candidates = omega (arith, k.so_many) in
          rw (k.holds i l) (k.stands i l).below

      check : SeriesCheck 64 8 T (replicate 4112 0) (last_accepted 64 8 T (replicate 4112 0) None (map (candidate_of T) (take i cs))) ws (candidate_of T c)
      check = run_check file s p made (take i cs) c (drop (suc i) cs) (parts_at cs i h)

      -- no check inside a run is refused
      pub never_refused : is_accepted (answer_to 64 8 T (candidate_of T c) ws) ≡ true
      never_refused =
          let size : length ws ≡ 4112 = length_series T (replicate 4112 0) (map (candidate_of T) (take i cs)) ∙ length-replicate {A = ℕ} 4112 0 in
          check.let_pass (ap (tests T (candidate_of T c)) size ∙ passes T c below 4112 lent)

      line_tells : LineTells f i c (get_or lines i [])
      unfolding check_line
      line_tells = go (answer_to 64 8 T (candidate_of T c) ws) refl
        where
          go : (a : Answer) → answer_to 64 8 T (candidate_of T c) ws ≡ a → LineTells f i c (get_or lines i [])
          go (accepted v n) e =
              record {
                verdict = v;
                nodes_gone_over = n;
                says = let z : 0 + i ≡ i = omega arith in line_at T 0 i cs (replicate 4112 0) h ∙ rw (z, e);
                decides = of_file (λ a. among a c) v
                    (subst (λ (I : Interpretation). DecidesTheory s.counts T.nodes T.operands T.roots I v) (atoms_are T c below) (check.decides v n e));
                residual_shows = λ a z.
                    shows_of_file (λ b. among b c) a
                    (subst (λ (I : Interpretation). LowestRemovable I (theory_of s.counts T.nodes T.operands T.roots) a) (atoms_are T c below) (check.residual_shows a n (e ∙ ap (λ x. accepted x n) z)));
              }
          go (kept-refused r) e = absurd (false≢true (sym (ap is_accepted e) ∙ never_refused))

    planned-told : Told file
    unfolding summary_of counts_of
    planned-told =
        judged f p lines enc made.planned
        (run_text file s p made ∙ ap (λ l. (theory_line s.counts p ++ ranks_line (take s.counts.atoms (plan_made file s).ranks)) ++ l) (flat_lines T 0 cs (replicate 4112 0)))
        (length-lines T 0 cs (replicate 4112 0) ∙ ap length candidates_are)
        (λ i h. subst (λ (x : List (List ℕ)). LineTells f i (get_or x i []) (get_or lines i [])) candidates_are (line_tells i (omega (arith, ap length candidates_are))))

  -- ---- whether it is

  by-plan : s.counts.atoms ≤ 512 → (loading (theory_file file) own_tables).answer ≡ Ok s → (a : Result ℕ Refusal) → (plan_made file s).answer ≡ a → Told file
  by-plan few l (Ok p) q = planned-told p (record { short = enc.short; sound = sounds; few_atoms = few; loaded = l; planned = q })
  by-plan few l (Err r) q =
      unplanned f r enc q (plan_unplannable few l r q)
      (sym (plan_refused s.counts (tables_loaded file).nodes (tables_loaded file).operands (tables_loaded file).roots (candidates_in file) _ _ _ _ _ refl r q
      ∙ load-sound (theory_file file) s sounds few _ _ refl s l ∙ file_sound file enc.short s sounds))

  by-load : s.counts.atoms ≤ 512 → (a : Result Summary Refusal) → (loading (theory_file file) own_tables).answer ≡ a → Told file
  unfolding loading summary_of counts_of
  by-load few (Ok x) l =
      let same : s ≡ x = (loaded_own (theory_file file) s x own_tables sounds l).0 in
      by-plan few (l ∙ ap Ok (sym same)) (plan_made file s).answer refl
  by-load few (Err r) l = go (ways.loads s t own_tables)
    where
      text : (k : ℕ) → loading_sound s t own_tables ≡ loading.outcome (Err (ShortBuffer k)) own_tables → text_of file ≡ refused_line (ShortBuffer k)
      text k q =
          let same : r ≡ ShortBuffer k = let f : Err r ≡ Err (ShortBuffer k) = sym l ∙ ap (λ g. (loading g own_tables).answer) holds ∙ ap (λ o. o.answer) q in cc in
          sym (load_refused (theory_file file) s sounds few _ _ refl r l ∙ file_sound file enc.short s sounds) ∙ ap refused_line same

      go : ways.Loads s t own_tables → Told file
      go (ways.nodes_short n q) = many_nodes f enc few (omega (arith, n, length-replicate {A = ℕ} 3072 0)) (text 1 q)
      go (ways.operands_short n o q) =
          many_operands f enc few (omega (arith, n, length-replicate {A = ℕ} 3072 0)) (omega (arith, o, length-replicate {A = ℕ} 1024 0)) (text 2 q)
      go (ways.roots_short n o m q) =
          many_roots f enc few (omega (arith, n, length-replicate {A = ℕ} 3072 0)) (omega (arith, o, length-replicate {A = ℕ} 1024 0)) (omega (arith, m, length-replicate {A = ℕ} 512 0)) (text 3 q)
      go (ways.all_long w q) =
          let f : Err r ≡ Ok s = sym l ∙ ap (λ g. (loading g own_tables).answer) holds ∙ ap (λ o. o.answer) q in
          let z : ◌≡◌ {A = ℕ} 0 1 = cc in absurd (omega arith)

  encoded-told : Told file
  unfolding summary_of counts_of
  encoded-told =
      ⊎_elim
      (λ many. many_atoms f enc many (sym (too_many_atoms (theory_file file) s sounds many ∙ file_sound file enc.short s sounds)))
      (λ few. by-load few (loading (theory_file file) own_tables).answer refl)
      (below_or 512 s.counts.atoms)

-- ---- any file

module _ (file : List ℕ) (bytes : Below 256 file) (short : length file ≤ 65536) where
  by_file : (g : File) → theory_file file ≡ g → Told file
  unfolding verdict
  by_file (sound s t) e =
      let w = sound-encoded file bytes s t e in
      encoded-told file w.0 (record { short = short; sound = w.1; bytes = w.2 })
  by_file (refused r) e =
      unsound r short
      (λ f sound-f q. let z : sound (summary_of f) (contents_of f) ≡ refused r = sym (read_encoded f sound-f) ∙ ap theory_file q ∙ e in let n : ◌≡◌ {A = ℕ} 0 1 = cc in omega arith)
      e (file_refusal r file e) (sym (file_refused file short r (ap verdict e)))

-- FROM BYTES TO FERRARIS
pub told : (file : List ℕ) → Below 256 file → Told file
told file bytes = ⊎_elim (λ l. too_long l (sym (too-long-text file l))) (λ l. by_file file bytes l (theory_file file) refl) (below_or 65536 (length file))
