-- What `load` writes is admitted by `theory` and within the limits: planning a loaded file refuses none of 3, 1, 6, 4, 5, 7.
-- Assumes nothing.
use Rattle.std.specs.Prelude.{Ok, Err}
use Prim.Native.Nat.{ℕ}
use native.Mathlib.Omega.{arith}
use mathlib.Core.Path.{◌≡◌, refl, sym, ap, ◌∙◌}
use mathlib.Core.Bool.{false≢true}
use mathlib.Core.List.{List, ◌++◌}
use lib.ListN.{length, length-append}
use Rattle.theory.specs.Admission.{span_start, admission, admitted as accepted}
use Rattle.theory.specs.Limits.{limits_of}
use Rattle.theory.specs.LimitsLaws.{limited_admitted}
use Rattle.theory.specs.declared.Refusal.{Refusal}
use Rattle.theory.proofs.Admitted.{formed_admitted}
use Rattle.record.specs.Mark.{mark_at}
use Rattle.record.specs.Layout.{record_end, value_count, values_of}
use Rattle.record.specs.Passed.{counts_after}
use Rattle.record.specs.Record.{judged}
use Rattle.record.specs.Contents.{Contents, nothing, joined, of_next}
use Rattle.record.specs.File.{File, sound, refused, start, theory_file}
use Rattle.record.specs.declared.Stage.{Stage}
use Rattle.record.specs.declared.Cursor.{Cursor}
use Rattle.record.specs.declared.Mark.{Mark}
use Rattle.record.specs.declared.Summary.{Summary}
use Rattle.record.proofs.Laws.{length_numbers}
use Rattle.record.proofs.Steps.{next_passed, passed_fields, begun, fixed_least}
use Rattle.record.proofs.Judging.{read_keeps, sound-limited}
use Rattle.load.specs.Tables.{Tables, over, holding}
use Rattle.load.specs.Loading.{loading, loading_sound, outcome}
use Rattle.load.proofs.Loads.{Loads, nodes_short, operands_short, roots_short, all_long, loads}
use Rattle.load.proofs.Laws.{sizes}
use Rattle.load.proofs.Formed.{Formed, record_formed, formed_extends}

pub length-values : (file : List ℕ) (at : ℕ) (mark : Mark) → length (values_of file at mark) ≡ value_count file at mark
unfolding values_of
length-values file at mark = length_numbers file _ (value_count file at mark)

FormedAt : Cursor → Contents → Type 0
FormedAt c t = Formed c.stage c.counts t.nodes t.operands t.roots

formed_next : (file : List ℕ) (c next : Cursor) (t : Contents) → judged file c ≡ Ok next → FormedAt c t → FormedAt next (joined t (of_next file c))
unfolding FormedAt of_next
formed_next file c next t e f = go (mark_at file c.at) refl
  where
    go : (mark : Mark) → mark_at file c.at ≡ mark → FormedAt next (joined t (of_next file c))
    go mark q =
        let p = next_passed file c next e in
        let vs = values_of file c.at mark in
        let z = (passed_fields c mark (counts_after c.counts mark vs) (record_end file c.at mark)).2 in
        let s = sizes c.counts c.counts.operands mark vs in
        let g = record_formed c next vs t.nodes t.operands t.roots f mark (rw q at p.ordered) (rw q at p.values) (omega (arith, length-values file c.at mark, fixed_least file c.at mark)) in
        rw (p.next_is, q)
        (record {
          nodes_long = rw (z, length-append) (omega (arith, s.0, f.nodes_long));
          operands_long = rw (z, length-append) (omega (arith, s.1, f.operands_long));
          roots_long = rw (z, length-append) (omega (arith, s.2, f.roots_long));
          formed = rw z g.0;
          ends = rw z g.1;
          blank = λ h. absurd (false≢true (sym (begun c mark _ _ (rw q at p.ordered)) ∙ h));
        })

formed_start : FormedAt start nothing
unfolding FormedAt span_start
formed_start =
    record {
      nodes_long = refl;
      operands_long = refl;
      roots_long = refl;
      formed = record { node = λ k h. absurd (omega arith); root = λ i h. absurd (omega arith) };
      ends = refl;
      blank = λ h. (refl, refl);
    }

module _ (file : List ℕ) (s : Summary) (t : Contents) (e : theory_file file ≡ sound s t) where
  pub formed_whole : (stage : Stage) × Formed stage s.counts t.nodes t.operands t.roots
  unfolding theory_file FormedAt
  formed_whole =
      let k = read_keeps file FormedAt (formed_next file) s t start nothing (length file) formed_start e in
      (k.0.stage, rw (ap (λ q. q.counts) k.2) at k.1)

  -- whatever stands behind the contents in the lent tables
  pub contents_admitted : (ns os rs : List ℕ) → admission s.counts (t.nodes ++ ns) (t.operands ++ os) (t.roots ++ rs) ≡ accepted
  contents_admitted ns os rs =
      let f = formed_whole.1 in
      formed_admitted s.counts (t.nodes ++ ns) (t.operands ++ os) (t.roots ++ rs)
      (formed_extends s.counts s.counts t.nodes ns t.operands os t.roots rs refl (omega arith) (omega arith) f.nodes_long f.operands_long f.roots_long f.formed
      (λ k l h. absurd (omega arith)) (λ i l h. absurd (omega arith)))

  pub contents_within : limits_of s.counts ≡ accepted
  contents_within = limited_admitted s.counts (sound-limited file s t e)

-- ---- the tables that `load` leaves

pub record Plannable (s : Summary) (b : Tables) : Type 0 where
  pub within : limits_of s.counts ≡ accepted
  pub admitted : admission s.counts b.nodes b.operands b.roots ≡ accepted

pub loaded_sound : (s x : Summary) (t : Contents) (b : Tables) → (loading_sound x t b).answer ≡ Ok s → (x ≡ s) × ((loading_sound x t b).left ≡ holding t b)
loaded_sound s x t b e = go (loads x t b)
  where
    no : (r : Refusal) → loading_sound x t b ≡ outcome (Err r) b → ⊥
    no r q = let f : Err r ≡ Ok s = sym (ap (λ o. o.answer) q) ∙ e in let z : ◌≡◌ {A = ℕ} 0 1 = cc in omega arith

    go : Loads x t b → (x ≡ s) × ((loading_sound x t b).left ≡ holding t b)
    go (nodes_short n q) = absurd (no _ q)
    go (operands_short n o q) = absurd (no _ q)
    go (roots_short n o r q) = absurd (no _ q)
    go (all_long l q) = let f : Ok x ≡ Ok s = sym (ap (λ o. o.answer) q) ∙ e in (cc, ap (λ o. o.left) q)

holding_plannable : (file : List ℕ) (s x : Summary) (t : Contents) (b left : Tables) → theory_file file ≡ sound x t → (x ≡ s) × (left ≡ holding t b) → Plannable s left
unfolding over
holding_plannable file s x t b left q l =
    let e : theory_file file ≡ sound s t = q ∙ ap (λ y. sound y t) l.0 in
    rw l.1 (record { within = contents_within file s t e; admitted = contents_admitted file s t e _ _ _ })

pub loaded_plannable : (file : List ℕ) (s : Summary) (b : Tables) → (loading (theory_file file) b).answer ≡ Ok s → Plannable s (loading (theory_file file) b).left
unfolding loading
loaded_plannable file s b = go (theory_file file) refl
  where
    go : (f : File) → theory_file file ≡ f → (loading f b).answer ≡ Ok s → Plannable s (loading f b).left
    go (refused r) q h = let z : ◌≡◌ {A = ℕ} 0 1 = cc in absurd (omega arith)
    go (sound x t) q h = holding_plannable file s x t b (loading_sound x t b).left q (loaded_sound s x t b h)
