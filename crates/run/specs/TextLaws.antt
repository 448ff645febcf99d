-- What the text is at each exit of a run.
-- Assumes nothing.
use Rattle.std.specs.Prelude.{ℕ, ◌<◌, ◌≤◌, ◌≡◌, Bool, true, false, cond, List, ◌++◌, ltb, length, take, replicate, Ok, Err, Result}
use Rattle.std.proofs.Common.{arith, ap, ◌∙◌, length-append, length-take, lt-ltb, le-ltb}
use Rattle.std.proofs.Math.Path.{sym}
use Rattle.theory.specs.Limits.{Lent}
use Rattle.theory.specs.declared.Counts.{Counts}
use Rattle.theory.specs.declared.Refusal.{Refusal}
use Rattle.theory.specs.declared.Refusal.TheVariants.{PastLimit, ShortBuffer}
use Rattle.record.specs.Contents.{Contents}
use Rattle.record.specs.File.{File, sound, refused, theory_file, verdict}
use Rattle.record.specs.declared.Summary.{Summary}
use Rattle.record.proofs.Judging.{contents_of, sound-is, refused_is}
use Rattle.load.specs.Loading as loading
use Rattle.load.specs.Loading.{loading, loading_sound}
use Rattle.load.specs.Tables as tables
use Rattle.load.proofs.Loads as ways
use Rattle.load.proofs.Admitted.{loaded_sound}
use Rattle.plan.specs.Outcome as planning
use Rattle.evaluate.specs.Checks.{tables_of}
use Rattle.text.specs.Lines.{theory_line, ranks_line, refused_line}
use Rattle.text.specs.LinesLaws.{length-theory_line, length-ranks_line}
use Rattle.run.specs.Text.{check_lines, own_plan, answered, planned_text, own_tables, loaded_text, candidates_of, sound_text, file_text, text_of}

-- ---- planning

pub length_head : (t : Counts) (p : ℕ) (ranks : List ℕ) → t.atoms ≤ 512 → length (theory_line t p ++ ranks_line (take t.atoms ranks)) ≤ 10958
length_head t p ranks h =
    simp length-append (omega (arith, length-theory_line t p, length-ranks_line (take t.atoms ranks), length-take t.atoms ranks))

module _ (t : Counts) (nodes operands roots : List ℕ) (cs : List (List ℕ)) (a : Result ℕ Refusal) (ps rs us ws : List ℕ)
    (e : planning.outcome a ps rs us ws ≡ own_plan t nodes operands roots) where
  pub plan_refused : (r : Refusal) → a ≡ Err r → refused_line r ≡ planned_text t nodes operands roots cs (own_plan t nodes operands roots)
  unfolding planned_text answered
  plan_refused r q = rw (← e, q)

  pub plan_accepted : (p : ℕ) → a ≡ Ok p
      → (theory_line t p ++ ranks_line (take t.atoms rs)) ++ check_lines (tables_of t (record { stamp = t.stamp; producers = p }) nodes operands roots ps us) 0 cs (replicate 4112 0)
      ≡ planned_text t nodes operands roots cs (own_plan t nodes operands roots)
  unfolding planned_text answered
  plan_accepted p q = rw (← e, q)

-- ---- loading

-- only a sound file is loaded: its own summary is told, and the tables are long enough
loaded_of : (s s' : Summary) (t : Contents) (b : tables.Tables) → (loading_sound s t b).answer ≡ Ok s'
    → (s ≡ s') × Lent s.counts (length b.nodes) (length b.operands) (length b.roots)
loaded_of s s' t b e = go (ways.loads s t b)
  where
    no : (r : Refusal) → loading_sound s t b ≡ loading.outcome (Err r) b → ⊥
    no r q = let f : Err r ≡ Ok s' = sym (ap (λ o. o.answer) q) ∙ e in let z : ◌≡◌ {A = ℕ} 0 1 = cc in omega arith

    go : ways.Loads s t b → (s ≡ s') × Lent s.counts (length b.nodes) (length b.operands) (length b.roots)
    go (ways.nodes_short n q) = absurd (no _ q)
    go (ways.operands_short n o q) = absurd (no _ q)
    go (ways.roots_short n o r q) = absurd (no _ q)
    go (ways.all_long l q) = ((loaded_sound s' s t b e).0, l)

pub loaded_own : (f : File) (s s' : Summary) (b : tables.Tables) → verdict f ≡ Ok s → (loading f b).answer ≡ Ok s'
    → (s ≡ s') × Lent s.counts (length b.nodes) (length b.operands) (length b.roots)
unfolding loading
loaded_own f s s' b e q = loaded_of s s' (contents_of f) b (ap (λ g. (loading g b).answer) (sym (sound-is f s e)) ∙ q)

module _ (f : File) (s : Summary) (sounds : verdict f ≡ Ok s) where
  pub too_many_atoms : 512 < s.counts.atoms → refused_line (ShortBuffer 0) ≡ sound_text s f
  unfolding sound_text
  too_many_atoms h = rw (lt-ltb 512 s.counts.atoms h)

  module _ (few : s.counts.atoms ≤ 512) (a : Result Summary Refusal) (b : tables.Tables) (e : loading.outcome a b ≡ loading f own_tables) where
    within : loaded_text (candidates_of f) (loading f own_tables).answer (loading f own_tables).left ≡ sound_text s f
    unfolding sound_text
    within = rw (le-ltb 512 s.counts.atoms few)

    pub load_refused : (r : Refusal) → a ≡ Err r → refused_line r ≡ sound_text s f
    unfolding loaded_text
    load_refused r q = rw (← e, q) at within

    pub load-sound : (s' : Summary) → a ≡ Ok s'
        → planned_text s.counts b.nodes b.operands b.roots (candidates_of f) (own_plan s.counts b.nodes b.operands b.roots) ≡ sound_text s f
    unfolding loaded_text
    load-sound s' q =
        rw (← e, q, ← (loaded_own f s s' own_tables sounds (sym (ap (λ o. o.answer) e) ∙ q)).0) at within

-- ---- the file

sound_of : (f : File) (s : Summary) → verdict f ≡ Ok s → sound_text s f ≡ file_text f
unfolding verdict file_text
sound_of (sound s' t) s e = let q : s ≡ s' = cc in rw q
sound_of (refused r) s e = let k : ◌≡◌ {A = ℕ} 0 1 = cc in absurd (omega arith)

module _ (file : List ℕ) where
  pub too_long : 65536 < length file → refused_line (PastLimit 65536) ≡ text_of file
  unfolding text_of
  too_long h = rw (lt-ltb 65536 (length file) h)

  module _ (short : length file ≤ 65536) where
    whole : file_text (theory_file file) ≡ text_of file
    unfolding text_of
    whole = rw (le-ltb 65536 (length file) short)

    pub file_refused : (r : Refusal) → verdict (theory_file file) ≡ Err r → refused_line r ≡ text_of file
    unfolding file_text
    file_refused r e = sym (ap file_text (refused_is (theory_file file) r e)) ∙ whole

    pub file_sound : (s : Summary) → verdict (theory_file file) ≡ Ok s → sound_text s (theory_file file) ≡ text_of file
    file_sound s e = sound_of (theory_file file) s e ∙ whole

-- ---- a text is never empty, so a run's answer of 0 says that it does not fit

refusal_some : (r : Refusal) → 0 < length (refused_line r)
unfolding refused_line
refusal_some r = omega arith

some_of : (b : Bool) (x y : List ℕ) → 0 < length x → 0 < length y → 0 < length (cond b x y)
some_of true x y p q = p
some_of false x y p q = q

answered-some : (t : Counts) (nodes operands roots : List ℕ) (cs : List (List ℕ)) (o : planning.Outcome) (a : Result ℕ Refusal)
    → 0 < length (answered t nodes operands roots cs o a)
unfolding answered theory_line
answered-some t nodes operands roots cs o (Ok p) = omega arith
answered-some t nodes operands roots cs o (Err r) = refusal_some r

loaded_some : (cs : List (List ℕ)) (a : Result Summary Refusal) (b : tables.Tables) → 0 < length (loaded_text cs a b)
unfolding loaded_text planned_text
loaded_some cs (Ok s) b = answered-some s.counts b.nodes b.operands b.roots cs (own_plan s.counts b.nodes b.operands b.roots) _
loaded_some cs (Err r) b = refusal_some r

sound-some : (s : Summary) (f : File) → 0 < length (sound_text s f)
unfolding sound_text
sound-some s f =
    some_of (ltb 512 s.counts.atoms) (refused_line (ShortBuffer 0)) (loaded_text (candidates_of f) (loading f own_tables).answer (loading f own_tables).left)
    (refusal_some (ShortBuffer 0)) (loaded_some (candidates_of f) (loading f own_tables).answer (loading f own_tables).left)

file_some : (f : File) → 0 < length (file_text f)
unfolding file_text
file_some (sound s t) = sound-some s (sound s t)
file_some (refused r) = refusal_some r

pub text-some : (file : List ℕ) → 0 < length (text_of file)
unfolding text_of
text-some file = some_of (ltb 65536 (length file)) (refused_line (PastLimit 65536)) (file_text (theory_file file)) (refusal_some (PastLimit 65536)) (file_some (theory_file file))
