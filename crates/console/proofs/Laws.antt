-- What is printed, by what a run answers.
-- Assumes nothing.
use Prim.Native.Nat.{ℕ, ◌≤◌}
use native.Mathlib.Omega.{arith}
use mathlib.Core.Path.{◌≡◌, refl, sym, ap, ◌∙◌}
use mathlib.Core.Bool.{Bool, true, false, cond}
use mathlib.Core.List.{List, ◌++◌}
use lib.Dec.{leb}
use lib.ListN.{length, take, drop}
use lib.Seq.{take_at}
use borrow.Author.Tests.{leb-true}
use Rattle.theory.specs.declared.Refusal.TheVariants.{ShortBuffer}
use Rattle.text.specs.Clip.{Put}
use Rattle.text.specs.Lines.{refused_line}
use Rattle.text.specs.LinesLaws.{length-refused-line}
use Rattle.run.specs.Text.{text_of}
use Rattle.run.specs.TextLaws.{text-some}
use Rattle.run.specs.Run.{running, run_of}
use Rattle.run.specs.RunLaws.{put_whole}
use Rattle.console.specs.Printed.{printed_of}

module _ (file out : List ℕ) (lent : length out ≡ 65536) (n : ℕ) (after : List ℕ) (ran : running n after ≡ run_of file out) where
  abbrev size : ℕ
  size = length (text_of file)

  -- the run, by whether the text fits
  fitting : leb size 65536 ≡ true → (n ≡ size) × (after ≡ text_of file ++ drop size out)
  unfolding run_of
  fitting e =
      let r : running n after ≡ running size (text_of file ++ drop size out) = ran ∙ rw (lent, e) in
      (ap (λ x. x.answer) r, ap (λ x. x.output) r)

  not_fitting : leb size 65536 ≡ false → n ≡ 0
  unfolding run_of
  not_fitting e = let r : running n after ≡ running 0 out = ran ∙ rw (lent, e) in ap (λ x. x.answer) r

  -- an answer that is not 0 is the text's length
  pub printed_text : (n ≡ 0 → ⊥) → (n ≤ 65536) × (take n after ≡ printed_of file)
  unfolding printed_of
  printed_text some = go (leb size 65536) refl
    where
      go : (b : Bool) → leb size 65536 ≡ b → (n ≤ 65536) × (take n after ≡ cond b (text_of file) (refused_line (ShortBuffer 9)))
      go true e =
          let f = fitting e in
          (omega (arith, f.0, leb-true size 65536 e), ap (take n) f.1 ∙ take_at (text_of file) (drop size out) n (sym f.0))
      go false e = absurd (some (not_fitting e))

  -- 0: the text is too long, and the refusal is put in its place
  pub printed_refusal : n ≡ 0 → length after ≡ 65536 → (r : ℕ) (left : List ℕ) → Put after 0 (refused_line (ShortBuffer 9)) r left → (r ≤ 65536) × (take r left ≡ printed_of file)
  unfolding printed_of
  printed_refusal none long r left p = go (leb size 65536) refl
    where
      short : r ≤ 65536
      short = omega (arith, p.on, length-refused-line (ShortBuffer 9))

      go : (b : Bool) → leb size 65536 ≡ b → (r ≤ 65536) × (take r left ≡ cond b (text_of file) (refused_line (ShortBuffer 9)))
      go true e = absurd (omega (arith, none, (fitting e).0, text-some file))
      go false e =
          let k : length (refused_line (ShortBuffer 9)) ≡ r = omega (arith, p.on) in
          (short, ap (take r) (put_whole after (refused_line (ShortBuffer 9)) left r p (omega (arith, short, long))) ∙ take_at (refused_line (ShortBuffer 9)) (drop r after) r k)
