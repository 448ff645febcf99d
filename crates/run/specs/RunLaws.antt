-- The text copied to the output, and what a run leaves at each exit.
-- Assumes nothing.
use Rattle.std.specs.Prelude.{ℕ, ◌+◌, ◌<◌, ◌≤◌, ◌≡◌, refl, List, [], ◌∷◌, ◌++◌, length, get_or, set, take, drop}
use Rattle.std.proofs.Common.{add-one, arith, sym, ap, ◌∙◌, append_assoc, take-suc, drop-cons, length-take-le, take_all, take_at}
use Rattle.std.proofs.Math.Seq.{take-nil}
use Rattle.std.proofs.lemmas.List.{set_at}
use borrow.Author.Tests.{le-leb, lt-leb}
use Rattle.text.specs.Clip.{clip, Put}
use Rattle.run.specs.Text.{text_of}
use Rattle.run.specs.Run.{running, run_of}

-- ---- the copy

pub copy_more : (out₀ source out : List ℕ) (i : ℕ) → i < length out₀ → i < length source → out ≡ take i source ++ drop i out₀
    → set out i (get_or source i 0) ≡ take (i + 1) source ++ drop (i + 1) out₀
copy_more out₀ source out i h l e =
    ap (λ o. set o i (get_or source i 0)) (e ∙ ap (λ d. take i source ++ d) (drop-cons out₀ i 0 h))
    ∙ set_at (take i source) (get_or out₀ i 0) _ (get_or source i 0) i (length-take-le i source (omega arith))
    ∙ sym (append_assoc (take i source) (get_or source i 0 ∷ []) _)
    ∙ rw (add-one, take-suc source i 0 l)

-- ---- a text put at the front

clip_none : (ws : List ℕ) → ws ≡ clip ws []
unfolding clip
clip_none ws = ap (λ l. l ++ ws) (sym (take-nil (length ws)))

-- a text that fits is whole
pub put_whole : (ws text after : List ℕ) (n : ℕ) → Put ws 0 text n after → n ≤ length ws → after ≡ text ++ drop n ws
unfolding clip
put_whole ws text after n p h =
    let e : length text ≡ n = omega (arith, p.on) in
    p.put ws [] (clip_none ws) refl
    ∙ ap (λ l. l ++ drop (length text) ws) (take_all (length ws) text (omega arith))
    ∙ ap (λ k. text ++ drop k ws) e

module _ (file out : List ℕ) where
  -- it does not fit
  pub run_none : (ws after : List ℕ) (n : ℕ) → Put ws 0 (text_of file) n after → length out < n → running 0 out ≡ run_of file out
  unfolding run_of
  run_none ws after n p h = rw (lt-leb (length (text_of file)) (length out) (omega (arith, p.on)))

  module _ (n : ℕ) (h : n ≤ length out) where
    run_whole : length (text_of file) ≡ n → running n (text_of file ++ drop n out) ≡ run_of file out
    unfolding run_of
    run_whole e = rw (← e, le-leb (length (text_of file)) (length out) (omega arith))

    -- copied from a buffer that is long enough
    pub run_copied : (ws buffer after : List ℕ) → n ≤ length ws → Put ws 0 (text_of file) n buffer → after ≡ take n buffer ++ drop n out
        → running n after ≡ run_of file out
    run_copied ws buffer after l p q =
        let e : length (text_of file) ≡ n = omega (arith, p.on) in
        ap (running n) (q ∙ ap (λ x. x ++ drop n out) (ap (take n) (put_whole ws (text_of file) buffer n p l) ∙ take_at (text_of file) (drop n ws) n e))
        ∙ run_whole e

    pub run_written : (after : List ℕ) → Put out 0 (text_of file) n after → running n after ≡ run_of file out
    run_written after p =
        let e : length (text_of file) ≡ n = omega (arith, p.on) in
        ap (running n) (put_whole out (text_of file) after n p h) ∙ run_whole e
