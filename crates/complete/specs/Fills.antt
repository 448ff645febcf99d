-- A part of the words filled from its front: what a loop keeps.
-- Assumes nothing.
use Rattle.std.specs.Prelude.{ℕ, zero, suc, ◌<◌, ◌≤◌, ◌+◌, ◌≡◌, refl, List, ◌∷◌, length, get_or, set, drop, replicate}
use Rattle.std.proofs.Common.{add-one, arith, ap, sym, ◌∙◌, length-append, length-drop}
use Rattle.std.proofs.Math.ListN.{get_or-append}
use Rattle.kept.specs.Tabulate.{tabulate, tabulate_at, length-tabulate}
use Rattle.kept_laws.specs.Filling.{filled, filled_none, filled_all, filled_next}

pub tabulate-zero : (n : ℕ) → tabulate {A = ℕ} n (λ a. 0) ≡ replicate n 0
unfolding tabulate
tabulate-zero zero = refl
tabulate-zero (suc n) = ap (λ l. 0 ∷ l) (tabulate-zero n)

pub length-filled : {A : Type 0} (k : ℕ) (f : ℕ → A) (xs : List A) → k ≤ length xs → length (filled k f xs) ≡ length xs
unfolding filled
length-filled k f xs l = length-append (tabulate k f) (drop k xs) ∙ (omega (arith, length-tabulate k f, length-drop k xs))

pub filled_at : {A : Type 0} (k : ℕ) (f : ℕ → A) (xs : List A) (d : A) (o : ℕ) → o < k → get_or (filled k f xs) o d ≡ f o
unfolding filled
filled_at k f xs d o l = get_or-append (tabulate k f) (drop k xs) d o (omega (arith, length-tabulate k f)) ∙ tabulate_at k f d o l

module _ (f : ℕ → ℕ) (ds : List ℕ) where
  pub fill_none : ds ≡ filled 0 f ds
  fill_none = sym (filled_none f ds)

  pub fill_more : (xs : List ℕ) (i x : ℕ) → i < length ds → x ≡ f i → xs ≡ filled i f ds → set xs i x ≡ filled (i + 1) f ds
  fill_more xs i x l q e = rw (e, q, add-one i) (filled_next i f ds l)

  pub fill_done : (xs : List ℕ) (i : ℕ) → length ds ≤ i → i ≤ length ds → xs ≡ filled i f ds → xs ≡ tabulate (length ds) f
  fill_done xs i l m e = let p : i ≡ length ds = omega arith in e ∙ ap (λ n. filled n f ds) p ∙ filled_all (length ds) f ds refl
