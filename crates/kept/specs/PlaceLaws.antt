-- The places below n, with n added at the end.
-- Assumes nothing.
use Rattle.std.specs.Prelude.{ℕ, suc, ◌≡◌, Bool, true, false, [], ◌∷◌, ◌++◌}
use Rattle.std.proofs.Common.{zero-add, add-one, ap, sym, ◌∙◌, append-nil}
use Rattle.base.specs.Places.{places, places-yes, places_no, places-split}

module _ (p : ℕ → Bool) (n : ℕ) where
  last : places p 0 (suc n) ≡ places p 0 n ++ places p n 1
  last = ap (places p 0) (sym (add-one n)) ∙ places-split p 0 n 1 ∙ ap (λ m. places p 0 n ++ places p m 1) (zero-add n)

  pub last_yes : p n ≡ true → places p 0 (suc n) ≡ places p 0 n ++ (n ∷ [])
  unfolding places
  last_yes e = last ∙ rw (places-yes p n 0 e)

  pub last_no : p n ≡ false → places p 0 (suc n) ≡ places p 0 n
  unfolding places
  last_no e = last ∙ rw (places_no p n 0 e, append-nil)
