-- A rising pass: a value for each number below n, made from the values of lower numbers.
-- Assumes nothing.
use Prim.Native.Nat.{ℕ, zero, suc, ◌+◌, ◌<◌, ◌≤◌}
use Rattle.std.proofs.Math.Numerals.{add-one}
use Rattle.std.proofs.Common.{arith, ap₂, ◌∙◌, drop-cons}
use Rattle.std.specs.Prelude.{◌≡◌, length}
use Rattle.std.proofs.Math.Path.{refl, ap, sym, fun_ext}
use Rattle.std.proofs.Math.Logic.{⊎_elim}
use mathlib.Core.List.{List, [], ◌∷◌, ◌++◌, map, map-append, append_assoc}
use Rattle.std.proofs.Math.ListN.{get_or, drop, set, length-append, get_or-append, get_or-map}
use Rattle.std.proofs.Math.Seq.{set_at, get_or_at}
use Rattle.base.specs.Tests.{equal_or}

-- d stands for the value of a number that has none yet
module _ {A : Type 0} (d : A) (make : (ℕ → A) → ℕ → A) where
  -- the values so far with that of k after them
  unfoldable pub extended : List A → ℕ → List A
  extended xs k = xs ++ (make (λ o. get_or xs o d) k ∷ [])

  -- the values of the numbers below n
  unfoldable pub rising : ℕ → List A
  rising zero = []
  rising (suc n) = extended (rising n) n

  pub length-rising : (n : ℕ) → length (rising n) ≡ n
  unfolding rising extended
  length-rising zero = refl
  length-rising (suc n) = length-append (rising n) _ ∙ ap (λ m. m + 1) (length-rising n) ∙ add-one n

  -- a value once made stays
  pub rising_stays : (n k o : ℕ) → k ≤ n → o < k → get_or (rising n) o d ≡ get_or (rising k) o d
  unfolding rising extended
  rising_stays zero k o h l = absurd (omega arith)
  rising_stays (suc n) k o h l = ⊎_elim (λ e. rw e) (λ ne. later (omega arith) (rising_stays n k o (omega arith) l)) (equal_or k (suc n))
    where
      later : k ≤ n → get_or (rising n) o d ≡ get_or (rising k) o d → get_or (rising (suc n)) o d ≡ get_or (rising k) o d
      later m ih = get_or-append (rising n) _ d o (omega (arith, length-rising n)) ∙ ih

  -- a value is made from those below it
  pub rising_at : (n k : ℕ) → k < n → get_or (rising n) k d ≡ make (λ o. get_or (rising k) o d) k
  unfolding rising extended
  rising_at n k h = rising_stays n (suc k) k (omega arith) (omega arith) ∙ get_or_at (rising k) _ [] d k (length-rising k)

  -- `make` at k goes by the values below k alone
  abbrev pub Local : ℕ → Type 0
  Local k = (f g : ℕ → A) → ((o : ℕ) → o < k → f o ≡ g o) → make f k ≡ make g k

  -- the equation that each value meets
  pub rising_step : (n k : ℕ) → k < n → Local k → get_or (rising n) k d ≡ make (λ o. get_or (rising n) o d) k
  rising_step n k h w = rising_at n k h ∙ w _ _ (λ o l. sym (rising_stays n k o (omega arith) l))

  -- whatever meets the equation is that value
  pub rising-only : (n : ℕ) → ((k : ℕ) → k < n → Local k) → (f : ℕ → A) → ((k : ℕ) → k < n → f k ≡ make f k) → (b k : ℕ) → k < b → b ≤ n → f k ≡ get_or (rising n) k d
  rising-only n w f e zero k l m = absurd (omega arith)
  rising-only n w f e (suc b) k l m =
      e k (omega arith) ∙ w k (omega arith) f _ (λ o q. rising-only n w f e b o (omega arith) (omega arith))
      ∙ sym (rising_step n k (omega arith) (w k (omega arith)))

  -- a buffer that holds the values of the numbers below k at its front: what a loop that fills it keeps
  pub filled_none : (ds : List A) → ds ≡ rising 0 ++ drop 0 ds
  unfolding rising
  filled_none ds = refl

  pub filled_more : (ds xs : List A) (k : ℕ) (x : A) → k < length ds → xs ≡ rising k ++ drop k ds
      → x ≡ make (λ o. get_or (rising k) o d) k → set xs k x ≡ rising (k + 1) ++ drop (k + 1) ds
  unfolding rising extended
  filled_more ds xs k x h e q =
      ap (λ l. set l k x) (e ∙ ap (λ l. rising k ++ l) (drop-cons ds k d h))
      ∙ set_at (rising k) _ _ x k (length-rising k)
      ∙ ap (λ y. rising k ++ y ∷ drop (suc k) ds) q
      ∙ rw (add-one, append_assoc)

  -- what such a buffer has below k
  pub filled_at : (ds xs : List A) (k o : ℕ) → xs ≡ rising k ++ drop k ds → o < k → get_or xs o d ≡ get_or (rising k) o d
  filled_at ds xs k o e l = ap (λ ys. get_or ys o d) e ∙ get_or-append (rising k) _ d o (omega (arith, length-rising k))

-- a function of the values is a pass of its own, where it takes `make` to `remake`
module _ {A B : Type 0} (h : A → B) (d : A) (make : (ℕ → A) → ℕ → A) (remake : (ℕ → B) → ℕ → B) where
  pub rising-map : (n : ℕ)
      → ((k : ℕ) → k < n → h (make (λ o. get_or (rising d make k) o d) k) ≡ remake (λ o. h (get_or (rising d make k) o d)) k)
      → map h (rising d make n) ≡ rising (h d) remake n
  unfolding rising extended
  rising-map zero w = refl
  rising-map (suc n) w = go (rising-map n (λ k l. w k (omega arith)))
    where
      values : (o : ℕ) → map h (rising d make n) ≡ rising (h d) remake n → h (get_or (rising d make n) o d) ≡ get_or (rising (h d) remake n) o (h d)
      values o ih = sym (get_or-map h (rising d make n) o d) ∙ ap (λ ys. get_or ys o (h d)) ih

      go : map h (rising d make n) ≡ rising (h d) remake n → map h (rising d make (suc n)) ≡ rising (h d) remake (suc n)
      go ih =
          map-append h (rising d make n) _
          ∙ ap₂ (λ ys y. ys ++ (y ∷ [])) ih (w n (omega arith) ∙ ap (λ v. remake v n) (fun_ext (λ o. values o ih)))
