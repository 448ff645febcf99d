-- Lists made for the numbers below n, one after the other.
-- Assumes nothing.
use Rattle.std.specs.Prelude.{ℕ, zero, suc, ◌+◌, ◌<◌, ◌≡◌, refl, List, [], ◌++◌}
use Rattle.std.proofs.Common.{add-one, arith, ap₂, ⊎_elim}
use Rattle.base.specs.Tests.{equal_or}
use Rattle.base.specs.Each.{Each, each_append, each_left, each_right}

unfoldable pub gather : {A : Type 0} → (ℕ → List A) → ℕ → List A
gather f zero = []
gather f (suc n) = gather f n ++ f n

pub gather_more : {A : Type 0} (f : ℕ → List A) (n : ℕ) → gather f (n + 1) ≡ gather f n ++ f n
unfolding gather
gather_more f n = rw add-one

pub gather_agree : {A : Type 0} (f g : ℕ → List A) (n : ℕ) → ((k : ℕ) → k < n → f k ≡ g k) → gather f n ≡ gather g n
unfolding gather
gather_agree f g zero h = refl
gather_agree f g (suc n) h = ap₂ (λ xs ys. xs ++ ys) (gather_agree f g n (λ k l. h k (omega arith))) (h n (omega arith))

-- something holds of each element of gathered lists
pub each_gather : {A : Type 0} (P : A → Type 0) (f : ℕ → List A) (n : ℕ) → ((k : ℕ) → k < n → Each P (f k)) → Each P (gather f n)
unfolding gather
each_gather P f zero h = tt
each_gather P f (suc n) h = each_append P (gather f n) (f n) (each_gather P f n (λ k l. h k (omega arith))) (h n (omega arith))

pub gather_each : {A : Type 0} (P : A → Type 0) (f : ℕ → List A) (n : ℕ) → Each P (gather f n) → (k : ℕ) → k < n → Each P (f k)
unfolding gather
gather_each P f zero h k l = absurd (omega arith)
gather_each P f (suc n) h k l =
    ⊎_elim (λ e. rw e (each_right P (gather f n) (f n) h)) (λ ne. gather_each P f n (each_left P (gather f n) (f n) h) k (omega arith)) (equal_or k n)
