-- How often a vertex stands in a list.
-- Assumes nothing.
use Prim.Native.Nat.{ℕ, zero, suc, ◌+◌, ◌≤◌, ◌<◌}
use native.Mathlib.Omega.{arith}
use native.Mathlib.Numerals.{add-one}
use mathlib.Core.Path.{◌≡◌, refl, ap, sym, ◌∙◌}
use mathlib.Core.Logic.{⊎_elim}
use mathlib.Core.Bool.{Bool, true, false, cond, ◌&&◌}
use mathlib.Core.List.{List, [], ◌∷◌, ◌++◌}
use lib.Dec.{eqb}
use lib.ListN.{length, get_or, take, drop, take-append-drop}
use lib.Seq.{take-suc}
use borrow.Author.Tests.{eq-eqb, ne_eqb, ltb-true, lt-ltb, le-ltb}
use Rattle.base.specs.Tests.{below_or, and-true, equal_or}
use Rattle.base.specs.Places.{count, count_less, places, places-end}
use Rattle.graph.specs.Edge.{one}
use Rattle.graph.specs.Removing.{times, has}
use Rattle.graph.proofs.Ones.{one_neither}

times-append : (v : ℕ) (xs ys : List ℕ) → times v (xs ++ ys) ≡ times v xs + times v ys
unfolding times
times-append v [] ys = omega arith
times-append v (x ∷ xs) ys = omega (arith, times-append v xs ys)

pub times_push : (v x : ℕ) (xs : List ℕ) → times v (xs ++ (x ∷ [])) ≡ times v xs + one (eqb v x)
unfolding times
times_push v x xs = times-append v xs (x ∷ []) ∙ omega arith

pub times-take : (v c : ℕ) (q : List ℕ) → times v (take c q) ≤ times v q
times-take v c q = omega (arith, times-append v (take c q) (drop c q), ap (times v) (take-append-drop c q))

pub times-suc : (v c : ℕ) (q : List ℕ) → c < length q → times v (take (suc c) q) ≡ times v (take c q) + one (eqb v (get_or q c 0))
times-suc v c q l = ap (times v) (take-suc q c 0 l) ∙ times_push v (get_or q c 0) (take c q)

-- a list of vertices below n, each at most once, is no longer than they are many
pub length-count : (n : ℕ) (q : List ℕ) → ((v : ℕ) → n ≤ v → times v q ≡ 0) → ((v : ℕ) → times v q ≤ 1) → length q ≤ count (has q) 0 n
unfolding times
length-count n [] h o = omega arith
length-count n (x ∷ xs) h o =
    let here : one (eqb x x) ≡ 1 = ap one (eq-eqb x x refl) in
    let l : x < n = ⊎_elim (λ a. a) (λ b. absurd (omega (arith, h x b))) (below_or x n) in
    omega (
      arith,
      length-count n xs (λ v b. omega (arith, h v b)) (λ v. omega (arith, o v)),
      count_less (has xs) (has (x ∷ xs)) 0 n x (omega arith) (omega arith) (le-ltb 0 (times x xs) (omega (arith, o x))) (lt-ltb 0 (times x (x ∷ xs)) (omega arith))
          (λ v a b t. lt-ltb 0 (times v (x ∷ xs)) (omega (arith, ltb-true 0 (times v xs) t))),
    )

-- in the places at which a test holds
module _ (p : ℕ → Bool) (v : ℕ) where
  times_end : (n : ℕ) → times v (places p 0 (suc n)) ≡ times v (places p 0 n) + one (p n && eqb v n)
  times_end n = ap (λ k. times v (places p 0 k)) (sym (add-one n)) ∙ ap (times v) (places-end p n) ∙ go (p n)
    where
      go : (b : Bool) → times v (cond b (places p 0 n ++ (n ∷ [])) (places p 0 n)) ≡ times v (places p 0 n) + one (b && eqb v n)
      go true = times_push v n (places p 0 n)
      go false = omega arith

  pub times_past : (n : ℕ) → n ≤ v → times v (places p 0 n) ≡ 0
  unfolding places times
  times_past zero l = refl
  times_past (suc n) l = omega (arith, times_end n, times_past n (omega arith), one_neither (p n) (eqb v n) (ne_eqb v n (λ e. omega arith)))

  pub times_within : (n : ℕ) → v < n → times v (places p 0 n) ≡ one (p v)
  times_within zero l = absurd (omega arith)
  times_within (suc n) l = times_end n ∙ ⊎_elim here (λ d. there d (times_within n (omega arith))) (equal_or v n)
    where
      here : v ≡ n → times v (places p 0 n) + one (p n && eqb v n) ≡ one (p v)
      here e = omega (arith, times_past n (omega arith), ap one (ap (λ b. p n && b) (eq-eqb v n e) ∙ and-true (p n) ∙ ap p (sym e)))

      there : (v ≡ n → ⊥) → times v (places p 0 n) ≡ one (p v) → times v (places p 0 n) + one (p n && eqb v n) ≡ one (p v)
      there d ih = omega (arith, one_neither (p n) (eqb v n) (ne_eqb v n d))
