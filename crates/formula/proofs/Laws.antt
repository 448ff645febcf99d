-- Laws of the reduct: of what I makes false, of what I satisfies, and of what it keeps of a body.
-- Assumes nothing.
use Prim.Native.Nat.{ℕ, ◌<◌}
use native.Mathlib.Omega.{arith}
use mathlib.Core.Path.{◌≡◌, refl}
use mathlib.Core.Logic.{◌≢◌, ⊎_elim}
use mathlib.Core.Bool.{Bool, true, false, cond}
use Rattle.base.specs.Tests.{both_left, both_right, both, either, or_left, or_right, or-false}
use borrow.Author.Tests.{not-true}
use Rattle.formula.specs.Formula.{Formula, Formulas, atom, falsum, implies, conj, disj, nil, cons}
use Rattle.formula.specs.Satisfaction.{Interpretation, sat, all, any}
use Rattle.formula.specs.Reduct.{reduct, reducts}
use Rattle.formula.specs.Class.{Class, positive, frozen, opaque, class, classes, join}
use Rattle.formula.specs.Rank.{highest, highests}

-- ---- the reduct

pub reduct_false : (I : Interpretation) (f : Formula) → sat I f ≡ false → reduct I f ≡ falsum
unfolding reduct sat
reduct_false I (atom n) e = simp e
reduct_false I falsum e = refl
reduct_false I (implies f g) e = simp e
reduct_false I (conj fs) e = simp e
reduct_false I (disj fs) e = simp e

-- a formula cut where I makes it false, and else replaced by one of the same truth
cut : (I : Interpretation) (f g : Formula) → sat I g ≡ sat I f → sat I (cond (sat I f) g falsum) ≡ sat I f
unfolding sat
cut I f g e = go (sat I f) e
  where
    go : (t : Bool) → sat I g ≡ t → sat I (cond t g falsum) ≡ t
    go true i = i
    go false i = refl

-- I satisfies the reduct of what it satisfies, and of nothing else
mutual
  unfolding reduct sat

  pub reduct_same : (I : Interpretation) (f : Formula) → sat I (reduct I f) ≡ sat I f
  reduct_same I (atom n) = cut I (atom n) (atom n) refl
  reduct_same I falsum = refl
  reduct_same I (implies f g) = cut I (implies f g) (implies (reduct I f) (reduct I g)) (rw (reduct_same I f, reduct_same I g))
  reduct_same I (conj fs) = cut I (conj fs) (conj (reducts I fs)) (reducts_all I fs)
  reduct_same I (disj fs) = cut I (disj fs) (disj (reducts I fs)) (reducts_any I fs)

  pub reducts_all : (I : Interpretation) (fs : Formulas) → all I (reducts I fs) ≡ all I fs
  reducts_all I nil = refl
  reducts_all I (cons f fs) = rw (reduct_same I f, reducts_all I fs)

  pub reducts_any : (I : Interpretation) (fs : Formulas) → any I (reducts I fs) ≡ any I fs
  reducts_any I nil = refl
  reducts_any I (cons f fs) = rw (reduct_same I f, reducts_any I fs)

-- a negation that I satisfies: its reduct holds everywhere
pub negation_kept : (I J : Interpretation) (f : Formula) → sat I (implies f falsum) ≡ true → sat J (reduct I (implies f falsum)) ≡ true
unfolding sat reduct
negation_kept I J f e =
    let n : sat I f ≡ false = not-true (sat I f) (simp or-false at e) in
    simp (n, reduct_false I f)

-- ---- classes

join_clear_left : (c d : Class) → join c d ≢ opaque → c ≢ opaque
join_clear_left opaque d h e = h refl
join_clear_left positive d h e = h (cc)
join_clear_left frozen d h e = h (cc)

join_clear_right : (c d : Class) → join c d ≢ opaque → d ≢ opaque
join_clear_right opaque d h e = h refl
join_clear_right positive d h e = h (simp e)
join_clear_right frozen d h e = h e

join-positive_left : (c d : Class) → join c d ≢ opaque → c ≡ positive → join c d ≡ positive
join-positive_left c opaque h e = absurd (h (simp e))
join-positive_left c frozen h e = simp e
join-positive_left c positive h e = simp e

join-positive_right : (c d : Class) → join c d ≢ opaque → d ≡ positive → join c d ≡ positive
join-positive_right opaque d h e = absurd (h refl)
join-positive_right frozen d h e = e
join-positive_right positive d h e = simp e

-- an implication that is not Opaque is a negation
implication_kept : (I J : Interpretation) (f g : Formula) → class (implies f g) ≢ opaque →
    sat I (implies f g) ≡ true → sat J (reduct I (implies f g)) ≡ true
unfolding class
implication_kept I J f (atom n) c e = absurd (c refl)
implication_kept I J f falsum c e = negation_kept I J f e
implication_kept I J f (implies g h) c e = absurd (c refl)
implication_kept I J f (conj gs) c e = absurd (c refl)
implication_kept I J f (disj gs) c e = absurd (c refl)

-- ---- bodies: I satisfies f, which is not Opaque and, if Positive, ranks below k; a J with the atoms of I ranked below k satisfies its reduct

module _ (r : ℕ → ℕ) (k : ℕ) (I J : Interpretation) (has : (a : ℕ) → r a < k → I a ≡ true → J a ≡ true) where
  mutual
    unfolding class highest sat reduct

    pub kept : (f : Formula) → class f ≢ opaque → (class f ≡ positive → highest r f < k) → sat I f ≡ true → sat J (reduct I f) ≡ true
    kept (atom n) c l e = simp e (has n (l refl) e)
    kept falsum c l e = e
    kept (implies f g) c l e = implication_kept I J f g c e
    kept (conj fs) c l e = simp e (kept_all fs c (λ p. simp p at (l p)) e)
    kept (disj fs) c l e = simp e (kept_any fs c (λ p. simp p at (l p)) e)

    kept_all : (fs : Formulas) → classes fs ≢ opaque → (classes fs ≡ positive → highests r fs < k) → all I fs ≡ true → all J (reducts I fs) ≡ true
    kept_all nil c l e = refl
    kept_all (cons f fs) c l e =
        both
        (kept f (join_clear_left _ (classes fs) c) (λ p. omega (arith, l (join-positive_left _ (classes fs) c p))) (both_left _ (all I fs) e))
        (kept_all fs (join_clear_right (class f) _ c) (λ p. omega (arith, l (join-positive_right (class f) _ c p))) (both_right (sat I f) _ e))

    kept_any : (fs : Formulas) → classes fs ≢ opaque → (classes fs ≡ positive → highests r fs < k) → any I fs ≡ true → any J (reducts I fs) ≡ true
    kept_any nil c l e = e
    kept_any (cons f fs) c l e =
        ⊎_elim
        (λ p. or_left _ (kept f (join_clear_left _ (classes fs) c) (λ q. omega (arith, l (join-positive_left _ (classes fs) c q))) p))
        (λ p. or_right (sat J (reduct I f)) (kept_any fs (join_clear_right (class f) _ c) (λ q. omega (arith, l (join-positive_right (class f) _ c q))) p))
        (either (sat I f) (any I fs) e)
