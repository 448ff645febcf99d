-- The stable models of a planned theory are its supported models (Fages 1994).
-- Assumes nothing.
use Prim.Native.Nat.{ℕ, zero, suc, ◌<◌}
use native.Mathlib.Omega.{arith}
use native.Mathlib.Nat.{not-suc-le-zero}
use mathlib.Core.Path.{◌≡◌, refl, ◌∙◌, sym}
use mathlib.Core.Logic.{⊎_elim, ◌↔◌}
use mathlib.Core.Bool.{Bool, true, false, not, true≢false, false≢true}
use mathlib.Core.List.{List, [], ◌∷◌}
use lib.Dec.{eqb}
use borrow.Author.Tests.{eqb-true, eq-eqb}
use Rattle.base.specs.Tests.{both_left, both_right, both, either, or_right, neither_left, neither_right, and-true, or-false, implied}
use Rattle.formula.specs.Formula.{implies, of_list}
use Rattle.formula.specs.Satisfaction.{Interpretation, sat, all}
use Rattle.formula.specs.Reduct.{reduct, reducts}
use Rattle.formula.specs.Stable.{ProperSubset, Stable}
use Rattle.formula.specs.Removable.{without}
use Rattle.formula.specs.Head.{Head, normal, choice, flipped, head_atom, head_formula}
use Rattle.formula.specs.Root.{Root, constraint, denial, fact, rule, root_formula, theory}
use Rattle.formula.specs.Plan.{PlannedRoot, Planned}
use Rattle.formula.specs.Support.{produces, supported, SupportedModel}
use Rattle.formula.proofs.Laws.{reduct_false, negation_kept, kept}

-- ---- stable models are supported: an atom without support can be taken out

without_proper : (I : Interpretation) (a : ℕ) → I a ≡ true → ProperSubset (without I a) I
unfolding without
without_proper I a i =
    record { within = λ b. both_left (I b) _; lost = a; had = i; hasn't = simp (i, eq-eqb a a refl) }

module _ (I : Interpretation) (a : ℕ) where
  -- an atom other than a, or its negation
  choice_stays : (b : ℕ) → eqb b a ≡ false → (t : Bool) → I b ≡ t →
      (sat (without I a) (reduct I (head_formula (choice b))) ≡ true) × (sat (without I a) (reduct I (head_formula (flipped b))) ≡ true)
  unfolding sat reduct without
  choice_stays b n true i = (simp (i, n), simp (i, n))
  choice_stays b n false i = (simp i, simp i)

  head_stays : (h : Head) → eqb (head_atom h) a ≡ false → sat I (head_formula h) ≡ true → sat (without I a) (reduct I (head_formula h)) ≡ true
  unfolding sat reduct without
  head_stays (normal b) n e = simp (e, n)
  head_stays (choice b) n e = (choice_stays b n (I b) refl).0
  head_stays (flipped b) n e = (choice_stays b n (I b) refl).1

  root_stays : (x : Root) → produces I a x ≡ false → sat I (root_formula x) ≡ true → sat (without I a) (reduct I (root_formula x)) ≡ true
  unfolding produces sat reduct
  root_stays constraint n e = e
  root_stays (denial b) n e = negation_kept I (without I a) b e
  root_stays (fact h) n e = head_stays h n e
  root_stays (rule b h) n e = go (sat I b) refl
    where
      go : (t : Bool) → sat I b ≡ t → sat (without I a) (reduct I (implies b (head_formula h))) ≡ true
      go true t =
          let m : eqb (head_atom h) a ≡ false = simp (t, and-true) at n in
          simp e (or_right (not (sat (without I a) (reduct I b))) (head_stays h m (implied e t)))
      go false t = simp (e, reduct_false I b t)

  -- the model without an atom that has no support satisfies the reduct
  pub unsupported_stays : (xs : List Root) → supported I a xs ≡ false → all I (theory xs) ≡ true → all (without I a) (reducts I (theory xs)) ≡ true
  unfolding supported theory of_list all reducts
  unsupported_stays [] n e = refl
  unsupported_stays (x ∷ xs) n e =
      both
      (root_stays x (neither_left _ (supported I a xs) n) (both_left _ (all I (theory xs)) e))
      (unsupported_stays xs (neither_right (produces I a x) _ n) (both_right (sat I (root_formula x)) _ e))

-- whatever the ranks
pub stable_supported : (I : Interpretation) (xs : List Root) → Stable I (theory xs) → SupportedModel I xs
stable_supported I xs st = record { model = st.model; support = λ a i. go a i (supported I a xs) refl }
  where
    go : (a : ℕ) → I a ≡ true → (t : Bool) → supported I a xs ≡ t → supported I a xs ≡ true
    go a i true e = e
    go a i false e = absurd (st.minimal (without I a) (without_proper I a i) (unsupported_stays I a xs e st.model))

-- ---- supported models are stable: a J that satisfies the reduct has every atom of I, by induction on the rank

-- J has the atoms of I ranked below k
abbrev Has : (ℕ → ℕ) → Interpretation → Interpretation → ℕ → Type 0
Has r I J k = (b : ℕ) → r b < k → I b ≡ true → J b ≡ true

-- where I has the head's atom, so has a J that satisfies the head's reduct
head_has : (I J : Interpretation) (h : Head) → I (head_atom h) ≡ true → sat J (reduct I (head_formula h)) ≡ true → J (head_atom h) ≡ true
unfolding sat reduct
head_has I J (normal a) e s = simp e at s
head_has I J (choice a) e s = simp (e, or-false) at s
head_has I J (flipped a) e s = simp (e, or-false) at s

module _ (r : ℕ → ℕ) (I J : Interpretation) (a : ℕ) (i : I a ≡ true) (has : Has r I J (r a)) where
  producer-has : (x : Root) → PlannedRoot r x → produces I a x ≡ true →
      sat I (root_formula x) ≡ true → sat J (reduct I (root_formula x)) ≡ true → J a ≡ true
  unfolding produces sat reduct
  producer-has constraint f g e s = absurd (false≢true g)
  producer-has (denial b) f g e s = absurd (false≢true g)
  producer-has (fact h) f g e s =
      let p : head_atom h ≡ a = eqb-true (head_atom h) a g in
      rw p at (head_has I J h (rw p i) s)
  producer-has (rule b h) f g e s =
      let p : head_atom h ≡ a = eqb-true (head_atom h) a (both_left _ (sat I b) g) in
      let t : sat J (reduct I b) ≡ true = kept r (r (head_atom h)) I J (rw p has) b f.clear f.lower (both_right (eqb (head_atom h) a) _ g) in
      rw p at (head_has I J h (rw p i) (implied (simp e at s) t))

  pub supported-has : (xs : List Root) → Planned r xs → supported I a xs ≡ true →
      all I (theory xs) ≡ true → all J (reducts I (theory xs)) ≡ true → J a ≡ true
  unfolding supported theory of_list all reducts
  supported-has [] f g e s = absurd (false≢true g)
  supported-has (x ∷ xs) f g e s =
      ⊎_elim
      (λ p. producer-has x f.0 p (both_left _ (all I (theory xs)) e) (both_left _ (all J (reducts I (theory xs))) s))
      (λ p. supported-has xs f.1 p (both_right (sat I (root_formula x)) _ e) (both_right (sat J (reduct I (root_formula x))) _ s))
      (either (produces I a x) (supported I a xs) g)

module _ (r : ℕ → ℕ) (I : Interpretation) (xs : List Root) (f : Planned r xs) (p : SupportedModel I xs) where
  ranked_has : (J : Interpretation) → all J (reducts I (theory xs)) ≡ true → (k : ℕ) → Has r I J k
  ranked_has J s zero a h i = absurd (not-suc-le-zero h)
  ranked_has J s (suc k) a h i =
      supported-has r I J a i (λ b l. ranked_has J s k b (omega arith)) xs f (p.support a i) p.model s

  pub supported_stable : Stable I (theory xs)
  supported_stable =
      record {
        model = p.model;
        minimal = λ J w s. true≢false (sym (ranked_has J s (suc (r w.lost)) w.lost (omega arith) w.had) ∙ w.hasn't);
      }

-- ---- both

pub fages : (r : ℕ → ℕ) (I : Interpretation) (xs : List Root) → Planned r xs → SupportedModel I xs ↔ Stable I (theory xs)
fages r I xs f = (supported_stable r I xs f, stable_supported I xs)
