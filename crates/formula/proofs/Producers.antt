-- A root supports an atom exactly if its formula produces it.
-- Assumes nothing.
use Prim.Native.Nat.{ℕ}
use native.Mathlib.Omega.{arith}
use mathlib.Core.Path.{◌≡◌, refl, ap, sym, ◌∙◌}
use mathlib.Core.Logic.{inl, inr}
use mathlib.Core.Bool.{Bool, true, false, ◌||◌, false≢true}
use mathlib.Core.List.{List, [], ◌∷◌, map}
use lib.Dec.{eqb}
use borrow.Author.Tests.{eqb-true, eq-eqb}
use Rattle.base.specs.Tests.{both, both_left, both_right, neither_left, neither_right}
use Rattle.formula.specs.Formula.{Formula, falsum, implies}
use Rattle.formula.specs.Satisfaction.{Interpretation, sat}
use Rattle.formula.specs.Head.{Head, normal, choice, flipped, head_atom, head_formula}
use Rattle.formula.specs.Root.{Root, constraint, denial, fact, rule, root_formula}
use Rattle.formula.specs.Support.{produces, supported}
use Rattle.formula.specs.Producer.{Produces}
use Rattle.formula.specs.Named.{Unproduced}

-- ---- a head is no other formula

head_not_falsum : (h : Head) → falsum ≡ head_formula h → ⊥
head_not_falsum (normal a) e = let z : ◌≡◌ {A = ℕ} 0 1 = cc in omega arith
head_not_falsum (choice a) e = let z : ◌≡◌ {A = ℕ} 0 1 = cc in omega arith
head_not_falsum (flipped a) e = let z : ◌≡◌ {A = ℕ} 0 1 = cc in omega arith

head_not_implies : (b g : Formula) (h : Head) → implies b g ≡ head_formula h → ⊥
head_not_implies b g (normal a) e = let z : ◌≡◌ {A = ℕ} 0 1 = cc in omega arith
head_not_implies b g (choice a) e = let z : ◌≡◌ {A = ℕ} 0 1 = cc in omega arith
head_not_implies b g (flipped a) e = let z : ◌≡◌ {A = ℕ} 0 1 = cc in omega arith

same_atom : (h g : Head) → head_formula h ≡ head_formula g → head_atom h ≡ head_atom g
same_atom (normal a) (normal b) e = cc
same_atom (normal a) (choice b) e = let z : ◌≡◌ {A = ℕ} 0 1 = cc in absurd (omega arith)
same_atom (normal a) (flipped b) e = let z : ◌≡◌ {A = ℕ} 0 1 = cc in absurd (omega arith)
same_atom (choice a) (normal b) e = let z : ◌≡◌ {A = ℕ} 0 1 = cc in absurd (omega arith)
same_atom (choice a) (choice b) e = cc
same_atom (choice a) (flipped b) e = let z : ◌≡◌ {A = ℕ} 0 1 = cc in absurd (omega arith)
same_atom (flipped a) (normal b) e = let z : ◌≡◌ {A = ℕ} 0 1 = cc in absurd (omega arith)
same_atom (flipped a) (choice b) e = let z : ◌≡◌ {A = ℕ} 0 1 = cc in absurd (omega arith)
same_atom (flipped a) (flipped b) e = cc

-- ---- one root

module _ (I : Interpretation) (a : ℕ) where
  to_produces : (x : Root) → produces I a x ≡ true → Produces I a (root_formula x)
  unfolding produces
  to_produces constraint e = absurd (false≢true e)
  to_produces (denial b) e = absurd (false≢true e)
  to_produces (fact h) e = inl (h, eqb-true (head_atom h) a e, refl)
  to_produces (rule b h) e =
      inr (record {
        body = b;
        head = head_formula h;
        parts = refl;
        head_of = (h, eqb-true (head_atom h) a (both_left (eqb (head_atom h) a) (sat I b) e), refl);
        satisfied = both_right (eqb (head_atom h) a) (sat I b) e;
      })

  from-produces : (x : Root) → Produces I a (root_formula x) → produces I a x ≡ true
  unfolding produces
  from-produces constraint (inl w) = absurd (head_not_falsum w.0 w.2)
  from-produces constraint (inr w) = let q = w.parts in let z : ◌≡◌ {A = ℕ} 0 1 = cc in absurd (omega arith)
  from-produces (denial b) (inl w) = absurd (head_not_implies b falsum w.0 w.2)
  from-produces (denial b) (inr w) =
      let q = w.parts in
      let n : falsum ≡ w.head = cc in
      absurd (head_not_falsum w.head_of.0 (n ∙ w.head_of.2))
  from-produces (fact h) (inl w) = eq-eqb (head_atom h) a (same_atom h w.0 w.2 ∙ w.1)
  from-produces (fact h) (inr w) = absurd (head_not_implies w.body w.head h (sym w.parts))
  from-produces (rule b h) (inl w) = absurd (head_not_implies b (head_formula h) w.0 w.2)
  from-produces (rule b h) (inr w) =
      let q = w.parts in
      let same : head_formula h ≡ w.head = cc in
      let body : b ≡ w.body = cc in
      both (eq-eqb (head_atom h) a (same_atom h w.head_of.0 (same ∙ w.head_of.2) ∙ w.head_of.1)) (ap (sat I) body ∙ w.satisfied)

  -- ---- all roots

  pub unproduced_by : (xs : List Root) → supported I a xs ≡ false → Unproduced I (map root_formula xs) a
  unfolding supported
  unproduced_by [] e = tt
  unproduced_by (x ∷ xs) e = (
    λ p. false≢true (sym (neither_left (produces I a x) (supported I a xs) e) ∙ from-produces x p),
    unproduced_by xs (neither_right (produces I a x) (supported I a xs) e),
  )

  pub unsupported_by : (xs : List Root) → Unproduced I (map root_formula xs) a → supported I a xs ≡ false
  unfolding supported
  unsupported_by [] u = refl
  unsupported_by (x ∷ xs) u = rw (unsupported_by xs u.1) (go (produces I a x) refl)
    where
      go : (b : Bool) → produces I a x ≡ b → b || false ≡ false
      go true e = absurd (u.0 (to_produces x e))
      go false e = refl
