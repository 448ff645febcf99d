-- Of a planned theory, an atom of a model can be taken out alone exactly if no root produces it.
-- Assumes nothing.
use Prim.Native.Nat.{ℕ}
use native.Mathlib.Omega.{arith}
use mathlib.Core.Path.{◌≡◌, refl, sym, ap, ◌∙◌}
use mathlib.Core.Logic.{◌↔◌}
use mathlib.Core.Bool.{Bool, true, false, and-false, true≢false}
use mathlib.Core.List.{List, map}
use borrow.Author.Tests.{eq-eqb, ne_eqb}
use Rattle.formula.specs.Satisfaction.{Interpretation, all}
use Rattle.formula.specs.Removable.{without, Removable, LowestRemovable}
use Rattle.formula.specs.Root.{Root, root_formula, theory}
use Rattle.formula.specs.Plan.{Planned}
use Rattle.formula.specs.Support.{supported}
use Rattle.formula.specs.Named.{Unproduced, LowestUnproduced}
use Rattle.formula.proofs.Fages.{unsupported_stays, supported-has}
use Rattle.formula.proofs.Producers.{unproduced_by, unsupported_by}

module _ (I : Interpretation) (a : ℕ) where
  without_itself : without I a a ≡ false
  unfolding without
  without_itself = rw (eq-eqb a a refl) (and-false (I a))

  without_other : (b : ℕ) → (b ≡ a → ⊥) → I b ≡ true → without I a b ≡ true
  unfolding without
  without_other b n i = rw (i, ne_eqb b a n)

module _ (r : ℕ → ℕ) (I : Interpretation) (xs : List Root) (f : Planned r xs) (model : all I (theory xs) ≡ true) where
  -- the ranks say that no true body of a reaches a itself
  supported_needed : (a : ℕ) → I a ≡ true → supported I a xs ≡ true → Removable I (map root_formula xs) a → ⊥
  unfolding theory
  supported_needed a i p e =
      true≢false
      (sym (supported-has r I (without I a) a i (λ b l q. without_other I a b (λ z. let w : r b ≡ r a = ap r z in omega arith) q) xs f p model e)
      ∙ without_itself I a)

  pub removable_exactly : (a : ℕ) → I a ≡ true → Removable I (map root_formula xs) a ↔ Unproduced I (map root_formula xs) a
  unfolding theory
  removable_exactly a i = (
    λ e. unproduced_by I a xs (go (supported I a xs) refl e),
    λ u. unsupported_stays I a xs (unsupported_by I a xs u) model,
  )
    where
      go : (t : Bool) → supported I a xs ≡ t → Removable I (map root_formula xs) a → supported I a xs ≡ false
      go true p e = absurd (supported_needed a i p e)
      go false p e = p

  pub lowest_exactly : (a : ℕ) → LowestRemovable I (map root_formula xs) a ↔ LowestUnproduced I (map root_formula xs) a
  lowest_exactly a = (
    λ w.
        record {
          present = w.present;
          unproduced = (removable_exactly a w.present).0 w.removable;
          before = λ b l i u. w.before b l i ((removable_exactly b i).1 u);
        },
    λ w.
        record {
          present = w.present;
          removable = (removable_exactly a w.present).1 w.unproduced;
          before = λ b l i e. w.before b l i ((removable_exactly b i).0 e);
        },
  )
