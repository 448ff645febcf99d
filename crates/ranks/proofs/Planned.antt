-- Supported roots and accepted ranks make a plan in the papers' sense, and its theory is that of the tables.
-- Assumes nothing.
use Rattle.std.specs.Prelude.{Option, Some, None, Result, Ok, Err}
use Prim.Native.Nat.{ℕ, ◌<◌}
use native.Mathlib.Numerals.{add-one}
use native.Mathlib.Omega.{arith}
use mathlib.Core.Path.{◌≡◌, refl, sym, ap, ◌∙◌}
use mathlib.Core.Logic.{◌≢◌}
use mathlib.Core.Bool.{true}
use mathlib.Core.List.{List, [], ◌∷◌, map}
use lib.ListN.{get_or, take, get_or-map}
use lib.Seq.{get_or-take, length-take-le}
use Rattle.base.specs.Each.{Each, at_each}
use Rattle.formula.specs.Class.{Class, positive, frozen, opaque, class}
use Rattle.formula.specs.Rank.{is_positive}
use Rattle.formula.specs.Root.{Root}
use Rattle.formula.specs.Plan.{PlannedRoot, Planned}
use Rattle.theory.specs.NodeClass.{node_classes}
use Rattle.theory.specs.NodeFormula.{formula}
use Rattle.theory.specs.WellFormed.{NodeTables, RootTable, WellFormed}
use Rattle.theory.specs.Refusals.{not_both, none_refused}
use Rattle.theory.proofs.Meaning.{class_at}
use Rattle.theory.specs.declared.Counts.{Counts}
use Rattle.compile.specs.ClassWord.{class_word, class_words}
use Rattle.compile.specs.Producer.{produced}
use Rattle.compile.specs.Producers.{refused_by, supported_at, roots_supported}
use Rattle.compile.specs.Roots.{root_of, roots_of, MadeOf, from-fact, from-rule, NothingOf, from_constraint, from_denial, made_of, nothing_of}
use Rattle.compile.specs.declared.Producer.{Producer}
use Rattle.compile.proofs.RootFormula.{producer_bounded}
use Rattle.ranks.specs.Classed.{Classed}
use Rattle.ranks.specs.RankCheck.{rank_check}
use Rattle.ranks.proofs.Accepted.{positive_is}
use Rattle.ranks.proofs.Ranks.{rule_ordered}
use Rattle.theory.specs.Admission.{admitted}
use Rattle.theory.specs.declared.Refusal.{Refusal}

-- class words as classes
word_opaque : (c : Class) → c ≡ opaque → class_word c ≡ 2
word_opaque c e = rw e

is_positive_lem : (c : Class) → c ≡ positive → is_positive c ≡ true
is_positive_lem c e = rw e

-- each of a list is planned
planned_list : (r : ℕ → ℕ) (f : ℕ → Root) (ks : List ℕ) → Each (λ k. PlannedRoot r (f k)) ks → Planned r (map f ks)
planned_list r f [] h = tt
planned_list r f (k ∷ ks) h = (h.0, planned_list r f ks h.1)

module _ (t : Counts) (nodes operands classes roots : List ℕ) (well : WellFormed t nodes operands roots) (tables : NodeTables t nodes operands) (listed : RootTable t roots)
    (classed : Classed t nodes operands classes) (supported : roots_supported t nodes operands classes roots ≡ admitted) where
  root_admitted : (i : ℕ) → i < t.roots → refused_by (produced nodes operands classes (get_or roots i 0)) ≡ admitted
  unfolding roots_supported supported_at
  root_admitted i l = none_refused _ 0 t.roots supported i (omega arith) (omega arith)

  -- something that holds of the root at each position holds of each root
  each_root : (P : ℕ → Type 0) → ((i : ℕ) → i < t.roots → P (get_or roots i 0)) → Each P (take t.roots roots)
  each_root P h =
      at_each P 0 (take t.roots roots)
      (λ i l.
      let low : i < t.roots = omega (arith, length-take-le t.roots roots listed.roots_long) in
      rw (get_or-take t.roots roots i 0 low) (h i low))

  module _ (rs : List ℕ) (accepted : rank_check t nodes operands classes roots rs ≡ admitted) where
    rank : ℕ → ℕ
    rank a = get_or rs a 0

    not_opaque : (b : ℕ) → b < t.nodes → (get_or classes b 0 ≡ 2 → ⊥) → class (formula t nodes operands b) ≢ opaque
    unfolding class_words
    not_opaque b l h e =
        h (classed.word b l ∙ get_or-map class_word (node_classes nodes operands t.nodes) b frozen
        ∙ ap class_word (sym (class_at t nodes operands roots well b)) ∙ word_opaque (class (formula t nodes operands b)) e)

    made_planned : (i : ℕ) → i < t.roots → (p : Producer) → produced nodes operands classes (get_or roots i 0) ≡ Ok (Some p) → (x : Root) → MadeOf (formula t nodes operands) classes p x → PlannedRoot (λ a. get_or rs a 0) x
    made_planned i l p e x (from-fact {h} a b) = tt
    made_planned i l p e x (from-rule {b} {h} a c d) =
        let w = producer_bounded t nodes operands classes tables (get_or roots i 0) (well.root i l) p e in
        let low : b < t.nodes = omega (arith, w.body_in_lem) in
        record {
          clear = not_opaque b low d;
          lower = λ q.
              rw a at (rule_ordered t nodes operands classes roots well tables classed rs accepted i l b p (record { is = e; body = c ∙ add-one b })
              (positive_is t nodes operands classes roots well tables classed b low ∙ is_positive_lem _ q));
        }

    nothing-planned : (x : Root) → NothingOf x → PlannedRoot (λ a. get_or rs a 0) x
    nothing-planned x from_constraint = tt
    nothing-planned x from_denial = tt

    root_planned : (i : ℕ) → i < t.roots → PlannedRoot (λ a. get_or rs a 0) (root_of t nodes operands (get_or roots i 0))
    unfolding refused_by
    root_planned i l = go (produced nodes operands classes (get_or roots i 0)) refl (root_admitted i l)
      where
        go : (m : Result (Option Producer) Refusal) → produced nodes operands classes (get_or roots i 0) ≡ m → refused_by m ≡ admitted → PlannedRoot (λ a. get_or rs a 0) (root_of t nodes operands (get_or roots i 0))
        go (Ok None) e q = nothing-planned _ (nothing_of t nodes operands classes (get_or roots i 0) e)
        go (Ok (Some p)) e q = made_planned i l p e _ (made_of t nodes operands classes (get_or roots i 0) p e)
        go (Err r) e q = absurd (not_both r q)

    pub planned : Planned (λ a. get_or rs a 0) (roots_of t nodes operands roots)
    unfolding roots_of
    planned = planned_list (λ a. get_or rs a 0) (root_of t nodes operands) (take t.roots roots) (each_root (λ k. PlannedRoot (λ a. get_or rs a 0) (root_of t nodes operands k)) root_planned)
