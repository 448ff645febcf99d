-- The start of the walk goes over the changed atoms alone, on any evaluation that fits its tables.
-- Assumes nothing.
use Prim.Native.Nat.{ℕ, zero, suc, ◌<◌, ◌≤◌, ◌+◌, ◌/◌}
use Rattle.std.proofs.Common.{arith, sym, ◌∙◌, ne_eqb}
use Rattle.std.specs.Prelude.{◌≡◌, Bool, true, false, cond, ◌&&◌, ltb, length, get_or, Option, Some, None}
use Rattle.std.proofs.Math.Path.{refl, ap}
use mathlib.Core.List.{List, [], ◌∷◌}
use Rattle.std.proofs.Math.Dec.{eqb}
use Rattle.base.specs.Places.{places, places-yes, places_no, places_agree}
use Rattle.formula.specs.Satisfaction.{Interpretation}
use Rattle.words.specs.Changed.{unlike}
use Rattle.words.specs.Sets.{member}
use Rattle.words.specs.SetLaws.{member-inserted, member-removed}
use Rattle.kept_laws.specs.OptionLaws.{some_is, if_some, then_some}
use Rattle.kept.specs.CountedSet.{and_then, with_bit, with_member}
use Rattle.kept.specs.Tables.{Tables, atom_count, node_count, atom_nodes_at}
use Rattle.kept.specs.Evaluation.{Evaluation, present}
use Rattle.kept.specs.Parts.{with_worklist, with_candidate}
use Rattle.kept.specs.Step.{entered}
use Rattle.kept.specs.Start.{all_entered, atom_turned, walk_start}
use Rattle.kept.specs.Worklist.{with_node}
use Rattle.kept.specs.LayoutLaws.{Fits}
use Rattle.kept_laws.specs.FitsLaws.{atom_fits}
use Rattle.kept_laws.specs.StartFrom.{start_from, start_from_lem, start_jump, start_turn}

pub bit_other : (ws : List ℕ) (a j : ℕ) (x : Bool) → a / 32 < length ws → (a ≡ j → ⊥) → member 32 (with_bit ws a x) j ≡ member 32 ws j
unfolding with_bit
bit_other ws a j true l h = member-inserted 32 ws a j l ∙ rw (ne_eqb a j h)
bit_other ws a j false l h = member-removed 32 ws a j l ∙ rw (ne_eqb a j h)

module _ (T : Tables) where
  entered-candidate : (m : ℕ) (e d : Evaluation) → entered T m e ≡ Some d → d.candidate ≡ e.candidate
  unfolding entered
  entered-candidate m e d h =
      let p = then_some (with_node (node_count T) e.worklist m) (λ w. Some (with_worklist e w)) d h in
      ap (λ y. y.candidate) (sym (some_is (with_worklist e p.0) d p.2))

  all_candidate : (e d : Evaluation) (ks : List ℕ) → all_entered T e ks ≡ Some d → d.candidate ≡ e.candidate
  unfolding all_entered
  all_candidate e d [] h = ap (λ y. y.candidate) (sym (some_is e d h))
  all_candidate e d (k ∷ ks) h =
      let p = then_some (cond (ltb k (node_count T)) (entered T k e) None) (λ b. all_entered T b ks) d h in
      all_candidate p.0 d ks p.2 ∙ entered-candidate k e p.0 (if_some (ltb k (node_count T)) (entered T k e) p.0 p.1).1

  module _ (J : Interpretation) where
    -- one atom turned: the others stay
    pub turned_candidate : (a : ℕ) (e d : Evaluation) → atom_turned T J a e ≡ Some d → d.candidate ≡ with_bit e.candidate a (J a)
    unfolding atom_turned
    turned_candidate a e d h =
        let p = then_some (with_member (atom_count T) e.missing a (J a && eqb (get_or e.support a 0) 0)) (λ m. and_then (atom_nodes_at T a) (all_entered T (with_candidate e (with_bit e.candidate a (J a)) m))) d h in
        let q = then_some (atom_nodes_at T a) (all_entered T (with_candidate e (with_bit e.candidate a (J a)) p.0)) d p.2 in
        all_candidate (with_candidate e (with_bit e.candidate a (J a)) p.0) d q.0 q.2

    pub turned_present : (a j : ℕ) (e d : Evaluation) → atom_turned T J a e ≡ Some d → Fits T e → a < atom_count T → (a ≡ j → ⊥) → present d j ≡ present e j
    turned_present a j e d h f l n = ap (λ ws. member 32 ws j) (turned_candidate a e d h) ∙ bit_other e.candidate a j (J a) (omega (arith, f.candidate)) n

    -- atoms turned one after the other
    unfoldable pub all_turned : List ℕ → Evaluation → Option Evaluation
    all_turned [] e = Some e
    all_turned (a ∷ as') e = and_then (atom_turned T J a e) (all_turned as')

    -- the atoms that differ
    abbrev pub differs : Evaluation → ℕ → Bool
    differs e a = unlike (present e a) (J a)

    start_places : (n a : ℕ) (e : Evaluation) → Fits T e → a + n ≤ atom_count T → start_from T J a n e ≡ all_turned (places (differs e) a n) e
    unfolding start_from all_turned places
    start_places zero a e f l = refl
    start_places (suc n) a e f l = go (differs e a) refl (start_places n (a + 1))
      where
        Later : Type 0
        Later = (d : Evaluation) → Fits T d → a + 1 + n ≤ atom_count T → start_from T J (a + 1) n d ≡ all_turned (places (differs d) (a + 1) n) d

        rest : (o : Option Evaluation) → atom_turned T J a e ≡ o → Later → and_then o (start_from T J (a + 1) n) ≡ and_then o (all_turned (places (differs e) (a + 1) n))
        rest None h ih = refl
        rest (Some d) h ih =
            ih d (atom_fits T J a e d h f) (omega arith)
            ∙ ap (λ ks. all_turned ks d) (places_agree (differs d) (differs e) (a + 1) n
            (λ j x y. ap (λ b. unlike b (J j)) (turned_present a j e d h f (omega arith) (λ z. omega arith))))

        go : (b : Bool) → differs e a ≡ b → Later → start_from T J a (suc n) e ≡ all_turned (places (differs e) a (suc n)) e
        go true p ih =
            start_turn T J a n e p ∙ rest (atom_turned T J a e) refl ih ∙ ap (λ ks. all_turned ks e) (sym (places-yes (differs e) a n p))
        go false p ih =
            skip p ∙ ih e f (omega arith) ∙ ap (λ ks. all_turned ks e) (sym (places_no (differs e) a n p))
          where
            skip : differs e a ≡ false → start_from T J a (suc n) e ≡ start_from T J (a + 1) n e
            skip p =
                let one : suc n ≡ 1 + n = omega arith in
                ap (λ m. start_from T J a m e) one ∙ start_jump T J 1 a n e (λ j x y. let z : j ≡ a = omega arith in rw z p)

    -- the walk's start is the changed atoms turned, rising
    pub start_changed : (e : Evaluation) → Fits T e → walk_start T J (atom_count T) e ≡ all_turned (places (differs e) 0 (atom_count T)) e
    start_changed e f = sym (start_from_lem T J (atom_count T) e) ∙ start_places (atom_count T) 0 e f (omega arith)
