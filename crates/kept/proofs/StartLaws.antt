-- The start of the walk, from the evaluation of one candidate to another, and the kept walk whole.
-- Assumes nothing.
use Prim.Native.Nat.{ℕ, zero, suc, ◌<◌, ◌≤◌, ◌-◌, ◌*◌}
use Rattle.std.proofs.Common.{arith, zero-add, ◌∙◌}
use Rattle.std.specs.Prelude.{◌≡◌, Bool, ◌&&◌, ◌||◌, ltb, Option, Some, None}
use Rattle.std.proofs.Math.Path.{refl, ap, sym}
use Rattle.std.proofs.Math.Logic.{⊎_elim}
use Rattle.std.proofs.Math.Bool.{true, false, cond, or-false, or-true, and-false}
use mathlib.Core.List.{List, [], ◌∷◌, ◌++◌}
use Rattle.std.proofs.Math.ListN.{length}
use borrow.Author.Tests.{eq-eqb, ne_eqb, lt-ltb, le-ltb}
use Rattle.base.specs.Tests.{equal_or, and-true}
use Rattle.base.specs.Places.{places, lowest, lowest-only}
use Rattle.formula.specs.Satisfaction.{Interpretation}
use Rattle.theory.specs.Node.{node_at}
use Rattle.theory.specs.declared.Node.{Node}
use Rattle.theory.specs.declared.Node.TheVariants.{Atom, False, Implies, And, Or, Unknown}
use Rattle.words.specs.Changed.{unlike}
use Rattle.words.specs.Sets.{member}
use Rattle.words.specs.Next.{next}
use Rattle.readers.specs.AtomNodes.{is_atom_of, atom_nodes_of}
use Rattle.kept.specs.PlaceLaws.{last_yes, last_no}
use Rattle.kept.specs.Tabulate.{updated, updated_is, updated_same, switched, switched_below, switched-from, switched_next}
use Rattle.kept.specs.SetOf.{set_of}
use Rattle.kept.specs.SetOfLaws.{ltb-suc, member_above, length-set_of}
use Rattle.kept.specs.CountedSet.{and_then}
use Rattle.kept.proofs.CountedSetLaws.{unlike_false}
use Rattle.kept.specs.Worklist.{Worklist, worklist_of, Lists}
use Rattle.kept.proofs.WorklistLaws.{lists_agree, lists_of, node_entered}
use Rattle.kept.specs.Tables.{Tables, atom_count, node_count, atom_nodes_at}
use Rattle.kept.specs.Evaluation.{Evaluation, present, held, truth, support, false_root, summary, fresh}
use Rattle.kept.specs.Step.{entered}
use Rattle.kept.specs.Start.{all_entered, atom_turned, atom_updated, walk_start}
use Rattle.kept.specs.Dirty.{touched_node, touched, dirty}
use Rattle.kept.specs.Walk.{ended, broken, walk_from, kept_walk}
use Rattle.kept.specs.Consistent.{Consistent, atom_nodes_in, atom_lower}
use Rattle.kept.proofs.HeldLaws.{held_agree, present-held, candidate-held, entered-held}
use Rattle.kept.proofs.WalkLaws.{midway_start, waits_start, walk_midway}

pub entered-append : (T : Tables) (e : Evaluation) (xs ys : List ℕ) → all_entered T e (xs ++ ys) ≡ and_then (all_entered T e xs) (λ d. all_entered T d ys)
unfolding all_entered
entered-append T e [] ys = refl
entered-append T e (x ∷ xs) ys = go (cond (ltb x (node_count T)) (entered T x e) None) (λ d. entered-append T d xs ys)
  where
    go : (o : Option Evaluation) → ((d : Evaluation) → all_entered T d (xs ++ ys) ≡ and_then (all_entered T d xs) (λ d. all_entered T d ys))
        → and_then o (λ d. all_entered T d (xs ++ ys)) ≡ and_then (and_then o (λ d. all_entered T d xs)) (λ d. all_entered T d ys)
    go None ih = refl
    go (Some d) ih = ih d

module _ (T : Tables) where
  -- the atom nodes of a, entered one after the other
  module _ (v : ℕ → Bool) (s : ℕ → ℕ) (c f w : ℕ → Bool) (a : ℕ) where
    is : ℕ → Bool
    is k = is_atom_of a (node_at T.nodes k)

    with_nodes : ℕ → ℕ → Bool
    with_nodes n j = w j || ltb j n && is j

    -- once the nodes ks have entered, the worklist lists the nodes of p
    abbrev Entered : Worklist → List ℕ → (ℕ → Bool) → Type 0
    Entered L ks p = (L' : Worklist) × (all_entered T (held T v L s c f) ks ≡ Some (held T v L' s c f)) × Lists (node_count T) p L'

    one_entered : (L : Worklist) (n : ℕ) → Lists (node_count T) (with_nodes n) L → n < node_count T → Entered L (n ∷ []) (updated (with_nodes n) n true)
    unfolding all_entered
    one_entered L n x l =
        let r = node_entered (with_nodes n) (node_count T) n L x l in
        (r.0, rw (lt-ltb n (node_count T) l, entered-held T v L s c f n r.0 r.1), r.2)

    others : (n j : ℕ) → (j ≡ n → ⊥) → with_nodes n j ≡ with_nodes (suc n) j
    unfolding with_nodes
    others n j h = rw (ltb-suc n j (λ z. h (sym z)))

    mine : (n : ℕ) → is n ≡ true → true ≡ with_nodes (suc n) n
    unfolding with_nodes
    mine n e = sym (rw (lt-ltb n (suc n) (omega arith), e) (or-true (w n)))

    not_mine : (n : ℕ) → is n ≡ false → with_nodes n n ≡ with_nodes (suc n) n
    unfolding with_nodes
    not_mine n e = rw (e, and-false (ltb n n), and-false (ltb n (suc n)))

    nodes_none : (j : ℕ) → w j ≡ with_nodes 0 j
    unfolding with_nodes
    nodes_none j = sym (rw (le-ltb j 0 (omega arith)) (or-false (w j)))

    module _ (L : Worklist) (x : Lists (node_count T) w L) where
      entered_nodes : (n : ℕ) → n ≤ node_count T → Entered L (places is 0 n) (with_nodes n)
      unfolding places all_entered
      entered_nodes zero l = (L, refl, lists_agree (node_count T) w (with_nodes 0) L (λ j i. nodes_none j) x)
      entered_nodes (suc n) l = go (is n) refl (entered_nodes n (omega arith))
        where
          start : Evaluation
          start = held T v L s c f

          go : (b : Bool) → is n ≡ b → Entered L (places is 0 n) (with_nodes n) → Entered L (places is 0 (suc n)) (with_nodes (suc n))
          go true e ih =
              let r = one_entered ih.0 n ih.2 (omega arith) in (
                r.0,
                ap (all_entered T start) (last_yes is n e)
                    ∙ entered-append T start (places is 0 n) (n ∷ [])
                    ∙ ap (λ o. and_then o (λ d. all_entered T d (n ∷ []))) ih.1
                    ∙ r.1,
                lists_agree (node_count T) (updated (with_nodes n) n true) (with_nodes (suc n)) r.0 (λ j i. updated_is (with_nodes n) (with_nodes (suc n)) n true (mine n e) (others n) j) r.2,
              )
          go false e ih = (
            ih.0,
            ap (all_entered T start) (last_no is n e) ∙ ih.1,
            lists_agree (node_count T) (with_nodes n) (with_nodes (suc n)) ih.0 (λ j i. ⊎_elim (λ z. rw z (not_mine n e)) (others n j) (equal_or j n)) ih.2,
          )

      pub atom_nodes_entered : Entered L (atom_nodes_in T a) (λ j. w j || is_atom_of a (node_at T.nodes j))
      unfolding atom_nodes_of is with_nodes
      atom_nodes_entered =
          let r = entered_nodes (node_count T) (omega arith) in
          (r.0, r.1, lists_agree (node_count T) (with_nodes (node_count T)) (λ j. w j || is_atom_of a (node_at T.nodes j)) r.0 (λ j i. rw (lt-ltb j (node_count T) i)) r.2)

  module _ (good : Consistent T) (I J : Interpretation) where
    -- an Atom node of a changed atom below a
    changed_node : ℕ → Node → Bool
    changed_node a (Atom x) = ltb x a && unlike (I x) (J x)
    changed_node a False = false
    changed_node a (Implies l r) = false
    changed_node a (And s c) = false
    changed_node a (Or s c) = false
    changed_node a Unknown = false

    changed_next : (a : ℕ) (b : Bool) → unlike (I a) (J a) ≡ b → (node : Node) → changed_node a node || b && is_atom_of a node ≡ changed_node (suc a) node
    unfolding changed_node
    changed_next a b e (Atom x) = ⊎_elim
        (λ z. rw (z, le-ltb a a (omega arith), eq-eqb a a refl, lt-ltb a (suc a) (omega arith), e) (and-true b))
        (λ z. rw (ne_eqb x a z, and-false b, ltb-suc a x (λ y. z (sym y))) (or-false (ltb x (suc a) && unlike (I x) (J x))))
        (equal_or x a)
    changed_next a b e False = and-false b
    changed_next a b e (Implies l r) = and-false b
    changed_next a b e (And s c) = and-false b
    changed_next a b e (Or s c) = and-false b
    changed_next a b e Unknown = and-false b

    changed_none : (node : Node) → false ≡ changed_node 0 node
    unfolding changed_node
    changed_none (Atom x) = rw (le-ltb x 0 (omega arith))
    changed_none False = refl
    changed_none (Implies l r) = refl
    changed_none (And s c) = refl
    changed_none (Or s c) = refl
    changed_none Unknown = refl

    changed_all : (node : Node) → ((a : ℕ) → node ≡ Atom a → a < atom_count T) → changed_node (atom_count T) node ≡ touched_node I J node
    unfolding changed_node
    changed_all (Atom x) h = rw (lt-ltb x (atom_count T) (h x refl))
    changed_all False h = refl
    changed_all (Implies l r) h = refl
    changed_all (And s c) h = refl
    changed_all (Or s c) h = refl
    changed_all Unknown h = refl

    waits : ℕ → ℕ → Bool
    waits a j = changed_node a (node_at T.nodes j)

    -- the evaluation when the atoms below a are as J has them, by its worklist
    turning : ℕ → Worklist → Evaluation
    turning a L = held T (truth T I) L (support T (truth T I)) (switched a I J) (false_root T (truth T I))

    -- those that wait then are on the worklist
    abbrev Waits : ℕ → Worklist → Type 0
    Waits a L = Lists (node_count T) (waits a) L

    turning_is : (a : ℕ) (L : Worklist) (c : ℕ → Bool) → ((j : ℕ) → c j ≡ switched (suc a) I J j)
        → held T (truth T I) L (support T (truth T I)) c (false_root T (truth T I)) ≡ turning (suc a) L
    unfolding turning
    turning_is a L c hc =
        held_agree T (truth T I) (truth T I) L (support T (truth T I)) (support T (truth T I)) c (switched (suc a) I J) (false_root T (truth T I)) (false_root T (truth T I))
        (λ j i. refl) (λ j i. refl) (λ j i. hc j) (λ j i. refl)

    present-turning : (a : ℕ) (L : Worklist) → a < atom_count T → present (turning a L) a ≡ I a
    unfolding turning
    present-turning a L l =
        present-held T (truth T I) L (support T (truth T I)) (switched a I J) (false_root T (truth T I)) a l ∙ switched-from a I J a (omega arith)

    module _ (a : ℕ) (L : Worklist) (x : Waits a L) where
      turned : a < atom_count T → unlike (I a) (J a) ≡ true → (L' : Worklist) × (atom_turned T J a (turning a L) ≡ Some (turning (suc a) L')) × Waits (suc a) L'
      unfolding atom_turned turning waits
      turned l e =
          let c = updated (switched a I J) a (J a) in
          let r = atom_nodes_entered (truth T I) (support T (truth T I)) c (false_root T (truth T I)) (waits a) a L x in (
            r.0,
            candidate-held T (truth T I) L (support T (truth T I)) (switched a I J) (false_root T (truth T I)) (λ d. and_then (atom_nodes_at T a) (all_entered T d)) a (J a) l
                ∙ rw (good.atom_nodes a l, r.1) (ap Some (turning_is a r.0 c (switched_next a I J))),
            lists_agree (node_count T) (λ j. waits a j || is_atom_of a (node_at T.nodes j)) (waits (suc a)) r.0 (λ j i. changed_next a true e (node_at T.nodes j)) r.2,
          )

      unturned : unlike (I a) (J a) ≡ false → (turning a L ≡ turning (suc a) L) × Waits (suc a) L
      unfolding turning waits
      unturned e = (
        turning_is a L (switched a I J)
            (λ j. sym (updated_same (switched a I J) a (J a) (switched-from a I J a (omega arith) ∙ unlike_false (I a) (J a) e) j) ∙ switched_next a I J j),
        lists_agree (node_count T) (waits a) (waits (suc a)) L (λ j i. sym (or-false (waits a j)) ∙ changed_next a false e (node_at T.nodes j)) x,
      )

      updated_turning : a < atom_count T → (L' : Worklist) × (atom_updated T J a (turning a L) ≡ Some (turning (suc a) L')) × Waits (suc a) L'
      unfolding atom_updated
      updated_turning l = rw (present-turning a L l) (go (unlike (I a) (J a)) refl)
        where
          go : (b : Bool) → unlike (I a) (J a) ≡ b
              → (L' : Worklist) × (cond b (atom_turned T J a (turning a L)) (Some (turning a L)) ≡ Some (turning (suc a) L')) × Waits (suc a) L'
          go true e = turned l e
          go false e = let r = unturned e in (L, ap Some r.0, r.1)

    start_turning : (a : ℕ) (L : Worklist) → Waits 0 L → a ≤ atom_count T → (L' : Worklist) × (walk_start T J a (turning 0 L) ≡ Some (turning a L')) × Waits a L'
    unfolding walk_start
    start_turning zero L x l = (L, refl, x)
    start_turning (suc a) L x l =
        let r = start_turning a L x (omega arith) in
        let q = updated_turning a r.0 r.2 (omega arith) in
        (q.0, rw r.1 q.1, q.2)

    turning-fresh : fresh T I ≡ turning 0 (worklist_of (λ k. false) (node_count T))
    unfolding fresh summary turning
    turning-fresh =
        held_agree T (truth T I) (truth T I) (worklist_of (λ k. false) (node_count T)) (support T (truth T I)) (support T (truth T I)) I (switched 0 I J) (false_root T (truth T I)) (false_root T (truth T I))
        (λ j i. refl) (λ j i. refl) (λ j i. sym (switched-from 0 I J j (omega arith))) (λ j i. refl)

    fresh_waits : Waits 0 (worklist_of (λ k. false) (node_count T))
    unfolding waits
    fresh_waits =
        lists_agree (node_count T) (λ k. false) (waits 0) (worklist_of (λ k. false) (node_count T)) (λ j i. changed_none (node_at T.nodes j)) (lists_of (node_count T) (λ k. false))

    turning_all : (L : Worklist) → turning (atom_count T) L ≡ summary T (truth T I) L J
    unfolding turning summary
    turning_all L =
        held_agree T (truth T I) (truth T I) L (support T (truth T I)) (support T (truth T I)) (switched (atom_count T) I J) J (false_root T (truth T I)) (false_root T (truth T I))
        (λ j i. refl) (λ j i. refl) (λ j i. switched_below (atom_count T) I J j i) (λ j i. refl)

    all_waits : (L : Worklist) → Waits (atom_count T) L → Lists (node_count T) (touched T I J) L
    unfolding waits touched
    all_waits L x = lists_agree (node_count T) (waits (atom_count T)) (touched T I J) L (λ j i. changed_all (node_at T.nodes j) (λ a e. atom_lower T j a (good.node j i) e)) x

    -- the walk begins with the new candidate and its missing atoms, and the atom nodes of the changed atoms on the worklist
    pub start_fresh : (L : Worklist) × Lists (node_count T) (touched T I J) L × (walk_start T J (atom_count T) (fresh T I) ≡ Some (summary T (truth T I) L J))
    start_fresh =
        let r = start_turning (atom_count T) (worklist_of (λ k. false) (node_count T)) fresh_waits (omega arith) in
        (r.0, all_waits r.0 r.2, ap (walk_start T J (atom_count T)) turning-fresh ∙ r.1 ∙ ap Some (turning_all r.0))

    -- a fresh evaluation's candidate has atoms alone
    no_stray : ltb (next 32 (fresh T I).candidate (atom_count T)) (32 * length (fresh T I).candidate) ≡ false
    unfolding fresh summary held next
    no_stray = le-ltb (lowest (member 32 ws) (atom_count T) (32 * length ws - atom_count T)) (32 * length ws) (omega (arith, none))
      where
        ws : List ℕ
        ws = set_of I (atom_count T)

        room : atom_count T ≤ 32 * length ws
        room = rw (length-set_of I (atom_count T)) (omega arith)

        none : 32 * length ws ≡ lowest (member 32 ws) (atom_count T) (32 * length ws - atom_count T)
        none = lowest-only (member 32 ws) (atom_count T) (32 * length ws - atom_count T) (32 * length ws) (record {
          from = room;
          within = omega arith;
          before = λ k a b. member_above I (atom_count T) k a;
          here = λ h. absurd (omega (arith, room));
        })

    -- the kept walk to J on the evaluation of I goes over the dirty nodes, rising, and ends with the evaluation of J
    pub kept_fresh : kept_walk T J (fresh T I) ≡ ended (places (dirty T I J) 0 (node_count T)) (fresh T J)
    unfolding kept_walk
    kept_fresh =
        let r = start_fresh in
        ap (λ b. cond b (broken 0) (walk_from T (walk_start T J (atom_count T) (fresh T I)))) no_stray
        ∙ ap (walk_from T) (r.2 ∙ ap Some (midway_start T good I J r.0))
        ∙ walk_midway T good I J (node_count T) 0 (suc (node_count T)) r.0 (waits_start T good I J r.0 r.1) (zero-add (node_count T)) (omega arith)
