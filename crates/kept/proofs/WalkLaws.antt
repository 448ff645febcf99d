-- The walk from the evaluation of one candidate to that of another, node by node.
-- Assumes nothing.
use Prim.Native.Nat.{ℕ, zero, suc, ◌<◌, ◌≤◌, ◌+◌}
use native.Mathlib.Omega.{arith}
use Rattle.std.proofs.Common.{not-suc-le-zero, add-one, ◌∙◌, subst}
use Rattle.std.specs.Prelude.{◌≡◌, Bool, cond, ◌&&◌, ◌||◌, List, [], ◌∷◌, map, leb}
use Rattle.std.proofs.Math.Path.{refl, ap, sym}
use Rattle.std.proofs.Math.Bool.{true, false, not, or-false, or-true, and-false, or_assoc}
use Rattle.std.proofs.Math.Dec.{eqb, ltb}
use borrow.Author.Tests.{eqb-true, eqb-false, eq-eqb, ne_eqb, ltb-true, ltb-false, lt-ltb, le-ltb, le-leb, lt-leb}
use Rattle.base.specs.Tests.{neither_left, neither_right}
use Rattle.base.specs.Each.{Each, map_agree}
use Rattle.base.specs.Places.{places, places-yes, places_no, count_agree}
use Rattle.formula.specs.Satisfaction.{Interpretation}
use Rattle.theory.specs.Node.{node_at}
use Rattle.theory.specs.NodeTruth.{any_true}
use Rattle.theory.specs.declared.Node.TheVariants.{Atom}
use Rattle.words.specs.Changed.{unlike}
use Rattle.readers.specs.Readers.{occurrences}
use Rattle.kept.specs.Tabulate.{updated, updated_here, updated_there, updated_same, switched, switched_below, switched-from, switched_next}
use Rattle.kept.specs.SetOfLaws.{ltb-suc}
use Rattle.kept.proofs.CountedSetLaws.{unlike_false, unlike_same}
use Rattle.kept.specs.Worklist.{Worklist, worklist_of, Lists}
use Rattle.kept.proofs.WorklistLaws.{lists_agree, lists_of, lists_none, first-none}
use Rattle.kept.specs.Tables.{Tables, atom_count, node_count, root_at, head_at, body_at, operands_at}
use Rattle.kept.specs.Evaluation.{Evaluation, held, truth, body_true, supports, support, false_root, summary, fresh}
use Rattle.kept.specs.Step.{idle, took, step_at, step}
use Rattle.kept.specs.Dirty.{touched_node, touched, flips, dirty}
use Rattle.kept.specs.Walk.{ended, walk}
use Rattle.kept.specs.Consistent.{Consistent, operands_lower}
use Rattle.kept.proofs.HeldLaws.{held_agree}
use Rattle.kept.specs.PlainWalk.{among, truth_by, waiting_after}
use Rattle.kept.proofs.StepLaws.{truth_agree, truth_lower, truth_step, step_summary}

-- ---- tests of the operands of a node

any_agree : (d e : ℕ → Bool) (k : ℕ) (xs : List ℕ) → Each (λ o. o < k) xs → ((o : ℕ) → o < k → d o ≡ e o) → any_true (map d xs) ≡ any_true (map e xs)
any_agree d e k xs l h = ap any_true (map_agree (λ o. o < k) d e xs l h)

among-cons : (k x : ℕ) (xs : List ℕ) → among k (x ∷ xs) ≡ eqb x k || among k xs
unfolding among occurrences
among-cons k x xs = go (eqb x k)
  where
    go : (b : Bool) → not (eqb (cond b (suc (occurrences k xs)) (occurrences k xs)) 0) ≡ b || not (eqb (occurrences k xs) 0)
    go true = rw (ne_eqb (suc (occurrences k xs)) 0 (λ z. omega arith))
    go false = refl

among_none : (k j : ℕ) (xs : List ℕ) → Each (λ o. o < j) xs → j ≤ k → among k xs ≡ false
unfolding among occurrences
among_none k j [] h l = refl
among_none k j (x ∷ xs) h l = among-cons k x xs ∙ rw (ne_eqb x k (λ e. omega (arith, h.0))) (among_none k j xs h.1 l)

gain : (d a m : Bool) → d || (a || d && m) ≡ a || d && true
gain true a m = sym (or-true a)
gain false a m = refl

-- one node more below the bound
any_next : (d : ℕ → Bool) (k : ℕ) (xs : List ℕ) → any_true (map (λ o. ltb o (suc k) && d o) xs) ≡ any_true (map (λ o. ltb o k && d o) xs) || d k && among k xs
unfolding any_true among occurrences
any_next d k [] = sym (and-false (d k))
any_next d k (x ∷ xs) = rw (any_next d k xs, among-cons k x xs) (go (eqb x k) refl)
  where
    below : Bool
    below = any_true (map (λ o. ltb o k && d o) xs)

    go : (b : Bool) → eqb x k ≡ b → ltb x (suc k) && d x || (below || d k && among k xs) ≡ (ltb x k && d x || below) || d k && (b || among k xs)
    go true e = rw (eqb-true x k e, lt-ltb k (suc k) (omega arith), le-ltb k k (omega arith)) (gain (d k) below (among k xs))
    go false e = rw (ltb-suc k x (λ z. eqb-false x k e (sym z))) (sym (or_assoc (ltb x (suc k) && d x) below (d k && among k xs)))

none_each : (f g : ℕ → Bool) (xs : List ℕ) → any_true (map (λ o. unlike (f o) (g o)) xs) ≡ false → Each (λ o. f o ≡ g o) xs
unfolding any_true
none_each f g [] e = tt
none_each f g (x ∷ xs) e = (
  unlike_false (f x) (g x) (neither_left (unlike (f x) (g x)) (any_true (map (λ o. unlike (f o) (g o)) xs)) e),
  none_each f g xs (neither_right (unlike (f x) (g x)) (any_true (map (λ o. unlike (f o) (g o)) xs)) e),
)

-- nothing waits in a fresh evaluation
pub fresh_idle : (T : Tables) (J : Interpretation) → step T (fresh T J) ≡ idle
unfolding step step_at fresh summary held
fresh_idle T J = rw (first-none (λ k. false) (node_count T) (worklist_of (λ k. false) (node_count T)) (lists_of (node_count T) (λ k. false)) (λ j h. refl), le-ltb (node_count T) (node_count T) (omega arith), eq-eqb (node_count T) (node_count T) refl)

any_zero : (d : ℕ → Bool) (xs : List ℕ) → any_true (map (λ o. ltb o 0 && d o) xs) ≡ false
unfolding any_true
any_zero d [] = refl
any_zero d (x ∷ xs) = rw (le-ltb x 0 (omega arith)) (any_zero d xs)

module _ (T : Tables) (good : Consistent T) where
  lower : (k : ℕ) → k < node_count T → Each (λ o. o < k) (operands_at T k)
  lower k l = operands_lower T k (good.node k l)

  -- ---- a summary goes by the truths of nodes

  body_agree : (v v' : ℕ → Bool) → ((k : ℕ) → k < node_count T → v k ≡ v' k) → (b : ℕ) → b ≤ node_count T → body_true v b ≡ body_true v' b
  unfolding body_true
  body_agree v v' h zero l = refl
  body_agree v v' h (suc b) l = h b (omega arith)

  support_agrees : (v v' : ℕ → Bool) → ((k : ℕ) → k < node_count T → v k ≡ v' k) → (a : ℕ) → support T v a ≡ support T v' a
  unfolding support supports
  support_agrees v v' h a = count_agree _ _ 0 T.made (λ p i l. ap (λ b. eqb (head_at T p) a && b) (body_agree v v' h (body_at T p) (good.body p (omega arith))))

  pub summary_agree : (v v' : ℕ → Bool) (w : Worklist) (c c' : ℕ → Bool) → ((k : ℕ) → k < node_count T → v k ≡ v' k)
      → ((a : ℕ) → a < atom_count T → c a ≡ c' a) → summary T v w c ≡ summary T v' w c'
  unfolding summary false_root
  summary_agree v v' w c c' hv hc =
      held_agree T v v' w (support T v) (support T v') c c' (false_root T v) (false_root T v') hv (λ a l. support_agrees v v' hv a) hc
      (λ r l. ap not (hv (root_at T r) (good.root r l)))

  module _ (I J : Interpretation) where
    -- on the worklist when the nodes below k have been gone over
    pub waiting : ℕ → ℕ → Bool
    waiting k j = leb k j && (touched T I J j || any_true (map (λ o. ltb o k && flips T I J o) (operands_at T j)))

    -- the truths then
    mixed : ℕ → ℕ → Bool
    mixed k = switched k (truth T I) (truth T J)

    -- the evaluation then, by its worklist
    pub midway : ℕ → Worklist → Evaluation
    midway k L = summary T (mixed k) L J

    -- those that wait then are on the worklist
    abbrev pub Waits : ℕ → Worklist → Type 0
    Waits k L = Lists (node_count T) (waiting k) L

    -- a node that is not dirty keeps its truth
    clean : (k : ℕ) → k < node_count T → dirty T I J k ≡ false → truth T I k ≡ truth T J k
    unfolding dirty touched flips
    clean k l e =
        truth_step T I k l (good.node k l)
        ∙ truth_agree T I J (truth T I) (truth T J) k atom (none_each (truth T I) (truth T J) (operands_at T k) (neither_right (touched T I J k) (any_true (map (flips T I J) (operands_at T k))) e))
        ∙ sym (truth_step T J k l (good.node k l))
      where
        atom : (a : ℕ) → node_at T.nodes k ≡ Atom a → I a ≡ J a
        atom a i = unlike_false (I a) (J a) (sym (ap (touched_node I J) i) ∙ neither_left (touched T I J k) (any_true (map (flips T I J) (operands_at T k))) e)

    -- the next node waits exactly if it is dirty, and none below it waits
    waiting_here : (k : ℕ) → k < node_count T → waiting k k ≡ dirty T I J k
    unfolding waiting dirty
    waiting_here k l =
        rw (le-leb k k (omega arith))
        (ap (λ x. touched T I J k || x) (any_agree (λ o. ltb o k && flips T I J o) (flips T I J) k (operands_at T k) (lower k l) (λ o i. rw (lt-ltb o k i))))

    waiting_below : (k j : ℕ) → j < k → waiting k j ≡ false
    unfolding waiting
    waiting_below k j l = rw (lt-leb k j l)

    -- off with k, on with those that read it if it flips
    waiting_next : (k j : ℕ) → k < node_count T → j < node_count T → updated (waiting k) k false j || flips T I J k && among k (operands_at T j) ≡ waiting (suc k) j
    unfolding waiting
    waiting_next k j l m = go (eqb j k) refl (ltb j k) refl
      where
        go : (b : Bool) → eqb j k ≡ b → (c : Bool) → ltb j k ≡ c → updated (waiting k) k false j || flips T I J k && among k (operands_at T j) ≡ waiting (suc k) j
        go true e c f =
            let x : j ≡ k = eqb-true j k e in
            rw (x, updated_here (waiting k) k false, among_none k k (operands_at T k) (lower k l) (omega arith), lt-leb (suc k) k (omega arith)) (and-false (flips T I J k))
        go false e true f =
            let x : j < k = ltb-true j k f in
            rw (updated_there (waiting k) k false j (eqb-false j k e), lt-leb k j x, among_none k j (operands_at T j) (lower j m) (omega arith), lt-leb (suc k) j (omega arith)) (and-false (flips T I J k))
        go false e false f =
            let x : k ≤ j = ltb-false j k f in
            rw (updated_there (waiting k) k false j (eqb-false j k e), le-leb k j x, le-leb (suc k) j (omega (arith, eqb-false j k e)), any_next (flips T I J) k (operands_at T j))
            (or_assoc (touched T I J j) (any_true (map (λ o. ltb o k && flips T I J o) (operands_at T j))) (flips T I J k && among k (operands_at T j)))

    mixed_here : (k : ℕ) → mixed k k ≡ truth T I k
    unfolding mixed
    mixed_here k = switched-from k (truth T I) (truth T J) k (omega arith)

    mixed_next : (k j : ℕ) → updated (mixed k) k (truth T J k) j ≡ mixed (suc k) j
    unfolding mixed
    mixed_next k j = switched_next k (truth T I) (truth T J) j

    -- the node's truth by the mixed truths is the new one
    mixed_truth : (k : ℕ) → k < node_count T → truth_by T J (mixed k) k ≡ truth T J k
    unfolding mixed
    mixed_truth k l =
        truth_lower T J (mixed k) (truth T J) k (good.node k l) (λ o i. switched_below k (truth T I) (truth T J) o i)
        ∙ sym (truth_step T J k l (good.node k l))

    midway_step : (k : ℕ) (L : Worklist) → Waits k L → k < node_count T → dirty T I J k ≡ true
        → (L' : Worklist) × Waits (suc k) L' × (step T (midway k L) ≡ took k (midway (suc k) L'))
    unfolding midway waiting_after flips
    midway_step k L x l e =
        let r = step_summary T good (mixed k) (waiting k) J L x k l (waiting_here k l ∙ e) (waiting_below k) in
        let t : truth_by T J (mixed k) k ≡ truth T J k = mixed_truth k l in (
          r.0,
          lists_agree (node_count T) (waiting_after T (mixed k) (waiting k) k (truth_by T J (mixed k) k)) (waiting (suc k)) r.0
              (λ j i. ap (λ b. waiting_after T (mixed k) (waiting k) k b j) t
              ∙ ap (λ b. updated (waiting k) k false j || unlike b (truth T J k) && among k (operands_at T j)) (mixed_here k) ∙ waiting_next k j l i)
              r.1,
          r.2 ∙ ap (took k) (summary_agree (updated (mixed k) k (truth_by T J (mixed k) k)) (mixed (suc k)) r.0 J J
              (λ j i. ap (λ b. updated (mixed k) k b j) t ∙ mixed_next k j)
              (λ a i. refl)),
        )

    midway_skip : (k : ℕ) (L : Worklist) → Waits k L → k < node_count T → dirty T I J k ≡ false → Waits (suc k) L × (midway k L ≡ midway (suc k) L)
    unfolding midway flips
    midway_skip k L x l e =
        let same : truth T I k ≡ truth T J k = clean k l e in (
          lists_agree (node_count T) (waiting k) (waiting (suc k)) L
              (λ j i. sym (updated_same (waiting k) k false (waiting_here k l ∙ e) j) ∙ sym (or-false (updated (waiting k) k false j))
              ∙ ap (λ b. updated (waiting k) k false j || b && among k (operands_at T j)) (sym (unlike_same (truth T I k) (truth T J k) same)) ∙ waiting_next k j l i)
              x,
          summary_agree (mixed k) (mixed (suc k)) L J J
              (λ j i. sym (updated_same (mixed k) k (truth T J k) (mixed_here k ∙ same) j) ∙ mixed_next k j)
              (λ a i. refl),
        )

    -- at the start the atom nodes of the changed atoms wait
    pub waits_start : (L : Worklist) → Lists (node_count T) (touched T I J) L → Waits 0 L
    unfolding waiting
    waits_start L x = lists_agree (node_count T) (touched T I J) (waiting 0) L
        (λ j i. rw (le-leb 0 j (omega arith), any_zero (flips T I J) (operands_at T j)) (sym (or-false (touched T I J j)))) x

    pub midway_start : (L : Worklist) → summary T (truth T I) L J ≡ midway 0 L
    unfolding midway mixed
    midway_start L = summary_agree (truth T I) (mixed 0) L J J (λ j i. sym (switched-from 0 (truth T I) (truth T J) j (omega arith))) (λ a i. refl)

    midway_end : (L : Worklist) → Waits (node_count T) L → midway (node_count T) L ≡ fresh T J
    unfolding midway mixed fresh
    midway_end L x =
        rw (lists_none (node_count T) (waiting (node_count T)) L x (waiting_below (node_count T)))
        (summary_agree (mixed (node_count T)) (truth T J) (worklist_of (λ k. false) (node_count T)) J J
        (λ j i. switched_below (node_count T) (truth T I) (truth T J) j i) (λ a i. refl))

    walk-fresh : (n : ℕ) → walk T n (fresh T J) ≡ ended [] (fresh T J)
    unfolding walk
    walk-fresh zero = refl
    walk-fresh (suc n) = rw (fresh_idle T J)

    -- the steps from k on
    pub walk_midway : (d k n : ℕ) (L : Worklist) → Waits k L → k + d ≡ node_count T → d ≤ n → walk T n (midway k L) ≡ ended (places (dirty T I J) k d) (fresh T J)
    unfolding places walk
    walk_midway zero k n L x e l =
        let p : k ≡ node_count T = omega arith in
        ap (walk T n) (ap (λ i. midway i L) p ∙ midway_end L (subst (λ i. Waits i L) p x)) ∙ walk-fresh n
    walk_midway (suc d) k n L x e l = go (dirty T I J k) refl n l (λ n M y. walk_midway d (k + 1) n M y (omega arith))
      where
        next : suc k ≡ k + 1
        next = sym (add-one k)

        go : (b : Bool) → dirty T I J k ≡ b → (n : ℕ) → suc d ≤ n
            → ((n : ℕ) (M : Worklist) → Waits (k + 1) M → d ≤ n → walk T n (midway (k + 1) M) ≡ ended (places (dirty T I J) (k + 1) d) (fresh T J))
            → walk T n (midway k L) ≡ ended (places (dirty T I J) k (suc d)) (fresh T J)
        go true p zero m ih = absurd (not-suc-le-zero m)
        go true p (suc n) m ih =
            let r = midway_step k L x (omega arith) p in
            rw (r.2, ap (λ i. midway i r.0) next, ih n r.0 (subst (λ i. Waits i r.0) next r.1) (omega arith), places-yes (dirty T I J) k d p)
        go false p n m ih =
            let r = midway_skip k L x (omega arith) p in
            ap (walk T n) (r.1 ∙ ap (λ i. midway i L) next) ∙ ih n L (subst (λ i. Waits i L) next r.0) (omega arith)
            ∙ ap (λ ks. ended ks (fresh T J)) (sym (places_no (dirty T I J) k d p))
