-- What all the readers of a node make of a held evaluation.
-- Assumes nothing.
use Prim.Native.Nat.{ℕ, zero, suc, ◌<◌, ◌≤◌, ◌+◌, ◌^◌}
use native.Mathlib.Omega.{arith}
use Rattle.std.specs.Prelude.{◌≡◌, false, cond, ◌&&◌, ◌||◌, replicate, Some}
use Rattle.std.proofs.Math.Path.{refl, ap, sym}
use Rattle.std.proofs.Common.{◌∙◌}
use Rattle.std.proofs.Math.Logic.{⊎_elim}
use Rattle.std.proofs.Math.Bool.{Bool, true, not, or-false, or-true, and-false}
use mathlib.Core.List.{List, [], ◌∷◌, ◌++◌, map, map-append}
use Rattle.std.proofs.Math.Dec.{eqb, ltb}
use borrow.Author.Tests.{eqb-true, eqb-false, eq-eqb, ne_eqb, lt-ltb, le-ltb}
use Rattle.base.specs.Tests.{equal_or}
use Rattle.base.specs.Each.{Each}
use Rattle.base.specs.Places.{places, count, count_agree, count_most}
use Rattle.readers.specs.Joined.{joined, joined-more}
use Rattle.readers.specs.Reader.{node_reader, producer_reader, root_reader, reading_of, packed_read}
use Rattle.readers.specs.Readers.{occurrences, reading_node, readers_of}
use Rattle.kept.specs.PlaceLaws.{last_yes, last_no}
use Rattle.kept.specs.Tabulate.{updated, updated_here, updated_there, updated_is, switched, switched_below, switched-from, switched_other}
use Rattle.kept.specs.SetOfLaws.{ltb-suc}
use Rattle.kept.specs.CountedSet.{and_then, moved}
use Rattle.kept.specs.Worklist.{Worklist, Lists}
use Rattle.kept.proofs.WorklistLaws.{lists_agree, node_entered}
use Rattle.kept.proofs.CountedSetLaws.{count_more}
use Rattle.kept.specs.Tables.{Tables, node_count, root_count, root_at, head_at, body_at, operands_at}
use Rattle.kept.specs.Evaluation.{Evaluation, held, body_true, supports, support, false_root}
use Rattle.kept.specs.Step.{reader_updated, readers_updated}
use Rattle.kept.specs.PlainWalk.{among}
use Rattle.kept.specs.Consistent.{Consistent, readers_in, operands_lower}
use Rattle.kept.proofs.HeldLaws.{held_agree, support_agree, roots_agree, node_told, root_told, producer-told, told-append}

occurs_lower : (k m : ℕ) (xs : List ℕ) → Each (λ o. o < m) xs → 0 < occurrences k xs → k < m
unfolding occurrences
occurs_lower k m [] h l = absurd (omega arith)
occurs_lower k m (x ∷ xs) h l = go (eqb x k) refl (occurs_lower k m xs h.1) l
  where
    go : (b : Bool) → eqb x k ≡ b → (0 < occurrences k xs → k < m) → 0 < cond b (suc (occurrences k xs)) (occurrences k xs) → k < m
    go true e ih l = omega (arith, h.0, eqb-true x k e)
    go false e ih l = ih l

-- one element told alone
told_one : (T : Tables) (k : ℕ) (t : Bool) (e d : Evaluation) (x : ℕ) → reader_updated T k t e (reading_of x) ≡ Some d → readers_updated T k t e (x ∷ []) ≡ Some d
unfolding readers_updated
told_one T k t e d x h = rw h

module _ (T : Tables) (good : Consistent T) where
  within : (n i : ℕ) → n ≤ 262144 → i < n → i < 2 ^ 62
  within n i l h = omega arith

  -- ---- the nodes that read k

  module _ (k : ℕ) (t : Bool) (v : ℕ → Bool) (s : ℕ → ℕ) (c f : ℕ → Bool) where
    -- once the readers xs are told, the worklist lists the nodes of p
    abbrev Told : Worklist → List ℕ → (ℕ → Bool) → Type 0
    Told L xs p = (L' : Worklist) × (readers_updated T k t (held T v L s c f) xs ≡ Some (held T v L' s c f)) × Lists (node_count T) p L'

    repeated_told : (w : ℕ → Bool) (L : Worklist) (m n : ℕ) → Lists (node_count T) w L → m < node_count T → (0 < n → k < m)
        → Told L (replicate n (node_reader m)) (λ j. w j || eqb j m && not (eqb n 0))
    unfolding readers_updated
    repeated_told w L m zero x l h =
        (L, refl, lists_agree (node_count T) w (λ j. w j || eqb j m && false) L (λ j i. sym (rw (and-false (eqb j m)) (or-false (w j)))) x)
    repeated_told w L m (suc n) x l h =
        let a = node_entered w (node_count T) m L x l in
        let b = repeated_told (updated w m true) a.0 m n a.2 l (λ i. h (omega arith)) in (
          b.0,
          rw (packed_read 0 m (within (node_count T) m good.limited.nodes l), node_told T v L s c f k m t a.0 (h (omega arith)) l a.1) b.1,
          lists_agree (node_count T) (λ j. updated w m true j || eqb j m && not (eqb n 0)) (λ j. w j || eqb j m && not (eqb (suc n) 0)) b.0 (λ j i. here j) b.2,
        )
      where
        here : (j : ℕ) → updated w m true j || eqb j m && not (eqb n 0) ≡ w j || eqb j m && not (eqb (suc n) 0)
        here j = ⊎_elim
            (λ e. rw (eq-eqb j m e, e, updated_here w m true, ne_eqb (suc n) 0 (λ z. omega arith)) (sym (or-true (w m))))
            (λ e. rw (ne_eqb j m e, updated_there w m true j e))
            (equal_or j m)

    nodes_told : (w : ℕ → Bool) (L : Worklist) (n : ℕ) → Lists (node_count T) w L → n ≤ node_count T
        → Told L (joined (reading_node T.nodes T.operands k) 0 n) (λ j. w j || ltb j n && among k (operands_at T j))
    unfolding joined readers_updated reading_node operands_at among
    nodes_told w L zero x l =
        (L, refl, lists_agree (node_count T) w (λ j. w j || ltb j 0 && among k (operands_at T j)) L (λ j i. sym (rw (le-ltb j 0 (omega arith)) (or-false (w j)))) x)
    nodes_told w L (suc n) x l =
        let a = nodes_told w L n x (omega arith) in
        let b = repeated_told old a.0 n (occurrences k (operands_at T n)) a.2 (omega arith) (occurs_lower k n (operands_at T n) (operands_lower T n (good.node n (omega arith)))) in (
          b.0,
          ap (readers_updated T k t (held T v L s c f)) (joined-more (reading_node T.nodes T.operands k) n)
              ∙ told-append T k t (held T v L s c f) (joined (reading_node T.nodes T.operands k) 0 n) (reading_node T.nodes T.operands k n)
              ∙ ap (λ o. and_then o (λ d. readers_updated T k t d (reading_node T.nodes T.operands k n))) a.1
              ∙ b.1,
          lists_agree (node_count T) (λ j. old j || eqb j n && among k (operands_at T n)) (λ j. w j || ltb j (suc n) && among k (operands_at T j)) b.0 (λ j i. here j) b.2,
        )
      where
        old : ℕ → Bool
        old j = w j || ltb j n && among k (operands_at T j)

        here : (j : ℕ) → old j || eqb j n && among k (operands_at T n) ≡ w j || ltb j (suc n) && among k (operands_at T j)
        here j = ⊎_elim
            (λ e. rw (e, le-ltb n n (omega arith), eq-eqb n n refl, lt-ltb n (suc n) (omega arith)) (ap (λ b. b || among k (operands_at T n)) (or-false (w n))))
            (λ e. rw (ne_eqb j n e, ltb-suc n j (λ z. e (sym z))) (or-false (w j || ltb j (suc n) && among k (operands_at T j))))
            (equal_or j n)

  -- ---- the producers with body k: those below p count by the new truth

  module _ (v u : ℕ → Bool) where
    counting : ℕ → ℕ → ℕ → Bool
    counting p a q = eqb (head_at T q) a && switched p (λ q. body_true v (body_at T q)) (λ q. body_true u (body_at T q)) q

    support_up_to : ℕ → ℕ → ℕ
    support_up_to p a = count (counting p a) 0 T.made

    counting_other : (p a q : ℕ) → (q ≡ p → ⊥) → counting p a q ≡ counting (suc p) a q
    unfolding counting
    counting_other p a q h = ap (λ b. eqb (head_at T q) a && b) (switched_other p _ _ q h)

    -- producer p does not matter to atom a
    counting_idle : (p a : ℕ) → counting p a p ≡ counting (suc p) a p → support_up_to p a ≡ support_up_to (suc p) a
    unfolding support_up_to
    counting_idle p a e = count_agree (counting p a) (counting (suc p) a) 0 T.made (λ q i l. ⊎_elim (λ z. rw z e) (counting_other p a q) (equal_or q p))

    counting_before : (p a : ℕ) → counting p a p ≡ eqb (head_at T p) a && body_true v (body_at T p)
    unfolding counting
    counting_before p a = ap (λ b. eqb (head_at T p) a && b) (switched-from p _ _ p (omega arith))

    counting_after : (p a : ℕ) → counting (suc p) a p ≡ eqb (head_at T p) a && body_true u (body_at T p)
    unfolding counting
    counting_after p a = ap (λ b. eqb (head_at T p) a && b) (switched_below (suc p) _ _ p (omega arith))

    support_none : (a : ℕ) → support T v a ≡ support_up_to 0 a
    unfolding support supports support_up_to counting
    support_none a = count_agree _ _ 0 T.made (λ q i l. ap (λ b. eqb (head_at T q) a && b) (sym (switched-from 0 _ _ q (omega arith))))

    support_all : (a : ℕ) → support_up_to T.made a ≡ support T u a
    unfolding support supports support_up_to counting
    support_all a = count_agree _ _ 0 T.made (λ q i l. ap (λ b. eqb (head_at T q) a && b) (switched_below T.made _ _ q (omega arith)))

  body_here : (v : ℕ → Bool) (k b : ℕ) → b ≡ k + 1 → body_true v b ≡ v k
  unfolding body_true
  body_here v k zero e = absurd (omega arith)
  body_here v k (suc b) e = let z : b ≡ k = omega arith in rw z

  body_other : (v : ℕ → Bool) (k : ℕ) (t : Bool) (b : ℕ) → (b ≡ k + 1 → ⊥) → body_true v b ≡ body_true (updated v k t) b
  unfolding body_true
  body_other v k t zero h = refl
  body_other v k t (suc b) h = sym (updated_there v k t b (λ e. h (omega arith)))

  module _ (k : ℕ) (t : Bool) (v : ℕ → Bool) (was : v k ≡ not t) where
    abbrev u : ℕ → Bool
    u = updated v k t

    abbrev sum : ℕ → ℕ → ℕ
    sum = support_up_to v u

    -- the support of the head of a producer with body k moves by one
    support_moved_lem : (p : ℕ) → p < T.made → body_at T p ≡ k + 1 → moved T.made t (sum p (head_at T p)) ≡ Some (sum (suc p) (head_at T p))
    unfolding support_up_to moved
    support_moved_lem p l e = go t refl
      where
        h : ℕ
        h = head_at T p

        before : counting v u p h p ≡ not t
        before = counting_before v u p h ∙ rw (eq-eqb h h refl) (body_here v k (body_at T p) e ∙ was)

        later : counting v u (suc p) h p ≡ t
        later = counting_after v u p h ∙ rw (eq-eqb h h refl) (body_here u k (body_at T p) e ∙ updated_here v k t)

        go : (b : Bool) → t ≡ b → moved T.made b (count (counting v u p h) 0 T.made) ≡ Some (count (counting v u (suc p) h) 0 T.made)
        go true z =
            let more : count (counting v u (suc p) h) 0 T.made ≡ suc (count (counting v u p h) 0 T.made) =
            count_more (counting v u p h) (counting v u (suc p) h) T.made p l (counting_other v u p h) (before ∙ ap not z) (later ∙ z) in
            rw (lt-ltb (count (counting v u p h) 0 T.made) T.made (omega (arith, count_most (counting v u (suc p) h) 0 T.made))) (ap Some (sym more))
        go false z =
            let more : count (counting v u p h) 0 T.made ≡ suc (count (counting v u (suc p) h) 0 T.made) =
            count_more (counting v u (suc p) h) (counting v u p h) T.made p l (λ q n. sym (counting_other v u p h q n)) (later ∙ z) (before ∙ ap not z) in
            rw (more, moved)

    abbrev body_is : ℕ → Bool
    body_is i = eqb (body_at T i) (k + 1)

    producers-told : (x : ℕ → Bool) (w : Worklist) (c f : ℕ → Bool) (p : ℕ) → p ≤ T.made
        → readers_updated T k t (held T x w (sum 0) c f) (map producer_reader (places body_is 0 p)) ≡ Some (held T x w (sum p) c f)
    unfolding readers_updated places
    producers-told x w c f zero l = refl
    producers-told x w c f (suc p) l = go (body_is p) refl (producers-told x w c f p (omega arith))
      where
        start : Evaluation
        start = held T x w (sum 0) c f

        other : (body_at T p ≡ k + 1 → ⊥) → (a : ℕ) → sum p a ≡ sum (suc p) a
        other n a = counting_idle v u p a (counting_before v u p a ∙ ap (λ b. eqb (head_at T p) a && b) (body_other v k t (body_at T p) n) ∙ sym (counting_after v u p a))

        apart : (a : ℕ) → (a ≡ head_at T p → ⊥) → sum p a ≡ sum (suc p) a
        apart a n = counting_idle v u p a (counting_before v u p a ∙ rw (ne_eqb (head_at T p) a (λ e. n (sym e))) (sym (counting_after v u p a ∙ rw (ne_eqb (head_at T p) a (λ e. n (sym e))))))

        go : (b : Bool) → body_is p ≡ b → readers_updated T k t start (map producer_reader (places body_is 0 p)) ≡ Some (held T x w (sum p) c f)
            → readers_updated T k t start (map producer_reader (places body_is 0 (suc p))) ≡ Some (held T x w (sum (suc p)) c f)
        go true e ih =
            ap (λ ps. readers_updated T k t start (map producer_reader ps)) (last_yes body_is p e)
            ∙ ap (readers_updated T k t start) (map-append producer_reader (places body_is 0 p) (p ∷ []))
            ∙ told-append T k t start (map producer_reader (places body_is 0 p)) (producer_reader p ∷ [])
            ∙ ap (λ o. and_then o (λ d. readers_updated T k t d (producer_reader p ∷ []))) ih
            ∙ told_one T k t (held T x w (sum p) c f) (held T x w (updated (sum p) (head_at T p) (sum (suc p) (head_at T p))) c f) (producer_reader p) (
            rw (packed_read 2 p (within (root_count T) p good.limited.roots (omega (arith, good.few))))
            (producer-told T x w (sum p) c f k p (sum (suc p) (head_at T p)) t (omega arith) (good.head p (omega arith)) (support_moved_lem p (omega arith) (eqb-true (body_at T p) (k + 1) e))))
            ∙ ap Some (support_agree T x w (updated (sum p) (head_at T p) (sum (suc p) (head_at T p))) (sum (suc p)) c f (λ a i. updated_is (sum p) (sum (suc p)) (head_at T p) (sum (suc p) (head_at T p)) refl apart a))
        go false e ih =
            ap (λ ps. readers_updated T k t start (map producer_reader ps)) (last_no body_is p e)
            ∙ ih ∙ ap Some (support_agree T x w (sum p) (sum (suc p)) c f (λ a i. other (eqb-false (body_at T p) (k + 1) e) a))

    -- ---- the roots at k: those below r by the new truth

    abbrev root_is : ℕ → Bool
    root_is i = eqb (root_at T i) k

    abbrev roots_up_to : ℕ → ℕ → Bool
    roots_up_to r = switched r (false_root T v) (false_root T u)

    roots_told : (x : ℕ → Bool) (w : Worklist) (s : ℕ → ℕ) (c : ℕ → Bool) (r : ℕ) → r ≤ root_count T
        → readers_updated T k t (held T x w s c (roots_up_to 0)) (map root_reader (places root_is 0 r)) ≡ Some (held T x w s c (roots_up_to r))
    unfolding readers_updated places false_root
    roots_told x w s c zero l = refl
    roots_told x w s c (suc r) l = go (root_is r) refl (roots_told x w s c r (omega arith))
      where
        start : Evaluation
        start = held T x w s c (roots_up_to 0)

        turned : root_at T r ≡ k → not t ≡ roots_up_to (suc r) r
        turned e = sym (switched_below (suc r) (false_root T v) (false_root T u) r (omega arith) ∙ rw (e, updated_here v k t))

        same : (root_at T r ≡ k → ⊥) → roots_up_to r r ≡ roots_up_to (suc r) r
        same n =
            switched-from r (false_root T v) (false_root T u) r (omega arith) ∙ ap not (sym (updated_there v k t (root_at T r) n))
            ∙ sym (switched_below (suc r) (false_root T v) (false_root T u) r (omega arith))

        others : (j : ℕ) → (j ≡ r → ⊥) → roots_up_to r j ≡ roots_up_to (suc r) j
        others = switched_other r (false_root T v) (false_root T u)

        go : (b : Bool) → root_is r ≡ b → readers_updated T k t start (map root_reader (places root_is 0 r)) ≡ Some (held T x w s c (roots_up_to r))
            → readers_updated T k t start (map root_reader (places root_is 0 (suc r))) ≡ Some (held T x w s c (roots_up_to (suc r)))
        go true e ih =
            ap (λ rs. readers_updated T k t start (map root_reader rs)) (last_yes root_is r e)
            ∙ ap (readers_updated T k t start) (map-append root_reader (places root_is 0 r) (r ∷ []))
            ∙ told-append T k t start (map root_reader (places root_is 0 r)) (root_reader r ∷ [])
            ∙ ap (λ o. and_then o (λ d. readers_updated T k t d (root_reader r ∷ []))) ih
            ∙ told_one T k t (held T x w s c (roots_up_to r)) (held T x w s c (updated (roots_up_to r) r (not t))) (root_reader r) (
            rw (packed_read 3 r (within (root_count T) r good.limited.roots (omega arith)))
            (root_told T x w s c (roots_up_to r) k r t (omega arith)))
            ∙ ap Some (roots_agree T x w s c (updated (roots_up_to r) r (not t)) (roots_up_to (suc r)) (λ j i. updated_is (roots_up_to r) (roots_up_to (suc r)) r (not t) (turned (eqb-true (root_at T r) k e)) others j))
        go false e ih =
            ap (λ rs. readers_updated T k t start (map root_reader rs)) (last_no root_is r e)
            ∙ ih
            ∙ ap Some (roots_agree T x w s c (roots_up_to r) (roots_up_to (suc r)) (λ j i. ⊎_elim (λ z. rw z (same (eqb-false (root_at T r) k e))) (others j) (equal_or j r)))

    -- node k has become t: its readers bring the summary along, and the nodes that read it onto the worklist
    pub readers-told : (w : ℕ → Bool) (L : Worklist) (c : ℕ → Bool) → Lists (node_count T) w L
        → (L' : Worklist)
        × (readers_updated T k t (held T (updated v k t) L (support T v) c (false_root T v)) (readers_in T k)
        ≡ Some (held T (updated v k t) L' (support T (updated v k t)) c (false_root T (updated v k t))))
        × Lists (node_count T) (λ j. w j || ltb j (node_count T) && among k (operands_at T j)) L'
    unfolding readers_of
    readers-told w L c x =
        let a = nodes_told k t u (sum 0) c (roots_up_to 0) w L (node_count T) x (omega arith) in (
          a.0,
          ap (λ e. readers_updated T k t e (node_list ++ (producer_list ++ root_list))) start
              ∙ told-append T k t (held T u L (sum 0) c (roots_up_to 0)) node_list (producer_list ++ root_list)
              ∙ ap (λ o. and_then o (λ d. readers_updated T k t d (producer_list ++ root_list))) a.1
              ∙ told-append T k t (held T u a.0 (sum 0) c (roots_up_to 0)) producer_list root_list
              ∙ ap (λ o. and_then o (λ d. readers_updated T k t d root_list)) (producers-told u a.0 c (roots_up_to 0) T.made (omega arith))
              ∙ roots_told u a.0 (sum T.made) c (root_count T) (omega arith)
              ∙ ap Some (finish a.0),
          a.2,
        )
      where
        node_list : List ℕ
        node_list = joined (reading_node T.nodes T.operands k) 0 (node_count T)

        producer_list : List ℕ
        producer_list = map producer_reader (places body_is 0 T.made)

        root_list : List ℕ
        root_list = map root_reader (places root_is 0 (root_count T))

        start : held T u L (support T v) c (false_root T v) ≡ held T u L (sum 0) c (roots_up_to 0)
        start =
            held_agree T u u L (support T v) (sum 0) c c (false_root T v) (roots_up_to 0) (λ j l. refl) (λ a l. support_none v u a) (λ a l. refl)
            (λ r l. sym (switched-from 0 (false_root T v) (false_root T u) r (omega arith)))

        finish : (L' : Worklist) → held T u L' (sum T.made) c (roots_up_to (root_count T)) ≡ held T u L' (support T u) c (false_root T u)
        finish L' =
            held_agree T u u L' (sum T.made) (support T u) c c (roots_up_to (root_count T)) (false_root T u) (λ j l. refl) (λ a l. support_all v u a) (λ a l. refl)
            (λ r l. switched_below (root_count T) (false_root T v) (false_root T u) r l)
