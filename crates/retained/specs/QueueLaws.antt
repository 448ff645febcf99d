-- The worklist inside the lent words: a node enters it, or its first leaves.
-- Assumes nothing.
use Rattle.std.specs.Prelude.{ℕ, ◌<◌, ◌≤◌, ◌+◌, ◌-◌, ◌*◌, ◌/◌, ◌%◌, ◌^◌, Bool, not, ◌&&◌, List, ltb, take, drop, Option, Some, None}
use Rattle.std.proofs.Common.{arith, ◌∙◌, length-set, length-drop, length-take-le}
use Rattle.std.proofs.Math.Path.{◌≡◌, refl, ap, sym}
use Rattle.std.proofs.Math.Bool.{true, false, cond}
use Rattle.std.specs.Int.Bits.{bit_and}
use Rattle.std.specs.Int.Count.{count_trailing_zeros}
use Rattle.std.proofs.Math.Dec.{eqb}
use Rattle.std.proofs.Math.ListN.{length, get_or, set}
use Rattle.std.proofs.Math.Seq.{get_or-set_same, get_or-set_other}
use borrow.Author.Tests.{eqb-true, eq-eqb, ne_eqb, lt-ltb, le-ltb}
use Rattle.words.specs.BitLaws.{trailing_below}
use Rattle.words.specs.Next.{next}
use Rattle.words.specs.NextLaws.{next-hit}
use Rattle.words.specs.Sets.{inserted, removed}
use Rattle.words.specs.SetLaws.{length_removed}
use Rattle.kept.specs.SetOf.{words32}
use Rattle.kept.specs.CountedSet.{and_then, CountedSet, with_bit, with_member}
use Rattle.kept.specs.Worklist.{Worklist, with_first, with_far, behind, remembering, alone, before, with_node, filled, advanced, advance, sought_filled, far_next, next_filled, forgotten, without_first}
use Rattle.kept.specs.Tables.{Tables, node_count}
use Rattle.kept.specs.Evaluation.{Evaluation}
use Rattle.kept.specs.Parts.{with_worklist}
use Rattle.kept.specs.Step.{entered}
use Rattle.kept.specs.Layout.{of_words, written, worklist_start, groups_start, used}
use Rattle.kept.specs.LayoutLaws.{Fits, fits_of}
use Rattle.kept_laws.specs.OptionLaws.{some_is, then_some}
use Rattle.kept_laws.specs.Stores.{with_members, with_others, with_groups}
use Rattle.kept_laws.specs.FitsLaws.{worklist_fits, length_members, behind_is}
use Rattle.kept_laws.specs.Written.{written_same, of_written, length-written, put_worklist, put_worklist_size, put_first, put_far, put_groups, get_worklist, get_worklist_size, get_first, get_far, get_far_size, get_groups, part_groups}
use Rattle.kept_laws.specs.Wrote.{Wrote, beside_same, beside_written, wrote_some, wrote_none, wrote_done, wrote_out_of_range, wrote_then, mid_holds, Changing, done, out_of_range}
use Rattle.retained.specs.Member.{digit_put, bit_put, member_put, Put}
use Rattle.retained.specs.MemberLaws.{put_wrote}
use Rattle.retained.specs.Changes.{waiting, put_behind, other_behind, advanced_to, drained, dequeued}
use Rattle.retained.specs.Groups.{regrouped}
use Rattle.words.specs.TakeOffLaws.{digit_off}

-- a part of the words as long as it is lent
pub lent_long : (at k : ℕ) (ws : List ℕ) → at + k ≤ length ws → length (take (at + k - at) (drop at ws)) ≡ k
lent_long at k ws l =
    let i : at + k - at ≡ k = omega arith in
    rw i (length-take-le k (drop at ws) (rw (length-drop at ws) (omega arith)))

module _ (T : Tables) (ws : List ℕ) (long : used T ≤ length ws) where
  abbrev e : Evaluation
  e = of_words T ws

  abbrev w : Worklist
  w = e.worklist

  fits : Fits T e
  fits = fits_of T ws long

  -- ---- a group's digit

  module _ (q : ℕ) (l : q < node_count T) (x : Bool) where
    digits : (d : Evaluation) (x : Bool) → set d.worklist.groups (q / 32) (digit_put (get_or d.worklist.groups (q / 32) 0) (q % 32) x) ≡ with_bit d.worklist.groups q x
    unfolding with_bit inserted removed
    digits d true = refl
    digits d false = refl

    pub group_stored : (d : Evaluation) → Fits T d
        → bit_put (groups_start T) q x (written T ws d) ≡ written T ws (with_worklist d (with_groups d.worklist (with_bit d.worklist.groups q x)))
    unfolding bit_put
    group_stored d f =
        ap (λ v. set (written T ws d) (groups_start T + q / 32) (digit_put v (q % 32) x)) loaded
        ∙ put_groups T ws long d f (q / 32) (digit_put (get_or d.worklist.groups (q / 32) 0) (q % 32) x) (omega arith)
        ∙ ap (λ c. written T ws (with_worklist d (with_groups d.worklist c))) (digits d x)
      where
        loaded : get_or (written T ws d) (groups_start T + q / 32) 0 ≡ get_or d.worklist.groups (q / 32) 0
        loaded = get_groups T (written T ws d) (rw (length-written T ws long d f) long) (q / 32) (omega arith) ∙ ap (λ y. get_or y.worklist.groups (q / 32) 0) (of_written T ws long d f)

  -- the groups lent as a slice
  pub group_in : (q r : ℕ) → r ≡ next 32 (take (used T - groups_start T) (drop (groups_start T) ws)) q → r ≡ next 32 w.groups q
  group_in q r h = h ∙ ap (λ y. next 32 y q) (part_groups T ws long)

  -- ---- a node behind the first

  abbrev put : CountedSet → Evaluation
  put o = with_worklist e (with_others w o)

  others_fit : (o : CountedSet) → length o.members ≡ length w.others.members → Fits T (put o)
  others_fit o h = worklist_fits T e (with_others w o) (record { members = h; groups = refl }) fits

  others_wrote : (m : ℕ) → m < node_count T → (ok : Changing) (after : List ℕ) → Put ws (member_put (worklist_start T) 4 (node_count T) m true ws) ok after
      → Wrote T ws (and_then (with_member (node_count T) w.others m true) (λ o. Some (put o))) ok after
  others_wrote m l =
      put_wrote T ws (worklist_start T) 4 (node_count T) w.others put (written_same T ws long) m true (get_worklist T ws long (m / 32) (omega arith)) (get_worklist_size T ws)
      (λ v n.
      ap (λ x. set (set x (worklist_start T + m / 32) v) 4 n) (sym (written_same T ws long))
      ∙ ap (λ x. set x 4 n) (put_worklist T ws long e fits (m / 32) v (omega arith))
      ∙ put_worklist_size T ws long (put (with_members w.others (set w.others.members (m / 32) v)))
      (others_fit (with_members w.others (set w.others.members (m / 32) v)) (length-set w.others.members (m / 32) v)) n)

  module _ (m : ℕ) (l : m < node_count T) (ok : Changing) (mid : List ℕ) (h : Put ws (member_put (worklist_start T) 4 (node_count T) m true ws) ok mid) where
    abbrev others : Option CountedSet
    others = with_member (node_count T) w.others m true

    grouped : CountedSet → Worklist
    grouped o = record { first = w.first; far = w.far; far_size = w.far_size; others = o; groups = inserted 32 w.groups (m / 32) }

    pub wait_done : ok ≡ done → Wrote T ws (waiting T m e) done (bit_put (groups_start T) (m / 32) true mid)
    unfolding waiting behind with_bit grouped
    wait_done p =
        let r = wrote_done T ws (and_then others (λ o. Some (put o))) mid ok (others_wrote m l ok mid h) p in
        let t = then_some others (λ o. Some (put o)) r.0 r.1 in
        let q : mid ≡ written T ws (put t.0) = r.2 ∙ ap (written T ws) (sym (some_is (put t.0) r.0 t.2)) in
        wrote_some T ws (waiting T m e) (bit_put (groups_start T) (m / 32) true mid) (with_worklist e (grouped t.0))
        (ap (λ o. and_then (and_then o (λ o. Some (grouped o))) (λ v. Some (with_worklist e v))) t.1)
        (ap (bit_put (groups_start T) (m / 32) true) q ∙ group_stored (m / 32) (omega arith) true (put t.0) (others_fit t.0 (length_members (node_count T) w.others m true t.0 t.1)))

    pub wait_none : ok ≡ out_of_range → Wrote T ws (waiting T m e) out_of_range mid
    unfolding waiting behind
    wait_none p =
        let r = wrote_out_of_range T ws (and_then others (λ o. Some (put o))) mid ok (others_wrote m l ok mid h) p in
        wrote_none T ws (waiting T m e) mid (rw (not_then others r.0)) r.1
      where
        not_then : (o : Option CountedSet) → and_then o (λ o. Some (put o)) ≡ None → o ≡ None
        not_then None h = refl
        not_then (Some o) h = let z : ◌≡◌ {A = ℕ} 0 1 = cc in absurd (omega arith)

  -- ---- one of the two behind the other

  module _ (m o : ℕ) (ok : Changing) (mid : List ℕ) (h : Wrote T ws (waiting T o e) ok mid) where
    put_none : ok ≡ out_of_range → put_behind T o e ≡ None
    unfolding waiting put_behind
    put_none p = not_then (behind (node_count T) w o) (wrote_out_of_range T ws (waiting T o e) mid ok h p).0
      where
        not_then : (v : Option Worklist) → and_then v (λ v. Some (with_worklist e v)) ≡ None
            → and_then (and_then v (λ v. Some (remembering o v))) (λ v. Some (with_worklist e v)) ≡ None
        not_then None q = refl
        not_then (Some v) q = let z : ◌≡◌ {A = ℕ} 0 1 = cc in absurd (omega arith)

    pub put_behind_none : ok ≡ out_of_range → Wrote T ws (other_behind T m o e) out_of_range mid
    unfolding other_behind
    put_behind_none p =
        let r = wrote_out_of_range T ws (waiting T o e) mid ok h p in
        wrote_none T ws (other_behind T m o e) mid (go (eqb o m) refl) r.1
      where
        go : (b : Bool) → eqb o m ≡ b → cond b (waiting T m e) (put_behind T o e) ≡ None
        go true i = ap (λ x. waiting T x e) (sym (eqb-true o m i)) ∙ (wrote_out_of_range T ws (waiting T o e) mid ok h p).0
        go false i = put_none p

    pub put_behind_same : ok ≡ done → o ≡ m → Wrote T ws (other_behind T m o e) done mid
    unfolding other_behind
    put_behind_same p i = rw (eq-eqb o m i) (rw (p, i) at h)

    module _ (p : ok ≡ done) (ne : o ≡ m → ⊥) where
      waited : (v : Worklist) × (behind (node_count T) w o ≡ Some v) × (mid ≡ written T ws (with_worklist e v))
      unfolding waiting
      waited =
          let r = wrote_done T ws (waiting T o e) mid ok h p in
          let t = then_some (behind (node_count T) w o) (λ v. Some (with_worklist e v)) r.0 r.1 in
          (t.0, t.1, r.2 ∙ ap (written T ws) (sym (some_is (with_worklist e t.0) r.0 t.2)))

      abbrev v : Worklist
      v = waited.0

      v_fits : Fits T (with_worklist e v)
      v_fits = worklist_fits T e v (behind_is (node_count T) w o v waited.1).0 fits

      holds : of_words T mid ≡ with_worklist e v
      holds = mid_holds T ws mid (with_worklist e v) long v_fits waited.2

      remembered : (r : Worklist) → remembering o v ≡ r → other_behind T m o e ≡ Some (with_worklist e r)
      unfolding other_behind put_behind
      remembered r i = rw (ne_eqb o m ne, waited.1, i)

      far_is : get_or mid 6 0 ≡ v.far
      far_is = get_far T mid ∙ ap (λ d. d.worklist.far) holds

      pub put_behind_far : o < get_or mid 6 0 → Wrote T ws (other_behind T m o e) done mid
      unfolding remembering
      put_behind_far l = wrote_some T ws (other_behind T m o e) mid (with_worklist e v) (remembered v (rw (lt-ltb o v.far (rw far_is at l)))) waited.2

      pub put_behind_done : get_or mid 6 0 ≤ o → Wrote T ws (other_behind T m o e) done (set (set mid 6 o) 7 (get_or (set mid 6 o) 4 0))
      unfolding remembering
      put_behind_done l =
          let size : get_or (set mid 6 o) 4 0 ≡ v.others.size =
          get_or-set_other mid 6 4 o 0 (λ z. omega arith) ∙ get_worklist_size T mid ∙ ap (λ d. d.worklist.others.size) holds in
          wrote_some T ws (other_behind T m o e) (set (set mid 6 o) 7 (get_or (set mid 6 o) 4 0)) (with_worklist e (with_far v o v.others.size))
          (remembered (with_far v o v.others.size) (rw (le-ltb o v.far (rw far_is at l))))
          (ap (set (set mid 6 o) 7) size ∙ ap (λ y. set (set y 6 o) 7 v.others.size) waited.2 ∙ put_far T ws long (with_worklist e v) v_fits o v.others.size)

  -- ---- a node enters

  queue_behind : (m : ℕ) (ok : Changing) (after : List ℕ) → get_or ws 5 0 < m → Wrote T ws (waiting T m e) ok after → Wrote T ws (entered T m e) ok after
  unfolding entered with_node waiting
  queue_behind m ok after l h = rw (lt-ltb w.first m (rw (get_first T ws) at l)) h

  pub queue_same : (m : ℕ) → m ≡ get_or ws 5 0 → Wrote T ws (entered T m e) done ws
  unfolding entered with_node
  queue_same m p = wrote_some T ws (entered T m e) ws e (ap (λ x. and_then x (λ v. Some (with_worklist e v))) (same (p ∙ get_first T ws))) (sym (written_same T ws long))
    where
      same : m ≡ w.first → with_node (node_count T) w m ≡ Some w
      same i = rw (le-ltb w.first m (omega (arith, i)), eq-eqb m w.first i)

  -- the first replaced
  first_stored : (m : ℕ) → set ws 5 m ≡ written T ws (with_worklist e (with_first w m))
  first_stored m = ap (λ x. set x 5 m) (sym (written_same T ws long)) ∙ put_first T ws long e fits m

  first_fits : (m : ℕ) → Fits T (with_worklist e (with_first w m))
  first_fits m = worklist_fits T e (with_first w m) (record { members = refl; groups = refl }) fits

  module _ (m : ℕ) (l : m < get_or ws 5 0) where
    lower : m < w.first
    lower = rw (get_first T ws) at l

    passed : (a b : Option Worklist) → cond (ltb w.first m) a (cond (eqb m w.first) (Some w) b) ≡ b
    passed a b = rw (le-ltb w.first m (omega (arith, lower)), ne_eqb m w.first (λ z. omega (arith, lower, z)))

    comes_first : node_count T ≤ w.first → with_node (node_count T) w m ≡ alone (node_count T) w m
    unfolding with_node
    comes_first n =
        passed (behind (node_count T) w m) (cond (ltb w.first (node_count T)) (before (node_count T) w m) (alone (node_count T) w m))
        ∙ ap (λ b. cond b (before (node_count T) w m) (alone (node_count T) w m)) (le-ltb w.first (node_count T) n)

    -- none waited, or the first points past the nodes
    queue_first : node_count T ≤ get_or ws 5 0 → Wrote T ws (entered T m e) (cond (eqb (get_or ws 5 0) (node_count T)) done out_of_range) (set ws 5 m)
    unfolding entered alone
    queue_first n = go (eqb (get_or ws 5 0) (node_count T)) refl
      where
        found : (b : Bool) → eqb (get_or ws 5 0) (node_count T) ≡ b → entered T m e ≡ and_then (cond b (Some (with_first w m)) None) (λ v. Some (with_worklist e v))
        found b p =
            ap (λ x. and_then x (λ v. Some (with_worklist e v)))
            (comes_first (rw (get_first T ws) at n) ∙ ap (λ c. cond c (Some (with_first w m)) None) (ap (λ x. eqb x (node_count T)) (sym (get_first T ws)) ∙ p))

        go : (b : Bool) → eqb (get_or ws 5 0) (node_count T) ≡ b → Wrote T ws (entered T m e) (cond b done out_of_range) (set ws 5 m)
        go true p = wrote_some T ws (entered T m e) (set ws 5 m) (with_worklist e (with_first w m)) (found true p) (first_stored m)
        go false p =
            wrote_none T ws (entered T m e) (set ws 5 m) (found false p)
            (rw (first_stored m) (beside_written T ws (with_worklist e (with_first w m)) long (first_fits m)))

    queue_lower : (ok : Changing) (after : List ℕ) → get_or ws 5 0 < node_count T
        → Wrote T (set ws 5 m) (put_behind T (get_or ws 5 0) (of_words T (set ws 5 m))) ok after → Wrote T ws (entered T m e) ok after
    unfolding entered with_node before put_behind
    queue_lower ok after n h =
        let d : Evaluation = with_worklist e (with_first w m) in
        let i : of_words T (set ws 5 m) ≡ d = mid_holds T ws (set ws 5 m) d long (first_fits m) (first_stored m) in
        let g = wrote_then T ws (set ws 5 m) d long (first_fits m) (first_stored m) (put_behind T (get_or ws 5 0) (of_words T (set ws 5 m))) ok after h in
        let s : put_behind T (get_or ws 5 0) (of_words T (set ws 5 m)) ≡ put_behind T w.first d = rw (i, get_first T ws) in
        rw (passed (behind (node_count T) w m) (cond (ltb w.first (node_count T)) (before (node_count T) w m) (alone (node_count T) w m)), lt-ltb w.first (node_count T) (rw (get_first T ws) at n))
        (rw s at g)

  module _ (m first : ℕ) (is : first ≡ get_or ws 5 0) where
    -- the first was at the number of nodes, or above it
    pub queue_alone : m < first → node_count T ≤ first → Wrote T ws (entered T m e) (cond (eqb first (node_count T)) done out_of_range) (set ws 5 m)
    queue_alone l n = rw is (queue_first m (omega (arith, is)) (omega (arith, is)))

    pub queue_only : m < first → first ≡ node_count T → Wrote T ws (entered T m e) done (set ws 5 m)
    queue_only l n = rw (eq-eqb first (node_count T) n) at (queue_alone l (omega (arith, n)))

    pub queue_astray : m < first → node_count T ≤ first → (first ≡ node_count T → ⊥) → Wrote T ws (entered T m e) out_of_range (set ws 5 m)
    queue_astray l n ne = rw (ne_eqb first (node_count T) ne) at (queue_alone l n)

    -- the other of the two goes on
    module _ (other : ℕ) (mid : List ℕ) (ok : Changing) (after : List ℕ) (h : Wrote T mid (other_behind T m other (of_words T mid)) ok after) where
      pub queue_before : m < first → first < node_count T → mid ≡ set ws 5 m → other ≡ first → Wrote T ws (entered T m e) ok after
      unfolding other_behind
      queue_before l n p q =
          queue_lower m (omega (arith, is)) ok after (omega (arith, is))
          (rw (ne_eqb (get_or ws 5 0) m (λ z. omega (arith, is))) at (rw (p, q ∙ is) at h))

      pub queue_after : first < m → mid ≡ ws → other ≡ m → Wrote T ws (entered T m e) ok after
      unfolding other_behind
      queue_after l p q = queue_behind m ok after (omega (arith, is)) (rw (eq-eqb m m refl) at (rw (p, q) at h))

  -- ---- the first leaves

  far_size_is : get_or (set ws 5 (node_count T)) 7 0 ≡ w.far_size
  far_size_is = get_or-set_other ws 5 7 (node_count T) 0 (λ z. omega arith) ∙ get_far_size T ws

  pub drain_none : get_or (set ws 5 (node_count T)) 7 0 ≡ 0 → set ws 5 (node_count T) ≡ written T ws (drained T e)
  unfolding drained forgotten
  drain_none z = first_stored (node_count T) ∙ rw (eq-eqb w.far_size 0 (sym far_size_is ∙ z))

  pub drain_far : (get_or (set ws 5 (node_count T)) 7 0 ≡ 0 → ⊥) → set (set (set ws 5 (node_count T)) 6 0) 7 0 ≡ written T ws (drained T e)
  unfolding drained forgotten
  drain_far ne =
      ap (λ y. set (set y 6 0) 7 0) (first_stored (node_count T)) ∙ put_far T ws long (with_worklist e (with_first w (node_count T))) (first_fits (node_count T)) 0 0
      ∙ rw (ne_eqb w.far_size 0 (λ z. ne (far_size_is ∙ z)))

  pub dequeue_last : (after : List ℕ) → get_or ws 4 0 ≡ 0 → after ≡ written T ws (drained T e) → Wrote T ws (dequeued T e) done after
  unfolding dequeued without_first drained
  dequeue_last after z h = rw (eq-eqb w.others.size 0 (sym (get_worklist_size T ws) ∙ z)) (refl, h)

  -- the next word with members, after node k; b: whether it is that of the node remembered
  module _ (k : ℕ) (first : get_or ws 5 0 ≡ k) (inside : k < node_count T) (b : Bool) (test : b ≡ (eqb (get_or ws 4 0) (get_or ws 7 0) && ltb k (get_or ws 6 0))) where
    far_told : far_next w ≡ b
    unfolding far_next of_words
    far_told = rw first (sym test)

    pub next_far : (q : ℕ) → b ≡ true → q ≡ get_or ws 6 0 → next_filled w ≡ q / 32
    unfolding next_filled
    next_far q y i = rw (far_told ∙ y) (ap (λ x. x / 32) (sym (i ∙ get_far T ws)))

    sought : b ≡ false → next_filled w ≡ sought_filled w
    unfolding next_filled
    sought y = rw (far_told ∙ y)

    here : get_or ws (worklist_start T + k / 32) 0 ≡ get_or w.others.members (w.first / 32) 0
    here = get_worklist T ws long (k / 32) (omega arith) ∙ ap (λ i. get_or w.others.members (i / 32) 0) (sym first ∙ get_first T ws)

    pub next_here : b ≡ false → (get_or ws (worklist_start T + k / 32) 0 ≡ 0 → ⊥) → next_filled w ≡ k / 32
    unfolding sought_filled filled
    next_here y ne = sought y ∙ rw (ne_eqb (get_or w.others.members (w.first / 32) 0) 0 (λ z. ne (here ∙ z))) (ap (λ i. i / 32) (sym (get_first T ws) ∙ first))

    pub next_beyond : (q : ℕ) → b ≡ false → get_or ws (worklist_start T + k / 32) 0 ≡ 0 → q ≡ next 32 w.groups (k / 32) → next_filled w ≡ q
    unfolding sought_filled filled
    next_beyond q y z group =
        sought y
        ∙ rw (eq-eqb (get_or w.others.members (w.first / 32) 0) 0 (sym here ∙ z))
        (ap (λ i. next 32 w.groups (i / 32)) (sym (get_first T ws) ∙ first) ∙ sym group)

  module _ (some-wait : get_or ws 4 0 ≡ 0 → ⊥) (q : ℕ) (found_word : next_filled w ≡ q) where
    waits : eqb w.others.size 0 ≡ false
    waits = ne_eqb w.others.size 0 (λ z. some-wait (get_worklist_size T ws ∙ z))

    pub dequeue_astray : words32 (node_count T) ≤ q → Wrote T ws (dequeued T e) out_of_range ws
    unfolding dequeued without_first advance
    dequeue_astray l = wrote_none T ws (dequeued T e) ws (rw (waits, found_word, le-ltb q (words32 (node_count T)) l)) (beside_same T ws)

    pub dequeue_next : (ok : Changing) (after : List ℕ) → Wrote T ws (advanced_to T q e) ok after → Wrote T ws (dequeued T e) ok after
    unfolding dequeued without_first advanced_to
    dequeue_next ok after h = rw (waits, found_word) h

  -- its lowest other, in word q
  module _ (q : ℕ) (l : q < words32 (node_count T)) where
    abbrev x : ℕ
    x = get_or ws (worklist_start T + q) 0

    abbrev m : ℕ
    m = 32 * q + count_trailing_zeros 32 x

    word : x ≡ get_or w.others.members q 0
    word = get_worklist T ws long q l

    pub advance_empty : x ≡ 0 → Wrote T ws (advanced_to T q e) out_of_range ws
    unfolding advanced_to advance filled
    advance_empty z = wrote_none T ws (advanced_to T q e) ws (rw (lt-ltb q (words32 (node_count T)) l, eq-eqb (get_or w.others.members q 0) 0 (sym word ∙ z))) (beside_same T ws)

    module _ (ne : x ≡ 0 → ⊥) (small : x < 2 ^ 32) where
      full : filled w.others.members q ≡ true
      unfolding filled
      full = rw (ne_eqb (get_or w.others.members q 0) 0 (λ z. ne (word ∙ z)))

      found : next 32 w.others.members (32 * q) ≡ m
      found = next-hit 32 w.others.members q (omega arith) (omega (arith, fits.worklist)) (rw word at small) (λ z. ne (word ∙ z)) ∙ ap (λ y. 32 * q + count_trailing_zeros 32 y) (sym word)

      pub advance_low : m ≤ get_or ws 5 0 → Wrote T ws (advanced_to T q e) out_of_range ws
      unfolding advanced_to advance
      advance_low h =
          wrote_none T ws (advanced_to T q e) ws
          (rw (found, lt-ltb q (words32 (node_count T)) l, full, le-ltb w.first m (rw (get_first T ws) at h))) (beside_same T ws)

      -- the words that the code stores
      abbrev t : ℕ
      t = count_trailing_zeros 32 x

      abbrev left : ℕ
      left = bit_and x (x - 1)

      below : t < 32
      below = trailing_below 32 32 x (omega (arith, ne)) small (omega arith)

      removed_is : set w.others.members q left ≡ removed 32 w.others.members m
      unfolding removed
      removed_is =
          let a : m / 32 ≡ q = omega (arith, below) in
          let b : m % 32 ≡ t = omega (arith, below) in
          rw (a, b, ← word) (ap (set w.others.members q) (digit_off 32 x (omega (arith, ne)) small))

      abbrev d1 : Evaluation
      d1 = put (with_members w.others (set w.others.members q left))

      fits1 : Fits T d1
      fits1 = others_fit (with_members w.others (set w.others.members q left)) (length-set w.others.members q left)

      stored1 : set ws (worklist_start T + q) left ≡ written T ws d1
      stored1 = ap (λ y. set y (worklist_start T + q) left) (sym (written_same T ws long)) ∙ put_worklist T ws long e fits q left l

      groups : List ℕ
      groups = cond (eqb left 0) (removed 32 w.groups q) w.groups

      abbrev d2 : Evaluation
      d2 = with_worklist d1 (with_groups d1.worklist groups)

      stored2 : regrouped (groups_start T) q left (set ws (worklist_start T + q) left) ≡ written T ws d2
      unfolding regrouped groups with_bit
      stored2 = ap (λ y. cond (eqb left 0) (bit_put (groups_start T) q false y) y) stored1 ∙ go (eqb left 0)
        where
          go : (b : Bool) → cond b (bit_put (groups_start T) q false (written T ws d1)) (written T ws d1)
              ≡ written T ws (with_worklist d1 (with_groups d1.worklist (cond b (removed 32 w.groups q) w.groups)))
          go true = group_stored q (omega arith) false d1 fits1
          go false = refl

      fits2 : Fits T d2
      unfolding groups
      fits2 = worklist_fits T d1 (with_groups d1.worklist groups) (record { members = refl; groups = go (eqb left 0) }) fits1
        where
          go : (b : Bool) → length (cond b (removed 32 w.groups q) w.groups) ≡ length w.groups
          go true = length_removed 32 w.groups q
          go false = refl

      -- after the group
      abbrev mid : List ℕ
      mid = regrouped (groups_start T) q left (set ws (worklist_start T + q) left)

      pub count_stays : get_or mid 4 0 ≡ get_or ws 4 0
      count_stays = get_worklist_size T mid ∙ ap (λ y. (of_words T y).worklist.others.size) stored2 ∙ ap (λ y. y.worklist.others.size) (of_written T ws long d2 fits2) ∙ sym (get_worklist_size T ws)

      after : List ℕ → Worklist
      after g = record { first = m; far = w.far; far_size = w.far_size; others = record { members = set w.others.members q left; size = w.others.size - 1 }; groups = g }

      advanced_is : w.first < m → advance (node_count T) w q m ≡ Some (after groups)
      unfolding advance advanced groups filled after
      advanced_is h =
          rw (lt-ltb q (words32 (node_count T)) l, lt-ltb w.first m h, ne_eqb (get_or w.others.members q 0) 0 (λ z. ne (word ∙ z)), ← removed_is, get_or-set_same w.others.members q left 0 (omega (arith, fits.worklist)))
          (go (eqb left 0))
        where
          go : (b : Bool) → ◌≡◌ {A = Option Worklist} (Some (after (cond (not b) w.groups (removed 32 w.groups q)))) (Some (after (cond b (removed 32 w.groups q) w.groups)))
          go true = refl
          go false = refl

      pub advance_done : get_or ws 5 0 < m → Wrote T ws (advanced_to T q e) done (set (set mid 4 (get_or mid 4 0 - 1)) 5 m)
      unfolding advanced_to after
      advance_done h =
          wrote_some T ws (advanced_to T q e) (set (set mid 4 (get_or mid 4 0 - 1)) 5 m) d4
          (rw found (ap (λ o. and_then o (λ v. Some (with_worklist e v))) (advanced_is (rw (get_first T ws) at h))))
          (ap (λ n. set (set mid 4 (n - 1)) 5 m) (count_stays ∙ get_worklist_size T ws)
          ∙ ap (λ y. set (set y 4 (w.others.size - 1)) 5 m) stored2
          ∙ ap (λ y. set y 5 m) (put_worklist_size T ws long d2 fits2 (w.others.size - 1))
          ∙ put_first T ws long d3 fits3 m)
        where
          d3 : Evaluation
          d3 = with_worklist d2 (with_others d2.worklist (record { members = set w.others.members q left; size = w.others.size - 1 }))

          d4 : Evaluation
          d4 = with_worklist d3 (with_first d3.worklist m)

          fits3 : Fits T d3
          fits3 = worklist_fits T d2 (with_others d2.worklist (record { members = set w.others.members q left; size = w.others.size - 1 })) (record { members = refl; groups = refl }) fits2
