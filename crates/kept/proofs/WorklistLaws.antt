-- Laws of the worklist of a test: a node enters it, its first node leaves.
-- Assumes nothing.
use Rattle.std.specs.Prelude.{ℕ, ◌+◌, ◌-◌, ◌*◌, ◌/◌, ◌<◌, ◌≤◌, ◌≡◌, Bool, not, ◌&&◌, List, get_or, Some}
use Rattle.std.proofs.Common.{arith, sym, ◌∙◌, subst}
use Rattle.std.proofs.Math.Path.{refl, ap, ap₂, fun_ext}
use Rattle.std.proofs.Math.Logic.{⊎_elim}
use Rattle.std.proofs.Math.Bool.{true, false, cond, and-false, true≢false}
use Rattle.std.proofs.Math.Arith.{digits_div, digits_mod}
use Rattle.std.specs.Int.Count.{count_trailing_zeros}
use Rattle.std.proofs.Math.Dec.{eqb, ltb}
use Rattle.std.proofs.Math.Seq.{get_or-set_other}
use borrow.Author.Tests.{eqb-true, eq-eqb, ne_eqb, ltb-true, lt-ltb, le-ltb}
use Rattle.base.specs.Tests.{both_left, both_right, and-true, equal_or, below_or}
use Rattle.base.specs.Places.{count, count-split, count_agree, count_none, count-le, count_less, lowest, Lowest, lowest_is, lowest-only}
use Rattle.words.specs.Bit.{bit}
use Rattle.words.specs.BitLaws.{trailing_below, trailing_set}
use Rattle.words.specs.Sets.{member, inserted, removed}
use Rattle.words.specs.SetLaws.{member-zero}
use Rattle.words.specs.Next.{next}
use Rattle.kept.specs.Tabulate.{updated, updated_here, updated_there, updated_is, updated_same}
use Rattle.kept.specs.SetOf.{words32, set_of}
use Rattle.kept.specs.SetOfLaws.{small-set_of, member-set_of, member_below, set_of-agree, set_of-inserted, set_of-removed, next_found}
use Rattle.kept.specs.CountedSet.{counted_set, with_bit}
use Rattle.kept.proofs.CountedSetLaws.{count_more, count-zero, counted_agree, bit-set, member-set}
use Rattle.kept.specs.Worklist.{Worklist, with_far, behind, remembering, alone, before, with_node, filled, advanced, advance, sought_filled, far_next, next_filled, forgotten, without_first, but_lowest, worklist_of, Ahead, Remembers, Lists}

-- ---- a worklist by its first node, what it remembers, and the test of the others

unfoldable listed : ℕ → ℕ → ℕ → (ℕ → Bool) → ℕ → Worklist
listed f a s r n = record { first = f; far = a; far_size = s; others = counted_set r n; groups = set_of (filled (set_of r n)) n }

listed_same : (f a s : ℕ) (r r' : ℕ → Bool) (n : ℕ) → ((j : ℕ) → j < n → r j ≡ r' j) → listed f a s r n ≡ listed f a s r' n
unfolding listed
listed_same f a s r r' n h =
    λ i. record { first = f; far = a; far_size = s; others = counted_agree r r' n h i; groups = set_of (filled (set_of-agree r r' n h i)) n }

-- f is the lowest place of w, and r holds at the others
listed_is : (w : ℕ → Bool) (n f a s : ℕ) (r : ℕ → Bool) → Lowest w 0 n f → ((j : ℕ) → j < n → r j ≡ w j && not (eqb j f)) → listed f a s r n ≡ with_far (worklist_of w n) a s
unfolding worklist_of but_lowest listed
listed_is w n f a s r l h =
    let e : f ≡ lowest w 0 n = lowest-only w 0 n f l in
    listed_same f a s r (λ j. w j && not (eqb j f)) n h ∙ ap (λ x. listed x a s (λ j. w j && not (eqb j x)) n) e

-- ---- what is remembered

-- more of the others, as far as the node remembered is ahead
ahead_more : (n f f' a s : ℕ) (r r' : ℕ → Bool) → (f' < a → f < a) → (f' < a → (j : ℕ) → a ≤ j → r j ≡ true → r' j ≡ true) → Ahead n f a s r → Ahead n f' a s r'
ahead_more n f f' a s r r' up more x l =
    let p = x (up l) in
    (p.0, more l a (omega arith) p.1, omega (arith, p.2, count-le r r' a (n - a) (λ k i j. more l k i)))

remembers_same : (n f a s : ℕ) (r r' : ℕ → Bool) → ((j : ℕ) → j < n → r j ≡ r' j) → Remembers n f a s r → Remembers n f a s r'
remembers_same n f a s r r' h x = (
  (λ l.
      let p = x.0 l in
      (p.0, sym (h a p.0) ∙ p.1, omega (arith, p.2, count_agree r r' a (n - a) (λ k i j. h k (omega (arith, p.0)))))),
  x.1,
  x.2,
)

lists_is : (w : ℕ → Bool) (n f a s : ℕ) (r : ℕ → Bool) → Lowest w 0 n f → ((j : ℕ) → j < n → r j ≡ w j && not (eqb j f)) → Remembers n f a s r
    → Lists n w (listed f a s r n)
unfolding listed but_lowest
lists_is w n f a s r l h x = record {
  listed = listed_is w n f a s r l h;
  remembers = subst (λ y. Remembers n y a s (λ j. w j && not (eqb j y))) (lowest-only w 0 n f l) (remembers_same n f a s r (λ j. w j && not (eqb j f)) h x);
}

without : (w : ℕ → Bool) (k j : ℕ) → updated w k false j ≡ w j && not (eqb j k)
without w k =
    updated_is w (λ j. w j && not (eqb j k)) k false (rw (eq-eqb k k refl) (sym (and-false (w k))))
    (λ j h. rw (ne_eqb j k h) (sym (and-true (w j))))

-- ---- words that are not 0

filled-member : (ws : List ℕ) (i : ℕ) → member 32 ws i ≡ true → filled ws (i / 32) ≡ true
unfolding filled
filled-member ws i e = rw (ne_eqb (get_or ws (i / 32) 0) 0 (λ z. true≢false (sym e ∙ member-zero 32 ws i z)))

filled_none : (r : ℕ → Bool) (n q : ℕ) → ((j : ℕ) → j / 32 ≡ q → r j ≡ false) → filled (set_of r n) q ≡ false
unfolding filled member
filled_none r n q h = ⊎_elim (λ z. rw z) some_digit (equal_or x 0)
  where
    x : ℕ
    x = get_or (set_of r n) q 0

    t : ℕ
    t = count_trailing_zeros 32 x

    clear : t < 32 → bit x t ≡ false
    clear l =
        let m : bit x t ≡ ltb (q * 32 + t) n && r (q * 32 + t) = rw (digits_div q l, digits_mod q l) at (member-set_of r n (q * 32 + t)) in
        m ∙ rw (h (q * 32 + t) (digits_div q l)) (and-false (ltb (q * 32 + t) n))

    some_digit : (x ≡ 0 → ⊥) → not (eqb x 0) ≡ false
    some_digit ne =
        absurd (true≢false (sym (trailing_set 32 x (omega (arith, ne)) (small-set_of r n q)) ∙ clear (trailing_below 32 32 x (omega (arith, ne)) (small-set_of r n q) (omega arith))))

module _ (r : ℕ → Bool) (n m : ℕ) (l : m < n) where
  word_other : (x : Bool) (q : ℕ) → (q ≡ m / 32 → ⊥) → get_or (with_bit (set_of r n) m x) q 0 ≡ get_or (set_of r n) q 0
  unfolding with_bit inserted removed
  word_other true q ne = get_or-set_other (set_of r n) (m / 32) q _ 0 ne
  word_other false q ne = get_or-set_other (set_of r n) (m / 32) q _ 0 ne

  filled_other : (x : Bool) (q : ℕ) → (q ≡ m / 32 → ⊥) → filled (set_of r n) q ≡ filled (set_of (updated r m x) n) q
  unfolding filled
  filled_other x q ne = rw (← bit-set r n m x l, word_other x q ne)

  -- only the word of m may change
  filled-changed : (x y : Bool) → y ≡ filled (set_of (updated r m x) n) (m / 32)
      → set_of (updated (filled (set_of r n)) (m / 32) y) n ≡ set_of (filled (set_of (updated r m x) n)) n
  filled-changed x y e =
      set_of-agree (updated (filled (set_of r n)) (m / 32) y) (filled (set_of (updated r m x) n)) n
      (λ q i. updated_is (filled (set_of r n)) (filled (set_of (updated r m x) n)) (m / 32) y e (filled_other x) q)

  filled_here : (f : ℕ → Bool) → f m ≡ true → filled (set_of f n) (m / 32) ≡ true
  filled_here f e = filled-member (set_of f n) m (member_below f n m l ∙ e)

  groups_in : inserted 32 (set_of (filled (set_of r n)) n) (m / 32) ≡ set_of (filled (set_of (updated r m true) n)) n
  groups_in =
      set_of-inserted (filled (set_of r n)) n (m / 32) (omega arith)
      ∙ filled-changed true true (sym (filled_here (updated r m true) (updated_here r m true)))

  groups_out : r m ≡ true
      → cond (filled (set_of (updated r m false) n) (m / 32)) (set_of (filled (set_of r n)) n) (removed 32 (set_of (filled (set_of r n)) n) (m / 32))
      ≡ set_of (filled (set_of (updated r m false) n)) n
  groups_out e = go (filled (set_of (updated r m false) n) (m / 32)) refl
    where
      go : (y : Bool) → filled (set_of (updated r m false) n) (m / 32) ≡ y
          → cond y (set_of (filled (set_of r n)) n) (removed 32 (set_of (filled (set_of r n)) n) (m / 32)) ≡ set_of (filled (set_of (updated r m false) n)) n
      go true p =
          ap (λ f. set_of f n) (sym (fun_ext (updated_same (filled (set_of r n)) (m / 32) true (filled_here r e))))
          ∙ filled-changed false true (sym p)
      go false p = set_of-removed (filled (set_of r n)) n (m / 32) (omega arith) ∙ filled-changed false false (sym p)

  behind-set : (f a s : ℕ) → behind n (listed f a s r n) m ≡ Some (listed f a s (updated r m true) n)
  unfolding behind listed
  behind-set f a s = rw (member-set r n m true l, groups_in)

-- ---- tests that agree, the first

pub lists_agree : (n : ℕ) (w w' : ℕ → Bool) (L : Worklist) → ((k : ℕ) → k < n → w k ≡ w' k) → Lists n w L → Lists n w' L
unfolding worklist_of but_lowest listed
lists_agree n w w' L h x =
    subst (Lists n w') (sym x.listed) (lists_is w' n (lowest w 0 n) L.far L.far_size (but_lowest w n) (record {
      from = l.from;
      within = l.within;
      before = λ k a b. sym (h k (omega (arith, l.within))) ∙ l.before k a b;
      here = λ b. sym (h (lowest w 0 n) (omega arith)) ∙ l.here b;
    }) (λ j i. ap (λ b. b && not (eqb j (lowest w 0 n))) (h j i)) x.remembers)
  where
    l : Lowest w 0 n (lowest w 0 n)
    l = lowest_is w 0 n

-- the worklist of a test lists it
pub lists_of : (n : ℕ) (w : ℕ → Bool) → Lists n w (worklist_of w n)
unfolding worklist_of
lists_of n w = record { listed = refl; remembers = (λ l. absurd (omega arith), λ l. refl, λ z. refl) }

lowest_at : (w : ℕ → Bool) (n k : ℕ) → k < n → w k ≡ true → ((j : ℕ) → j < k → w j ≡ false) → Lowest w 0 n k
lowest_at w n k l e h = record { from = omega arith; within = omega arith; before = λ j a b. h j b; here = λ b. e }

lowest_none : (w : ℕ → Bool) (n : ℕ) → ((j : ℕ) → j < n → w j ≡ false) → Lowest w 0 n n
lowest_none w n h = record { from = omega arith; within = omega arith; before = λ j a b. h j b; here = λ b. absurd (omega arith) }

pub first-is : (w : ℕ → Bool) (n k : ℕ) (L : Worklist) → Lists n w L → k < n → w k ≡ true → ((j : ℕ) → j < k → w j ≡ false) → L.first ≡ k
unfolding worklist_of
first-is w n k L x l e h = ap (λ y. y.first) x.listed ∙ sym (lowest-only w 0 n k (lowest_at w n k l e h))

pub first-none : (w : ℕ → Bool) (n : ℕ) (L : Worklist) → Lists n w L → ((j : ℕ) → j < n → w j ≡ false) → L.first ≡ n
unfolding worklist_of
first-none w n L x h = ap (λ y. y.first) x.listed ∙ sym (lowest-only w 0 n n (lowest_none w n h))

-- none waits
pub lists_none : (n : ℕ) (w : ℕ → Bool) (L : Worklist) → Lists n w L → ((j : ℕ) → j < n → w j ≡ false) → L ≡ worklist_of (λ k. false) n
unfolding worklist_of
lists_none n w L x h =
    let y : Lists n (λ k. false) L = lists_agree n w (λ k. false) L h x in
    let z = y.remembers.1 (omega (arith, lowest-only (λ k. false) 0 n n (lowest_none (λ k. false) n (λ j i. refl)))) in
    y.listed ∙ ap₂ (with_far (worklist_of (λ k. false) n)) (y.remembers.2 z) z

-- ---- a node enters

put_more : (r : ℕ → Bool) (m j : ℕ) → r j ≡ true → updated r m true j ≡ true
put_more r m j e = ⊎_elim (λ p. rw p (updated_here r m true)) (λ p. updated_there r m true j p ∙ e) (equal_or j m)

module _ (w : ℕ → Bool) (n m f : ℕ) (r : ℕ → Bool) (l : m < n) (lf : Lowest w 0 n f) (hr : (j : ℕ) → r j ≡ w j && not (eqb j f)) where
  module _ (a s : ℕ) (x : Remembers n f a s r) where
    -- m is behind the first
    enters_behind : f < m → Lists n (updated w m true) (listed f a s (updated r m true) n)
    enters_behind b =
        lists_is (updated w m true) n f a s (updated r m true)
        (lowest_at (updated w m true) n f (omega arith)
        (updated_there w m true f (λ e. omega arith) ∙ lf.here (omega arith))
        (λ j c. updated_there w m true j (λ e. omega arith) ∙ lf.before j (omega arith) c))
        (λ j i. updated_is r (λ j. updated w m true j && not (eqb j f)) m true
        (rw (updated_here w m true, ne_eqb m f (λ e. omega arith)))
        (λ j ne. hr j ∙ rw (updated_there w m true j ne)) j)
        (ahead_more n f f a s r (updated r m true) (λ y. y) (λ y j i. put_more r m j) x.0, λ c. absurd (omega arith), x.2)

    enters_same : m ≡ f → Lists n (updated w m true) (listed f a s r n)
    enters_same e =
        let same : updated w m true ≡ w = fun_ext (updated_same w m true (rw e (lf.here (omega arith)))) in
        rw same (lists_is w n f a s r lf (λ j i. hr j) x)

  -- m is the new first, r' holds at the places of w
  enters_first : (a s : ℕ) (r' : ℕ → Bool) → m < f → ((j : ℕ) → j < n → r' j ≡ w j) → Ahead n m a s r' → (s ≡ 0 → a ≡ 0)
      → Lists n (updated w m true) (listed m a s r' n)
  enters_first a s r' b h x z =
      lists_is (updated w m true) n m a s r'
      (lowest_at (updated w m true) n m l (updated_here w m true)
      (λ j c. updated_there w m true j (λ e. omega arith) ∙ lf.before j (omega arith) (omega arith)))
      (λ j i. h j i ∙ ⊎_elim
      (λ e. rw e (rw (updated_here w m true, eq-eqb m m refl) (lf.before m (omega arith) b)))
      (λ ne. rw (updated_there w m true j ne, ne_eqb j m ne) (sym (and-true (w j))))
      (equal_or j m))
      (x, λ c. absurd (omega arith), z)

  abbrev back : ℕ → Bool
  back = updated r f true

  back_is : f < n → (j : ℕ) → back j ≡ w j
  back_is b = updated_is r w f true (sym (lf.here (omega arith))) (λ j ne. hr j ∙ rw (ne_eqb j f ne) (and-true (w j)))

  -- the first that was is the lowest of the others
  all_behind : f < n → count back 0 n ≤ count back f (n - f)
  all_behind b =
      let whole : f + (n - f) ≡ n = omega arith in
      let from : 0 + f ≡ f = omega arith in
      omega (
        arith,
        rw (whole, from) at (count-split back 0 f (n - f)),
        count_none back 0 f (λ j i c. back_is b j ∙ lf.before j i (omega arith)),
      )

  -- it is remembered, unless one further on is
  enters_before : (a s : ℕ) → Remembers n f a s r → m < f → f < n → Lists n (updated w m true) (remembering f (listed m a s back n))
  unfolding remembering listed counted_set
  enters_before a s x b c = ⊎_elim
      (λ d. rw (lt-ltb f a d) (enters_first a s back b (λ j i. back_is c j) (ahead_more n f m a s r back (λ y. d) (λ y j i. put_more r f j) x.0) x.2))
      (λ d. rw (le-ltb f a d) (enters_first f (count back 0 n) back b (λ j i. back_is c j) (λ y. (c, updated_here r f true, all_behind c))
      (λ z. absurd (true≢false (sym (updated_here r f true) ∙ count-zero back n z f c)))))
      (below_or f a)

  enters_alone : (a s : ℕ) → Remembers n f a s r → m < f → n ≤ f → Lists n (updated w m true) (listed m a s r n)
  enters_alone a s x b c =
      enters_first a s r b (λ j i. hr j ∙ rw (lf.before j (omega arith) (omega arith))) (λ y. absurd (omega (arith, x.2 (x.1 c)))) x.2

  abbrev Entered : ℕ → ℕ → Type 0
  Entered a s = (L : Worklist) × (with_node n (listed f a s r n) m ≡ Some L) × Lists n (updated w m true) L

  enters : (a s : ℕ) → Remembers n f a s r → Entered a s
  unfolding with_node alone before listed
  enters a s x = ⊎_elim below past (below_or f m)
    where
      below : f < m → Entered a s
      below b = (listed f a s (updated r m true) n, rw (lt-ltb f m b) (behind-set r n m l f a s), enters_behind a s x b)

      same : m ≡ f → Entered a s
      same e = (listed f a s r n, rw (le-ltb f m (omega arith), eq-eqb m f e), enters_same a s x e)

      lower : m < f → Entered a s
      lower b = ⊎_elim
          (λ c. (
            remembering f (listed m a s back n),
            rw (le-ltb f m (omega arith), ne_eqb m f (λ e. omega arith), lt-ltb f n c, behind-set r n f c m a s),
            enters_before a s x b c,
          ))
          (λ c. (
            listed m a s r n,
            rw (le-ltb f m (omega arith), ne_eqb m f (λ e. omega arith), le-ltb f n c, eq-eqb f n (omega (arith, lf.within))),
            enters_alone a s x b c,
          ))
          (below_or f n)

      past : m ≤ f → Entered a s
      past b = ⊎_elim same (λ ne. lower (omega (arith, ne))) (equal_or m f)

pub node_entered : (w : ℕ → Bool) (n m : ℕ) (L : Worklist) → Lists n w L → m < n → (L' : Worklist) × (with_node n L m ≡ Some L') × Lists n (updated w m true) L'
unfolding worklist_of but_lowest listed
node_entered w n m L x l =
    let e = enters w n m (lowest w 0 n) (but_lowest w n) l (lowest_is w 0 n) (λ j. refl) L.far L.far_size x.remembers in
    (e.0, ap (λ y. with_node n y m) x.listed ∙ e.1, e.2)

-- ---- the first leaves

module _ (r : ℕ → Bool) (n k g a s : ℕ) (h : (j : ℕ) → j ≤ k → r j ≡ false) (lg : Lowest r 0 n g) (x : Remembers n k a s r) where
  abbrev Left : Type 0
  Left = (L : Worklist) × (without_first n (listed k a s r n) ≡ Some L) × Lists n r L

  forgot : forgotten (listed n a s r n) ≡ listed n 0 0 r n
  unfolding forgotten listed
  forgot = go (eqb s 0) refl
    where
      go : (b : Bool) → eqb s 0 ≡ b → cond b (listed n a s r n) (with_far (listed n a s r n) 0 0) ≡ listed n 0 0 r n
      go true e = let z = eqb-true s 0 e in ap₂ (λ y t. listed n y t r n) (x.2 z) z
      go false e = refl

  -- nothing else waits
  last_leaves : count r 0 n ≡ 0 → Left
  unfolding without_first listed counted_set worklist_of
  last_leaves z = (
    worklist_of r n,
    rw (eq-eqb (count r 0 n) 0 z) (ap Some (forgot ∙ listed_is r n n 0 0 r (lowest_none r n (count-zero r n z)) (λ j i. rw (count-zero r n z j i)))),
    lists_of n r,
  )

  module _ (b : k < g) (c : g < n) where
    here : r g ≡ true
    here = lg.here (omega arith)

    next_group : next 32 (set_of (filled (set_of r n)) n) (k / 32) ≡ g / 32
    next_group = next_found (filled (set_of r n)) n (k / 32) (g / 32) (omega arith) (omega arith) (filled_here r n g c r here)
        (λ q d. filled_none r n q (λ j e. lg.before j (omega arith) (omega arith)))

    -- the word of the first itself, if it has members
    same_word : filled (set_of r n) (k / 32) ≡ true → k / 32 ≡ g / 32
    same_word e =
        sym (next_found (filled (set_of r n)) n (k / 32) (k / 32) (omega arith) (omega arith) e (λ q d. filled_none r n q (λ j p. h j (omega arith))))
        ∙ next_group

    sought_filled_lem : sought_filled (listed k a s r n) ≡ g / 32
    unfolding sought_filled listed counted_set
    sought_filled_lem = go (filled (set_of r n) (k / 32)) refl
      where
        go : (y : Bool) → filled (set_of r n) (k / 32) ≡ y → cond y (k / 32) (next 32 (set_of (filled (set_of r n)) n) (k / 32)) ≡ g / 32
        go true e = same_word e
        go false e = next_group

    -- if no more wait than are from a on, a is the lowest
    far_lowest : count r 0 n ≡ s → k < a → a ≡ g
    far_lowest e d = ⊎_elim
        (λ q. absurd (true≢false (sym p.1 ∙ lg.before a (omega arith) q)))
        (λ q. ⊎_elim (λ z. absurd (omega (arith, whole, p.2, some_below z))) (λ z. omega arith) (below_or g a))
        (below_or a g)
      where
        p : (a < n) × (r a ≡ true) × (s ≤ count r a (n - a))
        p = x.0 d

        whole : count r 0 n ≡ count r 0 a + count r a (n - a)
        whole =
            let up : a + (n - a) ≡ n = omega (arith, p.0) in
            let from : 0 + a ≡ a = omega arith in
            rw (up, from) at (count-split r 0 a (n - a))

        some_below : g < a → 0 < count r 0 a
        some_below z = omega (arith, count_less (λ j. false) r 0 a g (omega arith) (omega arith) refl here (λ j i q t. absurd (true≢false (sym t))))

    next_filled_lem : next_filled (listed k a s r n) ≡ g / 32
    unfolding next_filled far_next listed counted_set
    next_filled_lem = go (eqb (count r 0 n) s && ltb k a) refl
      where
        go : (y : Bool) → eqb (count r 0 n) s && ltb k a ≡ y → cond y (a / 32) (sought_filled (listed k a s r n)) ≡ g / 32
        go true e = ap (λ i. i / 32) (far_lowest (eqb-true (count r 0 n) s (both_left (eqb (count r 0 n) s) (ltb k a) e)) (ltb-true k a (both_right (eqb (count r 0 n) s) (ltb k a) e)))
        go false e = sought_filled_lem

    next_node : next 32 (set_of r n) (32 * (g / 32)) ≡ g
    next_node = next_found r n (32 * (g / 32)) g (omega arith) c here (λ j d. lg.before j (omega arith) d)

    size_less : count r 0 n - 1 ≡ count (updated r g false) 0 n
    size_less = omega (arith, count_more (updated r g false) r n g c (λ j ne. updated_there r g false j ne) (updated_here r g false) here)

    advanced_is : advanced (listed k a s r n) (g / 32) g ≡ listed g a s (updated r g false) n
    unfolding advanced listed counted_set
    advanced_is = rw (set_of-removed r n g c, groups_out r n g c here, size_less)

    next_leaves : Left
    unfolding without_first advance listed counted_set
    next_leaves = (
      listed g a s (updated r g false) n,
      rw (ne_eqb (count r 0 n) 0 (λ z. true≢false (sym here ∙ count-zero r n z g c)), next_filled_lem, next_node)
          (rw (lt-ltb (g / 32) (words32 n) (omega arith), filled_here r n g c r here, lt-ltb k g b) (ap Some advanced_is)),
      lists_is r n g a s (updated r g false) lg (λ j i. without r g j) (
        ahead_more n k g a s r (updated r g false) (λ y. omega arith) (λ y j i e. updated_there r g false j (λ z. omega arith) ∙ e) x.0,
        λ y. absurd (omega arith),
        x.2,
      ),
    )

  leaves : Left
  leaves = ⊎_elim found (λ c. last_leaves (count_none r 0 n (λ j i d. lg.before j i (omega arith)))) (below_or g n)
    where
      found : g < n → Left
      found c = ⊎_elim (λ b. next_leaves b c) (λ b. absurd (true≢false (sym (lg.here (omega arith)) ∙ h g b))) (below_or k g)

pub first_left : (w : ℕ → Bool) (n k : ℕ) (L : Worklist) → Lists n w L → k < n → w k ≡ true → ((j : ℕ) → j < k → w j ≡ false)
    → (L' : Worklist) × (without_first n L ≡ Some L') × Lists n (updated w k false) L'
unfolding but_lowest
first_left w n k L x l e h =
    let at : Lowest w 0 n k = lowest_at w n k l e h in
    let is : L ≡ listed k L.far L.far_size (updated w k false) n = x.listed ∙ sym (listed_is w n k L.far L.far_size (updated w k false) at (λ j i. without w k j)) in
    let kept : Remembers n k L.far L.far_size (λ j. w j && not (eqb j k)) =
    subst (λ y. Remembers n y L.far L.far_size (λ j. w j && not (eqb j y))) (sym (lowest-only w 0 n k at)) x.remembers in
    let v = leaves (updated w k false) n k (lowest (updated w k false) 0 n) L.far L.far_size (λ j a. ⊎_elim
    (λ p. rw p (updated_here w k false))
    (λ p. updated_there w k false j p ∙ h j (omega (arith, p)))
    (equal_or j k)) (lowest_is (updated w k false) 0 n)
    (remembers_same n k L.far L.far_size (λ j. w j && not (eqb j k)) (updated w k false) (λ j i. sym (without w k j)) kept) in
    (v.0, ap (without_first n) is ∙ v.1, v.2)
