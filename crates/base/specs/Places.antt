-- The places at which a test holds: the list of them, how many there are, the lowest.
-- Assumes nothing.
use Rattle.std.specs.Prelude.{ℕ, zero, suc, ◌+◌, ◌-◌, ◌<◌, ◌≤◌, ◌≡◌, refl, Bool, true, false, cond, List, [], ◌∷◌, ◌++◌, length, get_or}
use Rattle.std.proofs.Common.{arith, ap, sym, ◌∙◌, ⊎_elim, append-nil, length-append}
use Rattle.std.proofs.lemmas.Bool.{false≢true}
use Rattle.base.specs.Tests.{equal_or}

-- the places among the n from i on at which p holds, rising
unfoldable pub places : (ℕ → Bool) → ℕ → ℕ → List ℕ
places p i zero = []
places p i (suc n) = elim (p i) [ true ↦ i ∷ places p (i + 1) n | false ↦ places p (i + 1) n ]

-- how many these are
unfoldable pub count : (ℕ → Bool) → ℕ → ℕ → ℕ
count p i n = length (places p i n)

-- the lowest of them, i + n if there is none
unfoldable pub lowest : (ℕ → Bool) → ℕ → ℕ → ℕ
lowest p i n = get_or (places p i n) 0 (i + n)

-- r is the lowest of them, said without the list
pub record Lowest (p : ℕ → Bool) (i n r : ℕ) : Type 0 where
  pub from : i ≤ r
  pub within : r ≤ i + n
  pub before : (k : ℕ) → i ≤ k → k < r → p k ≡ false
  pub here : r < i + n → p r ≡ true

-- ---- one place

pub places-yes : (p : ℕ → Bool) (i n : ℕ) → p i ≡ true → places p i (suc n) ≡ i ∷ places p (i + 1) n
unfolding places
places-yes p i n e = rw (e, places)

pub places_no : (p : ℕ → Bool) (i n : ℕ) → p i ≡ false → places p i (suc n) ≡ places p (i + 1) n
unfolding places
places_no p i n e = rw (e, places)

-- ---- tests that agree, ranges that follow one another, ranges with no place

pub places_agree : (p q : ℕ → Bool) (i n : ℕ) → ((k : ℕ) → i ≤ k → k < i + n → p k ≡ q k) → places p i n ≡ places q i n
unfolding places
places_agree p q i zero h = refl
places_agree p q i (suc n) h = go (q i) refl (places_agree p q (i + 1) n (λ k a b. h k (omega arith) (omega arith)))
  where
    go : (t : Bool) → q i ≡ t → places p (i + 1) n ≡ places q (i + 1) n → places p i (suc n) ≡ places q i (suc n)
    go true e ih = places-yes p i n (h i (omega arith) (omega arith) ∙ e) ∙ ap (λ ks. i ∷ ks) ih ∙ sym (places-yes q i n e)
    go false e ih = places_no p i n (h i (omega arith) (omega arith) ∙ e) ∙ ih ∙ sym (places_no q i n e)

pub places-split : (p : ℕ → Bool) (i n m : ℕ) → places p i (n + m) ≡ places p i n ++ places p (i + n) m
unfolding places
places-split p i zero m =
    let a : zero + m ≡ m = omega arith in
    let b : i + zero ≡ i = omega arith in
    rw (a, b)
places-split p i (suc n) m = go (p i) refl (places-split p (i + 1) n m)
  where
    a : suc n + m ≡ suc (n + m)
    a = omega arith

    b : i + suc n ≡ i + 1 + n
    b = omega arith

    go : (t : Bool) → p i ≡ t → places p (i + 1) (n + m) ≡ places p (i + 1) n ++ places p (i + 1 + n) m
        → places p i (suc n + m) ≡ places p i (suc n) ++ places p (i + suc n) m
    go true e ih = rw (a, b, places-yes p i (n + m) e, places-yes p i n e, ih)
    go false e ih = rw (a, b, places_no p i (n + m) e, places_no p i n e, ih)

pub places_none : (p : ℕ → Bool) (i n : ℕ) → ((k : ℕ) → i ≤ k → k < i + n → p k ≡ false) → places p i n ≡ []
unfolding places
places_none p i zero h = refl
places_none p i (suc n) h =
    places_no p i n (h i (omega arith) (omega arith)) ∙ places_none p (i + 1) n (λ k a b. h k (omega arith) (omega arith))

-- one place more at the end
pub places-end : (p : ℕ → Bool) (n : ℕ) → places p 0 (n + 1) ≡ cond (p n) (places p 0 n ++ (n ∷ [])) (places p 0 n)
unfolding places
places-end p n = let z : 0 + n ≡ n = omega arith in (rw z at (places-split p 0 n 1)) ∙ go (p n) refl
  where
    go : (t : Bool) → p n ≡ t → places p 0 n ++ places p n 1 ≡ cond t (places p 0 n ++ (n ∷ [])) (places p 0 n)
    go true e = rw (places-yes p n 0 e)
    go false e = rw (places_no p n 0 e, append-nil)

-- ---- how many

pub count-split : (p : ℕ → Bool) (i n m : ℕ) → count p i (n + m) ≡ count p i n + count p (i + n) m
unfolding count
count-split p i n m = ap length (places-split p i n m) ∙ length-append (places p i n) (places p (i + n) m)

pub count_agree : (p q : ℕ → Bool) (i n : ℕ) → ((k : ℕ) → i ≤ k → k < i + n → p k ≡ q k) → count p i n ≡ count q i n
unfolding count
count_agree p q i n h = ap length (places_agree p q i n h)

pub count_none : (p : ℕ → Bool) (i n : ℕ) → ((k : ℕ) → i ≤ k → k < i + n → p k ≡ false) → count p i n ≡ 0
unfolding count
count_none p i n h = ap length (places_none p i n h)

pub count_most : (p : ℕ → Bool) (i n : ℕ) → count p i n ≤ n
unfolding count places
count_most p i zero = omega arith
count_most p i (suc n) = go (p i) refl (count_most p (i + 1) n)
  where
    go : (t : Bool) → p i ≡ t → count p (i + 1) n ≤ n → length (places p i (suc n)) ≤ suc n
    go true e ih = rw (places-yes p i n e) (omega arith)
    go false e ih = rw (places_no p i n e) (omega arith)

pub count_yes : (p : ℕ → Bool) (i n : ℕ) → p i ≡ true → count p i (suc n) ≡ suc (count p (i + 1) n)
unfolding count
count_yes p i n e = ap length (places-yes p i n e)

pub count_no : (p : ℕ → Bool) (i n : ℕ) → p i ≡ false → count p i (suc n) ≡ count p (i + 1) n
unfolding count
count_no p i n e = ap length (places_no p i n e)

-- where p holds so does q
pub count-le : (p q : ℕ → Bool) (i n : ℕ) → ((k : ℕ) → i ≤ k → k < i + n → p k ≡ true → q k ≡ true) → count p i n ≤ count q i n
unfolding count places
count-le p q i zero h = omega arith
count-le p q i (suc n) h = go (p i) refl (q i) refl (count-le p q (i + 1) n (λ k a b. h k (omega arith) (omega arith)))
  where
    go : (s : Bool) → p i ≡ s → (t : Bool) → q i ≡ t → count p (i + 1) n ≤ count q (i + 1) n → count p i (suc n) ≤ count q i (suc n)
    go true e true f ih = omega (arith, count_yes p i n e, count_yes q i n f)
    go true e false f ih = absurd (false≢true (sym f ∙ h i (omega arith) (omega arith) e))
    go false e true f ih = omega (arith, count_no p i n e, count_yes q i n f)
    go false e false f ih = omega (arith, count_no p i n e, count_no q i n f)

-- and q holds at w besides
pub count_less : (p q : ℕ → Bool) (i n w : ℕ) → i ≤ w → w < i + n → p w ≡ false → q w ≡ true
    → ((k : ℕ) → i ≤ k → k < i + n → p k ≡ true → q k ≡ true) → count p i n < count q i n
count_less p q i n w a b e f h =
    let range : n ≡ (w - i) + suc (n - (w - i) - 1) = omega arith in
    let at : i + (w - i) ≡ w = omega arith in
    let m : ℕ = n - (w - i) - 1 in
    rw (range, count-split p i (w - i) (suc m), count-split q i (w - i) (suc m), at, count_no p w m e, count_yes q w m f)
    (omega (
      arith,
      count-le p q i (w - i) (λ k c d. h k c (omega arith)),
      count-le p q (w + 1) m (λ k c d. h k (omega arith) (omega arith)),
    ))

-- ---- the lowest

pub lowest_here : (p : ℕ → Bool) (i n : ℕ) → p i ≡ true → lowest p i (suc n) ≡ i
unfolding lowest
lowest_here p i n e = rw (places-yes p i n e)

pub lowest_past : (p : ℕ → Bool) (i n : ℕ) → p i ≡ false → lowest p i (suc n) ≡ lowest p (i + 1) n
unfolding lowest
lowest_past p i n e =
    let a : i + suc n ≡ i + 1 + n = omega arith in
    rw (places_no p i n e, a)

pub lowest_agree : (p q : ℕ → Bool) (i n : ℕ) → ((k : ℕ) → i ≤ k → k < i + n → p k ≡ q k) → lowest p i n ≡ lowest q i n
unfolding lowest
lowest_agree p q i n h = rw (places_agree p q i n h)

-- the lowest is that place, and no other number is
pub lowest-only : (p : ℕ → Bool) (i n r : ℕ) → Lowest p i n r → r ≡ lowest p i n
unfolding lowest places
lowest-only p i zero r l = omega (arith, l.from, l.within)
lowest-only p i (suc n) r l = ⊎_elim at (past (lowest-only p (i + 1) n r)) (equal_or r i)
  where
    at : r ≡ i → r ≡ lowest p i (suc n)
    at e = e ∙ sym (lowest_here p i n (rw e at (l.here (omega (arith, l.within)))))

    past : (Lowest p (i + 1) n r → r ≡ lowest p (i + 1) n) → (r ≡ i → ⊥) → r ≡ lowest p i (suc n)
    past ih ne =
        ih (record {
          from = omega (arith, l.from);
          within = omega (arith, l.within);
          before = λ k a b. l.before k (omega arith) b;
          here = λ h. l.here (omega arith);
        })
        ∙ sym (lowest_past p i n (l.before i (omega arith) (omega (arith, l.from))))

pub lowest_is : (p : ℕ → Bool) (i n : ℕ) → Lowest p i n (lowest p i n)
unfolding lowest places
lowest_is p i zero = record { from = omega arith; within = omega arith; before = λ k a b. absurd (omega arith); here = λ h. absurd (omega arith) }
lowest_is p i (suc n) = go (p i) refl (lowest_is p (i + 1) n)
  where
    go : (t : Bool) → p i ≡ t → Lowest p (i + 1) n (lowest p (i + 1) n) → Lowest p i (suc n) (lowest p i (suc n))
    go true e l = rw (lowest_here p i n e) (record { from = omega arith; within = omega arith; before = λ k a b. absurd (omega arith); here = λ h. e })
    go false e l =
        rw (lowest_past p i n e) (record {
          from = omega (arith, l.from);
          within = omega (arith, l.within);
          before = λ k a b. ⊎_elim (λ q. rw q e) (λ q. l.before k (omega arith) b) (equal_or k i);
          here = λ h. l.here (omega arith);
        })

-- a range with no place is passed over
pub lowest_skip : (p : ℕ → Bool) (i n m : ℕ) → ((k : ℕ) → i ≤ k → k < i + n → p k ≡ false) → lowest p i (n + m) ≡ lowest p (i + n) m
unfolding lowest
lowest_skip p i n m h =
    let a : i + (n + m) ≡ i + n + m = omega arith in
    rw (places-split p i n m, places_none p i n h, a)

-- the lowest place comes first, and the others are the places of the test without it
pub places_first : (p q : ℕ → Bool) (i n r : ℕ) → Lowest p i n r → r < i + n → q r ≡ false → ((k : ℕ) → (k ≡ r → ⊥) → q k ≡ p k)
    → places p i n ≡ r ∷ places q i n
places_first p q i n r l h off same =
    rw (range, places-split p i (r - i) (suc m), places-split q i (r - i) (suc m), at)
    (rw (
      none p (λ k a b. l.before k a (omega arith)),
      none q (λ k a b. same k (λ e. omega arith) ∙ l.before k a (omega arith)),
      places-yes p r m (l.here h),
      places_no q r m off,
    )
    (ap (λ ks. r ∷ ks) (places_agree p q (r + 1) m (λ k a b. sym (same k (λ e. omega arith))))))
  where
    m : ℕ
    m = n - (r - i) - 1

    range : n ≡ (r - i) + suc m
    range = omega (arith, l.from)

    at : i + (r - i) ≡ r
    at = omega (arith, l.from)

    none : (t : ℕ → Bool) → ((k : ℕ) → i ≤ k → k < r → t k ≡ false) → places t i (r - i) ≡ []
    none t f = places_none t i (r - i) (λ k a b. f k a (omega (arith, at)))
