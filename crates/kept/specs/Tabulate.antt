-- A function's first values as a list, and functions changed at one place or below one.
-- Assumes nothing.
use Rattle.std.specs.Prelude.{ℕ, zero, suc, ◌<◌, ◌≤◌, ◌≡◌, refl, cond, List, [], ◌∷◌, eqb, ltb, length, get_or, set}
use Rattle.std.proofs.Common.{arith, ap, ap₂, sym, ◌∙◌, ⊎_elim, eq-eqb, ne_eqb, lt-ltb, le-ltb}
use Rattle.std.proofs.Math.Dec.{eqb-suc-suc}
use Rattle.base.specs.Tests.{equal_or, below_or}

-- f 0, f 1, .., f (n - 1)
unfoldable pub tabulate : {A : Type 0} → ℕ → (ℕ → A) → List A
tabulate zero f = []
tabulate (suc n) f = f zero ∷ tabulate n (λ i. f (suc i))

-- f, but x at i
unfoldable pub updated : {A : Type 0} → (ℕ → A) → ℕ → A → ℕ → A
updated f i x j = cond (eqb j i) x (f j)

-- g below n, f from there on
unfoldable pub switched : {A : Type 0} → ℕ → (ℕ → A) → (ℕ → A) → ℕ → A
switched n f g j = cond (ltb j n) (g j) (f j)

-- ---- changed at one place

pub updated_here : {A : Type 0} (f : ℕ → A) (i : ℕ) (x : A) → updated f i x i ≡ x
unfolding updated
updated_here f i x = rw (eq-eqb i i refl)

pub updated_there : {A : Type 0} (f : ℕ → A) (i : ℕ) (x : A) (j : ℕ) → (j ≡ i → ⊥) → updated f i x j ≡ f j
unfolding updated
updated_there f i x j h = rw (ne_eqb j i h)

-- what has x at i, and is f elsewhere
pub updated_is : {A : Type 0} (f g : ℕ → A) (i : ℕ) (x : A) → x ≡ g i → ((j : ℕ) → (j ≡ i → ⊥) → f j ≡ g j) → (j : ℕ) → updated f i x j ≡ g j
updated_is f g i x e h j = ⊎_elim (λ p. rw p (updated_here f i x ∙ e)) (λ p. updated_there f i x j p ∙ h j p) (equal_or j i)

pub updated_same : {A : Type 0} (f : ℕ → A) (i : ℕ) (x : A) → f i ≡ x → (j : ℕ) → updated f i x j ≡ f j
updated_same f i x e = updated_is f f i x (sym e) (λ j h. refl)

-- ---- changed below a place

pub switched_below : {A : Type 0} (n : ℕ) (f g : ℕ → A) (j : ℕ) → j < n → switched n f g j ≡ g j
unfolding switched
switched_below n f g j l = rw (lt-ltb j n l)

pub switched-from : {A : Type 0} (n : ℕ) (f g : ℕ → A) (j : ℕ) → n ≤ j → switched n f g j ≡ f j
unfolding switched
switched-from n f g j l = rw (le-ltb j n l)

-- one place more
pub switched_other : {A : Type 0} (n : ℕ) (f g : ℕ → A) (j : ℕ) → (j ≡ n → ⊥) → switched n f g j ≡ switched (suc n) f g j
switched_other n f g j h = ⊎_elim
    (λ l. switched_below n f g j l ∙ sym (switched_below (suc n) f g j (omega arith)))
    (λ l. switched-from n f g j l ∙ sym (switched-from (suc n) f g j (omega (arith, h))))
    (below_or j n)

pub switched_next : {A : Type 0} (n : ℕ) (f g : ℕ → A) (j : ℕ) → updated (switched n f g) n (g n) j ≡ switched (suc n) f g j
switched_next n f g = updated_is (switched n f g) (switched (suc n) f g) n (g n) (sym (switched_below (suc n) f g n (omega arith))) (switched_other n f g)

-- ---- lists of values

pub length-tabulate : {A : Type 0} (n : ℕ) (f : ℕ → A) → length (tabulate n f) ≡ n
unfolding tabulate
length-tabulate zero f = refl
length-tabulate (suc n) f = ap suc (length-tabulate n (λ i. f (suc i)))

pub tabulate_at : {A : Type 0} (n : ℕ) (f : ℕ → A) (d : A) (i : ℕ) → i < n → get_or (tabulate n f) i d ≡ f i
unfolding tabulate
tabulate_at zero f d i h = absurd (omega arith)
tabulate_at (suc n) f d zero h = refl
tabulate_at (suc n) f d (suc i) h = tabulate_at n (λ j. f (suc j)) d i (omega arith)

pub tabulate_agree : {A : Type 0} (n : ℕ) (f g : ℕ → A) → ((i : ℕ) → i < n → f i ≡ g i) → tabulate n f ≡ tabulate n g
unfolding tabulate
tabulate_agree zero f g h = refl
tabulate_agree (suc n) f g h = ap₂ ◌∷◌ (h zero (omega arith)) (tabulate_agree n (λ i. f (suc i)) (λ i. g (suc i)) (λ i l. h (suc i) (omega arith)))

updated-tail : {A : Type 0} (f : ℕ → A) (i : ℕ) (x : A) (j : ℕ) → updated (λ j. f (suc j)) i x j ≡ updated f (suc i) x (suc j)
unfolding updated
updated-tail f i x j = simp eqb-suc-suc

pub tabulate-set : {A : Type 0} (n : ℕ) (f : ℕ → A) (i : ℕ) (x : A) → set (tabulate n f) i x ≡ tabulate n (updated f i x)
unfolding tabulate
tabulate-set zero f i x = refl
tabulate-set (suc n) f zero x =
    ap₂ ◌∷◌ (sym (updated_here f zero x))
    (tabulate_agree n (λ i. f (suc i)) (λ i. updated f zero x (suc i)) (λ i l. sym (updated_there f zero x (suc i) (λ e. omega arith))))
tabulate-set (suc n) f (suc i) x =
    ap₂ ◌∷◌ (sym (updated_there f (suc i) x zero (λ e. omega arith)))
    (tabulate-set n (λ j. f (suc j)) i x
    ∙ tabulate_agree n (updated (λ j. f (suc j)) i x) (λ j. updated f (suc i) x (suc j)) (λ j l. updated-tail f i x j))

-- every list is its values
pub tabulate-of : (xs : List ℕ) (n : ℕ) (f : ℕ → ℕ) → length xs ≡ n → ((i : ℕ) → i < n → get_or xs i 0 ≡ f i) → xs ≡ tabulate n f
unfolding tabulate
tabulate-of [] zero f e h = refl
tabulate-of [] (suc n) f e h = absurd (omega arith)
tabulate-of (x ∷ xs) zero f e h = absurd (omega arith)
tabulate-of (x ∷ xs) (suc n) f e h = ap₂ ◌∷◌ (h zero (omega arith)) (tabulate-of xs n (λ i. f (suc i)) (omega arith) (λ i l. h (suc i) (omega arith)))
