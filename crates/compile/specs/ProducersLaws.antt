-- The turns of a loop over the roots.
-- Assumes nothing.
use Rattle.std.specs.Prelude.{ℕ, ◌+◌, ◌*◌, ◌<◌, ◌≤◌, ◌≡◌, refl, List, [], ◌∷◌, ◌++◌, length, get_or, take, set, Option, Some, None, Result, Ok, Err}
use Rattle.std.proofs.Common.{add-one, arith, ap, ◌∙◌, append_assoc, append-nil, length-append, take-suc}
use Rattle.base.specs.Front.{front, front_more}
use Rattle.compile.specs.Head.{word_of}
use Rattle.compile.specs.Producer.{produced}
use Rattle.compile.specs.Producers.{refused_by, supported_at, made_by, producers, producers_before, producer_words}
use Rattle.compile.specs.declared.Producer.{Producer}
use Rattle.theory.specs.Admission.{Admission, admitted}
use Rattle.theory.specs.declared.Refusal.{Refusal}

pub refused_ok : (made : Result (Option Producer) Refusal) (o : Option Producer) → made ≡ Ok o → refused_by made ≡ admitted
unfolding refused_by
refused_ok made None e = rw e
refused_ok made (Some p) e = rw e

pub refused_err : (made : Result (Option Producer) Refusal) (r : Refusal) → made ≡ Err r → refused_by made ≡ Err r
unfolding refused_by
refused_err made r e = rw e

-- the root at hand, seen as the definition sees it
pub root_seen : (nodes operands classes roots : List ℕ) (i root : ℕ) (made : Result (Option Producer) Refusal) (r : Admission)
    → root ≡ get_or roots i 0 → made ≡ produced nodes operands classes root → refused_by made ≡ r
    → supported_at nodes operands classes roots i ≡ r
unfolding supported_at
root_seen nodes operands classes roots i root made r p q e = rw (← p, ← q) e

-- ---- the producers of the roots gone over

producers-append : (nodes operands classes xs ys : List ℕ) → producers nodes operands classes (xs ++ ys) ≡ producers nodes operands classes xs ++ producers nodes operands classes ys
unfolding producers
producers-append nodes operands classes [] ys = refl
producers-append nodes operands classes (x ∷ xs) ys = rw (producers-append nodes operands classes xs ys, append_assoc)

pub producers_none : (nodes operands classes roots : List ℕ) → producers_before nodes operands classes roots 0 ≡ []
unfolding producers_before producers
producers_none nodes operands classes roots = refl

pub producers_more : (nodes operands classes roots : List ℕ) (i root : ℕ) (made : Result (Option Producer) Refusal) → i < length roots → root ≡ get_or roots i 0 → made ≡ produced nodes operands classes root
    → producers_before nodes operands classes roots (i + 1) ≡ producers_before nodes operands classes roots i ++ made_by made
unfolding producers_before producers
producers_more nodes operands classes roots i root made h p q =
    rw (add-one, take-suc roots i 0 h, producers-append nodes operands classes (take i roots) (get_or roots i 0 ∷ []), append-nil, ← p, ← q)

-- ---- as words

words_append : (ps qs : List Producer) → producer_words (ps ++ qs) ≡ producer_words ps ++ producer_words qs
unfolding producer_words
words_append [] qs = refl
words_append (p ∷ ps) qs = rw (words_append ps qs)

pub length-words : (ps : List Producer) → length (producer_words ps) ≡ 4 * length ps
unfolding producer_words
length-words [] = refl
length-words (p ∷ ps) = omega (arith, length-words ps)

-- four words from position `at` on
unfoldable pub stored : List ℕ → ℕ → Producer → List ℕ
stored ws at p = set (set (set (set ws at p.head) (at + 1) p.body) (at + 2) p.root) (at + 3) (word_of p.kind)

pub stored-front : (ps : List Producer) (ds : List ℕ) (p : Producer) (at : ℕ) → at ≡ 4 * length ps → at + 4 ≤ length ds
    → stored (front (producer_words ps) ds) at p ≡ front (producer_words (ps ++ (p ∷ []))) ds
unfolding stored producer_words
stored-front ps ds p at e h =
    let n : at ≡ length (producer_words ps) = omega (arith, length-words ps) in
    rw (front_more (producer_words ps) ds p.head at n (omega arith))
    (rw (front_more (producer_words ps ++ (p.head ∷ [])) ds p.body (at + 1) (omega (arith, length-append (producer_words ps) (p.head ∷ []))) (omega arith))
    (rw (front_more ((producer_words ps ++ (p.head ∷ [])) ++ (p.body ∷ [])) ds p.root (at + 2)
    (omega (arith, length-append (producer_words ps ++ (p.head ∷ [])) (p.body ∷ []), length-append (producer_words ps) (p.head ∷ []))) (omega arith))
    (rw (front_more (((producer_words ps ++ (p.head ∷ [])) ++ (p.body ∷ [])) ++ (p.root ∷ [])) ds (word_of p.kind) (at + 3)
    (omega (arith, length-append ((producer_words ps ++ (p.head ∷ [])) ++ (p.body ∷ [])) (p.root ∷ []), length-append (producer_words ps ++ (p.head ∷ [])) (p.body ∷ []), length-append (producer_words ps) (p.head ∷ []))) (omega arith))
    (ap (λ ws. front ws ds) (rw (words_append ps (p ∷ [])) (simp append_assoc))))))

-- ---- what a root makes, written behind n producers

abbrev pub MadeSmall : Result (Option Producer) Refusal → Type 0
MadeSmall (Ok None) = Unit {0}
MadeSmall (Ok (Some p)) = (p.head < 4294967296) × (p.body < 4294967296) × (p.root < 4294967296)
MadeSmall (Err r) = Unit {0}

unfoldable pub appended : List ℕ → ℕ → Result (Option Producer) Refusal → List ℕ
appended ws n (Ok None) = ws
appended ws n (Ok (Some p)) = stored ws (4 * n) p
appended ws n (Err r) = ws

pub appended-front : (ps : List Producer) (ds : List ℕ) (made : Result (Option Producer) Refusal) (n : ℕ) → n ≡ length ps → 4 * n + 4 ≤ length ds
    → appended (front (producer_words ps) ds) n made ≡ front (producer_words (ps ++ made_by made)) ds
unfolding appended made_by
appended-front ps ds (Ok None) n e h = rw append-nil
appended-front ps ds (Ok (Some p)) n e h = stored-front ps ds p (4 * n) (rw e) h
appended-front ps ds (Err r) n e h = rw append-nil

-- a root makes at most one producer
pub made_one : (made : Result (Option Producer) Refusal) → length (made_by made) ≤ 1
unfolding made_by
made_one (Ok None) = omega arith
made_one (Ok (Some p)) = omega arith
made_one (Err r) = omega arith

-- at most one a root
pub few-producers : (nodes operands classes roots : List ℕ) → length (producers nodes operands classes roots) ≤ length roots
unfolding producers
few-producers nodes operands classes [] = omega arith
few-producers nodes operands classes (k ∷ roots) =
    omega (arith, length-append (made_by (produced nodes operands classes k)) (producers nodes operands classes roots), made_one (produced nodes operands classes k), few-producers nodes operands classes roots)

-- a turn of the loop that writes the producers
module _ (nodes operands classes roots : List ℕ) (i root : ℕ) (made : Result (Option Producer) Refusal) (h : i < length roots) (p : root ≡ get_or roots i 0) (q : made ≡ produced nodes operands classes root) where
  pub extract_count : (n r : ℕ) → n ≡ length (producers_before nodes operands classes roots i) → r ≡ n + length (made_by made) → r ≡ length (producers_before nodes operands classes roots (i + 1))
  extract_count n r e s =
      rw (producers_more nodes operands classes roots i root made h p q, length-append) (omega arith)

  pub extract_table : (ds xs ys : List ℕ) (n : ℕ) → n ≡ length (producers_before nodes operands classes roots i) → 4 * n + 4 ≤ length ds
      → xs ≡ front (producer_words (producers_before nodes operands classes roots i)) ds → ys ≡ appended xs n made
      → ys ≡ front (producer_words (producers_before nodes operands classes roots (i + 1))) ds
  extract_table ds xs ys n e l a b =
      b ∙ ap (λ ws. appended ws n made) a ∙ appended-front (producers_before nodes operands classes roots i) ds made n e l
      ∙ rw (producers_more nodes operands classes roots i root made h p q)
