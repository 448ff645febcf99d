-- Count, prefix sum and placement: each step keeps what the words of the lists say, and the end is the table laid.
-- Assumes nothing.
use Prim.Native.Nat.{ℕ, zero, suc, ◌+◌, ◌-◌, ◌^◌, ◌<◌, ◌≤◌}
use native.Mathlib.Numerals.{add-one}
use native.Mathlib.Omega.{arith}
use mathlib.Core.Path.{◌≡◌, refl, ap, sym, ◌∙◌}
use mathlib.Core.Logic.{⊎_elim}
use mathlib.Core.Bool.{Bool, true, false, cond}
use mathlib.Core.List.{List, [], ◌∷◌, ◌++◌}
use lib.Dec.{eqb}
use borrow.Rule.Slice.PartMut.{put_mid}
use Rattle.std.proofs.lemmas.List.{get_or-replicate, length-replicate}
use Rattle.std.proofs.lemmas.Slice.{drop-append-drop}
use lib.ListN.{length, get_or, set, drop, replicate, length-set, length-drop, length-append, get_or-append}
use lib.Seq.{length-take-le, get_or-set_same, get_or-set_other, get_or-drop, get_or-take, drop-set-lt, drop-drop}
use borrow.Author.Tests.{eq-eqb, ne_eqb}
use Rattle.base.specs.Tests.{equal_or, below_or}
use Rattle.readers.specs.Joined.{joined, joined_agree, joined-more, joined-none}
use Rattle.readers.specs.Laid.{start_of, laid, laid_over, part}
use Rattle.readers.specs.LaidLaws.{start_zero, start_more, start_rises, start_least, length-laid, laid_is}
use Rattle.readers.specs.Incidences.{Item, item, entries_of}
use Rattle.base.specs.Each.{Each}
use Rattle.readers.specs.Pass.{passed, Fits, counted, counted_all, CountFits, placed, placed_all, PlaceFits}
use Rattle.readers.proofs.Below.{Below}
use Rattle.readers.specs.Placement.{Head, total, Zero, Counted, Summed, Started}

-- ---- entries of a list

pub entries_here : (s e : ℕ) (xs : List Item) → entries_of s (item s e ∷ xs) ≡ e ∷ entries_of s xs
unfolding entries_of
entries_here s e xs = rw (eq-eqb s s refl)

pub entries_other : (r s e : ℕ) (xs : List Item) → (r ≡ s → ⊥) → entries_of r (item s e ∷ xs) ≡ entries_of r xs
unfolding entries_of
entries_other r s e xs h = rw (ne_eqb s r (λ q. h (sym q)))

pub entries_few : (s : ℕ) (xs : List Item) → length (entries_of s xs) ≤ length xs
unfolding entries_of
entries_few s [] = omega arith
entries_few s (x ∷ xs) = go (eqb x.slot s) (entries_few s xs)
  where
    go : (b : Bool) → length (entries_of s xs) ≤ length xs → length (cond b (x.entry ∷ entries_of s xs) (entries_of s xs)) ≤ suc (length xs)
    go true h = omega arith
    go false h = omega arith

-- an item more is an entry more, of one list alone
one_more : (x : Item) (xs : List Item) (n : ℕ) → length (joined (λ r. entries_of r (x ∷ xs)) 0 n) ≤ suc (length (joined (λ r. entries_of r xs) 0 n))
unfolding joined
one_more x xs zero = omega arith
one_more x xs (suc n) = ⊎_elim here (there (one_more x xs n)) (equal_or n x.slot)
  where
    same : n ≤ x.slot → joined (λ r. entries_of r (x ∷ xs)) 0 n ≡ joined (λ r. entries_of r xs) 0 n
    same l = joined_agree (λ r. entries_of r (x ∷ xs)) (λ r. entries_of r xs) 0 n (λ k a b. entries_other k x.slot x.entry xs (λ e. omega arith))

    grown : (ys : List Item) → length (joined (λ r. entries_of r ys) 0 (suc n)) ≡ length (joined (λ r. entries_of r ys) 0 n) + length (entries_of n ys)
    grown ys = ap length (joined-more (λ r. entries_of r ys) n) ∙ length-append (joined (λ r. entries_of r ys) 0 n) (entries_of n ys)

    here : n ≡ x.slot → length (joined (λ r. entries_of r (x ∷ xs)) 0 (suc n)) ≤ suc (length (joined (λ r. entries_of r xs) 0 (suc n)))
    here e =
        omega (
          arith,
          grown (x ∷ xs),
          grown xs,
          ap length (same (omega arith)),
          ap (λ s. length (entries_of s (x ∷ xs))) e,
          ap length (entries_here x.slot x.entry xs),
          ap (λ s. length (entries_of s xs)) e,
        )

    there : length (joined (λ r. entries_of r (x ∷ xs)) 0 n) ≤ suc (length (joined (λ r. entries_of r xs) 0 n)) → (n ≡ x.slot → ⊥)
        → length (joined (λ r. entries_of r (x ∷ xs)) 0 (suc n)) ≤ suc (length (joined (λ r. entries_of r xs) 0 (suc n)))
    there ih ne = omega (arith, grown (x ∷ xs), grown xs, ap length (entries_other n x.slot x.entry xs ne))

pub lists_few : (xs : List Item) (n : ℕ) → length (joined (λ r. entries_of r xs) 0 n) ≤ length xs
unfolding entries_of
lists_few [] n = omega (arith, ap length (joined-none (λ r. entries_of r []) 0 n (λ k a b. refl)))
lists_few (x ∷ xs) n = omega (arith, one_more x xs n, lists_few xs n)

-- ---- the words of the lists

module _ (n b : ℕ) (P Q : ℕ → ℕ → Type 0) (before words : List ℕ) where
  -- the word of one list is set
  pub head_set : (s v : ℕ) → s < n → n + 1 ≤ b → n + 1 ≤ length before → Head n b P before words → Q s v
      → ((r x : ℕ) → (r ≡ s → ⊥) → P r x → Q r x) → Head n b Q before (set words (s + 1) v)
  head_set s v l m room h q keep =
      record {
        first = get_or-set_other words (s + 1) 0 v 0 (λ e. omega arith) ∙ h.first;
        each = λ r k. ⊎_elim (at r) (λ ne. other r k ne) (equal_or r s);
        behind = drop-set-lt b words (s + 1) v (omega arith) ∙ h.behind;
        long = length-set words (s + 1) v ∙ h.long;
      }
    where
      at : (r : ℕ) → r ≡ s → Q r (get_or (set words (s + 1) v) (r + 1) 0)
      at r e = rw (e, get_or-set_same words (s + 1) v 0 (omega (arith, h.long))) q

      other : (r : ℕ) → r < n → (r ≡ s → ⊥) → Q r (get_or (set words (s + 1) v) (r + 1) 0)
      other r k ne = rw (get_or-set_other words (s + 1) (r + 1) v 0 (λ e. ne (omega arith))) (keep r _ ne (h.each r k))

  -- an entry is written behind them
  pub head_write : (at v : ℕ) → n + 1 ≤ at → at < b → Head n b P before words → Head n b P before (set words at v)
  head_write at v l m h =
      record {
        first = get_or-set_other words at 0 v 0 (λ e. omega arith) ∙ h.first;
        each = λ r k. rw (get_or-set_other words at (r + 1) v 0 (λ e. omega arith)) (h.each r k);
        behind = drop-set-lt b words at v m ∙ h.behind;
        long = length-set words at v ∙ h.long;
      }

  pub head_map : ((s x : ℕ) → s < n → P s x → Q s x) → Head n b P before words → Head n b Q before words
  head_map f h = record { first = h.first; each = λ s l. f s _ l (h.each s l); behind = h.behind; long = h.long }

pub head_self : (n b : ℕ) (P : ℕ → ℕ → Type 0) (xs ys : List ℕ) → Head n b P xs ys → Head n b P ys ys
head_self n b P xs ys h = record { first = h.first; each = h.each; behind = refl; long = refl }

-- the n words behind the first, as they are lent
pub lists_long : (n : ℕ) (words : List ℕ) → n + 1 ≤ length words → length (part words 1 (n + 1)) ≡ n
lists_long n words room =
    let e : n + 1 - 1 ≡ n = omega arith in
    rw e (length-take-le n (drop 1 words) (omega (arith, length-drop 1 words)))

-- and the whole behind what was written there
pub head_put : (n : ℕ) (P : ℕ → ℕ → Type 0) (words lists : List ℕ) → n + 1 ≤ length words → length lists ≡ n → get_or words 0 0 ≡ n + 1
    → ((s : ℕ) → s < n → P s (get_or lists s 0)) → Head n (n + 1) P words (put_mid 1 (n + 1 - 1) words lists)
head_put n P [] lists room long first each = absurd (omega arith)
head_put n P (x ∷ xs) lists room long first each =
    let e : n + 1 - 1 ≡ n = omega arith in
    rw e
    (record {
      first = first;
      each = λ s l. rw (add-one s, get_or-append lists (drop n xs) 0 s (omega arith)) (each s l);
      behind = rw (add-one n) (drop-append-drop n xs lists n (omega arith) long);
      long = omega (arith, length-append lists (drop n xs), length-drop n xs, long);
    })

-- ---- clearing

-- the first word says where entries begin, and the n behind it are 0
pub cleared : (n : ℕ) (words zeros : List ℕ) → n + 1 ≤ length words → zeros ≡ replicate (length (part (set words 0 (n + 1)) 1 (n + 1))) 0
    → Head n (n + 1) Zero words (put_mid 1 (n + 1 - 1) (set words 0 (n + 1)) zeros)
cleared n words zeros room e =
    let kept : length (set words 0 (n + 1)) ≡ length words = length-set words 0 (n + 1) in
    let long : length (part (set words 0 (n + 1)) 1 (n + 1)) ≡ n = lists_long n (set words 0 (n + 1)) (omega arith) in
    let zero : zeros ≡ replicate n 0 = e ∙ ap (λ m. replicate m 0) long in
    let h =
    head_put n Zero (set words 0 (n + 1)) zeros (omega arith) (ap length zero ∙ length-replicate n 0) (get_or-set_same words 0 (n + 1) 0 (omega arith))
    (λ s l. rw zero (get_or-replicate n s 0 0 l)) in
    record { first = h.first; each = h.each; behind = h.behind ∙ drop-set-lt (n + 1) words 0 (n + 1) (omega arith); long = h.long ∙ kept }

-- ---- counting

-- x of list s, with the items `left` still to be counted
abbrev pub Counting : List Item → List Item → ℕ → ℕ → Type 0
Counting all left s x = x + length (entries_of s left) ≡ length (entries_of s all)

pub count_none : (n : ℕ) (all : List Item) (before words : List ℕ) → Head n (n + 1) Zero before words → Head n (n + 1) (Counting all all) before words
count_none n all before words = head_map n (n + 1) _ _ before words (λ s x l z. omega arith)

pub count_done : (n : ℕ) (all : List Item) (before words : List ℕ) → Head n (n + 1) (Counting all []) before words → Head n (n + 1) (Counted all) before words
unfolding entries_of
count_done n all before words = head_map n (n + 1) _ _ before words (λ s x l z. omega arith)

pub count_more : (n : ℕ) (all rest : List Item) (before words : List ℕ) (s e : ℕ) → s < n → n + 1 ≤ length before
    → Head n (n + 1) (Counting all (item s e ∷ rest)) before words → Head n (n + 1) (Counting all rest) before (set words (s + 1) (get_or words (s + 1) 0 + 1))
count_more n all rest before words s e l room h =
    head_set n (n + 1) _ _ before words s _ l (omega arith) room h
    (omega (arith, h.each s l, ap length (entries_here s e rest)))
    (λ r x ne p. omega (arith, p, ap length (entries_other r s e rest ne)))

-- what is counted so far stays within the count
pub count_room : (all rest : List Item) (s e x : ℕ) → Counting all (item s e ∷ rest) s x → x < length all
count_room all rest s e x p = omega (arith, p, ap length (entries_here s e rest), entries_few s all)

-- all that is left is counted
pub count_pass : (n : ℕ) (all left : List Item) (before words : List ℕ) → Each (Below n) left → n + 1 ≤ length before → length all < 2 ^ 62
    → Head n (n + 1) (Counting all left) before words → CountFits left words × Head n (n + 1) (Counted all) before (counted_all left words)
unfolding passed Fits counted
count_pass n all [] before words b room few h = (tt, count_done n all before words h)
count_pass n all (x ∷ xs) before words b room few h =
    let r = count_pass n all xs before (counted x.slot words) b.1 room few (count_more n all xs before words x.slot x.entry b.0 room h) in
    let below : get_or words (x.slot + 1) 0 < length all = count_room all xs x.slot x.entry _ (h.each x.slot b.0) in
    ((record { within = omega (arith, b.0, h.long); below = omega arith }, r.0), r.1)

-- ---- sums

pub total_more : (words : List ℕ) (i : ℕ) → total words (i + 1) ≡ total words i + get_or words (i + 1) 0
total_more words i = ap (total words) (add-one i) ∙ (unfold total in refl)

pub total_rises : (words : List ℕ) (i k : ℕ) → total words i ≤ total words (i + k)
unfolding total
total_rises words i zero = omega (arith, ap (total words) (zero_more i))
  where
    zero_more : (i : ℕ) → i + zero ≡ i
    zero_more i = omega arith
total_rises words i (suc k) = omega (arith, total_rises words i k, ap (total words) (suc_more i k))
  where
    suc_more : (i k : ℕ) → i + suc k ≡ suc (i + k)
    suc_more i k = omega arith

pub total_least : (words : List ℕ) (n i : ℕ) → i < n → total words i + get_or words (i + 1) 0 ≤ total words n
total_least words n i l =
    let e : i + 1 + (n - (i + 1)) ≡ n = omega arith in
    omega (arith, total_more words i, total_rises words (i + 1) (n - (i + 1)), ap (total words) e)

-- the first i of the lists' words are summed, and the next starts at v; the others still count
pub record Summing (words : List ℕ) (n i v : ℕ) (lists : List ℕ) : Type 0 where
  pub next : Summed words n i v
  pub summed : (s : ℕ) → s < i → Summed words n s (get_or lists s 0)
  pub left : (s : ℕ) → i ≤ s → s < n → get_or lists s 0 ≡ get_or words (s + 1) 0

pub sum_none : (n : ℕ) (words : List ℕ) → Summing words n 0 (n + 1) (part words 1 (n + 1))
unfolding total
sum_none n words =
    record {
      next = omega arith;
      summed = λ s l. absurd (omega arith);
      left = λ s l m.
          let e : 1 + s ≡ s + 1 = omega arith in get_or-take (n + 1 - 1) (drop 1 words) s 0 (omega arith) ∙ get_or-drop 1 words s 0 ∙ ap (λ j. get_or words j 0) e;
    }

module _ (n i v : ℕ) (words lists : List ℕ) (l : i < n) (h : Summing words n i v lists) where
  -- the sum stays within that of all
  pub sum_room : v + get_or lists i 0 ≤ n + 1 + total words n
  sum_room = omega (arith, h.next, h.left i (omega arith) l, total_least words n i l)

  pub sum_more : length lists ≡ n → Summing words n (i + 1) (v + get_or lists i 0) (set lists i v)
  sum_more long =
      record {
        next = omega (arith, h.next, h.left i (omega arith) l, total_more words i);
        summed = λ s m. ⊎_elim (λ e. rw (e, get_or-set_same lists i v 0 (omega arith)) h.next)
            (λ ne. rw (get_or-set_other lists i s v 0 ne) (h.summed s (omega arith))) (equal_or s i);
        left = λ s a b. get_or-set_other lists i s v 0 (λ e. omega arith) ∙ h.left s (omega arith) b;
      }

-- words that count are summed to where the lists begin
pub total_start : (all : List Item) (n : ℕ) (words : List ℕ) → ((s : ℕ) → s < n → Counted all s (get_or words (s + 1) 0)) → (s : ℕ) → s ≤ n
    → n + 1 + total words s ≡ start_of (λ r. entries_of r all) n s
unfolding total
total_start all n words h zero l = omega (arith, start_zero (λ r. entries_of r all) n)
total_start all n words h (suc s) l =
    omega (
      arith,
      total_start all n words h s (omega arith),
      h s (omega arith),
      start_more (λ r. entries_of r all) n s,
      ap (start_of (λ r. entries_of r all) n) (add-one s),
    )

-- ---- placing

-- x is where list s goes on, with the items `left` still to be placed
pub record Filling (all left : List Item) (n s x : ℕ) : Type 0 where
  pub low : start_of (λ r. entries_of r all) n s ≤ x
  pub high : x ≤ start_of (λ r. entries_of r all) n (s + 1)
  pub rest : drop (x - start_of (λ r. entries_of r all) n s) (entries_of s all) ≡ entries_of s left

-- every list holds its entries up to where it goes on
pub record Placing (all left : List Item) (n : ℕ) (before words : List ℕ) : Type 0 where
  pub head : Head n (start_of (λ r. entries_of r all) n n) (Filling all left n) before words
  pub placed : (s j : ℕ) → s < n → start_of (λ r. entries_of r all) n s + j < get_or words (s + 1) 0
      → get_or words (start_of (λ r. entries_of r all) n s + j) 0 ≡ get_or (entries_of s all) j 0

module _ (all : List Item) (n : ℕ) where
  abbrev start : ℕ → ℕ
  start s = start_of (λ r. entries_of r all) n s

  pub place_none : (words : List ℕ) → Head n (n + 1) (Started all n) words words → Placing all all n words words
  place_none words h =
      record {
        head = record { first = h.first; each = λ s l. first s _ (h.each s l); behind = refl; long = refl };
        placed = λ s j l m. absurd (omega (arith, h.each s l));
      }
    where
      first : (s x : ℕ) → Started all n s x → Filling all all n s x
      first s x e =
          let z : x - start s ≡ 0 = omega arith in
          record { low = omega arith; high = omega (arith, start_more (λ r. entries_of r all) n s); rest = ap (λ k. drop k (entries_of s all)) z }

  module _ (rest : List Item) (before words : List ℕ) (s e : ℕ) (l : s < n) (room : start n ≤ length before) (h : Placing all (item s e ∷ rest) n before words) where
    abbrev left : List Item
    left = item s e ∷ rest

    abbrev at : ℕ
    at = get_or words (s + 1) 0

    fill : Filling all left n s at
    fill = h.head.each s l

    next_entry : drop (at - start s) (entries_of s all) ≡ e ∷ entries_of s rest
    next_entry = fill.rest ∙ entries_here s e rest

    pub place_room : at < start (s + 1)
    place_room =
        omega (arith, ap length next_entry, length-drop (at - start s) (entries_of s all), fill.low, fill.high, start_more (λ r. entries_of r all) n s)

    ends : start (s + 1) ≤ start n
    ends = omega (arith, start_rises (λ r. entries_of r all) n s n l, start_more (λ r. entries_of r all) n s)

    pub place-within : at < length words
    place-within = omega (arith, place_room, ends, h.head.long)

    entry_is : get_or (entries_of s all) (at - start s) 0 ≡ e
    entry_is =
        let z : at - start s + 0 ≡ at - start s = omega arith in
        ap (λ k. get_or (entries_of s all) k 0) (sym z) ∙ sym (get_or-drop (at - start s) (entries_of s all) 0 0) ∙ ap (λ xs. get_or xs 0 0) next_entry

    behind-entry : drop (at + 1 - start s) (entries_of s all) ≡ entries_of s rest
    behind-entry =
        let z : at + 1 - start s ≡ at - start s + 1 = omega (arith, fill.low) in
        ap (λ k. drop k (entries_of s all)) z ∙ sym (drop-drop 1 (at - start s) (entries_of s all)) ∙ ap (drop 1) next_entry

    abbrev written : List ℕ
    written = set (set words at e) (s + 1) (at + 1)

    -- another list's entries are elsewhere
    apart : (r j : ℕ) → r < n → (r ≡ s → ⊥) → start r + j < get_or words (r + 1) 0 → start r + j ≡ at → ⊥
    apart r j k ne m same =
        ⊎_elim
        (λ b. omega (arith, start_rises (λ r. entries_of r all) n r s b, start_more (λ r. entries_of r all) n r, (h.head.each r k).high, fill.low))
        (λ b. omega (arith, start_rises (λ r. entries_of r all) n s r (omega arith), start_more (λ r. entries_of r all) n s, place_room))
        (below_or r s)

    unmoved : (r j : ℕ) → (start r + j ≡ at → ⊥) → get_or written (start r + j) 0 ≡ get_or words (start r + j) 0
    unmoved r j ne =
        get_or-set_other (set words at e) (s + 1) (start r + j) (at + 1) 0 (λ same. omega (arith, start_least (λ r. entries_of r all) n r))
        ∙ get_or-set_other words at (start r + j) e 0 ne

    pub place_more : Placing all rest n before written
    place_more =
        record {
          head =
              head_set n (start n) (Filling all left n) (Filling all rest n) before (set words at e) s (at + 1) l
              (start_least (λ r. entries_of r all) n n) (omega (arith, start_least (λ r. entries_of r all) n n))
              (head_write n (start n) (Filling all left n) (Filling all left n) before words at e
              (omega (arith, fill.low, start_least (λ r. entries_of r all) n s)) (omega (arith, place_room, ends)) h.head)
              (record { low = omega (arith, fill.low); high = omega (arith, place_room); rest = behind-entry })
              (λ r x ne f. record { low = f.low; high = f.high; rest = f.rest ∙ entries_other r s e rest ne });
          placed = λ r j k m. ⊎_elim (λ same. here r j same k m) (λ ne. there r j k ne m) (equal_or r s);
        }
      where
        there : (r j : ℕ) → r < n → (r ≡ s → ⊥) → start r + j < get_or written (r + 1) 0 → get_or written (start r + j) 0 ≡ get_or (entries_of r all) j 0
        there r j k ne m =
            let cursor : get_or written (r + 1) 0 ≡ get_or words (r + 1) 0 =
            get_or-set_other (set words at e) (s + 1) (r + 1) (at + 1) 0 (λ same. ne (omega arith))
            ∙ get_or-set_other words at (r + 1) e 0 (λ same. omega (arith, fill.low, start_least (λ r. entries_of r all) n s)) in
            let old : start r + j < get_or words (r + 1) 0 = omega arith in
            unmoved r j (apart r j k ne old) ∙ h.placed r j k old

        same_list : (j : ℕ) → start s + j < at + 1 → get_or written (start s + j) 0 ≡ get_or (entries_of s all) j 0
        same_list j m =
            ⊎_elim
            (λ last.
            let j-is : at - start s ≡ j = omega (arith, fill.low) in
            ap (λ k. get_or written k 0) last
            ∙ get_or-set_other (set words at e) (s + 1) at (at + 1) 0 (λ same. omega (arith, fill.low, start_least (λ r. entries_of r all) n s))
            ∙ get_or-set_same words at e 0 place-within ∙ sym (ap (λ k. get_or (entries_of s all) k 0) (sym j-is) ∙ entry_is))
            (λ ne. unmoved s j ne ∙ h.placed s j l (omega arith)) (equal_or (start s + j) at)

        here : (r j : ℕ) → r ≡ s → r < n → start r + j < get_or written (r + 1) 0 → get_or written (start r + j) 0 ≡ get_or (entries_of r all) j 0
        here r j same k m =
            let cursor : get_or written (s + 1) 0 ≡ at + 1 =
            get_or-set_same (set words at e) (s + 1) (at + 1) 0 (omega (arith, length-set words at e, h.head.long, start_least (λ r. entries_of r all) n n)) in
            let here-m : start s + j < at + 1 = rw (same, cursor) at m in
            rw same (same_list j here-m)

  -- nothing left: the table is laid
  pub place_done : (before words : List ℕ) → start n ≤ length before → Placing all [] n before words
      → words ≡ laid_over (λ r. entries_of r all) n before
  unfolding laid_over
  place_done before words room h =
      laid_is (λ r. entries_of r all) n words (omega (arith, h.head.long)) starts lists ∙ ap (λ r. laid (λ r. entries_of r all) n ++ r) (h.head.behind ∙ ap (λ k. drop k before) (sym (length-laid (λ r. entries_of r all) n)))
    where
      full : (s : ℕ) → s < n → get_or words (s + 1) 0 ≡ start (s + 1)
      full s l =
          let f = h.head.each s l in
          let none : drop (get_or words (s + 1) 0 - start s) (entries_of s all) ≡ [] = f.rest ∙ (unfold entries_of in refl) in
          omega (arith, ap length none, length-drop (get_or words (s + 1) 0 - start s) (entries_of s all), f.low, f.high, start_more (λ r. entries_of r all) n s)

      starts : (s : ℕ) → s ≤ n → get_or words s 0 ≡ start s
      starts zero l = h.head.first ∙ sym (start_zero (λ r. entries_of r all) n)
      starts (suc s) l = rw (← add-one s) (full s (omega arith))

      lists : (s j : ℕ) → s < n → j < length (entries_of s all) → get_or words (start s + j) 0 ≡ get_or (entries_of s all) j 0
      lists s j l m = h.placed s j l (omega (arith, full s l, start_more (λ r. entries_of r all) n s))

-- all that is left is placed
pub place_pass : (all : List Item) (n : ℕ) (left : List Item) (before words : List ℕ) → Each (Below n) left → start_of (λ r. entries_of r all) n n ≤ length before
    → Placing all left n before words → PlaceFits left words × (placed_all left words ≡ laid_over (λ r. entries_of r all) n before)
unfolding passed Fits placed
place_pass all n [] before words b room h = (tt, place_done all n before words room h)
place_pass all n (x ∷ xs) before words b room h =
    let r = place_pass all n xs before (placed x.slot x.entry words) b.1 room (place_more all n xs before words x.slot x.entry b.0 room h) in
    let there : get_or words (x.slot + 1) 0 < length words = place-within all n xs before words x.slot x.entry b.0 room h in
    ((record { within = omega (arith, b.0, h.head.long, start_least (λ r. entries_of r all) n n); there = there }, r.0), r.1)
