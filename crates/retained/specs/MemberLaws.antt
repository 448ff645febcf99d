-- A set inside the lent words and the part of the evaluation that it is.
-- Assumes nothing.
use Prim.Native.Nat.{ℕ, ◌<◌, ◌≤◌, ◌+◌, ◌-◌, ◌*◌, ◌/◌, ◌%◌, ◌^◌}
use Rattle.std.proofs.Common.{arith, sym, ◌∙◌}
use Rattle.std.specs.Prelude.{◌≡◌, Bool, not, cond, List, length, get_or, Option, Some, None}
use Rattle.std.proofs.Math.Path.{refl, ap}
use Rattle.std.proofs.Math.Bool.{true, false}
use Rattle.std.specs.Int.Bits.{bit_or, bit_xor}
use borrow.Author.Tests.{eq-eqb, ne_eqb}
use Rattle.std.proofs.Math.ListN.{set, length-set}
use Rattle.words.specs.Bit.{bit}
use Rattle.words.specs.BitLaws.{one_shift}
use Rattle.words.specs.Changed.{unlike}
use Rattle.words.specs.Sets.{member, inserted, removed}
use Rattle.kept.specs.CountedSet.{and_then, CountedSet, moved, with_bit, with_member}
use Rattle.kept.proofs.CountedSetLaws.{unlike_same}
use Rattle.kept.specs.Tables.{Tables, atom_count, root_count}
use Rattle.kept.specs.Evaluation.{Evaluation}
use Rattle.kept.specs.Parts.{with_support, with_false_roots}
use Rattle.kept.specs.Step.{root_turned}
use Rattle.kept.specs.Layout.{of_words, written, missing_start, false_roots_start, used}
use Rattle.kept.specs.LayoutLaws.{Fits, fits_of}
use Rattle.kept_laws.specs.Stores.{with_members}
use Rattle.kept_laws.specs.Exits.{moved_up, moved_full, moved_down, moved_empty}
use Rattle.kept_laws.specs.FitsLaws.{roots_fit}
use Rattle.kept_laws.specs.Written.{written_same, put_missing, put_missing_size, put-false_roots, put-false_roots-size, get_missing, get_missing_size, get-false_roots, get-false_roots-size}
use Rattle.kept_laws.specs.Wrote.{Wrote, beside_same, Changing, done, out_of_range}
use Rattle.retained.specs.Member.{digit_put, bit_put, member_put, Put}
use Rattle.retained.specs.Changes.{missing_turned}

-- ---- the branches of the code

module _ (at size most i : ℕ) (x : Bool) (ws : List ℕ) where
  abbrev digit : Bool
  digit = bit (get_or ws (at + i / 32) 0) (i % 32)

  -- it is so already
  pub put_stays : digit ≡ x → Put ws (member_put at size most i x ws) done ws
  unfolding member_put
  put_stays e = rw (unlike_same digit x e) (refl, refl)

  -- its count would leave its range
  pub put_astray : unlike digit x ≡ true → moved most x (get_or ws size 0) ≡ None → Put ws (member_put at size most i x ws) out_of_range ws
  unfolding member_put
  put_astray e m = rw (e, m) (refl, refl)

  pub put_done : (n : ℕ) → unlike digit x ≡ true → moved most x (get_or ws size 0) ≡ Some n → Put ws (member_put at size most i x ws) done (set (bit_put at i x ws) size n)
  unfolding member_put
  put_done n e m = rw (e, m) (refl, refl)

-- the words that the code stores
module _ (at i : ℕ) (ws : List ℕ) where
  abbrev word : ℕ
  word = get_or ws (at + i / 32) 0

  abbrev mask : ℕ
  mask = (1 * 2 ^ (i % 32)) % 2 ^ 32

  pub mark_in : set ws (at + i / 32) (bit_or word mask) ≡ bit_put at i true ws
  unfolding bit_put
  mark_in = rw (one_shift 32 (i % 32) (omega arith))

  pub mark_out : set ws (at + i / 32) (bit_xor (bit_or word mask) mask) ≡ bit_put at i false ws
  unfolding bit_put
  mark_out = rw (one_shift 32 (i % 32) (omega arith))

  module _ (size most : ℕ) where
    is : word / 2 ^ (i % 32) % 2 ≡ 1 → bit word (i % 32) ≡ true
    unfolding bit
    is e = eq-eqb (word / 2 ^ (i % 32) % 2) 1 e

    is_not : (word / 2 ^ (i % 32) % 2 ≡ 1 → ⊥) → bit word (i % 32) ≡ false
    unfolding bit
    is_not e = ne_eqb (word / 2 ^ (i % 32) % 2) 1 e

    pub include_stays : word / 2 ^ (i % 32) % 2 ≡ 1 → Put ws (member_put at size most i true ws) done ws
    include_stays e = put_stays at size most i true ws (is e)

    pub include_full : (word / 2 ^ (i % 32) % 2 ≡ 1 → ⊥) → most ≤ get_or ws size 0 → Put ws (member_put at size most i true ws) out_of_range ws
    include_full e l = put_astray at size most i true ws (rw (is_not e)) (moved_full most (get_or ws size 0) l)

    pub include_done : (word / 2 ^ (i % 32) % 2 ≡ 1 → ⊥) → get_or ws size 0 < most
        → Put ws (member_put at size most i true ws) done (set (set ws (at + i / 32) (bit_or word mask)) size (get_or ws size 0 + 1))
    include_done e l = rw mark_in (put_done at size most i true ws (get_or ws size 0 + 1) (rw (is_not e)) (moved_up most (get_or ws size 0) l))

    pub exclude_stays : (word / 2 ^ (i % 32) % 2 ≡ 1 → ⊥) → Put ws (member_put at size most i false ws) done ws
    exclude_stays e = put_stays at size most i false ws (is_not e)

    pub exclude_none : word / 2 ^ (i % 32) % 2 ≡ 1 → get_or ws size 0 ≡ 0 → Put ws (member_put at size most i false ws) out_of_range ws
    exclude_none e z = put_astray at size most i false ws (rw (is e)) (rw z (moved_empty most))

    pub exclude_done : word / 2 ^ (i % 32) % 2 ≡ 1 → 0 < get_or ws size 0
        → Put ws (member_put at size most i false ws) done (set (set ws (at + i / 32) (bit_xor (bit_or word mask) mask)) size (get_or ws size 0 - 1))
    exclude_done e l = rw mark_out (put_done at size most i false ws (get_or ws size 0 - 1) (rw (is e)) (moved_down most (get_or ws size 0) l))

-- ---- a section

module _ (T : Tables) (ws : List ℕ) (at size n : ℕ) (s : CountedSet) (build : CountedSet → Evaluation) (same : written T ws (build s) ≡ ws) (i : ℕ) (x : Bool)
    (word : get_or ws (at + i / 32) 0 ≡ get_or s.members (i / 32) 0) (number : get_or ws size 0 ≡ s.size)
    (store : (v m : ℕ) → set (set ws (at + i / 32) v) size m ≡ written T ws (build (record { members = set s.members (i / 32) v; size = m }))) where
  digits : (x : Bool) → set s.members (i / 32) (digit_put (get_or s.members (i / 32) 0) (i % 32) x) ≡ with_bit s.members i x
  unfolding with_bit inserted removed
  digits true = refl
  digits false = refl

  turned : Option CountedSet → Option Evaluation
  turned o = and_then o (λ w. Some (build w))

  pub put_wrote : (ok : Changing) (after : List ℕ) → Put ws (member_put at size n i x ws) ok after → Wrote T ws (and_then (with_member n s i x) (λ w. Some (build w))) ok after
  unfolding member_put with_member member bit_put
  put_wrote ok after h = go (unlike (bit (get_or s.members (i / 32) 0) (i % 32)) x) (moved n x s.size) (rw (word, number) at h)
    where
      put : ℕ → CountedSet
      put m = record { members = with_bit s.members i x; size = m }

      go : (b : Bool) (o : Option ℕ)
          → Put ws (cond b (and_then o (λ m. Some (set (set ws (at + i / 32) (digit_put (get_or s.members (i / 32) 0) (i % 32) x)) size m))) (Some ws)) ok after
          → Wrote T ws (and_then (cond b (and_then o (λ m. Some (put m))) (Some s)) (λ w. Some (build w))) ok after
      go true None h = (h.0, rw h.1 (beside_same T ws))
      go true (Some m) h =
          (h.0, h.1 ∙ store (digit_put (get_or s.members (i / 32) 0) (i % 32) x) m ∙ ap (λ l. written T ws (build (record { members = l; size = m }))) (digits x))
      go false o h = (h.0, h.1 ∙ sym same)

module _ (T : Tables) (ws : List ℕ) (long : used T ≤ length ws) where
  abbrev e : Evaluation
  e = of_words T ws

  fits : Fits T e
  fits = fits_of T ws long

  pub missing_wrote : (a : ℕ) (x : Bool) → a < atom_count T → (ok : Changing) (after : List ℕ) → Put ws (member_put (missing_start T) 2 (atom_count T) a x ws) ok after → Wrote T ws (missing_turned T a x e) ok after
  unfolding missing_turned
  missing_wrote i x l =
      put_wrote T ws (missing_start T) 2 (atom_count T) e.missing (with_support e e.support) (written_same T ws long) i x (get_missing T ws long (i / 32) (omega arith)) (get_missing_size T ws)
      (λ v m.
      ap (λ w. set (set w (missing_start T + i / 32) v) 2 m) (sym (written_same T ws long))
      ∙ ap (λ w. set w 2 m) (put_missing T ws long e fits (i / 32) v (omega arith))
      ∙ put_missing_size T ws long (with_support e e.support (with_members e.missing (set e.missing.members (i / 32) v)))
      (record {
        truths = fits.truths;
        worklist = fits.worklist;
        support = fits.support;
        candidate = fits.candidate;
        missing = length-set e.missing.members (i / 32) v ∙ fits.missing;
        false_roots = fits.false_roots;
        groups = fits.groups;
      }) m)

  pub root_wrote : (r : ℕ) (t : Bool) → r < root_count T → (ok : Changing) (after : List ℕ) → Put ws (member_put (false_roots_start T) 3 (root_count T) r (not t) ws) ok after → Wrote T ws (root_turned T t r e) ok after
  unfolding root_turned
  root_wrote i t l =
      put_wrote T ws (false_roots_start T) 3 (root_count T) e.false_roots (with_false_roots e) (written_same T ws long) i (not t) (get-false_roots T ws long (i / 32) (omega arith)) (get-false_roots-size T ws)
      (λ v m.
      ap (λ w. set (set w (false_roots_start T + i / 32) v) 3 m) (sym (written_same T ws long))
      ∙ ap (λ w. set w 3 m) (put-false_roots T ws long e fits (i / 32) v (omega arith))
      ∙ put-false_roots-size T ws long (with_false_roots e (with_members e.false_roots (set e.false_roots.members (i / 32) v)))
      (roots_fit T e (with_members e.false_roots (set e.false_roots.members (i / 32) v)) (length-set e.false_roots.members (i / 32) v) fits) m)
