-- What each branch of the tests gives, as code meets it.
-- Assumes nothing.
use Rattle.std.specs.Prelude.{ℕ, ◌+◌, ◌*◌, ◌/◌, ◌%◌, ◌^◌, ◌<◌, ◌≤◌, ◌≡◌, refl, Bool, true, false, cond, ◌&&◌, List, [], ◌∷◌, eqb, ltb, length, get_or, take, Err}
use Rattle.std.proofs.Common.{arith, sym, ◌∙◌, get_or-take, length-take-le}
use Rattle.std.proofs.Math.Path.{ap}
use borrow.Author.Tests.{eq-eqb, ne_eqb, lt-ltb, le-ltb, ltb-false}
use Rattle.theory.specs.Admission.{or_else, Admission, admitted}
use Rattle.theory.specs.Limits.{limits_of, Limited}
use Rattle.theory.specs.LimitsLaws.{passed}
use Rattle.theory.specs.declared.Counts.{Counts}
use Rattle.theory.specs.declared.Refusal.{Refusal}
use Rattle.theory.specs.declared.Refusal.TheVariants.{ShortBuffer, ForeignStamp, StrayBit}
use Rattle.words.specs.Next.{next}
use Rattle.words.specs.NextLaws.{next-end, next_rest}
use Rattle.kept.specs.Candidate.{Candidate}
use Rattle.kept.specs.SetOf.{words64}
use Rattle.kept.specs.Tables.{Tables}
use Rattle.kept.specs.Tests.{Buffer, buffer, buffers, first_short, stamps, stray_bit, tests}
use Rattle.kept_laws.specs.Given.{sized}
use Rattle.tests.specs.Lent.{buffers_by, Sizes}
use Rattle.tests.specs.declared.Lengths.{Lengths}

-- ---- 3 and 9

module _ (b : Buffer) (bs : List Buffer) where
  pub short_here : b.lent < b.least → Err (ShortBuffer b.number) ≡ first_short (b ∷ bs)
  unfolding first_short
  short_here l = rw (lt-ltb b.lent b.least l)

  pub long_here : (r : Admission) → b.least ≤ b.lent → r ≡ first_short bs → r ≡ first_short (b ∷ bs)
  unfolding first_short
  long_here r l e = rw (le-ltb b.lent b.least l) e

  -- the first is long enough
  pub first_long : first_short (b ∷ bs) ≡ admitted → b.least ≤ b.lent
  unfolding first_short
  first_long e = ltb-false b.lent b.least (passed (ltb b.lent b.least) (ShortBuffer b.number) (first_short bs) e).0

pub all_long : admitted ≡ first_short []
unfolding first_short
all_long = refl

-- ---- 16, whatever the rest of the tables is

module _ (t : Counts) (ws : List ℕ) (long : words64 t.atoms ≤ length ws) where
  abbrev listed : List ℕ
  listed = take (words64 t.atoms) ws

  size : length listed ≡ words64 t.atoms
  size = length-take-le (words64 t.atoms) ws long

  -- the candidate's words for the atoms may be searched
  pub searchable : Limited t → (t.atoms ≤ 64 * length listed) × (64 * length listed < 2 ^ 64)
  searchable limited = (omega (arith, size), omega (arith, size, limited.atoms))

  module _ (i : ℕ) (at : i ≡ next 64 listed t.atoms) where
    pub stray_found : i < 64 * words64 t.atoms → (T : Tables) (stamp : ℕ) → Err (StrayBit i) ≡ stray_bit (sized t T) (record { stamp = stamp; words = ws })
    unfolding stray_bit
    stray_found l T stamp = rw (← at, size, lt-ltb i (64 * words64 t.atoms) l)

    pub stray_none : 64 * words64 t.atoms ≤ i → (T : Tables) (stamp : ℕ) → admitted ≡ stray_bit (sized t T) (record { stamp = stamp; words = ws })
    unfolding stray_bit
    stray_none l T stamp = rw (← at, size, le-ltb i (64 * words64 t.atoms) l)

  -- the atoms fill their last word
  pub stray_full : t.atoms % 64 ≡ 0 → (T : Tables) (stamp : ℕ) → admitted ≡ stray_bit (sized t T) (record { stamp = stamp; words = ws })
  stray_full z = stray_none t.atoms (sym (next-end 64 listed t.atoms (omega (arith, size)))) (omega arith)

  -- the last word has no digit past the atoms
  pub stray_clear : (t.atoms % 64 ≡ 0 → ⊥) → get_or ws (t.atoms / 64) 0 / 2 ^ (t.atoms % 64) ≡ 0
      → (T : Tables) (stamp : ℕ) → admitted ≡ stray_bit (sized t T) (record { stamp = stamp; words = ws })
  stray_clear ne z = stray_none (64 * (t.atoms / 64 + 1)) (sym to) (omega arith)
    where
      last : t.atoms / 64 < words64 t.atoms
      last = omega arith

      to : next 64 listed t.atoms ≡ 64 * (t.atoms / 64 + 1)
      to =
          next_rest 64 listed t.atoms (omega arith) (omega (arith, size, last)) (rw (get_or-take (words64 t.atoms) ws (t.atoms / 64) 0 last) z)
          ∙ next-end 64 listed (64 * (t.atoms / 64 + 1)) (omega (arith, size))

-- ---- all of them

module _ (t : Counts) (plan stamp : ℕ) (ws : List ℕ) (l : Lengths) (all : l.candidate ≡ length ws) where
  abbrev given : Candidate
  given = record { stamp = stamp; words = ws }

  abbrev Answers : Admission → Type 0
  Answers r = (T : Tables) → Sizes T t plan l → r ≡ tests T given l.kept

  same : (T : Tables) → Sizes T t plan l → first_short (buffers T given l.kept) ≡ first_short (buffers_by t l)
  same T z = rw (z.counts, ← all, z.nodes, z.operands, z.roots, z.producers, z.readers)

  split : (T : Tables) → Sizes T t plan l → (a b : Admission) → limits_of t ≡ a → first_short (buffers_by t l) ≡ b
      → tests T given l.kept ≡ or_else a (or_else b (or_else (stamps T given) (stray_bit T given)))
  unfolding tests
  split T z a b p q = rw (same T z, q, ap limits_of z.counts ∙ p)

  pub limit_refused : (r : Refusal) → limits_of t ≡ Err r → Answers (Err r)
  limit_refused r p T z = sym (split T z (Err r) (first_short (buffers_by t l)) p refl)

  module _ (limited : limits_of t ≡ admitted) where
    pub short_refused : (r : Refusal) → first_short (buffers_by t l) ≡ Err r → Answers (Err r)
    short_refused r q T z = sym (split T z admitted (Err r) limited q)

    module _ (long : first_short (buffers_by t l) ≡ admitted) where
      pub candidate_long : words64 t.atoms ≤ length ws
      candidate_long = omega (arith, all, first_long (buffer 0 (words64 t.atoms) l.candidate) _ long)

      stamped : (x y : Bool) → eqb stamp t.stamp ≡ x → eqb plan t.stamp ≡ y → (T : Tables) → Sizes T t plan l
          → tests T given l.kept ≡ or_else (cond (x && y) admitted (Err ForeignStamp)) (stray_bit T given)
      unfolding stamps
      stamped x y p q T z = split T z admitted admitted limited long ∙ rw (z.counts, z.stamp, p, q)

      pub candidate_foreign : (stamp ≡ t.stamp → ⊥) → Answers (Err ForeignStamp)
      candidate_foreign n T z = sym (stamped false (eqb plan t.stamp) (ne_eqb stamp t.stamp n) refl T z)

      module _ (own : stamp ≡ t.stamp) where
        pub plan_foreign : (plan ≡ t.stamp → ⊥) → Answers (Err ForeignStamp)
        plan_foreign n T z = sym (stamped true false (eq-eqb stamp t.stamp own) (ne_eqb plan t.stamp n) T z)

        pub stray_left : plan ≡ t.stamp → (r : Admission) → ((T : Tables) (s : ℕ) → r ≡ stray_bit (sized t T) (record { stamp = s; words = ws })) → Answers r
        stray_left p r q T z =
            q T stamp ∙ ap (λ x. stray_bit (sized x T) given) (sym z.counts)
            ∙ sym (stamped true true (eq-eqb stamp t.stamp own) (eq-eqb plan t.stamp p) T z)
