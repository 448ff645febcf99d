-- A candidate of a file, as the run lends it to a check: its atoms are those in the file, and no test refuses it.
-- Assumes nothing.
use Prim.Native.Nat.{ℕ, ◌-◌, ◌*◌, ◌<◌, ◌≤◌}
use native.Mathlib.Omega.{arith}
use mathlib.Core.Path.{◌≡◌, refl, sym, ap, fun_ext, ◌∙◌}
use mathlib.Core.Logic.{⊎_elim}
use mathlib.Core.Bool.{true, false≢true}
use mathlib.Core.List.{List, [], ◌∷◌}
use lib.Dec.{eqb}
use lib.ListN.{length}
use lib.Seq.{take_all}
use borrow.Author.Tests.{le-ltb, eqb-true, eq-eqb}
use Rattle.base.specs.Tests.{below_or, either}
use Rattle.base.specs.Each.{Each}
use Rattle.base.specs.Places.{Lowest}
use Rattle.words.specs.Sets.{member}
use Rattle.words.specs.Next.{next}
use Rattle.words.specs.NextLaws.{next_is}
use Rattle.theory.specs.Admission.{all_below, admitted}
use Rattle.theory.specs.Limits.{limits_of}
use Rattle.theory.specs.Spans.{all_below_each}
use Rattle.load.specs.Candidate.{candidate_words, among}
use Rattle.load.proofs.Sets.{candidate_members}
use Rattle.readers.specs.ReaderTable.{reader_words}
use Rattle.kept.specs.SetOf.{words64}
use Rattle.kept.specs.Tables.{Tables, atom_count, node_count, root_count}
use Rattle.kept.specs.Candidate.{listed_words, atoms_of}
use Rattle.kept.specs.Layout.{listed}
use Rattle.kept.specs.Tests.{buffers, first_short, stamps, stray_bit, tests}
use Rattle.run.specs.Text.{candidate_of}
use Rattle.run.specs.CheckLaws.{length-candidate_words}

pub each_among : (P : ℕ → Type 0) (c : List ℕ) → Each P c → (a : ℕ) → among a c ≡ true → P a
unfolding among
each_among P [] h a e = absurd (false≢true e)
each_among P (x ∷ c) h a e = ⊎_elim (λ p. rw (eqb-true x a p) at h.0) (λ p. each_among P c h.1 a p) (either (eqb x a) (among a c) e)

-- what the tests before 17 ask of the tables, and of the kept words' length
pub record Lent (T : Tables) (size : ℕ) : Type 0 where
  pub within : limits_of T.counts ≡ admitted
  pub nodes_long : 3 * node_count T ≤ length T.nodes
  pub operands_long : T.counts.operands ≤ length T.operands
  pub roots_long : root_count T ≤ length T.roots
  pub producers_long : 4 * root_count T ≤ length T.producers
  pub readers_long : reader_words T.counts ≤ length T.readers
  pub kept_long : listed T ≤ size
  pub stamp : T.plan ≡ T.counts.stamp

module _ (T : Tables) (c : List ℕ) (b : all_below (atom_count T) c ≡ true) where
  listed_are : listed_words T (candidate_of T c) ≡ candidate_words (atom_count T) c
  unfolding candidate_of
  listed_are = take_all (words64 (atom_count T)) (candidate_words (atom_count T) c) (omega (arith, length-candidate_words (atom_count T) c))

  pub atoms_are : atoms_of T (candidate_of T c) ≡ (λ a. among a c)
  unfolding atoms_of
  atoms_are = fun_ext (λ a. ap (λ ws. member 64 ws a) listed_are ∙ candidate_members (atom_count T) c a b)

  stray_none : stray_bit T (candidate_of T c) ≡ admitted
  unfolding stray_bit
  stray_none = rw listed_are (⊎_elim (λ l. absurd (clash l)) (λ l. rw (le-ltb (next 64 ws (atom_count T)) (64 * length ws) l)) (below_or (next 64 ws (atom_count T)) (64 * length ws)))
    where
      ws : List ℕ
      ws = candidate_words (atom_count T) c

      low : Lowest (member 64 ws) (atom_count T) (64 * length ws - atom_count T) (next 64 ws (atom_count T))
      low = next_is 64 ws (atom_count T)

      clash : next 64 ws (atom_count T) < 64 * length ws → ⊥
      clash l =
          let from : atom_count T ≤ next 64 ws (atom_count T) = low.from in
          let here : member 64 ws (next 64 ws (atom_count T)) ≡ true = low.here (omega arith) in
          omega (arith, each_among (λ a. a < atom_count T) c (all_below_each (atom_count T) c b) (next 64 ws (atom_count T)) (sym (candidate_members (atom_count T) c (next 64 ws (atom_count T)) b) ∙ here))

  stamps_same : T.plan ≡ T.counts.stamp → stamps T (candidate_of T c) ≡ admitted
  unfolding stamps candidate_of
  stamps_same e = rw (e, eq-eqb T.counts.stamp T.counts.stamp refl)

  none_short : (size : ℕ) → Lent T size → first_short (buffers T (candidate_of T c) size) ≡ admitted
  unfolding first_short candidate_of
  none_short size h =
      rw (
        le-ltb (length (candidate_words (atom_count T) c)) (words64 (atom_count T)) (omega (arith, length-candidate_words (atom_count T) c)),
        le-ltb (length T.nodes) (3 * node_count T) h.nodes_long,
        le-ltb (length T.operands) T.counts.operands h.operands_long,
        le-ltb (length T.roots) (root_count T) h.roots_long,
        le-ltb (length T.producers) (4 * root_count T) h.producers_long,
        le-ltb (length T.readers) (reader_words T.counts) h.readers_long,
        le-ltb size (listed T) h.kept_long,
      )

  pub passes : (size : ℕ) → Lent T size → tests T (candidate_of T c) size ≡ admitted
  unfolding tests
  passes size h = rw (h.within, none_short size h, stamps_same h.stamp, stray_none)
