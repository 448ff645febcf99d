-- A series of checks goes by the listed words of the lent buffers: what stands past them may change from call to call.
-- Assumes nothing.
use Prim.Native.Nat.{ℕ, ◌≤◌}
use native.Mathlib.Omega.{arith}
use mathlib.Core.Path.{◌≡◌, ap, sym, ◌∙◌, subst}
use mathlib.Core.List.{List, [], ◌∷◌}
use lib.ListN.{length, drop, replicate, length-append, length-replicate}
use lib.Seq.{take_at, length-take-le}
use Rattle.kept.specs.Tables.{Tables}
use Rattle.kept.specs.Layout.{listed}
use Rattle.kept.specs.Candidate.{Candidate}
use Rattle.kept.specs.Outcome.{outcome}
use Rattle.kept.specs.Series.{zeroed_words, words_after, series_words}
use Rattle.kept_laws.specs.Listed.{listed_kept, SameKept, SameOutcome, Call, Checks, AllCheck, lent_to, called, called_words}
use Rattle.kept_laws.proofs.AnyWords.{outcome_keeps}
use Rattle.kept_laws.proofs.Listed.{outcome-listed}

module _ (floor divisor : ℕ) (T : Tables) where
  -- the listed words that a call is lent
  lent-listed : (k : Call) (ws : List ℕ) → listed T ≤ length ws → listed_kept T (lent_to T k ws) ≡ listed_kept T ws
  lent-listed k ws l = take_at (listed_kept T ws) k.past (listed T) (length-take-le (listed T) ws l)

  -- after a call
  module _ (k : Call) (c : Candidate) (ws vs : List ℕ) (h : Checks T k c) (l : listed T ≤ length ws) (r : SameKept T ws vs) where
    call_listed : SameOutcome T (lent_to T k ws) (called floor divisor T k ws) (outcome floor divisor T c vs)
    call_listed = record {
      answer = sym other.answer;
      words = sym other.words;
      past = subst (λ n. drop n (called floor divisor T k ws).words ≡ drop n (lent_to T k ws)) (sym size) (outcome_keeps k.tables floor divisor k.candidate (lent_to T k ws)).past;
    }
      where
        other : SameOutcome T vs (outcome floor divisor T c vs) (called floor divisor T k ws)
        other = outcome-listed floor divisor T k.tables c k.candidate vs (lent_to T k ws) h.0 h.1 (sym (lent-listed k ws l ∙ r))

        size : listed T ≡ listed k.tables
        size = ap listed h.0

    call_long : listed T ≤ length (called floor divisor T k ws).words
    call_long =
        omega (
          arith,
          (outcome_keeps k.tables floor divisor k.candidate (lent_to T k ws)).long,
          length-append (listed_kept T ws) k.past,
          length-take-le (listed T) ws l,
        )

  calls_listed : (ks : List Call) (cs : List Candidate) (ws vs : List ℕ) → AllCheck T ks cs → listed T ≤ length ws → SameKept T ws vs
      → (listed T ≤ length (called_words floor divisor T ws ks)) × SameKept T (called_words floor divisor T ws ks) (series_words floor divisor T vs cs)
  unfolding called_words series_words
  calls_listed [] [] ws vs h l r = (l, r)
  calls_listed [] (c ∷ cs) ws vs h l r = absurd h
  calls_listed (k ∷ ks) [] ws vs h l r = absurd h
  calls_listed (k ∷ ks) (c ∷ cs) ws vs h l r =
      calls_listed ks cs (called floor divisor T k ws).words (words_after floor divisor T c vs) h.1
      (call_long k c ws vs h.0 l r) (call_listed k c ws vs h.0 l r).words

  -- after any calls, whatever stood past the listed words in each: the next call's outcome is that of the plain series
  pub series_listed : (ks : List Call) (cs : List Candidate) (ws vs : List ℕ) → AllCheck T ks cs → listed T ≤ length ws → SameKept T ws vs
      → (k : Call) (c : Candidate) → Checks T k c
      → SameOutcome T (lent_to T k (called_words floor divisor T ws ks)) (called floor divisor T k (called_words floor divisor T ws ks))
      (outcome floor divisor T c (series_words floor divisor T vs cs))
  series_listed ks cs ws vs h l r k c g =
      let q : (listed T ≤ length (called_words floor divisor T ws ks)) × SameKept T (called_words floor divisor T ws ks) (series_words floor divisor T vs cs)
      = calls_listed ks cs ws vs h l r in
      call_listed k c (called_words floor divisor T ws ks) (series_words floor divisor T vs cs) g q.0 q.1

  -- so from zeroed words, with anything past the listed ones
  pub zeroed_series_listed : (past other : List ℕ) (ks : List Call) (cs : List Candidate) → AllCheck T ks cs → (k : Call) (c : Candidate) → Checks T k c
      → SameOutcome T (lent_to T k (called_words floor divisor T (zeroed_words T past) ks)) (called floor divisor T k (called_words floor divisor T (zeroed_words T past) ks))
      (outcome floor divisor T c (series_words floor divisor T (zeroed_words T other) cs))
  zeroed_series_listed past other ks cs h =
      series_listed ks cs (zeroed_words T past) (zeroed_words T other) h
      (omega (arith, length-append (replicate (listed T) 0) past, length-replicate {A = ℕ} (listed T) 0))
      (zeros past ∙ sym (zeros other))
    where
      zeros : (xs : List ℕ) → listed_kept T (zeroed_words T xs) ≡ replicate (listed T) 0
      zeros xs = take_at (replicate (listed T) 0) xs (listed T) (length-replicate {A = ℕ} (listed T) 0)
