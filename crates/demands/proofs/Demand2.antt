-- DEMAND 2: "not-model names the first false root exactly if some root is false; residual, exactly if none is false and some candidate atom has no bodyless producer and none with a true body, names the lowest such atom; otherwise stable. Once all roots are admitted, derived ranks are the least that the rank check accepts, and a positive cycle is reported exactly if it accepts none."
-- Assumes nothing.
use Prim.Native.Nat.{ℕ}
use mathlib.Core.Path.{◌≡◌, refl}
use mathlib.Core.List.{List, [], ◌∷◌}
use Rattle.theory.specs.declared.Counts.{Counts}
use Rattle.kept.specs.Tables.{Tables}
use Rattle.kept.specs.Candidate.{Candidate, atoms_of}
use Rattle.kept.specs.Verdict.{Verdict}
use Rattle.kept.specs.Decides.{DecidesTheory}
use Rattle.kept.specs.Outcome.{accepted}
use Rattle.kept.specs.Series.{zeroed_words, answer_to, series_words, Demand3}
use Rattle.series.proofs.Series.{series, certified_series}
use Rattle.series.proofs.Ranks.{demand_2_ranks, admitted_exactly}
use Rattle.demands.specs.Demand2.{Demand2}

-- the first check of a series
first_check : (floor divisor : ℕ) (T : Tables) (past : List ℕ) (c : Candidate) → Demand3 floor divisor T past (c ∷ []) → (v : Verdict) (n : ℕ)
    → answer_to floor divisor T c (zeroed_words T past) ≡ accepted v n → DecidesTheory T.counts T.nodes T.operands T.roots (atoms_of T c) v
unfolding series_words
first_check floor divisor T past c d v n e = (d.each [] c [] refl).decides v n e

pub demand_2 : (t : Counts) (nodes operands roots ps rs us ws : List ℕ) → Demand2 t nodes operands roots ps rs us ws
demand_2 t nodes operands roots ps rs us ws =
    record {
      admitted = admitted_exactly t nodes operands roots ps rs us ws;
      ranks = demand_2_ranks t nodes operands roots ps rs us ws;
      verdict = λ p e floor divisor past c. first_check floor divisor _ past c (series floor divisor t nodes operands roots ps rs us ws p e past (c ∷ []));
      certified_verdict = λ proposed p e floor divisor past c. first_check floor divisor _ past c (certified_series floor divisor t nodes operands roots ps rs us ws p proposed e past (c ∷ []));
    }
