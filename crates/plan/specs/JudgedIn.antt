-- What judging in the work area answers, and what then stands there.
-- Assumes nothing.
use Rattle.std.specs.Prelude.{ℕ, ◌+◌, ◌*◌, ◌≡◌, List, ◌++◌, get_or, take, drop, Option, Some, None, Result, Ok, Err, MatchResult}
use Rattle.std.proofs.Common.{arith, sym, ◌∙◌, length-append, length-drop, get_or-drop}
use Rattle.graph.specs.Derive.{ranks, cycle, derive}
use Rattle.theory.specs.Admission.{or_else, Admission, admitted}
use Rattle.theory.specs.Refusals.{not_both}
use Rattle.theory.specs.declared.Counts.{Counts}
use Rattle.theory.specs.declared.Refusal.{Refusal}
use Rattle.theory.specs.declared.Refusal.TheVariants.{PositiveCycle}
use Rattle.compile.specs.ClassWord.{class_words}
use Rattle.compile.specs.Producers.{roots_supported}
use Rattle.kahn.specs.Area.{part}
use Rattle.kahn.specs.Answer.{answered}
use Rattle.kahn.specs.declared.Cycle.{Cycle}
use Rattle.ranks.specs.Dependency.{dependencies}
use Rattle.ranks.specs.RankCheck.{rank_check}
use Rattle.dependency.specs.Laying.{Ready, Empty}
use Rattle.plan.specs.Judged.{derived, ranks_judged}
use Rattle.plan.specs.Outcome.{ranks_of}
use Rattle.plan.specs.Prepared.{prepared_front, prepared_back, length-class_words}

-- every word is 0
pub record Zero (area : List ℕ) : Type 0 where
  pub at : (k : ℕ) → get_or area k 0 ≡ 0

-- judged in an area: the class words stand at its front, and derived ranks behind them
pub record JudgedIn (t : Counts) (nodes operands roots : List ℕ) (proposed : Option (List ℕ)) (area : List ℕ) (r : Admission) : Type 0 where
  pub answer : r ≡ or_else (roots_supported t nodes operands (class_words nodes operands t.nodes) roots) (ranks_judged t nodes operands roots proposed)
  pub classes : r ≡ admitted → take t.nodes area ≡ class_words nodes operands t.nodes
  pub ranked : r ≡ admitted → proposed ≡ None → part (t.nodes + 2 * (t.atoms + t.nodes)) t.atoms area ≡ ranks_of t nodes operands roots (derived t nodes operands roots)

module _ (t : Counts) (nodes operands roots : List ℕ) where
  module _ (area : List ℕ) (x : Refusal) (s : Admission) (e : s ≡ roots_supported t nodes operands (class_words nodes operands t.nodes) roots) (q : s ≡ Err x) where
    pub unsupported : (proposed : Option (List ℕ)) → JudgedIn t nodes operands roots proposed area (Err x)
    unsupported proposed = record { answer = rw (sym e ∙ q); classes = λ z. absurd (not_both x z); ranked = λ z n. absurd (not_both x z) }

  module _ (area after : List ℕ) (s : Admission) (e : s ≡ roots_supported t nodes operands (class_words nodes operands t.nodes) roots) (q : s ≡ admitted)
      (p : after ≡ class_words nodes operands t.nodes ++ drop t.nodes area) where
    pub ready_after : Ready t nodes operands roots (t.atoms + t.nodes) area → Ready t nodes operands roots (t.atoms + t.nodes) after
    ready_after r =
        record {
          limited = r.limited;
          tables = r.tables;
          listed = r.listed;
          starts = r.starts;
          vertices = r.vertices;
          long = rw (p, length-append) (omega (arith, r.long, length-class_words nodes operands t.nodes, length-drop t.nodes area));
        }

    pub empty_after : Zero area → Empty t (t.atoms + t.nodes) after
    empty_after z = record { zero_words = λ k l. rw (prepared_back t nodes operands area after p) (get_or-drop t.nodes area k 0 ∙ z.at (t.nodes + k)) }

    -- the derivation's answer on it
    pub judged_derived : (last : List ℕ) (d : Result (Unit {0}) Cycle) (r : Admission)
        → answered d (part (t.nodes + 2 * (t.atoms + t.nodes)) t.atoms last) ≡ derive t.atoms (t.atoms + t.nodes) (dependencies t nodes operands (take t.nodes after) roots)
        → take t.nodes last ≡ take t.nodes after → MatchResult d (λ u. r ≡ Ok u) (λ c. r ≡ Err (PositiveCycle c.atom)) → JudgedIn t nodes operands roots None last r
    unfolding derived
    judged_derived last (Ok u) r a f m =
        let here : ranks (part (t.nodes + 2 * (t.atoms + t.nodes)) t.atoms last) ≡ derived t nodes operands roots = rw (prepared_front t nodes operands area after p) at a in
        record {
          answer = m ∙ rw (sym e ∙ q, ← here);
          classes = λ z. f ∙ prepared_front t nodes operands area after p;
          ranked = λ z n. rw (← here);
        }
    judged_derived last (Err c) r a f m =
        let here : cycle c.atom ≡ derived t nodes operands roots = rw (prepared_front t nodes operands area after p) at a in
        record { answer = m ∙ rw (sym e ∙ q, ← here); classes = λ z. absurd (not_both _ (sym m ∙ z)); ranked = λ z n. absurd (not_both _ (sym m ∙ z)) }

    -- and the check's
    pub judged_proposed : (proposed last : List ℕ) (r : Admission) → r ≡ rank_check t nodes operands (take t.nodes after) roots proposed → take t.nodes last ≡ take t.nodes after
        → JudgedIn t nodes operands roots (Some proposed) last r
    judged_proposed proposed last r a f =
        record {
          answer = rw (sym e ∙ q) (a ∙ rw (prepared_front t nodes operands area after p));
          classes = λ z. f ∙ prepared_front t nodes operands area after p;
          ranked = λ z n. cc;
        }
