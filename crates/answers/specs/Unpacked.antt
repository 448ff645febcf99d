-- The answer that a word tells.
-- Assumes nothing.
use Rattle.std.specs.Prelude.{ℕ, ◌-◌, ◌/◌, ◌%◌, cond, [], ◌∷◌, eqb, get_or, Result, Ok, Err}
use Rattle.theory.specs.declared.Refusal.{Refusal}
use Rattle.theory.specs.declared.Refusal.TheVariants.{BadKind, CutRecord, PastLimit, BadAtom, BadOperand, NoOperands, BadRoot, NotRising, ShortBuffer, UnsupportedRoot, UnsupportedBody, PositiveCycle, RankShape, RankOrder, ForeignStamp, StrayBit, BadEntry}
use Rattle.kept.specs.Verdict.{Verdict, not_model, residual, stable}
use Rattle.kept.specs.Outcome.{Answer, accepted, refused}
use Rattle.answers.specs.Word.{number_in, place_in, body_in}

-- the refusals in the order of their numbers, from 1 on
abbrev pub refusal_by : ℕ → ℕ → ℕ → Refusal
refusal_by number place body =
    get_or (BadKind place ∷ CutRecord place ∷ PastLimit place ∷ BadAtom place ∷ BadOperand place ∷ NoOperands place ∷ BadRoot place ∷ NotRising place ∷ ShortBuffer place ∷ UnsupportedRoot place ∷ UnsupportedBody place body ∷ PositiveCycle place ∷ RankShape ∷ RankOrder place ∷ ForeignStamp ∷ StrayBit place ∷ BadEntry place ∷ []) (number - 1) RankShape

abbrev pub refusal_in : ℕ → Refusal
refusal_in w = refusal_by (number_in w) (place_in w) (body_in w)

unfoldable pub planning_in : ℕ → Result ℕ Refusal
planning_in w = cond (eqb (number_in w) 0) (Ok (place_in w)) (Err (refusal_in w))

abbrev pub verdict_by : ℕ → ℕ → Verdict
verdict_by number name = get_or (stable ∷ not_model name ∷ residual name ∷ []) number stable

unfoldable pub answer_in : ℕ → Answer
answer_in w = cond (eqb (number_in w) 0) (accepted (verdict_by (place_in w % 256) (place_in w / 256)) (body_in w)) (refused (refusal_in w))
