use mathlib.Core.Path.{refl, sym, ◌∙◌}
use Rattle.kahn.proofs.Steps.{push_yes, push_no}
use Rattle.kahn.proofs.push.Goals as goal

pub returns-then-word-eq0 : goal.returns-then-word-eq0
returns-then-word-eq0 c = push_yes _ _ _ _ _ _ (sym c.word.ensures.value ∙ c.if-word-eq0.true) refl refl

pub returns : goal.returns
returns c = push_no _ _ _ _ _ _ (λ e. c.if-word-eq0.false (c.word.ensures.value ∙ e)) refl refl
