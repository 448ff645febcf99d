use native.Mathlib.Omega.{arith}
use Rattle.console.proofs.Laws.{printed_text, printed_refusal}
use Rattle.console.proofs.printed.Goals as goal

pub returns-then-n-eq0 : goal.returns-then-n-eq0
returns-then-n-eq0 c =
    printed_refusal _ c.args.out.now c.told-out _ _ c.run-n.ensures c.if-n-eq0.true (omega (arith, c.told-out, c.run-n.auto.out)) _ _ c.refused_line.ensures

pub returns-else-n-eq0 : goal.returns-else-n-eq0
returns-else-n-eq0 c = printed_text _ c.args.out.now c.told-out _ _ c.run-n.ensures c.if-n-eq0.false
