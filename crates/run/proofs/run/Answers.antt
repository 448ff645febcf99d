use native.Mathlib.Omega.{arith}
use Prim.Native.Nat.{ℕ}
use mathlib.Core.List.{◌++◌}
use mathlib.Core.Path.{ap}
use lib.ListN.{drop, replicate, length-replicate}
use Rattle.run.specs.RunLaws.{run_none, run_copied, run_written}
use Rattle.run.proofs.run.Goals as goal

pub returns-then-n-out : goal.returns-then-n-out
returns-then-n-out c = run_none c.args.file.now c.args.out.now _ _ _ c.lines-n.ensures c.if-n-out.true

pub returns-then-n-le16384 : goal.returns-then-n-le16384
returns-then-n-le16384 c = run_copied c.args.file.now c.args.out.now _ c.if-n-out.false (replicate 16384 0) _ _ (omega (arith, c.if-n-le16384.true, length-replicate {A = ℕ} 16384 0)) c.lines-n.ensures (ap (λ l. l ++ drop c.lines-n.result c.args.out.now) c.copy_from_slice.ensures.after)

pub returns : goal.returns
returns c = run_written c.args.file.now c.args.out.now _ (omega (arith, c.lines-n.ensures.on, c.lines.ensures.on, c.if-n-out.false)) _ c.lines.ensures
