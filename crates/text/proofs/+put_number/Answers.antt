use mathlib.Core.Path.{sym}
use native.Mathlib.Omega.{arith}
use Rattle.text.specs.ClipLaws.{put_end, put_then, put_same}
use Rattle.text.specs.DecimalLaws.{decimal_one, decimal_more, length-decimal}
use Prim.Native.Nat.{◌/◌}
use Rattle.text.proofs.+put_number.Goals as goal

pub returns-then-n-lt10 : goal.returns-then-n-lt10
returns-then-n-lt10 t c = put_same (sym (decimal_one c.args.n (omega arith))) c.put.ensures

pub put-requires-2 : goal.put-requires-2
put-requires-2 t c = omega (arith, put_end 20 c.put_number-end.ensures (length-decimal (c.args.n / 10)))

pub returns : goal.returns
returns t c = put_same (sym (decimal_more c.args.n (omega arith) (omega arith))) (put_then c.put_number-end.ensures c.put-2.ensures)
