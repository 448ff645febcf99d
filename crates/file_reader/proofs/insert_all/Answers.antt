use native.Mathlib.Omega.{arith}
use Prim.Native.Nat.{◌/◌, ◌<◌}
use lib.ListN.{length}
use Rattle.base.specs.Each.{each_at}
use Rattle.record.specs.Number.{numbers}
use Rattle.record.proofs.Laws.{length_numbers, numbers_at}
use Rattle.file_reader.proofs.Laws.{insert_more, insert_done}
use Rattle.file_reader.proofs.insert_all.Goals as goal

pub insert-requires : goal.insert-requires
insert-requires c = rw (c.number.ensures.value, ← (numbers_at c.args.file.now c.args.from c.loop-i.i c.args.count c.loop-i-test.true), c.loop-i.auto.words) (each_at (λ a. a / 64 < length c.args.words.now) 0 (numbers c.args.file.now c.args.from c.args.count) c.requires.1 c.loop-i.i (omega (arith, length_numbers c.args.file.now c.args.from c.args.count)))

pub loop-i-preserved : goal.loop-i-preserved
loop-i-preserved c = insert_more _ _ _ _ _ _ c.loop-i.invariant _ _ c.loop-i-test.true c.number.ensures.value c.insert.ensures

pub returns : goal.returns
returns c = insert_done _ _ _ _ _ _ c.loop-i.invariant c.loop-i-test.false
