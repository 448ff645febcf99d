use native.Mathlib.Omega.{arith}
use Rattle.words.specs.SetLaws.{insert_word}
use Rattle.words.proofs.set.insert.Goals as goal

pub returns : goal.returns
returns c = insert_word 64 c.args.words.now c.args.i (omega arith)
