use native.Mathlib.Omega.{arith}
use mathlib.Core.Path.{sym}
use Rattle.words.specs.BitLaws.{trailing_wider}
use Rattle.words.proofs.width.U32Word.lowest.Goals as goal

pub returns : goal.returns
returns c = sym (trailing_wider 32 64 c.args.rest (omega (arith, c.requires.some)) c.requires.fits (omega arith))
