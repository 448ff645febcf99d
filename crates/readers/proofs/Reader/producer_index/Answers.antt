use native.Mathlib.Omega.{arith}
use Rattle.readers.specs.declared.Reading.TheVariants.{Producer}
use Rattle.readers.proofs.Steps.{tag_is, index_is}
use Rattle.readers.proofs.Reader.producer_index.Goals as goal

pub returns : goal.returns
returns c = (tag_is c.args.self.0 2, λ i h. index_is c.args.self.0 (Producer i) h (λ z. omega (arith, z)))
