use native.Mathlib.Omega.{arith}
use Rattle.readers.specs.declared.Reading.TheVariants.{Root}
use Rattle.readers.proofs.Steps.{tag_is, index_is}
use Rattle.readers.proofs.Reader.root_index.Goals as goal

pub returns : goal.returns
returns c = (tag_is c.args.self.0 3, λ i h. index_is c.args.self.0 (Root i) h (λ z. omega (arith, z)))
