use lib.Bits.{or_shifted}
use Rattle.readers.specs.Reader.{packed}
use Rattle.readers.proofs.Reader.producer.Goals as goal

pub returns : goal.returns
unfolding packed
returns c = or_shifted 2 62 c.args.i c.requires
