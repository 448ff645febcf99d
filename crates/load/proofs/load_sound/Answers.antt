use native.Mathlib.Omega.{arith}
use Rattle.record.specs.File.{theory_file}
use Rattle.record.proofs.Judging.{contents_of, sound-is, sound-limited}
use Rattle.load.proofs.load_sound.Goals as goal

pub overflow_mul-s : goal.overflow_mul-s
overflow_mul-s c = omega (arith, (sound-limited c.args.file.now c.args.s (contents_of (theory_file c.args.file.now)) (sound-is (theory_file c.args.file.now) c.args.s c.requires)).nodes)
