use Rattle.text.specs.ClipLaws.{put_same}
use Rattle.record.specs.File.{theory_file}
use Rattle.run.specs.TextLaws.{too_many_atoms, load_refused, load-sound}
use Rattle.run.proofs.sound_lines.Goals as goal

pub returns-then-s-gt512 : goal.returns-then-s-gt512
returns-then-s-gt512 c = put_same (too_many_atoms (theory_file c.args.file.now) c.args.s c.requires.0 c.if-s-gt512.true) c.refused_line.ensures

pub returns-in-Err : goal.returns-in-Err
returns-in-Err c = put_same (load_refused (theory_file c.args.file.now) c.args.s c.requires.0 c.if-s-gt512.false _ _ c.load_sound.ensures _ c.in-Err.is) c.refused_line-in-Err.ensures

pub returns-in-Ok : goal.returns-in-Ok
returns-in-Ok c = put_same (load-sound (theory_file c.args.file.now) c.args.s c.requires.0 c.if-s-gt512.false _ _ c.load_sound.ensures _ c.in-Ok.is) c.plan_lines.ensures
