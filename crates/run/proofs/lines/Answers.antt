use mathlib.Core.Path.{sym, ◌∙◌}
use Rattle.text.specs.ClipLaws.{put_same}
use Rattle.run.specs.TextLaws.{too_long, file_refused, file_sound}
use Rattle.run.proofs.lines.Goals as goal

pub returns-then-file-gt65536 : goal.returns-then-file-gt65536
returns-then-file-gt65536 c = put_same (too_long c.args.file.now c.if-file-gt65536.true) c.refused_line.ensures

pub sound_lines-requires : goal.sound_lines-requires
sound_lines-requires c = (sym c.judge.ensures ∙ c.in-Ok.is, c.if-file-gt65536.false)

pub returns-in-Err : goal.returns-in-Err
returns-in-Err c = put_same (file_refused c.args.file.now c.if-file-gt65536.false _ (sym c.judge.ensures ∙ c.in-Err.is)) c.refused_line-in-Err.ensures

pub returns-in-Ok : goal.returns-in-Ok
returns-in-Ok c = put_same (file_sound c.args.file.now c.if-file-gt65536.false _ (sym c.judge.ensures ∙ c.in-Ok.is)) c.sound_lines.ensures
