use mathlib.Core.Path.{ap, ◌∙◌}
use lib.ListN.{length, length-set}
use Rattle.text.specs.ClipLaws.{put_byte, put_past}
use Rattle.text.proofs.put.Goals as goal
use Rattle.text.proofs.put.Goals.{then-at-out, else-at-out}

pub shape_of-out : goal.shape_of-out
shape_of-out c =
    elim c.if-at-out.branch [
      | then-at-out w ↦ ap length w.out-is ∙ simp length-set
      | else-at-out w ↦ ap length w.out-is
    ]

pub returns : goal.returns
returns c =
    elim c.if-at-out.branch [
      | then-at-out w ↦ rw w.out-is (put_byte c.args.out.now c.args.at c.args.byte w.if-at-out.true)
      | else-at-out w ↦ rw w.out-is (put_past c.args.out.now c.args.at c.args.byte w.if-at-out.false)
    ]
