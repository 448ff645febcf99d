use mathlib.Core.Path.{sym, ◌∙◌}
use native.Mathlib.Nat.{add-sub_cancel_left}
use Rattle.node_truth.proofs.large_truth.Goals as goal

pub returns : goal.returns
returns c = c.group_truth.ensures ∙ sym (rw add-sub_cancel_left at c.skip_blocks-i.ensures.2)
