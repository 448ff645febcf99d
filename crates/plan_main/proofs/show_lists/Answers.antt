use mathlib.Core.Path.{sym, ◌∙◌}
use Rattle.readers.specs.LaidLaws.{in_order_true}
use Rattle.plan_main.proofs.show_lists.Goals as goal

pub readers_of-requires : goal.readers_of-requires
readers_of-requires g c = (c.if-k-table.true, in_order_true _ _ _ (sym c.in_order.ensures ∙ c.if-in_order.true))
