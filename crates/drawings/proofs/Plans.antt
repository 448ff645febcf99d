-- What the planner makes of document 01's example, by computation; C5 and C6 stand with the other cases.
-- Assumes nothing.
use mathlib.Core.Path.{◌≡◌, refl}
use mathlib.Core.List.{[], ◌∷◌}
use Rattle.base.specs.Places.{places, lowest}
use Rattle.base.specs.Rising.{rising, extended}
use Rattle.base.specs.Gather.{gather}
use Rattle.theory.specs.Node.{node_at, span}
use Rattle.theory.specs.NodeClass.{joined, node_class, node_classes}
use Rattle.compile.specs.ClassWord.{class_words}
use Rattle.compile.specs.Head.{chosen, either_order, head_of}
use Rattle.compile.specs.Producer.{fact, rule, produced_by, produced}
use Rattle.compile.specs.Producers.{made_by, producers, producers_before, producer_words}
use Rattle.graph.specs.Removed.{remaining, removed}
use Rattle.graph.specs.Depth.{peak, depth}
use Rattle.graph.specs.Derive.{ranks, derive}
use Rattle.ranks.specs.Dependency.{only, operand_edges, node_edges, body_edges, produced_edges, edges_into, edges_of, dependencies}
use Rattle.plan.specs.Judged.{derived}
use Rattle.plan.specs.Outcome.{producers_of}
use Rattle.drawings.specs.Tables.{counts, example_nodes, example_operands, example_roots}

example-producers : producer_words (producers_of (counts 2 6 2 2) example_nodes example_operands example_roots) ≡ 0 ∷ 0 ∷ 5 ∷ 1 ∷ 1 ∷ 1 ∷ 2 ∷ 0 ∷ []
unfolding example_nodes example_operands example_roots producer_words producers_before producers made_by produced produced_by fact rule head_of chosen either_order node_at span class_words node_classes node_class joined rising extended
example-producers = refl

example_ranks : derived (counts 2 6 2 2) example_nodes example_operands example_roots ≡ ranks (0 ∷ 1 ∷ [])
unfolding example_nodes example_operands example_roots derived derive depth peak removed remaining lowest places dependencies gather edges_into edges_of node_edges operand_edges produced_edges body_edges only produced produced_by fact rule head_of chosen either_order node_at span class_words node_classes node_class joined rising extended
example_ranks = refl
