-- The walk from one candidate's evaluation to another's: refuses nothing, takes exactly the dirty nodes, each once, rising.
-- Assumes nothing.
use mathlib.Core.Path.{◌≡◌}
use Rattle.base.specs.Places.{places}
use Rattle.formula.specs.Satisfaction.{Interpretation}
use Rattle.kept.specs.Tables.{Tables, node_count}
use Rattle.kept.specs.Evaluation.{fresh}
use Rattle.kept.specs.Dirty.{dirty}
use Rattle.kept.specs.Walk.{ended, kept_walk}
use Rattle.kept.specs.Consistent.{Consistent}
use Rattle.kept.proofs.StartLaws.{kept_fresh}

module _ (T : Tables) (good : Consistent T) (I J : Interpretation) where
  pub walk : kept_walk T J (fresh T I) ≡ ended (places (dirty T I J) 0 (node_count T)) (fresh T J)
  walk = kept_fresh T good I J
