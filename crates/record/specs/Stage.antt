-- How far into a file a record stands.
-- Assumes nothing.
use Rattle.std.specs.Prelude.{Bool, true, false}
use Rattle.record.specs.declared.Stage.{Stage}
use Rattle.record.specs.declared.Stage.TheVariants.{Start, Nodes, Roots, Candidates}

abbrev pub at_start : Stage → Bool
at_start Start = true
at_start Nodes = false
at_start Roots = false
at_start Candidates = false

abbrev pub at_nodes : Stage → Bool
at_nodes Start = false
at_nodes Nodes = true
at_nodes Roots = false
at_nodes Candidates = false

abbrev pub at_roots : Stage → Bool
at_roots Start = false
at_roots Nodes = false
at_roots Roots = true
at_roots Candidates = false
