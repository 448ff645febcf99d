-- The four ways of loading a sound file: the lowest of the lent tables that is too short, or all are long enough.
-- Assumes nothing.
use Rattle.std.specs.Prelude.{Ok, Err}
use Prim.Native.Nat.{◌*◌, ◌<◌, ◌≤◌}
use mathlib.Core.Path.{◌≡◌}
use mathlib.Core.Logic.{⊎_elim}
use lib.ListN.{length}
use borrow.Author.Tests.{lt-ltb, le-ltb}
use Rattle.base.specs.Tests.{below_or}
use Rattle.theory.specs.Limits.{Lent}
use Rattle.theory.specs.declared.Refusal.TheVariants.{ShortBuffer}
use Rattle.record.specs.Contents.{Contents}
use Rattle.record.specs.declared.Summary.{Summary}
use Rattle.load.specs.Tables.{Tables, holding}
use Rattle.load.specs.Loading.{outcome, loading_sound}

pub data Loads (s : Summary) (t : Contents) (b : Tables) : Type 0 where
  nodes_short : length b.nodes < 3 * s.counts.nodes → loading_sound s t b ≡ outcome (Err (ShortBuffer 1)) b → Loads s t b
  operands_short : 3 * s.counts.nodes ≤ length b.nodes → length b.operands < s.counts.operands → loading_sound s t b ≡ outcome (Err (ShortBuffer 2)) b → Loads s t b
  roots_short : 3 * s.counts.nodes ≤ length b.nodes → s.counts.operands ≤ length b.operands → length b.roots < s.counts.roots
      → loading_sound s t b ≡ outcome (Err (ShortBuffer 3)) b → Loads s t b
  all_long : Lent s.counts (length b.nodes) (length b.operands) (length b.roots) → loading_sound s t b ≡ outcome (Ok s) (holding t b) → Loads s t b

module _ (s : Summary) (t : Contents) (b : Tables) where
  by_roots : 3 * s.counts.nodes ≤ length b.nodes → s.counts.operands ≤ length b.operands → Loads s t b
  unfolding loading_sound
  by_roots n o =
      ⊎_elim
      (λ r. roots_short n o r (rw (le-ltb (length b.nodes) (3 * s.counts.nodes) n, le-ltb (length b.operands) s.counts.operands o, lt-ltb (length b.roots) s.counts.roots r)))
      (λ r.
      all_long (record { nodes_long = n; operands_long = o; roots_long = r })
      (rw (le-ltb (length b.nodes) (3 * s.counts.nodes) n, le-ltb (length b.operands) s.counts.operands o, le-ltb (length b.roots) s.counts.roots r)))
      (below_or (length b.roots) s.counts.roots)

  by_operands : 3 * s.counts.nodes ≤ length b.nodes → Loads s t b
  unfolding loading_sound
  by_operands n =
      ⊎_elim
      (λ o. operands_short n o (rw (le-ltb (length b.nodes) (3 * s.counts.nodes) n, lt-ltb (length b.operands) s.counts.operands o)))
      (by_roots n)
      (below_or (length b.operands) s.counts.operands)

  pub loads : Loads s t b
  unfolding loading_sound
  loads =
      ⊎_elim
      (λ n. nodes_short n (rw (lt-ltb (length b.nodes) (3 * s.counts.nodes) n)))
      by_operands
      (below_or (length b.nodes) (3 * s.counts.nodes))
