-- The dependencies laid one by one in a work area behind the class words.
-- Assumes nothing.
use Rattle.std.specs.Prelude.{ℕ, ◌+◌, ◌*◌, ◌<◌, ◌≤◌, ◌≡◌, List, Option, MatchOption, length, get_or, take, drop}
use Rattle.theory.specs.Limits.{Limited}
use Rattle.theory.specs.Admission.{span_start}
use Rattle.theory.specs.WellFormed.{NodeTables, RootTable}
use Rattle.theory.specs.declared.Counts.{Counts}
use Rattle.kahn.specs.Laid.{Laid}
use Rattle.ranks.specs.Dependency.{dependencies}
use Rattle.dependency.specs.Cursor.{before, left, InRange}
use Rattle.dependency.specs.declared.Laying.{Laying}

-- at most so many dependencies
abbrev pub most : Counts → ℕ
most t = t.operands + t.nodes + t.roots

-- tables and an area for v vertices: the class words, then kahn's area
pub record Ready (t : Counts) (nodes operands roots : List ℕ) (v : ℕ) (area : List ℕ) : Type 0 where
  pub limited : Limited t
  pub tables : NodeTables t nodes operands
  pub listed : RootTable t roots
  pub starts : span_start nodes t.nodes ≤ t.operands
  pub vertices : v ≡ t.atoms + t.nodes
  pub long : t.nodes + 4 * v + 2 * most t ≤ length area

-- the dependencies before the cursor are laid
pub record LaidBefore (t : Counts) (nodes operands roots : List ℕ) (v : ℕ) (area : List ℕ) (l : Laying) : Type 0 where
  pub range : InRange t nodes operands (take t.nodes area) roots l.cursor
  pub number : l.laid ≡ length (before t nodes operands (take t.nodes area) roots l.cursor)
  pub room : l.laid + left t nodes operands (take t.nodes area) roots l.cursor ≤ most t
  pub laid : Laid v (most t) (before t nodes operands (take t.nodes area) roots l.cursor) (drop t.nodes area)

-- one step: the class words stay; more is laid and less is left, or all is laid
pub record LaidNext (t : Counts) (nodes operands roots : List ℕ) (v : ℕ) (area after : List ℕ) (l : Laying) (next : Option Laying) : Type 0 where
  pub long : length after ≡ length area
  pub classes : take t.nodes after ≡ take t.nodes area
  pub laid :
      MatchOption next (Laid v (most t) (dependencies t nodes operands (take t.nodes area) roots) (drop t.nodes after))
      (λ r. LaidBefore t nodes operands roots v after r × (left t nodes operands (take t.nodes area) roots r.cursor < left t nodes operands (take t.nodes area) roots l.cursor))

-- no edge is laid behind the class words
pub record Empty (t : Counts) (v : ℕ) (area : List ℕ) : Type 0 where
  pub zero_words : (k : ℕ) → k < 3 * v → get_or (drop t.nodes area) k 0 ≡ 0

-- all dependencies are laid, and the class words stay
pub record AllLaid (t : Counts) (nodes operands roots : List ℕ) (v : ℕ) (area after : List ℕ) : Type 0 where
  pub long : length after ≡ length area
  pub classes : take t.nodes after ≡ take t.nodes area
  pub laid : Laid v (most t) (dependencies t nodes operands (take t.nodes area) roots) (drop t.nodes after)
