-- The next member of a set of words.
-- Assumes nothing.
use Rattle.std.specs.Prelude.{ℕ, ◌*◌, ◌-◌, List, length}
use Rattle.base.specs.Places.{lowest}
use Rattle.words.specs.Sets.{member}

-- the lowest member from i on, w * length ws if there is none
unfoldable pub next : ℕ → List ℕ → ℕ → ℕ
next w ws i = lowest (member w ws) i (w * length ws - i)
