-- Lists laid into one table: a start for each and the end of the last, then the lists; starts are places of the table itself.
-- Assumes nothing.
use Rattle.std.specs.Prelude.{ℕ, ◌+◌, ◌-◌, ◌≤◌, Bool, ◌&&◌, List, ◌++◌, leb, length, get_or, take, drop}
use Rattle.readers.specs.Joined.{joined, single}

-- where list s of n begins, and list s - 1 ends
unfoldable pub start_of : (ℕ → List ℕ) → ℕ → ℕ → ℕ
start_of f n s = n + 1 + length (joined f 0 s)

-- the table of the n lists
unfoldable pub laid : (ℕ → List ℕ) → ℕ → List ℕ
laid f n = joined (single (start_of f n)) 0 (n + 1) ++ joined f 0 n

-- a table with these words at its front, and what was behind them
unfoldable pub laid_over : (ℕ → List ℕ) → ℕ → List ℕ → List ℕ
laid_over f n words = laid f n ++ drop (length (laid f n)) words

-- the words of a table from a up to e
abbrev pub part : List ℕ → ℕ → ℕ → List ℕ
part words a e = take (e - a) (drop a words)

-- list s of any table, by its two starts
unfoldable pub list_at : List ℕ → ℕ → List ℕ
list_at words s = part words (get_or words s 0) (get_or words (s + 1) 0)

-- these are in order and within the first `listed` words
pub record InOrder (words : List ℕ) (listed s : ℕ) : Type 0 where
  pub rising : get_or words s 0 ≤ get_or words (s + 1) 0
  pub within : get_or words (s + 1) 0 ≤ listed

unfoldable pub in_order : List ℕ → ℕ → ℕ → Bool
in_order words listed s = leb (get_or words s 0) (get_or words (s + 1) 0) && leb (get_or words (s + 1) 0) listed
