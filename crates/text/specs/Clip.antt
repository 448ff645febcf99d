-- A text in a lent slice: as much of it as fits, and behind it what was there.
-- Assumes nothing.
use Rattle.std.specs.Prelude.{ℕ, ◌+◌, ◌≡◌, List, ◌++◌, length, take, drop}

unfoldable pub clip : List ℕ → List ℕ → List ℕ
clip ws text = take (length ws) text ++ drop (length text) ws

-- a piece was put behind any text that the slice held, and `end` is where the text goes on
pub record Put (before : List ℕ) (at : ℕ) (piece : List ℕ) (end : ℕ) (after : List ℕ) : Type 0 where
  pub on : end ≡ at + length piece
  pub put : (ws text : List ℕ) → before ≡ clip ws text → at ≡ length text → after ≡ clip ws (text ++ piece)
