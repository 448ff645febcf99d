-- A loop that puts the numbers of a file into a set.
-- Assumes nothing.
use Prim.Native.Nat.{ℕ, ◌+◌, ◌-◌, ◌*◌, ◌<◌, ◌≤◌}
use mathlib.Core.Path.{◌≡◌, sym, ◌∙◌}
use mathlib.Core.List.{List}
use Rattle.record.specs.Number.{number, numbers}
use Rattle.record.proofs.Laws.{numbers_turn, numbers-none}
use Rattle.words.specs.Sets.{inserted}
use Rattle.file_reader.specs.Insert.{inserted_all}

module _ (file : List ℕ) (from i count : ℕ) (ws whole : List ℕ) (rest : whole ≡ inserted_all ws (numbers file (from + 4 * i) (count - i))) where
  pub insert_more : (ws' : List ℕ) (x : ℕ) → i < count → x ≡ number file (from + 4 * i) → ws' ≡ inserted 64 ws x
      → whole ≡ inserted_all ws' (numbers file (from + 4 * (i + 1)) (count - (i + 1)))
  unfolding inserted_all
  insert_more ws' x l e q = rest ∙ rw (numbers_turn file from i count l, q, e)

  pub insert_done : count ≤ i → ws ≡ whole
  unfolding inserted_all
  insert_done l = sym (rest ∙ rw (numbers-none file (from + 4 * i) i count l))
