-- A pass over items: each alters the words of one table, where the words allow it.
-- Assumes nothing.
use Rattle.std.specs.Prelude.{ℕ, ◌+◌, ◌^◌, ◌<◌, List, [], ◌∷◌, length, get_or, set}
use Rattle.readers.specs.Incidences.{Item}

module _ {A : Type 0} (step : A → List ℕ → List ℕ) where
  -- the words behind the pass
  unfoldable pub passed : List A → List ℕ → List ℕ
  passed [] words = words
  passed (x ∷ xs) words = passed xs (step x words)

module _ {A : Type 0} (Room : A → List ℕ → Type 0) (step : A → List ℕ → List ℕ) where
  -- there is room for each item when its turn comes
  unfoldable pub Fits : List A → List ℕ → Type 0
  Fits [] words = Unit {0}
  Fits (x ∷ xs) words = Room x words × Fits xs (step x words)

-- list s has a word that can count one more
pub record Countable (s : ℕ) (words : List ℕ) : Type 0 where
  pub within : s + 1 < length words
  pub below : get_or words (s + 1) 0 + 1 < 2 ^ 64

-- it counts one more
unfoldable pub counted : ℕ → List ℕ → List ℕ
counted s words = set words (s + 1) (get_or words (s + 1) 0 + 1)

-- list s has a word that says a place of the table
pub record Placeable (s : ℕ) (words : List ℕ) : Type 0 where
  pub within : s + 1 < length words
  pub there : get_or words (s + 1) 0 < length words

-- the entry stands at that place, and the word says the next
unfoldable pub placed : ℕ → ℕ → List ℕ → List ℕ
placed s e words = set (set words (get_or words (s + 1) 0) e) (s + 1) (get_or words (s + 1) 0 + 1)

-- a pass over incidences, by what it does with an entry of a list
abbrev pub passed_all : (ℕ → ℕ → List ℕ → List ℕ) → List Item → List ℕ → List ℕ
passed_all after = passed (λ x. after x.slot x.entry)

abbrev pub FitsAll : (ℕ → List ℕ → Type 0) → (ℕ → ℕ → List ℕ → List ℕ) → List Item → List ℕ → Type 0
FitsAll room after = Fits (λ x. room x.slot) (λ x. after x.slot x.entry)

-- the two passes
abbrev pub counted_all : List Item → List ℕ → List ℕ
counted_all = passed_all (λ s e. counted s)

abbrev pub CountFits : List Item → List ℕ → Type 0
CountFits = FitsAll Countable (λ s e. counted s)

abbrev pub placed_all : List Item → List ℕ → List ℕ
placed_all = passed_all placed

abbrev pub PlaceFits : List Item → List ℕ → Type 0
PlaceFits = FitsAll Placeable placed
