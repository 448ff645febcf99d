-- Entries placed into one table: a word for each list counts its entries, then says where its next entry goes.
-- Assumes nothing.
use Rattle.std.specs.Prelude.{ℕ, zero, suc, ◌+◌, ◌<◌, ◌≡◌, List, length, get_or, drop}
use Rattle.readers.specs.Laid.{start_of}
use Rattle.readers.specs.Incidences.{Item, entries_of}

-- the first n + 1 words: where entries begin, and a word for each list of which P holds; from word b on nothing is altered
pub record Head (n b : ℕ) (P : ℕ → ℕ → Type 0) (before words : List ℕ) : Type 0 where
  pub first : get_or words 0 0 ≡ n + 1
  pub each : (s : ℕ) → s < n → P s (get_or words (s + 1) 0)
  pub behind : drop b words ≡ drop b before
  pub long : length words ≡ length before

-- the sum of the s words behind the first
unfoldable pub total : List ℕ → ℕ → ℕ
total words zero = 0
total words (suc s) = total words s + get_or words (s + 1) 0

-- what the word x of list s is, pass by pass: 0, the number of entries, the sum of the words before it, where the list begins
abbrev pub Zero : ℕ → ℕ → Type 0
Zero s x = x ≡ 0

abbrev pub Counted : List Item → ℕ → ℕ → Type 0
Counted all s x = x ≡ length (entries_of s all)

abbrev pub Summed : List ℕ → ℕ → ℕ → ℕ → Type 0
Summed words n s x = x ≡ n + 1 + total words s

abbrev pub Started : List Item → ℕ → ℕ → ℕ → Type 0
Started all n s x = x ≡ start_of (λ r. entries_of r all) n s
