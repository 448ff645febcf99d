-- Where the kept candidate and the new one are seen to agree.
-- Assumes nothing.
use Rattle.std.specs.Prelude.{ℕ, ◌<◌, ◌≤◌, ◌+◌, ◌*◌, ◌/◌, ◌≡◌, false, List, get_or}
use Rattle.words.specs.Sets.{member}
use Rattle.theory.specs.declared.Counts.{Counts}
use Rattle.kept.specs.SetOf.{words32, words64}
use Rattle.kept_laws.specs.Given.{candidate_at}
use Rattle.words.specs.Halves.{half}

-- word i of the kept candidate, whose words begin at `at`, is that of the new one
abbrev pub Same : ℕ → List ℕ → List ℕ → ℕ → Type 0
Same at kept new i = get_or kept (at + i) 0 ≡ half new i

-- so are those of pairs `first` to `end`
abbrev pub SameFrom : ℕ → List ℕ → List ℕ → ℕ → ℕ → Type 0
SameFrom at kept new first end = (i : ℕ) → 2 * first ≤ i → i < 2 * end → Same at kept new i

-- each of the first n words is the same unless its pair is in the set of marks
abbrev pub Upto : ℕ → List ℕ → List ℕ → ℕ → List ℕ → Type 0
Upto at kept new n marks = (i : ℕ) → i < n → member 64 marks (i / 2) ≡ false → Same at kept new i

-- so of all words
abbrev pub Marked : Counts → List ℕ → List ℕ → List ℕ → Type 0
Marked t kept new marks = Upto (candidate_at t) kept new (words32 t.atoms) marks

-- but for pairs `first` to `end` all words are the same
abbrev pub Between : Counts → List ℕ → List ℕ → ℕ → ℕ → Type 0
Between t kept new first end =
    ((i : ℕ) → i < 2 * first → i < words32 t.atoms → Same (candidate_at t) kept new i)
    × ((i : ℕ) → 2 * end ≤ i → i < words32 t.atoms → Same (candidate_at t) kept new i)
    × (end ≤ words64 t.atoms)
