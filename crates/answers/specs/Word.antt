-- The answer of a public call as one u64: in bits 0 to 7 the refusal's number, or 0; in bits 8 to 39 and 40 to 63 what goes with it.
-- Assumes nothing.
use Rattle.std.specs.Prelude.{ℕ, ◌+◌, ◌*◌, ◌/◌, ◌%◌, get_or, Result, Ok, Err}
use Rattle.theory.specs.Refusal.{told, number_of}
use Rattle.theory.specs.declared.Refusal.{Refusal}
use Rattle.kept.specs.Verdict.{Verdict, not_model, residual, stable}
use Rattle.kept.specs.Outcome.{Answer, accepted, refused}

-- ---- the fields: 8 bits, 32 and 24

unfoldable pub word : ℕ → ℕ → ℕ → ℕ
word number place body = (body * 4294967296 + place) * 256 + number

abbrev pub number_in : ℕ → ℕ
number_in w = w % 256

abbrev pub place_in : ℕ → ℕ
place_in w = w / 256 % 4294967296

abbrev pub body_in : ℕ → ℕ
body_in w = w / 256 / 4294967296

-- ---- a refusal: its number, its place and, for 11, its body, else 0

abbrev pub place_of : Refusal → ℕ
place_of r = get_or (told r) 1 0

abbrev pub body_of : Refusal → ℕ
body_of r = get_or (told r) 2 0

unfoldable pub refusal_word : Refusal → ℕ
refusal_word r = word (number_of r) (place_of r) (body_of r)

-- ---- a planning call: 0 and the number of producers

unfoldable pub planning_word : Result ℕ Refusal → ℕ
planning_word (Ok producers) = word 0 producers 0
planning_word (Err r) = refusal_word r

-- ---- a check: 0; in bits 8 to 15 the verdict, in 16 to 39 the root's node or the atom that it names, or 0; in 40 to 63 the nodes visited

abbrev pub verdict_number : Verdict → ℕ
verdict_number stable = 0
verdict_number (not_model root) = 1
verdict_number (residual atom) = 2

abbrev pub named : Verdict → ℕ
named stable = 0
named (not_model root) = root
named (residual atom) = atom

unfoldable pub check_word : Answer → ℕ
check_word (accepted v n) = word 0 (named v * 256 + verdict_number v) n
check_word (refused r) = refusal_word r
