-- The refusals: document 01's number of each, then its place, and for 11 the body too.
-- Assumes nothing.
use Rattle.std.specs.Prelude.{ℕ, List, [], ◌∷◌, get_or}
use Rattle.theory.specs.declared.Refusal.{Refusal}
use Rattle.theory.specs.declared.Refusal.TheVariants.{BadKind, CutRecord, PastLimit, BadAtom, BadOperand, NoOperands, BadRoot, NotRising, ShortBuffer, UnsupportedRoot, UnsupportedBody, PositiveCycle, RankShape, RankOrder, ForeignStamp, StrayBit, BadEntry}

unfoldable pub told : Refusal → List ℕ
told (BadKind place) = 1 ∷ place ∷ []
told (CutRecord place) = 2 ∷ place ∷ []
told (PastLimit place) = 3 ∷ place ∷ []
told (BadAtom place) = 4 ∷ place ∷ []
told (BadOperand place) = 5 ∷ place ∷ []
told (NoOperands place) = 6 ∷ place ∷ []
told (BadRoot place) = 7 ∷ place ∷ []
told (NotRising place) = 8 ∷ place ∷ []
told (ShortBuffer buffer) = 9 ∷ buffer ∷ []
told (UnsupportedRoot root) = 10 ∷ root ∷ []
told (UnsupportedBody root body) = 11 ∷ root ∷ body ∷ []
told (PositiveCycle atom) = 12 ∷ atom ∷ []
told RankShape = 13 ∷ 0 ∷ []
told (RankOrder head) = 14 ∷ head ∷ []
told ForeignStamp = 15 ∷ 0 ∷ []
told (StrayBit bit) = 16 ∷ bit ∷ []
told (BadEntry node) = 17 ∷ node ∷ []

abbrev pub number_of : Refusal → ℕ
number_of r = get_or (told r) 0 0
