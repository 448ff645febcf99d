-- The producers of a theory in root order, the first root that is refused (10, 11), and the producers as words.
-- Assumes nothing.
use Rattle.std.specs.Prelude.{ℕ, List, [], ◌∷◌, ◌++◌, get_or, take, Option, Some, None, Result, Ok, Err}
use Rattle.theory.specs.Admission.{first_refusal, Admission, admitted}
use Rattle.theory.specs.declared.Counts.{Counts}
use Rattle.compile.specs.Head.{word_of}
use Rattle.compile.specs.Producer.{produced}
use Rattle.compile.specs.declared.Producer.{Producer}
use Rattle.theory.specs.declared.Refusal.{Refusal}

unfoldable pub refused_by : Result (Option Producer) Refusal → Admission
refused_by (Ok None) = admitted
refused_by (Ok (Some p)) = admitted
refused_by (Err r) = Err r

-- 10 or 11 of the root at position i
unfoldable pub supported_at : List ℕ → List ℕ → List ℕ → List ℕ → ℕ → Admission
supported_at nodes operands classes roots i = refused_by (produced nodes operands classes (get_or roots i 0))

-- root by root
unfoldable pub roots_supported : Counts → List ℕ → List ℕ → List ℕ → List ℕ → Admission
roots_supported t nodes operands classes roots = first_refusal (supported_at nodes operands classes roots) 0 t.roots

unfoldable pub made_by : Result (Option Producer) Refusal → List Producer
made_by (Ok None) = []
made_by (Ok (Some p)) = p ∷ []
made_by (Err r) = []

unfoldable pub producers : List ℕ → List ℕ → List ℕ → List ℕ → List Producer
producers nodes operands classes [] = []
producers nodes operands classes (root ∷ roots) = made_by (produced nodes operands classes root) ++ producers nodes operands classes roots

-- of the roots before position i
unfoldable pub producers_before : List ℕ → List ℕ → List ℕ → List ℕ → ℕ → List Producer
producers_before nodes operands classes roots i = producers nodes operands classes (take i roots)

-- four words a producer
unfoldable pub producer_words : List Producer → List ℕ
producer_words [] = []
producer_words (p ∷ ps) = p.head ∷ p.body ∷ p.root ∷ word_of p.kind ∷ producer_words ps
