-- When the values of a theory file are sound.
-- Assumes nothing.
use Rattle.std.specs.Prelude.{ℕ, ◌+◌, ◌<◌, ◌≡◌, true, List, [], ◌∷◌, length}
use Rattle.base.specs.Each.{Each}
use Rattle.theory.specs.Limits.{Limited}
use Rattle.record.specs.Rising.{rising}
use Rattle.encoding.specs.Value.{Node, Atom, False, Implies, And, Or, TheoryFile}
use Rattle.encoding.specs.Held.{counts_of}

-- each of them is below the bound
abbrev pub Below : ℕ → List ℕ → Type 0
Below bound xs = Each (λ x. x < bound) xs

-- node k names an atom below `atoms` or nodes below k; And and Or are not empty
abbrev pub SoundNode : ℕ → ℕ → Node → Type 0
SoundNode atoms k (Atom a) = a < atoms
SoundNode atoms k False = Unit {0}
SoundNode atoms k (Implies l r) = (l < k) × (r < k)
SoundNode atoms k (And os) = (0 < length os) × Below k os
SoundNode atoms k (Or os) = (0 < length os) × Below k os

-- the nodes from node k on
abbrev pub SoundNodes : ℕ → ℕ → List Node → Type 0
SoundNodes atoms k [] = Unit {0}
SoundNodes atoms k (n ∷ ns) = SoundNode atoms k n × SoundNodes atoms (k + 1) ns

-- the atoms of a candidate are below `atoms` and rise
abbrev pub SoundCandidate : ℕ → List ℕ → Type 0
SoundCandidate atoms xs = Below atoms xs × (rising xs ≡ true)

-- the stamp has four bytes, no limit is passed, and each node, root and candidate is sound
pub record Sound (f : TheoryFile) : Type 0 where
  pub stamp : f.stamp < 4294967296
  pub limited : Limited (counts_of f)
  pub nodes : SoundNodes f.atoms 0 f.nodes
  pub roots : Below (length f.nodes) f.roots
  pub candidates : Each (SoundCandidate f.atoms) f.candidates
