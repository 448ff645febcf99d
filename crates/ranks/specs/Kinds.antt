-- The kinds of node that functions take together.
-- Assumes nothing.
use Rattle.std.specs.Prelude.{ℕ, ◌<◌, ◌≤◌, ◌≡◌, refl, List}
use Rattle.std.proofs.Common.{sym, ◌∙◌, ◌⊎◌, ⊎_elim}
use Rattle.theory.specs.Node.{node_at}
use Rattle.theory.specs.Spans.{Indexed}
use Rattle.theory.specs.Formed.{and_indexed, or_indexed}
use Rattle.theory.specs.WellFormed.{NodeTables}
use Rattle.theory.specs.declared.Counts.{Counts}
use Rattle.theory.specs.declared.Node.{Node}
use Rattle.theory.specs.declared.Node.TheVariants.{False, Implies, And, Or, Unknown}

-- an And or an Or with this span
pub data Grouped : Node → ℕ → ℕ → Type 0 where
  of_and : {s c : ℕ} → Grouped (And s c) s c
  of_or : {s c : ℕ} → Grouped (Or s c) s c

-- a node that has no rank and no dependency
pub data Bare : Node → Type 0 where
  bare_false : Bare False
  bare_implies : {l r : ℕ} → Bare (Implies l r)
  bare_unknown : Bare Unknown

-- of a node seen in its table
pub grouped : (view node : Node) (s c : ℕ) → view ≡ node → (view ≡ And s c) ⊎ (view ≡ Or s c) → Grouped node s c
grouped view node s c p = ⊎_elim (λ e. rw (sym p ∙ e) of_and) (λ e. rw (sym p ∙ e) of_or)

pub bare : (view node : Node) → view ≡ node → (view ≡ False) ⊎ (((l : ℕ) × (r : ℕ) × (view ≡ Implies l r)) ⊎ (view ≡ Unknown)) → Bare node
bare view node p = ⊎_elim (λ e. rw (sym p ∙ e) bare_false) (⊎_elim (λ w. rw (sym p ∙ w.2) bare_implies) (λ e. rw (sym p ∙ e) bare_unknown))

-- the span of a group lies in the table, and its operands are below the node
pub grouped_indexed : (t : Counts) (nodes operands : List ℕ) → NodeTables t nodes operands → (k : ℕ) → k < t.nodes → (n : ℕ) → k ≤ n → (s c : ℕ)
    → Grouped (node_at nodes k) s c → Indexed operands n s c
grouped_indexed t nodes operands tables k l n m s c g = go (node_at nodes k) refl g
  where
    go : (node : Node) → node_at nodes k ≡ node → Grouped node s c → Indexed operands n s c
    go node e of_and = and_indexed t nodes operands tables k l n s c m e
    go node e of_or = or_indexed t nodes operands tables k l n s c m e
