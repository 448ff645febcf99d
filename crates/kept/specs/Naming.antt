-- What the verdict names, by the truths of the nodes; `Decides` says it of the roots' formulas.
-- Assumes nothing.
use Rattle.std.specs.Prelude.{ℕ, ◌<◌, ◌≡◌, true, false}
use Rattle.formula.specs.Satisfaction.{Interpretation}
use Rattle.kept.specs.Tables.{Tables, atom_count, root_count, root_at, head_at, body_at}
use Rattle.kept.specs.Evaluation.{truth, body_true}
use Rattle.kept.specs.Verdict.{Verdict, not_model, residual, stable}

-- root position r is the first false one
pub record FirstFalse (T : Tables) (I : Interpretation) (r : ℕ) : Type 0 where
  pub within : r < root_count T
  pub untrue : truth T I (root_at T r) ≡ false
  pub before : (q : ℕ) → q < r → truth T I (root_at T q) ≡ true

abbrev pub AllTrue : Tables → Interpretation → Type 0
AllTrue T I = (r : ℕ) → r < root_count T → truth T I (root_at T r) ≡ true

-- the atom has no bodyless producer and none with a true body
abbrev pub Unproduced : Tables → Interpretation → ℕ → Type 0
Unproduced T I a = (p : ℕ) → p < T.made → head_at T p ≡ a → body_true (truth T I) (body_at T p) ≡ false

-- a is the lowest such atom of the candidate
pub record FirstUnproduced (T : Tables) (I : Interpretation) (a : ℕ) : Type 0 where
  pub within : a < atom_count T
  pub present : I a ≡ true
  pub lacking : Unproduced T I a
  pub before : (j : ℕ) → j < a → I j ≡ true → Unproduced T I j → ⊥

abbrev pub AllProduced : Tables → Interpretation → Type 0
AllProduced T I = (a : ℕ) → a < atom_count T → I a ≡ true → Unproduced T I a → ⊥

-- not-model names the first false root exactly if some root is false; residual, exactly if none is false and
-- some candidate atom has no producer, the lowest such atom; otherwise stable
pub record Right (T : Tables) (I : Interpretation) (v : Verdict) : Type 0 where
  pub names_root : (k : ℕ) → v ≡ not_model k → (r : ℕ) × FirstFalse T I r × (root_at T r ≡ k)
  pub root_named : (r : ℕ) → FirstFalse T I r → v ≡ not_model (root_at T r)
  pub names_atom : (a : ℕ) → v ≡ residual a → AllTrue T I × FirstUnproduced T I a
  pub atom_named : (a : ℕ) → AllTrue T I → FirstUnproduced T I a → v ≡ residual a
  pub says_stable : v ≡ stable → AllTrue T I × AllProduced T I
  pub stable_said : AllTrue T I → AllProduced T I → v ≡ stable
