-- Tables that a fresh check admits: bodies and roots lie within the nodes.
-- Assumes nothing.
use Rattle.std.specs.Prelude.{ℕ, ◌<◌, ◌≤◌, ◌≡◌, refl, Bool, true, false, ◌&&◌, ltb}
use Rattle.std.proofs.Common.{arith}
use Rattle.std.proofs.Math.Dec.{leb}
use borrow.Author.Tests.{ltb-true, leb-true}
use Rattle.base.specs.Tests.{both_right}
use Rattle.formula.specs.Satisfaction.{Interpretation}
use Rattle.theory.specs.Admission.{or_else, first_refusal, Admission, admitted}
use Rattle.theory.specs.Refusals.{not_both, or_else_left, or-else-right, none_refused}
use Rattle.theory.specs.declared.Refusal.TheVariants.{BadEntry}
use Rattle.kept.specs.Tables.{Tables, atom_count, node_count, root_count, root_at, head_at, body_at}
use Rattle.kept.specs.Check.{entry, node_entry, producer_entry, root_entry, tables_admission}

entry_admitted : (b : Bool) (place : ℕ) → entry b place ≡ admitted → b ≡ true
entry_admitted true place e = refl
entry_admitted false place e = absurd (not_both (BadEntry place) e)

module _ (T : Tables) (J : Interpretation) (ok : tables_admission T J ≡ admitted) where
  abbrev nodes_ok : Admission
  nodes_ok = first_refusal (node_entry T J) 0 (node_count T)

  abbrev producers_ok : Admission
  producers_ok = first_refusal (producer_entry T) 0 T.made

  abbrev roots_ok : Admission
  roots_ok = first_refusal (root_entry T) 0 (root_count T)

  pub nodes_ok_lem : nodes_ok ≡ admitted
  unfolding tables_admission
  nodes_ok_lem = or_else_left nodes_ok (or_else producers_ok roots_ok) ok

  pub body_within : (p : ℕ) → p < T.made → body_at T p ≤ node_count T
  unfolding tables_admission producer_entry
  body_within p l =
      leb-true (body_at T p) (node_count T) (both_right (ltb (head_at T p) (atom_count T)) (leb (body_at T p) (node_count T))
      (entry_admitted (ltb (head_at T p) (atom_count T) && leb (body_at T p) (node_count T)) 0
      (none_refused (producer_entry T) 0 T.made (or_else_left producers_ok roots_ok (or-else-right nodes_ok (or_else producers_ok roots_ok) ok)) p (omega arith) (omega arith))))

  pub root_within : (r : ℕ) → r < root_count T → root_at T r < node_count T
  unfolding tables_admission root_entry
  root_within r l =
      ltb-true (root_at T r) (node_count T)
      (entry_admitted (ltb (root_at T r) (node_count T)) 0
      (none_refused (root_entry T) 0 (root_count T) (or-else-right producers_ok roots_ok (or-else-right nodes_ok (or_else producers_ok roots_ok) ok)) r (omega arith) (omega arith)))
