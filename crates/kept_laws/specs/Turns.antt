-- The turns and the end of the walk as a loop of steps.
-- Assumes nothing.
use Prim.Native.Nat.{ℕ, suc, ◌+◌}
use Rattle.std.proofs.Math.Nat.{add-zero}
use Rattle.std.proofs.Common.{zero-add, sym, ◌∙◌}
use native.Mathlib.Omega.{arith}
use Rattle.std.specs.Prelude.{◌≡◌}
use Rattle.std.proofs.Math.Path.{refl, ap}
use Rattle.std.proofs.Math.ListN.{length}
use Rattle.theory.specs.declared.Refusal.TheVariants.{BadEntry}
use Rattle.kept.specs.Tables.{Tables, node_count}
use Rattle.kept.specs.Evaluation.{Evaluation}
use Rattle.kept.specs.Verdict.{verdict_of}
use Rattle.kept.specs.Step.{idle, took, fault, step}
use Rattle.kept.specs.Walk.{Walked, ended, broken, after, walk}
use Rattle.kept.specs.Check.{Result, refused, concluded, kept_result}
use Rattle.kept_laws.specs.WalkEnds.{walk_on}

-- ---- the walk's steps: n nodes are behind

-- the result of a walk after n nodes more
unfoldable pub resumed : Tables → ℕ → Walked → Result
resumed T n (ended ks e) = concluded (verdict_of T e) (n + length ks) e
resumed T n (broken place) = refused (BadEntry place)

module _ (T : Tables) where
  pub resumed_none : (w : Walked) → kept_result T w ≡ resumed T 0 w
  unfolding kept_result resumed
  resumed_none (ended ks e) = ap (λ n. concluded (verdict_of T e) n e) (sym (zero-add (length ks)))
  resumed_none (broken place) = refl

  after_more : (n m : ℕ) (w : Walked) → resumed T n (after m w) ≡ resumed T (n + 1) w
  unfolding resumed
  after_more n m (ended ks e) = let count : n + suc (length ks) ≡ n + 1 + length ks = omega arith in ap (λ x. concluded (verdict_of T e) x e) count
  after_more n m (broken place) = refl

  -- a step was made: one node more
  pub walk_more : (n m : ℕ) (e d : Evaluation) → step T e ≡ took m d → resumed T n (walk T (suc (node_count T)) e) ≡ resumed T (n + 1) (walk T (suc (node_count T)) d)
  walk_more n m e d h = ap (resumed T n) (walk_on T m e d h) ∙ after_more n m (walk T (suc (node_count T)) d)

  -- the worklist is empty, or 17
  pub walk_done : (n : ℕ) (e : Evaluation) → step T e ≡ idle → resumed T n (walk T (suc (node_count T)) e) ≡ concluded (verdict_of T e) n e
  unfolding resumed walk
  walk_done n e h = rw (h, add-zero n)

  pub walk_stop : (n place : ℕ) (e : Evaluation) → step T e ≡ fault place → resumed T n (walk T (suc (node_count T)) e) ≡ refused (BadEntry place)
  unfolding resumed walk
  walk_stop n place e h = rw h
