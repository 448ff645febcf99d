-- What each branch on a counted set, a count and a step's finds gives, as code meets them.
-- Assumes nothing.
use Rattle.std.specs.Prelude.{ℕ, zero, suc, ◌+◌, ◌-◌, ◌<◌, ◌≤◌, ◌≡◌, refl, true, false, Some, None}
use Rattle.std.proofs.Math.Numerals.{add-one}
use Rattle.std.proofs.Common.{arith, ◌∙◌}
use Rattle.std.proofs.Math.Path.{ap}
use borrow.Author.Tests.{eq-eqb, ne_eqb, lt-ltb, le-ltb}
use Rattle.words.specs.Next.{next}
use Rattle.kept.specs.CountedSet.{CountedSet, moved, empty, astray, at, lookup}
use Rattle.kept.specs.Evaluation.{Evaluation}
use Rattle.kept.specs.Step.{fault, idle, seen, step_at, step}
use Rattle.kept.specs.Tables.{Tables, node_count}

-- ---- a count within 0 and most

module _ (most n : ℕ) where
  pub moved_up : n < most → moved most true n ≡ Some (n + 1)
  unfolding moved
  moved_up l = rw (lt-ltb n most l, add-one n)

  pub moved_full : most ≤ n → moved most true n ≡ None
  unfolding moved
  moved_full l = rw (le-ltb n most l)

pub moved_down : (most n : ℕ) → 0 < n → moved most false n ≡ Some (n - 1)
unfolding moved
moved_down most zero l = absurd (omega arith)
moved_down most (suc n) l = let e : suc n - 1 ≡ n = omega arith in rw e

pub moved_empty : (most : ℕ) → moved most false 0 ≡ None
unfolding moved
moved_empty most = refl

-- ---- the lowest member from i on

module _ (n i : ℕ) (s : CountedSet) where
  pub lookup-none : s.size ≡ 0 → lookup n i s ≡ empty
  unfolding lookup
  lookup-none e = rw (eq-eqb s.size 0 e)

  pub lookup_found : (s.size ≡ 0 → ⊥) → next 32 s.members i < n → lookup n i s ≡ at (next 32 s.members i)
  unfolding lookup
  lookup_found e l = rw (ne_eqb s.size 0 e, lt-ltb (next 32 s.members i) n l)

  pub lookup_astray : (s.size ≡ 0 → ⊥) → n ≤ next 32 s.members i → lookup n i s ≡ astray
  unfolding lookup
  lookup_astray e l = rw (ne_eqb s.size 0 e, le-ltb (next 32 s.members i) n l)

-- ---- a step

module _ (T : Tables) (e : Evaluation) where
  pub step_idle : e.worklist.first ≡ node_count T → step T e ≡ idle
  unfolding step step_at
  step_idle h = rw (h, le-ltb (node_count T) (node_count T) (omega arith), eq-eqb (node_count T) (node_count T) refl)

  pub step_astray : node_count T < e.worklist.first → step T e ≡ fault 0
  unfolding step step_at
  step_astray h = rw (le-ltb e.worklist.first (node_count T) (omega arith), ne_eqb e.worklist.first (node_count T) (λ z. omega (arith, z)))

  pub step_unseen : (k : ℕ) → e.worklist.first ≡ k → k < node_count T → seen T e k ≡ None → step T e ≡ fault k
  unfolding step step_at
  step_unseen k h l s = ap (step_at T e) h ∙ rw (lt-ltb k (node_count T) l, s)
