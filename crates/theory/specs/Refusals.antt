-- Laws of the first refusal, and of where spans begin.
-- Assumes nothing.
use Prim.Native.Nat.{ℕ, zero, suc, ◌+◌, ◌-◌, ◌<◌, ◌≤◌}
use Rattle.std.proofs.Common.{add-one, ap₂, ◌∙◌, ⊎_elim, eqb-true, leb-true}
use native.Mathlib.Omega.{arith}
use Rattle.std.specs.Prelude.{◌≡◌, refl, Bool, true, false, cond, ◌&&◌, List, eqb, leb, Ok, Err}
use Rattle.std.proofs.Math.Path.{sym}
use Rattle.std.proofs.lemmas.Bool.{eqb-false}
use Rattle.base.specs.Tests.{equal_or}
use Rattle.theory.specs.Node.{node_at, span}
use Rattle.theory.specs.Admission.{all_below, group_admission, node_admission, or_else, first_refusal, span_end, span_start, Admission, admitted}
use Rattle.theory.specs.declared.Counts.{Counts}
use Rattle.theory.specs.declared.Node.{Node}
use Rattle.theory.specs.declared.Node.TheVariants.{Atom, False, Implies, And, Or, Unknown}
use Rattle.theory.specs.declared.Refusal.{Refusal}
use Rattle.theory.specs.declared.Refusal.TheVariants.{NoOperands, BadOperand}

-- a loop from i up to n: `whole` is what is left at each turn
module _ (f : ℕ → Admission) (i n : ℕ) (whole : Admission) (rest : whole ≡ first_refusal f i (n - i)) where
  first_turn : i < n → whole ≡ or_else (f i) (first_refusal f (i + 1) (n - (i + 1)))
  unfolding first_refusal
  first_turn h =
      let left : n - i ≡ suc (n - (i + 1)) = omega arith in
      rest ∙ rw left

  pub first_stop : (r : Refusal) → i < n → f i ≡ Err r → Err r ≡ whole
  first_stop r h e = sym (first_turn h ∙ rw e)

  pub first_go : i < n → f i ≡ admitted → whole ≡ first_refusal f (i + 1) (n - (i + 1))
  first_go h e = first_turn h ∙ rw e

  pub first_done : n ≤ i → admitted ≡ whole
  unfolding first_refusal
  first_done h = let left : n - i ≡ 0 = omega arith in sym (rest ∙ rw left)

pub or_else_left : (a b : Admission) → or_else a b ≡ admitted → a ≡ admitted
or_else_left (Ok u) b e = refl
or_else_left (Err r) b e = e

pub or-else-right : (a b : Admission) → or_else a b ≡ admitted → b ≡ admitted
or-else-right (Ok u) b e = e
or-else-right (Err r) b e = cc

-- no refusal: each is admitted; and the other way round
pub none_refused : (f : ℕ → Admission) (i n : ℕ) → first_refusal f i n ≡ admitted → (k : ℕ) → i ≤ k → k < i + n → f k ≡ admitted
unfolding first_refusal
none_refused f i zero e k a b = absurd (omega arith)
none_refused f i (suc n) e k a b =
    ⊎_elim (λ q. rw q (or_else_left (f i) (first_refusal f (i + 1) n) e))
    (λ ne. none_refused f (i + 1) n (or-else-right (f i) (first_refusal f (i + 1) n) e) k (omega arith) (omega arith))
    (equal_or k i)

pub all_admitted : (f : ℕ → Admission) (i n : ℕ) → ((k : ℕ) → i ≤ k → k < i + n → f k ≡ admitted) → first_refusal f i n ≡ admitted
unfolding first_refusal
all_admitted f i zero h = refl
all_admitted f i (suc n) h =
    rw (h i (omega arith) (omega arith)) (all_admitted f (i + 1) n (λ k a b. h k (omega arith) (omega arith)))

pub first_agree : (f g : ℕ → Admission) (i n : ℕ) → ((k : ℕ) → i ≤ k → k < i + n → f k ≡ g k) → first_refusal f i n ≡ first_refusal g i n
unfolding first_refusal
first_agree f g i zero h = refl
first_agree f g i (suc n) h =
    ap₂ or_else (h i (omega arith) (omega arith)) (first_agree f g (i + 1) n (λ k a b. h k (omega arith) (omega arith)))

pub start_none : (nodes : List ℕ) → 0 ≡ span_start nodes 0
unfolding span_start
start_none nodes = refl

pub start_more : (nodes : List ℕ) (k start next : ℕ) (node : Node) → start ≡ span_start nodes k → node ≡ node_at nodes k → next ≡ span_end node start → next ≡ span_start nodes (k + 1)
unfolding span_start
start_more nodes k start next node p q e = rw (add-one, ← p, ← q) e

-- the node at hand, seen as the definition sees it
pub node_seen_lem : (t : Counts) (nodes operands : List ℕ) (k start : ℕ) (node : Node) (r : Admission) → start ≡ span_start nodes k → node ≡ node_at nodes k
    → r ≡ node_admission t operands start k node → node_admission t operands (span_start nodes k) k (node_at nodes k) ≡ r
node_seen_lem t nodes operands k start node r p q e = rw (← p, ← q) (sym e)

pub not_both : (r : Refusal) → Err r ≡ admitted → ⊥
not_both r e = let z : ◌≡◌ {A = ℕ} 0 1 = cc in omega arith

-- the span of an admitted group begins at start, is not empty, ends within the table, and has nodes below k alone
pub group_admitted : (size : ℕ) (operands : List ℕ) (start k s c : ℕ) → group_admission size operands start k s c ≡ admitted
    → (s ≡ start) × (0 < c) × (s + c ≤ size) × (all_below k (span operands s c) ≡ true)
unfolding group_admission
group_admitted size operands start k s c e = go (eqb c 0) refl (eqb s start) refl (leb (s + c) size) refl (all_below k (span operands s c)) refl e
  where
    go : (z : Bool) → eqb c 0 ≡ z → (b : Bool) → eqb s start ≡ b → (w : Bool) → leb (s + c) size ≡ w → (l : Bool) → all_below k (span operands s c) ≡ l
        → cond z (Err (NoOperands k)) (cond (b && w && l) admitted (Err (BadOperand k))) ≡ admitted
        → (s ≡ start) × (0 < c) × (s + c ≤ size) × (all_below k (span operands s c) ≡ true)
    go true ez b eb w ew l el q = absurd (not_both _ q)
    go false ez true eb true ew true el q = (eqb-true s start eb, omega (arith, eqb-false c 0 ez), leb-true (s + c) size ew, el)
    go false ez true eb true ew false el q = absurd (not_both _ q)
    go false ez true eb false ew l el q = absurd (not_both _ q)
    go false ez false eb w ew l el q = absurd (not_both _ q)

-- an admitted node's span ends within the table
pub end_within : (t : Counts) (operands : List ℕ) (start k : ℕ) (node : Node) → node_admission t operands start k node ≡ admitted → start ≤ t.operands → span_end node start ≤ t.operands
unfolding node_admission
end_within t operands start k (Atom a) e h = h
end_within t operands start k False e h = h
end_within t operands start k (Implies l r) e h = h
end_within t operands start k (And s c) e h = omega (arith, group_admitted t.operands operands start k s c e)
end_within t operands start k (Or s c) e h = omega (arith, group_admitted t.operands operands start k s c e)
end_within t operands start k Unknown e h = h
