-- Which refusals an admission can give.
-- Assumes nothing.
use Prim.Native.Nat.{ℕ, zero, suc, ◌+◌, ◌≤◌}
use Rattle.std.proofs.Common.{arith, sym, subst}
use Rattle.std.specs.Prelude.{◌≡◌, Bool, true, false, cond, ◌&&◌, List, eqb, get_or, Ok, Err}
use Rattle.std.proofs.Math.Dec.{leb, ltb}
use Rattle.theory.specs.Refusal.{told, number_of}
use Rattle.theory.specs.Refusals.{not_both}
use Rattle.theory.specs.Limits.{limits_of}
use Rattle.theory.specs.Node.{node_at, span}
use Rattle.theory.specs.Admission.{all_below, span_start, group_admission, node_admission, root_admission, or_else, first_refusal, nodes_admission, roots_admission, admission, Admission, admitted}
use Rattle.theory.specs.declared.Counts.{Counts}
use Rattle.theory.specs.declared.Node.{Node}
use Rattle.theory.specs.declared.Node.TheVariants.{Atom, False, Implies, And, Or, Unknown}
use Rattle.theory.specs.declared.Refusal.{Refusal}
use Rattle.theory.specs.declared.Refusal.TheVariants.{BadKind, PastLimit, BadAtom, BadOperand, NoOperands, BadRoot}

module _ (P : Refusal → Type 0) where
  -- none but those of P
  abbrev pub Only : Admission → Type 0
  Only a = (r : Refusal) → a ≡ Err r → P r

  pub only_admitted : Only admitted
  only_admitted r e = absurd (not_both r (sym e))

  pub only_refused : (x : Refusal) → P x → Only (Err x)
  only_refused x p r e = let z : x ≡ r = cc in subst P z p

  pub only_either : (b : Bool) (x y : Admission) → Only x → Only y → Only (cond b x y)
  only_either true x y p q = p
  only_either false x y p q = q

  pub only-or_else : (a b : Admission) → Only a → Only b → Only (or_else a b)
  only-or_else (Ok u) b p q = q
  only-or_else (Err r) b p q = p

  pub only_first : (f : ℕ → Admission) → ((k : ℕ) → Only (f k)) → (i n : ℕ) → Only (first_refusal f i n)
  unfolding first_refusal
  only_first f h i zero = only_admitted
  only_first f h i (suc n) = only-or_else (f i) (first_refusal f (i + 1) n) (h i) (only_first f h (i + 1) n)

-- ---- by document 01's numbers

-- none with a number above n
abbrev pub UpTo : ℕ → Admission → Type 0
UpTo n = Only (λ r. number_of r ≤ n)

module _ (n : ℕ) where
  abbrev Low : Refusal → Type 0
  Low r = number_of r ≤ n

  -- a test: x, or else what comes after it
  pub up_to_test : (b : Bool) (x : Refusal) (rest : Admission) → number_of x ≤ n → UpTo n rest → UpTo n (cond b (Err x) rest)
  up_to_test b x rest l h = only_either Low b (Err x) rest (only_refused Low x l) h

  pub up_to_passed : (b : Bool) (x : Refusal) → number_of x ≤ n → UpTo n (cond b admitted (Err x))
  up_to_passed b x l = only_either Low b admitted (Err x) (only_admitted Low) (only_refused Low x l)

  pub limits_up_to : (c : Counts) → 3 ≤ n → UpTo n (limits_of c)
  unfolding limits_of told
  limits_up_to c l =
      up_to_test (ltb 65536 c.atoms) (PastLimit 0) _ l
      (up_to_test (ltb 262144 c.nodes) (PastLimit 1) _ l
      (up_to_test (ltb 1048576 c.operands) (PastLimit 2) _ l
      (up_to_test (ltb 262144 c.roots) (PastLimit 3) admitted l (only_admitted Low))))

  module _ (l : 7 ≤ n) where
    group_up_to : (size : ℕ) (operands : List ℕ) (start k s c : ℕ) → UpTo n (group_admission size operands start k s c)
    unfolding group_admission told
    group_up_to size operands start k s c =
        up_to_test (eqb c 0) (NoOperands k) _ (omega arith)
        (up_to_passed (eqb s start && leb (s + c) size && all_below k (span operands s c)) (BadOperand k) (omega arith))

    node_up_to : (t : Counts) (operands : List ℕ) (start k : ℕ) (node : Node) → UpTo n (node_admission t operands start k node)
    unfolding node_admission told
    node_up_to t operands start k (Atom a) = up_to_passed (ltb a t.atoms) (BadAtom k) (omega arith)
    node_up_to t operands start k False = only_admitted Low
    node_up_to t operands start k (Implies x y) = up_to_passed (ltb x k && ltb y k) (BadOperand k) (omega arith)
    node_up_to t operands start k (And s c) = group_up_to t.operands operands start k s c
    node_up_to t operands start k (Or s c) = group_up_to t.operands operands start k s c
    node_up_to t operands start k Unknown = only_refused Low (BadKind k) (omega arith)

    pub tables_up_to : (t : Counts) (nodes operands roots : List ℕ) → UpTo n (admission t nodes operands roots)
    unfolding admission nodes_admission roots_admission root_admission told
    tables_up_to t nodes operands roots =
        only-or_else Low _ _
        (only_first Low (λ k. node_admission t operands (span_start nodes k) k (node_at nodes k)) (λ k. node_up_to t operands (span_start nodes k) k (node_at nodes k)) 0 t.nodes)
        (only_first Low (root_admission t roots) (λ i. up_to_passed (ltb (get_or roots i 0) t.nodes) (BadRoot i) l) 0 t.roots)
