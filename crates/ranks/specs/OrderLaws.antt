-- The exits of the functions that check the order of ranks.
-- Assumes nothing.
use Rattle.std.specs.Prelude.{ℕ, zero, suc, ◌+◌, ◌<◌, ◌≤◌, ◌≡◌, refl, Bool, true, false, List, ◌++◌, take, drop, Option, Some, None, Result, Ok, Err}
use Rattle.std.proofs.Common.{arith, ◌∙◌, get_or-take, take_all, take_at, length-take-le}
use Rattle.std.proofs.Math.Path.{sym, ap}
use Rattle.std.proofs.Math.ListN.{length, get_or, get_or-append}
use Rattle.std.proofs.Math.Seq.{get_or-drop, drop_at}
use borrow.Author.Tests.{eq-eqb, ne_eqb, lt-ltb, le-ltb}
use Rattle.base.specs.Rising.{length-rising}
use Rattle.theory.specs.Node.{span}
use Rattle.theory.specs.NodeRank.{node_highests}
use Rattle.theory.specs.Admission.{all_below, Admission, admitted}
use Rattle.theory.specs.WellFormed.{NodeTables, RootTable}
use Rattle.theory.specs.Refusals.{first_agree}
use Rattle.theory.specs.declared.Counts.{Counts}
use Rattle.theory.specs.declared.Refusal.TheVariants.{RankShape, RankOrder}
use Rattle.compile.specs.Producer.{produced}
use Rattle.ranks.specs.MadeIn.{MadeIn, made_in}
use Rattle.ranks.specs.RankCheck.{body_order, produced_order, order_at, order_by, rank_order, rank_check}
use Rattle.theory.specs.declared.Refusal.{Refusal}
use Rattle.compile.specs.declared.Producer.{Producer}

pub order_bare : (classes high ranks : List ℕ) (head body : ℕ) → body ≡ 0 → admitted ≡ body_order classes high ranks head body
unfolding body_order
order_bare classes high ranks head body e = rw e

-- a body b, its class word w
module _ (area ranks : List ℕ) (v head body b w : ℕ) (e : body ≡ suc b) (l : b < v) (p : w ≡ get_or area b 0) where
  class_is : get_or (take v area) b 0 ≡ w
  class_is = get_or-take v area b 0 l ∙ sym p

  pub order_free : (w ≡ 1 → ⊥) → admitted ≡ body_order (take v area) (drop v area) ranks head body
  unfolding body_order
  order_free ne = rw (e, class_is, ne_eqb w 1 ne)

  module _ (x y : ℕ) (one : w ≡ 1) (q : x ≡ get_or area (v + b) 0) (r : y ≡ get_or ranks head 0) where
    pub order_fine : x < y → admitted ≡ body_order (take v area) (drop v area) ranks head body
    unfolding body_order
    order_fine h = simp (e, class_is, eq-eqb w 1 one, get_or-drop v area b 0, ← q, ← r, lt-ltb x y h)

    pub order_broken : y ≤ x → Err (RankOrder head) ≡ body_order (take v area) (drop v area) ranks head body
    unfolding body_order
    order_broken h = simp (e, class_is, eq-eqb w 1 one, get_or-drop v area b 0, ← q, ← r, le-ltb x y h)

-- the root at hand, seen as the definition sees it
pub order_seen : (nodes operands classes roots high ranks : List ℕ) (i root : ℕ) (made : Result (Option Producer) Refusal) (r : Admission) → root ≡ get_or roots i 0
    → made ≡ produced nodes operands classes root → r ≡ produced_order classes high ranks made → order_at nodes operands classes roots high ranks i ≡ r
unfolding order_at
order_seen nodes operands classes roots high ranks i root made r p q e = rw (← p, ← q) (sym e)

-- ---- tables of highest ranks that agree on the nodes give the same answer

body_agree : (classes h g ranks : List ℕ) (n head body : ℕ) → body ≤ n → ((k : ℕ) → k < n → get_or h k 0 ≡ get_or g k 0) → body_order classes h ranks head body ≡ body_order classes g ranks head body
unfolding body_order
body_agree classes h g ranks n head zero l w = refl
body_agree classes h g ranks n head (suc b) l w = rw (w b (omega arith))

made_agree : (t : Counts) (classes h g ranks : List ℕ) (made : Result (Option Producer) Refusal) → MadeIn t made → ((k : ℕ) → k < t.nodes → get_or h k 0 ≡ get_or g k 0)
    → produced_order classes h ranks made ≡ produced_order classes g ranks made
unfolding produced_order
made_agree t classes h g ranks (Ok None) m w = refl
made_agree t classes h g ranks (Ok (Some p)) m w = body_agree classes h g ranks t.nodes p.head p.body m.1 w
made_agree t classes h g ranks (Err r) m w = refl

pub order_agree : (t : Counts) (nodes operands classes roots h g ranks : List ℕ) → NodeTables t nodes operands → RootTable t roots → ((k : ℕ) → k < t.nodes → get_or h k 0 ≡ get_or g k 0)
    → order_by t nodes operands classes roots h ranks ≡ order_by t nodes operands classes roots g ranks
unfolding order_by order_at
order_agree t nodes operands classes roots h g ranks tables listed w =
    first_agree (order_at nodes operands classes roots h ranks) (order_at nodes operands classes roots g ranks) 0 t.roots
    (λ i a b.
    made_agree t classes h g ranks (produced nodes operands classes (get_or roots i 0))
    (made_in t nodes operands classes tables (get_or roots i 0) (listed.in_nodes i (omega arith)) (produced nodes operands classes (get_or roots i 0)) refl) w)

-- ---- the whole check

all_of : (ranks : List ℕ) (n : ℕ) → length ranks ≡ n → span ranks 0 n ≡ ranks
unfolding span
all_of ranks n e = take_all n ranks (omega arith)

module _ (t : Counts) (nodes operands classes roots ranks : List ℕ) where
  pub check_long : (length ranks ≡ t.atoms → ⊥) → Err RankShape ≡ rank_check t nodes operands classes roots ranks
  unfolding rank_check
  check_long ne = simp (ne_eqb (length ranks) t.atoms ne)

  pub check_high : (b : Bool) → length ranks ≡ t.atoms → b ≡ all_below t.atoms (span ranks 0 t.atoms) → b ≡ false → Err RankShape ≡ rank_check t nodes operands classes roots ranks
  unfolding rank_check
  check_high b e p q = simp (eq-eqb (length ranks) t.atoms e, ap (all_below t.atoms) (sym (all_of ranks t.atoms e)) ∙ sym p ∙ q)

  -- the area after the highest ranks are filled in
  pub check_order : (area : List ℕ) (v : ℕ) (b : Bool) (r : Admission) → NodeTables t nodes operands → RootTable t roots → length ranks ≡ t.atoms
      → b ≡ all_below t.atoms (span ranks 0 t.atoms) → b ≡ true → drop v area ≡ node_highests (λ a. get_or ranks a 0) nodes operands t.nodes ++ drop t.nodes (drop v area)
      → r ≡ order_by t nodes operands classes roots (drop v area) ranks → r ≡ rank_check t nodes operands classes roots ranks
  unfolding rank_check rank_order node_highests
  check_order area v b r tables listed e p q back s =
      s ∙ order_agree t nodes operands classes roots (drop v area) (node_highests (λ a. get_or ranks a 0) nodes operands t.nodes) ranks tables listed
      (λ k l. ap (λ xs. get_or xs k 0) back ∙ get_or-append (node_highests (λ a. get_or ranks a 0) nodes operands t.nodes) _ 0 k (omega (arith, length_highests t.nodes)))
      ∙ simp (eq-eqb (length ranks) t.atoms e, ap (all_below t.atoms) (sym (all_of ranks t.atoms e)) ∙ sym p ∙ q)
    where
      length_highests : (n : ℕ) → length (node_highests (λ a. get_or ranks a 0) nodes operands n) ≡ n
      length_highests n = length-rising 0 _ n

  -- the area after `fill_highest`
  module _ (area last : List ℕ) (v : ℕ) (l : v ≤ length area)
      (e : last ≡ take v area ++ (node_highests (λ a. get_or ranks a 0) nodes operands t.nodes ++ drop (v + t.nodes) area)) where
    pub filled-front : take v last ≡ take v area
    filled-front = ap (take v) e ∙ take_at (take v area) _ v (length-take-le v area l)

    filled : drop v last ≡ node_highests (λ a. get_or ranks a 0) nodes operands t.nodes ++ drop (v + t.nodes) area
    filled = ap (drop v) e ∙ drop_at (take v area) _ v (length-take-le v area l)

    pub filled_back : drop v last ≡ node_highests (λ a. get_or ranks a 0) nodes operands t.nodes ++ drop t.nodes (drop v last)
    unfolding node_highests
    filled_back =
        filled
        ∙ ap (λ xs. node_highests (λ a. get_or ranks a 0) nodes operands t.nodes ++ xs)
        (sym (ap (drop t.nodes) filled ∙ drop_at (node_highests (λ a. get_or ranks a 0) nodes operands t.nodes) _ t.nodes (length-rising 0 _ t.nodes)))
