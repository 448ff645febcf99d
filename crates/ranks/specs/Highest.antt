-- The highest rank of a node, from its class word and those of lower nodes, and what a loop that fills a table with them keeps.
-- Assumes nothing.
use Rattle.std.specs.Prelude.{ℕ, ◌+◌, ◌-◌, ◌<◌, ◌≡◌, Bool, cond, List, map, ◌++◌, eqb, length, get_or, set, take, drop}
use Rattle.std.proofs.Common.{arith, ap, ◌∙◌, length-drop, get_or-take, take_all}
use Rattle.std.proofs.Math.Path.{refl, sym}
use Rattle.std.proofs.Math.ListN.{get_or-map}
use Rattle.std.proofs.lemmas.List.{take-set-le, drop-set-add}
use Rattle.base.specs.Each.{map_agree}
use Rattle.base.specs.Rising.{rising, filled_none, filled_more, filled_at}
use Rattle.formula.specs.Class.{Class, frozen, positive, opaque}
use Rattle.formula.specs.Rank.{is_positive}
use Rattle.theory.specs.Node.{node_at, span}
use Rattle.theory.specs.NodeClass.{node_classes}
use Rattle.theory.specs.NodeRank.{greatest, node_highest, node_highests}
use Rattle.theory.specs.WellFormed.{NodeFormed}
use Rattle.theory.specs.declared.Counts.{Counts}
use Rattle.theory.specs.declared.Node.{Node}
use Rattle.theory.specs.declared.Node.TheVariants.{Atom, False, Implies, And, Or, Unknown}
use Rattle.compile.specs.ClassWord.{class_word, class_words}
use Rattle.ranks.specs.Classed.{Classed}
use Rattle.ranks.specs.Kinds.{Grouped, of_and, of_or, Bare, bare_false, bare_implies, bare_unknown}

-- of a node whose class is Positive or not
unfoldable pub highest_by : List ℕ → List ℕ → Bool → (ℕ → ℕ) → Node → ℕ
highest_by ranks operands p h (Atom a) = get_or ranks a 0
highest_by ranks operands p h False = 0
highest_by ranks operands p h (Implies l r) = 0
highest_by ranks operands p h (And s c) = cond p (greatest (map h (span operands s c))) 0
highest_by ranks operands p h (Or s c) = cond p (greatest (map h (span operands s c))) 0
highest_by ranks operands p h Unknown = 0

pub highest_by_lem : (ranks operands : List ℕ) (class : Class) (h : ℕ → ℕ) (node : Node) → node_highest (λ a. get_or ranks a 0) operands class h node ≡ highest_by ranks operands (is_positive class) h node
unfolding node_highest highest_by
highest_by_lem ranks operands class h (Atom a) = refl
highest_by_lem ranks operands class h False = refl
highest_by_lem ranks operands class h (Implies l r) = refl
highest_by_lem ranks operands class h (And s c) = refl
highest_by_lem ranks operands class h (Or s c) = refl
highest_by_lem ranks operands class h Unknown = refl

pub highest_group : (ranks operands : List ℕ) (p : Bool) (h : ℕ → ℕ) (node : Node) (s c : ℕ) → Grouped node s c → highest_by ranks operands p h node ≡ cond p (greatest (map h (span operands s c))) 0
unfolding highest_by
highest_group ranks operands p h node s c of_and = refl
highest_group ranks operands p h node s c of_or = refl

pub highest_bare : (ranks operands : List ℕ) (p : Bool) (h : ℕ → ℕ) (node : Node) → Bare node → highest_by ranks operands p h node ≡ 0
unfolding highest_by
highest_bare ranks operands p h node bare_false = refl
highest_bare ranks operands p h node bare_implies = refl
highest_bare ranks operands p h node bare_unknown = refl

pub word-positive : (c : Class) → eqb (class_word c) 1 ≡ is_positive c
word-positive frozen = refl
word-positive positive = refl
word-positive opaque = refl

-- the class word of node k in the table of n
pub class_positive : (nodes operands : List ℕ) (n k : ℕ) → eqb (get_or (class_words nodes operands n) k 0) 1 ≡ is_positive (get_or (node_classes nodes operands n) k frozen)
unfolding class_words
class_positive nodes operands n k =
    ap (λ w. eqb w 1) (get_or-map class_word (node_classes nodes operands n) k frozen) ∙ word-positive (get_or (node_classes nodes operands n) k frozen)

local : (t : Counts) (ranks operands : List ℕ) (p : Bool) (start k : ℕ) (node : Node) → NodeFormed t operands start k node → (v w : ℕ → ℕ) → ((o : ℕ) → o < k → v o ≡ w o)
    → highest_by ranks operands p v node ≡ highest_by ranks operands p w node
unfolding highest_by
local t ranks operands p start k (Atom a) f v w h = refl
local t ranks operands p start k False f v w h = refl
local t ranks operands p start k (Implies l r) f v w h = refl
local t ranks operands p start k (And s c) f v w h = ap (λ xs. cond p (greatest xs) 0) (map_agree (λ o. o < k) v w (span operands s c) f.lower h)
local t ranks operands p start k (Or s c) f v w h = ap (λ xs. cond p (greatest xs) 0) (map_agree (λ o. o < k) v w (span operands s c) f.lower h)
local t ranks operands p start k Unknown f v w h = refl

-- ---- the loop

module _ (t : Counts) (nodes operands ranks : List ℕ) where
  abbrev pub make : (ℕ → ℕ) → ℕ → ℕ
  make h k = node_highest (λ a. get_or ranks a 0) operands (get_or (node_classes nodes operands t.nodes) k frozen) h (node_at nodes k)

  -- of the nodes below k
  unfoldable pub highest_before : ℕ → List ℕ
  highest_before k = rising 0 make k

  pub highest_all : highest_before t.nodes ≡ node_highests (λ a. get_or ranks a 0) nodes operands t.nodes
  unfolding highest_before node_highests
  highest_all = refl

  pub highest_none : (ds : List ℕ) → ds ≡ highest_before 0 ++ drop 0 ds
  unfolding highest_before
  highest_none ds = filled_none 0 make ds

  pub highest_more : (ds xs : List ℕ) (start k x : ℕ) → NodeFormed t operands start k (node_at nodes k) → k < length ds → xs ≡ highest_before k ++ drop k ds
      → x ≡ highest_by ranks operands (eqb (get_or (class_words nodes operands t.nodes) k 0) 1) (λ o. get_or xs o 0) (node_at nodes k)
      → set xs k x ≡ highest_before (k + 1) ++ drop (k + 1) ds
  unfolding highest_before
  highest_more ds xs start k x f l e q =
      filled_more 0 make ds xs k x l e
      (q ∙ rw (class_positive nodes operands t.nodes k)
      (local t ranks operands _ start k (node_at nodes k) f _ _ (λ o b. filled_at 0 make ds xs k o e b) ∙ sym (highest_by_lem ranks operands _ _ (node_at nodes k))))

  -- the same behind the first v words of an area whose front holds the class words
  module _ (area₀ area : List ℕ) (v k : ℕ) (low : k < v) (front : take v area ≡ take v area₀) (back : drop v area ≡ highest_before k ++ drop k (drop v area₀)) where
    pub class_there : Classed t nodes operands (take v area₀) → k < t.nodes → (class : ℕ) → class ≡ get_or area k 0 → class ≡ get_or (class_words nodes operands t.nodes) k 0
    class_there c l class e =
        e ∙ sym (get_or-take v area k 0 low) ∙ ap (λ xs. get_or xs k 0) front ∙ c.word k l

    pub fill_front : (x : ℕ) → take v (set area (v + k) x) ≡ take v area₀
    fill_front x = take-set-le v area (v + k) x (omega arith) ∙ front

    pub fill_back : (start x class : ℕ) (high : List ℕ) → NodeFormed t operands start k (node_at nodes k) → v + k < length area₀ → high ≡ drop v area
        → class ≡ get_or (class_words nodes operands t.nodes) k 0 → x ≡ highest_by ranks operands (eqb class 1) (λ o. get_or high o 0) (node_at nodes k)
        → drop v (set area (v + k) x) ≡ highest_before (k + 1) ++ drop (k + 1) (drop v area₀)
    fill_back start x class high f l p q e =
        drop-set-add v area k x
        ∙ highest_more (drop v area₀) (drop v area) start k x f (omega (arith, length-drop v area₀)) back (rw (← p, ← q) e)

-- what a part from v to the end is
pub part-rest : (v : ℕ) (xs : List ℕ) → take (length xs - v) (drop v xs) ≡ drop v xs
part-rest v xs = take_all (length xs - v) (drop v xs) (omega (arith, length-drop v xs))
