-- The classes of nodes as words: 0 Frozen, 1 Positive, 2 Opaque, so that a group has the greatest of its operands'.
-- Assumes nothing.
use Rattle.std.specs.Prelude.{ℕ, ◌+◌, ◌<◌, max, ◌≡◌, refl, Bool, true, false, cond, List, [], ◌∷◌, ◌++◌, map, length, get_or, set, drop}
use Rattle.std.proofs.Common.{ap, ◌∙◌}
use Rattle.base.specs.Each.{map_agree}
use Rattle.base.specs.Rising.{rising, rising-map, filled_none, filled_more, filled_at}
use Rattle.formula.specs.Class.{Class, positive, frozen, opaque, join}
use Rattle.theory.specs.Node.{node_at, span}
use Rattle.theory.specs.WellFormed.{NodeFormed}
use Rattle.theory.specs.NodeClass.{is_false, joined, node_class, node_classes}
use Rattle.theory.specs.NodeRank.{greatest}
use Rattle.theory.specs.declared.Counts.{Counts}
use Rattle.theory.specs.declared.Node.{Node}
use Rattle.theory.specs.declared.Node.TheVariants.{Atom, False, Implies, And, Or, Unknown}

abbrev pub class_word : Class → ℕ
class_word frozen = 0
class_word positive = 1
class_word opaque = 2

-- of the n first nodes
unfoldable pub class_words : List ℕ → List ℕ → ℕ → List ℕ
class_words nodes operands n = map class_word (node_classes nodes operands n)

-- one node's class word, from those of lower nodes
unfoldable pub node_class_word : List ℕ → List ℕ → (ℕ → ℕ) → Node → ℕ
node_class_word nodes operands v (Atom a) = 1
node_class_word nodes operands v False = 0
node_class_word nodes operands v (Implies l r) = cond (is_false (node_at nodes r)) 0 2
node_class_word nodes operands v (And s c) = greatest (map v (span operands s c))
node_class_word nodes operands v (Or s c) = greatest (map v (span operands s c))
node_class_word nodes operands v Unknown = 0

-- ---- class words are made node by node

join-word : (c d : Class) → class_word (join c d) ≡ max (class_word c) (class_word d)
join-word opaque frozen = refl
join-word opaque positive = refl
join-word opaque opaque = refl
join-word frozen frozen = refl
join-word frozen positive = refl
join-word frozen opaque = refl
join-word positive opaque = refl
join-word positive frozen = refl
join-word positive positive = refl

joined_word : (c : ℕ → Class) (xs : List ℕ) → class_word (joined (map c xs)) ≡ greatest (map (λ o. class_word (c o)) xs)
unfolding joined greatest
joined_word c [] = refl
joined_word c (x ∷ xs) = join-word (c x) (joined (map c xs)) ∙ ap (max (class_word (c x))) (joined_word c xs)

picked_word : (b : Bool) → class_word (cond b frozen opaque) ≡ cond b 0 2
picked_word true = refl
picked_word false = refl

class_word_of : (nodes operands : List ℕ) (c : ℕ → Class) (node : Node) → class_word (node_class nodes operands c node) ≡ node_class_word nodes operands (λ o. class_word (c o)) node
unfolding node_class node_class_word
class_word_of nodes operands c (Atom a) = refl
class_word_of nodes operands c False = refl
class_word_of nodes operands c (Implies l r) = picked_word (is_false (node_at nodes r))
class_word_of nodes operands c (And s n) = joined_word c (span operands s n)
class_word_of nodes operands c (Or s n) = joined_word c (span operands s n)
class_word_of nodes operands c Unknown = refl

unfoldable pub make_word : List ℕ → List ℕ → (ℕ → ℕ) → ℕ → ℕ
make_word nodes operands v k = node_class_word nodes operands v (node_at nodes k)

pub class_words_rise : (nodes operands : List ℕ) (n : ℕ) → class_words nodes operands n ≡ rising 0 (make_word nodes operands) n
unfolding class_words node_classes make_word
class_words_rise nodes operands n =
    rising-map class_word frozen (λ c k. node_class nodes operands c (node_at nodes k)) (make_word nodes operands) n
    (λ k l. class_word_of nodes operands _ (node_at nodes k))

class_word_local : (t : Counts) (nodes operands : List ℕ) (start k : ℕ) (node : Node) → NodeFormed t operands start k node → (v w : ℕ → ℕ) → ((o : ℕ) → o < k → v o ≡ w o)
    → node_class_word nodes operands v node ≡ node_class_word nodes operands w node
unfolding node_class_word
class_word_local t nodes operands start k (Atom a) f v w h = refl
class_word_local t nodes operands start k False f v w h = refl
class_word_local t nodes operands start k (Implies l r) f v w h = refl
class_word_local t nodes operands start k (And s c) f v w h = ap greatest (map_agree (λ o. o < k) v w (span operands s c) f.lower h)
class_word_local t nodes operands start k (Or s c) f v w h = ap greatest (map_agree (λ o. o < k) v w (span operands s c) f.lower h)
class_word_local t nodes operands start k Unknown f v w h = refl

-- ---- a loop that fills a buffer with them

pub classes_none : (nodes operands ds : List ℕ) → ds ≡ class_words nodes operands 0 ++ drop 0 ds
classes_none nodes operands ds = filled_none 0 (make_word nodes operands) ds ∙ rw (class_words_rise nodes operands 0)

pub classes_more : (t : Counts) (nodes operands ds xs : List ℕ) (start k x : ℕ) → NodeFormed t operands start k (node_at nodes k) → k < length ds
    → xs ≡ class_words nodes operands k ++ drop k ds → x ≡ node_class_word nodes operands (λ o. get_or xs o 0) (node_at nodes k)
    → set xs k x ≡ class_words nodes operands (k + 1) ++ drop (k + 1) ds
unfolding make_word
classes_more t nodes operands ds xs start k x f l e q =
    let e' : xs ≡ rising 0 (make_word nodes operands) k ++ drop k ds = e ∙ rw (class_words_rise nodes operands k) in
    filled_more 0 (make_word nodes operands) ds xs k x l e'
    (q ∙ class_word_local t nodes operands start k (node_at nodes k) f _ _ (λ o b. filled_at 0 (make_word nodes operands) ds xs k o e' b))
    ∙ rw (class_words_rise nodes operands (k + 1))
