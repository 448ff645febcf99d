-- The truth that a check reads of a node: that of its definition, where nothing met is out of its table.
-- Assumes nothing.
use Rattle.std.specs.Prelude.{ℕ, ◌+◌, ◌<◌, Bool, not, ◌&&◌, ◌||◌, leb, Option, Some, None}
use Rattle.std.proofs.Common.{arith, ltb-true, lt-ltb}
use Rattle.std.proofs.Math.Path.{◌≡◌, refl, ap}
use Rattle.std.proofs.Math.Bool.{true, false, cond}
use mathlib.Core.List.{List, [], ◌∷◌, map}
use Rattle.std.proofs.Math.Dec.{ltb}
use Rattle.base.specs.Tests.{both_left, both_right}
use Rattle.base.specs.Each.{Each}
use Rattle.formula.specs.Satisfaction.{Interpretation}
use Rattle.theory.specs.Admission.{all_below}
use Rattle.theory.specs.Node.{node_at, span}
use Rattle.theory.specs.NodeTruth.{all_true, any_true, node_truth}
use Rattle.theory.specs.Spans.{all_below_each}
use Rattle.theory.specs.declared.Counts.{Counts}
use Rattle.theory.specs.declared.Node.{Node}
use Rattle.theory.specs.declared.Node.TheVariants.{Atom, False, Implies, And, Or, Unknown}
use Rattle.words.specs.Changed.{unlike}
use Rattle.kept.specs.Tables.{Tables, sound_node, sound}
use Rattle.kept.specs.Seen.{group_seen, node_seen, seen_by}

-- ---- a sound node is read

module _ (k : ℕ) (v : ℕ → Bool) where
  all_seen : (os : List ℕ) → Each (λ o. o < k) os → group_seen k v false os ≡ Some (all_true (map v os))
  unfolding group_seen all_true
  all_seen [] h = refl
  all_seen (o ∷ os) h = rw (lt-ltb o k h.0) (go (v o) (all_seen os h.1))
    where
      go : (b : Bool) → group_seen k v false os ≡ Some (all_true (map v os)) → cond (unlike b false) (group_seen k v false os) (Some false) ≡ Some (b && all_true (map v os))
      go true ih = ih
      go false ih = refl

  any_seen : (os : List ℕ) → Each (λ o. o < k) os → group_seen k v true os ≡ Some (any_true (map v os))
  unfolding group_seen any_true
  any_seen [] h = refl
  any_seen (o ∷ os) h = rw (lt-ltb o k h.0) (go (v o) (any_seen os h.1))
    where
      go : (b : Bool) → group_seen k v true os ≡ Some (any_true (map v os)) → cond (unlike b true) (group_seen k v true os) (Some true) ≡ Some (b || any_true (map v os))
      go true ih = refl
      go false ih = ih

  node_seen_lem : (t : Counts) (operands : List ℕ) (I : Interpretation) (node : Node) → sound_node t operands k node ≡ true
      → node_seen t operands I v k node ≡ Some (node_truth I operands v node)
  unfolding node_seen sound_node node_truth
  node_seen_lem t operands I (Atom a) e = rw e
  node_seen_lem t operands I False e = refl
  node_seen_lem t operands I (Implies l r) e = rw e
  node_seen_lem t operands I (And s c) e =
      rw (both_left (leb (s + c) t.operands) (all_below k (span operands s c)) e)
      (all_seen (span operands s c) (all_below_each k (span operands s c) (both_right (leb (s + c) t.operands) (all_below k (span operands s c)) e)))
  node_seen_lem t operands I (Or s c) e =
      rw (both_left (leb (s + c) t.operands) (all_below k (span operands s c)) e)
      (any_seen (span operands s c) (all_below_each k (span operands s c) (both_right (leb (s + c) t.operands) (all_below k (span operands s c)) e)))
  node_seen_lem t operands I Unknown e = let z : ◌≡◌ {A = ℕ} 0 1 = cc in absurd (omega arith)

pub seen-sound : (T : Tables) (I : Interpretation) (v : ℕ → Bool) (k : ℕ) → sound T k ≡ true → seen_by T I v k ≡ Some (node_truth I T.operands v (node_at T.nodes k))
unfolding seen_by sound
seen-sound T I v k e = node_seen_lem k v T.counts T.operands I (node_at T.nodes k) e

-- ---- what is read is the node's truth

module _ (k : ℕ) (v : ℕ → Bool) (t : Bool) where
  none_not : None ≡ Some t → ◌≡◌ {A = ℕ} 0 1
  none_not e = cc

  all_is : (os : List ℕ) → group_seen k v false os ≡ Some t → all_true (map v os) ≡ t
  unfolding group_seen all_true
  all_is [] e = cc
  all_is (o ∷ os) e = go (ltb o k) (v o) e (all_is os)
    where
      go : (a b : Bool) → cond a (cond (unlike b false) (group_seen k v false os) (Some false)) None ≡ Some t → (group_seen k v false os ≡ Some t → all_true (map v os) ≡ t) → b && all_true (map v os) ≡ t
      go true true e ih = ih e
      go true false e ih = cc
      go false b e ih = absurd (omega (arith, none_not e))

  any_is : (os : List ℕ) → group_seen k v true os ≡ Some t → any_true (map v os) ≡ t
  unfolding group_seen any_true
  any_is [] e = cc
  any_is (o ∷ os) e = go (ltb o k) (v o) e (any_is os)
    where
      go : (a b : Bool) → cond a (cond (unlike b true) (group_seen k v true os) (Some true)) None ≡ Some t → (group_seen k v true os ≡ Some t → any_true (map v os) ≡ t) → b || any_true (map v os) ≡ t
      go true true e ih = cc
      go true false e ih = ih e
      go false b e ih = absurd (omega (arith, none_not e))

  guarded : (b : Bool) (o : Option Bool) → cond b o None ≡ Some t → o ≡ Some t
  guarded true o e = e
  guarded false o e = absurd (omega (arith, none_not e))

  node_is : (c : Counts) (operands : List ℕ) (I : Interpretation) (node : Node) → node_seen c operands I v k node ≡ Some t → node_truth I operands v node ≡ t
  unfolding node_seen node_truth
  node_is c operands I (Atom a) e = let p = guarded (ltb a c.atoms) (Some (I a)) e in cc
  node_is c operands I False e = cc
  node_is c operands I (Implies l r) e = let p = guarded (ltb l k && ltb r k) (Some (not (v l) || v r)) e in cc
  node_is c operands I (And s n) e = all_is (span operands s n) (guarded (leb (s + n) c.operands) (group_seen k v false (span operands s n)) e)
  node_is c operands I (Or s n) e = any_is (span operands s n) (guarded (leb (s + n) c.operands) (group_seen k v true (span operands s n)) e)
  node_is c operands I Unknown e = absurd (omega (arith, none_not e))

pub seen-is : (T : Tables) (I : Interpretation) (v : ℕ → Bool) (k : ℕ) (t : Bool) → seen_by T I v k ≡ Some t → node_truth I T.operands v (node_at T.nodes k) ≡ t
unfolding seen_by
seen-is T I v k t e = node_is k v t T.counts T.operands I (node_at T.nodes k) e

-- ---- it goes by the truths below k and the atoms

module _ (k : ℕ) (v w : ℕ → Bool) (same : (o : ℕ) → o < k → v o ≡ w o) where
  group_agree : (d : Bool) (os : List ℕ) → group_seen k v d os ≡ group_seen k w d os
  unfolding group_seen
  group_agree d [] = refl
  group_agree d (o ∷ os) = go (ltb o k) refl (group_agree d os)
    where
      go : (b : Bool) → ltb o k ≡ b → group_seen k v d os ≡ group_seen k w d os
          → cond b (cond (unlike (v o) d) (group_seen k v d os) (Some d)) None ≡ cond b (cond (unlike (w o) d) (group_seen k w d os) (Some d)) None
      go true e ih = rw (same o (ltb-true o k e), ih)
      go false e ih = refl

  pub node_seen_agree : (t : Counts) (operands : List ℕ) (I J : Interpretation) → ((a : ℕ) → a < t.atoms → I a ≡ J a) → (node : Node)
      → node_seen t operands I v k node ≡ node_seen t operands J w k node
  unfolding node_seen
  node_seen_agree t operands I J h (Atom a) = go (ltb a t.atoms) refl
    where
      go : (b : Bool) → ltb a t.atoms ≡ b → cond b (Some (I a)) None ≡ cond b (Some (J a)) None
      go true e = ap Some (h a (ltb-true a t.atoms e))
      go false e = refl
  node_seen_agree t operands I J h False = refl
  node_seen_agree t operands I J h (Implies l r) = go (ltb l k) refl (ltb r k) refl
    where
      go : (b : Bool) → ltb l k ≡ b → (c : Bool) → ltb r k ≡ c → cond (b && c) (Some (not (v l) || v r)) None ≡ cond (b && c) (Some (not (w l) || w r)) None
      go true p true q = rw (same l (ltb-true l k p), same r (ltb-true r k q))
      go true p false q = refl
      go false p c q = refl
  node_seen_agree t operands I J h (And s c) = rw (group_agree false (span operands s c))
  node_seen_agree t operands I J h (Or s c) = rw (group_agree true (span operands s c))
  node_seen_agree t operands I J h Unknown = refl

pub seen_agree : (T : Tables) (I J : Interpretation) (v w : ℕ → Bool) (k : ℕ) → ((a : ℕ) → a < T.counts.atoms → I a ≡ J a) → ((o : ℕ) → o < k → v o ≡ w o) → seen_by T I v k ≡ seen_by T J w k
unfolding seen_by
seen_agree T I J v w k h same = node_seen_agree k v w same T.counts T.operands I J h (node_at T.nodes k)
