-- One step on an evaluation that summarises its truths.
-- Assumes nothing.
use Rattle.std.specs.Prelude.{ℕ, ◌<◌, ◌≡◌, Bool, not, ◌&&◌, ◌||◌, List, Some}
use Rattle.std.proofs.Common.{arith, ap₂, ◌∙◌, lt-ltb}
use Rattle.std.proofs.Math.Path.{refl, ap, sym, fun_ext}
use Rattle.std.proofs.Math.Bool.{true, false, or-false}
use Rattle.std.proofs.Math.Dec.{ltb}
use Rattle.base.specs.Each.{Each, each_map, map_agree}
use Rattle.base.specs.Rising.{rising_step}
use Rattle.formula.specs.Satisfaction.{Interpretation}
use Rattle.theory.specs.Node.{node_at, span, operands_of}
use Rattle.theory.specs.NodeTruth.{all_true, any_true, node_truth, node_truths}
use Rattle.theory.specs.declared.Node.{Node}
use Rattle.theory.specs.declared.Node.TheVariants.{Atom, False, Implies, And, Or, Unknown}
use Rattle.words.specs.Changed.{unlike}
use Rattle.kept.specs.Tabulate.{updated, updated_same}
use Rattle.kept.proofs.CountedSetLaws.{unlike_false, unlike_true}
use Rattle.kept.specs.Worklist.{Worklist, Lists}
use Rattle.kept.proofs.WorklistLaws.{lists_agree, first-is, first_left}
use Rattle.kept.specs.Tables.{Tables, node_count, operands_at, sound}
use Rattle.kept.specs.Evaluation.{Evaluation, truth_at, present, held, truth, support, false_root, summary}
use Rattle.kept.specs.Step.{took, settled, seen, step_at, step}
use Rattle.kept.specs.Consistent.{Consistent, operands_lower, atom_lower}
use Rattle.kept.specs.SeenLaws.{seen-sound}
use Rattle.kept.proofs.HeldLaws.{truth-held, present-held, truths_held}
use Rattle.kept.specs.PlainWalk.{among, truth_by, waiting_after}
use Rattle.kept.proofs.ReaderLaws.{readers-told}

-- ---- a node's truth goes by its atom, or by the truth of its operands

node_agree : (I J : Interpretation) (operands : List ℕ) (f g : ℕ → Bool) (node : Node) → ((a : ℕ) → node ≡ Atom a → I a ≡ J a)
    → Each (λ o. f o ≡ g o) (operands_of operands node) → node_truth I operands f node ≡ node_truth J operands g node
unfolding node_truth operands_of
node_agree I J operands f g (Atom a) h e = h a refl
node_agree I J operands f g False h e = refl
node_agree I J operands f g (Implies l r) h e = ap₂ (λ x y. not x || y) e.0 e.1.0
node_agree I J operands f g (And s c) h e = ap all_true (map_agree (λ o. f o ≡ g o) f g (span operands s c) e (λ o p. p))
node_agree I J operands f g (Or s c) h e = ap any_true (map_agree (λ o. f o ≡ g o) f g (span operands s c) e (λ o p. p))
node_agree I J operands f g Unknown h e = refl

pub truth_agree : (T : Tables) (I J : Interpretation) (f g : ℕ → Bool) (k : ℕ) → ((a : ℕ) → node_at T.nodes k ≡ Atom a → I a ≡ J a)
    → Each (λ o. f o ≡ g o) (operands_at T k) → truth_by T I f k ≡ truth_by T J g k
unfolding operands_at
truth_agree T I J f g k h e = node_agree I J T.operands f g (node_at T.nodes k) h e

-- of a sound node, by those below it
pub truth_lower : (T : Tables) (I : Interpretation) (f g : ℕ → Bool) (k : ℕ) → sound T k ≡ true → ((o : ℕ) → o < k → f o ≡ g o) → truth_by T I f k ≡ truth_by T I g k
truth_lower T I f g k s h = truth_agree T I I f g k (λ a e. refl) (each_map (λ o. o < k) (λ o. f o ≡ g o) (operands_at T k) h (operands_lower T k s))

-- the truth of a sound node meets its equation
pub truth_step : (T : Tables) (I : Interpretation) (k : ℕ) → k < node_count T → sound T k ≡ true → truth T I k ≡ truth_by T I (truth T I) k
unfolding truth node_truths
truth_step T I k l s = rising_step false (truth_by T I) (node_count T) k l (λ f g h. truth_lower T I f g k s h)

module _ (T : Tables) (good : Consistent T) (v w c : ℕ → Bool) (L : Worklist) (x : Lists (node_count T) w L) where
  abbrev start : Evaluation
  start = held T v L (support T v) c (false_root T v)

  -- what the evaluation shows of a node is its truth by the functions it holds
  seen-held : (k : ℕ) → k < node_count T → seen T start k ≡ Some (truth_by T c v k)
  unfolding seen
  seen-held k l =
      seen-sound T (present start) (truth_at start) k (good.node k l)
      ∙ ap Some (truth_agree T (present start) c (truth_at start) v k
      (λ a i. present-held T v L (support T v) c (false_root T v) a (atom_lower T k a (good.node k l) i))
      (each_map (λ o. o < k) (λ o. truth_at start o ≡ v o) (operands_at T k) (λ o i. truth-held T v L (support T v) c (false_root T v) o (omega arith)) (operands_lower T k (good.node k l))))

  -- the worklist without node k
  module _ (k : ℕ) (t : Bool) (l : k < node_count T) (rest : Worklist) (without : Lists (node_count T) (updated w k false) rest) where
    abbrev off : ℕ → Bool
    off = updated w k false

    abbrev old : Evaluation
    old = held T v rest (support T v) c (false_root T v)

    abbrev u : ℕ → Bool
    u = updated v k t

    -- node k, off the worklist, becomes t
    settled-held : (L' : Worklist) × Lists (node_count T) (waiting_after T v w k t) L' × (settled T k t old ≡ took k (summary T u L' c))
    unfolding settled summary waiting_after
    settled-held = go (unlike (v k) t) refl
      where
        go : (b : Bool) → unlike (v k) t ≡ b
            → (L' : Worklist) × Lists (node_count T) (λ j. off j || b && among k (operands_at T j)) L' × (settled T k t old ≡ took k (held T u L' (support T u) c (false_root T u)))
        go true e =
            let r = readers-told T good k t v (unlike_true (v k) t e) off rest c without in (
              r.0,
              lists_agree (node_count T) (λ j. off j || ltb j (node_count T) && among k (operands_at T j)) (λ j. off j || true && among k (operands_at T j)) r.0 (λ j i. rw (lt-ltb j (node_count T) i)) r.2,
              rw (truth-held T v rest (support T v) c (false_root T v) k l, e, good.readers k l, truths_held T v rest (support T v) c (false_root T v) k t, r.1),
            )
        go false e =
            let same : u ≡ v = fun_ext (updated_same v k t (unlike_false (v k) t e)) in (
              rest,
              lists_agree (node_count T) off (λ j. off j || false && among k (operands_at T j)) rest (λ j i. sym (or-false (off j))) without,
              rw (truth-held T v rest (support T v) c (false_root T v) k l, e, same),
            )

  -- a step takes the lowest node of the worklist and gives it its truth
  pub step_summary : (k : ℕ) → k < node_count T → w k ≡ true → ((j : ℕ) → j < k → w j ≡ false)
      → (L' : Worklist) × Lists (node_count T) (waiting_after T v w k (truth_by T c v k)) L'
      × (step T (summary T v L c) ≡ took k (summary T (updated v k (truth_by T c v k)) L' c))
  unfolding step step_at summary held
  step_summary k l m h =
      let t = truth_by T c v k in
      let first = first-is w (node_count T) k L x l m h in
      let f = first_left w (node_count T) k L x l m h in
      let r = settled-held k t l f.0 f.2 in
      (r.0, r.1, ap (step_at T start) first ∙ rw (lt-ltb k (node_count T) l, seen-held k l, f.1) r.2)
