-- Once all roots are admitted: derived ranks are the least that the rank check accepts, and a cycle is reported exactly if it accepts none.
-- Assumes nothing.
use Rattle.std.specs.Prelude.{Option, Some, None, Result, Ok, Err}
use Prim.Native.Nat.{ℕ, zero, suc, ◌+◌, ◌<◌, ◌≤◌}
use native.Mathlib.Omega.{arith}
use mathlib.Core.Path.{◌≡◌, refl, sym, ◌∙◌}
use mathlib.Core.Logic.{◌↔◌, ◌⊎◌, inl, inr, ⊎_elim}
use mathlib.Core.Bool.{Bool, true, false, not, cond, ◌&&◌, false≢true}
use mathlib.Core.List.Memᴰ
use mathlib.Core.List.{List, [], ◌∷◌, map, Memᴰ}
use lib.Dec.{eqb, ltb}
use lib.ListN.{length, get_or}
use borrow.Author.Tests.{eqb-true, eq-eqb, ltb-true, lt-ltb}
use Rattle.base.specs.Tests.{both_left, both_right, equal_or}
use Rattle.base.specs.Each.{Each, at_each, each_map}
use Rattle.base.specs.Gather.{gather}
use Rattle.graph.specs.Edge.{Edge, edge, cost, Rises}
use Rattle.graph.specs.Accepts.{Accepts}
use Rattle.graph.specs.Derive.{Derived, ranks, cycle, derive}
use Rattle.graph.specs.Right.{Least, Stuck}
use Rattle.graph.specs.Longest.{Longest}
use Rattle.graph.specs.Cycle.{LowestBehind}
use Rattle.graph.specs.Grounded.{Grounded}
use Rattle.graph.proofs.Ranks as graph
use Rattle.graph.proofs.Longest as paths
use Rattle.graph.proofs.Cycles as cycles
use Rattle.formula.specs.Class.{Class, positive, frozen, opaque, class, join}
use Rattle.formula.specs.Rank.{is_positive, highest}
use Rattle.theory.specs.Node.{node_at, span}
use Rattle.theory.specs.NodeClass.{is_false, joined, node_class}
use Rattle.theory.specs.NodeFormula.{formula}
use Rattle.theory.specs.NodeRank.{node_highests}
use Rattle.theory.specs.Admission.{all_below, admitted}
use Rattle.theory.specs.WellFormed.{NodeFormed, NodeTables, WellFormed}
use Rattle.theory.specs.Spans.{all_below_each, each_all_below}
use Rattle.theory.specs.Refusals.{not_both, none_refused, all_admitted}
use Rattle.theory.proofs.Meaning.{class_step, highest_at}
use Rattle.theory.specs.declared.Counts.{Counts}
use Rattle.theory.specs.declared.Node.{Node}
use Rattle.theory.specs.declared.Node.TheVariants.{Atom, False, Implies, And, Or, Unknown}
use Rattle.theory.specs.declared.Refusal.TheVariants.{RankShape, RankOrder}
use Rattle.compile.specs.Producer.{produced}
use Rattle.compile.specs.declared.Producer.{Producer}
use Rattle.compile.proofs.RootFormula.{producer_bounded}
use Rattle.ranks.specs.Dependency as dependency
use Rattle.ranks.specs.Dependency.{only, operand_edges, node_edges, edges_into, edges_of, dependencies}
use Rattle.ranks.specs.Classed.{Classed}
use Rattle.ranks.specs.RankCheck.{body_order, produced_order, order_at, order_by, rank_order, rank_check}
use Rattle.ranks.proofs.Edges.{Group, of_and, of_or, Rule, dependencies_each, each_rule}
use Rattle.ranks.proofs.Accepted.{positive_is, vertex, vertex_atom, order_accepts, high_below}
use Rattle.theory.specs.declared.Refusal.{Refusal}

graph_strict : {A : ℕ} (s a : ℕ) → a < A → cost A (edge s a) ≡ 1
graph_strict {A} s a l = rw (lt-ltb a A l)

group-lower : (t : Counts) (operands : List ℕ) (start k : ℕ) (node : Node) (os : List ℕ) → Group operands node os → NodeFormed t operands start k node → Each (λ o. o < k) os
group-lower t operands start k node os of_and w = w.lower
group-lower t operands start k node os of_or w = w.lower

-- ---- a Positive group has a Positive operand

join-positive : (c d : Class) → is_positive (join c d) ≡ true → (is_positive c ≡ true) ⊎ (is_positive d ≡ true)
join-positive opaque d e = inl e
join-positive frozen d e = inr e
join-positive positive d e = inl refl

some-positive : (c : ℕ → Class) (os : List ℕ) → is_positive (joined (map c os)) ≡ true → (o : ℕ) × Memᴰ o os × (is_positive (c o) ≡ true)
unfolding joined
some-positive c [] e = absurd (false≢true e)
some-positive c (o ∷ os) e = ⊎_elim (λ p. (o, Memᴰ.head refl, p)) (λ p. later (some-positive c os p)) (join-positive (c o) (joined (map c os)) e)
  where
    later : (p : ℕ) × Memᴰ p os × (is_positive (c p) ≡ true) → (p : ℕ) × Memᴰ p (o ∷ os) × (is_positive (c p) ≡ true)
    later w = (w.0, Memᴰ.tail w.1, w.2)

each_in : (P : ℕ → Type 0) (o : ℕ) (os : List ℕ) → Each P os → Memᴰ o os → P o
each_in P o os h (Memᴰ.head {xs = xs} e) = rw e h.0
each_in P o os h (Memᴰ.tail {xs = xs} m) = each_in P o xs h.1 m

kept : (b : Bool) {e : Edge} → b ≡ true → Memᴰ e (only b e)
unfolding only
kept true p = Memᴰ.head refl
kept false p = absurd (false≢true p)

operand_in : (A : ℕ) (classes : List ℕ) (v o : ℕ) (os : List ℕ) → Memᴰ o os → dependency.positive classes o ≡ true → Memᴰ (edge (A + o) v) (operand_edges A classes v os)
unfolding operand_edges only
operand_in A classes v o os (Memᴰ.head {x} {xs} e) p = rw (← e) (Memᴰ.append_left (operand_edges A classes v xs) (kept (dependency.positive classes o) p))
operand_in A classes v o os (Memᴰ.tail {x} {xs} m) p = Memᴰ.append_right (only (dependency.positive classes x) (edge (A + x) v)) (operand_in A classes v o xs m p)

group_in : (A : ℕ) (operands classes : List ℕ) (k : ℕ) (node : Node) (os : List ℕ) (d : Edge) → Group operands node os → dependency.positive classes k ≡ true
    → Memᴰ d (operand_edges A classes (A + k) os) → Memᴰ d (node_edges A operands classes k node)
unfolding node_edges
group_in A operands classes k node os d of_and p m = rw p m
group_in A operands classes k node os d of_or p m = rw p m

gather_in : (f : ℕ → List Edge) (n k : ℕ) (d : Edge) → k < n → Memᴰ d (f k) → Memᴰ d (gather f n)
unfolding gather
gather_in f zero k d l m = absurd (omega arith)
gather_in f (suc n) k d l m =
    ⊎_elim (λ e. Memᴰ.append_right (gather f n) (rw e at m)) (λ ne. Memᴰ.append_left (f n) (gather_in f n k d (omega arith) m)) (equal_or k n)

module _ (t : Counts) (nodes operands classes roots : List ℕ) (well : WellFormed t nodes operands roots) (tables : NodeTables t nodes operands) (classed : Classed t nodes operands classes) where
  -- ---- the dependencies are edges that rise, and each source that is no atom has an edge into it

  rises : Each (Rises t.atoms (t.atoms + t.nodes)) (dependencies t nodes operands classes roots)
  rises =
      dependencies_each (Rises t.atoms (t.atoms + t.nodes)) t nodes operands classes roots
      (λ k l. record {
        by_atom = λ a e.
            let low : a < t.atoms = rw e at (well.node k l) in
            record { source_in = omega arith; target_in = omega arith; up = λ h. omega arith };
        by_group = λ os g p.
            each_map (λ o. o < k) (λ o. dependency.positive classes o ≡ true → Rises t.atoms (t.atoms + t.nodes) (edge (t.atoms + o) (t.atoms + k))) os
            (λ o q s. record { source_in = omega arith; target_in = omega arith; up = λ h. omega arith })
            (group-lower t operands _ k (node_at nodes k) os g (well.node k l));
      })
      (λ i l b p r q.
      let w = producer_bounded t nodes operands classes tables (get_or roots i 0) (well.root i l) p r.is in
      record { source_in = omega (arith, w.body_in_lem, r.body); target_in = omega (arith, w.head_in); up = λ h. absurd (omega (arith, w.head_in)) })

  Fed : ℕ → Type 0
  Fed s = (d : Edge) × Memᴰ d (dependencies t nodes operands classes roots) × (d.target ≡ s)

  fed_in : (k : ℕ) → k < t.nodes → (d : Edge) → Memᴰ d (node_edges t.atoms operands classes k (node_at nodes k)) → d.target ≡ t.atoms + k → Fed (t.atoms + k)
  unfolding dependencies edges_into Fed
  fed_in k l d m e =
      (d, Memᴰ.append_left (gather (edges_of t.atoms nodes operands classes roots) t.roots) (gather_in (edges_into t.atoms nodes operands classes) t.nodes k d l m), e)

  fed : (k : ℕ) → k < t.nodes → dependency.positive classes k ≡ true → Fed (t.atoms + k)
  unfolding node_edges node_class
  fed k l p = go (node_at nodes k) refl
    where
      pos : is_positive (class (formula t nodes operands k)) ≡ true
      pos = sym (positive_is t nodes operands classes roots well tables classed k l) ∙ p

      stepped : is_positive (node_class nodes operands (λ o. class (formula t nodes operands o)) (node_at nodes k)) ≡ true
      stepped = rw (class_step t nodes operands roots well k l) at pos

      group : (os : List ℕ) → Each (λ o. o < k) os → is_positive (joined (map (λ o. class (formula t nodes operands o)) os)) ≡ true
          → (d : Edge) × Memᴰ d (operand_edges t.atoms classes (t.atoms + k) os) × (d.target ≡ t.atoms + k)
      group os lower q =
          let w = some-positive (λ o. class (formula t nodes operands o)) os q in
          let low : w.0 < k = each_in (λ o. o < k) w.0 os lower w.1 in
          (edge (t.atoms + w.0) (t.atoms + k), operand_in t.atoms classes (t.atoms + k) w.0 os w.1 (positive_is t nodes operands classes roots well tables classed w.0 (omega arith) ∙ w.2), refl)

      go : (node : Node) → node_at nodes k ≡ node → Fed (t.atoms + k)
      go (Atom a) e = fed_in k l (edge a (t.atoms + k)) (rw e (Memᴰ.head refl)) refl
      go False e = absurd (false≢true (rw e at stepped))
      go (Implies x y) e = absurd (not-positive (is_false (node_at nodes y)) (rw e at stepped))
        where
          not-positive : (b : Bool) → is_positive (cond b frozen opaque) ≡ true → ⊥
          not-positive true q = false≢true q
          not-positive false q = false≢true q
      go (And s c) e =
          let w = group (span operands s c) (rw e at (well.node k l)).lower (rw e at stepped) in
          fed_in k l w.0 (group_in t.atoms operands classes k (node_at nodes k) (span operands s c) w.0 (rw e of_and) p w.1) w.2
      go (Or s c) e =
          let w = group (span operands s c) (rw e at (well.node k l)).lower (rw e at stepped) in
          fed_in k l w.0 (group_in t.atoms operands classes k (node_at nodes k) (span operands s c) w.0 (rw e of_or) p w.1) w.2
      go Unknown e = absurd (rw e at (well.node k l))

  grounded : Grounded t.atoms (dependencies t nodes operands classes roots)
  unfolding Fed
  grounded =
      dependencies_each (λ e. t.atoms ≤ e.source → Fed e.source) t nodes operands classes roots
      (λ k l. record {
        by_atom = λ a e h. let low : a < t.atoms = rw e at (well.node k l) in absurd (omega arith);
        by_group = λ os g p.
            each_map (λ o. o < k) (λ o. dependency.positive classes o ≡ true → t.atoms ≤ t.atoms + o → Fed (t.atoms + o)) os
            (λ o q s h. fed o (omega arith) s) (group-lower t operands _ k (node_at nodes k) os g (well.node k l));
      })
      (λ i l b p r q h.
      let w = producer_bounded t nodes operands classes tables (get_or roots i 0) (well.root i l) p r.is in
      fed b (omega (arith, w.body_in_lem, r.body)) q)

  -- ---- what the check asks

  record Checked (rs : List ℕ) : Type 0 where
    pub long : length rs ≡ t.atoms
    pub low : Each (λ r. r < t.atoms) rs
    pub order : (i : ℕ) → i < t.roots → order_at nodes operands classes roots (node_highests (λ a. get_or rs a 0) nodes operands t.nodes) rs i ≡ admitted

  checked : (rs : List ℕ) → rank_check t nodes operands classes roots rs ≡ admitted → Checked rs
  unfolding rank_check rank_order order_by
  checked rs e = go (eqb (length rs) t.atoms && all_below t.atoms rs) refl e
    where
      go : (c : Bool) → (eqb (length rs) t.atoms && all_below t.atoms rs) ≡ c → cond c (rank_order t nodes operands classes roots rs) (Err RankShape) ≡ admitted → Checked rs
      go true i q =
          record {
            long = eqb-true (length rs) t.atoms (both_left (eqb (length rs) t.atoms) (all_below t.atoms rs) i);
            low = all_below_each t.atoms rs (both_right (eqb (length rs) t.atoms) (all_below t.atoms rs) i);
            order = λ k l. none_refused _ 0 t.roots q k (omega arith) (omega arith);
          }
      go false i q = absurd (not_both _ q)

  checks : (rs : List ℕ) → Checked rs → rank_check t nodes operands classes roots rs ≡ admitted
  unfolding rank_check rank_order order_by
  checks rs c =
      rw (eq-eqb (length rs) t.atoms c.long, each_all_below t.atoms rs c.low)
      (all_admitted _ 0 t.roots (λ i a b. c.order i (omega arith)))

  module _ (rs : List ℕ) where
    body_ordered : (head b : ℕ) → body_order classes (node_highests (λ a. get_or rs a 0) nodes operands t.nodes) rs head (suc b) ≡ admitted → dependency.positive classes b ≡ true
        → highest (λ a. get_or rs a 0) (formula t nodes operands b) < get_or rs head 0
    unfolding body_order
    body_ordered head b e p = rw (highest_at t nodes operands roots well (λ a. get_or rs a 0) b) (go (ltb (get_or (node_highests (λ a. get_or rs a 0) nodes operands t.nodes) b 0) (get_or rs head 0)) refl)
      where
        go : (c : Bool) → ltb (get_or (node_highests (λ a. get_or rs a 0) nodes operands t.nodes) b 0) (get_or rs head 0) ≡ c → get_or (node_highests (λ a. get_or rs a 0) nodes operands t.nodes) b 0 < get_or rs head 0
        go true i = ltb-true _ _ i
        go false i = absurd (not_both (RankOrder head) (simp (p, i) at e))

    ordered_body : (head b : ℕ) → (dependency.positive classes b ≡ true → highest (λ a. get_or rs a 0) (formula t nodes operands b) < get_or rs head 0)
        → body_order classes (node_highests (λ a. get_or rs a 0) nodes operands t.nodes) rs head (suc b) ≡ admitted
    unfolding body_order
    ordered_body head b h = go (dependency.positive classes b) refl
      where
        go : (c : Bool) → dependency.positive classes b ≡ c
            → cond (c && not (ltb (get_or (node_highests (λ a. get_or rs a 0) nodes operands t.nodes) b 0) (get_or rs head 0))) (Err (RankOrder head)) admitted ≡ admitted
        go true i = rw (lt-ltb _ _ (rw (highest_at t nodes operands roots well (λ a. get_or rs a 0) b) at (h i)))
        go false i = refl

    -- a rule with a Positive body is in order
    pub rule_ordered : rank_check t nodes operands classes roots rs ≡ admitted → (i : ℕ) → i < t.roots → (b : ℕ) (p : Producer)
        → Rule (produced nodes operands classes (get_or roots i 0)) b p → dependency.positive classes b ≡ true → highest (λ a. get_or rs a 0) (formula t nodes operands b) < get_or rs p.head 0
    unfolding order_at produced_order
    rule_ordered e i l b p r = body_ordered p.head b (rw (r.is, r.body) at ((checked rs e).order i l))

    accepted_vertices : rank_check t nodes operands classes roots rs ≡ admitted → Accepts t.atoms (vertex t nodes operands classes roots well tables classed (λ a. get_or rs a 0)) (dependencies t nodes operands classes roots)
    accepted_vertices e = order_accepts t nodes operands classes roots well tables classed (λ a. get_or rs a 0) (rule_ordered e)

  -- ---- the theorem

  pub derived_accepted : (rs : List ℕ) → derive t.atoms (t.atoms + t.nodes) (dependencies t nodes operands classes roots) ≡ ranks rs
      → rank_check t nodes operands classes roots rs ≡ admitted
  unfolding order_at produced_order body_order
  derived_accepted rs e =
      checks rs (record {
        long = best.long;
        low = at_each (λ r. r < t.atoms) 0 rs (λ a l. graph.rank_below t.atoms (t.atoms + t.nodes) (dependencies t nodes operands classes roots) (omega arith) rises grounded rs e a (omega (arith, best.long)));
        order = λ i l. root i l (produced nodes operands classes (get_or roots i 0)) refl;
      })
    where
      best : Least t.atoms (dependencies t nodes operands classes roots) rs
      best = graph.ranks_right t.atoms (t.atoms + t.nodes) (dependencies t nodes operands classes roots) (omega arith) rises rs e

      rule : (i : ℕ) → i < t.roots → (b : ℕ) (p : Producer) → Rule (produced nodes operands classes (get_or roots i 0)) b p → dependency.positive classes b ≡ true
          → highest (λ a. get_or rs a 0) (formula t nodes operands b) < get_or rs p.head 0
      rule i l b p r q =
          let w = producer_bounded t nodes operands classes tables (get_or roots i 0) (well.root i l) p r.is in
          omega (
            arith,
            best.atoms p.head w.head_in,
            high_below t nodes operands classes roots well tables classed (λ a. get_or rs a 0) best.rank best.accepted (λ a h. sym (best.atoms a h)) t.nodes b (omega (arith, w.body_in_lem, r.body)) (omega arith),
            each_rule _ t nodes operands classes roots best.accepted i l b p r q,
            graph_strict (t.atoms + b) p.head w.head_in,
          )

      root : (i : ℕ) → i < t.roots → (m : Result (Option Producer) Refusal) → produced nodes operands classes (get_or roots i 0) ≡ m
          → produced_order classes (node_highests (λ a. get_or rs a 0) nodes operands t.nodes) rs m ≡ admitted
      root i l (Ok None) q = refl
      root i l (Ok (Some p)) q = body p.body refl
        where
          body : (b : ℕ) → p.body ≡ b → body_order classes (node_highests (λ a. get_or rs a 0) nodes operands t.nodes) rs p.head b ≡ admitted
          body zero s = refl
          body (suc b) s = ordered_body rs p.head b (rule i l b p (record { is = q; body = s }))
      root i l (Err r) q = refl

  -- the ranks derived are the least that the check accepts
  pub derived_least : (rs qs : List ℕ) → derive t.atoms (t.atoms + t.nodes) (dependencies t nodes operands classes roots) ≡ ranks rs
      → rank_check t nodes operands classes roots qs ≡ admitted → (a : ℕ) → a < t.atoms → get_or rs a 0 ≤ get_or qs a 0
  derived_least rs qs e q a l =
      let best = graph.ranks_right t.atoms (t.atoms + t.nodes) (dependencies t nodes operands classes roots) (omega arith) rises rs e in
      omega (
        arith,
        best.atoms a l,
        best.least (vertex t nodes operands classes roots well tables classed (λ a. get_or qs a 0)) (accepted_vertices qs q) a,
        vertex_atom t nodes operands classes roots well tables classed (λ a. get_or qs a 0) a l,
      )

  -- each is the most producer steps on a path into its atom
  pub derived_longest : (rs : List ℕ) → derive t.atoms (t.atoms + t.nodes) (dependencies t nodes operands classes roots) ≡ ranks rs
      → (a : ℕ) → a < t.atoms → Longest t.atoms (dependencies t nodes operands classes roots) a (get_or rs a 0)
  derived_longest rs e a l = paths.longest t.atoms (t.atoms + t.nodes) (dependencies t nodes operands classes roots) rs e (omega arith) rises a l

  -- a cycle: no ranks are accepted, and the atom named is the lowest with predecessors left over
  pub cycle_stuck : (a : ℕ) → derive t.atoms (t.atoms + t.nodes) (dependencies t nodes operands classes roots) ≡ cycle a
      → Stuck t.atoms (t.atoms + t.nodes) (dependencies t nodes operands classes roots) a
  cycle_stuck a e = graph.cycle_right t.atoms (t.atoms + t.nodes) (dependencies t nodes operands classes roots) (omega arith) rises a e

  -- it is the lowest on or behind a positive cycle, and no other is named
  pub cycle_names : (a : ℕ) → (derive t.atoms (t.atoms + t.nodes) (dependencies t nodes operands classes roots) ≡ cycle a)
      ↔ LowestBehind t.atoms (dependencies t nodes operands classes roots) a
  cycle_names a = cycles.cycle_names t.atoms (t.atoms + t.nodes) (dependencies t nodes operands classes roots) (omega arith) rises a

  pub cycle_exactly : ((a : ℕ) × (derive t.atoms (t.atoms + t.nodes) (dependencies t nodes operands classes roots) ≡ cycle a))
      ↔ ((rs : List ℕ) → rank_check t nodes operands classes roots rs ≡ admitted → ⊥)
  cycle_exactly = (λ w rs q. (cycle_stuck w.0 w.1).none _ (accepted_vertices rs q), λ f. go f (derive t.atoms (t.atoms + t.nodes) (dependencies t nodes operands classes roots)) refl)
    where
      go : ((rs : List ℕ) → rank_check t nodes operands classes roots rs ≡ admitted → ⊥)
          → (d : Derived) → derive t.atoms (t.atoms + t.nodes) (dependencies t nodes operands classes roots) ≡ d
          → (a : ℕ) × (derive t.atoms (t.atoms + t.nodes) (dependencies t nodes operands classes roots) ≡ cycle a)
      go f (ranks rs) e = absurd (f rs (derived_accepted rs e))
      go f (cycle a) e = (a, e)
