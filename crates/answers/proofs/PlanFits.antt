-- The answer of every planning call fits its word, whatever is lent.
-- Assumes nothing.
use Rattle.std.specs.Prelude.{Option, Some, None, Result, Ok, Err}
use Prim.Native.Nat.{ℕ, zero, suc, ◌+◌, ◌*◌, ◌<◌, ◌≤◌}
use native.Mathlib.Omega.{arith}
use mathlib.Core.Path.{◌≡◌, refl}
use mathlib.Core.Bool.{Bool, true, false, cond, not, ◌&&◌}
use mathlib.Core.List.{List}
use lib.Dec.{eqb, ltb, leb}
use lib.ListN.{length, get_or, take}
use lib.Seq.{length-take-le}
use borrow.Author.Tests.{ltb-true}
use Rattle.graph.specs.Derive.{Derived, ranks, cycle, table, lowest_left, derive}
use Rattle.graph.specs.Depth.{depth}
use Rattle.theory.specs.Admission.{all_below, span_start, group_admission, node_admission, root_admission, nodes_admission, roots_admission, admission, or_else, Admission, admitted}
use Rattle.theory.specs.Limits.{Limited, limits_of}
use Rattle.theory.specs.LimitsLaws.{within_limits}
use Rattle.theory.specs.Node.{node_at, span}
use Rattle.theory.specs.NodeRank.{node_highests}
use Rattle.theory.specs.Refusal.{told}
use Rattle.theory.specs.Refusals.{or_else_left, or-else-right}
use Rattle.theory.specs.WellFormed.{NodeTables, WellFormed}
use Rattle.theory.specs.declared.Counts.{Counts}
use Rattle.theory.specs.declared.Node.{Node}
use Rattle.theory.specs.declared.Node.TheVariants.{Atom, False, Implies, And, Or, Unknown}
use Rattle.theory.specs.declared.Refusal.TheVariants.{BadKind, BadAtom, BadOperand, NoOperands, BadRoot, ShortBuffer, PositiveCycle, RankShape, RankOrder}
use Rattle.theory.proofs.Admitted.{admitted_formed}
use Rattle.compile.specs.Producer.{produced}
use Rattle.compile.specs.Producers.{roots_supported, supported_at, producers_before}
use Rattle.compile.specs.ProducersLaws.{few-producers}
use Rattle.theory.specs.Formed.{left_below}
use Rattle.compile.proofs.RootFormula.{producer_bounded}
use Rattle.compile.proofs.Unsupported.{root_only}
use Rattle.ranks.specs.Dependency.{positive, dependencies}
use Rattle.ranks.specs.RankCheck.{body_order, produced_order, order_at, order_by, rank_order, rank_check}
use Rattle.plan.specs.Buffers.{readers_length, work_length, short_buffer, long_enough}
use Rattle.plan.specs.Judged.{classes, judged, derived, acyclic, plan_judged, certify_judged}
use Rattle.plan.specs.Outcome.{producers_of, planned, lengths, plan_outcome, certify_outcome}
use Rattle.plan.specs.declared.Lengths.{Lengths}
use Rattle.answers.specs.Fits.{RefusalFits, PlanningFits}
use Rattle.answers.proofs.Bounded.{Fitting, fitting_admitted, fitting_refused, fitting_then, fitting_test, fitting_passed, fitting_first, fitting_limits}
use Rattle.theory.specs.declared.Refusal.{Refusal}
use Rattle.compile.specs.declared.Producer.{Producer}

buffer_fits : (b : ℕ) → b < 4294967296 → RefusalFits (ShortBuffer b)
unfolding told
buffer_fits b l = record { place = l; body = omega arith }

short_fits : (t : Counts) (l : Lengths) → Fitting (short_buffer t l)
unfolding short_buffer
short_fits t l =
    fitting_test (ltb l.nodes (3 * t.nodes)) (ShortBuffer 1) _ (buffer_fits 1 (omega arith))
    (fitting_test (ltb l.operands t.operands) (ShortBuffer 2) _ (buffer_fits 2 (omega arith))
    (fitting_test (ltb l.roots t.roots) (ShortBuffer 3) _ (buffer_fits 3 (omega arith))
    (fitting_test (ltb l.producers (4 * t.roots)) (ShortBuffer 4) _ (buffer_fits 4 (omega arith))
    (fitting_test (ltb l.ranks t.atoms) (ShortBuffer 5) _ (buffer_fits 5 (omega arith))
    (fitting_test (ltb l.readers (readers_length t)) (ShortBuffer 6) _ (buffer_fits 6 (omega arith))
    (fitting_test (ltb l.work (work_length t)) (ShortBuffer 8) admitted (buffer_fits 8 (omega arith)) fitting_admitted))))))

-- ---- 1, 6, 4, 5 name a node, 7 a root position

module _ (t : Counts) (operands : List ℕ) (start k : ℕ) (low : k < 4294967296) where
  group_fits : (s c : ℕ) → Fitting (group_admission t.operands operands start k s c)
  unfolding group_admission told
  group_fits s c =
      fitting_test (eqb c 0) (NoOperands k) _ (record { place = low; body = omega arith })
      (fitting_passed (eqb s start && leb (s + c) t.operands && all_below k (span operands s c)) (BadOperand k) (record { place = low; body = omega arith }))

  node_fits : (n : Node) → Fitting (node_admission t operands start k n)
  unfolding node_admission told
  node_fits (Atom a) = fitting_passed (ltb a t.atoms) (BadAtom k) (record { place = low; body = omega arith })
  node_fits False = fitting_admitted
  node_fits (Implies x y) = fitting_passed (ltb x k && ltb y k) (BadOperand k) (record { place = low; body = omega arith })
  node_fits (And s c) = group_fits s c
  node_fits (Or s c) = group_fits s c
  node_fits Unknown = fitting_refused (BadKind k) (record { place = low; body = omega arith })

module _ (t : Counts) (nodes operands roots : List ℕ) where
  root_fits : Limited t → (i : ℕ) → i < t.roots → Fitting (root_admission t roots i)
  unfolding root_admission told
  root_fits m i l = fitting_passed (ltb (get_or roots i 0) t.nodes) (BadRoot i) (record { place = omega (arith, l, m.roots); body = omega arith })

  tables_fit : Limited t → Fitting (admission t nodes operands roots)
  unfolding admission nodes_admission roots_admission
  tables_fit m =
      fitting_then _ _
      (fitting_first (λ k. node_admission t operands (span_start nodes k) k (node_at nodes k)) 0 t.nodes (λ k l. node_fits t operands (span_start nodes k) k (omega (arith, l, m.nodes)) (node_at nodes k)))
      (λ e. fitting_first (root_admission t roots) 0 t.roots (λ i l. root_fits m i (omega arith)))

  abbrev classes_of : List ℕ
  classes_of = classes t nodes operands roots

  -- ---- 10 and 11 name a root's node and a body

  module _ (m : Limited t) (well : WellFormed t nodes operands roots) (tables : NodeTables t nodes operands) where
    supported_fits : Fitting (roots_supported t nodes operands classes_of roots)
    unfolding roots_supported told
    supported_fits =
        fitting_first (supported_at nodes operands classes_of roots) 0 t.roots
        (λ i l. let root = well.root i (omega arith) in
        root_only RefusalFits nodes operands classes_of roots i (record { place = omega (arith, root, m.nodes); body = omega arith })
        (λ x y e. record { place = omega (arith, root, m.nodes); body = omega (arith, root, m.nodes, left_below t nodes operands tables (get_or roots i 0) root x y e) }))

    -- ---- 14 names a head

    body_fits : (high ranked : List ℕ) (head : ℕ) → head < t.atoms → (body : ℕ) → Fitting (body_order classes_of high ranked head body)
    unfolding body_order told
    body_fits high ranked head l zero = fitting_admitted
    body_fits high ranked head l (suc b) =
        fitting_test (positive classes_of b && not (ltb (get_or high b 0) (get_or ranked head 0))) (RankOrder head) admitted (record { place = omega (arith, l, m.atoms); body = omega arith }) fitting_admitted

    order_fits : (high ranked : List ℕ) (i : ℕ) → i < t.roots → Fitting (order_at nodes operands classes_of roots high ranked i)
    unfolding order_at produced_order
    order_fits high ranked i l = go (produced nodes operands classes_of (get_or roots i 0)) refl
      where
        go : (p : Result (Option Producer) Refusal) → produced nodes operands classes_of (get_or roots i 0) ≡ p → Fitting (produced_order classes_of high ranked p)
        go (Ok None) e = fitting_admitted
        go (Ok (Some p)) e = body_fits high ranked p.head (producer_bounded t nodes operands classes_of tables (get_or roots i 0) (well.root i l) p e).head_in p.body
        go (Err r) e = fitting_admitted

    ranks_fit : (ranked : List ℕ) → Fitting (rank_check t nodes operands classes_of roots ranked)
    unfolding rank_check rank_order order_by told
    ranks_fit ranked = go (eqb (length ranked) t.atoms && all_below t.atoms ranked)
      where
        go : (b : Bool) → Fitting (cond b (rank_order t nodes operands classes_of roots ranked) (Err RankShape))
        go true = fitting_first (order_at nodes operands classes_of roots (node_highests (λ a. get_or ranked a 0) nodes operands t.nodes) ranked) 0 t.roots (λ i l. order_fits _ ranked i (omega arith))
        go false = fitting_refused RankShape (record { place = omega arith; body = omega arith })

  -- ---- 12 names an atom

  cycle_low : (a n : ℕ) → derived t nodes operands roots ≡ cycle a → a < t.atoms
  unfolding derived derive
  cycle_low a n e = go (ltb (lowest_left t.atoms (t.atoms + t.nodes) (dependencies t nodes operands classes_of roots)) t.atoms) refl e
    where
      low : ℕ
      low = lowest_left t.atoms (t.atoms + t.nodes) (dependencies t nodes operands classes_of roots)

      go : (b : Bool) → ltb low t.atoms ≡ b
          → cond b (cycle low) (ranks (table (depth t.atoms (dependencies t nodes operands classes_of roots) (t.atoms + t.nodes)) t.atoms)) ≡ cycle a → a < t.atoms
      go true q e = let z : low ≡ a = cc in omega (arith, z, ltb-true low t.atoms q)
      go false q e = let z : ◌≡◌ {A = ℕ} 0 1 = cc in absurd (omega arith)

  cycle_fits : Limited t → (d : Derived) → derived t nodes operands roots ≡ d → Fitting (acyclic t nodes operands roots d)
  unfolding told
  cycle_fits m (ranks rs) e = fitting_admitted
  cycle_fits m (cycle a) e = fitting_refused (PositiveCycle a) (record { place = omega (arith, cycle_low a 0 e, m.atoms); body = omega arith })

  -- ---- the calls

  -- what is known where the tests up to 11 admit
  record Admits : Type 0 where
    limited : Limited t
    roots_long : t.roots ≤ length roots
    well : WellFormed t nodes operands roots
    tables : NodeTables t nodes operands

  module _ (ps rs us ws : List ℕ) where
    abbrev lengths_of : Lengths
    lengths_of = lengths t nodes operands roots ps rs us ws

    known : limits_of t ≡ admitted → short_buffer t lengths_of ≡ admitted → admission t nodes operands roots ≡ admitted → Admits
    known e f g =
        let well = admitted_formed t nodes operands roots g in
        let long = long_enough t lengths_of f in
        record { limited = within_limits t e; roots_long = long.roots_long; well = well; tables = record { nodes_long = long.nodes_long; operands_long = long.operands_long; formed = well.node } }

    judged_known : judged t nodes operands roots lengths_of ≡ admitted → Admits
    unfolding judged
    judged_known j =
        let rest = or-else-right (limits_of t) _ j in
        known (or_else_left (limits_of t) _ j) (or_else_left (short_buffer t lengths_of) _ rest) (or_else_left (admission t nodes operands roots) _ (or-else-right (short_buffer t lengths_of) _ rest))

    judged_fits : Fitting (judged t nodes operands roots lengths_of)
    unfolding judged
    judged_fits =
        fitting_then (limits_of t) _ (fitting_limits t) (λ e.
        fitting_then (short_buffer t lengths_of) _ (short_fits t lengths_of) (λ f.
        fitting_then (admission t nodes operands roots) _ (tables_fit (within_limits t e)) (λ g.
        let k = known e f g in supported_fits k.limited k.well k.tables)))

    few : Admits → length (producers_of t nodes operands roots) < 4294967296
    unfolding producers_before
    few k = omega (arith, few-producers nodes operands classes_of (take t.roots roots), length-take-le t.roots roots k.roots_long, k.limited.roots)

    planned_fits : (j rest : Admission) (ranked : List ℕ) → judged t nodes operands roots lengths_of ≡ j → (Admits → Fitting rest)
        → PlanningFits (planned t nodes operands roots ps rs us ws (or_else j rest) ranked).answer
    unfolding planned
    planned_fits (Err r) rest ranked e h = judged_fits r e
    planned_fits (Ok u) rest ranked e h = go rest (h (judged_known e))
      where
        go : (a : Admission) → Fitting a → PlanningFits (planned t nodes operands roots ps rs us ws a ranked).answer
        go (Ok u) f = few (judged_known e)
        go (Err r) f = f r refl

    -- whatever is lent, each number of the answer fits its field
    pub plan_fits : PlanningFits (plan_outcome t nodes operands roots ps rs us ws).answer
    unfolding plan_outcome plan_judged
    plan_fits = planned_fits (judged t nodes operands roots lengths_of) _ _ refl (λ k. cycle_fits k.limited (derived t nodes operands roots) refl)

    pub certify_fits : (proposed : List ℕ) → PlanningFits (certify_outcome t nodes operands roots proposed ps rs us ws).answer
    unfolding certify_outcome certify_judged
    certify_fits proposed = planned_fits (judged t nodes operands roots lengths_of) _ _ refl (λ k. ranks_fit k.limited k.well k.tables proposed)
