-- The tables of a sound file are well formed: `theory` admits them, also with other words behind them.
-- Assumes nothing.
use Rattle.std.specs.Prelude.{Ok}
use Prim.Native.Nat.{ℕ, zero, suc, ◌+◌, ◌-◌, ◌*◌, ◌<◌, ◌≤◌}
use native.Mathlib.Numerals.{add-one}
use native.Mathlib.Omega.{arith}
use mathlib.Core.Path.{◌≡◌, refl, sym, ap, ◌∙◌}
use mathlib.Core.Logic.{⊎_elim}
use mathlib.Core.Bool.{Bool, true, false, false≢true}
use mathlib.Core.List.{List, [], ◌∷◌, ◌++◌, append-nil}
use lib.Dec.{eqb}
use lib.ListN.{length, get_or, drop, length-drop, get_or-append}
use lib.Seq.{get_or-append-add, drop-append-le, take-append-le, drop-append_seam, take-length}
use borrow.Author.Tests.{eqb-false, not-true}
use Rattle.base.specs.Tests.{below_or}
use Rattle.base.specs.Each.{each_at}
use Rattle.theory.specs.Node.{decoded, node_at, span}
use Rattle.theory.specs.Admission.{all_below, span_end, span_start}
use Rattle.theory.specs.WellFormed.{SpanFormed, NodeFormed, WellFormed}
use Rattle.theory.specs.Spans.{all_below_each}
use Rattle.theory.specs.declared.Counts.{Counts}
use Rattle.theory.specs.declared.Node.{Node}
use Rattle.theory.specs.declared.Node.TheVariants as node
use Rattle.record.specs.Stage.{at_start}
use Rattle.record.specs.declared.Stage.{Stage}
use Rattle.record.specs.Mark.{in_order}
use Rattle.record.specs.Layout.{arity}
use Rattle.record.specs.Passed.{more, counts_after}
use Rattle.record.specs.Record.{judged_group, judged_values}
use Rattle.record.specs.Contents.{of_record}
use Rattle.record.specs.declared.Cursor.{Cursor}
use Rattle.record.specs.declared.Mark.{Mark}
use Rattle.record.specs.declared.Mark.TheVariants.{Theory, Atom, False, Implies, And, Or, Root, Candidate, Unknown}
use Rattle.record.proofs.Steps.{unless_next}

-- ---- tables with more behind them

module _ (t u : Counts) (ns xs os ys rs zs : List ℕ) (atoms : u.atoms ≡ t.atoms) (nodes : t.nodes ≤ u.nodes) (operands : t.operands ≤ u.operands)
    (ln : length ns ≡ 3 * t.nodes) (lo : length os ≡ t.operands) (lr : length rs ≡ t.roots) where
  pub node_front : (k : ℕ) → k < t.nodes → node_at (ns ++ xs) k ≡ node_at ns k
  unfolding node_at
  node_front k h =
      rw (get_or-append ns xs 0 (3 * k) (omega arith), get_or-append ns xs 0 (3 * k + 1) (omega arith), get_or-append ns xs 0 (3 * k + 2) (omega arith))

  pub start_front : (k : ℕ) → k ≤ t.nodes → span_start (ns ++ xs) k ≡ span_start ns k
  unfolding span_start
  start_front zero h = refl
  start_front (suc k) h = rw (node_front k (omega arith), start_front k (omega arith))

  pub span-front : (s c : ℕ) → s + c ≤ t.operands → span (os ++ ys) s c ≡ span os s c
  unfolding span
  span-front s c h = rw (drop-append-le s os ys (omega arith)) (take-append-le c (drop s os) ys (omega (arith, length-drop s os)))

  span_formed_front : (start k s c : ℕ) → SpanFormed t os start k s c → SpanFormed u (os ++ ys) start k s c
  span_formed_front start k s c f =
      record { begins = f.begins; some = f.some; fits = omega (arith, f.fits); lower = rw (span-front s c f.fits) f.lower }

  formed_front : (start k : ℕ) (n : Node) → NodeFormed t os start k n → NodeFormed u (os ++ ys) start k n
  formed_front start k (node.Atom a) f = omega arith
  formed_front start k node.False f = f
  formed_front start k (node.Implies l r) f = f
  formed_front start k (node.And s c) f = span_formed_front start k s c f
  formed_front start k (node.Or s c) f = span_formed_front start k s c f
  formed_front start k node.Unknown f = f

  pub formed_extends : WellFormed t ns os rs
      → ((k : ℕ) → t.nodes ≤ k → k < u.nodes → NodeFormed u (os ++ ys) (span_start (ns ++ xs) k) k (node_at (ns ++ xs) k))
      → ((i : ℕ) → t.roots ≤ i → i < u.roots → get_or (rs ++ zs) i 0 < u.nodes)
      → WellFormed u (ns ++ xs) (os ++ ys) (rs ++ zs)
  formed_extends w fresh more-roots =
      record {
        node =
            λ k h. ⊎_elim
            (λ l. rw (node_front k l, start_front k (omega arith)) (formed_front (span_start ns k) k (node_at ns k) (w.node k l)))
            (λ l. fresh k l h) (below_or k t.nodes);
        root =
            λ i h. ⊎_elim (λ l. rw (get_or-append rs zs 0 i (omega arith)) (omega (arith, w.root i l)))
            (λ l. more-roots i l h) (below_or i t.roots);
      }

-- ---- one node more

module _ (t : Counts) (ns os rs : List ℕ) (kind a b : ℕ) (ys : List ℕ) (ln : length ns ≡ 3 * t.nodes) (lo : length os ≡ t.operands) (lr : length rs ≡ t.roots)
    (ends : span_start ns t.nodes ≡ t.operands) where
  new_node : node_at (ns ++ (kind ∷ a ∷ b ∷ [])) t.nodes ≡ decoded kind a b
  unfolding node_at
  new_node =
      let zeroth : 3 * t.nodes ≡ length ns + 0 = omega arith in
      let first : 3 * t.nodes + 1 ≡ length ns + 1 = omega arith in
      let second : 3 * t.nodes + 2 ≡ length ns + 2 = omega arith in
      rw (
        first,
        second,
        zeroth,
        get_or-append-add ns (kind ∷ a ∷ b ∷ []) 0 0,
        get_or-append-add ns (kind ∷ a ∷ b ∷ []) 1 0,
        get_or-append-add ns (kind ∷ a ∷ b ∷ []) 2 0,
      )

  new_start : span_start (ns ++ (kind ∷ a ∷ b ∷ [])) t.nodes ≡ t.operands
  new_start = start_front t t ns (kind ∷ a ∷ b ∷ []) os ys rs [] refl (omega arith) (omega arith) ln lo lr t.nodes (omega arith) ∙ ends

  pub node_added : WellFormed t ns os rs → NodeFormed (more t 1 (length ys) 0) (os ++ ys) t.operands t.nodes (decoded kind a b)
      → WellFormed (more t 1 (length ys) 0) (ns ++ (kind ∷ a ∷ b ∷ [])) (os ++ ys) (rs ++ [])
  node_added w f =
      formed_extends t (more t 1 (length ys) 0) ns (kind ∷ a ∷ b ∷ []) os ys rs [] refl (omega arith) (omega arith) ln lo lr w
      (λ k l h. let here : k ≡ t.nodes = omega arith in rw (here, new_node, new_start) f)
      (λ i l h. absurd (omega arith))

  pub ends_added : span_end (decoded kind a b) t.operands ≡ t.operands + length ys
      → span_start (ns ++ (kind ∷ a ∷ b ∷ [])) (t.nodes + 1) ≡ t.operands + length ys
  unfolding span_start
  ends_added e = rw (add-one, new_node, new_start) e

-- ---- one record more

group_formed : (t : Counts) (os vs : List ℕ) → length os ≡ t.operands → (eqb (length vs) 0 ≡ true → ⊥) → all_below t.nodes vs ≡ true
    → SpanFormed (more t 1 (length vs) 0) (os ++ vs) t.operands t.nodes t.operands (length vs)
unfolding span
group_formed t os vs lo some below =
    record {
      begins = refl;
      some = go (eqb (length vs) 0) refl;
      fits = omega arith;
      lower = rw (← lo, drop-append_seam os vs, take-length vs) (all_below_each t.nodes vs below);
    }
  where
    go : (b : Bool) → eqb (length vs) 0 ≡ b → 0 < length vs
    go true e = absurd (some e)
    go false e = omega (arith, eqb-false (length vs) 0 e)

-- what holds of the tables of the records read so far
pub record Formed (stage : Stage) (t : Counts) (ns os rs : List ℕ) : Type 0 where
  pub nodes_long : length ns ≡ 3 * t.nodes
  pub operands_long : length os ≡ t.operands
  pub roots_long : length rs ≡ t.roots
  pub formed : WellFormed t ns os rs
  pub ends : span_start ns t.nodes ≡ t.operands
  pub blank : at_start stage ≡ true → (t.nodes ≡ 0) × (t.roots ≡ 0)

module _ (c n : Cursor) (vs ns os rs : List ℕ) (f : Formed c.stage c.counts ns os rs) where
  -- the tables with what the record adds, and where its last span ends
  abbrev pub Added : Mark → Type 0
  Added mark =
      WellFormed (counts_after c.counts mark vs) (ns ++ (of_record c.counts.operands mark vs).nodes) (os ++ (of_record c.counts.operands mark vs).operands) (rs ++ (of_record c.counts.operands mark vs).roots)
      × (span_start (ns ++ (of_record c.counts.operands mark vs).nodes) (counts_after c.counts mark vs).nodes ≡ (counts_after c.counts mark vs).operands)

  with_node_lem : (kind a b : ℕ) (ys : List ℕ) → NodeFormed (more c.counts 1 (length ys) 0) (os ++ ys) c.counts.operands c.counts.nodes (decoded kind a b)
      → span_end (decoded kind a b) c.counts.operands ≡ c.counts.operands + length ys
      → WellFormed (more c.counts 1 (length ys) 0) (ns ++ (kind ∷ a ∷ b ∷ [])) (os ++ ys) (rs ++ [])
      × (span_start (ns ++ (kind ∷ a ∷ b ∷ [])) (c.counts.nodes + 1) ≡ c.counts.operands + length ys)
  with_node_lem kind a b ys g e = (
    node_added c.counts ns os rs kind a b ys f.nodes_long f.operands_long f.roots_long f.ends f.formed g,
    ends_added c.counts ns os rs kind a b ys f.nodes_long f.operands_long f.roots_long f.ends e,
  )

  same_ends : (m : ℕ) → m ≡ c.counts.nodes → span_start (ns ++ []) m ≡ c.counts.operands
  same_ends m e = rw (append-nil ns, e) f.ends

  with_group : judged_group c vs (Ok n) ≡ Ok n → SpanFormed (more c.counts 1 (length vs) 0) (os ++ vs) c.counts.operands c.counts.nodes c.counts.operands (length vs)
  unfolding judged_group
  with_group e =
      let some = unless_next _ _ _ n e in
      let below = unless_next _ _ _ n some.1 in
      group_formed c.counts os vs f.operands_long (λ z. false≢true (sym (not-true (eqb (length vs) 0) some.0) ∙ z)) below.0

  pub record_formed : (mark : Mark) → in_order mark c.stage ≡ true → judged_values c mark vs (Ok n) ≡ Ok n → arity mark ≤ length vs → Added mark
  unfolding judged_values
  record_formed Theory o e m =
      let z = f.blank o in
      (record { node = λ k h. absurd (omega (arith, z.0)); root = λ i h. absurd (omega (arith, z.1)) }, same_ends c.counts.nodes refl)
  record_formed Atom o e m =
      with_node_lem 0 (get_or vs 0 0) 0 []
      (each_at (λ a. a < c.counts.atoms) 0 vs (all_below_each c.counts.atoms vs (unless_next _ _ _ n e).0) 0 (omega arith)) (omega arith)
  record_formed False o e m = with_node_lem 1 0 0 [] tt (omega arith)
  record_formed Implies o e m =
      let below = all_below_each c.counts.nodes vs (unless_next _ _ _ n e).0 in
      with_node_lem 2 (get_or vs 0 0) (get_or vs 1 0) []
      (each_at (λ a. a < c.counts.nodes) 0 vs below 0 (omega arith), each_at (λ a. a < c.counts.nodes) 0 vs below 1 (omega arith)) (omega arith)
  record_formed And o e m = with_node_lem 3 c.counts.operands (length vs) vs (with_group e) refl
  record_formed Or o e m = with_node_lem 4 c.counts.operands (length vs) vs (with_group e) refl
  record_formed Root o e m =
      let below = all_below_each c.counts.nodes vs (unless_next _ _ _ n e).0 in (
        formed_extends c.counts (more c.counts 0 0 (length vs)) ns [] os [] rs vs refl (omega arith) (omega arith) f.nodes_long f.operands_long f.roots_long f.formed
            (λ k l h. absurd (omega arith))
            (λ i l h.
            let at : i ≡ length rs + (i - c.counts.roots) = omega (arith, f.roots_long) in
            let low : get_or vs (i - c.counts.roots) 0 < c.counts.nodes = each_at (λ a. a < c.counts.nodes) 0 vs below (i - c.counts.roots) (omega arith) in
            let same : get_or (rs ++ vs) i 0 ≡ get_or vs (i - c.counts.roots) 0 = ap (λ j. get_or (rs ++ vs) j 0) at ∙ get_or-append-add rs vs (i - c.counts.roots) 0 in
            omega (arith, same, low)),
        same_ends (c.counts.nodes + 0) (omega arith) ∙ omega arith,
      )
  record_formed Candidate o e m = (
    formed_extends c.counts c.counts ns [] os [] rs [] refl (omega arith) (omega arith) f.nodes_long f.operands_long f.roots_long f.formed
        (λ k l h. absurd (omega arith)) (λ i l h. absurd (omega arith)),
    same_ends c.counts.nodes refl,
  )
  record_formed Unknown o e m = absurd (false≢true o)
