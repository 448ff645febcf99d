-- The rank check and the graph of dependencies say the same: ranks that the check accepts give vertices that the graph accepts, and the other way round.
-- Assumes nothing.
use Prim.Native.Nat.{ℕ, zero, suc, ◌+◌, ◌-◌, ◌<◌, ◌≤◌, max}
use native.Mathlib.Nat.{add-sub_cancel_left}
use native.Mathlib.Omega.{arith}
use mathlib.Core.Path.{◌≡◌, refl, sym, ap, ◌∙◌}
use mathlib.Core.Bool.{Bool, true, false, cond, false≢true}
use mathlib.Core.List.{List, [], ◌∷◌, map}
use lib.Dec.{eqb, ltb}
use lib.ListN.{get_or, get_or-map}
use borrow.Author.Tests.{lt-ltb, le-ltb}
use Rattle.base.specs.Each.{Each, each_map, each_both}
use Rattle.graph.specs.Edge.{Edge, edge, cost}
use Rattle.graph.specs.Accepts.{Accepts}
use Rattle.formula.specs.Formula.{Formula}
use Rattle.formula.specs.Class.{frozen, class}
use Rattle.formula.specs.Rank.{is_positive, highest}
use Rattle.theory.specs.Node.{node_at, span}
use Rattle.theory.specs.NodeClass.{node_class, node_classes}
use Rattle.theory.specs.NodeRank.{greatest, node_highest}
use Rattle.theory.specs.NodeFormula.{formula}
use Rattle.theory.specs.WellFormed.{NodeTables, WellFormed}
use Rattle.theory.proofs.Meaning.{class_at, class_step, highest_step}
use Rattle.theory.specs.declared.Counts.{Counts}
use Rattle.theory.specs.declared.Node.{Node}
use Rattle.theory.specs.declared.Node.TheVariants.{Atom, False, Implies, And, Or, Unknown}
use Rattle.compile.specs.ClassWord.{class_word, class_words}
use Rattle.compile.specs.Producer.{produced}
use Rattle.compile.specs.declared.Producer.{Producer}
use Rattle.compile.proofs.RootFormula.{producer_bounded}
use Rattle.ranks.specs.Dependency as dependency
use Rattle.ranks.specs.Dependency.{dependencies}
use Rattle.ranks.specs.Classed.{Classed}
use Rattle.ranks.specs.Highest.{word-positive}
use Rattle.ranks.proofs.Edges.{Group, of_and, of_or, Rule, IntoNode, dependencies_each, each_into}

-- the greatest of some values is a bound of each, and below every bound
greatest_each : (h : ℕ → ℕ) (os : List ℕ) → Each (λ o. h o ≤ greatest (map h os)) os
unfolding greatest
greatest_each h [] = tt
greatest_each h (o ∷ os) = (omega arith, each_map (λ p. h p ≤ greatest (map h os)) (λ p. h p ≤ max (h o) (greatest (map h os))) os (λ p q. omega arith) (greatest_each h os))

each_greatest : (h : ℕ → ℕ) (m : ℕ) (os : List ℕ) → Each (λ o. h o ≤ m) os → greatest (map h os) ≤ m
unfolding greatest
each_greatest h m [] w = omega arith
each_greatest h m (o ∷ os) w = omega (arith, each_greatest h m os w.1)

module _ (t : Counts) (nodes operands classes roots : List ℕ) (well : WellFormed t nodes operands roots) (tables : NodeTables t nodes operands) (classed : Classed t nodes operands classes) where
  abbrev pub f : ℕ → Formula
  f k = formula t nodes operands k

  pub positive_is : (k : ℕ) → k < t.nodes → dependency.positive classes k ≡ is_positive (class (f k))
  unfolding class_words
  positive_is k l =
      ap (λ w. eqb w 1) (classed.word k l ∙ get_or-map class_word (node_classes nodes operands t.nodes) k frozen ∙ ap class_word (sym (class_at t nodes operands roots well k)))
      ∙ word-positive (class (f k))

  -- ---- highest ranks, group by group

  module _ (rank : ℕ → ℕ) where
    abbrev pub H : ℕ → ℕ
    H k = highest rank (f k)

    pub high_atom : (k a : ℕ) → k < t.nodes → node_at nodes k ≡ Atom a → H k ≡ rank a
    unfolding node_highest
    high_atom k a l e = highest_step t nodes operands roots well rank k l ∙ rw e

    pub high_group : (k : ℕ) (os : List ℕ) → k < t.nodes → (node : Node) → node_at nodes k ≡ node → Group operands node os → is_positive (class (f k)) ≡ true → H k ≡ greatest (map H os)
    unfolding node_highest
    high_group k os l node e (of_and {s} {c}) p = highest_step t nodes operands roots well rank k l ∙ rw (e, p)
    high_group k os l node e (of_or {s} {c}) p = highest_step t nodes operands roots well rank k l ∙ rw (e, p)

    -- the vertices that the ranks give
    unfoldable pub vertex : ℕ → ℕ
    vertex v = cond (ltb v t.atoms) (rank v) (H (v - t.atoms))

    pub vertex_atom : (a : ℕ) → a < t.atoms → vertex a ≡ rank a
    unfolding vertex
    vertex_atom a l = rw (lt-ltb a t.atoms l)

    vertex_node : (k : ℕ) → vertex (t.atoms + k) ≡ H k
    unfolding vertex
    vertex_node k = rw (le-ltb (t.atoms + k) t.atoms (omega arith), add-sub_cancel_left t.atoms k)

    free : (a k : ℕ) → cost t.atoms (edge a (t.atoms + k)) ≡ 0
    free a k = rw (le-ltb (t.atoms + k) t.atoms (omega arith))

    strict : (s a : ℕ) → a < t.atoms → cost t.atoms (edge s a) ≡ 1
    strict s a l = rw (lt-ltb a t.atoms l)

    Ok : Edge → Type 0
    Ok e = vertex e.source + cost t.atoms e ≤ vertex e.target

    into : (k : ℕ) → k < t.nodes → IntoNode Ok t.atoms operands classes k (node_at nodes k)
    unfolding Ok
    into k l =
        record {
          by_atom = λ a e.
              let low : a < t.atoms = rw e at (well.node k l) in
              omega (arith, vertex_atom a low, vertex_node k, free a k, high_atom k a l e);
          by_group = λ os g p.
              let same = high_group k os l (node_at nodes k) refl g (sym (positive_is k l) ∙ p) in
              each_map (λ o. H o ≤ greatest (map H os)) (λ o. dependency.positive classes o ≡ true → Ok (edge (t.atoms + o) (t.atoms + k))) os
              (λ o w q. omega (arith, vertex_node o, vertex_node k, free (t.atoms + o) k, same)) (greatest_each H os);
        }

    -- ranks in order give vertices that the graph accepts
    pub order_accepts : ((i : ℕ) → i < t.roots → (b : ℕ) (p : Producer) → Rule (produced nodes operands classes (get_or roots i 0)) b p → dependency.positive classes b ≡ true → H b < rank p.head)
        → Accepts t.atoms vertex (dependencies t nodes operands classes roots)
    unfolding Ok
    order_accepts w =
        dependencies_each Ok t nodes operands classes roots into
        (λ i l b p r q.
        let head = (producer_bounded t nodes operands classes tables (get_or roots i 0) (well.root i l) p r.is).head_in in
        omega (arith, vertex_node b, vertex_atom p.head head, strict (t.atoms + b) p.head head, w i l b p r q))

    -- and vertices that the graph accepts, and agree at the atoms, are above the highest ranks
    module _ (R : ℕ → ℕ) (accepts : Accepts t.atoms R (dependencies t nodes operands classes roots)) (same : (a : ℕ) → a < t.atoms → R a ≡ rank a) where
      edge_up : (k o : ℕ) → R (t.atoms + o) + cost t.atoms (edge (t.atoms + o) (t.atoms + k)) ≤ R (t.atoms + k) → R (t.atoms + o) ≤ R (t.atoms + k)
      edge_up k o h = omega arith

      high_none : (k : ℕ) → k < t.nodes → is_positive (class (f k)) ≡ false → H k ≡ 0
      unfolding node_highest node_class
      high_none k l p = highest_step t nodes operands roots well rank k l ∙ go (node_at nodes k) refl
        where
          go : (node : Node) → node_at nodes k ≡ node → node_highest rank operands (class (formula t nodes operands k)) (λ o. highest rank (formula t nodes operands o)) node ≡ 0
          go (Atom a) e = absurd (false≢true (sym p ∙ rw (class_step t nodes operands roots well k l, e)))
          go False e = refl
          go (Implies l r) e = refl
          go (And s c) e = rw p
          go (Or s c) e = rw p
          go Unknown e = refl

      pub high_below : (b k : ℕ) → k < b → b ≤ t.nodes → H k ≤ R (t.atoms + k)
      unfolding node_highest
      high_below zero k l m = absurd (omega arith)
      high_below (suc b) k l m = go (is_positive (class (f k))) refl (λ o q. high_below b o (omega arith) (omega arith))
        where
          Up : Edge → Type 0
          Up e = R e.source + cost t.atoms e ≤ R e.target

          sources : IntoNode Up t.atoms operands classes k (node_at nodes k)
          sources = each_into Up t nodes operands classes roots accepts k (omega arith)

          operand : ((o : ℕ) → o < k → H o ≤ R (t.atoms + o)) → (o : ℕ) → o < k → (dependency.positive classes o ≡ true → Up (edge (t.atoms + o) (t.atoms + k))) → H o ≤ R (t.atoms + k)
          operand ih o q up = by (is_positive (class (f o))) refl
            where
              by : (c : Bool) → is_positive (class (f o)) ≡ c → H o ≤ R (t.atoms + k)
              by true e = omega (arith, ih o q, up (positive_is o (omega arith) ∙ e))
              by false e = omega (arith, high_none o (omega arith) e)

          group : ((o : ℕ) → o < k → H o ≤ R (t.atoms + o)) → is_positive (class (f k)) ≡ true → (os : List ℕ) → Group operands (node_at nodes k) os → Each (λ o. o < k) os → H k ≤ R (t.atoms + k)
          group ih p os g lower =
              rw (high_group k os (omega arith) (node_at nodes k) refl g p)
              (each_greatest H (R (t.atoms + k)) os
              (each_both (λ o. o < k) (λ o. dependency.positive classes o ≡ true → Up (edge (t.atoms + o) (t.atoms + k))) (λ o. H o ≤ R (t.atoms + k)) os
              (λ o q up. operand ih o q up) lower (sources.by_group os g (positive_is k (omega arith) ∙ p))))

          go : (c : Bool) → is_positive (class (f k)) ≡ c → ((o : ℕ) → o < k → H o ≤ R (t.atoms + o)) → H k ≤ R (t.atoms + k)
          go true p ih = by (node_at nodes k) refl
            where
              by : (node : Node) → node_at nodes k ≡ node → H k ≤ R (t.atoms + k)
              by (Atom a) e =
                  let low : a < t.atoms = rw e at (well.node k (omega arith)) in
                  omega (arith, high_atom k a (omega arith) e, same a low, sources.by_atom a e)
              by False e = let z : H k ≡ 0 = highest_step t nodes operands roots well rank k (omega arith) ∙ rw e in omega arith
              by (Implies x y) e = let z : H k ≡ 0 = highest_step t nodes operands roots well rank k (omega arith) ∙ rw e in omega arith
              by (And s c) e = group ih p (span operands s c) (rw e of_and) (rw e at (well.node k (omega arith))).lower
              by (Or s c) e = group ih p (span operands s c) (rw e of_or) (rw e at (well.node k (omega arith))).lower
              by Unknown e = absurd (rw e at (well.node k (omega arith)))
          go false p ih = omega (arith, high_none k (omega arith) p)
