-- Planned tables are consistent; their producers are those of the roots.
-- Assumes nothing.
use Rattle.std.specs.Prelude.{ℕ, zero, suc, ◌+◌, ◌*◌, ◌<◌, ◌≤◌, ◌≡◌, refl, true, length, get_or, take, Option, Some, None, Result, Ok, Err}
use Rattle.std.proofs.Common.{arith, ap, sym, ◌∙◌, length-take, get_or-take, lt-ltb, le-leb}
use mathlib.Core.List.{List, [], ◌∷◌}
use Rattle.base.specs.Tests.{both}
use Rattle.base.specs.Each.{Each, each_at, at_each, each_append}
use Rattle.theory.specs.Node.{node_at, span}
use Rattle.theory.specs.WellFormed.{NodeFormed, NodeTables, WellFormed}
use Rattle.theory.specs.Admission.{span_start, admitted}
use Rattle.theory.specs.Refusals.{none_refused}
use Rattle.theory.specs.Spans.{each_all_below}
use Rattle.theory.specs.declared.Counts.{Counts}
use Rattle.theory.specs.declared.Node.{Node}
use Rattle.theory.specs.declared.Node.TheVariants.{Atom, False, Implies, And, Or, Unknown}
use Rattle.compile.specs.Producer.{produced}
use Rattle.compile.specs.Producers.{refused_by, supported_at, roots_supported, made_by, producers, producer_words}
use Rattle.compile.specs.ProducersLaws.{few-producers}
use Rattle.compile.specs.declared.Kind.TheVariants.{Normal}
use Rattle.compile.specs.declared.Producer.{Producer}
use Rattle.compile.proofs.RootFormula.{producer_bounded}
use Rattle.kept.specs.Tables.{Tables, node_count, root_count, root_at, head_at, body_at, sound_node, sound}
use Rattle.kept.specs.Consistent.{Consistent}
use Rattle.kept.specs.Planned.{classes_in, producers_in, PlannedTables}
use Rattle.theory.specs.declared.Refusal.{Refusal}

-- ---- a formed node is sound

sound-by : (t : Counts) (operands : List ℕ) (start k : ℕ) (node : Node) → NodeFormed t operands start k node → sound_node t operands k node ≡ true
unfolding sound_node
sound-by t operands start k (Atom a) f = lt-ltb a t.atoms f
sound-by t operands start k False f = refl
sound-by t operands start k (Implies l r) f = both (lt-ltb l k f.0) (lt-ltb r k f.1)
sound-by t operands start k (And s c) f = both (le-leb (s + c) t.operands f.fits) (each_all_below k (span operands s c) f.lower)
sound-by t operands start k (Or s c) f = both (le-leb (s + c) t.operands f.fits) (each_all_below k (span operands s c) f.lower)
sound-by t operands start k Unknown f = absurd f

-- ---- the words of producers

-- what stands past the last
abbrev pub no_producer : Producer
no_producer = record { head = 0; body = 0; root = 0; kind = Normal }

head_words : (ps : List Producer) (p : ℕ) → get_or (producer_words ps) (4 * p) 0 ≡ (get_or ps p no_producer).head
unfolding producer_words
head_words [] p = refl
head_words (x ∷ ps) zero = refl
head_words (x ∷ ps) (suc p) = let e : 4 * suc p ≡ suc (suc (suc (suc (4 * p)))) = omega arith in rw e (head_words ps p)

body_words : (ps : List Producer) (p : ℕ) → get_or (producer_words ps) (4 * p + 1) 0 ≡ (get_or ps p no_producer).body
unfolding producer_words
body_words [] p = refl
body_words (x ∷ ps) zero = refl
body_words (x ∷ ps) (suc p) = let e : 4 * suc p + 1 ≡ suc (suc (suc (suc (4 * p + 1)))) = omega arith in rw e (body_words ps p)

-- ---- the producers of roots

module _ (t : Counts) (nodes operands classes : List ℕ) (tables : NodeTables t nodes operands) where
  -- the head is an atom, the body a node
  abbrev pub Inside : Producer → Type 0
  Inside p = (p.head < t.atoms) × (p.body ≤ t.nodes)

  made_inside : (k : ℕ) → k < t.nodes → (made : Result (Option Producer) Refusal) → produced nodes operands classes k ≡ made → Each Inside (made_by made)
  unfolding made_by
  made_inside k l (Ok None) e = tt
  made_inside k l (Ok (Some p)) e = let b = producer_bounded t nodes operands classes tables k l p e in ((b.head_in, b.body_in_lem), tt)
  made_inside k l (Err r) e = tt

  producers_inside : (roots : List ℕ) → Each (λ k. k < t.nodes) roots → Each Inside (producers nodes operands classes roots)
  unfolding producers
  producers_inside [] h = tt
  producers_inside (k ∷ roots) h =
      each_append Inside (made_by (produced nodes operands classes k)) (producers nodes operands classes roots)
      (made_inside k h.0 (produced nodes operands classes k) refl) (producers_inside roots h.1)

module _ (T : Tables) (plan : PlannedTables T) where
  abbrev pub root_list : List ℕ
  root_list = take (root_count T) T.roots

  -- each root is a node, and not refused
  abbrev pub Supported : ℕ → Type 0
  Supported k = (k < node_count T) × (refused_by (produced T.nodes T.operands (classes_in T) k) ≡ admitted)

  pub length_roots : length root_list ≡ root_count T
  length_roots = length-take (root_count T) T.roots ∙ (omega (arith, plan.root_table.roots_long))

  pub root_listed : (r : ℕ) → r < root_count T → get_or root_list r 0 ≡ root_at T r
  root_listed r l = get_or-take (root_count T) T.roots r 0 l

  pub roots_supported_lem : Each Supported root_list
  unfolding roots_supported supported_at
  roots_supported_lem = at_each Supported 0 root_list (λ i l. at i (omega (arith, length_roots)))
    where
      at : (i : ℕ) → i < root_count T → Supported (get_or root_list i 0)
      at i l = rw (root_listed i l) (plan.root_table.in_nodes i l, none_refused _ 0 (root_count T) plan.supported i (omega arith) (omega arith))

  roots_below : Each (λ k. k < node_count T) root_list
  roots_below = at_each (λ k. k < node_count T) 0 root_list (λ i l. (each_at Supported 0 root_list roots_supported_lem i l).0)

  pub well : WellFormed T.counts T.nodes T.operands T.roots
  well = record { node = plan.node_tables.formed; root = plan.root_table.in_nodes }

  pub head_is : (p : ℕ) → p < T.made → head_at T p ≡ (get_or (producers_in T) p no_producer).head
  head_is p l = sym (get_or-take (4 * T.made) T.producers (4 * p) 0 (omega arith)) ∙ ap (λ ws. get_or ws (4 * p) 0) plan.producer_words_lem ∙ head_words (producers_in T) p

  pub body_is : (p : ℕ) → p < T.made → body_at T p ≡ (get_or (producers_in T) p no_producer).body
  body_is p l = sym (get_or-take (4 * T.made) T.producers (4 * p + 1) 0 (omega arith)) ∙ ap (λ ws. get_or ws (4 * p + 1) 0) plan.producer_words_lem ∙ body_words (producers_in T) p

  inside : (p : ℕ) → p < T.made → Inside T.counts T.nodes T.operands (classes_in T) plan.node_tables (get_or (producers_in T) p no_producer)
  inside p l =
      each_at (Inside T.counts T.nodes T.operands (classes_in T) plan.node_tables) no_producer (producers_in T)
      (producers_inside T.counts T.nodes T.operands (classes_in T) plan.node_tables root_list roots_below) p (omega (arith, plan.made))

  pub consistent : Consistent T
  unfolding sound
  consistent =
      record {
        limited = plan.limited;
        node = λ k l. sound-by T.counts T.operands (span_start T.nodes k) k (node_at T.nodes k) (plan.node_tables.formed k l);
        head = λ p l. rw (head_is p l) (inside p l).0;
        body = λ p l. rw (body_is p l) (inside p l).1;
        root = plan.root_table.in_nodes;
        few = omega (arith, plan.made, few-producers T.nodes T.operands (classes_in T) root_list, length_roots);
        readers = plan.readers;
        atom_nodes = plan.atom_nodes;
      }
