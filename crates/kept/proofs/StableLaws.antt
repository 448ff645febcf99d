-- What the verdict stable asks of planned tables is what Fages' theorem asks of their theory.
-- Assumes nothing.
use Prim.Native.Nat.{ℕ, zero, suc, ◌<◌}
use Rattle.std.proofs.Math.Numerals.{add-one}
use Rattle.std.proofs.Common.{arith, ◌∙◌, true≢false, eqb-true, eq-eqb}
use Rattle.std.specs.Prelude.{◌≡◌, Bool, ◌&&◌, ◌||◌, length, get_or, Option, Some, None, Result, Ok, Err}
use Rattle.std.proofs.Math.Path.{refl, ap, ap₂, sym}
use Rattle.std.proofs.Math.Bool.{true, false, and-true}
use mathlib.Core.List.{List, [], ◌∷◌, ◌++◌, map}
use Rattle.std.proofs.Math.Dec.{eqb}
use Rattle.base.specs.Tests.{both, both_left, both_right, neither_left, neither_right}
use Rattle.base.specs.Each.{Each}
use Rattle.formula.specs.Formula.{Formula, of_list}
use Rattle.formula.specs.Satisfaction.{Interpretation, sat, all}
use Rattle.formula.specs.Passes.{Within}
use Rattle.formula.specs.Root as papers
use Rattle.formula.specs.Support.{produces, supported, SupportedModel}
use Rattle.formula.specs.Head.{head_atom}
use Rattle.theory.specs.NodeFormula.{formula, theory_of}
use Rattle.theory.specs.Refusals.{not_both}
use Rattle.theory.proofs.Meaning.{truth_at_lem}
use Rattle.compile.specs.Producer.{produced}
use Rattle.compile.specs.Producers.{refused_by, made_by, producers}
use Rattle.compile.specs.Roots.{root_of, roots_of, MadeOf, from-fact, from-rule, NothingOf, from_constraint, from_denial, made_of, nothing_of}
use Rattle.compile.specs.declared.Producer.{Producer}
use Rattle.compile.proofs.RootFormula.{root_formula_lem}
use Rattle.kept.specs.Tables.{Tables, atom_count, root_count, root_at, body_at}
use Rattle.kept.specs.Evaluation.{truth, body_true}
use Rattle.kept.specs.Naming.{AllTrue, Unproduced, AllProduced}
use Rattle.kept.specs.Planned.{classes_in, producers_in, PlannedTables}
use Rattle.kept.specs.PlannedLaws.{no_producer, root_list, Supported, length_roots, root_listed, roots_supported_lem, well, head_is, body_is}
use Rattle.theory.specs.Admission.{admitted}
use Rattle.theory.specs.declared.Refusal.{Refusal}

-- ---- the theory's formulas

all_to : (I : Interpretation) (f : ℕ → Formula) (xs : List ℕ) → all I (of_list (map f xs)) ≡ true → (i : ℕ) → i < length xs → sat I (f (get_or xs i 0)) ≡ true
unfolding all of_list
all_to I f [] e i l = absurd (omega arith)
all_to I f (x ∷ xs) e zero l = both_left (sat I (f x)) (all I (of_list (map f xs))) e
all_to I f (x ∷ xs) e (suc i) l = all_to I f xs (both_right (sat I (f x)) (all I (of_list (map f xs))) e) i (omega arith)

to_all : (I : Interpretation) (f : ℕ → Formula) (xs : List ℕ) → ((i : ℕ) → i < length xs → sat I (f (get_or xs i 0)) ≡ true) → all I (of_list (map f xs)) ≡ true
unfolding all of_list
to_all I f [] h = refl
to_all I f (x ∷ xs) h = both (h zero (omega arith)) (to_all I f xs (λ i l. h (suc i) (omega arith)))

-- ---- producers and the roots that they are of

module _ (I : Interpretation) (f : ℕ → Formula) (a : ℕ) where
  -- a producer of a that counts
  abbrev counts : Producer → Bool
  counts p = eqb p.head a && body_true (λ o. sat I (f o)) p.body

  unfoldable any_counts : List Producer → Bool
  any_counts [] = false
  any_counts (p ∷ ps) = counts p || any_counts ps

  made_produces : (classes : List ℕ) (p : Producer) (x : papers.Root) → MadeOf f classes p x → produces I a x ≡ counts p
  unfolding produces body_true
  made_produces classes p x (from-fact {h} e b) = rw (e, b) (sym (and-true (eqb (head_atom h) a)))
  made_produces classes p x (from-rule {b} {h} e q n) = rw (e, q, add-one b)

  nothing-produces : (x : papers.Root) → NothingOf x → produces I a x ≡ false
  unfolding produces
  nothing-produces x from_constraint = refl
  nothing-produces x from_denial = refl

  -- none of them counts, said without the list
  abbrev NoneCounts : List Producer → Type 0
  NoneCounts ps = (p : ℕ) → p < length ps → (get_or ps p no_producer).head ≡ a → body_true (λ o. sat I (f o)) (get_or ps p no_producer).body ≡ false

  none_counts : (ps : List Producer) → any_counts ps ≡ false → NoneCounts ps
  unfolding any_counts
  none_counts [] e p l h = absurd (omega arith)
  none_counts (x ∷ ps) e zero l h = rw (eq-eqb x.head a h) at (neither_left (counts x) (any_counts ps) e)
  none_counts (x ∷ ps) e (suc p) l h = none_counts ps (neither_right (counts x) (any_counts ps) e) p (omega arith) h

  counts_none : (ps : List Producer) → NoneCounts ps → any_counts ps ≡ false
  unfolding any_counts
  counts_none [] h = refl
  counts_none (x ∷ ps) h = rw (first (eqb x.head a) refl) (counts_none ps (λ p l. h (suc p) (omega arith)))
    where
      first : (b : Bool) → eqb x.head a ≡ b → b && body_true (λ o. sat I (f o)) x.body ≡ false
      first true e = h zero (omega arith) (eqb-true x.head a e)
      first false e = refl

module _ (T : Tables) (plan : PlannedTables T) where
  f : ℕ → Formula
  f = formula T.counts T.nodes T.operands

  abbrev root_as : ℕ → papers.Root
  root_as k = root_of T.counts T.nodes T.operands k

  abbrev makes : ℕ → Result (Option Producer) Refusal
  makes k = produced T.nodes T.operands (classes_in T) k

  -- the theory of the roots as the papers see them is the theory of the tables
  theory-by : (xs : List ℕ) → Each (Supported T plan) xs → map papers.root_formula (map root_as xs) ≡ map f xs
  unfolding f
  theory-by [] h = refl
  theory-by (x ∷ xs) h =
      ap₂ ◌∷◌ (root_formula_lem T.counts T.nodes T.operands T.roots (well T plan) plan.node_tables.operands_long (classes_in T) x h.0.0 h.0.1) (theory-by xs h.1)

  pub formulas_are : map papers.root_formula (roots_of T.counts T.nodes T.operands T.roots) ≡ theory_of T.counts T.nodes T.operands T.roots
  unfolding roots_of f
  formulas_are = theory-by (root_list T plan) (roots_supported_lem T plan)

  pub theory_is : papers.theory (roots_of T.counts T.nodes T.operands T.roots) ≡ of_list (theory_of T.counts T.nodes T.operands T.roots)
  unfolding papers.theory
  theory_is = ap of_list formulas_are

  pub truth_sat : (I : Interpretation) (k : ℕ) → truth T I k ≡ sat I (formula T.counts T.nodes T.operands k)
  unfolding truth
  truth_sat I k = sym (truth_at_lem I T.counts T.nodes T.operands k)

  body_sat : (I : Interpretation) (b : ℕ) → body_true (truth T I) b ≡ body_true (λ o. sat I (f o)) b
  unfolding body_true f
  body_sat I zero = refl
  body_sat I (suc b) = truth_sat I b

  module _ (I : Interpretation) (a : ℕ) where
    -- of one root
    root_counts : (k : ℕ) (made : Result (Option Producer) Refusal) → makes k ≡ made → refused_by made ≡ admitted → (ps : List Producer)
        → produces I a (root_as k) || any_counts I f a ps ≡ any_counts I f a (made_by made ++ ps)
    unfolding any_counts made_by refused_by f
    root_counts k (Ok None) e s ps = rw (nothing-produces I f a (root_as k) (nothing_of T.counts T.nodes T.operands (classes_in T) k e))
    root_counts k (Ok (Some p)) e s ps = rw (made_produces I f a (classes_in T) p (root_as k) (made_of T.counts T.nodes T.operands (classes_in T) k p e))
    root_counts k (Err r) e s ps = absurd (not_both r s)

    supported-by : (xs : List ℕ) → Each (Supported T plan) xs → supported I a (map root_as xs) ≡ any_counts I f a (producers T.nodes T.operands (classes_in T) xs)
    unfolding supported any_counts producers
    supported-by [] h = refl
    supported-by (x ∷ xs) h = rw (supported-by xs h.1) (root_counts x (makes x) refl h.0.1 (producers T.nodes T.operands (classes_in T) xs))

    supported_is : supported I a (roots_of T.counts T.nodes T.operands T.roots) ≡ any_counts I f a (producers_in T)
    unfolding roots_of
    supported_is = supported-by (root_list T plan) (roots_supported_lem T plan)

    pub unproduced_is : Unproduced T I a → supported I a (roots_of T.counts T.nodes T.operands T.roots) ≡ false
    unproduced_is u = supported_is ∙ counts_none I f a (producers_in T) (λ p l h. at p (omega (arith, plan.made)) h)
      where
        at : (p : ℕ) → p < T.made → (get_or (producers_in T) p no_producer).head ≡ a → body_true (λ o. sat I (f o)) (get_or (producers_in T) p no_producer).body ≡ false
        at p l h = ap (body_true (λ o. sat I (f o))) (sym (body_is T plan p l)) ∙ sym (body_sat I (body_at T p)) ∙ u p l (head_is T plan p l ∙ h)

    pub is_unproduced : supported I a (roots_of T.counts T.nodes T.operands T.roots) ≡ false → Unproduced T I a
    is_unproduced e p l h =
        body_sat I (body_at T p) ∙ ap (body_true (λ o. sat I (f o))) (body_is T plan p l)
        ∙ none_counts I f a (producers_in T) (sym supported_is ∙ e) p (omega (arith, plan.made)) (sym (head_is T plan p l) ∙ h)

  module _ (I : Interpretation) where
    abbrev xs : List papers.Root
    xs = roots_of T.counts T.nodes T.operands T.roots

    pub true_model : AllTrue T I → all I (of_list (theory_of T.counts T.nodes T.operands T.roots)) ≡ true
    true_model t =
        to_all I (formula T.counts T.nodes T.operands) (root_list T plan)
        (λ r l. let m : r < root_count T = omega (arith, length_roots T plan) in rw (root_listed T plan r m) (sym (truth_sat I (root_at T r)) ∙ t r m))

    pub model_true : all I (of_list (theory_of T.counts T.nodes T.operands T.roots)) ≡ true → AllTrue T I
    model_true e r l =
        truth_sat I (root_at T r) ∙ ap (λ k. sat I (formula T.counts T.nodes T.operands k)) (sym (root_listed T plan r l))
        ∙ all_to I (formula T.counts T.nodes T.operands) (root_list T plan) e r (omega (arith, length_roots T plan))

    pub to_supported : Within (atom_count T) I → AllTrue T I → AllProduced T I → SupportedModel I xs
    to_supported w t n = record { model = rw theory_is (true_model t); support = λ a p. go a p (supported I a xs) refl }
      where
        go : (a : ℕ) → I a ≡ true → (b : Bool) → supported I a xs ≡ b → supported I a xs ≡ true
        go a p true e = e
        go a p false e = absurd (n a (w a p) p (is_unproduced I a e))

    pub from-supported : SupportedModel I xs → AllTrue T I × AllProduced T I
    from-supported q = (model_true (rw theory_is at q.model), λ a l p u. true≢false (sym (q.support a p) ∙ unproduced_is I a u))
