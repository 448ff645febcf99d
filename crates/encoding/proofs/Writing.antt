-- What was read from a cursor on to the end of a sound file, written again.
-- Assumes nothing.
use Rattle.std.specs.Prelude.{Result, Ok, Err}
use Prim.Native.Nat.{ℕ, zero, suc, ◌+◌, ◌<◌, ◌≤◌}
use native.Mathlib.Omega.{arith}
use mathlib.Core.Path.{◌≡◌, refl, sym, ap, ◌∙◌}
use mathlib.Core.Logic.{◌⊎◌, inl, inr, ⊎_elim}
use mathlib.Core.Bool.{false, false≢true}
use mathlib.Core.List.{List, [], ◌∷◌, ◌++◌, flat_map, append_assoc}
use lib.Dec.{eqb}
use lib.ListN.{length, drop, drop_of_length-le}
use borrow.Author.Tests.{eqb-false, not-true}
use Rattle.base.specs.Tests.{below_or}
use Rattle.theory.specs.Limits.{Limited}
use Rattle.theory.specs.Spans.{all_below_each}
use Rattle.theory.specs.declared.Counts.{Counts}
use Rattle.record.specs.Stage.{at_start}
use Rattle.record.specs.Mark.{mark_at}
use Rattle.record.specs.Layout.{counted, arity, value_count, record_end, values_of}
use Rattle.record.specs.Passed.{more, counts_after}
use Rattle.record.specs.Record.{judged_group, judged_values, judged}
use Rattle.record.specs.Contents.{Contents, joined, of_next}
use Rattle.record.specs.File.{sound, refused, read_from}
use Rattle.record.specs.declared.Stage.TheVariants as stage
use Rattle.record.specs.declared.Cursor.{Cursor}
use Rattle.record.specs.declared.Mark.{Mark}
use Rattle.record.specs.declared.Mark.TheVariants as mark
use Rattle.record.specs.declared.Summary.{Summary}
use Rattle.record.proofs.Laws.{length_numbers}
use Rattle.record.proofs.Stages.{is_nodes}
use Rattle.record.proofs.Steps.{unless_next, end_past, Passed, next_passed, passed_fields, begun}
use Rattle.record.proofs.Judging.{read-refused, read_next}
use Rattle.encoding.specs.Value.{Node, Atom, False, Implies, And, Or}
use Rattle.encoding.specs.Encoding.{node_bytes, root_bytes, candidate_bytes}
use Rattle.encoding.specs.Held.{operand_entries}
use Rattle.encoding.specs.Sound.{Below, SoundNode, SoundCandidate}
use Rattle.encoding.proofs.Form.{form_of, written}
use Rattle.encoding.proofs.NodeRecord.{mark_of, values_in, node_form, node_counts}
use Rattle.encoding.proofs.Rest.{rest_bytes, SoundRest, node_on, root_on, candidate_on, end_on}
use Rattle.theory.specs.declared.Refusal.{Refusal}

-- ---- the values of a record that was passed

no_value : (vs : List ℕ) → length vs ≡ 0 → vs ≡ []
no_value [] e = refl
no_value (x ∷ vs) e = absurd (omega arith)

one_value : (vs : List ℕ) → length vs ≡ 1 → (x : ℕ) × (vs ≡ x ∷ [])
one_value [] e = absurd (omega arith)
one_value (x ∷ vs) e = (x, rw (no_value vs (omega arith)))

two_values : (vs : List ℕ) → length vs ≡ 2 → (x : ℕ) × (y : ℕ) × (vs ≡ x ∷ y ∷ [])
two_values [] e = absurd (omega arith)
two_values (x ∷ vs) e = let y = one_value vs (omega arith) in (x, y.0, ap (λ l. x ∷ l) y.1)

-- a node that was read
record Found (t : Counts) (kind : Mark) (vs : List ℕ) : Type 0 where
  pub node : Node
  pub named : mark_of node ≡ kind
  pub values : values_in node ≡ vs
  pub fits : SoundNode t.atoms t.nodes node

module _ (c next : Cursor) (vs : List ℕ) where
  found_atom : length vs ≡ 1 → judged_values c mark.Atom vs (Ok next) ≡ Ok next → Found c.counts mark.Atom vs
  unfolding judged_values
  found_atom h e =
      let v = one_value vs h in
      let b = rw v.1 at (all_below_each c.counts.atoms vs (unless_next _ _ _ next e).0) in
      record { node = Atom v.0; named = refl; values = sym v.1; fits = b.0 }

  found_implies : length vs ≡ 2 → judged_values c mark.Implies vs (Ok next) ≡ Ok next → Found c.counts mark.Implies vs
  unfolding judged_values
  found_implies h e =
      let v = two_values vs h in
      let b = rw v.2 at (all_below_each c.counts.nodes vs (unless_next _ _ _ next e).0) in
      record { node = Implies v.0 v.1; named = refl; values = sym v.2; fits = (b.0, b.1.0) }

  group_fits : judged_group c vs (Ok next) ≡ Ok next → (0 < length vs) × Below c.counts.nodes vs
  unfolding judged_group
  group_fits e =
      let some = unless_next _ _ _ next e in
      let below = unless_next _ _ _ next some.1 in
      let full = eqb-false (length vs) 0 (not-true (eqb (length vs) 0) some.0) in
      (omega (arith, full), all_below_each c.counts.nodes vs below.0)

  root_fits : judged_values c mark.Root vs (Ok next) ≡ Ok next → Below c.counts.nodes vs
  unfolding judged_values
  root_fits e = all_below_each c.counts.nodes vs (unless_next _ _ _ next e).0

  candidate_fits : judged_values c mark.Candidate vs (Ok next) ≡ Ok next → SoundCandidate c.counts.atoms vs
  unfolding judged_values
  candidate_fits e =
      let below = unless_next _ _ _ next e in
      (all_below_each c.counts.atoms vs below.0, (unless_next _ _ _ next below.1).0)

-- ---- the rest of a file

module _ (file : List ℕ) (bytes : Below 256 file) where
  -- nodes, roots and candidates whose bytes are what is left; after the first root no node, after the first candidate no root
  pub record Rest (c : Cursor) : Type 0 where
    pub nodes : List Node
    pub roots : List ℕ
    pub candidates : List (List ℕ)
    pub no_nodes : (c.stage ≡ stage.Roots) ⊎ (c.stage ≡ stage.Candidates) → nodes ≡ []
    pub no_roots : c.stage ≡ stage.Candidates → roots ≡ []
    pub left : drop c.at file ≡ rest_bytes nodes roots candidates
    pub fits : SoundRest nodes roots candidates c.counts

  module _ (c next : Cursor) (r : Rest next) where
    with_node_lem : (n : Node) → c.stage ≡ stage.Nodes → next.counts ≡ more c.counts 1 (length (operand_entries n)) 0 → drop c.at file ≡ node_bytes n ++ drop next.at file
        → SoundNode c.counts.atoms c.counts.nodes n → Rest c
    unfolding rest_bytes flat_map
    with_node_lem n o k e h =
        record {
          nodes = n ∷ r.nodes;
          roots = r.roots;
          candidates = r.candidates;
          no_nodes = λ l. ⊎_elim (λ z. cc) (λ z. cc) l;
          no_roots = λ z. cc;
          left = e ∙ rw r.left (sym (append_assoc (node_bytes n) (flat_map node_bytes r.nodes) _));
          fits = node_on c.counts r.candidates n r.nodes r.roots h (rw k at r.fits);
        }

    with_root : (x : ℕ) → (c.stage ≡ stage.Candidates → ⊥) → next.stage ≡ stage.Roots → next.counts ≡ more c.counts 0 0 1 → drop c.at file ≡ root_bytes x ++ drop next.at file
        → x < c.counts.nodes → Rest c
    unfolding rest_bytes flat_map
    with_root x o p k e h =
        let none = r.no_nodes (inl p) in
        record {
          nodes = [];
          roots = x ∷ r.roots;
          candidates = r.candidates;
          no_nodes = λ l. refl;
          no_roots = λ l. absurd (o l);
          left = e ∙ rw (r.left, none) (sym (append_assoc (root_bytes x) (flat_map root_bytes r.roots) _));
          fits = root_on c.counts r.candidates x r.roots h (rw (none, k) at r.fits);
        }

    with_candidate_lem : (xs : List ℕ) → next.stage ≡ stage.Candidates → next.counts ≡ c.counts → drop c.at file ≡ candidate_bytes xs ++ drop next.at file
        → SoundCandidate c.counts.atoms xs → Rest c
    unfolding rest_bytes flat_map
    with_candidate_lem xs p k e h =
        let none = r.no_nodes (inr p) in
        let none' = r.no_roots p in
        record {
          nodes = [];
          roots = [];
          candidates = xs ∷ r.candidates;
          no_nodes = λ l. refl;
          no_roots = λ l. refl;
          left = e ∙ rw (r.left, none, none');
          fits = candidate_on c.counts r.candidates xs h (rw (none, none', k) at r.fits);
        }

  -- one record back
  module _ (c next : Cursor) (kind : Mark) (q : mark_at file c.at ≡ kind) (p : Passed file c next kind (values_of file c.at kind)) where
    at-is : next.at ≡ record_end file c.at kind
    at-is = rw p.next_is (passed_fields c kind _ _).0

    pub counts_are : next.counts ≡ counts_after c.counts kind (values_of file c.at kind)
    counts_are = rw p.next_is (passed_fields c kind _ _).2

    pub left_is : drop c.at file ≡ form_of kind (values_of file c.at kind) ++ drop next.at file
    left_is = rw at-is (written file bytes c.at c.stage kind p.ordered q p.whole)

    with_found : Rest next → c.stage ≡ stage.Nodes → Found c.counts kind (values_of file c.at kind) → Rest c
    with_found r o f =
        let form : form_of kind (values_of file c.at kind) ≡ node_bytes f.node = rw (f.named, f.values) at (node_form f.node) in
        with_node_lem c next r f.node o (counts_are ∙ rw (f.named, f.values) at (node_counts c.counts f.node)) (left_is ∙ rw form) f.fits

  fixed : (at : ℕ) (kind : Mark) → counted kind ≡ false → length (values_of file at kind) ≡ arity kind
  unfolding values_of value_count
  fixed at kind e = length_numbers file _ _ ∙ rw e

  back : (c next : Cursor) → at_start c.stage ≡ false → Rest next → (kind : Mark) → mark_at file c.at ≡ kind → Passed file c next kind (values_of file c.at kind) → Rest c
  unfolding form_of node_bytes root_bytes candidate_bytes judged_values
  back c next begun r mark.Theory q p = absurd (false≢true (sym begun ∙ p.ordered))
  back c next begun r mark.Atom q p =
      with_found c next mark.Atom q p r (is_nodes c.stage p.ordered) (found_atom c next _ (fixed c.at mark.Atom refl) p.values)
  back c next begun r mark.False q p =
      with_found c next mark.False q p r (is_nodes c.stage p.ordered)
      (record { node = False; named = refl; values = sym (no_value _ (fixed c.at mark.False refl)); fits = tt })
  back c next begun r mark.Implies q p =
      with_found c next mark.Implies q p r (is_nodes c.stage p.ordered) (found_implies c next _ (fixed c.at mark.Implies refl) p.values)
  back c next begun r mark.And q p =
      with_found c next mark.And q p r (is_nodes c.stage p.ordered) (record { node = And _; named = refl; values = refl; fits = group_fits c next _ p.values })
  back c next begun r mark.Or q p =
      with_found c next mark.Or q p r (is_nodes c.stage p.ordered) (record { node = Or _; named = refl; values = refl; fits = group_fits c next _ p.values })
  back c next begun r mark.Root q p =
      let v = one_value (values_of file c.at mark.Root) (fixed c.at mark.Root refl) in
      let early : c.stage ≡ stage.Candidates → ⊥ = λ e. false≢true (rw e at p.ordered) in
      with_root c next r v.0 early (ap (λ x. x.stage) p.next_is)
      (rw v.1 at (counts_are c next mark.Root q p))
      (rw v.1 at (left_is c next mark.Root q p))
      (rw v.1 at (root_fits c next (values_of file c.at mark.Root) p.values)).0
  back c next begun r mark.Candidate q p =
      with_candidate_lem c next r _ (ap (λ x. x.stage) p.next_is) (counts_are c next mark.Candidate q p) (left_is c next mark.Candidate q p) (candidate_fits c next _ p.values)
  back c next begun r mark.Unknown q p = absurd (false≢true p.ordered)

  at-end : (c : Cursor) → length file ≤ c.at → Limited c.counts → Rest c
  unfolding rest_bytes flat_map
  at-end c h l =
      record { nodes = []; roots = []; candidates = []; no_nodes = λ q. refl; no_roots = λ q. refl; left = drop_of_length-le file h; fits = end_on c.counts l }

  module _ (s : Summary) (u : Contents) where
    -- what is left at any cursor from which so many turns lead to the end of the sound file
    abbrev pub Left : ℕ → Type 0
    Left turns = (c : Cursor) (t : Contents) → read_from file c t turns ≡ sound s u → at_start c.stage ≡ false → length file ≤ c.at + turns → Limited c.counts → Rest c

    pub turn : (turns : ℕ) (c : Cursor) (t : Contents) → c.at < length file → read_from file c t (suc turns) ≡ sound s u → length file ≤ c.at + suc turns → Left turns
        → (next : Cursor) × Passed file c next (mark_at file c.at) (values_of file c.at (mark_at file c.at)) × Rest next
    turn turns c t h e m rest = go (judged file c) refl
      where
        past : (next : Cursor) → Passed file c next (mark_at file c.at) (values_of file c.at (mark_at file c.at))
            → read_from file next (joined t (of_next file c)) turns ≡ sound s u → Rest next
        past next p q =
            rest next (joined t (of_next file c)) q
            (ap (λ x. at_start x.stage) p.next_is ∙ begun c (mark_at file c.at) _ _ p.ordered)
            (omega (arith, at-is c next _ refl p, end_past file c.at (mark_at file c.at)))
            (rw (counts_are c next _ refl p) p.limited)

        go : (x : Result Cursor Refusal) → judged file c ≡ x → (next : Cursor) × Passed file c next (mark_at file c.at) (values_of file c.at (mark_at file c.at)) × Rest next
        go (Ok next) j = let p = next_passed file c next j in (next, p, past next p (sym (read_next file c t turns next h j) ∙ e))
        go (Err r) j = let k : refused r ≡ sound s u = sym (read-refused file c t turns r h j) ∙ e in let z : ◌≡◌ {A = ℕ} 0 1 = cc in absurd (omega arith)

    pub rest-written : (turns : ℕ) → Left turns
    rest-written zero c t e b m l = at-end c (omega arith) l
    rest-written (suc turns) c t e b m l =
        ⊎_elim (λ h. let k = turn turns c t h e m (rest-written turns) in back c k.0 b k.2 (mark_at file c.at) refl k.1) (λ h. at-end c h l)
        (below_or c.at (length file))
