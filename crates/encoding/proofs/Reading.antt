-- Reading the bytes of sound nodes, roots and candidates from a cursor on.
-- Assumes nothing.
use Rattle.std.specs.Prelude.{Ok}
use Prim.Native.Nat.{ℕ, zero, suc, ◌+◌, ◌-◌, ◌<◌, ◌≤◌}
use native.Mathlib.Omega.{arith}
use mathlib.Core.Path.{◌≡◌, refl, sym, ap, ◌∙◌}
use mathlib.Core.Logic.{◌⊎◌, inl, inr, ⊎_elim}
use mathlib.Core.Bool.{true, false, cond}
use mathlib.Core.List.{List, [], ◌∷◌, ◌++◌, flat_map, append_assoc}
use lib.Dec.{ltb}
use lib.ListN.{length, length-append, length-drop}
use borrow.Author.Tests.{le-leb, ltb-true}
use Rattle.base.specs.Tests.{both_left, both_right}
use Rattle.theory.specs.Limits.{Limited}
use Rattle.theory.specs.LimitsLaws.{limited_admitted}
use Rattle.theory.specs.Spans.{each_all_below}
use Rattle.theory.specs.declared.Counts.{Counts}
use Rattle.record.specs.Stage.{at_start}
use Rattle.record.specs.Mark.{in_order}
use Rattle.record.specs.Rising.{rising_from, rising}
use Rattle.record.specs.Layout.{counted, arity}
use Rattle.record.specs.Passed.{more, counts_after, passed}
use Rattle.record.specs.Record.{unless, judged_values, judged_whole, judged_marked, judged}
use Rattle.record.specs.Contents.{Contents, joined, of_record, of_next}
use Rattle.record.specs.File.{File, read_from}
use Rattle.record.specs.declared.Stage.TheVariants as stage
use Rattle.record.specs.declared.Cursor.{Cursor}
use Rattle.record.specs.declared.Mark.{Mark}
use Rattle.record.specs.declared.Mark.TheVariants as mark
use Rattle.record.proofs.Judging.{read_end, read_next}
use Rattle.encoding.specs.Value.{Node}
use Rattle.encoding.specs.Encoding.{node_bytes, root_bytes, candidate_bytes}
use Rattle.encoding.specs.Held.{operand_entries}
use Rattle.encoding.specs.Sound.{Below, SoundNode, SoundCandidate}
use Rattle.encoding.proofs.Numbers.{drop_past}
use Rattle.encoding.proofs.Form.{numbers_in, form_of, length_form, stands}
use Rattle.encoding.proofs.NodeRecord.{mark_of, values_in, node_form, node_ordered, node_many, node_counts, node_contents, node_past, node_small, node_passes, below_small}
use Rattle.encoding.proofs.Rest.{At, rest_bytes, SoundRest, outcome, of_node, of_root, of_candidate, past_node, past_root, past_candidate, node_turn, root_turn, candidate_turn, end_turn, node_off, root_off, candidate_off}

-- ---- one record

-- such a record can stand at the cursor
pub record Passes (c : Cursor) (mark : Mark) (vs : List ℕ) : Type 0 where
  pub ordered : in_order mark c.stage ≡ true
  pub small : Below 4294967296 (numbers_in (counted mark) vs)
  pub many : cond (counted mark) (length vs) (arity mark) ≡ length vs
  pub limited : Limited (counts_after c.counts mark vs)
  pub passes : (next : Cursor) → judged_values c mark vs (Ok next) ≡ Ok next

module _ (file : List ℕ) (c : Cursor) (mark : Mark) (vs rest : List ℕ) (p : Passes c mark vs) where
  room : (turns : ℕ) → At file c.at turns (form_of mark vs ++ rest) → length file ≡ c.at + length (form_of mark vs) + length rest
  room turns a =
      let l : length (form_of mark vs) + length rest ≡ length file - c.at
      = sym (length-append (form_of mark vs) rest) ∙ ap length (sym a.left) ∙ length-drop c.at file in
      omega (arith, length_form mark vs)

  next_is : (turns : ℕ) → At file c.at turns (form_of mark vs ++ rest)
      → judged file c ≡ Ok (passed c mark (counts_after c.counts mark vs) (c.at + length (form_of mark vs)))
  unfolding judged judged_marked judged_whole unless
  next_is turns a =
      let s = stands file c.at c.stage mark vs rest p.ordered p.small p.many a.left in
      let r = room turns a in
      let f = length_form mark vs in
      rw (
        le-leb (c.at + 2) (length file) (omega arith),
        s.named,
        p.ordered,
        s.end,
        s.values,
        le-leb (c.at + length (form_of mark vs)) (length file) (omega arith),
        limited_admitted (counts_after c.counts mark vs) p.limited,
      )
      (p.passes _)

  held_is : (turns : ℕ) → At file c.at turns (form_of mark vs ++ rest) → of_next file c ≡ of_record c.counts.operands mark vs
  unfolding of_next
  held_is turns a =
      let s = stands file c.at c.stage mark vs rest p.ordered p.small p.many a.left in
      rw (s.named, s.values)

  pub record_read : (t : Contents) (goal : File)
      → ((turns : ℕ) → At file (c.at + length (form_of mark vs)) turns rest
      → read_from file (passed c mark (counts_after c.counts mark vs) (c.at + length (form_of mark vs))) (joined t (of_record c.counts.operands mark vs)) turns ≡ goal)
      → (turns : ℕ) → At file c.at turns (form_of mark vs ++ rest) → read_from file c t turns ≡ goal
  record_read t goal go zero a = absurd (omega (arith, room zero a, a.enough, length_form mark vs))
  record_read t goal go (suc turns) a =
      let r = room (suc turns) a in
      let f = length_form mark vs in
      read_next file c t turns _ (omega arith) (next_is (suc turns) a)
      ∙ rw (held_is (suc turns) a)
      (go turns (record { left = drop_past file c.at (form_of mark vs) rest a.left; within = omega arith; enough = omega (arith, a.enough) }))

-- ---- a node, a root, a candidate

rising_from_short : (bound x : ℕ) (xs : List ℕ) → x < bound → Below bound xs → rising_from x xs ≡ true → x + length xs < bound
unfolding rising_from
rising_from_short bound x [] h b r = omega arith
rising_from_short bound x (y ∷ ys) h b r =
    omega (arith, ltb-true x y (both_left (ltb x y) (rising_from y ys) r), rising_from_short bound y ys b.0 b.1 (both_right (ltb x y) (rising_from y ys) r))

-- a candidate has at most as many atoms as there are
rising_short : (bound : ℕ) (xs : List ℕ) → Below bound xs → rising xs ≡ true → length xs ≤ bound
unfolding rising
rising_short bound [] b r = omega arith
rising_short bound (x ∷ xs) b r = omega (arith, rising_from_short bound x xs b.0 b.1 r)

module _ (file : List ℕ) (c : Cursor) (t : Contents) (rest : List ℕ) (goal : File) where
  node_read : (n : Node) → c.stage ≡ stage.Nodes → SoundNode c.counts.atoms c.counts.nodes n → Limited (more c.counts 1 (length (operand_entries n)) 0)
      → ((turns : ℕ) → At file (c.at + length (node_bytes n)) turns rest → read_from file (past_node c n) (joined t (of_node c.counts.operands n)) turns ≡ goal)
      → (turns : ℕ) → At file c.at turns (node_bytes n ++ rest) → read_from file c t turns ≡ goal
  node_read n e s l go =
      rw (← node_form n)
      (record_read file c (mark_of n) (values_in n) rest passes t goal
      (rw (node_counts c.counts n, node_past c n, node_contents c.counts.operands n, node_form n) go))
    where
      passes : Passes c (mark_of n) (values_in n)
      passes =
          record {
            ordered = node_ordered n c.stage e;
            small = node_small c.counts.atoms c.counts.nodes n s l.atoms (omega (arith, l.nodes)) (omega (arith, l.operands));
            many = node_many n;
            limited = rw (node_counts c.counts n) l;
            passes = λ next. node_passes c (Ok next) n s;
          }

  root_read : (r : ℕ) → (c.stage ≡ stage.Nodes) ⊎ (c.stage ≡ stage.Roots) → r < c.counts.nodes → Limited (more c.counts 0 0 1)
      → ((turns : ℕ) → At file (c.at + length (root_bytes r)) turns rest → read_from file (past_root c r) (joined t (of_root r)) turns ≡ goal)
      → (turns : ℕ) → At file c.at turns (root_bytes r ++ rest) → read_from file c t turns ≡ goal
  unfolding form_of root_bytes judged_values unless
  root_read r e s l go =
      record_read file c mark.Root (r ∷ []) rest
      (record {
        ordered = ⊎_elim (λ q. rw q) (λ q. rw q) e;
        small = (omega (arith, l.nodes), tt);
        many = refl;
        limited = l;
        passes = λ next. rw (each_all_below c.counts.nodes (r ∷ []) (s, tt));
      }) t goal go

  candidate_read : (xs : List ℕ) → at_start c.stage ≡ false → SoundCandidate c.counts.atoms xs → Limited c.counts
      → ((turns : ℕ) → At file (c.at + length (candidate_bytes xs)) turns rest → read_from file (past_candidate c xs) (joined t (of_candidate xs)) turns ≡ goal)
      → (turns : ℕ) → At file c.at turns (candidate_bytes xs ++ rest) → read_from file c t turns ≡ goal
  unfolding form_of candidate_bytes judged_values unless
  candidate_read xs e s l go =
      record_read file c mark.Candidate xs rest
      (record {
        ordered = rw e;
        small = (omega (arith, rising_short c.counts.atoms xs s.0 s.1, l.atoms), below_small c.counts.atoms xs (omega (arith, l.atoms)) s.0);
        many = refl;
        limited = l;
        passes = λ next. rw (each_all_below c.counts.atoms xs s.0, s.1);
      }) t goal go

-- ---- the rest of a file

limited_less : (t u : Counts) → t.atoms ≤ u.atoms → t.nodes ≤ u.nodes → t.operands ≤ u.operands → t.roots ≤ u.roots → Limited u → Limited t
limited_less t u a n o r l =
    record { atoms = omega (arith, l.atoms); nodes = omega (arith, l.nodes); operands = omega (arith, l.operands); roots = omega (arith, l.roots) }

module _ (file : List ℕ) where
  end_read : (c : Cursor) (t : Contents) (turns : ℕ) → at_start c.stage ≡ false → At file c.at turns [] → read_from file c t turns ≡ outcome [] [] [] c t
  end_read c t turns h a =
      let none : 0 ≡ length file - c.at = ap length (sym a.left) ∙ length-drop c.at file in
      read_end file c t turns (omega (arith, a.within)) ∙ end_turn c t h

  candidates_read : (cs : List (List ℕ)) (c : Cursor) (t : Contents) (turns : ℕ) → at_start c.stage ≡ false → SoundRest [] [] cs c.counts
      → At file c.at turns (flat_map candidate_bytes cs) → read_from file c t turns ≡ outcome [] [] cs c t
  unfolding flat_map
  candidates_read [] c t turns h s a = end_read c t turns h a
  candidates_read (xs ∷ cs) c t turns h s a =
      candidate_read file c t (flat_map candidate_bytes cs) (outcome [] [] (xs ∷ cs) c t) xs h s.candidates.0
      (limited_less c.counts _ (omega arith) (omega arith) (omega arith) (omega arith) s.limited)
      (λ left b. candidates_read cs (past_candidate c xs) (joined t (of_candidate xs)) left refl (candidate_off c.counts cs xs s) b ∙ candidate_turn c t xs cs) turns a

  roots_read : (rs : List ℕ) (cs : List (List ℕ)) (c : Cursor) (t : Contents) (turns : ℕ) → (c.stage ≡ stage.Nodes) ⊎ (c.stage ≡ stage.Roots) → c.first ≡ c.at → SoundRest [] rs cs c.counts
      → At file c.at turns (flat_map root_bytes rs ++ flat_map candidate_bytes cs) → read_from file c t turns ≡ outcome [] rs cs c t
  unfolding flat_map
  roots_read [] cs c t turns h e s a = candidates_read cs c t turns (⊎_elim (λ q. rw q) (λ q. rw q) h) s a
  roots_read (r ∷ rs) cs c t turns h e s a =
      root_read file c t (flat_map root_bytes rs ++ flat_map candidate_bytes cs) (outcome [] (r ∷ rs) cs c t) r h (omega (arith, s.roots.0))
      (limited_less (more c.counts 0 0 1) _ (omega arith) (omega arith) (omega arith) (omega arith) s.limited)
      (λ left b. roots_read rs cs (past_root c r) (joined t (of_root r)) left (inr refl) refl (root_off c.counts cs r rs s) b ∙ root_turn c t r rs cs e) turns
      (rw (append_assoc (root_bytes r) (flat_map root_bytes rs) (flat_map candidate_bytes cs)) at a)

  pub rest_read : (ns : List Node) (rs : List ℕ) (cs : List (List ℕ)) (c : Cursor) (t : Contents) (turns : ℕ) → c.stage ≡ stage.Nodes → c.first ≡ c.at → SoundRest ns rs cs c.counts
      → At file c.at turns (rest_bytes ns rs cs) → read_from file c t turns ≡ outcome ns rs cs c t
  unfolding rest_bytes flat_map
  rest_read [] rs cs c t turns h e s a = roots_read rs cs c t turns (inl h) e s a
  rest_read (n ∷ ns) rs cs c t turns h e s a =
      node_read file c t (rest_bytes ns rs cs) (outcome (n ∷ ns) rs cs c t) n h s.nodes.0
      (limited_less (more c.counts 1 (length (operand_entries n)) 0) _ (omega arith) (omega arith) (omega (arith, length-append (operand_entries n) (flat_map operand_entries ns))) (omega arith) s.limited)
      (λ left b. rest_read ns rs cs (past_node c n) (joined t (of_node c.counts.operands n)) left refl refl (node_off c.counts cs n ns rs s) b ∙ node_turn c t n ns rs cs e) turns
      (rw (append_assoc (node_bytes n) (flat_map node_bytes ns) _) at a)
