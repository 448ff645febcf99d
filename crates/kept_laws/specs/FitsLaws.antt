-- On any evaluation, the parts of a step and of the walk's start keep the parts' lengths.
-- Assumes nothing.
use Prim.Native.Nat.{ℕ, zero, suc, ◌<◌, ◌*◌, ◌/◌}
use Rattle.std.proofs.Common.{arith, sym, ◌∙◌, length-set}
use Rattle.std.proofs.Math.Path.{◌≡◌, refl, ap}
use Rattle.std.specs.Prelude.{Bool, not, ◌&&◌, ◌||◌, get_or, set, Option, Some, None}
use Rattle.std.proofs.Math.Bool.{true, false, cond}
use mathlib.Core.List.{List, [], ◌∷◌}
use Rattle.std.proofs.Math.Dec.{eqb, ltb}
use Rattle.std.proofs.Math.ListN.{length}
use borrow.Author.Tests.{ltb-true}
use Rattle.base.specs.Tests.{both_left, both_right}
use Rattle.formula.specs.Satisfaction.{Interpretation}
use Rattle.words.specs.Changed.{unlike}
use Rattle.words.specs.Sets.{member, inserted, removed}
use Rattle.words.specs.Next.{next}
use Rattle.words.specs.SetLaws.{length_inserted, length_removed}
use Rattle.readers.specs.declared.Reading.{Reading}
use Rattle.readers.specs.declared.Reading.TheVariants.{Node, Producer, Root, Unknown}
use Rattle.readers.specs.Reader.{reading_of}
use Rattle.kept_laws.specs.OptionLaws.{some_is, if_some, then_some}
use Rattle.kept.specs.CountedSet.{and_then, CountedSet, moved, with_bit, with_member}
use Rattle.kept.specs.SetOf.{words32}
use Rattle.kept.specs.Worklist.{Worklist, with_first, with_far, behind, remembering, alone, before, with_node, filled, advanced, advance, next_filled, forgotten, without_first}
use Rattle.kept.specs.Tables.{Tables, atom_count, node_count, root_count, head_at, readers_at, atom_nodes_at}
use Rattle.kept.specs.Evaluation.{Evaluation, truth_at, present, truth_word}
use Rattle.kept.specs.Parts.{with_truths, with_worklist, with_support, with_candidate, with_false_roots}
use Rattle.kept.specs.Step.{entered, missing_by, support_moved, root_turned, reader_updated, readers_updated, took, took_at, settled, settled_from, seen, idle, fault, step_at, step}
use Rattle.kept.specs.Start.{all_entered, atom_turned, atom_updated, walk_start}
use Rattle.kept.specs.LayoutLaws.{Fits}

pub length-bit : (ws : List ℕ) (i : ℕ) (x : Bool) → length (with_bit ws i x) ≡ length ws
unfolding with_bit
length-bit ws i true = length_inserted 32 ws i
length-bit ws i false = length_removed 32 ws i

pub length_members : (n : ℕ) (s : CountedSet) (i : ℕ) (x : Bool) (r : CountedSet) → with_member n s i x ≡ Some r → length r.members ≡ length s.members
unfolding with_member
length_members n s i x r e = go (unlike (member 32 s.members i) x) e
  where
    put : ℕ → CountedSet
    put m = record { members = with_bit s.members i x; size = m }

    go : (b : Bool) → cond b (and_then (moved n x s.size) (λ m. Some (put m))) (Some s) ≡ Some r → length r.members ≡ length s.members
    go true e =
        let t = then_some (moved n x s.size) (λ m. Some (put m)) r e in
        ap (λ y. length y.members) (sym (some_is (put t.0) r t.2)) ∙ length-bit s.members i x
    go false e = ap (λ y. length y.members) (sym (some_is s r e))

-- ---- a worklist changed

-- its words as long
pub record Alike (w r : Worklist) : Type 0 where
  pub members : length r.others.members ≡ length w.others.members
  pub groups : length r.groups ≡ length w.groups

-- a node behind the first
pub behind_is : (n : ℕ) (w : Worklist) (m : ℕ) (r : Worklist) → behind n w m ≡ Some r → Alike w r × (r.first ≡ w.first)
unfolding behind
behind_is n w m r e =
    let t = then_some (with_member n w.others m true) (λ o. Some (put o)) r e in
    let i : put t.0 ≡ r = some_is (put t.0) r t.2 in (
      record {
        members = ap (λ y. length y.others.members) (sym i) ∙ length_members n w.others m true t.0 t.1;
        groups = ap (λ y. length y.groups) (sym i) ∙ length_inserted 32 w.groups (m / 32);
      },
      ap (λ y. y.first) (sym i),
    )
  where
    put : CountedSet → Worklist
    put o = record { first = w.first; far = w.far; far_size = w.far_size; others = o; groups = inserted 32 w.groups (m / 32) }

-- what is remembered is no part of its words, nor of the first
far_is : (b : Bool) (w : Worklist) (a s : ℕ) → let r = cond b w (with_far w a s) in Alike w r × (r.first ≡ w.first)
far_is true w a s = (record { members = refl; groups = refl }, refl)
far_is false w a s = (record { members = refl; groups = refl }, refl)

remembering_is : (m : ℕ) (w : Worklist) → Alike w (remembering m w) × ((remembering m w).first ≡ w.first)
unfolding remembering
remembering_is m w = far_is (ltb m w.far) w m w.others.size

forgotten_is : (w : Worklist) → Alike w (forgotten w) × ((forgotten w).first ≡ w.first)
unfolding forgotten
forgotten_is w = far_is (eqb w.far_size 0) w 0 0

-- a node enters: above k, if it and the first are
module _ (n : ℕ) (w : Worklist) (m : ℕ) (r : Worklist) where
  abbrev Enters : Type 0
  Enters = Alike w r × ((k : ℕ) → k < m → k < w.first → k < r.first)

  pub node_is : with_node n w m ≡ Some r → Enters
  unfolding with_node alone before
  node_is e = go (ltb w.first m) refl (eqb m w.first) (ltb w.first n) (eqb w.first n) e
    where
      same : w ≡ r → Enters
      same i = (record { members = ap (λ y. length y.others.members) (sym i); groups = ap (λ y. length y.groups) (sym i) }, λ k a b. rw i at b)

      lower : with_first w m ≡ r → Enters
      lower i = (record { members = ap (λ y. length y.others.members) (sym i); groups = ap (λ y. length y.groups) (sym i) }, λ k a b. let x : m ≡ r.first = ap (λ y. y.first) i in omega (arith, x))

      put : and_then (behind n (with_first w m) w.first) (λ v. Some (remembering w.first v)) ≡ Some r → Enters
      put h =
          let t = then_some (behind n (with_first w m) w.first) (λ v. Some (remembering w.first v)) r h in
          let b = behind_is n (with_first w m) w.first t.0 t.1 in
          let c : Alike t.0 r × (r.first ≡ t.0.first) = rw (some_is (remembering w.first t.0) r t.2) at (remembering_is w.first t.0) in
          (record { members = c.0.members ∙ b.0.members; groups = c.0.groups ∙ b.0.groups }, λ k x y. omega (arith, b.1, c.1))

      go : (a : Bool) → ltb w.first m ≡ a → (b c d : Bool)
          → cond a (behind n w m) (cond b (Some w) (cond c (and_then (behind n (with_first w m) w.first) (λ v. Some (remembering w.first v))) (cond d (Some (with_first w m)) None))) ≡ Some r → Enters
      go true p b c d h = let x = behind_is n w m r h in (x.0, λ k y z. omega (arith, x.1))
      go false p true c d h = same (some_is w r h)
      go false p false true d h = put h
      go false p false false true h = lower (some_is (with_first w m) r h)
      go false p false false false h = let z : ◌≡◌ {A = ℕ} 0 1 = cc in absurd (omega arith)

-- the first leaves: what comes first is above it
module _ (n : ℕ) (w : Worklist) (r : Worklist) where
  abbrev Leaves : Type 0
  Leaves = Alike w r × (w.first < n → w.first < r.first)

  alike_groups : (b : Bool) (q : ℕ) → length (cond b w.groups (removed 32 w.groups q)) ≡ length w.groups
  alike_groups true q = refl
  alike_groups false q = length_removed 32 w.groups q

  advance_is : (q m : ℕ) → advance n w q m ≡ Some r → Leaves
  unfolding advance advanced
  advance_is q m e =
      let t = if_some (ltb q (words32 n) && filled w.others.members q && ltb w.first m) (Some (advanced w q m)) r e in
      let i : advanced w q m ≡ r = some_is (advanced w q m) r t.1 in
      let x : m ≡ r.first = ap (λ y. y.first) i in
      let b : ltb w.first m ≡ true = both_right (ltb q (words32 n) && filled w.others.members q) (ltb w.first m) t.0 in (
        record {
          members = ap (λ y. length y.others.members) (sym i) ∙ length_removed 32 w.others.members m;
          groups = ap (λ y. length y.groups) (sym i) ∙ alike_groups (filled (removed 32 w.others.members m) q) q;
        },
        λ l. omega (arith, x, ltb-true w.first m b),
      )

  pub left_is : without_first n w ≡ Some r → Leaves
  unfolding without_first
  left_is e = go (eqb w.others.size 0) e
    where
      last : forgotten (with_first w n) ≡ r → Leaves
      last i =
          let b : Alike (with_first w n) r × (r.first ≡ n) = rw i at (forgotten_is (with_first w n)) in
          (record { members = b.0.members; groups = b.0.groups }, λ l. omega (arith, b.1))

      go : (b : Bool) → cond b (Some (forgotten (with_first w n))) (advance n w (next_filled w) (next 32 w.others.members (32 * next_filled w))) ≡ Some r → Leaves
      go true h = last (some_is (forgotten (with_first w n)) r h)
      go false h = advance_is (next_filled w) (next 32 w.others.members (32 * next_filled w)) h

module _ (T : Tables) where
  -- ---- one part replaced by one as long

  pub truths_fit : (e : Evaluation) (k v : ℕ) → Fits T e → Fits T (with_truths e (set e.truths k v))
  truths_fit e k v f =
      record { truths = length-set e.truths k v ∙ f.truths; worklist = f.worklist; support = f.support; candidate = f.candidate; missing = f.missing; false_roots = f.false_roots; groups = f.groups }

  pub worklist_fits : (e : Evaluation) (w : Worklist) → Alike e.worklist w → Fits T e → Fits T (with_worklist e w)
  worklist_fits e w l f =
      record { truths = f.truths; worklist = l.members ∙ f.worklist; support = f.support; candidate = f.candidate; missing = f.missing; false_roots = f.false_roots; groups = l.groups ∙ f.groups }

  pub support_fits : (e : Evaluation) (a v : ℕ) (m : CountedSet) → length m.members ≡ length e.missing.members → Fits T e → Fits T (with_support e (set e.support a v) m)
  support_fits e a v m l f =
      record { truths = f.truths; worklist = f.worklist; support = length-set e.support a v ∙ f.support; candidate = f.candidate; missing = l ∙ f.missing; false_roots = f.false_roots; groups = f.groups }

  pub candidate_fits : (e : Evaluation) (a : ℕ) (x : Bool) (m : CountedSet) → length m.members ≡ length e.missing.members → Fits T e → Fits T (with_candidate e (with_bit e.candidate a x) m)
  candidate_fits e a x m l f =
      record { truths = f.truths; worklist = f.worklist; support = f.support; candidate = length-bit e.candidate a x ∙ f.candidate; missing = l ∙ f.missing; false_roots = f.false_roots; groups = f.groups }

  pub roots_fit : (e : Evaluation) (r : CountedSet) → length r.members ≡ length e.false_roots.members → Fits T e → Fits T (with_false_roots e r)
  roots_fit e r l f =
      record { truths = f.truths; worklist = f.worklist; support = f.support; candidate = f.candidate; missing = f.missing; false_roots = l ∙ f.false_roots; groups = f.groups }

  -- ---- a reader told

  entered_fits : (m : ℕ) (e d : Evaluation) → entered T m e ≡ Some d → Fits T e → Fits T d
  unfolding entered
  entered_fits m e d h f =
      let t = then_some (with_node (node_count T) e.worklist m) (λ w. Some (with_worklist e w)) d h in
      rw (some_is (with_worklist e t.0) d t.2) at (worklist_fits e t.0 (node_is (node_count T) e.worklist m t.0 t.1).0 f)

  -- what waits is above k
  abbrev pub Above : ℕ → Evaluation → Type 0
  Above k e = k < e.worklist.first

  entered_above : (k m : ℕ) (e d : Evaluation) → entered T m e ≡ Some d → k < m → Above k e → Above k d
  unfolding entered
  entered_above k m e d h l a =
      let t = then_some (with_node (node_count T) e.worklist m) (λ w. Some (with_worklist e w)) d h in
      let i : t.0.first ≡ d.worklist.first = ap (λ y. y.worklist.first) (some_is (with_worklist e t.0) d t.2) in
      omega (arith, i, (node_is (node_count T) e.worklist m t.0 t.1).1 k l a)

  pub missing_long : (a s n : ℕ) (e : Evaluation) (m : CountedSet) → missing_by T a s n e ≡ Some m → length m.members ≡ length e.missing.members
  unfolding missing_by
  missing_long a s n e m h = go (eqb s 0 || eqb n 0) h
    where
      go : (b : Bool) → cond b (with_member (atom_count T) e.missing a (present e a && eqb n 0)) (Some e.missing) ≡ Some m → length m.members ≡ length e.missing.members
      go true h = length_members (atom_count T) e.missing a (present e a && eqb n 0) m h
      go false h = ap (λ y. length y.members) (sym (some_is e.missing m h))

  moved_fits : (t : Bool) (a : ℕ) (e d : Evaluation) → support_moved T t a e ≡ Some d → Fits T e → Fits T d
  unfolding support_moved
  moved_fits t a e d h f =
      let p = then_some (moved T.made t (get_or e.support a 0)) (λ n. and_then (missing_by T a (get_or e.support a 0) n e) (λ m. Some (with_support e (set e.support a n) m))) d h in
      let q = then_some (missing_by T a (get_or e.support a 0) p.0 e) (λ m. Some (with_support e (set e.support a p.0) m)) d p.2 in
      rw (some_is (with_support e (set e.support a p.0) q.0) d q.2) at
      (support_fits e a p.0 q.0 (missing_long a (get_or e.support a 0) p.0 e q.0 q.1) f)

  turned_fits : (t : Bool) (r : ℕ) (e d : Evaluation) → root_turned T t r e ≡ Some d → Fits T e → Fits T d
  unfolding root_turned
  turned_fits t r e d h f =
      let p = then_some (with_member (root_count T) e.false_roots r (not t)) (λ m. Some (with_false_roots e m)) d h in
      rw (some_is (with_false_roots e p.0) d p.2) at (roots_fit e p.0 (length_members (root_count T) e.false_roots r (not t) p.0 p.1) f)

  moved_above : (t : Bool) (a : ℕ) (e d : Evaluation) → support_moved T t a e ≡ Some d → e.worklist ≡ d.worklist
  unfolding support_moved
  moved_above t a e d h =
      let p = then_some (moved T.made t (get_or e.support a 0)) (λ n. and_then (missing_by T a (get_or e.support a 0) n e) (λ m. Some (with_support e (set e.support a n) m))) d h in
      let q = then_some (missing_by T a (get_or e.support a 0) p.0 e) (λ m. Some (with_support e (set e.support a p.0) m)) d p.2 in
      ap (λ y. y.worklist) (some_is (with_support e (set e.support a p.0) q.0) d q.2)

  turned_above : (t : Bool) (r : ℕ) (e d : Evaluation) → root_turned T t r e ≡ Some d → e.worklist ≡ d.worklist
  unfolding root_turned
  turned_above t r e d h =
      let p = then_some (with_member (root_count T) e.false_roots r (not t)) (λ m. Some (with_false_roots e m)) d h in
      ap (λ y. y.worklist) (some_is (with_false_roots e p.0) d p.2)

  reader_above : (k : ℕ) (t : Bool) (e d : Evaluation) (x : Reading) → reader_updated T k t e x ≡ Some d → Above k e → Above k d
  unfolding reader_updated
  reader_above k t e d (Node m) h a =
      let p = if_some (ltb k m && ltb m (node_count T)) (entered T m e) d h in
      entered_above k m e d p.1 (ltb-true k m (both_left (ltb k m) (ltb m (node_count T)) p.0)) a
  reader_above k t e d (Producer p) h a =
      let i = moved_above t (head_at T p) e d (if_some (ltb p T.made && ltb (head_at T p) (atom_count T)) (support_moved T t (head_at T p) e) d h).1 in
      rw i at a
  reader_above k t e d (Root r) h a = let i = turned_above t r e d (if_some (ltb r (root_count T)) (root_turned T t r e) d h).1 in rw i at a
  reader_above k t e d Unknown h a = let z : ◌≡◌ {A = ℕ} 0 1 = cc in absurd (omega arith)

  readers_above : (k : ℕ) (t : Bool) (e d : Evaluation) (xs : List ℕ) → readers_updated T k t e xs ≡ Some d → Above k e → Above k d
  unfolding readers_updated
  readers_above k t e d [] h a = rw (some_is e d h) at a
  readers_above k t e d (x ∷ xs) h a =
      let p = then_some (reader_updated T k t e (reading_of x)) (λ b. readers_updated T k t b xs) d h in
      readers_above k t p.0 d xs p.2 (reader_above k t e p.0 (reading_of x) p.1 a)

  pub reader_fits : (k : ℕ) (t : Bool) (e d : Evaluation) (x : Reading) → reader_updated T k t e x ≡ Some d → Fits T e → Fits T d
  unfolding reader_updated
  reader_fits k t e d (Node m) h = entered_fits m e d (if_some (ltb k m && ltb m (node_count T)) (entered T m e) d h).1
  reader_fits k t e d (Producer p) h = moved_fits t (head_at T p) e d (if_some (ltb p T.made && ltb (head_at T p) (atom_count T)) (support_moved T t (head_at T p) e) d h).1
  reader_fits k t e d (Root r) h = turned_fits t r e d (if_some (ltb r (root_count T)) (root_turned T t r e) d h).1
  reader_fits k t e d Unknown h = let z : ◌≡◌ {A = ℕ} 0 1 = cc in absurd (omega arith)

  pub readers_fit : (k : ℕ) (t : Bool) (e d : Evaluation) (xs : List ℕ) → readers_updated T k t e xs ≡ Some d → Fits T e → Fits T d
  unfolding readers_updated
  readers_fit k t e d [] h f = rw (some_is e d h) at f
  readers_fit k t e d (x ∷ xs) h f =
      let p = then_some (reader_updated T k t e (reading_of x)) (λ b. readers_updated T k t b xs) d h in
      readers_fit k t p.0 d xs p.2 (reader_fits k t e p.0 (reading_of x) p.1 f)

  -- ---- a step

  took_is : (k m : ℕ) (o : Option Evaluation) (d : Evaluation) → took_at k o ≡ took m d → (k ≡ m) × (o ≡ Some d)
  took_is k m None d e = let z : ◌≡◌ {A = ℕ} 0 1 = cc in absurd (omega arith)
  took_is k m (Some c) d e = (cc, cc)

  pub settled-cases : (k m : ℕ) (t : Bool) (e d : Evaluation) → settled T k t e ≡ took m d → (P : Evaluation → Type 0)
      → P e → ((xs : List ℕ) → readers_updated T k t (with_truths e (set e.truths k (truth_word t))) xs ≡ Some d → P d) → (k ≡ m) × P d
  unfolding settled
  settled-cases k m t e d h P same told = go (unlike (truth_at e k) t) h
    where
      go : (b : Bool) → cond b (took_at k (and_then (readers_at T k) (readers_updated T k t (with_truths e (set e.truths k (truth_word t)))))) (took k e) ≡ took m d → (k ≡ m) × P d
      go true h =
          let p = took_is k m (and_then (readers_at T k) (readers_updated T k t (with_truths e (set e.truths k (truth_word t))))) d h in
          let q = then_some (readers_at T k) (readers_updated T k t (with_truths e (set e.truths k (truth_word t)))) d p.1 in
          (p.0, told q.0 q.2)
      go false h = let i : e ≡ d = cc in (cc, rw i at same)

  -- node m was the first, its truth seen, and it left the worklist
  pub record Taken (e : Evaluation) (m : ℕ) (d : Evaluation) : Type 0 where
    pub first : e.worklist.first ≡ m
    pub below : m < node_count T
    pub truth : Bool
    pub known : seen T e m ≡ Some truth
    pub left : Worklist
    pub off : without_first (node_count T) e.worklist ≡ Some left
    pub rest : settled T m truth (with_worklist e left) ≡ took m d

  pub taken : (e : Evaluation) (m : ℕ) (d : Evaluation) → step T e ≡ took m d → Taken e m d
  unfolding step step_at
  taken e m d h = from e.worklist.first refl h
    where
      from : (k : ℕ) → e.worklist.first ≡ k → step_at T e k ≡ took m d → Taken e m d
      from k f h = go (ltb k (node_count T)) refl (eqb k (node_count T)) h
        where
          whole : k < node_count T → (t : Bool) → seen T e k ≡ Some t → (w : Worklist) → without_first (node_count T) e.worklist ≡ Some w
              → settled T k t (with_worklist e w) ≡ took m d → k ≡ m → Taken e m d
          whole l t s w o h q =
              let made : Taken e k d → Taken e m d = λ x. rw q at x in
              made (record { first = f; below = l; truth = t; known = s; left = w; off = o; rest = h ∙ ap (λ j. took j d) (sym q) })

          leave : k < node_count T → (b : Option Bool) → seen T e k ≡ b → (o : Option Worklist) → without_first (node_count T) e.worklist ≡ o
              → settled_from T k e b o ≡ took m d → Taken e m d
          leave l None s o q h = let z : ◌≡◌ {A = ℕ} 0 1 = cc in absurd (omega arith)
          leave l (Some t) s None q h = let z : ◌≡◌ {A = ℕ} 0 1 = cc in absurd (omega arith)
          leave l (Some t) s (Some w) q h = whole l t s w q h (settled-cases k m t (with_worklist e w) d h (λ y. Unit {0}) tt (λ xs y. tt)).0

          go : (b : Bool) → ltb k (node_count T) ≡ b → (c : Bool)
              → cond b (settled_from T k e (seen T e k) (without_first (node_count T) e.worklist)) (cond c idle (fault 0)) ≡ took m d → Taken e m d
          go true p c h = leave (ltb-true k (node_count T) p) (seen T e k) refl (without_first (node_count T) e.worklist) refl h
          go false p true h = let z : ◌≡◌ {A = ℕ} 0 1 = cc in absurd (omega arith)
          go false p false h = let z : ◌≡◌ {A = ℕ} 0 1 = cc in absurd (omega arith)

  pub step_fits : (e : Evaluation) (m : ℕ) (d : Evaluation) → step T e ≡ took m d → Fits T e → Fits T d
  step_fits e m d h f =
      let t = taken e m d h in
      let g : Fits T (with_worklist e t.left) = worklist_fits e t.left (left_is (node_count T) e.worklist t.left t.off).0 f in
      (settled-cases m m t.truth (with_worklist e t.left) d t.rest (Fits T) g
      (λ xs y. readers_fit m t.truth (with_truths (with_worklist e t.left) (set e.truths m (truth_word t.truth))) d xs y (truths_fit (with_worklist e t.left) m (truth_word t.truth) g))).1

  -- what waits after it is above the node
  pub step-above : (e : Evaluation) (m : ℕ) (d : Evaluation) → step T e ≡ took m d → Above m d
  step-above e m d h =
      let t = taken e m d h in
      let l : e.worklist.first < t.left.first = (left_is (node_count T) e.worklist t.left t.off).1 (omega (arith, t.first, t.below)) in
      let a : Above m (with_worklist e t.left) = omega (arith, t.first, l) in
      (settled-cases m m t.truth (with_worklist e t.left) d t.rest (Above m) a
      (λ xs y. readers_above m t.truth (with_truths (with_worklist e t.left) (set e.truths m (truth_word t.truth))) d xs y a)).1

  -- ---- the start

  pub entered_all_fits : (e d : Evaluation) (ks : List ℕ) → all_entered T e ks ≡ Some d → Fits T e → Fits T d
  unfolding all_entered
  entered_all_fits e d [] h f = rw (some_is e d h) at f
  entered_all_fits e d (k ∷ ks) h f =
      let p = then_some (cond (ltb k (node_count T)) (entered T k e) None) (λ b. all_entered T b ks) d h in
      entered_all_fits p.0 d ks p.2 (entered_fits k e p.0 (if_some (ltb k (node_count T)) (entered T k e) p.0 p.1).1 f)

  pub atom_fits : (J : Interpretation) (a : ℕ) (e d : Evaluation) → atom_turned T J a e ≡ Some d → Fits T e → Fits T d
  unfolding atom_turned
  atom_fits J a e d h f =
      let p = then_some (with_member (atom_count T) e.missing a (J a && eqb (get_or e.support a 0) 0)) (λ m. and_then (atom_nodes_at T a) (all_entered T (with_candidate e (with_bit e.candidate a (J a)) m))) d h in
      let q = then_some (atom_nodes_at T a) (all_entered T (with_candidate e (with_bit e.candidate a (J a)) p.0)) d p.2 in
      entered_all_fits (with_candidate e (with_bit e.candidate a (J a)) p.0) d q.0 q.2
      (candidate_fits e a (J a) p.0 (length_members (atom_count T) e.missing a (J a && eqb (get_or e.support a 0) 0) p.0 p.1) f)

  pub start_fits : (J : Interpretation) (n : ℕ) (e d : Evaluation) → walk_start T J n e ≡ Some d → Fits T e → Fits T d
  unfolding walk_start atom_updated
  start_fits J zero e d h f = rw (some_is e d h) at f
  start_fits J (suc n) e d h f =
      let p = then_some (walk_start T J n e) (atom_updated T J n) d h in
      go (unlike (present p.0 n) (J n)) p.0 p.2 (start_fits J n e p.0 p.1 f)
    where
      go : (b : Bool) (c : Evaluation) → cond b (atom_turned T J n c) (Some c) ≡ Some d → Fits T c → Fits T d
      go true c h f = atom_fits J n c d h f
      go false c h f = rw (some_is c d h) at f
