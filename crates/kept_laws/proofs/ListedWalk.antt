-- A kept check's walk by the tables and by their listed words is the same.
-- Assumes nothing.
use Rattle.std.specs.Prelude.{Option, Some, None}
use Prim.Native.Nat.{ℕ, zero, suc, ◌<◌, ◌≤◌, ◌*◌}
use native.Mathlib.Omega.{arith}
use mathlib.Core.Path.{◌≡◌, refl, ap, ap₂, fun_ext}
use mathlib.Core.Bool.{Bool, true, false, cond, ◌&&◌}
use mathlib.Core.List.{List, [], ◌∷◌}
use lib.Dec.{eqb, ltb}
use lib.ListN.{get_or, length, set}
use borrow.Author.Tests.{ltb-true}
use Rattle.formula.specs.Satisfaction.{Interpretation}
use Rattle.words.specs.Changed.{unlike}
use Rattle.words.specs.Next.{next}
use Rattle.readers.specs.declared.Reading.{Reading}
use Rattle.readers.specs.declared.Reading.TheVariants.{Node, Producer, Root, Unknown}
use Rattle.readers.specs.Reader.{reading_of}
use Rattle.kept.specs.CountedSet.{and_then, with_bit, with_member, Lookup, empty, astray, at, lookup}
use Rattle.kept.specs.Worklist.{Worklist, without_first}
use Rattle.kept.specs.Tables.{Tables, atom_count, node_count, root_count, head_at}
use Rattle.kept.specs.Evaluation.{Evaluation, truth_at, present, truth_word}
use Rattle.kept.specs.Parts.{with_truths, with_worklist, with_candidate}
use Rattle.kept.specs.Step.{Stepped, idle, took, fault, entered, missing_by, support_moved, root_turned, reader_updated, readers_updated, took_at, settled, seen, settled_from, step_at, step}
use Rattle.kept.specs.Start.{all_entered, atom_turned, atom_updated, walk_start}
use Rattle.kept.specs.Walk.{broken, onward, walk, walk_from, kept_walk}
use Rattle.kept.specs.Verdict.{not_model, judged, verdict_of}
use Rattle.kept_laws.specs.Listed.{listed_tables}
use Rattle.kept_laws.proofs.ListedReads.{seen-listed, readers-listed, atom_nodes_listed, head_listed, root_listed}

module _ (T : Tables) where
  -- ---- the start

  all_entered-listed : (e : Evaluation) (ks : List ℕ) → all_entered (listed_tables T) e ks ≡ all_entered T e ks
  unfolding all_entered entered
  all_entered-listed e [] = refl
  all_entered-listed e (k ∷ ks) = ap (and_then (cond (ltb k (node_count T)) (entered T k e) None)) (fun_ext (λ d. all_entered-listed d ks))

  atom_turned-listed : (J : Interpretation) (a : ℕ) (e : Evaluation) → a < atom_count T → atom_turned (listed_tables T) J a e ≡ atom_turned T J a e
  unfolding atom_turned
  atom_turned-listed J a e l =
      ap (and_then (with_member (atom_count T) e.missing a (J a && eqb (get_or e.support a 0) 0)))
      (fun_ext (λ m. ap₂ (λ o f. and_then o f) (atom_nodes_listed T a l) (fun_ext (all_entered-listed (with_candidate e (with_bit e.candidate a (J a)) m)))))

  atom_updated-listed : (J : Interpretation) (a : ℕ) (e : Evaluation) → a < atom_count T → atom_updated (listed_tables T) J a e ≡ atom_updated T J a e
  unfolding atom_updated
  atom_updated-listed J a e l = ap (λ o. cond (unlike (present e a) (J a)) o (Some e)) (atom_turned-listed J a e l)

  start_listed : (J : Interpretation) (n : ℕ) (e : Evaluation) → n ≤ atom_count T → walk_start (listed_tables T) J n e ≡ walk_start T J n e
  unfolding walk_start
  start_listed J zero e l = refl
  start_listed J (suc a) e l =
      ap₂ (λ o f. and_then o f) (start_listed J a e (omega arith)) (fun_ext (λ d. atom_updated-listed J a d (omega arith)))

  -- ---- the verdict that an evaluation tells

  pub verdict_of-listed : (e : Evaluation) → verdict_of (listed_tables T) e ≡ verdict_of T e
  unfolding verdict_of lookup judged
  verdict_of-listed e = go (eqb e.false_roots.size 0) (ltb (next 32 e.false_roots.members 0) (root_count T)) refl
    where
      m : Lookup
      m = lookup (atom_count T) 0 e.missing

      r : ℕ
      r = next 32 e.false_roots.members 0

      none_found : (m : Lookup) → judged (listed_tables T) empty m ≡ judged T empty m
      none_found empty = refl
      none_found astray = refl
      none_found (at a) = refl

      go : (x y : Bool) → ltb r (root_count T) ≡ y → judged (listed_tables T) (cond x empty (cond y (at r) astray)) m ≡ judged T (cond x empty (cond y (at r) astray)) m
      go true y q = none_found m
      go false true q = ap (λ k. cond (ltb k (node_count T)) (Some (not_model k)) None) (root_listed T r (ltb-true r (root_count T) q))
      go false false q = refl

  module _ (few : T.made ≤ root_count T) where
    -- ---- a step

    reader_listed : (k : ℕ) (t : Bool) (e : Evaluation) (x : Reading) → reader_updated (listed_tables T) k t e x ≡ reader_updated T k t e x
    unfolding reader_updated entered missing_by support_moved root_turned
    reader_listed k t e (Node m) = refl
    reader_listed k t e (Producer p) = go (ltb p T.made) refl
      where
        go : (b : Bool) → ltb p T.made ≡ b
            → cond (b && ltb (head_at (listed_tables T) p) (atom_count T)) (support_moved (listed_tables T) t (head_at (listed_tables T) p) e) None
            ≡ cond (b && ltb (head_at T p) (atom_count T)) (support_moved T t (head_at T p) e) None
        go true q = ap (λ a. cond (ltb a (atom_count T)) (support_moved T t a e) None) (head_listed T p (omega (arith, ltb-true p T.made q)))
        go false q = refl
    reader_listed k t e (Root r) = refl
    reader_listed k t e Unknown = refl

    all_readers-listed : (k : ℕ) (t : Bool) (e : Evaluation) (xs : List ℕ) → readers_updated (listed_tables T) k t e xs ≡ readers_updated T k t e xs
    unfolding readers_updated
    all_readers-listed k t e [] = refl
    all_readers-listed k t e (x ∷ xs) = ap₂ (λ o f. and_then o f) (reader_listed k t e (reading_of x)) (fun_ext (λ d. all_readers-listed k t d xs))

    settled-listed : (k : ℕ) (t : Bool) (e : Evaluation) → k < node_count T → settled (listed_tables T) k t e ≡ settled T k t e
    unfolding settled
    settled-listed k t e l =
        ap₂ (λ o f. cond (unlike (truth_at e k) t) (took_at k (and_then o f)) (took k e)) (readers-listed T k l)
        (fun_ext (all_readers-listed k t (with_truths e (set e.truths k (truth_word t)))))

    settled_from-listed : (k : ℕ) (e : Evaluation) → k < node_count T → (o : Option Bool) (w : Option Worklist) → settled_from (listed_tables T) k e o w ≡ settled_from T k e o w
    settled_from-listed k e l None w = refl
    settled_from-listed k e l (Some t) None = refl
    settled_from-listed k e l (Some t) (Some w) = settled-listed k t (with_worklist e w) l

    step_at-listed : (e : Evaluation) (k : ℕ) → step_at (listed_tables T) e k ≡ step_at T e k
    unfolding step_at seen
    step_at-listed e k = go (ltb k (node_count T)) refl
      where
        rest : Stepped
        rest = cond (eqb k (node_count T)) idle (fault 0)

        go : (b : Bool) → ltb k (node_count T) ≡ b
            → cond b (settled_from (listed_tables T) k e (seen (listed_tables T) e k) (without_first (node_count T) e.worklist)) rest
            ≡ cond b (settled_from T k e (seen T e k) (without_first (node_count T) e.worklist)) rest
        go true q =
            let l : k < node_count T = ltb-true k (node_count T) q in
            rw (seen-listed T (present e) (truth_at e) k l) (settled_from-listed k e l (seen T e k) (without_first (node_count T) e.worklist))
        go false q = refl

    -- ---- the walk

    steps-listed : (n : ℕ) (e : Evaluation) → walk (listed_tables T) n e ≡ walk T n e
    unfolding walk step
    steps-listed zero e = refl
    steps-listed (suc n) e = ap₂ (onward e) (fun_ext (steps-listed n)) (step_at-listed e e.worklist.first)

    walk_from-listed : (o : Option Evaluation) → walk_from (listed_tables T) o ≡ walk_from T o
    walk_from-listed None = refl
    walk_from-listed (Some e) = steps-listed (suc (node_count T)) e

    pub walk-listed : (J : Interpretation) (e : Evaluation) → kept_walk (listed_tables T) J e ≡ kept_walk T J e
    unfolding kept_walk
    walk-listed J e =
        ap (cond (ltb (next 32 e.candidate (atom_count T)) (32 * length e.candidate)) (broken 0))
        (rw (start_listed J (atom_count T) e (omega arith)) (walk_from-listed (walk_start T J (atom_count T) e)))
