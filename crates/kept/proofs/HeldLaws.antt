-- What each part of a step and of the walk's start makes of a held evaluation.
-- Assumes nothing.
use Prim.Native.Nat.{ℕ, ◌<◌}
use Rattle.std.specs.Prelude.{◌≡◌, true, false, not, cond, ◌&&◌, ◌||◌, List, [], ◌∷◌, ◌++◌, get_or, set, Option, Some, None}
use Rattle.std.proofs.Math.Path.{refl, ap, ap₂}
use Rattle.std.proofs.Common.{sym, ◌∙◌}
use Rattle.std.proofs.Math.Bool.{Bool}
use Rattle.std.proofs.Math.Dec.{eqb}
use borrow.Author.Tests.{lt-ltb}
use Rattle.readers.specs.declared.Reading.TheVariants.{Node, Producer, Root}
use Rattle.readers.specs.Reader.{reading_of}
use Rattle.kept.specs.Tabulate.{updated, updated_here, updated_there, updated_is, updated_same, tabulate_at, tabulate_agree, tabulate-set}
use Rattle.words.specs.Sets.{member}
use Rattle.kept.specs.SetOf.{set_of}
use Rattle.kept.specs.SetOfLaws.{member_below, set_of-agree}
use Rattle.kept.specs.CountedSet.{and_then, counted_set, with_bit, with_member, moved}
use Rattle.kept.proofs.CountedSetLaws.{counted_agree, bit-set, member-set}
use Rattle.kept.specs.Worklist.{Worklist, with_node}
use Rattle.kept.specs.Tables.{Tables, atom_count, node_count, root_count, head_at}
use Rattle.kept.specs.Evaluation.{Evaluation, truth_at, present, truth_word, held}
use Rattle.kept.specs.Parts.{with_truths, with_support, with_candidate, with_false_roots}
use Rattle.kept.specs.Step.{entered, missing_by, support_moved, root_turned, reader_updated, readers_updated}

module _ (T : Tables) where
  pub held_agree : (v v' : ℕ → Bool) (w : Worklist) (s s' : ℕ → ℕ) (c c' f f' : ℕ → Bool)
      → ((k : ℕ) → k < node_count T → v k ≡ v' k)
      → ((a : ℕ) → a < atom_count T → s a ≡ s' a) → ((a : ℕ) → a < atom_count T → c a ≡ c' a)
      → ((r : ℕ) → r < root_count T → f r ≡ f' r) → held T v w s c f ≡ held T v' w s' c' f'
  unfolding held
  held_agree v v' w s s' c c' f f' hv hs hc hf = λ i.
      record {
        state = 1;
        stamp = T.counts.stamp;
        truths = tabulate_agree (node_count T) (λ k. truth_word (v k)) (λ k. truth_word (v' k)) (λ k l. ap truth_word (hv k l)) i;
        worklist = w;
        support = tabulate_agree (atom_count T) s s' hs i;
        candidate = set_of-agree c c' (atom_count T) hc i;
        missing = counted_agree (λ a. c a && eqb (s a) 0) (λ a. c' a && eqb (s' a) 0) (atom_count T) (λ a l. ap₂ (λ x y. x && eqb y 0) (hc a l) (hs a l)) i;
        false_roots = counted_agree f f' (root_count T) hf i;
      }

  -- one part alone
  pub support_agree : (v : ℕ → Bool) (w : Worklist) (s s' : ℕ → ℕ) (c f : ℕ → Bool) → ((a : ℕ) → a < atom_count T → s a ≡ s' a) → held T v w s c f ≡ held T v w s' c f
  support_agree v w s s' c f h = held_agree v v w s s' c c f f (λ k l. refl) h (λ a l. refl) (λ r l. refl)

  pub roots_agree : (v : ℕ → Bool) (w : Worklist) (s : ℕ → ℕ) (c f f' : ℕ → Bool) → ((r : ℕ) → r < root_count T → f r ≡ f' r) → held T v w s c f ≡ held T v w s c f'
  roots_agree v w s c f f' h = held_agree v v w s s c c f f' (λ k l. refl) (λ a l. refl) (λ a l. refl) h

  module _ (v : ℕ → Bool) (w : Worklist) (s : ℕ → ℕ) (c f : ℕ → Bool) where
    -- ---- what it shows

    nonzero : (b : Bool) → not (eqb (truth_word b) 0) ≡ b
    nonzero true = refl
    nonzero false = refl

    pub truth-held : (k : ℕ) → k < node_count T → truth_at (held T v w s c f) k ≡ v k
    unfolding held
    truth-held k l = rw (tabulate_at (node_count T) (λ k. truth_word (v k)) 0 k l) (nonzero (v k))

    pub present-held : (a : ℕ) → a < atom_count T → present (held T v w s c f) a ≡ c a
    unfolding held
    present-held a l = member_below c (atom_count T) a l

    support-held : (a : ℕ) → a < atom_count T → get_or (held T v w s c f).support a 0 ≡ s a
    unfolding held
    support-held a l = tabulate_at (atom_count T) s 0 a l

    -- ---- one part replaced

    word_updated : (k : ℕ) (x : Bool) (j : ℕ) → updated (λ k. truth_word (v k)) k (truth_word x) j ≡ truth_word (updated v k x j)
    word_updated k x =
        updated_is (λ k. truth_word (v k)) (λ j. truth_word (updated v k x j)) k (truth_word x) (ap truth_word (sym (updated_here v k x)))
        (λ j h. ap truth_word (sym (updated_there v k x j h)))

    pub truths_held : (k : ℕ) (x : Bool) → with_truths (held T v w s c f) (set (held T v w s c f).truths k (truth_word x)) ≡ held T (updated v k x) w s c f
    unfolding held
    truths_held k x =
        ap (with_truths (held T v w s c f)) (tabulate-set (node_count T) (λ k. truth_word (v k)) k (truth_word x)
        ∙ tabulate_agree (node_count T) (updated (λ k. truth_word (v k)) k (truth_word x)) (λ j. truth_word (updated v k x j)) (λ j l. word_updated k x j))

    pub roots_held : (r : ℕ) (x : Bool) → r < root_count T
        → and_then (with_member (root_count T) (held T v w s c f).false_roots r x) (λ m. Some (with_false_roots (held T v w s c f) m)) ≡ Some (held T v w s c (updated f r x))
    unfolding held
    roots_held r x l = rw (member-set f (root_count T) r x l)

    missing_supported : (a n j : ℕ) → updated (λ a. c a && eqb (s a) 0) a (c a && eqb n 0) j ≡ c j && eqb (updated s a n j) 0
    missing_supported a n =
        updated_is (λ a. c a && eqb (s a) 0) (λ j. c j && eqb (updated s a n j) 0) a (c a && eqb n 0) (ap (λ x. c a && eqb x 0) (sym (updated_here s a n)))
        (λ j h. ap (λ x. c j && eqb x 0) (sym (updated_there s a n j h)))

    missing_by_lem : (a n : ℕ) → a < atom_count T → missing_by T a (s a) n (held T v w s c f) ≡ Some (counted_set (λ j. c j && eqb (updated s a n j) 0) (atom_count T))
    unfolding missing_by held
    missing_by_lem a n l = go (eqb (s a) 0) (eqb n 0) refl refl
      where
        lacks : ℕ → Bool
        lacks j = c j && eqb (s j) 0

        later : ℕ → Bool
        later j = c j && eqb (updated s a n j) 0

        turned : (x y : Bool) → x || y ≡ true → eqb n 0 ≡ y
            → cond (x || y) (with_member (atom_count T) (counted_set lacks (atom_count T)) a (member 32 (set_of c (atom_count T)) a && y)) (Some (counted_set lacks (atom_count T)))
            ≡ Some (counted_set later (atom_count T))
        turned x y b q =
            rw (b, member_below c (atom_count T) a l, ← q, member-set lacks (atom_count T) a (c a && eqb n 0) l)
            (ap Some (counted_agree (updated lacks a (c a && eqb n 0)) later (atom_count T) (λ j i. missing_supported a n j)))

        go : (x y : Bool) → eqb (s a) 0 ≡ x → eqb n 0 ≡ y
            → cond (x || y) (with_member (atom_count T) (counted_set lacks (atom_count T)) a (member 32 (set_of c (atom_count T)) a && y)) (Some (counted_set lacks (atom_count T)))
            ≡ Some (counted_set later (atom_count T))
        go true y p q = turned true y refl q
        go false true p q = turned false true refl q
        go false false p q =
            ap Some (counted_agree lacks later (atom_count T)
            (λ j i. sym (updated_same lacks a (c a && eqb n 0) (ap (λ b. c a && b) (p ∙ sym q)) j) ∙ missing_supported a n j))

    pub supports-held : (a n : ℕ) → a < atom_count T
        → and_then (missing_by T a (s a) n (held T v w s c f)) (λ m. Some (with_support (held T v w s c f) (set (held T v w s c f).support a n) m))
        ≡ Some (held T v w (updated s a n) c f)
    unfolding held
    supports-held a n l =
        rw (missing_by_lem a n l) (ap (λ x. Some (with_support (held T v w s c f) x (counted_set (λ j. c j && eqb (updated s a n j) 0) (atom_count T)))) (tabulate-set (atom_count T) s a n))

    missing_turned_lem : (a : ℕ) (x : Bool) (j : ℕ) → updated (λ a. c a && eqb (s a) 0) a (x && eqb (s a) 0) j ≡ updated c a x j && eqb (s j) 0
    missing_turned_lem a x =
        updated_is (λ a. c a && eqb (s a) 0) (λ j. updated c a x j && eqb (s j) 0) a (x && eqb (s a) 0) (ap (λ y. y && eqb (s a) 0) (sym (updated_here c a x)))
        (λ j h. ap (λ y. y && eqb (s j) 0) (sym (updated_there c a x j h)))

    -- whatever comes after
    pub candidate-held : {B : Type 0} (next : Evaluation → Option B) (a : ℕ) (x : Bool) → a < atom_count T
        → and_then (with_member (atom_count T) (held T v w s c f).missing a (x && eqb (get_or (held T v w s c f).support a 0) 0)) (λ m. next (with_candidate (held T v w s c f) (with_bit (held T v w s c f).candidate a x) m))
        ≡ next (held T v w s (updated c a x) f)
    unfolding held
    candidate-held next a x l =
        rw (tabulate_at (atom_count T) s 0 a l, member-set (λ a. c a && eqb (s a) 0) (atom_count T) a (x && eqb (s a) 0) l)
        (ap₂ (λ y z. next (with_candidate (held T v w s c f) y z)) (bit-set c (atom_count T) a x l)
        (counted_agree (updated (λ a. c a && eqb (s a) 0) a (x && eqb (s a) 0)) (λ j. updated c a x j && eqb (s j) 0) (atom_count T) (λ j i. missing_turned_lem a x j)))

    -- ---- a reader told

    pub entered-held : (m : ℕ) (w' : Worklist) → with_node (node_count T) w m ≡ Some w' → entered T m (held T v w s c f) ≡ Some (held T v w' s c f)
    unfolding entered held
    entered-held m w' e = rw e

    pub node_told : (k m : ℕ) (t : Bool) (w' : Worklist) → k < m → m < node_count T → with_node (node_count T) w m ≡ Some w'
        → reader_updated T k t (held T v w s c f) (Node m) ≡ Some (held T v w' s c f)
    unfolding reader_updated
    node_told k m t w' h l e = rw (lt-ltb k m h, lt-ltb m (node_count T) l) (entered-held m w' e)

    pub root_told : (k r : ℕ) (t : Bool) → r < root_count T → reader_updated T k t (held T v w s c f) (Root r) ≡ Some (held T v w s c (updated f r (not t)))
    unfolding reader_updated root_turned
    root_told k r t h = rw (lt-ltb r (root_count T) h) (roots_held r (not t) h)

    pub producer-told : (k p n : ℕ) (t : Bool) → p < T.made → head_at T p < atom_count T → moved T.made t (s (head_at T p)) ≡ Some n
        → reader_updated T k t (held T v w s c f) (Producer p) ≡ Some (held T v w (updated s (head_at T p) n) c f)
    unfolding reader_updated support_moved
    producer-told k p n t h l e =
        rw (lt-ltb p T.made h, lt-ltb (head_at T p) (atom_count T) l, support-held (head_at T p) l, e)
        (supports-held (head_at T p) n l)

pub told-append : (T : Tables) (k : ℕ) (t : Bool) (e : Evaluation) (xs ys : List ℕ)
    → readers_updated T k t e (xs ++ ys) ≡ and_then (readers_updated T k t e xs) (λ d. readers_updated T k t d ys)
unfolding readers_updated
told-append T k t e [] ys = refl
told-append T k t e (x ∷ xs) ys = go (reader_updated T k t e (reading_of x)) (λ d. told-append T k t d xs ys)
  where
    go : (o : Option Evaluation)
        → ((d : Evaluation) → readers_updated T k t d (xs ++ ys) ≡ and_then (readers_updated T k t d xs) (λ d. readers_updated T k t d ys))
        → and_then o (λ d. readers_updated T k t d (xs ++ ys)) ≡ and_then (and_then o (λ d. readers_updated T k t d xs)) (λ d. readers_updated T k t d ys)
    go None ih = refl
    go (Some d) ih = ih d
