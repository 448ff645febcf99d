-- The start of the walk, pair of words by pair: the changed atoms from pair p on are left.
-- Assumes nothing.
use Prim.Native.Nat.{ℕ, zero, suc, ◌<◌, ◌≤◌, ◌+◌, ◌-◌, ◌*◌, ◌/◌, ◌%◌}
use native.Mathlib.Omega.{arith}
use Rattle.std.specs.Prelude.{◌≡◌, Bool, length, get_or, Option, Some, None}
use Rattle.std.proofs.Math.Path.{refl, ap, sym}
use Rattle.std.proofs.Common.{ap₂, ◌∙◌}
use Rattle.std.proofs.Math.Logic.{⊎_elim}
use Rattle.std.proofs.Math.Bool.{true, false}
use mathlib.Core.List.{List, [], ◌∷◌, ◌++◌, append-nil}
use Rattle.base.specs.Tests.{below_or}
use Rattle.base.specs.Places.{places, places-yes, places_no, places_agree, places-split, places_none}
use Rattle.formula.specs.Satisfaction.{Interpretation}
use Rattle.formula.specs.Passes.{Within}
use Rattle.words.specs.Bit.{bit}
use Rattle.words.specs.Changed.{unlike}
use Rattle.words.specs.Sets.{member}
use Rattle.words.specs.Next.{next}
use Rattle.words.specs.NextLaws.{next_is}
use Rattle.kept.specs.Tabulate.{tabulate_at}
use Rattle.kept.specs.SetOf.{words32, words64, set_of}
use Rattle.kept.specs.SetOfLaws.{member_below}
use Rattle.kept.specs.CountedSet.{and_then}
use Rattle.kept.specs.Tables.{Tables, atom_count}
use Rattle.kept.specs.Evaluation.{Evaluation, present}
use Rattle.kept.specs.Start.{atom_turned, walk_start}
use Rattle.kept.specs.Layout.{of_words, used, candidate_start}
use Rattle.kept.specs.LayoutLaws.{Fits, fits_of}
use Rattle.kept_laws.specs.FitsLaws.{atom_fits}
use Rattle.kept_laws.specs.OptionLaws.{some_is, then_some}
use Rattle.words.specs.Halves.{half}
use Rattle.kept_laws.specs.Halves.{halves}
use Rattle.kept_laws.specs.StartChanged.{all_turned, start_changed, turned_present}
use Rattle.kept_laws.specs.Written.{get_candidate, of_written}
use Rattle.difference.specs.Marks.{Same, Upto}
use Rattle.kept_laws.specs.Wrote.{Wrote, wrote_done, wrote_out_of_range, Changing, done, out_of_range}
use Rattle.start.specs.WordLaws.{turned_none}
use Rattle.start.specs.PairLaws.{place_member}
use Rattle.start.specs.Onward.{Onward, onward_first, onward-room, onward_stray, onward_done, onward_more}

-- ---- atoms turned one after the other

module _ (T : Tables) (J : Interpretation) where
  turned_append : (xs ys : List ℕ) (e : Evaluation) → all_turned T J (xs ++ ys) e ≡ and_then (all_turned T J xs e) (all_turned T J ys)
  unfolding all_turned
  turned_append [] ys e = refl
  turned_append (a ∷ xs) ys e = go (atom_turned T J a e) (turned_append xs ys)
    where
      go : (o : Option Evaluation) → ((d : Evaluation) → all_turned T J (xs ++ ys) d ≡ and_then (all_turned T J xs d) (all_turned T J ys))
          → and_then o (all_turned T J (xs ++ ys)) ≡ and_then (and_then o (all_turned T J xs)) (all_turned T J ys)
      go None ih = refl
      go (Some d) ih = ih d

  turned_fits : (xs : List ℕ) (e d : Evaluation) → all_turned T J xs e ≡ Some d → Fits T e → Fits T d
  unfolding all_turned
  turned_fits [] e d h f = rw (some_is e d h) at f
  turned_fits (a ∷ xs) e d h f = let p = then_some (atom_turned T J a e) (all_turned T J xs) d h in turned_fits xs p.0 d p.2 (atom_fits T J a e p.0 p.1 f)

  -- the atoms behind them stay
  turned_behind : (p : ℕ → Bool) → Within (atom_count T) p → (n s : ℕ) (e d : Evaluation) → Fits T e → all_turned T J (places p s n) e ≡ Some d → (j : ℕ) → s + n ≤ j → present d j ≡ present e j
  unfolding all_turned places
  turned_behind p w zero s e d f h j l = ap (λ x. present x j) (sym (some_is e d h))
  turned_behind p w (suc n) s e d f h j l = go (p s) refl (turned_behind p w n (s + 1))
    where
      go : (b : Bool) → p s ≡ b → ((c b : Evaluation) → Fits T c → all_turned T J (places p (s + 1) n) c ≡ Some b → (j : ℕ) → s + 1 + n ≤ j → present b j ≡ present c j) → present d j ≡ present e j
      go true q ih =
          let t = then_some (atom_turned T J s e) (all_turned T J (places p (s + 1) n)) d (ap (λ xs. all_turned T J xs e) (sym (places-yes p s n q)) ∙ h) in
          ih t.0 d (atom_fits T J s e t.0 t.1 f) t.2 j (omega arith) ∙ turned_present T J s j e t.0 t.1 f (w s q) (λ z. omega arith)
      go false q ih = ih e d f (ap (λ xs. all_turned T J xs e) (sym (places_no p s n q)) ∙ h) j (omega arith)

-- ---- a word's places

not_within : (n : ℕ) (I : Interpretation) → Within n I → (j : ℕ) → n ≤ j → I j ≡ false
not_within n I w j l = go (I j) refl
  where
    go : (b : Bool) → I j ≡ b → I j ≡ false
    go true e = absurd (omega (arith, w j e))
    go false e = e

word_place : (ws : List ℕ) (a : ℕ) → member 32 ws a ≡ bit (get_or ws (a / 32) 0) (a % 32)
unfolding member
word_place ws a = refl

half_place : (new : List ℕ) (n a : ℕ) → Within n (member 64 new) → a < n → member 64 new a ≡ bit (half new (a / 32)) (a % 32)
half_place new n a w l =
    sym (member_below (member 64 new) n a l) ∙ word_place (set_of (member 64 new) n) a
    ∙ ap (λ y. bit y (a % 32)) (ap (λ ws. get_or ws (a / 32) 0) (sym (halves new n w)) ∙ tabulate_at (words32 n) (half new) 0 (a / 32) (omega arith))

-- ---- the loop

module _ (T : Tables) (new : List ℕ) (ws : List ℕ) where
  abbrev J : Interpretation
  J = member 64 new

  abbrev e : Evaluation
  e = of_words T ws

  abbrev D : ℕ → Bool
  D a = unlike (present e a) (member 64 new a)

  -- the changed atoms from pair p on
  unfoldable pub later : ℕ → List ℕ
  later p = places D (p * 64) ((words64 (atom_count T) - p) * 64)

  abbrev whole : Option Evaluation
  whole = walk_start T J (atom_count T) e

  -- these are left, and are in the candidate as they were
  pub record Starting (mid : List ℕ) (p : ℕ) : Type 0 where
    pub onward : Onward T ws whole mid (all_turned T J (later p) (of_words T mid))
    pub same : (a : ℕ) → p * 64 ≤ a → present (of_words T mid) a ≡ present e a

  module _ (room : used T ≤ length ws) (wn : Within (atom_count T) (member 64 new)) (wk : Within (atom_count T) (present e)) where
    differ_within : Within (atom_count T) D
    differ_within a h = go (present e a) refl h
      where
        go : (b : Bool) → present e a ≡ b → unlike b (member 64 new a) ≡ true → a < atom_count T
        go true p h = wk a p
        go false p h = wn a h

    -- an atom of a word that is the same is not changed
    same_place : (a : ℕ) → (a / 32 < words32 (atom_count T) → Same (candidate_start T) ws new (a / 32)) → D a ≡ false
    same_place a h = ⊎_elim below (not_within (atom_count T) D differ_within a) (below_or a (atom_count T))
      where
        alike : (b : Bool) → unlike b b ≡ false
        alike true = refl
        alike false = refl

        below : a < atom_count T → D a ≡ false
        below l =
            ap₂ unlike
            (word_place e.candidate a ∙ ap (λ x. bit x (a % 32)) (sym (get_candidate T ws room (a / 32) (omega arith)) ∙ h (omega arith)))
            (half_place new (atom_count T) a wn l)
            ∙ alike (bit (half new (a / 32)) (a % 32))

    all_later : later 0 ≡ places D 0 (atom_count T)
    unfolding later
    all_later =
        let from : 0 * 64 ≡ 0 = omega arith in
        let upto : (words64 (atom_count T) - 0) * 64 ≡ atom_count T + (words64 (atom_count T) * 64 - atom_count T) = omega arith in
        rw (
          from,
          upto,
          places-split D 0 (atom_count T) (words64 (atom_count T) * 64 - atom_count T),
          places_none D (0 + atom_count T) (words64 (atom_count T) * 64 - atom_count T) (λ k a b. not_within (atom_count T) D differ_within k (omega arith)),
          append-nil (places D 0 (atom_count T)),
        )

    none_later : (p : ℕ) → ((a : ℕ) → p * 64 ≤ a → D a ≡ false) → later p ≡ []
    unfolding later
    none_later p alike = places_none D (p * 64) ((words64 (atom_count T) - p) * 64) (λ a b c. alike a b)

    -- pairs in which no atom changed
    skipped : (p q : ℕ) → p ≤ q → ((a : ℕ) → p * 64 ≤ a → a < q * 64 → D a ≡ false) → later p ≡ later q
    unfolding later
    skipped p q l alike =
        ⊎_elim within
        (λ b. none_later p (λ a c. ⊎_elim (alike a c) (past b a) (below_or a (q * 64))) ∙ sym (none_later q (past b)))
        (below_or q (words64 (atom_count T)))
      where
        past : words64 (atom_count T) ≤ q → (a : ℕ) → q * 64 ≤ a → D a ≡ false
        past b a c = not_within (atom_count T) D differ_within a (omega arith)

        within : q < words64 (atom_count T) → later p ≡ later q
        within b =
            let upto : (words64 (atom_count T) - p) * 64 ≡ (q - p) * 64 + (words64 (atom_count T) - q) * 64 = omega arith in
            let from : q * 64 ≡ p * 64 + (q - p) * 64 = omega arith in
            rw (upto, from, places-split D (p * 64) ((q - p) * 64) ((words64 (atom_count T) - q) * 64), places_none D (p * 64) ((q - p) * 64) (λ a c d. alike a c (omega arith)))

    starting_skip : (mid : List ℕ) (p q : ℕ) → p ≤ q → Starting mid p → ((a : ℕ) → p * 64 ≤ a → a < q * 64 → D a ≡ false) → Starting mid q
    starting_skip mid p q l s alike = record { onward = rw (← skipped p q l alike) s.onward; same = λ a b. s.same a (omega arith) }

    -- up to pair `first` all words are the same
    pub starting_first : (first : ℕ) → ((i : ℕ) → i < 2 * first → i < words32 (atom_count T) → Same (candidate_start T) ws new i) → Starting ws first
    starting_first first alike = starting_skip ws 0 first (omega arith) none (λ a b c. same_place a (alike (a / 32) (omega arith)))
      where
        none : Starting ws 0
        none =
            record {
              onward = onward_first T ws whole room (all_turned T J (later 0) e)
                  (ap (λ xs. all_turned T J xs e) all_later ∙ sym (start_changed T J e (fits_of T ws room)));
              same = λ a l. refl;
            }

    -- pairs that are not marked, from pair p to the next mark
    pub starting_marked : (mid : List ℕ) (marks : List ℕ) (p q : ℕ) → Starting mid p
        → Upto (candidate_start T) ws new (words32 (atom_count T)) marks → q ≡ next 64 marks p → Starting mid q
    starting_marked mid marks p q s marked e =
        let from : p ≤ q = rw e (next_is 64 marks p).from in
        starting_skip mid p q from s (λ a b c.
        same_place a (λ l. marked (a / 32) l ((next_is 64 marks p).before (a / 32 / 2) (omega arith) (rw (← e) (omega arith)))))

    module _ (mid : List ℕ) (p : ℕ) (s : Starting mid p) where
      -- from pair `end` on all words are the same
      pub starting_done : (end : ℕ) → end ≤ p → ((i : ℕ) → 2 * end ≤ i → i < words32 (atom_count T) → Same (candidate_start T) ws new i) → Wrote T ws whole done mid
      starting_done end l alike =
          let none : later p ≡ [] = none_later p (λ a b. same_place a (alike (a / 32) (omega arith))) in
          onward_done T ws whole room mid (all_turned T J (later p) (of_words T mid)) s.onward
          (ap (λ xs. all_turned T J xs (of_words T mid)) none ∙ turned_none T J (of_words T mid))

      middle : used T ≤ length mid
      middle = onward-room T ws whole room mid (all_turned T J (later p) (of_words T mid)) s.onward

      -- the changed atoms of pair p
      abbrev here : List ℕ
      here = places (λ a. unlike (present (of_words T mid) a) (member 64 new a)) (p * 64) 64

      pub starting_within : (k : ℕ) → k < 64 → unlike (present (of_words T mid) (p * 64 + k)) (bit (get_or new p 0) k) ≡ true → p * 64 + k < atom_count T
      starting_within k b h =
          differ_within (p * 64 + k) (ap₂ unlike (sym (s.same (p * 64 + k) (omega arith))) (place_member 64 new p k b) ∙ h)

      as_before : here ≡ places D (p * 64) 64
      as_before = places_agree (λ a. unlike (present (of_words T mid) a) (member 64 new a)) D (p * 64) 64 (λ a b c. ap (λ q. unlike q (member 64 new a)) (s.same a (omega arith)))

      module _ (l : p < words64 (atom_count T)) where
        split : later p ≡ here ++ later (p + 1)
        unfolding later
        split =
            let upto : (words64 (atom_count T) - p) * 64 ≡ 64 + (words64 (atom_count T) - (p + 1)) * 64 = omega arith in
            let behind : (p + 1) * 64 ≡ p * 64 + 64 = omega arith in
            rw (upto, behind, as_before) (places-split D (p * 64) 64 ((words64 (atom_count T) - (p + 1)) * 64))

        go_on : all_turned T J (later p) (of_words T mid) ≡ and_then (all_turned T J here (of_words T mid)) (all_turned T J (later (p + 1)))
        go_on = ap (λ xs. all_turned T J xs (of_words T mid)) split ∙ turned_append T J here (later (p + 1)) (of_words T mid)

        module _ (r : Changing) (after : List ℕ) (h : Wrote T mid (all_turned T J here (of_words T mid)) r after) where
          pub starting_stray : r ≡ out_of_range → Wrote T ws whole out_of_range after
          starting_stray q =
              let f = wrote_out_of_range T mid (all_turned T J here (of_words T mid)) after r h q in
              onward_stray T ws whole room mid (all_turned T J (later p) (of_words T mid)) s.onward after
              (go_on ∙ ap (λ o. and_then o (all_turned T J (later (p + 1)))) f.0) f.1

          pub starting_more : r ≡ done → Starting after (p + 1)
          starting_more q =
              let f = wrote_done T mid (all_turned T J here (of_words T mid)) after r h q in
              let fits : Fits T (of_words T mid) = fits_of T mid middle in
              let g : Fits T f.0 = turned_fits T J here (of_words T mid) f.0 f.1 fits in
              let holds : of_words T after ≡ f.0 = ap (of_words T) f.2 ∙ of_written T mid middle f.0 g in
              record {
                onward = onward_more T ws whole room mid (all_turned T J (later p) (of_words T mid)) s.onward
                    (all_turned T J here (of_words T mid)) (all_turned T J (later (p + 1))) f.0 after go_on f.1 g f.2;
                same = λ a b. ap (λ d. present d a) holds
                    ∙ turned_behind T J D differ_within 64 (p * 64) (of_words T mid) f.0 fits (ap (λ xs. all_turned T J xs (of_words T mid)) (sym as_before) ∙ f.1) a (omega arith)
                    ∙ s.same a (omega arith);
              }
