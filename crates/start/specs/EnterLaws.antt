-- The nodes of a list, entered one after the other.
-- Assumes nothing.
use Rattle.std.specs.Prelude.{ℕ, ◌<◌, ◌≤◌, ◌+◌, ◌≡◌, refl, List, [], ◌∷◌, length, get_or, drop, Option, Some, None}
use Rattle.std.proofs.Common.{add-one, ap, ◌∙◌, drop-cons, lt-ltb, le-ltb}
use Rattle.std.proofs.Math.Seq.{drop-length}
use Rattle.kept.specs.CountedSet.{and_then}
use Rattle.kept.specs.Tables.{Tables, node_count}
use Rattle.kept.specs.Evaluation.{Evaluation}
use Rattle.kept.specs.Step.{entered}
use Rattle.kept.specs.Start.{all_entered}
use Rattle.kept.specs.Layout.{of_words, used}
use Rattle.kept_laws.specs.FitsLaws.{entered_all_fits}
use Rattle.kept_laws.specs.Wrote.{Wrote, wrote_done, wrote_out_of_range, Beside, beside_same, Changing, done, out_of_range}
use Rattle.start.specs.Onward.{Onward, onward_first, onward_fits, onward_stray, onward_done, onward_more}

all_none : (T : Tables) (e : Evaluation) → all_entered T e [] ≡ Some e
unfolding all_entered
all_none T e = refl

all_out : (T : Tables) (e : Evaluation) (m : ℕ) (ks : List ℕ) → node_count T ≤ m → all_entered T e (m ∷ ks) ≡ None
unfolding all_entered
all_out T e m ks l = rw (le-ltb m (node_count T) l)

all_in : (T : Tables) (e : Evaluation) (m : ℕ) (ks : List ℕ) → m < node_count T → all_entered T e (m ∷ ks) ≡ and_then (entered T m e) (λ d. all_entered T d ks)
unfolding all_entered
all_in T e m ks l = rw (lt-ltb m (node_count T) l)

module _ (T : Tables) (ws list : List ℕ) where
  -- the nodes from place i on are left
  abbrev pub Entering : List ℕ → ℕ → Type 0
  Entering mid i = Onward T ws (all_entered T (of_words T ws) list) mid (all_entered T (of_words T mid) (drop i list))

  abbrev Whole : Changing → List ℕ → Type 0
  Whole r after = Wrote T ws (all_entered T (of_words T ws) list) r after

  module _ (room : used T ≤ length ws) where
    pub entering_first : Entering ws 0
    entering_first = onward_first T ws (all_entered T (of_words T ws) list) room (all_entered T (of_words T ws) list) refl

    module _ (mid : List ℕ) (i : ℕ) (w : Entering mid i) where
      abbrev rest : Option Evaluation
      rest = all_entered T (of_words T mid) (drop i list)

      pub entering_done : i ≡ length list → Whole done mid
      entering_done e =
          onward_done T ws (all_entered T (of_words T ws) list) room mid rest w (rw (e, drop-length list) (all_none T (of_words T mid)))

      module _ (l : i < length list) (m : ℕ) (at : m ≡ get_or list i 0) where
        first : drop i list ≡ m ∷ drop (i + 1) list
        first = rw (at, add-one) (drop-cons list i 0 l)

        stray : (after : List ℕ) → rest ≡ None → Beside T mid after → Whole out_of_range after
        stray after p b = onward_stray T ws (all_entered T (of_words T ws) list) room mid rest w after p b

        -- it is no node
        pub entering_out : node_count T ≤ m → Whole out_of_range mid
        entering_out h = stray mid (rw first (all_out T (of_words T mid) m (drop (i + 1) list) h)) (beside_same T mid)

        module _ (h : m < node_count T) (ok : Changing) (after : List ℕ) (q : Wrote T mid (entered T m (of_words T mid)) ok after) where
          go_on : rest ≡ and_then (entered T m (of_words T mid)) (λ d. all_entered T d (drop (i + 1) list))
          go_on = rw first (all_in T (of_words T mid) m (drop (i + 1) list) h)

          -- the worklist is full
          pub entering_full : ok ≡ out_of_range → Whole out_of_range after
          entering_full e =
              let f = wrote_out_of_range T mid (entered T m (of_words T mid)) after ok q e in
              stray after (go_on ∙ ap (λ x. and_then x (λ d. all_entered T d (drop (i + 1) list))) f.0) f.1

          pub entering_more : ok ≡ done → Entering after (i + 1)
          entering_more e =
              let f = wrote_done T mid (entered T m (of_words T mid)) after ok q e in
              let one : all_entered T (of_words T mid) (m ∷ []) ≡ Some f.0 = all_in T (of_words T mid) m [] h ∙ ap (λ x. and_then x (λ d. all_entered T d [])) f.1 ∙ all_none T f.0 in
              onward_more T ws (all_entered T (of_words T ws) list) room mid rest w
              (entered T m (of_words T mid)) (λ d. all_entered T d (drop (i + 1) list)) f.0 after
              go_on f.1 (entered_all_fits T (of_words T mid) f.0 (m ∷ []) one (onward_fits T ws (all_entered T (of_words T ws) list) room mid rest w))
              f.2
