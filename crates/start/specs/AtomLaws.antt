-- One atom moved: missing or not, then its atom nodes onto the worklist.
-- Assumes nothing.
use Rattle.std.specs.Prelude.{ℕ, ◌≤◌, ◌≡◌, refl, Bool, true, false, ◌&&◌, List, length, get_or, Option, Some, None}
use Rattle.std.proofs.Common.{ap, sym, ◌∙◌}
use Rattle.std.proofs.Math.Dec.{eqb}
use Rattle.formula.specs.Satisfaction.{Interpretation}
use Rattle.readers.specs.Incidences.{atom_slot}
use Rattle.readers.specs.Laid as laying
use Rattle.readers.specs.Laid.{in_order}
use Rattle.readers.specs.ReaderTable.{reader_words}
use Rattle.kept.specs.CountedSet.{and_then}
use Rattle.kept.specs.Tables.{Tables, node_count, between, list_at, atom_nodes_at}
use Rattle.kept.specs.Evaluation.{Evaluation}
use Rattle.kept.specs.Start.{all_entered}
use Rattle.kept.specs.Layout.{of_words, used}
use Rattle.kept.specs.LayoutLaws.{Fits, fits_of}
use Rattle.kept_laws.specs.Wrote.{Wrote, wrote_done, wrote_out_of_range, beside_same, Changing, done, out_of_range}
use Rattle.retained.specs.Changes.{presence_turned}
use Rattle.retained.specs.PresenceLaws.{missing_fits, missing_turned_lem}
use Rattle.start.specs.Moved.{atom_moved}
use Rattle.start.specs.Onward.{Onward, onward_first, onward_stray, onward_then, onward_more}

module _ (T : Tables) (a : ℕ) where
  abbrev slot : ℕ
  slot = atom_slot (node_count T) a

  nodes_there : in_order T.readers (reader_words T.counts) slot ≡ true → atom_nodes_at T a ≡ Some (laying.list_at T.readers slot)
  unfolding list_at between in_order laying.list_at
  nodes_there e = rw e

  nodes_none : in_order T.readers (reader_words T.counts) slot ≡ false → atom_nodes_at T a ≡ None
  unfolding list_at between in_order
  nodes_none e = rw e

  -- its nodes follow
  moved_twice : (J : Interpretation) (x : Bool) (e : Evaluation) → J a ≡ x
      → atom_moved T J a e ≡ and_then (presence_turned T a x e) (λ d. and_then (atom_nodes_at T a) (all_entered T d))
  unfolding atom_moved
  moved_twice J x e p = rw p

  presence_fits : (x : Bool) (e d : Evaluation) → presence_turned T a x e ≡ Some d → Fits T e → Fits T d
  unfolding presence_turned
  presence_fits x e d h f =
      let m = missing_turned_lem T e d a (x && eqb (get_or e.support a 0) 0) h in
      rw m.2 (missing_fits T e a (x && eqb (get_or e.support a 0) 0) m.0 m.1 f)

  module _ (J : Interpretation) (x : Bool) (same : J a ≡ x) (ws : List ℕ) (room : used T ≤ length ws)
      (ok : Changing) (mid : List ℕ) (q : Wrote T ws (presence_turned T a x (of_words T ws)) ok mid) where
    abbrev whole : Option Evaluation
    whole = atom_moved T J a (of_words T ws)

    abbrev rest : Evaluation → Option Evaluation
    rest d = and_then (atom_nodes_at T a) (all_entered T d)

    first : Onward T ws whole ws whole
    first = onward_first T ws whole room whole refl

    -- it would leave the range of missing atoms
    pub turn_none : ok ≡ out_of_range → Wrote T ws whole out_of_range mid
    turn_none e =
        let f = wrote_out_of_range T ws (presence_turned T a x (of_words T ws)) mid ok q e in
        onward_stray T ws whole room ws whole first mid (moved_twice J x (of_words T ws) same ∙ ap (λ o. and_then o rest) f.0) f.1

    module _ (e : ok ≡ done) where
      then_nodes : Onward T ws whole mid (rest (of_words T mid))
      then_nodes =
          let f = wrote_done T ws (presence_turned T a x (of_words T ws)) mid ok q e in
          onward_more T ws whole room ws whole first (presence_turned T a x (of_words T ws)) rest f.0 mid
          (moved_twice J x (of_words T ws) same) f.1 (presence_fits x (of_words T ws) f.0 f.1 (fits_of T ws room)) f.2

      -- its list is out of order
      pub turn_disordered : in_order T.readers (reader_words T.counts) slot ≡ false → Wrote T ws whole out_of_range mid
      turn_disordered s =
          onward_stray T ws whole room mid (rest (of_words T mid)) then_nodes mid (ap (λ o. and_then o (all_entered T (of_words T mid))) (nodes_none s)) (beside_same T mid)

      pub turn_done : in_order T.readers (reader_words T.counts) slot ≡ true → (list : List ℕ) → list ≡ laying.list_at T.readers slot → (r : Changing) (after : List ℕ)
          → Wrote T mid (all_entered T (of_words T mid) list) r after → Wrote T ws whole r after
      turn_done s list p r after h =
          let there : atom_nodes_at T a ≡ Some list = nodes_there s ∙ ap Some (sym p) in
          onward_then T ws whole room mid (rest (of_words T mid)) then_nodes r after (rw there h)
