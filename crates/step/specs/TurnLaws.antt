-- The loop over a list of readers: those up to i were told.
-- Assumes nothing.
use Rattle.std.specs.Prelude.{ℕ, ◌<◌, ◌≤◌, ◌+◌, ◌≡◌, refl, Bool, List, ◌∷◌, length, Option}
use Rattle.std.proofs.Math.Numerals.{add-one}
use Rattle.std.proofs.Math.Path.{ap}
use Rattle.std.proofs.Common.{sym, ◌∙◌, drop_of_length-le, drop-cons}
use Rattle.std.proofs.Math.ListN.{get_or, drop}
use Rattle.readers.specs.Reader.{reading_of}
use Rattle.kept.specs.CountedSet.{and_then}
use Rattle.kept.specs.Tables.{Tables}
use Rattle.kept.specs.Evaluation.{Evaluation}
use Rattle.kept.specs.Step.{reader_updated, readers_updated}
use Rattle.kept.specs.Layout.{of_words, written, used}
use Rattle.kept.specs.LayoutLaws.{Fits, fits_of}
use Rattle.kept_laws.specs.FitsLaws.{reader_fits}
use Rattle.kept_laws.specs.Written.{written_same, written_again}
use Rattle.kept_laws.specs.Wrote.{Wrote, mid_holds, mid_long, wrote_some, wrote_none, wrote_done, wrote_out_of_range, wrote_then, Changing, done, out_of_range}

-- the words kept hold an evaluation written into ws; told the readers from i on, it is what ws told all of them is
pub record Telling (T : Tables) (ws : List ℕ) (k : ℕ) (t : Bool) (list kept : List ℕ) (i : ℕ) : Type 0 where
  pub same : kept ≡ written T ws (of_words T kept)
  pub long : length kept ≡ length ws
  pub rest : readers_updated T k t (of_words T ws) list ≡ readers_updated T k t (of_words T kept) (drop i list)

module _ (T : Tables) (ws : List ℕ) (long : used T ≤ length ws) (k : ℕ) (t : Bool) (list : List ℕ) where
  abbrev whole : Option Evaluation
  whole = readers_updated T k t (of_words T ws) list

  pub telling_none : Telling T ws k t list ws 0
  telling_none = record { same = sym (written_same T ws long); long = refl; rest = refl }

  module _ (kept : List ℕ) (i : ℕ) (h : Telling T ws k t list kept i) where
    abbrev e : Evaluation
    e = of_words T kept

    kept_long : used T ≤ length kept
    kept_long = rw h.long long

    kept_fits : Fits T e
    kept_fits = fits_of T kept kept_long

    pub telling_done : length list ≤ i → Wrote T ws whole done kept
    unfolding readers_updated
    telling_done l = wrote_some T ws whole kept e (h.rest ∙ ap (readers_updated T k t e) (drop_of_length-le list {i = i} l)) h.same

    -- the reader at i
    module _ (l : i < length list) (ok : Changing) (after : List ℕ) (w : Wrote T kept (reader_updated T k t e (reading_of (get_or list i 0))) ok after) where
      next : whole ≡ and_then (reader_updated T k t e (reading_of (get_or list i 0))) (λ d. readers_updated T k t d (drop (i + 1) list))
      unfolding readers_updated
      next =
          let one : drop i list ≡ get_or list i 0 ∷ drop (i + 1) list = rw add-one (drop-cons list i 0 l) in
          h.rest ∙ ap (readers_updated T k t e) one

      pub telling_stop : ok ≡ out_of_range → Wrote T ws whole out_of_range after
      telling_stop p =
          let r = wrote_out_of_range T kept (reader_updated T k t e (reading_of (get_or list i 0))) after ok w p in
          wrote_then T ws kept e long kept_fits h.same whole out_of_range after (wrote_none T kept whole after (next ∙ rw r.0) r.1)

      pub telling_more : ok ≡ done → Telling T ws k t list after (i + 1)
      telling_more p =
          let r = wrote_done T kept (reader_updated T k t e (reading_of (get_or list i 0))) after ok w p in
          let f = reader_fits T k t e r.0 (reading_of (get_or list i 0)) r.1 kept_fits in
          let is = mid_holds T kept after r.0 kept_long f r.2 in
          record {
            same = r.2 ∙ ap (λ x. written T x r.0) h.same ∙ written_again T ws long e kept_fits r.0 ∙ ap (written T ws) (sym is);
            long = mid_long T kept after r.0 kept_long f r.2 ∙ h.long;
            rest = next ∙ rw r.1 (ap (λ x. readers_updated T k t x (drop (i + 1) list)) (sym is));
          }
