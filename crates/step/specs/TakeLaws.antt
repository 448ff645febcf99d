-- A node leaves the worklist and gets its truth.
-- Assumes nothing.
use Rattle.std.specs.Prelude.{ℕ, ◌≤◌, Bool, true, false, cond, List, length, set, Option, Some, None, Ok, Err}
use Rattle.std.proofs.Common.{arith, ◌∙◌}
use Rattle.std.proofs.Math.Path.{◌≡◌, refl, ap, sym}
use Rattle.words.specs.Changed.{unlike}
use Rattle.kept.specs.CountedSet.{and_then}
use Rattle.kept.specs.Worklist.{Worklist, without_first}
use Rattle.kept.specs.Tables.{Tables, node_count, readers_at}
use Rattle.kept.specs.Evaluation.{Evaluation, truth_at, truth_word}
use Rattle.kept.specs.Parts.{with_truths, with_worklist}
use Rattle.kept.specs.Step.{readers_updated, took, took_at, settled}
use Rattle.kept.specs.Layout.{of_words, written, used}
use Rattle.kept.specs.LayoutLaws.{Fits, fits_of}
use Rattle.kept_laws.specs.OptionLaws.{some_is, then_some}
use Rattle.kept_laws.specs.FitsLaws.{left_is, worklist_fits}
use Rattle.kept_laws.specs.Wrote.{Wrote, mid_holds, wrote_done, wrote_out_of_range, wrote_then, Changing, done, out_of_range}
use Rattle.retained.specs.Changes.{dequeued}
use Rattle.theory.specs.declared.Refusal.TheVariants.{BadEntry}
use Rattle.step.specs.Steps.{settled_to, taken_from, Steps}

module _ (T : Tables) (k : ℕ) where
  settled_is : (t : Bool) (e : Evaluation) → settled T k t e ≡ took_at k (settled_to T k t e)
  unfolding settled settled_to
  settled_is t e = go (unlike (truth_at e k) t)
    where
      told : Option Evaluation
      told = and_then (readers_at T k) (readers_updated T k t (with_truths e (set e.truths k (truth_word t))))

      go : (b : Bool) → cond b (took_at k told) (took k e) ≡ took_at k (cond b told (Some e))
      go true = refl
      go false = refl

  -- what leaving the worklist gives
  off : (e d : Evaluation) → dequeued T e ≡ Some d → (w : Worklist) × (without_first (node_count T) e.worklist ≡ Some w) × (d ≡ with_worklist e w)
  unfolding dequeued
  off e d h =
      let p = then_some (without_first (node_count T) e.worklist) (λ w. Some (with_worklist e w)) d h in
      (p.0, p.1, sym (some_is (with_worklist e p.0) d p.2))

  off_not : (e : Evaluation) → dequeued T e ≡ None → without_first (node_count T) e.worklist ≡ None
  unfolding dequeued
  off_not e h = go (without_first (node_count T) e.worklist) h
    where
      go : (o : Option Worklist) → and_then o (λ w. Some (with_worklist e w)) ≡ None → o ≡ None
      go None h = refl
      go (Some w) h = let z : ◌≡◌ {A = ℕ} 0 1 = cc in absurd (omega arith)

  module _ (ws : List ℕ) (long : used T ≤ length ws) (t : Bool) (ok : Changing) (mid : List ℕ) (w : Wrote T ws (dequeued T (of_words T ws)) ok mid) where
    abbrev e : Evaluation
    e = of_words T ws

    pub take_stuck : ok ≡ out_of_range → Steps T ws (taken_from T k t e) (Err (BadEntry 0)) mid
    unfolding taken_from
    take_stuck q = let r = wrote_out_of_range T ws (dequeued T e) mid ok w q in rw (off_not e r.0) (refl, r.1)

    -- then it became t, or there was a 17
    module _ (gone : ok ≡ done) (yes : Changing) (after : List ℕ) (s : Wrote T mid (settled_to T k t (of_words T mid)) yes after) where
      record Left : Type 0 where
        out : Evaluation
        is : taken_from T k t e ≡ took_at k (settled_to T k t out)
        wrote : Wrote T ws (settled_to T k t out) yes after

      left : Left
      unfolding taken_from
      left =
          let r = wrote_done T ws (dequeued T e) mid ok w gone in
          let o = off e r.0 r.1 in
          let d : Evaluation = with_worklist e o.0 in
          let put : mid ≡ written T ws d = r.2 ∙ ap (written T ws) o.2 in
          let f : Fits T d = worklist_fits T e o.0 (left_is (node_count T) e.worklist o.0 o.1).0 (fits_of T ws long) in
          record {
            out = d;
            is = rw o.1 (settled_is t d);
            wrote = wrote_then T ws mid d long f put (settled_to T k t d) yes after (rw (mid_holds T ws mid d long f put) at s);
          }

      took_done : (o : Option Evaluation) → Wrote T ws o yes after → yes ≡ done → Steps T ws (took_at k o) (Ok (Some k)) after
      took_done o h q = let r = wrote_done T ws o after yes h q in rw r.1 (refl, r.2)

      took_none : (o : Option Evaluation) → Wrote T ws o yes after → yes ≡ out_of_range → Steps T ws (took_at k o) (Err (BadEntry k)) after
      took_none o h q = let r = wrote_out_of_range T ws o after yes h q in rw r.0 (refl, r.1)

      pub take_done : yes ≡ done → Steps T ws (taken_from T k t e) (Ok (Some k)) after
      take_done q = rw left.is (took_done (settled_to T k t left.out) left.wrote q)

      pub take_fault : yes ≡ out_of_range → Steps T ws (taken_from T k t e) (Err (BadEntry k)) after
      take_fault q = rw left.is (took_none (settled_to T k t left.out) left.wrote q)
