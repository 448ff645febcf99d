-- Support producer by producer: what the loop keeps, and what each of its turns gives.
-- Assumes nothing.
use Rattle.std.specs.Prelude.{ℕ, suc, ◌<◌, ◌≤◌, ◌+◌, ◌≡◌, Bool, ◌&&◌, List, length, replicate, Some}
use Rattle.std.proofs.Common.{arith, ◌∙◌, ltb-true}
use Rattle.std.proofs.Math.Path.{refl, ap, sym}
use Rattle.std.proofs.Math.Logic.{inl, inr}
use Rattle.std.proofs.Math.Bool.{true, false}
use Rattle.std.proofs.Math.Dec.{ltb, leb}
use Rattle.std.proofs.Math.ListN.{get_or}
use Rattle.base.specs.Tests.{both_left}
use Rattle.base.specs.Places.{count_most}
use Rattle.kept.specs.Tabulate.{tabulate, tabulate_at, length-tabulate}
use Rattle.kept.specs.Tables.{Tables, atom_count, node_count, head_at, body_at}
use Rattle.kept.specs.Evaluation.{Evaluation, truth_at, body_true, supports}
use Rattle.kept.specs.Parts.{with_support}
use Rattle.kept.specs.Check.{producer_entry}
use Rattle.kept.specs.Layout.{written, support_start, used}
use Rattle.kept.specs.LayoutLaws.{Fits}
use Rattle.kept_laws.specs.Filling.{support_to, support_none, support_all, support_next, support_skip}
use Rattle.kept_laws.specs.Written.{of_written, length-written, get_support}
use Rattle.complete.specs.Fills.{tabulate-zero}
use Rattle.complete.specs.Phases.{counted, producer_counted, support_laid}
use Rattle.complete.specs.Runs.{Turn}

module _ (T : Tables) (e : Evaluation) where
  -- by the producers below p
  unfoldable pub supplied : ℕ → Evaluation
  supplied p = with_support e (tabulate (atom_count T) (support_to T (truth_at e) p)) e.missing

  pub supplied_none : e.support ≡ replicate (atom_count T) 0 → supplied 0 ≡ e
  unfolding supplied
  supplied_none z = ap (λ l. with_support e l e.missing) (support_none T (truth_at e) ∙ tabulate-zero (atom_count T) ∙ sym z)

  pub supplied_all : supplied T.made ≡ support_laid T e
  unfolding supplied support_laid
  supplied_all = ap (λ l. with_support e l e.missing) (support_all T (truth_at e))

  pub supplied_fits : Fits T e → (p : ℕ) → Fits T (supplied p)
  unfolding supplied
  supplied_fits fits p =
      record {
        truths = fits.truths;
        worklist = fits.worklist;
        support = length-tabulate (atom_count T) (support_to T (truth_at e) p);
        candidate = fits.candidate;
        missing = fits.missing;
        false_roots = fits.false_roots;
        groups = fits.groups;
      }

  supplied_next : (p : ℕ) → head_at T p < atom_count T → (b : Bool) → body_true (truth_at e) (body_at T p) ≡ b → with_support (supplied p) (counted T p (supplied p)) e.missing ≡ supplied (suc p)
  unfolding supplied counted
  supplied_next p l true q =
      rw (q, tabulate_at (atom_count T) (support_to T (truth_at e) p) 0 (head_at T p) l)
      (ap (λ s. with_support e s e.missing) (support_next T (truth_at e) p q))
  supplied_next p l false q = rw q (ap (λ s. with_support e s e.missing) (support_skip T (truth_at e) p q))

  pub supplied_turn : (p : ℕ) → Turn supplied (producer_entry T) (producer_counted T) (λ j. 0) p
  unfolding producer_entry producer_counted supplied
  supplied_turn p = go (ltb (head_at T p) (atom_count T) && leb (body_at T p) (node_count T)) refl
    where
      go : (b : Bool) → ltb (head_at T p) (atom_count T) && leb (body_at T p) (node_count T) ≡ b → Turn supplied (producer_entry T) (producer_counted T) (λ j. 0) p
      go true q =
          inl (rw q, rw q (ap Some (supplied_next p (ltb-true (head_at T p) (atom_count T) (both_left (ltb (head_at T p) (atom_count T)) (leb (body_at T p) (node_count T)) q)) (body_true (truth_at e) (body_at T p)) refl)))
      go false q = inr (rw q, rw q)

-- no count passes the number of producers
module _ (T : Tables) (ws : List ℕ) (long : used T ≤ length ws) (e : Evaluation) (fits : Fits T e) where
  pub supplied-most : (p : ℕ) (mid : List ℕ) → mid ≡ written T ws (supplied T e p) → (a : ℕ) → a < atom_count T → get_or mid (support_start T + a) 0 ≤ p
  unfolding supplied support_to
  supplied-most p mid w a l =
      let at : get_or mid (support_start T + a) 0 ≡ support_to T (truth_at e) p a =
      ap (λ x. get_or x (support_start T + a) 0) w
      ∙ get_support T (written T ws (supplied T e p)) (rw (length-written T ws long (supplied T e p) (supplied_fits T e fits p)) long) a l
      ∙ ap (λ y. get_or y.support a 0) (of_written T ws long (supplied T e p) (supplied_fits T e fits p))
      ∙ tabulate_at (atom_count T) (support_to T (truth_at e) p) 0 a l in
      omega (arith, count_most (supports T (truth_at e) a) 0 p)
