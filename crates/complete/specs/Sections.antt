-- Sections of the lent words that stand one after the other, lent as one slice and given back.
-- Assumes nothing.
use Rattle.std.specs.Prelude.{ℕ, ◌+◌, ◌≡◌, refl, List, [], ◌∷◌, ◌++◌, take, drop, replicate}
use Rattle.std.proofs.Common.{arith, ap, sym, ◌∙◌, append_assoc}
use Rattle.std.proofs.Math.ListN.{length, length-append}
use Rattle.std.proofs.lemmas.List.{replicate-append-replicate}
use Rattle.std.proofs.Math.Seq.{take-append_seam, drop-append_seam, drop-append-add}
use Rattle.kept.specs.Tables.{Tables}
use Rattle.kept.specs.Evaluation.{Evaluation}
use Rattle.kept.specs.Parts.{with_worklist, with_support, with_false_roots}
use Rattle.kept.specs.Layout.{flat, header, image, section, written, worklist_start, candidate_start, missing_start, used}
use Rattle.kept.specs.LayoutLaws.{Fits}
use Rattle.kept_laws.specs.Stores.{with_members, with_others, with_groups}

-- ---- parts laid end to end

flat_append : (xs ys : List (List ℕ)) → flat (xs ++ ys) ≡ flat xs ++ flat ys
unfolding flat
flat_append [] ys = refl
flat_append (x ∷ xs) ys = ap (λ l. x ++ l) (flat_append xs ys) ∙ sym (append_assoc x (flat xs) (flat ys))

-- the parts xs lent, and given back as ys
flat-between : (before xs ys behind : List (List ℕ)) (a b : ℕ) → a ≡ length (flat before) → b ≡ a + length (flat xs)
    → take a (flat (before ++ (xs ++ behind))) ++ (flat ys ++ drop b (flat (before ++ (xs ++ behind)))) ≡ flat (before ++ (ys ++ behind))
flat-between before xs ys behind a b p q =
    rw (
      q,
      p,
      flat_append before (xs ++ behind),
      flat_append before (ys ++ behind),
      flat_append xs behind,
      flat_append ys behind,
      take-append_seam (flat before) (flat xs ++ flat behind),
      drop-append-add (flat before) (flat xs ++ flat behind) (length (flat xs)),
      drop-append_seam (flat xs) (flat behind),
    )

-- parts of zeros, of these lengths
abbrev pub zero_parts : List ℕ → List (List ℕ)
zero_parts [] = []
zero_parts (n ∷ ns) = replicate n 0 ∷ zero_parts ns

abbrev pub total : List ℕ → ℕ
total [] = 0
total (n ∷ ns) = n + total ns

pub flat-zeros : (ns : List ℕ) → replicate (total ns) 0 ≡ flat (zero_parts ns)
unfolding flat
flat-zeros [] = refl
flat-zeros (n ∷ ns) = sym (replicate-append-replicate {A = ℕ} n (total ns) 0) ∙ ap (λ l. replicate n 0 ++ l) (flat-zeros ns)

-- ---- the parts of an evaluation

module _ (T : Tables) (ws : List ℕ) (e : Evaluation) (fits : Fits T e) where
  abbrev rest : List ℕ
  rest = section T ws 8

  -- worklist and support; missing atoms, false roots and the worklist's groups
  pub lend_worklist_support : (y z : List ℕ) → take (worklist_start T) (written T ws e) ++ (flat (y ∷ z ∷ []) ++ drop (candidate_start T) (written T ws e))
      ≡ written T ws (with_support (with_worklist e (with_others e.worklist (with_members e.worklist.others y))) z e.missing)
  unfolding written image flat
  lend_worklist_support y z =
      flat-between (header e ∷ e.truths ∷ []) (e.worklist.others.members ∷ e.support ∷ []) (y ∷ z ∷ [])
      (e.candidate ∷ e.missing.members ∷ e.false_roots.members ∷ e.worklist.groups ∷ rest ∷ []) (worklist_start T) (candidate_start T) from to
    where
      from : worklist_start T ≡ length (flat (header e ∷ e.truths ∷ []))
      from = simp length-append (omega (arith, fits.truths))

      to : candidate_start T ≡ worklist_start T + length (flat (e.worklist.others.members ∷ e.support ∷ []))
      to = simp length-append (omega (arith, fits.worklist, fits.support))

  pub lend_missing_groups : (x y z : List ℕ) → take (missing_start T) (written T ws e) ++ (flat (x ∷ y ∷ z ∷ []) ++ drop (used T) (written T ws e))
      ≡ written T ws (with_worklist (with_false_roots (with_support e e.support (with_members e.missing x)) (with_members e.false_roots y)) (with_groups e.worklist z))
  unfolding written image flat
  lend_missing_groups x y z =
      flat-between (header e ∷ e.truths ∷ e.worklist.others.members ∷ e.support ∷ e.candidate ∷ [])
      (e.missing.members ∷ e.false_roots.members ∷ e.worklist.groups ∷ []) (x ∷ y ∷ z ∷ []) (rest ∷ []) (missing_start T) (used T) from to
    where
      from : missing_start T ≡ length (flat (header e ∷ e.truths ∷ e.worklist.others.members ∷ e.support ∷ e.candidate ∷ []))
      from = simp length-append (omega (arith, fits.truths, fits.worklist, fits.support, fits.candidate))

      to : used T ≡ missing_start T + length (flat (e.missing.members ∷ e.false_roots.members ∷ e.worklist.groups ∷ []))
      to = simp length-append (omega (arith, fits.missing, fits.false_roots, fits.groups))
