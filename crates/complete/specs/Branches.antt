-- What each branch of a step gives: of a node, a producer and a root.
-- Assumes nothing.
use Prim.Native.Nat.{ℕ, zero, suc, ◌<◌, ◌≤◌, ◌+◌, ◌-◌}
use Rattle.std.proofs.Common.{add-zero, add-one, arith, ap₂, ◌∙◌, subst}
use Rattle.std.specs.Prelude.{◌≡◌, Bool, true, false, cond, List, length, get_or, Option, Some, None}
use Rattle.std.proofs.Math.Path.{refl, ap, sym}
use Rattle.std.proofs.Math.ListN.{set}
use Rattle.std.proofs.lemmas.List.{set-get_or}
use borrow.Author.Tests.{lt-ltb, le-ltb, le-leb, lt-leb}
use Rattle.theory.specs.Node.{node_at}
use Rattle.theory.specs.declared.Node.{Node}
use Rattle.kept.specs.Tables.{Tables, atom_count, node_count, root_at, head_at, body_at}
use Rattle.kept.specs.Evaluation.{Evaluation, truth_at, present, truth_word, body_true}
use Rattle.kept.specs.Parts.{with_support}
use Rattle.kept.specs.Seen.{node_seen, seen_by}
use Rattle.kept.specs.Step.{root_turned}
use Rattle.kept.specs.Layout.{of_words, written, support_start, used}
use Rattle.kept.specs.LayoutLaws.{fits_of}
use Rattle.kept_laws.specs.Written.{written_same, put_truth, put_support, get_support}
use Rattle.kept_laws.specs.Wrote.{Wrote, beside_same, wrote_some, wrote_none, Changing, done, out_of_range}
use Rattle.node_truth.specs.InWords.{true_in, present_in}
use Rattle.node_truth.specs.InWordsLaws.{true_in_lem, seen_in}
use Rattle.complete.specs.Phases.{Stored, truth_set, counted, producer_counted, root_laid}

module _ (T : Tables) (ws : List ℕ) (long : used T ≤ length ws) where
  abbrev e : Evaluation
  e = of_words T ws

  same : written T ws e ≡ ws
  same = written_same T ws long

  -- ---- node k

  module _ (k : ℕ) (l : k < node_count T) (n : Node) (is : n ≡ node_at T.nodes k) where
    read : (o : Option Bool) → o ≡ node_seen T.counts T.operands (present_in T.counts ws) (true_in ws) k n → seen_by T (present e) (truth_at e) k ≡ o
    read o p = sym (p ∙ ap (node_seen T.counts T.operands (present_in T.counts ws) (true_in ws) k) is ∙ seen_in T ws long k l)

    -- its truth o was read, then stored
    pub truth-stored : (o : Option Bool) → o ≡ node_seen T.counts T.operands (present_in T.counts ws) (true_in ws) k n
        → (ok : Changing) (after : List ℕ) → Stored ws k o ok after → Wrote T ws (truth_set T k e) ok after
    unfolding truth_set
    truth-stored None p ok after s = rw (read None p) (s.0, rw s.1 (beside_same T ws))
    truth-stored (Some t) p ok after s =
        rw (read (Some t) p) (s.0, s.1 ∙ ap (λ w. set w (8 + k) (truth_word t)) (sym same) ∙ put_truth T ws long e (fits_of T ws long) k (truth_word t) l)

  -- ---- producer p

  body_in_lem : (b : ℕ) → b ≤ node_count T → body_true (true_in ws) b ≡ body_true (truth_at e) b
  unfolding body_true
  body_in_lem zero l = refl
  body_in_lem (suc b) l = true_in_lem T ws long b l

  module _ (p head body : ℕ) (h : head ≡ head_at T p) (b : body ≡ body_at T p) where
    pub head_stray : atom_count T ≤ head → Wrote T ws (producer_counted T p e) out_of_range ws
    unfolding producer_counted
    head_stray l = wrote_none T ws (producer_counted T p e) ws (rw (sym h, le-ltb head (atom_count T) l)) (beside_same T ws)

    pub body_stray : head < atom_count T → node_count T < body → Wrote T ws (producer_counted T p e) out_of_range ws
    unfolding producer_counted
    body_stray l m = wrote_none T ws (producer_counted T p e) ws (rw (sym h, sym b, lt-ltb head (atom_count T) l, lt-leb body (node_count T) m)) (beside_same T ws)

    module _ (l : head < atom_count T) (m : body ≤ node_count T) where
      entered : producer_counted T p e ≡ Some (with_support e (counted T p e) e.missing)
      unfolding producer_counted
      entered = rw (sym h, sym b, lt-ltb head (atom_count T) l, le-leb body (node_count T) m)

      counts : body_true (true_in ws) body ≡ true → Wrote T ws (producer_counted T p e) done (set ws (support_start T + head) (get_or ws (support_start T + head) 0 + 1))
      unfolding counted
      counts r =
          wrote_some T ws (producer_counted T p e) (set ws (support_start T + head) (get_or ws (support_start T + head) 0 + 1))
          (with_support e (set e.support head (suc (get_or e.support head 0))) e.missing)
          (entered ∙ rw (sym h, sym b, sym (body_in_lem body m), r))
          (ap₂ (λ w n. set w (support_start T + head) n) (sym same) (add-one (get_or ws (support_start T + head) 0) ∙ ap suc (get_support T ws long head l))
          ∙ put_support T ws long e (fits_of T ws long) head (suc (get_or e.support head 0)) l)

      passes : body_true (true_in ws) body ≡ false → Wrote T ws (producer_counted T p e) done ws
      unfolding counted
      passes r = wrote_some T ws (producer_counted T p e) ws e (entered ∙ rw (sym h, sym b, sym (body_in_lem body m), r)) (sym same)

      pub producer_adds : (n : ℕ) → n ≡ cond (body_true (true_in ws) body) 1 0
          → Wrote T ws (producer_counted T p e) done (set ws (support_start T + head) (get_or ws (support_start T + head) 0 + n))
      producer_adds n q = rw q (go (body_true (true_in ws) body) refl)
        where
          go : (t : Bool) → body_true (true_in ws) body ≡ t → Wrote T ws (producer_counted T p e) done (set ws (support_start T + head) (get_or ws (support_start T + head) 0 + cond t 1 0))
          go true r = counts r
          go false r = rw add-zero (subst (Wrote T ws (producer_counted T p e) done) (sym (set-get_or ws (support_start T + head) 0)) (passes r))

  -- ---- root position p

  module _ (p root : ℕ) (h : root ≡ root_at T p) where
    pub root_stray : node_count T ≤ root → Wrote T ws (root_laid T p e) out_of_range ws
    unfolding root_laid
    root_stray l = wrote_none T ws (root_laid T p e) ws (rw (sym h, le-ltb root (node_count T) l)) (beside_same T ws)

    pub root_holds : root < node_count T → (t : Bool) → t ≡ true_in ws root → t ≡ true → Wrote T ws (root_laid T p e) done ws
    unfolding root_laid
    root_holds l t q r = wrote_some T ws (root_laid T p e) ws e (rw (sym h, lt-ltb root (node_count T) l, sym (true_in_lem T ws long root l), sym q, r)) (sym same)

    pub root_fails : root < node_count T → (t : Bool) → t ≡ true_in ws root → t ≡ false → (ok : Changing) (after : List ℕ) → Wrote T ws (root_turned T false p e) ok after → Wrote T ws (root_laid T p e) ok after
    unfolding root_laid
    root_fails l t q r ok after w = rw (sym h, lt-ltb root (node_count T) l, sym (true_in_lem T ws long root l), sym q, r) w

-- a body's second word that is not 0
pub body_some : (v : ℕ → Bool) (b : ℕ) → (b ≡ 0 → ⊥) → v (b - 1) ≡ body_true v b
unfolding body_true
body_some v zero ne = absurd (ne refl)
body_some v (suc b) ne = let e : suc b - 1 ≡ b = omega arith in ap v e
