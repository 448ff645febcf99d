-- A node gets its truth: it is so already, its readers are out of order, or they are told.
-- Assumes nothing.
use Rattle.std.specs.Prelude.{ℕ, ◌<◌, ◌≤◌, ◌+◌, ◌≡◌, refl, Bool, not, List, length, Some, None}
use Rattle.std.proofs.Math.Path.{ap}
use Rattle.std.proofs.Common.{sym, ◌∙◌}
use Rattle.std.proofs.Math.Bool.{true, false}
use Rattle.std.specs.Bool.{beq}
use Rattle.std.proofs.Math.ListN.{set}
use Rattle.words.specs.Changed.{unlike}
use Rattle.readers.specs.Laid as laid
use Rattle.readers.specs.Laid.{in_order}
use Rattle.readers.specs.ReaderTable.{reader_words}
use Rattle.kept.specs.Tables.{Tables, node_count, between, list_at}
use Rattle.kept.specs.Evaluation.{Evaluation, truth_at, truth_word}
use Rattle.kept.specs.Parts.{with_truths}
use Rattle.kept.specs.Step.{readers_updated}
use Rattle.kept.specs.Layout.{of_words, written, used}
use Rattle.kept.specs.LayoutLaws.{Fits, fits_of}
use Rattle.kept_laws.specs.FitsLaws.{truths_fit}
use Rattle.kept_laws.specs.Written.{written_same, put_truth}
use Rattle.kept_laws.specs.Wrote.{Wrote, beside_same, mid_holds, wrote_none, wrote_same, wrote_then, Changing, done, out_of_range}
use Rattle.node_truth.specs.InWords.{true_in}
use Rattle.node_truth.specs.InWordsLaws.{true_in_lem}
use Rattle.step.specs.Steps.{settled_to}

unlike-not : (a b : Bool) → unlike a b ≡ not (beq a b)
unlike-not true true = refl
unlike-not true false = refl
unlike-not false true = refl
unlike-not false false = refl

-- ---- list s of the reader table

module _ (T : Tables) (s : ℕ) (b : Bool) (is : b ≡ in_order T.readers (reader_words T.counts) s) where
  list_there : b ≡ true → list_at T s ≡ Some (laid.list_at T.readers s)
  unfolding list_at between in_order laid.list_at
  list_there p = rw (sym is ∙ p)

  list_not : b ≡ false → list_at T s ≡ None
  unfolding list_at between in_order
  list_not p = rw (sym is ∙ p)

-- ---- node k becomes t; the words say b of it

module _ (T : Tables) (ws : List ℕ) (long : used T ≤ length ws) (k : ℕ) (l : k < node_count T) (t b : Bool) (is : b ≡ true_in ws k) where
  abbrev e : Evaluation
  e = of_words T ws

  abbrev become : Evaluation
  become = with_truths e (set e.truths k (truth_word t))

  differs : (x : Bool) → beq b t ≡ x → unlike (truth_at e k) t ≡ not x
  differs x p = ap (λ y. unlike y t) (sym (is ∙ true_in_lem T ws long k l)) ∙ unlike-not b t ∙ ap not p

  pub settle_same : beq b t ≡ true → Wrote T ws (settled_to T k t e) done ws
  unfolding settled_to
  settle_same p = rw (differs true p) (wrote_same T ws long)

  module _ (p : beq b t ≡ false) (o : Bool) (q : o ≡ in_order T.readers (reader_words T.counts) k) where
    pub settle_astray : o ≡ false → Wrote T ws (settled_to T k t e) out_of_range ws
    unfolding settled_to
    settle_astray r = wrote_none T ws (settled_to T k t e) ws (rw (differs false p, list_not T k o q r)) (beside_same T ws)

    pub settle_told : o ≡ true → (mid : List ℕ) → mid ≡ set ws (8 + k) (truth_word t) → (list : List ℕ) → list ≡ laid.list_at T.readers k
        → (ok : Changing) (after : List ℕ) → Wrote T mid (readers_updated T k t (of_words T mid) list) ok after → Wrote T ws (settled_to T k t e) ok after
    unfolding settled_to
    settle_told r mid m list s ok after w =
        let put : mid ≡ written T ws become = m ∙ ap (λ x. set x (8 + k) (truth_word t)) (sym (written_same T ws long)) ∙ put_truth T ws long e (fits_of T ws long) k (truth_word t) l in
        let f : Fits T become = truths_fit T e k (truth_word t) (fits_of T ws long) in
        rw (differs false p, list_there T k o q r)
        (wrote_then T ws mid become long f put (readers_updated T k t become (laid.list_at T.readers k)) ok after
        (rw (mid_holds T ws mid become long f put, s) at w))
