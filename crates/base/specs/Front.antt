-- A buffer whose front holds a list: what a loop that appends to it keeps.
-- Assumes nothing.
use Rattle.std.specs.Prelude.{ℕ, ◌<◌, ◌≤◌, ◌≡◌, refl, List, [], ◌∷◌, ◌++◌, length, set, drop}
use Rattle.std.proofs.Common.{add-one, arith, ap, sym, ◌∙◌, append_assoc, length-append, length-drop, drop-cons}
use Rattle.std.proofs.lemmas.List.{set_at}

-- the buffer `ds` with `ws` written at its front
unfoldable pub front : List ℕ → List ℕ → List ℕ
front ws ds = ws ++ drop (length ws) ds

pub front_none : (ds : List ℕ) → ds ≡ front [] ds
unfolding front
front_none ds = refl

pub front_more : (ws ds : List ℕ) (x n : ℕ) → n ≡ length ws → n < length ds → set (front ws ds) n x ≡ front (ws ++ (x ∷ [])) ds
unfolding front
front_more ws ds x n e h =
    ap (λ l. set (ws ++ l) n x) (drop-cons ds (length ws) 0 (omega arith))
    ∙ set_at ws _ _ x n (sym e)
    ∙ rw (append_assoc, length-append, add-one)

pub length_of_front : (ws ds : List ℕ) → length ws ≤ length ds → length (front ws ds) ≡ length ds
unfolding front
length_of_front ws ds h = length-append ws (drop (length ws) ds) ∙ (omega (arith, length-drop (length ws) ds))
