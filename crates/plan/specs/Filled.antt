-- A loop that fills the front of a buffer from another one.
-- Assumes nothing.
use Rattle.std.specs.Prelude.{ℕ, ◌+◌, ◌<◌, ◌≡◌, List, length, get_or, set, take}
use Rattle.std.proofs.Common.{add-one, arith, ap, sym, ◌∙◌, take-suc, length-take-le}
use Rattle.base.specs.Front.{front, front_more}

pub copied_more : (ds xs source : List ℕ) (i x : ℕ) → i < length ds → i < length source → x ≡ get_or source i 0 → xs ≡ front (take i source) ds → set xs i x ≡ front (take (i + 1) source) ds
copied_more ds xs source i x h l q e =
    ap (λ ys. set ys i x) e ∙ front_more (take i source) ds x i (sym (length-take-le i source (omega arith))) h
    ∙ ap (λ ys. front ys ds) (rw (add-one, q) (sym (take-suc source i 0 l)))
