-- What the exit of a `?` returns, where the error is passed on as it is.
-- Assumes nothing.
use Rattle.std.specs.Prelude.{◌≡◌, refl, Result, Ok, Err, IsErrAnd}
use Rattle.std.proofs.Common.{ap}

pub raised : {X E : Type 0} (r : Result X E) (e : E) → IsErrAnd r (λ x. x ≡ e) → r ≡ Err e
raised (Ok x) e h = absurd h
raised (Err x) e h = ap Err h
