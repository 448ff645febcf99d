-- The cases of the answers as the definitions name them: document 01's notmodel, residual and stable.
-- Assumes nothing.
use Rattle.std.specs.Prelude.{ℕ, Option, Some, None, Result, Ok, Err}
use Rattle.kept.specs.CountedSet as sets
use Rattle.kept.specs.Verdict as verdicts
use Rattle.verdict.specs.declared.Verdict.{Verdict}
use Rattle.verdict.specs.declared.Verdict.TheVariants.{NotModel, Residual, Stable}
use Rattle.kept_laws.specs.declared.OutOfRange.{OutOfRange}

abbrev pub verdict_as : Verdict → verdicts.Verdict
verdict_as (NotModel root) = verdicts.not_model root
verdict_as (Residual atom) = verdicts.residual atom
verdict_as Stable = verdicts.stable

abbrev pub judged_of : Result Verdict OutOfRange → Option verdicts.Verdict
judged_of (Ok v) = Some (verdict_as v)
judged_of (Err x) = None

abbrev pub lookup_of : Result (Option ℕ) OutOfRange → sets.Lookup
lookup_of (Ok None) = sets.empty
lookup_of (Ok (Some i)) = sets.at i
lookup_of (Err x) = sets.astray
