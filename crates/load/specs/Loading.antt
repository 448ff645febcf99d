-- What `load` gives: the answer and the tables as it leaves them. A refusal leaves them as they were.
-- Assumes nothing.
use Rattle.std.specs.Prelude.{◌*◌, cond, ltb, length, Result, Ok, Err}
use Rattle.theory.specs.declared.Refusal.TheVariants.{ShortBuffer}
use Rattle.record.specs.Contents.{Contents}
use Rattle.record.specs.File.{File, sound, refused}
use Rattle.record.specs.declared.Summary.{Summary}
use Rattle.load.specs.Tables.{Tables, holding}
use Rattle.theory.specs.declared.Refusal.{Refusal}

pub record Outcome : Type 0 where
  pub answer : Result Summary Refusal
  pub left : Tables

abbrev pub outcome : Result Summary Refusal → Tables → Outcome
outcome r b = record { answer = r; left = b }

-- a sound file: 9 names the lowest short buffer
unfoldable pub loading_sound : Summary → Contents → Tables → Outcome
loading_sound s t b =
    cond (ltb (length b.nodes) (3 * s.counts.nodes)) (outcome (Err (ShortBuffer 1)) b)
    (cond (ltb (length b.operands) s.counts.operands) (outcome (Err (ShortBuffer 2)) b)
    (cond (ltb (length b.roots) s.counts.roots) (outcome (Err (ShortBuffer 3)) b) (outcome (Ok s) (holding t b))))

unfoldable pub loading : File → Tables → Outcome
loading (sound s t) b = loading_sound s t b
loading (refused r) b = outcome (Err r) b
