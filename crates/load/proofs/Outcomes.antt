-- What the definition of `load` gives of a sound file, at each exit.
-- Assumes nothing.
use Rattle.std.specs.Prelude.{Result, Ok, Err}
use Prim.Native.Nat.{ℕ, ◌*◌, ◌<◌, ◌≤◌}
use mathlib.Core.Path.{◌≡◌, sym, ap}
use mathlib.Core.List.{List}
use lib.ListN.{length}
use borrow.Author.Tests.{lt-ltb, le-ltb}
use Rattle.theory.specs.declared.Refusal.{Refusal}
use Rattle.theory.specs.declared.Refusal.TheVariants.{ShortBuffer}
use Rattle.record.specs.File.{start, theory_file, verdict}
use Rattle.record.specs.declared.Summary.{Summary}
use Rattle.load.specs.Tables.{Tables}
use Rattle.load.specs.Loading.{outcome, loading, loading_sound}
use Rattle.load.specs.Store.{stored_from}
use Rattle.record.proofs.Judging.{contents_of, sound-is, refused_is}
use Rattle.load.proofs.Storing.{tables_hold}

pub not_sound : (file : List ℕ) (b : Tables) (answer : Result Summary Refusal) (r : Refusal) → answer ≡ Err r → verdict (theory_file file) ≡ Err r
    → outcome answer b ≡ loading (theory_file file) b
unfolding loading
not_sound file b answer r a e = rw (a, refused_is (theory_file file) r e)

module _ (file : List ℕ) (s : Summary) (b : Tables) (e : verdict (theory_file file) ≡ Ok s) where
  whole : loading_sound s (contents_of (theory_file file)) b ≡ loading (theory_file file) b
  unfolding loading
  whole = sym (ap (λ f. loading f b) (sound-is (theory_file file) s e))

  pub short_nodes : length b.nodes < 3 * s.counts.nodes → outcome (Err (ShortBuffer 1)) b ≡ loading (theory_file file) b
  unfolding loading_sound
  short_nodes h = rw (lt-ltb (length b.nodes) (3 * s.counts.nodes) h) at whole

  module _ (long : 3 * s.counts.nodes ≤ length b.nodes) where
    pub short_operands : length b.operands < s.counts.operands → outcome (Err (ShortBuffer 2)) b ≡ loading (theory_file file) b
    unfolding loading_sound
    short_operands h = rw (le-ltb (length b.nodes) (3 * s.counts.nodes) long, lt-ltb (length b.operands) s.counts.operands h) at whole

    module _ (so-long : s.counts.operands ≤ length b.operands) where
      pub short_roots : length b.roots < s.counts.roots → outcome (Err (ShortBuffer 3)) b ≡ loading (theory_file file) b
      unfolding loading_sound
      short_roots h =
          rw (le-ltb (length b.nodes) (3 * s.counts.nodes) long, le-ltb (length b.operands) s.counts.operands so-long, lt-ltb (length b.roots) s.counts.roots h) at whole

      pub all_stored : (left : Tables) → s.counts.roots ≤ length b.roots → left ≡ stored_from file start b (length file)
          → outcome (Ok s) left ≡ loading (theory_file file) b
      unfolding loading_sound
      all_stored left h q =
          rw (q, tables_hold file s b e)
          (rw (le-ltb (length b.nodes) (3 * s.counts.nodes) long, le-ltb (length b.operands) s.counts.operands so-long, le-ltb (length b.roots) s.counts.roots h) at whole)

pub ruleset exits = (short_nodes, short_operands, short_roots, all_stored)
