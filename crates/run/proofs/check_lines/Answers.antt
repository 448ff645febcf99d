use Prim.Native.Nat.{ℕ, ◌<◌}
use native.Mathlib.Numerals.{add-one}
use native.Mathlib.Omega.{arith}
use mathlib.Core.Path.{refl}
use lib.ListN.{replicate, length-replicate}
use Rattle.load.specs.Candidate.{place_of}
use Rattle.run.specs.CheckLaws.{file_candidates, few_candidates, going_none, going_more, going_done}
use borrow.Author.Rules.{rules}
use Rattle.run.proofs.check_lines.Goals as goal

pub loop-i-init : goal.loop-i-init
unfolding place_of
loop-i-init c = (search rules, refl, refl, refl, length-replicate {A = ℕ} 4112 0, going_none _ _ (replicate 4112 0) _ _)

pub check_line-next-requires : goal.check_line-next-requires
check_line-next-requires c = (
  rw c.loop-i.invariant.2 ((file_candidates c.args.file.now c.args.s c.requires.0).stands c.loop-i.i (omega (arith, c.loop-i-test.true))),
  c.requires.1,
  omega (arith, c.loop-i.invariant.1),
  omega (arith, c.loop-i.invariant.5.short, c.requires.2, c.requires.3, c.loop-i-test.true, few_candidates c.args.file.now c.args.s c.requires.0),
)

pub loop-i-preserved : goal.loop-i-preserved
unfolding place_of
loop-i-preserved c = let k = file_candidates c.args.file.now c.args.s c.requires.0 in
    let h : c.loop-i.i < c.args.s.candidates = omega (arith, c.loop-i-test.true) in (
      search rules,
      omega (arith, c.check_line-next.auto, c.loop-i.invariant.1),
      rw (add-one, ← c.loop-i.invariant.2) c.check_line-next.ensures.0,
      omega (arith, c.check_line-next.auto, c.loop-i.invariant.3),
      omega (arith, c.check_line-next.auto, c.loop-i.invariant.4),
      going_more _ _ _ _ _ c.loop-i.i c.loop-i.kept c.loop-i.end c.loop-i.out c.loop-i.invariant.5 _ _ _ _ (omega (arith, k.so_many)) (rw c.loop-i.invariant.2 (k.holds c.loop-i.i h)) c.check_line-next.ensures.1 c.check_line-next.ensures.2,
    )

pub shape_of-out : goal.shape_of-out
shape_of-out c = c.loop-i.invariant.3

pub returns : goal.returns
returns c = going_done _ _ _ _ _ c.loop-i.i c.loop-i.kept c.loop-i.end c.loop-i.out c.loop-i.invariant.5 (omega (arith, c.loop-i-test.false, (file_candidates c.args.file.now c.args.s c.requires.0).so_many))
