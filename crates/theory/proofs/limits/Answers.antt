use borrow.Author.Tests.{lt-ltb, le-ltb}
use Rattle.theory.specs.Limits.{limits_of}
use Rattle.theory.proofs.limits.Goals as goal

pub returns-then-counts-gt65536 : goal.returns-then-counts-gt65536
unfolding limits_of
returns-then-counts-gt65536 c = simp (lt-ltb _ _ c.if-counts-gt65536.true)

pub returns-then-counts-gt262144 : goal.returns-then-counts-gt262144
unfolding limits_of
returns-then-counts-gt262144 c = simp (le-ltb _ _ c.if-counts-gt65536.false, lt-ltb _ _ c.if-counts-gt262144.true)

pub returns-then-counts-gt1048576 : goal.returns-then-counts-gt1048576
unfolding limits_of
returns-then-counts-gt1048576 c = simp (le-ltb _ _ c.if-counts-gt65536.false, le-ltb _ _ c.if-counts-gt262144.false, lt-ltb _ _ c.if-counts-gt1048576.true)

pub returns-then-counts-gt262144-2 : goal.returns-then-counts-gt262144-2
unfolding limits_of
returns-then-counts-gt262144-2 c = simp (le-ltb _ _ c.if-counts-gt65536.false, le-ltb _ _ c.if-counts-gt262144.false, le-ltb _ _ c.if-counts-gt1048576.false, lt-ltb _ _ c.if-counts-gt262144-2.true)

pub returns : goal.returns
unfolding limits_of
returns c = simp (le-ltb _ _ c.if-counts-gt65536.false, le-ltb _ _ c.if-counts-gt262144.false, le-ltb _ _ c.if-counts-gt1048576.false, le-ltb _ _ c.if-counts-gt262144-2.false)
