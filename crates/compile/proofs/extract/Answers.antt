use Rattle.compile.specs.ProducersLaws.{extract_count, extract_table}
use Rattle.compile.proofs.RootFormula.{made_small}
use borrow.Author.Rules.{rules}
use native.Mathlib.Omega.{arith}
use mathlib.Core.Path.{◌≡◌, ◌∙◌}
use Rattle.base.specs.Front.{front_none}
use Rattle.compile.specs.Producers.{producer_words}
use Rattle.compile.specs.ProducersLaws.{producers_none, made_one}
use Rattle.compile.proofs.extract.Goals as goal

pub loop-i-init : goal.loop-i-init
unfolding producer_words
loop-i-init c = (search rules, search rules, search rules, search rules, rw producers_none, rw producers_none (front_none _))

pub word-root-requires : goal.word-root-requires
word-root-requires c = omega (arith, c.loop-i.invariant.1, c.requires.4.roots_long)

pub produce-produced-requires : goal.produce-produced-requires
produce-produced-requires c = (rw c.word-root.ensures.value (c.requires.4.in_nodes _ (omega (arith, c.loop-i.invariant.1))), c.requires.0, c.requires.3)

pub append-made-requires : goal.append-made-requires
append-made-requires c = (omega (arith, c.loop-i.invariant.1, c.loop-i.invariant.2, c.loop-i.invariant.3, c.requires.1), made_small _ _ _ _ c.requires.3 _ c.requires.2 (rw c.word-root.ensures.value (c.requires.4.in_nodes _ (omega (arith, c.loop-i.invariant.1)))) _ c.produce-produced.ensures, omega (arith, c.loop-i.invariant.1, c.loop-i.invariant.2, c.requires.2.roots))

pub loop-i-preserved : goal.loop-i-preserved
loop-i-preserved c = (search rules, search rules, omega (arith, c.append-made.ensures.0, made_one c.produce-produced.result, c.loop-i.invariant.2), c.append-made.auto.table ∙ c.loop-i.invariant.3, extract_count _ _ _ _ _ _ _ (omega (arith, c.loop-i.invariant.1, c.requires.4.roots_long)) c.word-root.ensures.value c.produce-produced.ensures _ _ c.loop-i.invariant.4 c.append-made.ensures.0, extract_table _ _ _ _ _ _ _ (omega (arith, c.loop-i.invariant.1, c.requires.4.roots_long)) c.word-root.ensures.value c.produce-produced.ensures _ _ _ _ c.loop-i.invariant.4 (omega (arith, c.loop-i.invariant.1, c.loop-i.invariant.2, c.requires.1)) c.loop-i.invariant.5 c.append-made.ensures.1)

pub shape_of-table : goal.shape_of-table
shape_of-table c = c.loop-i.invariant.3

pub returns : goal.returns
returns c = let e : c.loop-i.i ≡ c.args.counts.roots = omega (arith, c.loop-i.invariant.1) in record { value = rw e at c.loop-i.invariant.4; table_after = rw e at c.loop-i.invariant.5 }
