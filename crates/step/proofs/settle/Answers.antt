use native.Mathlib.Omega.{arith}
use mathlib.Core.Path.{sym, ◌∙◌}
use Rattle.readers.specs.ReaderTable.{reader_words}
use Rattle.readers.specs.LaidLaws.{in_order_true, in_order_more}
use Rattle.kept_laws.specs.Given.{told}
use Rattle.kept_laws.specs.Stores.{from_truth}
use Rattle.step.specs.SettleLaws.{settle_same, settle_astray, settle_told}
use Rattle.step.proofs.settle.Goals as goal

pub returns-then-holds : goal.returns-then-holds
returns-then-holds c = let s = c in
    let g = s.args in
    λ T. settle_same (told g.counts g.made g.producers.now g.readers.now T) g.kept.now s.requires.4 g.k s.requires.5 g.holds _ c.holds.ensures c.if-holds.true

pub returns-then-not-in_order_from : goal.returns-then-not-in_order_from
returns-then-not-in_order_from c = let s = c in
    let g = s.args in
    λ T. settle_astray (told g.counts g.made g.producers.now g.readers.now T) g.kept.now s.requires.4 g.k s.requires.5 g.holds _ c.holds.ensures
    c.if-holds.false _ (rw c.table_words.ensures at c.in_order_from.ensures) c.if-not-in_order_from.true

pub list_from-list-requires : goal.list_from-list-requires
list_from-list-requires c = let s = c in
    let test = sym (rw c.table_words.ensures at c.in_order_from.ensures) ∙ c.if-not-in_order_from.false in (
      omega (arith, s.requires.3, s.requires.5),
      in_order_more s.args.readers.now (reader_words s.args.counts) _ s.args.k s.requires.3 (in_order_true _ _ _ test),
      s.requires.6,
    )

pub returns : goal.returns
returns c = let s = c in
    let g = s.args in
    λ T. settle_told (told g.counts g.made g.producers.now g.readers.now T) g.kept.now s.requires.4 g.k s.requires.5 g.holds _ c.holds.ensures
    c.if-holds.false _ (rw c.table_words.ensures at c.in_order_from.ensures) c.if-not-in_order_from.false _ (rw (c.from.ensures, from_truth c.args.holds)) _ c.list_from-list.ensures
    _ _ (c.update_readers.ensures (told g.counts g.made g.producers.now g.readers.now T))
