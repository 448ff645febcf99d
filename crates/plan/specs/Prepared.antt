-- The work area once the class words stand at its front.
-- Assumes nothing.
use Rattle.std.specs.Prelude.{ℕ, ◌≡◌, List, ◌++◌, length, get_or, take, drop}
use Rattle.std.proofs.Common.{ap, ◌∙◌, take_at, drop_at}
use Rattle.base.specs.Rising.{length-rising}
use Rattle.theory.specs.declared.Counts.{Counts}
use Rattle.compile.specs.ClassWord.{class_words, class_words_rise}
use Rattle.ranks.specs.Classed.{Classed}

pub length-class_words : (nodes operands : List ℕ) (n : ℕ) → length (class_words nodes operands n) ≡ n
length-class_words nodes operands n = rw (class_words_rise nodes operands n) (length-rising 0 _ n)

module _ (t : Counts) (nodes operands area after : List ℕ) (e : after ≡ class_words nodes operands t.nodes ++ drop t.nodes area) where
  pub prepared_front : take t.nodes after ≡ class_words nodes operands t.nodes
  prepared_front = ap (take t.nodes) e ∙ take_at (class_words nodes operands t.nodes) _ t.nodes (length-class_words nodes operands t.nodes)

  pub prepared_back : drop t.nodes after ≡ drop t.nodes area
  prepared_back = ap (drop t.nodes) e ∙ drop_at (class_words nodes operands t.nodes) _ t.nodes (length-class_words nodes operands t.nodes)

  pub prepared_classed : Classed t nodes operands (take t.nodes after)
  prepared_classed = record { word = λ k l. ap (λ ws. get_or ws k 0) prepared_front }
