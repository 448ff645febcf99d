use native.Mathlib.Omega.{arith}
use Rattle.words.proofs.Words.{few}
use Rattle.words.proofs.set.next_word.Goals as goal

pub overflow_add-first : goal.overflow_add-first
overflow_add-first g c = omega (arith, few _ _ _ g.met.W.Word.laws c.args.words.now c.requires.words_bound, c.requires.first_in_bounds)
