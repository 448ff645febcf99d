use Rattle.verdict.specs.ToldLaws.{told_found, told_astray}
use Rattle.verdict.proofs.lowest.Goals as goal

pub returns-then-i-n : goal.returns-then-i-n
returns-then-i-n c = λ k e. told_found c.args.n _ (record { members = c.args.words.now; size = k }) e c.next_word-i.ensures c.if-i-n.true

pub returns-else-i-n : goal.returns-else-i-n
returns-else-i-n c = λ k e. told_astray c.args.n _ (record { members = c.args.words.now; size = k }) e c.next_word-i.ensures c.if-i-n.false
