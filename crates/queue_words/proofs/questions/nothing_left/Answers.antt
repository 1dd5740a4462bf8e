-- Something found means that something is left
use Rattle.std.proofs.Common.{rules}
use Rattle.queue_words.proofs.QuestionWords.{left_found}
use Rattle.queue_words.proofs.questions.nothing_left.Goals as goal

pub returns-then-w-eq0 : goal.returns-then-w-eq0
returns-then-w-eq0 c = search (rules, left_found c.args.w.now c.if-w-eq0.true)
