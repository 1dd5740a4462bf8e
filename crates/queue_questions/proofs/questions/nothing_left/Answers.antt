-- Something found means that something is left
use Rattle.std.proofs.Common.{rules}
use Rattle.queue_record.specs.Waiting.{occupied}
use Rattle.queue_questions.proofs.Left.{none_left}
use Rattle.queue_questions.proofs.questions.nothing_left.Goals as goal

pub returns-then-is_none : goal.returns-then-is_none
returns-then-is_none c = search (rules, none_left c.args.selection (occupied 0 c.args.slots.now) (search rules))
