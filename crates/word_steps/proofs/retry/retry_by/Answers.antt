-- By the ticket that is due again
use mathlib.Core.Path.{sym, ◌∙◌}
use Rattle.word_steps.proofs.RetryLaws.{retry_due_on, retry_no, again_low}
use Rattle.word_steps.proofs.retry.retry_by.Goals as goal

pub renew-requires : goal.renew-requires
renew-requires c = (c.requires.0, again_low c.args.queue.now _ (sym c.requires.1 ∙ c.in-Ok.is))

pub returns-in-Err : goal.returns-in-Err
returns-in-Err c = rw c.into.ensures (sym (retry_no c.args.queue.now c.requires.0 (sym c.requires.1 ∙ c.in-Err.is)))

pub returns-in-Ok : goal.returns-in-Ok
returns-in-Ok c = rw c.renew.ensures (sym (retry_due_on c.args.queue.now c.requires.0 (sym c.requires.1 ∙ c.in-Ok.is)))
