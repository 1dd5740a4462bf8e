-- Refused, or the ticket renewed
use Rattle.std.proofs.Common.{rules}
use mathlib.Core.Path.{sym, ◌∙◌}
use Rattle.queue_decisions.proofs.RenewalLaws.{renewal_low}
use Rattle.queue_steps.specs.Attempts.{retried}
use Rattle.queue_steps.proofs.attempts.retry.Goals as goal

pub returns-then-not-well_formed : goal.returns-then-not-well_formed
unfolding retried
returns-then-not-well_formed c = search rules

pub renew-requires : goal.renew-requires
renew-requires c = renewal_low _ _ _ _ c.args.q.selection (sym c.retry_due.ensures ∙ c.in-Ok.is)

pub returns-in-Err : goal.returns-in-Err
unfolding retried
returns-in-Err c = search rules

pub returns-in-Ok : goal.returns-in-Ok
unfolding retried
returns-in-Ok c = search rules
