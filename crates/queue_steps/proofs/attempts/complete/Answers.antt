-- Refused, or settled
use Rattle.std.proofs.Common.{rules}
use mathlib.Core.Path.{sym, ◌∙◌}
use Rattle.queue_record.proofs.Fit.{selected_below}
use Rattle.queue_decisions.proofs.AnswerLaws.{out_selected, complete_fine}
use Rattle.queue_steps.specs.Attempts.{completed}
use Rattle.queue_steps.proofs.attempts.complete.Goals as goal

pub returns-then-not-well_formed : goal.returns-then-not-well_formed
unfolding completed
returns-then-not-well_formed c = search rules

pub returns-in-Some : goal.returns-in-Some
unfolding completed
returns-in-Some c = search rules

-- where nothing refuses it the ticket names one of the 64 slots
pub answer-requires : goal.answer-requires
answer-requires c =
    selected_below c.args.q _ (sym c.well_formed-2.ensures ∙ c.if-not-well_formed.false)
    (out_selected c.args.q.issued c.args.q.selection _ (complete_fine _ _ c.args.ticket _ _ (sym c.complete_refusal.ensures ∙ c.in-None.is)).out)

pub returns-in-None : goal.returns-in-None
unfolding completed
returns-in-None c = search rules
