-- Of the ticket given
use mathlib.Core.Path.{ap, ◌∙◌}
use Rattle.queue_record.specs.declared.record.Ticket.{Ticket}
use Rattle.queue_steps.specs.Attempts.{completed}
use Rattle.queue_words.specs.Words.{queue_of}
use Rattle.queue_words.specs.Exported.{on_record, complete_exported, complete_on}
use Rattle.word_steps.proofs.complete.complete_in.Goals as goal

pub returns : goal.returns
unfolding complete_on
returns c =
    let ws = c.args.queue.now in
    c.complete_by.ensures
    ∙ ap (λ (t : Ticket). on_record ws c.args.kept (complete_exported (completed (queue_of ws) t c.args.outcome c.args.kept))) c.ticket_at-given.ensures
