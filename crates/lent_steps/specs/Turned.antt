-- A turn on one queue: pop, and then complete on the record that pop left
use Rattle.std.specs.Prelude.{ℕ}
use Rattle.queue_record.specs.declared.record.Queue.{Queue}
use Rattle.queue_record.specs.declared.record.Ticket.{Ticket}
use Rattle.queue_steps.specs.Attempts.{popped, completed}
use Rattle.lent_steps.specs.declared.turns.TurnAnswer.{TurnAnswer}

-- the answer of complete is on the record that pop left, and so is the record at the end
abbrev pub turned : Queue → Ticket → ℕ → ℕ → TurnAnswer
turned q ticket outcome kept = record {
  popped = (popped q).answer;
  completed = (completed (popped q).queue ticket outcome kept).answer;
  queue = (completed (popped q).queue ticket outcome kept).queue;
}
