-- R113, R114: pop, complete and retry of a group
use Rattle.std.specs.Prelude.{ℕ, Ok, Err}
use Rattle.queue_record.specs.declared.record.Ticket.{Ticket}
use Rattle.queue_steps.specs.Attempts.{popped, completed, retried}
use Rattle.group_record.specs.Record.{queue_at, with_queue}
use Rattle.group_check.specs.Ids.{spot_of}
use Rattle.group_record.specs.declared.record.Groups.{Groups}
use Rattle.queue_record.specs.declared.answered.Answered.{Answered}
use Rattle.group_record.specs.declared.answered.GroupsAnswered.{GroupsAnswered}
use Rattle.group_check.specs.Types.{Spot}
use Rattle.queue_steps.specs.Types.{Completed, Popped, Retried}

-- what pop of the queue at the place i answers and leaves
abbrev pub handed_at : Groups → ℕ → Answered Popped → GroupsAnswered Popped
handed_at g i step = record { answer = step.answer; groups = with_queue g i step.queue }

abbrev pub popped_at : Groups → Spot → GroupsAnswered Popped
popped_at g (Err refusal) = record { answer = Err refusal; groups = g }
popped_at g (Ok i) = handed_at g i (popped (queue_at g i))

-- pop: 1, 10, then 9, 5
unfoldable pub popped_in : Groups → ℕ → GroupsAnswered Popped
popped_in g id = popped_at g (spot_of g id)

-- what complete of the queue at the place i answers and leaves
abbrev pub settled_at : Groups → ℕ → Answered Completed → GroupsAnswered Completed
settled_at g i step = record { answer = step.answer; groups = with_queue g i step.queue }

-- R62: a refusal gives the kept number back
abbrev pub completed_at : Groups → Ticket → ℕ → ℕ → Spot → GroupsAnswered Completed
completed_at g ticket outcome kept (Err refusal) = record { answer = Err (refusal, kept); groups = g }
completed_at g ticket outcome kept (Ok i) = settled_at g i (completed (queue_at g i) ticket outcome kept)

-- complete: 1, 10, then 15, 6, 7
unfoldable pub completed_in : Groups → ℕ → Ticket → ℕ → ℕ → GroupsAnswered Completed
completed_in g id ticket outcome kept = completed_at g ticket outcome kept (spot_of g id)

-- what retry of the queue at the place i answers and leaves
abbrev pub renewed_at : Groups → ℕ → Answered Retried → GroupsAnswered Retried
renewed_at g i step = record { answer = step.answer; groups = with_queue g i step.queue }

abbrev pub retried_at : Groups → Spot → GroupsAnswered Retried
retried_at g (Err refusal) = record { answer = Err refusal; groups = g }
retried_at g (Ok i) = renewed_at g i (retried (queue_at g i))

-- retry: 1, 10, then as the queue's
unfoldable pub retried_in : Groups → ℕ → GroupsAnswered Retried
retried_in g id = retried_at g (spot_of g id)
