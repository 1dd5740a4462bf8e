-- R149: a whole list registered in a group
use Rattle.std.specs.Prelude.{ℕ, List, Some, Ok, Err}
use Rattle.queue_births.specs.Sequences.{took_as, registered_all}
use Rattle.queue_births.specs.declared.sequences.RegisteredAll.{RegisteredAll}
use Rattle.group_record.specs.Record.{queue_at, with_queue}
use Rattle.group_check.specs.Ids.{spot_of}
use Rattle.group_record.specs.declared.record.Groups.{Groups}
use Rattle.queue_record.specs.declared.answered.Answered.{Answered}
use Rattle.group_record.specs.declared.answered.GroupsAnswered.{GroupsAnswered}
use Rattle.group_check.specs.Types.{Spot}

-- what the list of the queue at the place i answers and leaves
abbrev pub took_at : Groups → ℕ → Answered RegisteredAll → GroupsAnswered RegisteredAll
took_at g i step = record { answer = step.answer; groups = with_queue g i step.queue }

-- 1 and 10 take none, and are given of an empty list too
abbrev pub registered_all_at : Groups → List ℕ → Spot → GroupsAnswered RegisteredAll
registered_all_at g numbers (Err refusal) = record { answer = took_as 0 (Some refusal); groups = g }
registered_all_at g numbers (Ok i) = took_at g i (registered_all (queue_at g i) numbers)

-- 1, 10, then as the queue's
unfoldable pub registered_all_in : Groups → ℕ → List ℕ → GroupsAnswered RegisteredAll
registered_all_in g id numbers = registered_all_at g numbers (spot_of g id)
