-- R113, R114: register and land of a group
use Rattle.std.specs.Prelude.{ℕ, Ok, Err}
use Rattle.queue_record.specs.declared.refusal.Refusal.{Refusal}
use Rattle.queue_births.specs.Births.{registered, landed}
use Rattle.group_record.specs.Record.{queue_at, with_queue}
use Rattle.group_check.specs.Ids.{spot_of}
use Rattle.group_record.specs.declared.record.Groups.{Groups}
use Rattle.queue_record.specs.declared.answered.Answered.{Answered}
use Rattle.group_record.specs.declared.answered.GroupsAnswered.{GroupsAnswered}
use Rattle.group_check.specs.Types.{Spot}
use Rattle.queue_births.specs.Types.{Registered}

-- R62: the refusal, the undo number given, and the record as it was
abbrev pub refused_group_birth : Groups → Refusal → ℕ → GroupsAnswered Registered
refused_group_birth g refusal number = record { answer = Err (refusal, number); groups = g }

-- what a step of the queue at the place i answers and leaves
abbrev pub born_at : Groups → ℕ → Answered Registered → GroupsAnswered Registered
born_at g i step = record { answer = step.answer; groups = with_queue g i step.queue }

abbrev pub registered_at : Groups → ℕ → Spot → GroupsAnswered Registered
registered_at g number (Err refusal) = refused_group_birth g refusal number
registered_at g number (Ok i) = born_at g i (registered (queue_at g i) number)

-- register: 1, 10, then 2, 3
unfoldable pub registered_in : Groups → ℕ → ℕ → GroupsAnswered Registered
registered_in g id number = registered_at g number (spot_of g id)

abbrev pub landed_at : Groups → ℕ → Spot → GroupsAnswered Registered
landed_at g number (Err refusal) = refused_group_birth g refusal number
landed_at g number (Ok i) = born_at g i (landed (queue_at g i) number)

-- land: 1, 10, then 2, 4, 3
unfoldable pub landed_in : Groups → ℕ → ℕ → GroupsAnswered Registered
landed_in g id number = landed_at g number (spot_of g id)
