-- R113, R114: admit, end and cancel of a group
use Rattle.std.specs.Prelude.{ℕ, false, List, Ok, Err}
use Rattle.queue_record.specs.declared.refusal.Refusal.{Refusal}
use Rattle.queue_questions.specs.Questions.{matches}
use Rattle.queue_stages.specs.Stages.{admitted, ended, cancelled_by}
use Rattle.group_record.specs.Record.{queue_at, with_queue}
use Rattle.group_check.specs.Ids.{spot_of}
use Rattle.group_record.specs.declared.record.Groups.{Groups}
use Rattle.queue_record.specs.declared.answered.Answered.{Answered}
use Rattle.group_record.specs.declared.answered.GroupsAnswered.{GroupsAnswered}
use Rattle.group_check.specs.Types.{Spot}
use Rattle.queue_questions.specs.Types.{Told}
use Rattle.queue_stages.specs.Types.{Cancelled}

abbrev pub refused_group_stage : Groups → Refusal → GroupsAnswered Told
refused_group_stage g refusal = record { answer = Err refusal; groups = g }

-- what a stage call of the queue at the place i answers and leaves
abbrev pub moved_at : Groups → ℕ → Answered Told → GroupsAnswered Told
moved_at g i step = record { answer = step.answer; groups = with_queue g i step.queue }

abbrev pub admitted_at : Groups → List ℕ → Spot → GroupsAnswered Told
admitted_at g target (Err refusal) = refused_group_stage g refusal
admitted_at g target (Ok i) = moved_at g i (admitted (queue_at g i) (matches (queue_at g i) target))

-- admit with a target: 1, 10
unfoldable pub admitted_in : Groups → ℕ → List ℕ → GroupsAnswered Told
admitted_in g id target = admitted_at g target (spot_of g id)

abbrev pub admitted_at_without : Groups → Spot → GroupsAnswered Told
admitted_at_without g (Err refusal) = refused_group_stage g refusal
admitted_at_without g (Ok i) = moved_at g i (admitted (queue_at g i) false)

-- admit without one: 1, 10
unfoldable pub admitted_in_without : Groups → ℕ → GroupsAnswered Told
admitted_in_without g id = admitted_at_without g (spot_of g id)

abbrev pub ended_at : Groups → Spot → GroupsAnswered Told
ended_at g (Err refusal) = refused_group_stage g refusal
ended_at g (Ok i) = moved_at g i (ended (queue_at g i))

-- end: 1, 10
unfoldable pub ended_in : Groups → ℕ → GroupsAnswered Told
ended_in g id = ended_at g (spot_of g id)

-- what cancel of the queue at the place i answers and leaves
abbrev pub stopped_at : Groups → ℕ → Answered Cancelled → GroupsAnswered Cancelled
stopped_at g i step = record { answer = step.answer; groups = with_queue g i step.queue }

-- R123: an id that is not live was passed over upstream; here it gets 10
abbrev pub cancelled_at : Groups → Spot → GroupsAnswered Cancelled
cancelled_at g (Err refusal) = record { answer = Err refusal; groups = g }
cancelled_at g (Ok i) = stopped_at g i (cancelled_by (queue_at g i))

-- cancel: 1, 10
unfoldable pub cancelled_in : Groups → ℕ → GroupsAnswered Cancelled
cancelled_in g id = cancelled_at g (spot_of g id)
