-- Closing (R110, R111) and sealing (R112)
use Rattle.std.specs.Prelude.{ℕ, not, [], Ok, Err}
use Rattle.choice.specs.Choice.{when◌then◌else◌}
use Rattle.queue_record.specs.declared.refusal.Refusal.{Refusal}
use Rattle.queue_record.specs.declared.refusal.Refusal.TheVariants.{NotDrained}
use Rattle.group_record.specs.Record.{queue_at, free_place, with_place, sealing}
use Rattle.group_asking.specs.Questions.{drained}
use Rattle.group_asking.specs.Scan.{some_yes}
use Rattle.group_check.specs.Ids.{spot_of}
use Rattle.group_record.specs.declared.record.Groups.{Groups}
use Rattle.group_asking.specs.Question.{Undrained}
use Rattle.group_openings.specs.Openings.{unsealed}
use Rattle.group_record.specs.declared.answered.GroupsAnswered.{GroupsAnswered}
use Rattle.group_check.specs.Types.{Spot}
use Rattle.group_endings.specs.Types.{Closed}
use Rattle.queue_record.specs.Types.{Opened}

abbrev pub refused_close : Groups → Refusal → GroupsAnswered Closed
refused_close g refusal = record { answer = Err refusal; groups = g }

-- R111: the place is again as it was before any opening
abbrev pub removed_at : Groups → Spot → GroupsAnswered Closed
removed_at g (Err refusal) = refused_close g refusal
removed_at g (Ok i) =
    when not (drained (queue_at g i)) then refused_close g NotDrained else
    record { answer = Ok tt; groups = with_place g i free_place }

-- R110: closing: 1, 10, 13
unfoldable pub removed : Groups → ℕ → GroupsAnswered Closed
removed g id = removed_at g (spot_of g id)

abbrev pub sealed_by : Groups → Opened → GroupsAnswered Closed
sealed_by g (Err refusal) = refused_close g refusal
sealed_by g (Ok tt) =
    when some_yes g Undrained [] then refused_close g NotDrained else
    record { answer = Ok tt; groups = sealing g }

-- R112: sealing: 1, 12, 13; then all places are free
unfoldable pub sealed_in : Groups → GroupsAnswered Closed
sealed_in g = sealed_by g (unsealed g)
