-- A group by its id: the first two checks of R64
use Rattle.std.specs.Prelude.{ℕ, not, [], Option, Some, None, Ok, Err}
use Rattle.choice.specs.Choice.{when◌then◌else◌}
use Rattle.queue_record.specs.Openings.{blank}
use Rattle.queue_record.specs.declared.refusal.Refusal.TheVariants.{Broken, NoGroup}
use Rattle.group_record.specs.Record.{queue_at}
use Rattle.group_asking.specs.Scan.{first_yes}
use Rattle.group_check.specs.WellFormed.{well_grouped}
use Rattle.group_record.specs.declared.record.Groups.{Groups}
use Rattle.group_asking.specs.Question.{HoldsId}
use Rattle.queue_record.specs.declared.answered.Answered.{Answered}
use Rattle.group_check.specs.Types.{Got, Spot}

-- R123: where the id is live, or 10
abbrev pub spot_at : Option ℕ → Spot
spot_at None = Err NoGroup
spot_at (Some i) = Ok i

-- 1, then 10
unfoldable pub spot_of : Groups → ℕ → Spot
spot_of g id = when not (well_grouped g) then Err Broken else spot_at (first_yes g (HoldsId id) [])

-- R121: the queue at that place; beside a refusal the blank queue
abbrev pub got_at : Groups → Spot → Answered Got
got_at g (Err n) = record { answer = Err n; queue = blank }
got_at g (Ok i) = record { answer = Ok tt; queue = queue_at g i }

unfoldable pub got : Groups → ℕ → Answered Got
got g id = got_at g (spot_of g id)
