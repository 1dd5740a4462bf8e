-- R64: what refuses a birth, in its order behind 1
use Rattle.std.specs.Prelude.{ℕ, not, eqb, leb, Option, Some, None}
use Rattle.choice.specs.Choice.{when◌then◌else◌}
use Rattle.stage.specs.Phases.{is_pending}
use Rattle.stage.specs.declared.phases.Phase.{Phase}
use Rattle.queue_record.specs.declared.refusal.Refusal.{Refusal}
use Rattle.queue_record.specs.declared.refusal.Refusal.TheVariants.{BadNumber, NoSlot, NotPending}

-- register, of a number where so many tokens are issued: 2, 3
unfoldable pub register_refusal : ℕ → ℕ → Option Refusal
register_refusal number count =
    when eqb number 0 then Some BadNumber else
    when leb 64 count then Some NoSlot else
    None

-- land: 2, 4, 3
unfoldable pub land_refusal : ℕ → Phase → ℕ → Option Refusal
land_refusal number phase count =
    when eqb number 0 then Some BadNumber else
    when not (is_pending phase) then Some NotPending else
    when leb 64 count then Some NoSlot else
    None
