-- Register and land (R38 to R40); what refuses them is decided in queue_decisions
use Rattle.std.specs.Prelude.{ℕ, ◌+◌, not, Option, Some, None, Ok, Err}
use Rattle.choice.specs.Choice.{when◌then◌else◌}
use Rattle.stage.specs.Phases.{phase_after}
use Rattle.stage.specs.declared.phases.Event.TheVariants.{Land}
use Rattle.queue_record.specs.declared.refusal.Refusal.{Refusal}
use Rattle.queue_record.specs.declared.refusal.Refusal.TheVariants.{Broken}
use Rattle.queue_record.specs.Record.{with_slot, with_count, with_phase}
use Rattle.queue_record.specs.WellFormed.{well_formed}
use Rattle.queue_record.specs.declared.record.Queue.{Queue}
use Rattle.queue_decisions.specs.Births.{register_refusal, land_refusal}
use Rattle.queue_record.specs.declared.answered.Answered.{Answered}
use Rattle.queue_births.specs.Types.{Registered}

-- R62: a refusal: its number, the undo number given, and the record as it was
abbrev pub refused_birth : Queue → Refusal → ℕ → Answered Registered
refused_birth q refusal number = record { answer = Err (refusal, number); queue = q }

-- R38: the undo number in the next unused slot, and one token more
abbrev pub grown : Queue → ℕ → Queue
grown q number = with_count (with_slot q q.count number) (q.count + 1)

-- R6: its token is its slot's place
abbrev pub born : Queue → Queue → Answered Registered
born q after = record { answer = Ok q.count; queue = after }

-- born into the record after it, or refused with the number given
abbrev pub born_by : Queue → ℕ → Queue → Option Refusal → Answered Registered
born_by q number after None = born q after
born_by q number after (Some refusal) = refused_birth q refusal number

-- R38, R39: whatever the phase. Order 1, 2, 3
unfoldable pub registered : Queue → ℕ → Answered Registered
registered q number =
    when not (well_formed q) then refused_birth q Broken number else
    born_by q number (grown q number) (register_refusal number q.count)

-- R40: as grown, and the stage moves
abbrev pub landed_to : Queue → ℕ → Queue
landed_to q number = with_phase (grown q number) (phase_after q.phase Land)

-- R40: only while the stage is pending. Order 1, 2, 4, 3
unfoldable pub landed : Queue → ℕ → Answered Registered
landed q number =
    when not (well_formed q) then refused_birth q Broken number else
    born_by q number (landed_to q number) (land_refusal number q.phase q.count)
