-- R28 to R32: the phases of a stage
use Rattle.std.specs.Prelude.{ℕ, Bool, true, false, not, eqb}
use Rattle.choice.specs.Choice.{when◌then◌else◌}
use Rattle.stage.specs.declared.phases.Phase.{Phase}
use Rattle.stage.specs.declared.phases.Phase.TheVariants.{Idle, Pending, Ended, Stopping, Closed}
use Rattle.stage.specs.declared.phases.Event.{Event}
use Rattle.stage.specs.declared.phases.Event.TheVariants.{Admit, Land, End, Cancel}

-- one row of the table: the phase after admit, after land, after end, after cancel
abbrev pub phase_row : Phase → Phase → Phase → Phase → Event → Phase
phase_row admit land end cancel Admit = admit
phase_row admit land end cancel Land = land
phase_row admit land end cancel End = end
phase_row admit land end cancel Cancel = cancel

-- R28: the phase after an event; where it stays, the phase itself
abbrev pub phase_after : Phase → Event → Phase
phase_after Idle = phase_row Pending Idle Idle Closed
phase_after Pending = phase_row Pending Idle Ended Stopping
phase_after Ended = phase_row Ended Ended Ended Closed
phase_after Stopping = phase_row Stopping Closed Closed Stopping
phase_after Closed = phase_row Closed Closed Closed Closed

-- R30: yes in Pending and Stopping
abbrev pub is_pending : Phase → Bool
is_pending Idle = false
is_pending Pending = true
is_pending Ended = false
is_pending Stopping = true
is_pending Closed = false

-- R31: yes in Ended and Closed
abbrev pub is_settled : Phase → Bool
is_settled Idle = false
is_settled Pending = false
is_settled Ended = true
is_settled Stopping = false
is_settled Closed = true

-- R32: yes in Stopping and Closed
abbrev pub is_cancelled : Phase → Bool
is_cancelled Idle = false
is_cancelled Pending = false
is_cancelled Ended = false
is_cancelled Stopping = true
is_cancelled Closed = true

-- R29: the phases as numbers, in the table's order
abbrev pub phase_number : Phase → ℕ
phase_number Idle = 0
phase_number Pending = 1
phase_number Ended = 2
phase_number Stopping = 3
phase_number Closed = 4

-- R29: the events as numbers, in the table's order
abbrev pub event_number : Event → ℕ
event_number Admit = 0
event_number Land = 1
event_number End = 2
event_number Cancel = 3

-- the phase of a number; a number past 4 counts as Closed
abbrev pub phase_at : ℕ → Phase
phase_at number =
    when eqb number 0 then Idle else
    when eqb number 1 then Pending else
    when eqb number 2 then Ended else
    when eqb number 3 then Stopping else
    Closed

-- two phases are different ones: their numbers are
abbrev pub differs : Phase → Phase → Bool
differs p q = not (eqb (phase_number p) (phase_number q))
