-- R64: what refuses the answer to a ticket, in its order behind 1
use Rattle.std.specs.Prelude.{ℕ, Bool, false, not, ◌&&◌, eqb, ltb, Option, Some, None}
use Rattle.choice.specs.Choice.{when◌then◌else◌}
use Rattle.queue_record.specs.declared.refusal.Refusal.{Refusal}
use Rattle.queue_record.specs.declared.refusal.Refusal.TheVariants.{BadOutcome, NotOut, KeptOnDone}
use Rattle.queue_record.specs.declared.record.Ticket.{Ticket}

-- R139: two tickets agree in every part
abbrev pub same_ticket : Ticket → Ticket → Bool
same_ticket s t = eqb s.domain t.domain && (eqb s.token t.token && eqb s.attempt t.attempt)

abbrev pub selects : Option Ticket → Ticket → Bool
selects None t = false
selects (Some s) t = same_ticket s t

-- R63, number 6, denied: something is issued, and it is this ticket
abbrev pub is_out : Bool → Option Ticket → Ticket → Bool
is_out issued selection t = issued && selects selection t

-- R49: the two outcomes; R63, number 7: Done keeps no number
abbrev pub keeps_on_done : ℕ → ℕ → Bool
keeps_on_done outcome kept = eqb outcome 0 && not (eqb kept 0)

-- complete: 15, 6, 7
unfoldable pub complete_refusal : Bool → Option Ticket → Ticket → ℕ → ℕ → Option Refusal
complete_refusal issued selection ticket outcome kept =
    when ltb 1 outcome then Some BadOutcome else
    when not (is_out issued selection ticket) then Some NotOut else
    when keeps_on_done outcome kept then Some KeptOnDone else
    None
