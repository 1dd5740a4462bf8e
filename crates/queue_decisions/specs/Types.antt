-- What this crate's calls answer, by their names
use Rattle.std.specs.Prelude.{ℕ, Option, Result}
use Rattle.queue_record.specs.declared.refusal.Refusal.{Refusal}
use Rattle.queue_record.specs.declared.record.Ticket.{Ticket}

-- the ticket that is due, its undo number and the next attempt number once it is out
abbrev pub Due : Type 0
Due = Result (Option (Ticket × ℕ × ℕ)) Refusal

-- the ticket renewed, or what refuses it
abbrev pub Renewal : Type 0
Renewal = Result Ticket Refusal
