-- What this crate's calls answer, by their names
use Rattle.std.specs.Prelude.{ℕ, Option, Result}
use Rattle.queue_record.specs.declared.refusal.Refusal.{Refusal}
use Rattle.queue_record.specs.declared.record.Ticket.{Ticket}

-- R42: the ticket handed out with its undo number, if one is due, or what refused it
abbrev pub Popped : Type 0
Popped = Result (Option (Ticket × ℕ)) Refusal

-- R48: taken in, or what refused it and the kept number given
abbrev pub Completed : Type 0
Completed = Result (Unit {0}) (Refusal × ℕ)

-- R54: the ticket renewed, or what refused it
abbrev pub Retried : Type 0
Retried = Result Ticket Refusal
