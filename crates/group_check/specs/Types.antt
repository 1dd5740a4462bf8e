-- What this crate's calls answer, by their names
use Rattle.std.specs.Prelude.{ℕ, Result}
use Rattle.queue_record.specs.declared.refusal.Refusal.{Refusal}

-- where a live group stands, or what refuses its id
abbrev pub Spot : Type 0
Spot = Result ℕ Refusal

-- a group was given, or what refused it
abbrev pub Got : Type 0
Got = Result (Unit {0}) Refusal
