-- What this crate's calls answer, by their names
use Rattle.std.specs.Prelude.{Result}
use Rattle.queue_record.specs.declared.refusal.Refusal.{Refusal}

-- closed or sealed, or what refused it
abbrev pub Closed : Type 0
Closed = Result (Unit {0}) Refusal
