-- What this crate's calls answer, by their names
use Rattle.std.specs.Prelude.{Result}
use Rattle.queue_record.specs.declared.refusal.Refusal.{Refusal}

-- R26: opened, or what refused it
abbrev pub Opened : Type 0
Opened = Result (Unit {0}) Refusal
