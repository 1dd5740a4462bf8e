-- What this crate's calls answer, by their names
use Rattle.std.specs.Prelude.{Result}
use Rattle.queue_record.specs.declared.refusal.Refusal.{Refusal}

-- R37: cancelled, or what refused it
abbrev pub Cancelled : Type 0
Cancelled = Result (Unit {0}) Refusal
