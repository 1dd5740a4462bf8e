-- What this crate's calls answer, by their names
use Rattle.std.specs.Prelude.{ℕ, Result}
use Rattle.queue_record.specs.declared.refusal.Refusal.{Refusal}

-- the id of the group opened, or what refused it
abbrev pub Added : Type 0
Added = Result ℕ Refusal
