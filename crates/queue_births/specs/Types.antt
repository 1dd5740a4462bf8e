-- What this crate's calls answer, by their names
use Rattle.std.specs.Prelude.{ℕ, Result}
use Rattle.queue_record.specs.declared.refusal.Refusal.{Refusal}

-- R38: the token, or what refused it and the number given
abbrev pub Registered : Type 0
Registered = Result ℕ (Refusal × ℕ)
