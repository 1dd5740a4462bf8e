-- What this crate's calls answer, by their names
use Rattle.std.specs.Prelude.{ℕ, Bool, Result}
use Rattle.queue_record.specs.declared.refusal.Refusal.{Refusal}

-- yes or no, or what refused the question
abbrev pub Told : Type 0
Told = Result Bool Refusal

-- the domain, or what refused the question
abbrev pub DomainTold : Type 0
DomainTold = Result ℕ Refusal
