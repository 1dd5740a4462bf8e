-- What this crate's calls answer, by their names
use Rattle.std.specs.Prelude.{ℕ, Result}
use Rattle.queue_record.specs.declared.refusal.Refusal.{Refusal}

-- how many groups are live, or what refused the question
abbrev pub LenTold : Type 0
LenTold = Result ℕ Refusal
