-- How many numbers of a list can be registered one after the other, and what refuses the next one
use Rattle.std.specs.Prelude.{ℕ, suc, ◌+◌, ◌-◌, List, [], ◌∷◌, ◌++◌, take, replicate, is_none, Option, None}
use Rattle.choice.specs.Choice.{when◌then◌else◌}
use Rattle.queue_record.specs.declared.refusal.Refusal.{Refusal}
use Rattle.queue_decisions.specs.Births.{register_refusal}
use Rattle.queue_decisions.specs.declared.sequences.Taking.{Taking}

-- each number taken is a token more; the first that is refused ends it
unfoldable pub taken_of : List ℕ → ℕ → ℕ
taken_of [] count = 0
taken_of (number ∷ rest) count = when is_none (register_refusal number count) then suc (taken_of rest (count + 1)) else 0

-- what refuses the number behind the taken ones; None where there is none
unfoldable pub refusal_of : List ℕ → ℕ → Option Refusal
refusal_of [] count = None
refusal_of (number ∷ rest) count = when is_none (register_refusal number count) then refusal_of rest (count + 1) else register_refusal number count

-- the first n numbers in 64 places
abbrev pub copied : List ℕ → ℕ → List ℕ
copied numbers n = take n numbers ++ replicate (64 - n) 0

unfoldable pub taking_of : List ℕ → ℕ → Taking
taking_of numbers count = record { numbers = copied numbers (taken_of numbers count); taken = taken_of numbers count; refusal = refusal_of numbers count }
