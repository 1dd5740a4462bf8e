-- A choice by a test, a test that is asked under a condition, and a test as a number
use Rattle.std.specs.Prelude.{ℕ, Bool, true, false}

infixr 1 when◌then◌else◌
abbrev pub when◌then◌else◌ : {A : Type 0} → Bool → A → A → A
when true then a else b = a
when false then a else b = b

-- the second is asked only where the first holds
abbrev pub implies : Bool → Bool → Bool
implies true b = b
implies false b = true

-- yes is 1 and no is 0
abbrev pub bit : Bool → ℕ
bit true = 1
bit false = 0
