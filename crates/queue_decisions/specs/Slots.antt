-- A token's slot, and the number that no attempt carries
use Rattle.std.specs.Prelude.{ℕ, List, get_or}

-- R86: attempts stay below this number, TOP
abbrev pub no_more : ℕ
no_more = 18446744073709551615

-- R5: what stands in a token's slot; 0 is an empty slot
abbrev pub slot_in : List ℕ → ℕ → ℕ
slot_in slots token = get_or slots token 0
