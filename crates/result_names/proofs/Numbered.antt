-- The names stand at their numbers, and each leaves a 0 behind it
use Prim.Native.Nat.{ℕ, zero, suc}
use mathlib.Core.Path.{◌≡◌, refl}
use mathlib.Core.Bool.{Bool, true, ◌&&◌}
use mathlib.Core.List.{List, [], ◌∷◌}
use Prim.Native.String.{String, len}
use lib.Dec.{ltb}
use lib.ListN.{length}
use Rattle.result_names.specs.Names.{results, result_names}

-- the numbers from one on
abbrev count_from : ℕ → ℕ → List ℕ
count_from n zero = []
count_from n (suc left) = n ∷ count_from (suc n) left

pub in_order : results ≡ count_from 0 (length result_names)
in_order = refl

abbrev short_names : List String → Bool
short_names [] = true
short_names (s ∷ ss) = ltb (len s) 24 && short_names ss

pub room_behind : short_names ("unknown" ∷ result_names) ≡ true
room_behind = refl
