-- Whether anything is left, by what the search found
use Prim.Native.Nat.{ℕ}
use mathlib.Core.Path.{◌≡◌, refl}
use mathlib.Core.Bool.{true}
use mathlib.Core.List.{List, [], ◌∷◌}
use native.Mathlib.Omega.{arith}
use Rattle.queue_record.specs.Newest.{newest, last_or}
use Rattle.queue_record.specs.Waiting.{others}
use Rattle.queue_record.specs.declared.record.Ticket.{Ticket}
use Rattle.queue_questions.specs.Questions.{nothing_left}
use Rattle.std.specs.Prelude.{Option, Some, None, is_none}

-- what was found stays found
found_stays : (k : ℕ) (ks : List ℕ) → is_none (last_or (Some k) ks) ≡ is_none (Some k)
found_stays k [] = refl
found_stays k (j ∷ ks) = found_stays j ks

-- with nothing selected, nothing is left where the search finds nothing
pub none_left : (s : Option Ticket) (ks : List ℕ) → is_none s ≡ true → nothing_left s (others s ks) ≡ is_none (newest ks)
unfolding newest
none_left None [] e = refl
none_left None (k ∷ ks) e = let r : is_none (last_or (Some k) ks) ≡ is_none (Some k) = found_stays k ks in cc
none_left (Some t) ks e = let z : ◌≡◌ {A = ℕ} 0 1 = cc in absurd (omega arith)
