-- What a table of the code has at a place, where the table was made from the names
use Prim.Native.Nat.{ℕ, zero, suc, ◌<◌, ◌≤◌}
use mathlib.Core.Path.{◌≡◌, refl}
use mathlib.Core.List.{List, [], ◌∷◌}
use native.Mathlib.Omega.{arith}
use lib.ListN.{length, get_or}

abbrev pub each : {A B : Type 0} → (A → B) → List A → List B
each f [] = []
each f (x ∷ xs) = f x ∷ each f xs

pub at_each : {A B : Type 0} (f : A → B) (xs : List A) (n : ℕ) (d : B) (e : A) → n < length xs → get_or (each f xs) n d ≡ f (get_or xs n e)
at_each f [] n d e h = absurd (omega arith)
at_each f (x ∷ xs) zero d e h = refl
at_each f (x ∷ xs) (suc n) d e h = at_each f xs n d e (omega arith)

pub past_all : {A : Type 0} (xs : List A) (n : ℕ) (e : A) → length xs ≤ n → get_or xs n e ≡ e
past_all [] n e h = refl
past_all (x ∷ xs) zero e h = absurd (omega arith)
past_all (x ∷ xs) (suc n) e h = past_all xs n e (omega arith)
