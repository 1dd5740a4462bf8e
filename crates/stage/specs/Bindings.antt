-- R34: sets of bindings, held as lists
use Rattle.std.specs.Prelude.{ℕ, ◌≡◌, Bool, true, false, ◌&&◌, ◌||◌, List, [], ◌∷◌, eqb}

-- x is one of the numbers
abbrev pub member : ℕ → List ℕ → Bool
member x [] = false
member x (y ∷ ys) = eqb y x || member x ys

-- two lists are the same set: whatever is in one is in the other
abbrev pub SameMembers : List ℕ → List ℕ → Type 0
SameMembers xs ys = (x : ℕ) → member x xs ≡ member x ys

-- each number of the first is in the second
abbrev pub within : List ℕ → List ℕ → Bool
within [] ys = true
within (x ∷ xs) ys = member x ys && within xs ys

-- the test that answers exactly SameMembers (the contract of same_set says so both ways)
unfoldable pub same_set : List ℕ → List ℕ → Bool
same_set xs ys = within xs ys && within ys xs
