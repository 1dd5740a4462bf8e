-- R43: the newest of some tokens in ascending order: the last one, if there is one
use Rattle.std.specs.Prelude.{ℕ, Bool, true, false, List, [], ◌∷◌, Option, Some, None}

-- the last token, or what was found before where there is none
abbrev pub last_or : Option ℕ → List ℕ → Option ℕ
last_or found [] = found
last_or found (k ∷ ks) = last_or (Some k) ks

unfoldable pub newest : List ℕ → Option ℕ
newest ks = last_or None ks

-- something was found
abbrev pub is_there : Option ℕ → Bool
is_there (Some k) = true
is_there None = false
