-- A number below ten is its own digit
use Rattle.std.proofs.Common.{◌≡◌, refl, ℕ, zero, suc, ◌+◌, ◌≤◌, ◌<◌, List, [], ◌∷◌, length, take, slice_set, arith, rules}
use Rattle.csv_lines.specs.Form.{spelled}
use Rattle.csv_lines.proofs.writing.+spell.Goals as goal

one_digit : (out : List ℕ) (most n : ℕ) → most ≤ length out → (most ≡ 0 → ⊥) → n < 10 → take 1 (slice_set out 0 (48 + n)) ≡ spelled most n
one_digit [] most n l m h = absurd (m (omega (arith, l)))
one_digit (x ∷ xs) zero n l m h = absurd (m refl)
one_digit (x ∷ xs) (suc most) n l m h = search rules

pub returns-then-n-lt10-clause-digits : goal.returns-then-n-lt10-clause-digits
returns-then-n-lt10-clause-digits t c = one_digit _ _ _ c.requires c.if-most-eq0.false c.if-n-lt10.true
