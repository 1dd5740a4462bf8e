-- A search from the end down, step by step: docs/landings/E02.md names these laws
use Prim.Native.Nat.{ℕ, suc, ◌-◌, ◌<◌, ◌≤◌}
use mathlib.Core.Path.{◌≡◌, refl, sym, ap, ◌∙◌}
use mathlib.Core.Bool.{Bool, true, false}
use mathlib.Core.List.{List}
use native.Mathlib.Omega.{arith}
use borrow.Author.Tests.{ltb-true, ltb-false}
use lib.Dec.{ltb}
use lib.ListN.{length, get_or}
use Rattle.queue_record.specs.WellFormed.{rest_zero}
use Rattle.queue_record.specs.Waiting.{occupied}
use Rattle.queue_record.specs.Newest.{newest}
use Rattle.queue_record.proofs.Zeros.{rest_from_places, rest_at}
use Rattle.queue_record.proofs.Last.{found_newest, found_none}
use Rattle.std.specs.Prelude.{Some, None}

-- one step down
module _ (xs : List ℕ) (left : ℕ) (some : 0 < left) (rest : rest_zero left xs ≡ true) where
  pub down_found : (get_or xs (left - 1) 0 ≡ 0 → ⊥) → newest (occupied 0 xs) ≡ Some (left - 1)
  down_found n = sym (found_newest xs (left - 1) n (λ k l _. rest_at left xs k rest (omega arith)))

  pub down_pass : left ≤ length xs → get_or xs (left - 1) 0 ≡ 0 → rest_zero (left - 1) xs ≡ true
  down_pass l e = rest_from_places (left - 1) xs (λ k h _. at k h (ltb k left) refl)
    where
      at : (k : ℕ) → left - 1 ≤ k → (b : Bool) → ltb k left ≡ b → get_or xs k 0 ≡ 0
      at k h true q =
          let s : k ≡ left - 1 = omega (arith, ltb-true _ _ q) in
          ap (λ (m : ℕ). get_or xs m 0) s ∙ e
      at k h false q = rest_at left xs k rest (ltb-false _ _ q)

pub down_none : (xs : List ℕ) (left : ℕ) → left ≤ 0 → rest_zero left xs ≡ true → newest (occupied 0 xs) ≡ None
down_none xs left z rest = sym (found_none xs (λ k _. rest_at left xs k rest (omega arith)))
