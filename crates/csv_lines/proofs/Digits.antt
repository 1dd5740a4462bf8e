-- Digits read one by one: what each byte at a place does to the value so far
use Prim.Native.Nat.{ℕ, suc, ◌+◌, ◌*◌, ◌≤◌, ◌<◌}
use mathlib.Core.Path.{◌≡◌, refl, ap, ◌∙◌}
use mathlib.Core.Bool.{Bool, true, false}
use mathlib.Core.List.{List, ◌∷◌}
use native.Mathlib.Omega.{arith}
use lib.Dec.{leb}
use lib.ListN.{length, get_or, drop, drop_of_length-le}
use lib.Seq.{drop-cons}
use borrow.Author.Tests.{leb-true, leb-false, le-leb, lt-leb}
use Rattle.choice.proofs.Ways.{hit, miss}
use Rattle.csv_lines.specs.Reading.{is_digit, digit_of, takes, more_digits}
use Rattle.std.specs.Prelude.{Some, None}

module _ (text : List ℕ) (at value : ℕ) (inside : at < length text) where
  -- the byte at the place, and the rest
  ahead : more_digits value at (drop at text) ≡ more_digits value at (get_or text at 0 ∷ drop (suc at) text)
  ahead = ap (more_digits value at) (drop-cons text at 0 inside)

  pub digits_stop : is_digit (get_or text at 0) ≡ false → more_digits value at (drop at text) ≡ Some (value, at)
  digits_stop d = ahead ∙ miss _ d

  pub digits_over : is_digit (get_or text at 0) ≡ true → takes value (digit_of (get_or text at 0)) ≡ false
      → more_digits value at (drop at text) ≡ None
  digits_over d t = ahead ∙ (hit _ d ∙ miss _ t)

  pub digits_on : is_digit (get_or text at 0) ≡ true → takes value (digit_of (get_or text at 0)) ≡ true
      → more_digits value at (drop at text) ≡ more_digits (value * 10 + digit_of (get_or text at 0)) (at + 1) (drop (at + 1) text)
  digits_on d t = let s : suc at ≡ at + 1 = omega arith in ahead ∙ (hit _ d ∙ (hit _ t ∙ ap (λ k. more_digits (value * 10 + digit_of (get_or text at 0)) k (drop k text)) s))

pub digits_end : (text : List ℕ) (at value : ℕ) → length text ≤ at → more_digits value at (drop at text) ≡ Some (value, at)
digits_end text at value h = ap (more_digits value at) (drop_of_length-le text h)

-- a product that makes no u64, and a sum that makes none
pub takes_no_product : (value digit : ℕ) → (value * 10 < 18446744073709551616 → ⊥) → takes value digit ≡ false
unfolding takes
takes_no_product value digit h = lt-leb _ _ (by (leb 18446744073709551616 (value * 10)) refl)
  where
    by : (b : Bool) → leb 18446744073709551616 (value * 10) ≡ b → 18446744073709551615 < value * 10 + digit
    by true l = let m = leb-true _ _ l in omega arith
    by false l = absurd (h (let m = leb-false _ _ l in omega arith))

pub takes_no_sum : (value digit product read : ℕ) → product ≡ value * 10 → read ≡ digit
    → (product + read < 18446744073709551616 → ⊥) → takes value digit ≡ false
unfolding takes
takes_no_sum value digit product read p d h = lt-leb _ _ (by (leb 18446744073709551616 (product + read)) refl)
  where
    by : (b : Bool) → leb 18446744073709551616 (product + read) ≡ b → 18446744073709551615 < value * 10 + digit
    by true l = let m = leb-true _ _ l in omega arith
    by false l = absurd (h (let m = leb-false _ _ l in omega arith))

pub takes_all : (value digit product read : ℕ) → product ≡ value * 10 → read ≡ digit
    → product + read < 18446744073709551616 → takes value digit ≡ true
unfolding takes
takes_all value digit product read p d h = le-leb _ _ (omega arith)

pub takes_fits : (value digit : ℕ) → takes value digit ≡ true → value * 10 + digit ≤ 18446744073709551615
unfolding takes
takes_fits value digit h = leb-true _ _ h

-- what a byte more does
pub ruleset digits_steps = (digits_stop, digits_over, digits_on, digits_end, takes_no_product, takes_no_sum, takes_all)
