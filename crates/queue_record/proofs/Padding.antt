-- A list in its places, 16 or another width: the copy that fills them
use Prim.Native.Nat.{ℕ, zero, suc, ◌+◌, ◌-◌, ◌<◌, ◌≤◌}
use mathlib.Core.Path.{◌≡◌, sym, ap, ◌∙◌}
use mathlib.Core.Bool.{true}
use mathlib.Core.List.{List, ◌++◌}
use native.Mathlib.Omega.{arith}
use native.Mathlib.Numerals.{add-one}
use lib.ListN.{length, get_or, take, drop, set, replicate, length-replicate, length-append}
use lib.Seq.{paste, paste-suc, drop-append_seam}
use Rattle.queue_record.specs.Openings.{binding_places}
use Rattle.queue_record.specs.WellFormed.{all_zero, rest_zero}
use Rattle.queue_record.proofs.Zeros.{zeros_are}

drop_replicate : (n m : ℕ) → drop n (replicate {A = ℕ} m 0) ≡ replicate (m - n) 0
drop_replicate zero m = ap (λ (k : ℕ). replicate k 0) (sym all)
  where
    all : m - 0 ≡ m
    all = omega arith
drop_replicate (suc n) zero = ap (λ (k : ℕ). replicate k 0) (sym none)
  where
    none : 0 - suc n ≡ 0
    none = omega arith
drop_replicate (suc n) (suc m) = drop_replicate n m ∙ ap (λ (k : ℕ). replicate k 0) (sym less)
  where
    less : suc m - suc n ≡ m - n
    less = omega arith

-- the first i of the given numbers in their places, of so many, the rest still 0
abbrev pub filled : ℕ → List ℕ → ℕ → List ℕ
filled width given i = paste (replicate width 0) 0 given i

module _ (width : ℕ) (given : List ℕ) where
  pub filled_more : (i : ℕ) → i < width → i < length given → set (filled width given i) i (get_or given i 0) ≡ filled width given (i + 1)
  filled_more i l h =
      let z : 0 + i ≡ i = omega arith in
      let w : length (replicate {A = ℕ} width 0) ≡ width = length-replicate width 0 in
      rw add-one (sym (ap (λ (k : ℕ). set (filled width given i) k (get_or given i 0)) z) ∙ paste-suc (replicate width 0) 0 given i 0 (omega arith) h)

  pub filled_is : (i : ℕ) → filled width given i ≡ take i given ++ replicate (width - i) 0
  filled_is i =
      let z : 0 + i ≡ i = omega arith in
      ap (λ (xs : List ℕ). take i given ++ xs) (drop_replicate (0 + i) width ∙ ap (λ (n : ℕ). replicate (width - n) 0) z)

-- behind the given numbers all is 0
pub kept_rest : (given : List ℕ) → rest_zero (length given) (binding_places given) ≡ true
kept_rest given = ap all_zero (drop-append_seam given (replicate (16 - length given) 0)) ∙ zeros_are (16 - length given)

pub kept_length : (given : List ℕ) → length given ≤ 16 → length (binding_places given) ≡ 16
kept_length given l =
    let n : length (replicate {A = ℕ} (16 - length given) 0) ≡ 16 - length given = length-replicate (16 - length given) 0 in
    let s : length (binding_places given) ≡ length given + length (replicate {A = ℕ} (16 - length given) 0) = length-append given (replicate (16 - length given) 0) in
    omega arith
