-- Places that are all 0: the test of them, and what holds at each
use Prim.Native.Nat.{ℕ, zero, suc, ◌+◌, ◌-◌, ◌<◌, ◌≤◌, min}
use mathlib.Core.Path.{◌≡◌, refl, sym, ap, ◌∙◌}
use mathlib.Core.Bool.{Bool, true, false, ◌&&◌}
use mathlib.Core.List.{List, [], ◌∷◌}
use native.Mathlib.Omega.{arith}
use native.Mathlib.Numerals.{add-one}
use borrow.Author.Tests.{eq-eqb, eqb-true, ltb-true, ltb-false}
use lib.Dec.{eqb, ltb}
use lib.ListN.{length, get_or, take, drop, replicate, length-drop, drop_of_length-le}
use lib.Seq.{get_or-drop, take_all}
use Rattle.std.specs.List.{list_all}
use Rattle.std.proofs.lemmas.List.Recursion.{and_from_places}
use Rattle.choice.proofs.Ways.{and_left, and_right}
use Rattle.queue_record.specs.WellFormed.{all_zero, rest_zero}

-- ---- the test is the library's
all_zero_is : (xs : List ℕ) → list_all (λ x. eqb x 0) xs ≡ all_zero xs
all_zero_is [] = refl
all_zero_is (x ∷ xs) = ap (λ b. eqb x 0 && b) (all_zero_is xs)

-- from a place past the end on there is nothing, as from the end on
drop_within : (c : ℕ) (xs : List ℕ) → drop (min (length xs) c) xs ≡ drop c xs
drop_within c xs = go (ltb c (length xs)) refl
  where
    go : (b : Bool) → ltb c (length xs) ≡ b → drop (min (length xs) c) xs ≡ drop c xs
    go true e =
        let l : c < length xs = ltb-true _ _ e in
        let m : min (length xs) c ≡ c = omega arith in
        ap (λ (n : ℕ). drop n xs) m
    go false e =
        let l : length xs ≤ c = ltb-false _ _ e in
        drop_of_length-le xs (omega arith) ∙ sym (drop_of_length-le xs l)

pub is_rest_zero : (c start : ℕ) (xs : List ℕ) (r : Bool) → start ≡ min (length xs) c → r ≡ list_all (λ x. eqb x 0) (take (length xs - start) (drop start xs)) → r ≡ rest_zero c xs
is_rest_zero c start xs r s e =
    let t : take (length xs - start) (drop start xs) ≡ drop start xs = take_all (length xs - start) (drop start xs) (omega (arith, length-drop start xs)) in
    e ∙ (ap (list_all (λ x. eqb x 0)) t ∙ (all_zero_is (drop start xs) ∙ (ap (λ n. all_zero (drop n xs)) s ∙ ap all_zero (drop_within c xs))))

-- ---- what it says of each place
zero_at : (xs : List ℕ) (i : ℕ) → all_zero xs ≡ true → get_or xs i 0 ≡ 0
zero_at [] i h = refl
zero_at (x ∷ xs) zero h = eqb-true x 0 (and_left (eqb x 0) (all_zero xs) h)
zero_at (x ∷ xs) (suc i) h = zero_at xs i (and_right (eqb x 0) (all_zero xs) h)

-- where each place from the count on is 0, the rest is
pub rest_from_places : (c : ℕ) (xs : List ℕ) → ((k : ℕ) → c ≤ k → k < length xs → get_or xs k 0 ≡ 0) → rest_zero c xs ≡ true
rest_from_places c xs f =
    and_from_places all_zero (λ x. eqb x 0) refl (λ _ _. refl) (drop c xs) 0
    (λ k h. eq-eqb (get_or (drop c xs) k 0) 0 (get_or-drop c xs k 0 ∙ f (c + k) (omega arith) (omega (arith, length-drop c xs))))

-- a place from the count on is 0
pub rest_at : (c : ℕ) (xs : List ℕ) (i : ℕ) → rest_zero c xs ≡ true → c ≤ i → get_or xs i 0 ≡ 0
rest_at c xs i h l =
    let s : c + (i - c) ≡ i = omega arith in
    ap (λ (m : ℕ). get_or xs m 0) (sym s) ∙ (sym (get_or-drop c xs (i - c) 0) ∙ zero_at (drop c xs) (i - c) h)

-- a place that is not 0 is below the count
pub full_below : (c : ℕ) (xs : List ℕ) (i : ℕ) → rest_zero c xs ≡ true → (get_or xs i 0 ≡ 0 → ⊥) → i < c
full_below c xs i h n = go (ltb i c) refl
  where
    go : (b : Bool) → ltb i c ≡ b → i < c
    go true e = ltb-true _ _ e
    go false e = absurd (n (rest_at c xs i h (ltb-false _ _ e)))

rest_suc : (c : ℕ) (xs : List ℕ) → rest_zero c xs ≡ true → rest_zero (suc c) xs ≡ true
rest_suc c [] h = refl
rest_suc zero (x ∷ xs) h = and_right (eqb x 0) (all_zero xs) h
rest_suc (suc c) (x ∷ xs) h = rest_suc c xs h

-- with one place more in use the rest is still 0
pub rest_more : (c : ℕ) (xs : List ℕ) → rest_zero c xs ≡ true → rest_zero (c + 1) xs ≡ true
rest_more c xs h = rw add-one (rest_suc c xs h)

pub zeros_are : (n : ℕ) → all_zero (replicate n 0) ≡ true
zeros_are zero = refl
zeros_are (suc n) = zeros_are n

-- and a list of n places that are all 0 is no other
pub all_zeros : (xs : List ℕ) (n : ℕ) → length xs ≡ n → all_zero xs ≡ true → xs ≡ replicate n 0
all_zeros [] zero l h = refl
all_zeros [] (suc n) l h = absurd (omega arith)
all_zeros (x ∷ xs) zero l h = absurd (omega arith)
all_zeros (x ∷ xs) (suc n) l h =
    let e : x ≡ 0 = eqb-true x 0 (and_left (eqb x 0) (all_zero xs) h) in
    let r : xs ≡ replicate n 0 = all_zeros xs n (omega arith) (and_right (eqb x 0) (all_zero xs) h) in
    ap (λ (y : ℕ). y ∷ xs) e ∙ ap (λ (ys : List ℕ). 0 ∷ ys) r
