-- The occupied slots as a list, and what a store into a slot does to it
use Prim.Native.Nat.{ℕ, zero, suc, ◌+◌, ◌<◌}
use mathlib.Core.Path.{◌≡◌, refl, sym, ap, ◌∙◌}
use mathlib.Core.Bool.{Bool, true, false}
use mathlib.Core.List.{List, [], ◌∷◌, ◌++◌}
use native.Mathlib.Omega.{arith}
use borrow.Author.Tests.{eq-eqb, ne_eqb}
use lib.Dec.{eqb}
use lib.ListN.{length, set, take}
use lib.Seq.{set-set}
use Rattle.choice.specs.Choice.{when◌then◌else◌}
use Rattle.choice.proofs.Ways.{hit, miss, and_left, and_right}
use Rattle.queue_record.specs.WellFormed.{all_zero, rest_zero}
use Rattle.queue_record.specs.Waiting.{occupied, without}

-- ---- one place more in front
pub occupied_empty : (k x : ℕ) (xs : List ℕ) → eqb x 0 ≡ true → occupied k (x ∷ xs) ≡ occupied (suc k) xs
occupied_empty k x xs e = hit _ e

pub occupied_full : (k x : ℕ) (xs : List ℕ) → eqb x 0 ≡ false → occupied k (x ∷ xs) ≡ k ∷ occupied (suc k) xs
occupied_full k x xs e = miss _ e

-- a fact of the occupied places, from its two cases
pub by_first : (P : List ℕ → Type 0) (k x : ℕ) (xs : List ℕ) → (eqb x 0 ≡ true → P (occupied (suc k) xs)) → (eqb x 0 ≡ false → P (k ∷ occupied (suc k) xs)) → P (occupied k (x ∷ xs))
by_first P k x xs f g = go (eqb x 0) refl
  where
    go : (b : Bool) → eqb x 0 ≡ b → P (when b then occupied (suc k) xs else k ∷ occupied (suc k) xs)
    go true e = f e
    go false e = g e

-- ---- leaving one token out
pub without_skip : (t k : ℕ) (ks : List ℕ) → k ≡ t → without t (k ∷ ks) ≡ without t ks
without_skip t k ks e = hit _ (eq-eqb k t e)

pub without_keep : (t k : ℕ) (ks : List ℕ) → (k ≡ t → ⊥) → without t (k ∷ ks) ≡ k ∷ without t ks
without_keep t k ks n = miss _ (ne_eqb k t n)

pub without_append : (t : ℕ) (ks js : List ℕ) → without t (ks ++ js) ≡ without t ks ++ without t js
without_append t [] js = refl
without_append t (k ∷ ks) js = go (eqb k t) (without_append t ks js)
  where
    go : (b : Bool) → without t (ks ++ js) ≡ without t ks ++ without t js
        → (when b then without t (ks ++ js) else k ∷ without t (ks ++ js)) ≡ (when b then without t ks else k ∷ without t ks) ++ without t js
    go true rest = rest
    go false rest = ap (λ (l : List ℕ). k ∷ l) rest

-- a token below the first place is not among the occupied ones
without_below : (t k : ℕ) (xs : List ℕ) → t < k → without t (occupied k xs) ≡ occupied k xs
without_below t k [] h = refl
without_below t k (x ∷ xs) h =
    let rest : without t (occupied (suc k) xs) ≡ occupied (suc k) xs = without_below t (suc k) xs (omega arith) in
    by_first (λ (l : List ℕ). without t l ≡ l) k x xs (λ _. rest) (λ _. without_keep t k (occupied (suc k) xs) (λ e. omega arith) ∙ ap (λ (l : List ℕ). k ∷ l) rest)

-- ---- an emptied slot is left out, and only it
pub emptied : (k : ℕ) (xs : List ℕ) (i : ℕ) → occupied k (set xs i 0) ≡ without (k + i) (occupied k xs)
emptied k [] i = refl
emptied k (x ∷ xs) zero =
    let z : k + 0 ≡ k = omega arith in
    let rest : without (k + 0) (occupied (suc k) xs) ≡ occupied (suc k) xs = without_below (k + 0) (suc k) xs (omega arith) in
    by_first (λ (l : List ℕ). occupied (suc k) xs ≡ without (k + 0) l) k x xs (λ _. sym rest) (λ _. sym (without_skip (k + 0) k (occupied (suc k) xs) (sym z) ∙ rest))
emptied k (x ∷ xs) (suc i) =
    let s : k + suc i ≡ suc k + i = omega arith in
    let rest : occupied (suc k) (set xs i 0) ≡ without (k + suc i) (occupied (suc k) xs) = emptied (suc k) xs i ∙ ap (λ (t : ℕ). without t (occupied (suc k) xs)) (sym s) in
    by_first (λ (l : List ℕ). occupied k (x ∷ set xs i 0) ≡ without (k + suc i) l) k x xs
    (λ e. occupied_empty k x (set xs i 0) e ∙ rest)
    (λ e. occupied_full k x (set xs i 0) e ∙ (ap (λ (l : List ℕ). k ∷ l) rest ∙ sym (without_keep (k + suc i) k (occupied (suc k) xs) (λ p. omega arith))))

-- the tokens other than i don't see what is stored at i
pub stored : (k : ℕ) (xs : List ℕ) (i n : ℕ) → without (k + i) (occupied k (set xs i n)) ≡ without (k + i) (occupied k xs)
stored k xs i n = sym (emptied k (set xs i n) i) ∙ (ap (occupied k) (set-set xs i n 0) ∙ emptied k xs i)

-- ---- among zeros nothing is occupied
pub none_occupied : (k : ℕ) (xs : List ℕ) → all_zero xs ≡ true → occupied k xs ≡ []
none_occupied k [] h = refl
none_occupied k (x ∷ xs) h = occupied_empty k x xs (and_left (eqb x 0) (all_zero xs) h) ∙ none_occupied (suc k) xs (and_right (eqb x 0) (all_zero xs) h)

-- the places past the count hold nothing, so that they don't matter
pub occupied_take : (k c : ℕ) (xs : List ℕ) → rest_zero c xs ≡ true → occupied k (take c xs) ≡ occupied k xs
occupied_take k zero xs h = sym (none_occupied k xs h)
occupied_take k (suc c) [] h = refl
occupied_take k (suc c) (x ∷ xs) h =
    let rest : occupied (suc k) (take c xs) ≡ occupied (suc k) xs = occupied_take (suc k) c xs h in
    by_first (λ (l : List ℕ). occupied k (x ∷ take c xs) ≡ l) k x xs
    (λ e. occupied_empty k x (take c xs) e ∙ rest)
    (λ e. occupied_full k x (take c xs) e ∙ ap (λ (l : List ℕ). k ∷ l) rest)

-- ---- a number in the first unused place comes last
pub appended : (k : ℕ) (xs : List ℕ) (c n : ℕ) → rest_zero c xs ≡ true → c < length xs → (n ≡ 0 → ⊥) → occupied k (set xs c n) ≡ occupied k xs ++ ((k + c) ∷ [])
appended k [] c n h l z = absurd (omega arith)
appended k (x ∷ xs) zero n h l z =
    let s : k ≡ k + 0 = omega arith in
    let rest : occupied (suc k) xs ≡ [] = none_occupied (suc k) xs (and_right (eqb x 0) (all_zero xs) h) in
    occupied_full k n xs (ne_eqb n 0 z) ∙ (ap (λ (l : List ℕ). k ∷ l) rest ∙ (ap (λ (t : ℕ). t ∷ []) s ∙ ap (λ (l : List ℕ). l ++ ((k + 0) ∷ [])) (sym (none_occupied k (x ∷ xs) h))))
appended k (x ∷ xs) (suc c) n h l z =
    let s : suc k + c ≡ k + suc c = omega arith in
    let rest : occupied (suc k) (set xs c n) ≡ occupied (suc k) xs ++ ((k + suc c) ∷ []) = appended (suc k) xs c n h (omega arith) z ∙ ap (λ (t : ℕ). occupied (suc k) xs ++ (t ∷ [])) s in
    by_first (λ (l : List ℕ). occupied k (x ∷ set xs c n) ≡ l ++ ((k + suc c) ∷ [])) k x xs
    (λ e. occupied_empty k x (set xs c n) e ∙ rest)
    (λ e. occupied_full k x (set xs c n) e ∙ ap (λ (l : List ℕ). k ∷ l) rest)

-- ---- the same from the first place on
from_zero : (i : ℕ) → 0 + i ≡ i
from_zero i = omega arith

pub emptied_slots : (xs : List ℕ) (i : ℕ) → occupied 0 (set xs i 0) ≡ without i (occupied 0 xs)
emptied_slots xs i = emptied 0 xs i ∙ ap (λ (t : ℕ). without t (occupied 0 xs)) (from_zero i)

pub stored_slots : (xs : List ℕ) (i n : ℕ) → without i (occupied 0 (set xs i n)) ≡ without i (occupied 0 xs)
stored_slots xs i n = rw from_zero at (stored 0 xs i n)

pub appended_slots : (xs : List ℕ) (c n : ℕ) → rest_zero c xs ≡ true → c < length xs → (n ≡ 0 → ⊥) → occupied 0 (set xs c n) ≡ occupied 0 xs ++ (c ∷ [])
appended_slots xs c n h l z = appended 0 xs c n h l z ∙ ap (λ (t : ℕ). occupied 0 xs ++ (t ∷ [])) (from_zero c)
