-- Walks over lists of bindings, and what the test of two sets means
use Prim.Native.Nat.{ℕ, suc, ◌+◌, ◌≤◌, ◌<◌}
use mathlib.Core.Path.{◌≡◌, refl, sym, ap, ◌∙◌}
use mathlib.Core.Bool.{Bool, true, false, ◌&&◌, ◌||◌, or-true}
use mathlib.Core.List.{List, [], ◌∷◌}
use native.Mathlib.Omega.{arith}
use borrow.Author.Tests.{eq-eqb, ne_eqb, eqb-true}
use lib.Dec.{eqb}
use lib.ListN.{length, get_or, drop, drop_of_length-le}
use lib.Seq.{drop-cons}
use Rattle.std.specs.List.{list_any, list_all}
use Rattle.stage.specs.Bindings.{member, within, same_set, SameMembers}
use Rattle.choice.proofs.Ways.{pass, either, and_left, and_right, clash, same_truth}

-- ---- the tests are the library's
pub member_is_any : (x : ℕ) (s : List ℕ) → list_any (λ y. eqb y x) s ≡ member x s
member_is_any x [] = refl
member_is_any x (y ∷ ys) = ap (λ b. eqb y x || b) (member_is_any x ys)

within_is_all : (a b : List ℕ) → list_all (λ x. member x b) a ≡ within a b
within_is_all [] b = refl
within_is_all (x ∷ xs) b = ap (λ r. member x b && r) (within_is_all xs b)

pub is_within : (a b : List ℕ) (r : Bool) → r ≡ list_all (λ x. member x b) a → r ≡ within a b
is_within a b r e = e ∙ within_is_all a b

-- ---- a number at a place, and those behind it
module _ (s : List ℕ) (x i : ℕ) where
  pub none_behind : length s ≤ i → member x (drop i s) ≡ false
  none_behind h = ap (member x) (drop_of_length-le s h)

  module _ (inside : i < length s) where
    ahead : member x (drop i s) ≡ member x (get_or s i 0 ∷ drop (suc i) s)
    ahead = ap (member x) (drop-cons s i 0 inside)

    pub found_here : get_or s i 0 ≡ x → member x (drop i s) ≡ true
    found_here e = ahead ∙ either _ (eq-eqb _ x e)

    pub found_behind : (get_or s i 0 ≡ x → ⊥) → member x (drop i s) ≡ member x (drop (i + 1) s)
    found_behind n = let k : suc i ≡ i + 1 = omega arith in ahead ∙ (ap (λ b. b || member x (drop (suc i) s)) (ne_eqb _ x n) ∙ ap (λ j. member x (drop j s)) k)

-- ---- what the test means
-- a number of the first is in the second
within_member : (x : ℕ) (xs ys : List ℕ) → within xs ys ≡ true → member x xs ≡ true → member x ys ≡ true
within_member x [] ys w m = clash m refl
within_member x (z ∷ xs) ys w m = go (eqb z x) refl m (within_member x xs ys (and_right (member z ys) (within xs ys) w))
  where
    go : (b : Bool) → eqb z x ≡ b → (b || member x xs) ≡ true → (member x xs ≡ true → member x ys ≡ true) → member x ys ≡ true
    go true e n rest = sym (ap (λ (k : ℕ). member k ys) (eqb-true z x e)) ∙ and_left (member z ys) (within xs ys) w
    go false e n rest = rest n

later : (a : Bool) {b : Bool} → b ≡ true → (a || b) ≡ true
later a e = simp (e, or-true)

-- a list whose numbers all are in another is within it
member_within : (xs ys : List ℕ) → ((x : ℕ) → member x xs ≡ true → member x ys ≡ true) → within xs ys ≡ true
member_within [] ys f = refl
member_within (z ∷ xs) ys f = pass _ (f z (either _ (eq-eqb z z refl))) ∙ member_within xs ys (λ x m. f x (later (eqb z x) m))

pub same_means : (xs ys : List ℕ) → same_set xs ys ≡ true → SameMembers xs ys
unfolding same_set
same_means xs ys h x =
    same_truth (member x xs) (member x ys)
    (within_member x xs ys (and_left (within xs ys) (within ys xs) h))
    (within_member x ys xs (and_right (within xs ys) (within ys xs) h))

pub means_same : (xs ys : List ℕ) → SameMembers xs ys → same_set xs ys ≡ true
unfolding same_set
means_same xs ys s = pass _ (member_within xs ys (λ x m. sym (s x) ∙ m)) ∙ member_within ys xs (λ x m. s x ∙ m)

-- an answer that is the test means the same members
pub meaning : (xs ys : List ℕ) (r : Bool) → r ≡ (within xs ys && within ys xs) → (r ≡ true → SameMembers xs ys) × (SameMembers xs ys → r ≡ true)
unfolding same_set
meaning xs ys r e = ((λ t. same_means xs ys (sym e ∙ t)), (λ m. e ∙ means_same xs ys m))
