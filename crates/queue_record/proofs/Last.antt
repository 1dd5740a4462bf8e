-- The newest occupied place: the search that finds it, and what it is
use Prim.Native.Nat.{ℕ, zero, suc, ◌+◌, ◌<◌, ◌≤◌}
use mathlib.Core.Path.{◌≡◌, refl, sym, ap, ◌∙◌}
use mathlib.Core.Bool.{Bool, true, false}
use mathlib.Core.Logic.{◌⊎◌, inl, inr, ⊎_elim}
use mathlib.Core.List.{List, [], ◌∷◌, ◌++◌}
use native.Mathlib.Omega.{arith}
use borrow.Author.Tests.{ne_eqb, eqb-false, ltb-true, ltb-false}
use lib.Dec.{eqb, ltb}
use lib.ListN.{length, get_or, get_or-eq_default}
use Rattle.choice.specs.Choice.{when◌then◌else◌}
use Rattle.queue_record.specs.WellFormed.{all_zero, rest_zero}
use Rattle.queue_record.specs.Waiting.{occupied, without}
use Rattle.queue_record.proofs.Zeros.{rest_from_places}
use Rattle.queue_record.proofs.Waiting.{occupied_full, by_first, none_occupied, without_skip, without_keep}
use Rattle.queue_record.specs.Newest.{last_or, newest}
use Rattle.std.specs.Prelude.{Option, Some, None}

-- ---- the search from the end: behind what it finds all is 0
last_zeros : (k : ℕ) (xs : List ℕ) (f : Option ℕ) → all_zero xs ≡ true → last_or f (occupied k xs) ≡ f
last_zeros k xs f h = ap (last_or f) (none_occupied k xs h)

-- an occupied place behind which all is 0 is the last one
last_full : (k : ℕ) (xs : List ℕ) (i : ℕ) (f : Option ℕ) → rest_zero (suc i) xs ≡ true → (get_or xs i 0 ≡ 0 → ⊥) → last_or f (occupied k xs) ≡ Some (k + i)
last_full k [] i f h n = absurd (n refl)
last_full k (x ∷ xs) zero f h n =
    let s : k ≡ k + 0 = omega arith in
    ap (last_or f) (occupied_full k x xs (ne_eqb x 0 n)) ∙ (last_zeros (suc k) xs (Some k) h ∙ ap Some s)
last_full k (x ∷ xs) (suc i) f h n =
    let s : suc k + i ≡ k + suc i = omega arith in
    by_first (λ (ks : List ℕ). last_or f ks ≡ Some (k + suc i)) k x xs (λ _. last_full (suc k) xs i f h n ∙ ap Some s) (λ _. last_full (suc k) xs i (Some k) h n ∙ ap Some s)

-- what the search from the end finds: a full place behind which all is 0, or none
pub found_newest : (xs : List ℕ) (i : ℕ) → (get_or xs i 0 ≡ 0 → ⊥) → ((k : ℕ) → suc i ≤ k → k < length xs → get_or xs k 0 ≡ 0) → Some i ≡ newest (occupied 0 xs)
unfolding newest
found_newest xs i n f =
    let s : 0 + i ≡ i = omega arith in
    sym (last_full 0 xs i None (rest_from_places (suc i) xs f) n ∙ ap Some s)

pub found_none : (xs : List ℕ) → ((k : ℕ) → k < length xs → get_or xs k 0 ≡ 0) → None ≡ newest (occupied 0 xs)
unfolding newest
found_none xs f = sym (last_zeros 0 xs None (rest_from_places 0 xs (λ k _ l. f k l)))

pub from_missing : (ks : List ℕ) → newest ks ≡ last_or None ks
unfolding newest
from_missing ks = refl

-- ---- what is found is occupied
abbrev Seen : List ℕ → ℕ → ℕ → Type 0
Seen xs k j = (i : ℕ) × (j ≡ k + i) × (get_or xs i 0 ≡ 0 → ⊥)

later : (x : ℕ) (xs : List ℕ) (k j : ℕ) → Seen xs (suc k) j → Seen (x ∷ xs) k j
later x xs k j s = let e : j ≡ suc k + s.0 = s.1 in (suc s.0, omega arith, s.2)

seen : (xs : List ℕ) (k j : ℕ) (f : Option ℕ) → last_or f (occupied k xs) ≡ Some j → (f ≡ Some j) ⊎ Seen xs k j
seen [] k j f h = inl h
seen (x ∷ xs) k j f h = go (eqb x 0) refl h (seen xs (suc k) j f) (seen xs (suc k) j (Some k))
  where
    go : (b : Bool) → eqb x 0 ≡ b → last_or f (when b then occupied (suc k) xs else k ∷ occupied (suc k) xs) ≡ Some j
        → (last_or f (occupied (suc k) xs) ≡ Some j → (f ≡ Some j) ⊎ Seen xs (suc k) j)
        → (last_or (Some k) (occupied (suc k) xs) ≡ Some j → (Some k ≡ Some j) ⊎ Seen xs (suc k) j) → (f ≡ Some j) ⊎ Seen (x ∷ xs) k j
    go true e h r r' = ⊎_elim (λ p. inl p) (λ s. inr (later x xs k j s)) (r h)
    go false e h r r' = ⊎_elim (λ p. let q : k ≡ j = cc in inr (0, omega arith, eqb-false x 0 e)) (λ s. inr (later x xs k j s)) (r' h)

-- nothing was found before the walk
seen_here : (xs : List ℕ) (k j : ℕ) → last_or None (occupied k xs) ≡ Some j → Seen xs k j
seen_here xs k j h = ⊎_elim (λ p. let w : ◌≡◌ {A = ℕ} 0 1 = cc in absurd (omega arith)) (λ s. s) (seen xs k j None h)

pub newest_full : (xs : List ℕ) (j : ℕ) → newest (occupied 0 xs) ≡ Some j → get_or xs j 0 ≡ 0 → ⊥
newest_full xs j h z =
    let s = seen_here xs 0 j (sym (from_missing (occupied 0 xs)) ∙ h) in
    let e : j ≡ 0 + s.0 = s.1 in
    let e' : s.0 ≡ j = omega arith in
    s.2 (ap (λ (m : ℕ). get_or xs m 0) e' ∙ z)

pub newest_below : (xs : List ℕ) (j : ℕ) → newest (occupied 0 xs) ≡ Some j → j < length xs
newest_below xs j h = go (ltb j (length xs)) refl
  where
    go : (b : Bool) → ltb j (length xs) ≡ b → j < length xs
    go true e = ltb-true _ _ e
    go false e = absurd (newest_full xs j h (get_or-eq_default xs 0 (ltb-false j (length xs) e)))

-- ---- where nothing is found there is nothing
last_at : (k : ℕ) (ks : List ℕ) → last_or (Some k) ks ≡ None → ⊥
last_at k [] h = let w : ◌≡◌ {A = ℕ} 0 1 = cc in omega arith
last_at k (j ∷ ks) h = last_at j ks h

pub newest_none : (ks : List ℕ) → newest ks ≡ None → ks ≡ []
unfolding newest
newest_none [] h = refl
newest_none (k ∷ ks) h = absurd (last_at k ks h)

-- ---- what is found comes last
last_apart : (xs : List ℕ) (k j : ℕ) → last_or None (occupied k xs) ≡ Some j → occupied k xs ≡ without j (occupied k xs) ++ (j ∷ [])
last_apart [] k j h = let w : ◌≡◌ {A = ℕ} 0 1 = cc in absurd (omega arith)
last_apart (x ∷ xs) k j h = go (eqb x 0) h (last_apart xs (suc k) j) (λ e. seen_here xs (suc k) j e)
  where
    -- behind the place k: nothing, or what is found is behind it too
    first : (rest : List ℕ) → last_or (Some k) rest ≡ Some j → (last_or None rest ≡ Some j → rest ≡ without j rest ++ (j ∷ []))
        → (last_or None rest ≡ Some j → j ≡ k → ⊥) → k ∷ rest ≡ without j (k ∷ rest) ++ (j ∷ [])
    first [] h r n = let e : k ≡ j = cc in ap (λ (m : ℕ). m ∷ []) e ∙ ap (λ (l : List ℕ). l ++ (j ∷ [])) (sym (without_skip j k [] e))
    first (r₀ ∷ rs) h r n = ap (λ (l : List ℕ). k ∷ l) (r h) ∙ ap (λ (l : List ℕ). l ++ (j ∷ [])) (sym (without_keep j k (r₀ ∷ rs) (λ e. n h (sym e))))

    go : (b : Bool) → last_or None (when b then occupied (suc k) xs else k ∷ occupied (suc k) xs) ≡ Some j
        → (last_or None (occupied (suc k) xs) ≡ Some j → occupied (suc k) xs ≡ without j (occupied (suc k) xs) ++ (j ∷ []))
        → (last_or None (occupied (suc k) xs) ≡ Some j → Seen xs (suc k) j)
        → (when b then occupied (suc k) xs else k ∷ occupied (suc k) xs) ≡ without j (when b then occupied (suc k) xs else k ∷ occupied (suc k) xs) ++ (j ∷ [])
    go true h r s = r h
    go false h r s = first (occupied (suc k) xs) h r (λ e p. let w = s e in let q : j ≡ suc k + w.0 = w.1 in omega arith)

pub newest_last : (xs : List ℕ) (j : ℕ) → newest (occupied 0 xs) ≡ Some j → occupied 0 xs ≡ without j (occupied 0 xs) ++ (j ∷ [])
newest_last xs j h = last_apart xs 0 j (sym (from_missing (occupied 0 xs)) ∙ h)
