-- A question to all places, read place by place
use Prim.Native.Nat.{ℕ, zero, suc, ◌+◌, ◌<◌}
use mathlib.Core.Path.{◌≡◌, refl}
use mathlib.Core.Bool.{Bool, true, false}
use mathlib.Core.List.{List, [], ◌∷◌}
use native.Mathlib.Omega.{arith}
use lib.ListN.{length, get_or}
use Rattle.choice.specs.Choice.{when◌then◌else◌}
use Rattle.choice.proofs.Ways.{clash}
use Rattle.queue_record.specs.Newest.{is_there}
use Rattle.group_record.specs.Record.{nowhere}
use Rattle.group_asking.specs.Scan.{first_from}
use Rattle.group_record.specs.declared.record.Place.{Place}
use Rattle.std.specs.Prelude.{Option, Some, None}

module _ (says : Place → Bool) where
  -- none says yes: each says no
  pub none_each : (k : ℕ) (ps : List Place) → is_there (first_from says k ps) ≡ false → (i : ℕ) → i < length ps → says (get_or ps i nowhere) ≡ false
  none_each k [] h i l = absurd (omega arith)
  none_each k (p ∷ ps) h i l = go (says p) refl h (none_each (suc k) ps) i l
    where
      go : (b : Bool) → says p ≡ b → is_there (when b then Some k else first_from says (suc k) ps) ≡ false
          → (is_there (first_from says (suc k) ps) ≡ false → (i : ℕ) → i < length ps → says (get_or ps i nowhere) ≡ false)
          → (i : ℕ) → i < suc (length ps) → says (get_or (p ∷ ps) i nowhere) ≡ false
      go true e h r i l = clash {b = true} refl h
      go false e h r zero l = e
      go false e h r (suc i) l = r h i (omega arith)

  pub each_none : (k : ℕ) (ps : List Place) → ((i : ℕ) → i < length ps → says (get_or ps i nowhere) ≡ false) → is_there (first_from says k ps) ≡ false
  each_none k [] f = refl
  each_none k (p ∷ ps) f = go (says p) (f 0 (omega arith)) (each_none (suc k) ps (λ i l. f (suc i) (omega arith)))
    where
      go : (b : Bool) → b ≡ false → is_there (first_from says (suc k) ps) ≡ false → is_there (when b then Some k else first_from says (suc k) ps) ≡ false
      go true e r = clash {b = true} refl e
      go false e r = r

  -- what is found says yes
  pub found_says : (k : ℕ) (ps : List Place) (i : ℕ) → first_from says k ps ≡ Some i → (m : ℕ) × (i ≡ k + m) × (m < length ps) × (says (get_or ps m nowhere) ≡ true)
  found_says k [] i h = let z : ◌≡◌ {A = ℕ} 0 1 = cc in absurd (omega arith)
  found_says k (p ∷ ps) i h = go (says p) refl h (found_says (suc k) ps i)
    where
      go : (b : Bool) → says p ≡ b → (when b then Some k else first_from says (suc k) ps) ≡ Some i
          → (first_from says (suc k) ps ≡ Some i → (m : ℕ) × (i ≡ suc k + m) × (m < length ps) × (says (get_or ps m nowhere) ≡ true))
          → (m : ℕ) × (i ≡ k + m) × (m < suc (length ps)) × (says (get_or (p ∷ ps) m nowhere) ≡ true)
      go true e h r = let z : k ≡ i = cc in (0, omega arith, omega arith, e)
      go false e h r = let w = r h in let s : i ≡ suc k + w.0 = w.1 in let l : w.0 < length ps = w.2 in (suc w.0, omega arith, omega arith, w.3)

  -- some says yes: one of them does
  pub some_one : (ps : List Place) → is_there (first_from says 0 ps) ≡ true → (i : ℕ) × (i < length ps) × (says (get_or ps i nowhere) ≡ true)
  some_one ps h = go (first_from says 0 ps) refl h
    where
      go : (f : Option ℕ) → first_from says 0 ps ≡ f → is_there f ≡ true → (i : ℕ) × (i < length ps) × (says (get_or ps i nowhere) ≡ true)
      go None e t = clash {b = false} t refl
      go (Some j) e t = let w = found_says 0 ps j e in (w.0, w.2, w.3)

  pub one_some : (ps : List Place) (i : ℕ) → i < length ps → says (get_or ps i nowhere) ≡ true → is_there (first_from says 0 ps) ≡ true
  one_some ps i l h = go (is_there (first_from says 0 ps)) refl
    where
      go : (b : Bool) → is_there (first_from says 0 ps) ≡ b → is_there (first_from says 0 ps) ≡ true
      go true e = e
      go false e = clash h (none_each 0 ps e i l)

  -- and none before it does
  pub found_lowest : (k : ℕ) (ps : List Place) (i : ℕ) → first_from says k ps ≡ Some i → (m : ℕ) → k + m < i → says (get_or ps m nowhere) ≡ false
  found_lowest k [] i h m l = let z : ◌≡◌ {A = ℕ} 0 1 = cc in absurd (omega arith)
  found_lowest k (p ∷ ps) i h m l = go (says p) refl h (found_lowest (suc k) ps i) m l
    where
      go : (b : Bool) → says p ≡ b → (when b then Some k else first_from says (suc k) ps) ≡ Some i
          → (first_from says (suc k) ps ≡ Some i → (m : ℕ) → suc k + m < i → says (get_or ps m nowhere) ≡ false) → (m : ℕ) → k + m < i → says (get_or (p ∷ ps) m nowhere) ≡ false
      go true e h r m l = let z : k ≡ i = cc in absurd (omega arith)
      go false e h r zero l = e
      go false e h r (suc m) l = r h m (omega arith)
