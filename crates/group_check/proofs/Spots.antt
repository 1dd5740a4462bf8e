-- What is found is one of the sixteen places, and it says yes
use Prim.Native.Nat.{ℕ, suc, ◌+◌, ◌<◌}
use mathlib.Core.Path.{◌≡◌, refl, ap, ◌∙◌}
use mathlib.Core.Bool.{Bool, true, false, not}
use mathlib.Core.List.{List, [], ◌∷◌}
use native.Mathlib.Omega.{arith}
use lib.ListN.{length}
use Rattle.choice.specs.Choice.{when◌then◌else◌}
use Rattle.queue_record.specs.declared.refusal.Refusal.TheVariants.{Broken}
use Rattle.group_asking.specs.Scan.{first_from, first_yes}
use Rattle.group_check.specs.WellFormed.{well_grouped}
use Rattle.group_check.specs.Ids.{spot_at, spot_of}
use Rattle.group_record.specs.declared.record.Place.{Place}
use Rattle.group_record.specs.declared.record.Groups.{Groups}
use Rattle.group_asking.specs.Question.{Question, HoldsId}
use Rattle.std.specs.Prelude.{Option, Some, None, Ok, Err}

found_below : (says : Place → Bool) (k : ℕ) (ps : List Place) (i : ℕ) → first_from says k ps ≡ Some i → i < k + length ps
found_below says k [] i e = let z : ◌≡◌ {A = ℕ} 0 1 = cc in absurd (omega arith)
found_below says k (p ∷ ps) i e = go (says p) (found_below says (suc k) ps i) e
  where
    go : (b : Bool) → (first_from says (suc k) ps ≡ Some i → i < suc k + length ps) → (when b then Some k else first_from says (suc k) ps) ≡ Some i → i < k + suc (length ps)
    go true f q = let z : k ≡ i = cc in omega arith
    go false f q = let h : i < suc k + length ps = f q in omega arith

-- a place found in the record is one of its sixteen
pub first_below : (g : Groups) (question : Question) (target : List ℕ) (i : ℕ) → length g.places ≡ 16 → first_yes g question target ≡ Some i → i < 16
first_below g question target i l e = let h : i < 0 + length g.places = found_below _ 0 g.places i e in omega arith

-- a spot is a place where the id is live, in a well-formed record
pub spot_means : (g : Groups) (id i : ℕ) → spot_of g id ≡ Ok i → (well_grouped g ≡ true) × (first_yes g (HoldsId id) [] ≡ Some i)
unfolding spot_of
spot_means g id i e = go (well_grouped g) refl (first_yes g (HoldsId id) []) refl e
  where
    go : (w : Bool) → well_grouped g ≡ w → (f : Option ℕ) → first_yes g (HoldsId id) [] ≡ f
        → (when not w then Err Broken else spot_at f) ≡ Ok i → (well_grouped g ≡ true) × (first_yes g (HoldsId id) [] ≡ Some i)
    go true w (Some j) f q = let z : j ≡ i = cc in (w, f ∙ ap (λ (m : ℕ). Some m) z)
    go true w None f q = let z : ◌≡◌ {A = ℕ} 0 1 = cc in absurd (omega arith)
    go false w f e q = let z : ◌≡◌ {A = ℕ} 0 1 = cc in absurd (omega arith)

pub spot_below : (g : Groups) (id i : ℕ) → length g.places ≡ 16 → spot_of g id ≡ Ok i → i < 16
spot_below g id i l e = first_below g (HoldsId id) [] i l (spot_means g id i e).1
