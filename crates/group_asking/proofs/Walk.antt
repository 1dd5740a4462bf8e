-- The walk over the places: whether it finds something, and the library's walks by the definition
use Prim.Native.Nat.{ℕ, suc, ◌+◌}
use mathlib.Core.Path.{◌≡◌, refl, ◌∙◌}
use mathlib.Core.Bool.{Bool, true, false, cond, ◌||◌}
use mathlib.Core.List.{List, [], ◌∷◌}
use native.Mathlib.Numerals.{add-one}
use Rattle.choice.specs.Choice.{when◌then◌else◌}
use Rattle.queue_record.specs.Newest.{is_there}
use Rattle.group_asking.specs.Scan.{first_from}
use Rattle.group_record.specs.declared.record.Place.{Place}
use Rattle.std.specs.Prelude.{Option, Some, None, is_some}
use Rattle.std.specs.List.{position, position_from, list_any}
use Rattle.std.proofs.lemmas.Iterator.Adapters.{position_from-zero}

-- something was found, in the library's word
pub there_is : (f : Option ℕ) → is_there f ≡ is_some f
there_is (Some i) = refl
there_is None = refl

module _ (says : Place → Bool) where
  first_at : (k : ℕ) (ps : List Place) → position_from says k ps ≡ first_from says k ps
  first_at k [] = refl
  first_at k (p ∷ ps) = go (says p) (first_at (suc k) ps)
    where
      go : (b : Bool) → position_from says (suc k) ps ≡ first_from says (suc k) ps
          → cond b (Some k) (position_from says (k + 1) ps) ≡ (when b then Some k else first_from says (suc k) ps)
      go true f = refl
      go false f = rw (add-one k, f)

  -- the library's `position`
  pub first_it : (ps : List Place) → position says ps ≡ first_from says 0 ps
  first_it ps = position_from-zero says ps ∙ first_at 0 ps

  some_at : (k : ℕ) (ps : List Place) → list_any says ps ≡ is_there (first_from says k ps)
  some_at k [] = refl
  some_at k (p ∷ ps) = go (says p) (some_at (suc k) ps)
    where
      go : (b : Bool) → list_any says ps ≡ is_there (first_from says (suc k) ps)
          → (b || list_any says ps) ≡ is_there (when b then Some k else first_from says (suc k) ps)
      go true f = refl
      go false f = f

  -- and its `any`
  pub some_it : (ps : List Place) → list_any says ps ≡ is_there (first_from says 0 ps)
  some_it ps = some_at 0 ps
