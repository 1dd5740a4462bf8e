-- The walk over the places, place by place: a hit, a place passed, and the end
use Prim.Native.Nat.{ℕ, suc, ◌+◌, ◌<◌, ◌≤◌}
use mathlib.Core.Path.{◌≡◌, refl, sym, ap, ◌∙◌}
use mathlib.Core.Bool.{Bool, true, false}
use mathlib.Core.List.{List, [], ◌∷◌}
use native.Mathlib.Omega.{arith}
use native.Mathlib.Numerals.{add-one}
use lib.ListN.{length, get_or, drop, drop_of_length-le}
use lib.Seq.{drop-cons}
use Rattle.choice.specs.Choice.{when◌then◌else◌}
use Rattle.choice.proofs.Ways.{hit, miss}
use Rattle.group_record.specs.Record.{nowhere}
use Rattle.group_asking.specs.Scan.{first_from}
use Rattle.group_record.specs.declared.record.Place.{Place}
use Rattle.std.specs.Prelude.{Some, None}

-- the places from i on, apart
place_left : (ps : List Place) (i : ℕ) → length ps ≡ 16 → i < 16 → drop i ps ≡ get_or ps i nowhere ∷ drop (i + 1) ps
place_left ps i l h = rw (drop-cons ps i nowhere (omega arith), add-one)

places_end : (ps : List Place) (i : ℕ) → length ps ≡ 16 → 16 ≤ i → drop i ps ≡ []
places_end ps i l h = drop_of_length-le ps {i = i} (omega arith)

module _ (says : Place → Bool) (ps : List Place) (i : ℕ) (l : length ps ≡ 16) where
  first_step : i < 16 → first_from says i (drop i ps) ≡ (when says (get_or ps i nowhere) then Some i else first_from says (i + 1) (drop (i + 1) ps))
  first_step h = ap (first_from says i) (place_left ps i l h) ∙ ap (λ (k : ℕ). when says (get_or ps i nowhere) then Some i else first_from says k (drop (i + 1) ps)) (sym (add-one i))

  pub first_here : i < 16 → says (get_or ps i nowhere) ≡ true → Some i ≡ first_from says i (drop i ps)
  first_here h e = sym (first_step h ∙ hit _ e)

  pub first_past : i < 16 → says (get_or ps i nowhere) ≡ false → first_from says (i + 1) (drop (i + 1) ps) ≡ first_from says i (drop i ps)
  first_past h e = sym (first_step h ∙ miss _ e)

  pub first_end : 16 ≤ i → None ≡ first_from says i (drop i ps)
  first_end h = sym (ap (first_from says i) (places_end ps i l h))
