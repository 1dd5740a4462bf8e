-- What it means that a record is not sealed, and that there is room in it
use Prim.Native.Nat.{ℕ, ◌+◌, ◌<◌, ◌≤◌}
use mathlib.Core.Path.{◌≡◌, refl, ap, ◌∙◌}
use mathlib.Core.Bool.{Bool, true, false, not}
use mathlib.Core.List.{[]}
use native.Mathlib.Omega.{arith}
use borrow.Author.Tests.{leb-false}
use lib.Dec.{leb}
use lib.ListN.{length}
use Rattle.choice.specs.Choice.{when◌then◌else◌}
use Rattle.choice.proofs.Ways.{miss}
use Rattle.queue_record.specs.declared.refusal.Refusal.TheVariants.{Broken, Sealed, NoId}
use Rattle.group_record.specs.Record.{empty_of}
use Rattle.group_asking.specs.Scan.{first_yes}
use Rattle.group_check.specs.WellFormed.{ids, well_grouped}
use Rattle.group_record.specs.declared.record.Groups.{Groups}
use Rattle.group_asking.specs.Question.{Free}
use Rattle.group_check.proofs.Fit.{Fit, fit}
use Rattle.group_check.proofs.Spots.{first_below}
use Rattle.group_openings.specs.Openings.{unsealed, room_at, room_of}
use Rattle.std.specs.Prelude.{Option, Some, None, Ok, Err}
use Rattle.queue_record.specs.Types.{Opened}

-- by the two tests
abbrev gate : Bool → Bool → Opened
gate w s = when not w then Err Broken else when s then Err Sealed else Ok tt

pub unsealed_means : (g : Groups) → unsealed g ≡ Ok tt → (well_grouped g ≡ true) × (g.sealed ≡ false)
unsealed_means g e = go (well_grouped g) refl g.sealed refl e
  where
    go : (w : Bool) → well_grouped g ≡ w → (s : Bool) → g.sealed ≡ s
        → gate w s ≡ Ok tt → (well_grouped g ≡ true) × (g.sealed ≡ false)
    go true w false s q = (w, s)
    go true w true s q = let z : ◌≡◌ {A = ℕ} 0 1 = cc in absurd (omega arith)
    go false w s t q = let z : ◌≡◌ {A = ℕ} 0 1 = cc in absurd (omega arith)

pub means_unsealed : (g : Groups) → well_grouped g ≡ true → g.sealed ≡ false → unsealed g ≡ Ok tt
means_unsealed g w s = miss (Err Broken) (ap not w) ∙ miss (Err Sealed) s

-- the next domain is a u64
pub domain_fits : (g : Groups) → unsealed g ≡ Ok tt → g.base + g.next ≤ 18446744073709551615
domain_fits g e = let f : Fit g = fit g (unsealed_means g e).0 in omega arith

-- room is a free place, and an id is left
pub room_means : (g : Groups) (i : ℕ) → room_of g ≡ Ok i → (first_yes g Free [] ≡ Some i) × (g.next < 65536)
room_means g i e = go (first_yes g Free []) refl e
  where
    picked : (j : ℕ) (b : Bool) → leb ids g.next ≡ b → first_yes g Free [] ≡ Some j → (when b then Err NoId else Ok j) ≡ Ok i → (first_yes g Free [] ≡ Some i) × (g.next < 65536)
    picked j true n f q = let z : ◌≡◌ {A = ℕ} 0 1 = cc in absurd (omega arith)
    picked j false n f q = let z : j ≡ i = cc in (cc, leb-false _ _ n)

    go : (f : Option ℕ) → first_yes g Free [] ≡ f → room_at g f ≡ Ok i → (first_yes g Free [] ≡ Some i) × (g.next < 65536)
    go None f q = let z : ◌≡◌ {A = ℕ} 0 1 = cc in absurd (omega arith)
    go (Some j) f q = picked j (leb ids g.next) refl f q

pub room_below : (g : Groups) (i : ℕ) → length g.places ≡ 16 → room_of g ≡ Ok i → (i < 16) × (g.next < 65536)
room_below g i l e = (first_below g Free [] i l (room_means g i e).0, (room_means g i e).1)

-- an empty record has given no id
pub none_yet : (base : ℕ) (g : Groups) → g ≡ empty_of base → g.next < 65536
unfolding empty_of
none_yet base g e = let z : g.next ≡ 0 = ap (λ (h : Groups). h.next) e in omega arith
