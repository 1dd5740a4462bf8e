-- The table of numbers is the table of phases: its rule, once over the whole table
use Prim.Native.Nat.{ℕ, ◌<◌}
use mathlib.Core.Path.{◌≡◌, refl, ap, ◌∙◌}
use mathlib.Core.Bool.{not}
use mathlib.Core.List.{List, [], ◌∷◌}
use native.Mathlib.Omega.{arith}
use lib.ListN.{get_or}
use denote.Enum.Declared.{tag_of}
use lib.Dec.{eqb}
use Rattle.stage.specs.Phases.{phase_after, phase_number, event_number, phase_at, differs}
use Rattle.stage.specs.contracts.phases.Phase.{the_type}
use Rattle.stage.specs.contracts.phases.PhasePartialEq.TheImpl.{ghosts}
use Rattle.stage.specs.declared.phases.Phase.{Phase}
use Rattle.stage.specs.declared.phases.Phase.TheVariants.{Idle, Pending, Ended, Stopping, Closed}
use Rattle.stage.specs.declared.phases.Event.{Event}
use Rattle.stage.specs.declared.phases.Event.TheVariants.{Admit, Land, End, Cancel}

-- the code's constant, as it stands there
abbrev pub table : List (List ℕ)
table =
    (1 ∷ 0 ∷ 0 ∷ 4 ∷ []) ∷
    (1 ∷ 0 ∷ 2 ∷ 3 ∷ []) ∷
    (2 ∷ 2 ∷ 2 ∷ 4 ∷ []) ∷
    (3 ∷ 4 ∷ 4 ∷ 3 ∷ []) ∷
    (4 ∷ 4 ∷ 4 ∷ 4 ∷ []) ∷
    []

-- a row of phases, as numbers
abbrev numbers : (Event → Phase) → List ℕ
numbers f = phase_number (f Admit) ∷ phase_number (f Land) ∷ phase_number (f End) ∷ phase_number (f Cancel) ∷ []

rows : (p : Phase) → get_or table (phase_number p) [] ≡ numbers (phase_after p)
rows Idle = refl
rows Pending = refl
rows Ended = refl
rows Stopping = refl
rows Closed = refl

columns : (f : Event → Phase) (e : Event) → get_or (numbers f) (event_number e) 0 ≡ phase_number (f e)
columns f Admit = refl
columns f Land = refl
columns f End = refl
columns f Cancel = refl

-- a phase is the one of its number
pub phase_back : (p : Phase) → phase_at (phase_number p) ≡ p
phase_back Idle = refl
phase_back Pending = refl
phase_back Ended = refl
phase_back Stopping = refl
phase_back Closed = refl

table_right : (p : Phase) (e : Event) → phase_at (get_or (get_or table (phase_number p) []) (event_number e) 0) ≡ phase_after p e
table_right p e = ap (λ (r : List ℕ). phase_at (get_or r (event_number e) 0)) (rows p) ∙ (ap phase_at (columns (phase_after p) e) ∙ phase_back (phase_after p e))

-- the same, looked up at numbers that are the phase's and the event's
pub looked_up : (p : Phase) (e : Event) (i j : ℕ) → i ≡ phase_number p → j ≡ event_number e → phase_at (get_or (get_or table i []) j 0) ≡ phase_after p e
looked_up p e i j h k = rw (h, k) (table_right p e)

pub phase_below : (p : Phase) → phase_number p < 5
phase_below Idle = omega arith
phase_below Pending = omega arith
phase_below Ended = omega arith
phase_below Stopping = omega arith
phase_below Closed = omega arith

pub event_below : (e : Event) → event_number e < 4
event_below Admit = omega arith
event_below Land = omega arith
event_below End = omega arith
event_below Cancel = omega arith

-- ---- the derived `==` compares the places of the variants, which are the numbers
tag_is : (p : Phase) → tag_of the_type p ≡ phase_number p
tag_is Idle = refl
tag_is Pending = refl
tag_is Ended = refl
tag_is Stopping = refl
tag_is Closed = refl

-- what `p != q` answers
pub differs_is : (p q : Phase) → not (ghosts.eq p q) ≡ differs p q
differs_is p q j = not (eqb (tag_is p j) (tag_is q j))
