-- Histories there are: one whose log has a row of each of the eight kinds
use Prim.Native.Nat.{ℕ}
use mathlib.Core.Path.{refl}
use mathlib.Core.List.{List, [], ◌∷◌}
use native.Mathlib.Omega.{arith}
use Rattle.queue_record.specs.Openings.{heading_of, opening_of, iterator_opened}
use Rattle.queue_record.specs.declared.record.Kind.{Kind}
use Rattle.log_rows.specs.Rows.{row_of}
use Rattle.log_rows.specs.declared.Row.{Row}
use Rattle.log_language.specs.RowKinds.{row_kind_at}
use Rattle.log_language.specs.Language.{Belongs}
use Rattle.log_language.proofs.FirstBad.{belongs_stop}
use Rattle.history.specs.Histories.{Start, setting, Leaves}
use Rattle.history.proofs.Demand.{language_spoken}

-- an iterator with one binding, attempts from 5, and memory for twelve rows and three words more
abbrev pub lent : List ℕ
lent =
    9 ∷ 9 ∷ 9 ∷ 9 ∷ 9 ∷ 9 ∷ 9 ∷ 9 ∷ 9 ∷ 9 ∷ 9 ∷ 9 ∷ 9 ∷ 9 ∷ 9 ∷
    9 ∷ 9 ∷ 9 ∷ 9 ∷ 9 ∷ 9 ∷ 9 ∷ 9 ∷ 9 ∷ 9 ∷ 9 ∷ 9 ∷ 9 ∷ 9 ∷ 9 ∷
    9 ∷ 9 ∷ 9 ∷ 9 ∷ 9 ∷ 9 ∷ 9 ∷ 9 ∷ 9 ∷ 9 ∷ 9 ∷ 9 ∷ 9 ∷ 9 ∷ 9 ∷
    9 ∷ 9 ∷ 9 ∷ 9 ∷ 9 ∷ 9 ∷ 9 ∷ 9 ∷ 9 ∷ 9 ∷ 9 ∷ 9 ∷ 9 ∷ 9 ∷ 9 ∷
    9 ∷ 9 ∷ 9 ∷ []

abbrev pub shown : Start
shown = record { opening = opening_of (heading_of Kind.Iterator 4 5) (3 ∷ []); memory = lent }

abbrev pub of_each_kind : List Row
of_each_kind =
    row_of 5 0 0 0 0 ∷ row_of 1 0 0 0 71 ∷ row_of 0 1 0 0 72 ∷ row_of 5 0 0 0 0 ∷ row_of 6 0 0 0 0 ∷ row_of 2 1 5 0 0 ∷
    row_of 3 1 5 1 73 ∷ row_of 4 1 6 0 0 ∷ row_of 2 1 6 0 0 ∷ row_of 3 1 6 0 0 ∷ row_of 2 0 7 0 0 ∷ row_of 7 0 0 0 0 ∷
    []

each_belongs : Belongs (setting shown) of_each_kind
unfolding row_kind_at
each_belongs = (belongs_stop (setting shown) of_each_kind).1 refl

-- a history that leaves them
pub each_kind_left : Leaves shown of_each_kind
unfolding iterator_opened
each_kind_left = language_spoken shown refl of_each_kind each_belongs (omega arith)
