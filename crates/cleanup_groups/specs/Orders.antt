-- R64: the refusals of the groups' calls in their order, each with when it is given
use Rattle.std.specs.Prelude.{ℕ, Bool, false, not, List, [], ◌∷◌, ◌++◌, leb, ltb, length, Option, Some, None}
use Rattle.queue_record.specs.declared.refusal.Refusal.TheVariants.{Broken, NoGroup, GroupsFull, Sealed, NotDrained, TooManyBindings, NoId}
use Rattle.queue_record.specs.declared.record.Queue.{Queue}
use Rattle.cleanup_queue.specs.Orders.{Ground, due}
use Rattle.group_record.specs.Record.{queue_at}
use Rattle.group_asking.specs.Questions.{drained}
use Rattle.group_asking.specs.Scan.{first_yes, some_yes}
use Rattle.group_check.specs.WellFormed.{last_base, ids, well_grouped}
use Rattle.group_record.specs.declared.record.Groups.{Groups}
use Rattle.group_asking.specs.Question.{Free, HoldsId, Undrained}

-- R99: a new record gets 19 or nothing
abbrev pub new_order : ℕ → List Ground
new_order base = due NoId (ltb last_base base) ∷ []

-- opening a group: 1, 12, 14, 11, 19
abbrev pub open_order : Groups → List ℕ → List Ground
open_order g bindings =
    due Broken (not (well_grouped g)) ∷
    due Sealed g.sealed ∷
    due TooManyBindings (ltb 16 (length bindings)) ∷
    due GroupsFull (not (some_yes g Free [])) ∷
    due NoId (leb ids g.next) ∷
    []

-- by id: 1, 10
abbrev pub id_order : Groups → ℕ → List Ground
id_order g id =
    due Broken (not (well_grouped g)) ∷
    due NoGroup (not (some_yes g (HoldsId id) [])) ∷
    []

-- what the queue that was found checks
abbrev pub order_at : Groups → (Queue → List Ground) → Option ℕ → List Ground
order_at g order None = []
order_at g order (Some i) = order (queue_at g i)

-- R64: by id 1 and 10, and then whatever the queue's call checks
abbrev pub step_order : Groups → ℕ → (Queue → List Ground) → List Ground
step_order g id order = id_order g id ++ order_at g order (first_yes g (HoldsId id) [])

-- R123: of the whole record 1 alone
abbrev pub record_order : Groups → List Ground
record_order g = due Broken (not (well_grouped g)) ∷ []

-- R109: the group that was found is not drained
abbrev pub undrained_at : Groups → Option ℕ → Bool
undrained_at g None = false
undrained_at g (Some i) = not (drained (queue_at g i))

-- closing: 1, 10, 13
abbrev pub close_order : Groups → ℕ → List Ground
close_order g id = id_order g id ++ (due NotDrained (undrained_at g (first_yes g (HoldsId id) [])) ∷ [])

-- sealing: 1, 12, 13
abbrev pub seal_order : Groups → List Ground
seal_order g =
    due Broken (not (well_grouped g)) ∷
    due Sealed g.sealed ∷
    due NotDrained (some_yes g Undrained []) ∷
    []
