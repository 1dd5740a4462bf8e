-- A new record (R99, R100), and the openings of groups (R107, R108)
use Rattle.std.specs.Prelude.{ℕ, ◌+◌, not, List, [], leb, ltb, Option, Some, None, Ok, Err}
use Rattle.choice.specs.Choice.{when◌then◌else◌}
use Rattle.queue_record.specs.declared.refusal.Refusal.{Refusal}
use Rattle.queue_record.specs.declared.refusal.Refusal.TheVariants.{Broken, GroupsFull, Sealed, NoId}
use Rattle.queue_record.specs.Openings.{scope_of, scope_opened, iterator_opened}
use Rattle.queue_record.specs.declared.record.Queue.{Queue}
use Rattle.group_record.specs.Record.{empty_of, with_opened}
use Rattle.group_asking.specs.Scan.{first_yes}
use Rattle.group_check.specs.WellFormed.{last_base, ids, well_grouped}
use Rattle.group_record.specs.declared.record.Groups.{Groups}
use Rattle.group_asking.specs.Question.{Free}
use Rattle.queue_record.specs.declared.answered.Answered.{Answered}
use Rattle.group_record.specs.declared.answered.GroupsAnswered.{GroupsAnswered}
use Rattle.group_check.specs.Types.{Spot}
use Rattle.group_openings.specs.Types.{Added}
use Rattle.queue_record.specs.Types.{Opened}

-- R99: past the largest base 19, beside an empty record whose base is 0; R100: with any other, as upstream, the root: a scope
-- open as id 0, whose domain is the base
unfoldable pub new_of : ℕ → GroupsAnswered Opened
new_of base =
    when ltb last_base base then record { answer = Err NoId; groups = empty_of 0 } else
    record { answer = Ok tt; groups = with_opened (empty_of base) 0 (scope_of base 0) }

-- 1, then 12
abbrev pub unsealed : Groups → Opened
unsealed g =
    when not (well_grouped g) then Err Broken else
    when g.sealed then Err Sealed else
    Ok tt

-- R63: 11 with sixteen live, then 19 with no id left
abbrev pub room_at : Groups → Option ℕ → Spot
room_at g None = Err GroupsFull
room_at g (Some i) = when leb ids g.next then Err NoId else Ok i

-- R107: the lowest free place
abbrev pub room_of : Groups → Spot
room_of g = room_at g (first_yes g Free [])

abbrev pub refused_add : Groups → Refusal → GroupsAnswered Added
refused_add g refusal = record { answer = Err refusal; groups = g }

-- R97: the id is next
abbrev pub added_at : Groups → Queue → Spot → GroupsAnswered Added
added_at g q (Err refusal) = refused_add g refusal
added_at g q (Ok i) = record { answer = Ok g.next; groups = with_opened g i q }

abbrev pub added : Groups → Queue → GroupsAnswered Added
added g q = added_at g q (room_of g)

-- R98: the base and the id added
abbrev pub next_domain : Groups → ℕ
next_domain g = g.base + g.next

-- a refusal of the queue's own opening is passed on
abbrev pub added_queue : Groups → Queue → Opened → GroupsAnswered Added
added_queue g q (Err refusal) = refused_add g refusal
added_queue g q (Ok tt) = added g q

-- 1 and 12 come before it
abbrev pub added_opening : Groups → Answered Opened → Opened → GroupsAnswered Added
added_opening g x (Err refusal) = refused_add g refusal
added_opening g x (Ok tt) = added_queue g x.queue x.answer

-- R107: opening a scope: 1, 12, 11, 19; the first attempt is 0
unfoldable pub added_scope : Groups → GroupsAnswered Added
added_scope g = added_opening g (scope_opened (next_domain g) 0) (unsealed g)

-- opening an iterator: 1, 12, 14, 11, 19
unfoldable pub added_iterator : Groups → List ℕ → GroupsAnswered Added
added_iterator g bindings = added_opening g (iterator_opened (next_domain g) 0 bindings) (unsealed g)
