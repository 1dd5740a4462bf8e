-- R149: a whole list registered in a group, as the separate calls: the fold of the group's own register
use Rattle.std.specs.Prelude.{ℕ, List, [], ◌∷◌, take, get_or, Option, Some, None, Ok, Err}
use Rattle.queue_record.specs.declared.refusal.Refusal.{Refusal}
use Rattle.queue_births.specs.Sequences.{took_as, took_more}
use Rattle.group_record.specs.declared.record.Groups.{Groups}
use Rattle.group_steps.specs.Births.{registered_in}
use Rattle.cleanup_groups.specs.Runs.{GroupCall, groups_after_all}
use Rattle.group_record.specs.declared.answered.GroupsAnswered.{GroupsAnswered}
use Rattle.queue_births.specs.declared.sequences.RegisteredAll.{RegisteredAll}
use Rattle.queue_births.specs.Types.{Registered}

-- the separate calls, one for each number
abbrev pub registers_in : ℕ → List ℕ → List GroupCall
registers_in id [] = []
registers_in id (number ∷ rest) = GroupCall.register id number ∷ registers_in id rest

-- the one at the place k of the list, behind all that are in front of it
abbrev pub separate_call : Groups → ℕ → List ℕ → ℕ → GroupsAnswered Registered
separate_call g id numbers k = registered_in (groups_after_all g (registers_in id (take k numbers))) id (get_or numbers k 0)

-- none taken, and the record as it was
abbrev pub took_none_in : Groups → Option Refusal → GroupsAnswered RegisteredAll
took_none_in g refusal = record { answer = took_as 0 refusal; groups = g }

-- one taken in front of those of the rest
abbrev pub took_more_in : GroupsAnswered RegisteredAll → GroupsAnswered RegisteredAll
took_more_in rest = record { answer = took_more rest.answer; groups = rest.groups }

-- by a number's own answer, the record that it leaves, and what the rest comes to behind it: a refusal ends it, and is not counted
abbrev pub until_refused_in : Registered → Groups → GroupsAnswered RegisteredAll → GroupsAnswered RegisteredAll
until_refused_in (Ok token) after rest = took_more_in rest
until_refused_in (Err (refusal, given)) after rest = took_none_in after (Some refusal)

-- each number registered in turn
unfoldable pub groups_in_turn : Groups → ℕ → List ℕ → GroupsAnswered RegisteredAll
groups_in_turn g id [] = took_none_in g None
groups_in_turn g id (number ∷ rest) =
    until_refused_in (registered_in g id number).answer (registered_in g id number).groups (groups_in_turn (registered_in g id number).groups id rest)
