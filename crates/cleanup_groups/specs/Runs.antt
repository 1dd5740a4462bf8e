-- Runs: any calls with any inputs, one after the other
use Rattle.std.specs.Prelude.{ℕ, List, [], ◌∷◌}
use Rattle.queue_record.specs.declared.record.Ticket.{Ticket}
use Rattle.group_record.specs.declared.record.Groups.{Groups}
use Rattle.group_openings.specs.Openings.{added_scope, added_iterator}
use Rattle.group_endings.specs.Endings.{removed, sealed_in}
use Rattle.group_steps.specs.Births.{registered_in, landed_in}
use Rattle.group_steps.specs.Attempts.{popped_in, completed_in, retried_in}
use Rattle.group_stages.specs.Stages.{admitted_in, admitted_in_without, ended_in, cancelled_in}
use Rattle.group_rounds.specs.Rounds.{retried_all}

-- the calls that may change the record; the number first is the group's id
pub data GroupCall : Type 0 where
  add_scope : GroupCall
  add_iterator : List ℕ → GroupCall
  remove : ℕ → GroupCall
  seal : GroupCall
  register : ℕ → ℕ → GroupCall
  land : ℕ → ℕ → GroupCall
  pop : ℕ → GroupCall
  complete : ℕ → Ticket → ℕ → ℕ → GroupCall
  retry : ℕ → GroupCall
  admit : ℕ → List ℕ → GroupCall
  admit_without : ℕ → GroupCall
  end : ℕ → GroupCall
  cancel : ℕ → GroupCall
  retry_all : GroupCall

-- the record that a call leaves
abbrev pub groups_after : Groups → GroupCall → Groups
groups_after g add_scope = (added_scope g).groups
groups_after g (add_iterator bindings) = (added_iterator g bindings).groups
groups_after g (remove id) = (removed g id).groups
groups_after g seal = (sealed_in g).groups
groups_after g (register id number) = (registered_in g id number).groups
groups_after g (land id number) = (landed_in g id number).groups
groups_after g (pop id) = (popped_in g id).groups
groups_after g (complete id ticket outcome kept) = (completed_in g id ticket outcome kept).groups
groups_after g (retry id) = (retried_in g id).groups
groups_after g (admit id target) = (admitted_in g id target).groups
groups_after g (admit_without id) = (admitted_in_without g id).groups
groups_after g (end id) = (ended_in g id).groups
groups_after g (cancel id) = (cancelled_in g id).groups
groups_after g retry_all = (retried_all g).groups

abbrev pub groups_after_all : Groups → List GroupCall → Groups
groups_after_all g [] = g
groups_after_all g (c ∷ cs) = groups_after_all (groups_after g c) cs
