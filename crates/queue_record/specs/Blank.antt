-- R26: the blank queue, as a test: no token, no number but 0 (blank_only: no other queue of 64 and 16 places passes)
use Rattle.std.specs.Prelude.{Bool, true, false, not, ◌&&◌, eqb}
use Rattle.stage.specs.Phases.{differs}
use Rattle.stage.specs.declared.phases.Phase.TheVariants.{Ended}
use Rattle.queue_record.specs.WellFormed.{all_zero, is_selected}
use Rattle.queue_record.specs.declared.record.Kind.{Kind}
use Rattle.queue_record.specs.declared.record.Kind.TheVariants.{Scope, Iterator}
use Rattle.queue_record.specs.declared.record.Queue.{Queue}

abbrev pub is_scope : Kind → Bool
is_scope Scope = true
is_scope Iterator = false

-- a scope that is Ended, with nothing selected and no mark
abbrev pub unmarked : Queue → Bool
unmarked q = is_scope q.kind && (not (is_selected q.selection) && (not q.failed && (not q.issued && not (differs q.phase Ended))))

-- every number is 0
abbrev pub unnumbered : Queue → Bool
unnumbered q = all_zero q.slots && (all_zero q.bindings && (eqb q.domain 0 && (eqb q.next 0 && (eqb q.count 0 && eqb q.bound 0))))

abbrev pub is_blank : Queue → Bool
is_blank q = unmarked q && unnumbered q
