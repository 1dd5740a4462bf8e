-- The record with one part set, and the lengths of its two arrays. An added field changes this file, the openings and the blank test, and no step
use Rattle.std.specs.Prelude.{ℕ, ◌≡◌, Bool, length, set, Option}
use Rattle.stage.specs.declared.phases.Phase.{Phase}
use Rattle.queue_record.specs.declared.record.Kind.{Kind}
use Rattle.queue_record.specs.declared.record.Queue.{Queue}
use Rattle.queue_record.specs.declared.record.Ticket.{Ticket}

abbrev pub with_kind : Queue → Kind → Queue
with_kind q k = record { kind = k; domain = q.domain; next = q.next; slots = q.slots; count = q.count; selection = q.selection; failed = q.failed; issued = q.issued; phase = q.phase; bindings = q.bindings; bound = q.bound }

abbrev pub with_next : Queue → ℕ → Queue
with_next q n = record { kind = q.kind; domain = q.domain; next = n; slots = q.slots; count = q.count; selection = q.selection; failed = q.failed; issued = q.issued; phase = q.phase; bindings = q.bindings; bound = q.bound }

abbrev pub with_slot : Queue → ℕ → ℕ → Queue
with_slot q token n = record { kind = q.kind; domain = q.domain; next = q.next; slots = set q.slots token n; count = q.count; selection = q.selection; failed = q.failed; issued = q.issued; phase = q.phase; bindings = q.bindings; bound = q.bound }

abbrev pub with_count : Queue → ℕ → Queue
with_count q n = record { kind = q.kind; domain = q.domain; next = q.next; slots = q.slots; count = n; selection = q.selection; failed = q.failed; issued = q.issued; phase = q.phase; bindings = q.bindings; bound = q.bound }

abbrev pub with_selection : Queue → Option Ticket → Queue
with_selection q s = record { kind = q.kind; domain = q.domain; next = q.next; slots = q.slots; count = q.count; selection = s; failed = q.failed; issued = q.issued; phase = q.phase; bindings = q.bindings; bound = q.bound }

abbrev pub with_failed : Queue → Bool → Queue
with_failed q b = record { kind = q.kind; domain = q.domain; next = q.next; slots = q.slots; count = q.count; selection = q.selection; failed = b; issued = q.issued; phase = q.phase; bindings = q.bindings; bound = q.bound }

abbrev pub with_issued : Queue → Bool → Queue
with_issued q b = record { kind = q.kind; domain = q.domain; next = q.next; slots = q.slots; count = q.count; selection = q.selection; failed = q.failed; issued = b; phase = q.phase; bindings = q.bindings; bound = q.bound }

abbrev pub with_phase : Queue → Phase → Queue
with_phase q p = record { kind = q.kind; domain = q.domain; next = q.next; slots = q.slots; count = q.count; selection = q.selection; failed = q.failed; issued = q.issued; phase = p; bindings = q.bindings; bound = q.bound }

-- the two arrays have their 64 and 16 places: true of every value that code can hold
pub record Sized (q : Queue) : Type 0 where
  pub slots : length q.slots ≡ 64
  pub bindings : length q.bindings ≡ 16
