-- R21 to R26: the openings
use Rattle.std.specs.Prelude.{ℕ, ◌-◌, false, List, [], ◌++◌, ltb, length, replicate, None, Ok, Err}
use Rattle.choice.specs.Choice.{when◌then◌else◌}
use Rattle.stage.specs.declared.phases.Phase.{Phase}
use Rattle.stage.specs.declared.phases.Phase.TheVariants.{Idle, Ended}
use Rattle.queue_record.specs.declared.record.Kind.{Kind}
use Rattle.queue_record.specs.declared.record.Kind.TheVariants.{Scope, Iterator}
use Rattle.queue_record.specs.declared.record.Queue.{Queue}
use Rattle.queue_record.specs.declared.openings.Heading.{Heading}
use Rattle.queue_record.specs.declared.refusal.Refusal.TheVariants.{TooManyBindings}
use Rattle.queue_record.specs.declared.answered.Answered.{Answered}
use Rattle.queue_record.specs.Types.{Opened}

-- what a queue is opened as: kind, domain and first attempt, and an iterator's committed bindings
pub record Opening : Type 0 where
  pub heading : Heading
  pub bindings : List ℕ

abbrev pub opening_of : Heading → List ℕ → Opening
opening_of heading bindings = record { heading = heading; bindings = bindings }

abbrev pub heading_of : Kind → ℕ → ℕ → Heading
heading_of kind domain first = record { kind = kind; domain = domain; first = first }

-- R22: the bindings as given, and 0 in the places behind them
abbrev pub binding_places : List ℕ → List ℕ
binding_places given = given ++ replicate (16 - length given) 0

-- R23: a queue without tokens: next starts at the first attempt
abbrev pub started : Heading → Phase → List ℕ → ℕ → Queue
started heading phase bindings bound = record { kind = heading.kind; domain = heading.domain; next = heading.first; slots = replicate 64 0; count = 0; selection = None; failed = false; issued = false; phase = phase; bindings = bindings; bound = bound }

abbrev pub opened : Kind → Phase → ℕ → ℕ → List ℕ → Queue
opened kind phase domain first bindings = started (heading_of kind domain first) phase (binding_places bindings) (length bindings)

-- R24: a scope starts Ended
unfoldable pub scope_of : ℕ → ℕ → Queue
scope_of domain first = opened Scope Ended domain first []

-- R24: an iterator starts Idle
unfoldable pub iterator_of : ℕ → ℕ → List ℕ → Queue
iterator_of domain first bindings = opened Iterator Idle domain first bindings

-- R26: the blank queue
unfoldable pub blank : Queue
blank = scope_of 0 0

-- R25: nothing refuses a scope
abbrev pub scope_opened : ℕ → ℕ → Answered Opened
scope_opened domain first = record { answer = (Ok tt); queue = scope_of domain first }

-- R25, R26: more than 16 bindings: 14 and the blank queue
unfoldable pub iterator_opened : ℕ → ℕ → List ℕ → Answered Opened
iterator_opened domain first bindings =
    when ltb 16 (length bindings) then record { answer = Err TooManyBindings; queue = blank } else
    record { answer = (Ok tt); queue = iterator_of domain first bindings }

-- the bindings that a kind keeps
abbrev pub kept_bindings : Kind → List ℕ → List ℕ
kept_bindings Scope bindings = []
kept_bindings Iterator bindings = bindings

-- R25: any opening; a scope looks at no bindings
abbrev pub opened_by : Kind → ℕ → ℕ → List ℕ → Answered Opened
opened_by Scope domain first bindings = scope_opened domain first
opened_by Iterator domain first bindings = iterator_opened domain first bindings

abbrev pub opened_as : Opening → Answered Opened
opened_as o = opened_by o.heading.kind o.heading.domain o.heading.first o.bindings
