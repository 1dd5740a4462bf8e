-- R12: when a record is well formed, a named clause each
use Rattle.std.specs.Prelude.{ℕ, Bool, true, false, not, ◌&&◌, ◌||◌, List, [], ◌∷◌, eqb, leb, ltb, get_or, drop, Option, Some, None}
use Rattle.choice.specs.Choice.{implies}
use Rattle.stage.specs.Phases.{is_settled}
use Rattle.stage.specs.declared.phases.Phase.{Phase}
use Rattle.queue_record.specs.declared.record.Kind.{Kind}
use Rattle.queue_record.specs.declared.record.Kind.TheVariants.{Scope, Iterator}
use Rattle.queue_record.specs.declared.record.Queue.{Queue}
use Rattle.queue_record.specs.declared.record.Ticket.{Ticket}

-- R13: the tokens have room
abbrev pub tokens_fit : ℕ → Bool
tokens_fit count = leb count 64

-- R13: the bindings have room
abbrev pub bindings_fit : ℕ → Bool
bindings_fit bound = leb bound 16

abbrev pub all_zero : List ℕ → Bool
all_zero [] = true
all_zero (x ∷ xs) = eqb x 0 && all_zero xs

-- R14: from the count on every place holds 0
abbrev pub rest_zero : ℕ → List ℕ → Bool
rest_zero used places = all_zero (drop used places)

abbrev pub is_selected : Option Ticket → Bool
is_selected None = false
is_selected (Some t) = true

-- R15: the ticket is this queue's, of a token that was given, and its attempt has been used
abbrev pub ticket_fits : ℕ → ℕ → ℕ → Option Ticket → Bool
ticket_fits domain count next None = true
ticket_fits domain count next (Some t) = eqb t.domain domain && (ltb t.token count && ltb t.attempt next)

-- R16, R17: a mark stands beside a ticket, and not beside the other mark
abbrev pub marks_fit : Bool → Bool → Bool → Bool
marks_fit selected failed issued = implies (failed || issued) selected && not (failed && issued)

-- R18, R19: the slot is empty while its number is out, and full while its ticket is ready
abbrev pub slot_fits : Bool → Bool → ℕ → Bool
slot_fits failed issued number = implies issued (eqb number 0) && implies (not failed && not issued) (not (eqb number 0))

-- that slot is the selected ticket's
abbrev pub selected_fits : Bool → Bool → List ℕ → Option Ticket → Bool
selected_fits failed issued slots None = true
selected_fits failed issued slots (Some t) = slot_fits failed issued (get_or slots t.token 0)

-- R20: a scope takes no bindings, and its stage is settled
abbrev pub scope_fits : Kind → ℕ → Phase → Bool
scope_fits Scope bound phase = eqb bound 0 && is_settled phase
scope_fits Iterator bound phase = true

abbrev pub all_true : List Bool → Bool
all_true [] = true
all_true (b ∷ bs) = b && all_true bs

abbrev pub clauses : Queue → List Bool
clauses q =
    tokens_fit q.count ∷
    bindings_fit q.bound ∷
    rest_zero q.count q.slots ∷
    rest_zero q.bound q.bindings ∷
    scope_fits q.kind q.bound q.phase ∷
    ticket_fits q.domain q.count q.next q.selection ∷
    marks_fit (is_selected q.selection) q.failed q.issued ∷
    selected_fits q.failed q.issued q.slots q.selection ∷
    []

unfoldable pub well_formed : Queue → Bool
well_formed q = all_true (clauses q)
