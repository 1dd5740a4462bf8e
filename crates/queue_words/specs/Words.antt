-- A record as words: which words encode one, and the words of each
use Rattle.std.specs.Prelude.{ℕ, Bool, true, false, ◌&&◌, List, [], ◌∷◌, ◌++◌, eqb, leb, length, get_or, take, drop, Option, Some, None}
use Rattle.choice.specs.Choice.{when◌then◌else◌, implies}
use Rattle.stage.specs.Phases.{phase_number, phase_at}
use Rattle.queue_record.specs.WellFormed.{tokens_fit, bindings_fit, rest_zero, is_selected, ticket_fits, marks_fit, selected_fits, scope_fits, well_formed}
use Rattle.queue_record.specs.declared.record.Kind.{Kind}
use Rattle.queue_record.specs.declared.record.Kind.TheVariants.{Scope, Iterator}
use Rattle.queue_record.specs.declared.record.Ticket.{Ticket}
use Rattle.queue_record.specs.declared.record.Queue.{Queue}
use Rattle.queue_words.specs.Layout.{at_kind, at_domain, at_next, at_slots, at_count, at_selected, at_ticket_domain, at_ticket_token, at_ticket_attempt, at_failed, at_issued, at_phase, at_bindings, at_bound, word_count}

-- the word at a place
abbrev pub word : List ℕ → ℕ → ℕ
word ws k = get_or ws k 0

-- ---- the parts: 0 scope, 1 iterator
abbrev pub kind_word : Kind → ℕ
kind_word Scope = 0
kind_word Iterator = 1

abbrev pub kind_at : ℕ → Kind
kind_at n = when eqb n 0 then Scope else Iterator

-- a mark is set at 1
abbrev pub mark_word : Bool → ℕ
mark_word true = 1
mark_word false = 0

abbrev pub mark_at : ℕ → Bool
mark_at n = eqb n 1

abbrev pub ticket_of : ℕ → ℕ → ℕ → Ticket
ticket_of domain token attempt = record { domain = domain; token = token; attempt = attempt }

-- the four words of a selection: 1 and the ticket's, or four times 0
abbrev pub selected_word : Option Ticket → ℕ
selected_word None = 0
selected_word (Some t) = 1

abbrev pub domain_word : Option Ticket → ℕ
domain_word None = 0
domain_word (Some t) = t.domain

abbrev pub token_word : Option Ticket → ℕ
token_word None = 0
token_word (Some t) = t.token

abbrev pub attempt_word : Option Ticket → ℕ
attempt_word None = 0
attempt_word (Some t) = t.attempt

abbrev pub selection_at : ℕ → ℕ → ℕ → ℕ → Option Ticket
selection_at selected domain token attempt = when eqb selected 0 then None else Some (ticket_of domain token attempt)

-- ---- the record
abbrev pub slots_in : List ℕ → List ℕ
slots_in ws = take 64 (drop at_slots ws)

abbrev pub bindings_in : List ℕ → List ℕ
bindings_in ws = take 16 (drop at_bindings ws)

abbrev pub selection_in : List ℕ → Option Ticket
selection_in ws = selection_at (word ws at_selected) (word ws at_ticket_domain) (word ws at_ticket_token) (word ws at_ticket_attempt)

-- the record that words encode, where they do
unfoldable pub queue_of : List ℕ → Queue
queue_of ws = record {
  kind = kind_at (word ws at_kind);
  domain = word ws at_domain;
  next = word ws at_next;
  slots = slots_in ws;
  count = word ws at_count;
  selection = selection_in ws;
  failed = mark_at (word ws at_failed);
  issued = mark_at (word ws at_issued);
  phase = phase_at (word ws at_phase);
  bindings = bindings_in ws;
  bound = word ws at_bound;
}

-- the words behind the slots, from the count on
abbrev pub words_behind : Queue → List ℕ
words_behind q = q.count ∷ selected_word q.selection ∷ domain_word q.selection ∷ token_word q.selection ∷ attempt_word q.selection ∷ mark_word q.failed ∷ mark_word q.issued ∷ phase_number q.phase ∷ (q.bindings ++ (q.bound ∷ []))

-- the words of a record
unfoldable pub words_of : Queue → List ℕ
words_of q = kind_word q.kind ∷ q.domain ∷ q.next ∷ (q.slots ++ words_behind q)

-- ---- which words encode a record: as many as a queue has, no number past the last of its kind, and no ticket's words where none is selected
abbrev pub marks_encode : ℕ → ℕ → ℕ → ℕ → ℕ → Bool
marks_encode kind selected failed issued phase = leb kind 1 && (leb selected 1 && (leb failed 1 && (leb issued 1 && leb phase 4)))

abbrev pub ticket_encodes : ℕ → ℕ → ℕ → ℕ → Bool
ticket_encodes selected domain token attempt = implies (eqb selected 0) (eqb domain 0 && (eqb token 0 && eqb attempt 0))

unfoldable pub encodes : List ℕ → Bool
encodes ws = eqb (length ws) word_count && (marks_encode (word ws at_kind) (word ws at_selected) (word ws at_failed) (word ws at_issued) (word ws at_phase) && ticket_encodes (word ws at_selected) (word ws at_ticket_domain) (word ws at_ticket_token) (word ws at_ticket_attempt))

-- ---- the clauses of a well-formed record in two parts: its places, and its selection
unfoldable pub places_fit : Queue → Bool
places_fit q = tokens_fit q.count && (bindings_fit q.bound && (rest_zero q.count q.slots && (rest_zero q.bound q.bindings && scope_fits q.kind q.bound q.phase)))

-- the clauses on a selection, beside the marks and the slots
abbrev pub selection_fits_by : Queue → Option Ticket → Bool
selection_fits_by q s = ticket_fits q.domain q.count q.next s && (marks_fit (is_selected s) q.failed q.issued && selected_fits q.failed q.issued q.slots s)

unfoldable pub selection_fits : Queue → Bool
selection_fits q = selection_fits_by q q.selection

-- what every call asks first: the words encode a record, and it is well formed
unfoldable pub is_sound : List ℕ → Bool
is_sound ws = encodes ws && well_formed (queue_of ws)
