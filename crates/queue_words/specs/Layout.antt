-- The places of a queue's words, as src/layout.rt has them
use Rattle.std.specs.Prelude.{ℕ}

abbrev pub at_kind : ℕ
at_kind = 0

abbrev pub at_domain : ℕ
at_domain = 1

abbrev pub at_next : ℕ
at_next = 2

-- the first of 64
abbrev pub at_slots : ℕ
at_slots = 3

-- tokens issued
abbrev pub at_count : ℕ
at_count = 67

abbrev pub at_selected : ℕ
at_selected = 68

abbrev pub at_ticket_domain : ℕ
at_ticket_domain = 69

abbrev pub at_ticket_token : ℕ
at_ticket_token = 70

abbrev pub at_ticket_attempt : ℕ
at_ticket_attempt = 71

abbrev pub at_failed : ℕ
at_failed = 72

abbrev pub at_issued : ℕ
at_issued = 73

abbrev pub at_phase : ℕ
at_phase = 74

-- the first of 16
abbrev pub at_bindings : ℕ
at_bindings = 75

-- bindings used
abbrev pub at_bound : ℕ
at_bound = 91

-- how many words a queue has
abbrev pub word_count : ℕ
word_count = 92

-- ---- of an answer: its case, and its values
abbrev pub at_case : ℕ
at_case = 0

abbrev pub at_value : ℕ
at_value = 1

-- where work is handed out
abbrev pub at_work_token : ℕ
at_work_token = 2

abbrev pub at_work_attempt : ℕ
at_work_attempt = 3

-- ---- of the ticket that a caller names
abbrev pub at_given_domain : ℕ
at_given_domain = 0

abbrev pub at_given_token : ℕ
at_given_token = 1

abbrev pub at_given_attempt : ℕ
at_given_attempt = 2
