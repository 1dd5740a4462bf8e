-- The marked cases W1 to W12 of docs/RULES.md: what the definitions say, beside what was worked out by hand
use Rattle.std.specs.Prelude.{ℕ, zero, suc, List, [], ◌∷◌}
use Rattle.queue_record.specs.Openings.{scope_of, iterator_opened}
use Rattle.queue_record.specs.declared.record.Ticket.{Ticket}
use Rattle.queue_record.specs.declared.record.Queue.{Queue}
use Rattle.queue_births.specs.Births.{registered, landed}
use Rattle.queue_steps.specs.Attempts.{popped, completed, retried}
use Rattle.queue_questions.specs.Questions.{matches}
use Rattle.queue_stages.specs.Stages.{admitted}
use Rattle.cleanup_queue.specs.Answers.{Said, says, opened_says, registered_says, popped_says, completed_says, retried_says, told_says}

-- ---- the queues of the cases: a scope whose domain and first attempt are 0, if nothing else is said
abbrev ticket : ℕ → ℕ → Ticket
ticket token attempt = record { domain = 0; token = token; attempt = attempt }

abbrev pub new_scope : Queue
new_scope = scope_of 0 0

-- W2's queue
abbrev pub two : Queue
two = (registered (registered new_scope 71).queue 72).queue

abbrev pub out : Queue
out = (popped two).queue

-- W4's queue: Failed keeping 72
abbrev pub failed : Queue
failed = (completed out (ticket 1 0) 1 72).queue

-- W5's queue once the retried ticket is out
abbrev pub out_again : Queue
out_again = (popped (retried failed).queue).queue

-- W8's queue: Done with 0; then token 0 goes out
abbrev pub last : Queue
last = (completed out_again (ticket 1 1) 0 0).queue

abbrev pub last_out : Queue
last_out = (popped last).queue

-- W9's queue: Failed with 0
abbrev pub spent : Queue
spent = (completed last_out (ticket 0 2) 1 0).queue

-- W10's queues: 9 registered, its last attempt out, and Failed keeping 9
abbrev high : Queue
high = (registered (scope_of 0 18446744073709551614) 9).queue

abbrev high_out : Queue
high_out = (popped high).queue

abbrev at_the_top : Queue
at_the_top = (completed high_out (ticket 0 18446744073709551614) 1 9).queue

-- W11's queues
abbrev iterator : Queue
iterator = (iterator_opened 0 0 (4 ∷ 9 ∷ [])).queue

abbrev pending : Queue
pending = (admitted iterator (matches iterator (9 ∷ 4 ∷ 9 ∷ []))).queue

-- a queue after n registers of 5
abbrev pub registers : ℕ → Queue
registers zero = new_scope
registers (suc n) = (registered (registers n) 5).queue

-- ---- the table
pub record MarkedCase : Type 0 where
  -- the number of the case
  pub marked : ℕ
  pub definition : Said
  pub paper : Said

abbrev row : ℕ → Said → Said → MarkedCase
row n d p = record { marked = n; definition = d; paper = p }

abbrev nothing : Said
nothing = says 0 []

abbrev pub table : List MarkedCase
table =
    row 1 (popped_says (popped new_scope).answer) nothing ∷
    row 2 (popped_says (popped two).answer) (says 0 (0 ∷ 1 ∷ 0 ∷ 72 ∷ [])) ∷
    row 3 (popped_says (popped out).answer) nothing ∷
    row 4 (completed_says (completed out (ticket 1 0) 1 72).answer) (says 0 []) ∷
    row 4 (popped_says (popped failed).answer) nothing ∷
    row 5 (retried_says (retried failed).answer) (says 0 (0 ∷ 1 ∷ 1 ∷ [])) ∷
    row 5 (popped_says (popped (retried failed).queue).answer) (says 0 (0 ∷ 1 ∷ 1 ∷ 72 ∷ [])) ∷
    row 6 (completed_says (completed out_again (ticket 1 0) 0 0).answer) (says 6 (0 ∷ [])) ∷
    row 7 (completed_says (completed out_again (ticket 1 1) 0 72).answer) (says 7 (72 ∷ [])) ∷
    row 8 (completed_says (completed out_again (ticket 1 1) 0 0).answer) (says 0 []) ∷
    row 8 (popped_says (popped last).answer) (says 0 (0 ∷ 0 ∷ 2 ∷ 71 ∷ [])) ∷
    row 9 (completed_says (completed last_out (ticket 0 2) 1 0).answer) (says 0 []) ∷
    row 9 (retried_says (retried spent).answer) (says 20 []) ∷
    row 9 (popped_says (popped spent).answer) nothing ∷
    row 10 (popped_says (popped high).answer) (says 0 (0 ∷ 0 ∷ 18446744073709551614 ∷ 9 ∷ [])) ∷
    row 10 (completed_says (completed high_out (ticket 0 18446744073709551614) 1 9).answer) (says 0 []) ∷
    row 10 (retried_says (retried at_the_top).answer) (says 21 []) ∷
    row 11 (opened_says (iterator_opened 0 0 (4 ∷ 9 ∷ [])).answer) (says 0 []) ∷
    row 11 (told_says (admitted iterator (matches iterator (9 ∷ 4 ∷ 9 ∷ []))).answer) (says 0 (1 ∷ [])) ∷
    row 11 (registered_says (landed pending 30).answer) (says 0 (0 ∷ [])) ∷
    row 11 (registered_says (landed (landed pending 30).queue 31).answer) (says 4 (31 ∷ [])) ∷
    row 12 (registered_says (registered (registers 63) 6).answer) (says 0 (63 ∷ [])) ∷
    row 12 (registered_says (registered (registers 64) 6).answer) (says 3 (6 ∷ [])) ∷
    []

abbrev pub definition_says : List MarkedCase → List Said
definition_says [] = []
definition_says (r ∷ rs) = r.definition ∷ definition_says rs

abbrev pub paper_says : List MarkedCase → List Said
paper_says [] = []
paper_says (r ∷ rs) = r.paper ∷ paper_says rs
