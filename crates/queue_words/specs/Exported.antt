-- What the exported calls do to a queue's words: each is the public call on the record that they encode
use Rattle.std.specs.Prelude.{ℕ, ◌≡◌, Bool, true, not, false, List, [], ◌∷◌, Option, Some, None, Ok, Err}
use Rattle.choice.specs.Choice.{when◌then◌else◌}
use Rattle.queue_record.specs.Refusals.{done, refusal_number, result_number}
use Rattle.queue_record.specs.declared.refusal.Refusal.{Refusal}
use Rattle.queue_record.specs.declared.refusal.Refusal.TheVariants.{Broken}
use Rattle.queue_births.specs.Births.{registered, landed}
use Rattle.queue_births.specs.Sequences.{registered_all}
use Rattle.queue_steps.specs.Attempts.{popped, completed, retried}
use Rattle.queue_births.specs.declared.sequences.RegisteredAll.{RegisteredAll}
use Rattle.queue_questions.specs.Questions.{matches, is_empty_told, is_issued_told, is_pending_told, is_settled_told, is_cancelled_told, has_failed_told, can_retry_told, can_finish_told, domain_told}
use Rattle.queue_stages.specs.Stages.{admitted, ended, cancelled_by}
use Rattle.queue_words.specs.Layout.{at_given_domain, at_given_token, at_given_attempt}
use Rattle.queue_words.specs.Words.{word, ticket_of, queue_of, words_of, encodes}
use Rattle.queue_record.specs.declared.answered.Answered.{Answered}
use Rattle.queue_births.specs.Types.{Registered}
use Rattle.queue_questions.specs.Types.{DomainTold, Told}
use Rattle.queue_record.specs.Types.{Opened}
use Rattle.queue_stages.specs.Types.{Cancelled}
use Rattle.queue_steps.specs.Types.{Completed, Popped, Retried}

-- what a call hands back: the number that it returns, the answer's five words, and the queue's words after it
pub record Exported : Type 0 where
  pub result : ℕ
  pub answer : List ℕ
  pub words : List ℕ

abbrev pub exported : ℕ → List ℕ → List ℕ → Exported
exported result answer words = record { result = result; answer = answer; words = words }

-- an answer: its case and one value, or four
abbrev pub answer_of : ℕ → ℕ → List ℕ
answer_of kind value = kind ∷ value ∷ 0 ∷ 0 ∷ 0 ∷ []

-- a refusal: its number, case 0, and the undo number given back, or 0
abbrev pub refused_on : Refusal → ℕ → List ℕ → Exported
refused_on refusal given ws = exported (refusal_number refusal) (answer_of 0 given) ws

-- words that encode no record are refused with 1, and stay
abbrev pub on_record : List ℕ → ℕ → Exported → Exported
on_record ws given answered = when not (encodes ws) then refused_on Broken given ws else answered

-- ---- the openings: the number that is returned
abbrev pub open_number : Opened → ℕ
open_number (Ok tt) = done
open_number (Err refusal) = refusal_number refusal

-- an opening's number, and the words of the queue that it leaves
pub record OpensOn (x : Answered Opened) (result : ℕ) (words : List ℕ) : Type 0 where
  pub number : result ≡ open_number x.answer
  pub left : words ≡ words_of x.queue

-- ---- register, land
abbrev pub born_said : Registered → List ℕ → Exported
born_said (Ok token) ws = exported done (answer_of 1 token) ws
born_said (Err (refusal, number)) ws = refused_on refusal number ws

abbrev pub born_exported : Answered Registered → Exported
born_exported r = born_said r.answer (words_of r.queue)

unfoldable pub register_on : List ℕ → ℕ → Exported
register_on ws number = on_record ws number (born_exported (registered (queue_of ws) number))

unfoldable pub land_on : List ℕ → ℕ → Exported
land_on ws number = on_record ws number (born_exported (landed (queue_of ws) number))

-- ---- register of a whole list: how many were taken, with a refusal too
abbrev pub born_all_case : Option Refusal → ℕ
born_all_case None = 1
born_all_case (Some refusal) = 0

abbrev pub born_all_said : RegisteredAll → List ℕ → Exported
born_all_said r ws = exported (result_number r.refusal) (answer_of (born_all_case r.refusal) r.taken) ws

abbrev pub born_all_exported : Answered RegisteredAll → Exported
born_all_exported r = born_all_said r.answer (words_of r.queue)

unfoldable pub register_all_on : List ℕ → List ℕ → Exported
register_all_on ws numbers = on_record ws 0 (born_all_exported (registered_all (queue_of ws) numbers))

-- ---- pop, complete, retry
abbrev pub pop_said : Popped → List ℕ → Exported
pop_said (Ok (Some (t, number))) ws = exported done (2 ∷ t.domain ∷ t.token ∷ t.attempt ∷ number ∷ []) ws
pop_said (Ok None) ws = exported done (answer_of 1 0) ws
pop_said (Err refusal) ws = refused_on refusal 0 ws

abbrev pub pop_exported : Answered Popped → Exported
pop_exported r = pop_said r.answer (words_of r.queue)

unfoldable pub pop_on : List ℕ → Exported
pop_on ws = on_record ws 0 (pop_exported (popped (queue_of ws)))

abbrev pub complete_said : Completed → List ℕ → Exported
complete_said (Ok tt) ws = exported done (answer_of 1 0) ws
complete_said (Err (refusal, kept)) ws = refused_on refusal kept ws

abbrev pub complete_exported : Answered Completed → Exported
complete_exported r = complete_said r.answer (words_of r.queue)

-- the three words of the ticket given: domain, token, attempt
unfoldable pub complete_on : List ℕ → List ℕ → ℕ → ℕ → Exported
complete_on ws ticket outcome kept = on_record ws kept (complete_exported (completed (queue_of ws) (ticket_of (word ticket at_given_domain) (word ticket at_given_token) (word ticket at_given_attempt)) outcome kept))

abbrev pub retry_said : Retried → List ℕ → Exported
retry_said (Ok t) ws = exported done (1 ∷ t.domain ∷ t.token ∷ t.attempt ∷ 0 ∷ []) ws
retry_said (Err refusal) ws = refused_on refusal 0 ws

abbrev pub retry_exported : Answered Retried → Exported
retry_exported r = retry_said r.answer (words_of r.queue)

unfoldable pub retry_on : List ℕ → Exported
retry_on ws = on_record ws 0 (retry_exported (retried (queue_of ws)))

-- ---- admit, end, and the questions: 1 no, 2 yes
abbrev pub told_said : Told → List ℕ → Exported
told_said (Ok true) ws = exported done (answer_of 2 0) ws
told_said (Ok false) ws = exported done (answer_of 1 0) ws
told_said (Err refusal) ws = refused_on refusal 0 ws

abbrev pub stage_exported : Answered Told → Exported
stage_exported r = told_said r.answer (words_of r.queue)

-- matched: there is a target, and its members are the committed ones
abbrev pub admit_by : List ℕ → Bool → Exported
admit_by ws matched = on_record ws 0 (stage_exported (admitted (queue_of ws) matched))

unfoldable pub admit_on : List ℕ → List ℕ → Exported
admit_on ws target = admit_by ws (matches (queue_of ws) target)

unfoldable pub admit_without_on : List ℕ → Exported
admit_without_on ws = admit_by ws false

unfoldable pub end_on : List ℕ → Exported
end_on ws = on_record ws 0 (stage_exported (ended (queue_of ws)))

abbrev pub cancel_said : Cancelled → List ℕ → Exported
cancel_said (Ok tt) ws = exported done (answer_of 1 0) ws
cancel_said (Err refusal) ws = refused_on refusal 0 ws

abbrev pub cancel_exported : Answered Cancelled → Exported
cancel_exported r = cancel_said r.answer (words_of r.queue)

unfoldable pub cancel_on : List ℕ → Exported
cancel_on ws = on_record ws 0 (cancel_exported (cancelled_by (queue_of ws)))

-- a question changes no word
abbrev pub told_on : List ℕ → Told → Exported
told_on ws told = on_record ws 0 (told_said told ws)

unfoldable pub is_empty_on : List ℕ → Exported
is_empty_on ws = told_on ws (is_empty_told (queue_of ws))

unfoldable pub is_issued_on : List ℕ → Exported
is_issued_on ws = told_on ws (is_issued_told (queue_of ws))

unfoldable pub is_pending_on : List ℕ → Exported
is_pending_on ws = told_on ws (is_pending_told (queue_of ws))

unfoldable pub is_settled_on : List ℕ → Exported
is_settled_on ws = told_on ws (is_settled_told (queue_of ws))

unfoldable pub is_cancelled_on : List ℕ → Exported
is_cancelled_on ws = told_on ws (is_cancelled_told (queue_of ws))

unfoldable pub has_failed_on : List ℕ → Exported
has_failed_on ws = told_on ws (has_failed_told (queue_of ws))

unfoldable pub can_retry_on : List ℕ → Exported
can_retry_on ws = told_on ws (can_retry_told (queue_of ws))

unfoldable pub can_finish_on : List ℕ → List ℕ → Exported
can_finish_on ws target = told_on ws (can_finish_told (queue_of ws) target)

abbrev pub domain_said : DomainTold → List ℕ → Exported
domain_said (Ok domain) ws = exported done (answer_of 1 domain) ws
domain_said (Err refusal) ws = refused_on refusal 0 ws

unfoldable pub domain_on : List ℕ → Exported
domain_on ws = on_record ws 0 (domain_said (domain_told (queue_of ws)) ws)
