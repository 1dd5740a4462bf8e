-- The public calls of queue and groups, a line each: what a call says, in which order it refuses, what it was given, what it leaves
use Rattle.std.specs.Prelude.{ℕ, ◌<◌, ◌≡◌, Bool, true, false, List, [], ◌∷◌, eqb, length, Ok, Err}
use Rattle.choice.specs.Choice.{bit}
use Rattle.stage.specs.Phases.{phase_after, is_pending, is_settled, is_cancelled, phase_number}
use Rattle.stage.specs.declared.phases.Phase.{Phase}
use Rattle.stage.specs.declared.phases.Event.{Event}
use Rattle.queue_record.specs.Refusals.{done, refusal_number}
use Rattle.queue_record.specs.declared.refusal.Refusal.{Refusal}
use Rattle.queue_record.specs.Waiting.{waiting}
use Rattle.queue_record.specs.declared.record.Queue.{Queue}
use Rattle.queue_births.specs.Births.{registered, landed}
use Rattle.queue_steps.specs.Attempts.{popped, completed, retry_allowed, retried}
use Rattle.queue_stages.specs.Stages.{admitted, ended, cancelled_by}
use Rattle.queue_questions.specs.Questions.{nothing_left, finishable, committed, matches, is_empty_told, is_issued_told, is_pending_told, is_settled_told, is_cancelled_told, has_failed_told, can_retry_told, can_finish_told, domain_told}
use Rattle.cleanup_queue.specs.Answers.{Said, registered_says, popped_says, completed_says, retried_says, told_says, cancelled_says, domain_says}
use Rattle.cleanup_queue.specs.Orders.{Ground, register_order, land_order, pop_order, work_values, complete_order, retry_order, renewed_values, broken_only}
use Rattle.cleanup_queue.specs.Runs.{after}
use Rattle.group_record.specs.Record.{place_at, queue_at}
use Rattle.group_record.specs.declared.record.Groups.{Groups}
use Rattle.group_check.specs.WellFormed.{well_grouped}
use Rattle.group_check.specs.Ids.{got}
use Rattle.group_questions.specs.ById.{is_empty_in, is_issued_in, is_pending_in, is_settled_in, is_cancelled_in, has_failed_in, can_retry_in, can_finish_in, domain_in, accepts_in}
use Rattle.group_survey.specs.Whole.{contains_told, is_empty_of, has_pending_of, has_issued_of, has_failed_of, can_retry_all_of, can_finish_of, can_seal_of, can_add_of, len_of}
use Rattle.group_openings.specs.Openings.{added_scope, added_iterator}
use Rattle.group_endings.specs.Endings.{removed, sealed_in}
use Rattle.group_steps.specs.Births.{registered_in, landed_in}
use Rattle.group_steps.specs.Attempts.{popped_in, completed_in, retried_in}
use Rattle.group_stages.specs.Stages.{admitted_in, admitted_in_without, ended_in, cancelled_in}
use Rattle.group_rounds.specs.Rounds.{retried_all}
use Rattle.cleanup_groups.specs.Answers.{added_says, closed_says, len_says, got_says}
use Rattle.cleanup_groups.specs.Orders.{open_order, id_order, step_order, record_order, close_order, seal_order}
use Rattle.cleanup_groups.specs.Promises.{LiveAt, id_at, IsLive, SomeLive, DrainedQueue}
use Rattle.cleanup_groups.specs.Runs.{GroupCall}
use Rattle.log_births.specs.Births.{register_recorded, land_recorded}
use Rattle.log_attempts.specs.Attempts.{pop_recorded, complete_recorded, retry_recorded}
use Rattle.log_stages.specs.Stages.{admit_recorded, end_recorded, cancel_recorded}
use Rattle.history.specs.Benches.{BenchCall, call_on}
use Rattle.queue_questions.specs.Types.{Told}

-- ---- the calls of a queue that may change it, each with its inputs: what one says, in which order it refuses, what it was given
abbrev pub said_by : Queue → BenchCall → Said
said_by q (BenchCall.register n) = registered_says (registered q n).answer
said_by q (BenchCall.land n) = registered_says (landed q n).answer
said_by q BenchCall.pop = popped_says (popped q).answer
said_by q (BenchCall.complete t outcome kept) = completed_says (completed q t outcome kept).answer
said_by q BenchCall.retry = retried_says (retried q).answer
said_by q (BenchCall.admit target) = told_says (admitted q (matches q target)).answer
said_by q BenchCall.admit_without = told_says (admitted q false).answer
said_by q BenchCall.end = told_says (ended q).answer
said_by q BenchCall.cancel = cancelled_says (cancelled_by q).answer

abbrev pub order_of : Queue → BenchCall → List Ground
order_of q (BenchCall.register n) = register_order q n
order_of q (BenchCall.land n) = land_order q n
order_of q BenchCall.pop = pop_order q
order_of q (BenchCall.complete t outcome kept) = complete_order q t outcome kept
order_of q BenchCall.retry = retry_order q
order_of q (BenchCall.admit target) = broken_only q
order_of q BenchCall.admit_without = broken_only q
order_of q BenchCall.end = broken_only q
order_of q BenchCall.cancel = broken_only q

-- the undo number that it was given
abbrev pub given_to : BenchCall → List ℕ
given_to (BenchCall.register n) = n ∷ []
given_to (BenchCall.land n) = n ∷ []
given_to BenchCall.pop = []
given_to (BenchCall.complete t outcome kept) = kept ∷ []
given_to BenchCall.retry = []
given_to (BenchCall.admit target) = []
given_to BenchCall.admit_without = []
given_to BenchCall.end = []
given_to BenchCall.cancel = []

-- its refusal never has the number 0, which says done
abbrev pub NotRefusedWith0 : Queue → BenchCall → Type 0
NotRefusedWith0 q (BenchCall.register n) = (refusal : Refusal) (given : ℕ) → (registered q n).answer ≡ Err (refusal, given) → refusal_number refusal ≡ done → ⊥
NotRefusedWith0 q (BenchCall.land n) = (refusal : Refusal) (given : ℕ) → (landed q n).answer ≡ Err (refusal, given) → refusal_number refusal ≡ done → ⊥
NotRefusedWith0 q BenchCall.pop = (refusal : Refusal) → (popped q).answer ≡ Err refusal → refusal_number refusal ≡ done → ⊥
NotRefusedWith0 q (BenchCall.complete t outcome kept) = (refusal : Refusal) (given : ℕ) → (completed q t outcome kept).answer ≡ Err (refusal, given) → refusal_number refusal ≡ done → ⊥
NotRefusedWith0 q BenchCall.retry = (refusal : Refusal) → (retried q).answer ≡ Err refusal → refusal_number refusal ≡ done → ⊥
NotRefusedWith0 q (BenchCall.admit target) = (refusal : Refusal) → (admitted q (matches q target)).answer ≡ Err refusal → refusal_number refusal ≡ done → ⊥
NotRefusedWith0 q BenchCall.admit_without = (refusal : Refusal) → (admitted q false).answer ≡ Err refusal → refusal_number refusal ≡ done → ⊥
NotRefusedWith0 q BenchCall.end = (refusal : Refusal) → (ended q).answer ≡ Err refusal → refusal_number refusal ≡ done → ⊥
NotRefusedWith0 q BenchCall.cancel = (refusal : Refusal) → (cancelled_by q).answer ≡ Err refusal → refusal_number refusal ≡ done → ⊥

-- nor does that of the recorded call
abbrev pub RecordedNotRefusedWith0 : Queue → List ℕ → ℕ → BenchCall → Type 0
RecordedNotRefusedWith0 q log used (BenchCall.register n) = (refusal : Refusal) (given : ℕ) → (register_recorded q n log used).answer ≡ Err (refusal, given) → refusal_number refusal ≡ done → ⊥
RecordedNotRefusedWith0 q log used (BenchCall.land n) = (refusal : Refusal) (given : ℕ) → (land_recorded q n log used).answer ≡ Err (refusal, given) → refusal_number refusal ≡ done → ⊥
RecordedNotRefusedWith0 q log used BenchCall.pop = (refusal : Refusal) → (pop_recorded q log used).answer ≡ Err refusal → refusal_number refusal ≡ done → ⊥
RecordedNotRefusedWith0 q log used (BenchCall.complete t outcome kept) = (refusal : Refusal) (given : ℕ) → (complete_recorded q t outcome kept log used).answer ≡ Err (refusal, given) → refusal_number refusal ≡ done → ⊥
RecordedNotRefusedWith0 q log used BenchCall.retry = (refusal : Refusal) → (retry_recorded q log used).answer ≡ Err refusal → refusal_number refusal ≡ done → ⊥
RecordedNotRefusedWith0 q log used (BenchCall.admit target) = (refusal : Refusal) → (admit_recorded q (matches q target) log used).answer ≡ Err refusal → refusal_number refusal ≡ done → ⊥
RecordedNotRefusedWith0 q log used BenchCall.admit_without = (refusal : Refusal) → (admit_recorded q false log used).answer ≡ Err refusal → refusal_number refusal ≡ done → ⊥
RecordedNotRefusedWith0 q log used BenchCall.end = (refusal : Refusal) → (end_recorded q log used).answer ≡ Err refusal → refusal_number refusal ≡ done → ⊥
RecordedNotRefusedWith0 q log used BenchCall.cancel = (refusal : Refusal) → (cancel_recorded q log used).answer ≡ Err refusal → refusal_number refusal ≡ done → ⊥

abbrev pub left_by : Queue → BenchCall → Queue
left_by q c = after q (call_on q c)

-- the values that it says where it is done: a token; the ticket and the undo number handed out; the ticket renewed; yes as 1 and no as 0
abbrev pub own_values : Queue → BenchCall → List ℕ
own_values q (BenchCall.register n) = q.count ∷ []
own_values q (BenchCall.land n) = q.count ∷ []
own_values q BenchCall.pop = work_values q q.issued q.failed q.selection
own_values q (BenchCall.complete t outcome kept) = []
own_values q BenchCall.retry = renewed_values q q.selection
own_values q (BenchCall.admit target) = bit (is_pending (left_by q (BenchCall.admit target)).phase) ∷ []
own_values q BenchCall.admit_without = bit (is_pending (left_by q BenchCall.admit_without).phase) ∷ []
own_values q BenchCall.end = bit (is_pending q.phase) ∷ []
own_values q BenchCall.cancel = []

-- ---- the table of the phases: those after admit, land, end and cancel by their numbers, and whether it is pending, settled, cancelled
abbrev pub phase_line : Phase → List ℕ
phase_line p = phase_number (phase_after p Event.Admit) ∷ phase_number (phase_after p Event.Land) ∷ phase_number (phase_after p Event.End) ∷ phase_number (phase_after p Event.Cancel) ∷ bit (is_pending p) ∷ bit (is_settled p) ∷ bit (is_cancelled p) ∷ []

-- ---- the calls that only ask
pub data QueueQuestion : Type 0 where
  asks_empty : QueueQuestion
  asks_issued : QueueQuestion
  asks_pending : QueueQuestion
  asks_settled : QueueQuestion
  asks_cancelled : QueueQuestion
  asks_failed : QueueQuestion
  asks_retry : QueueQuestion
  asks_finish : List ℕ → QueueQuestion
  asks_domain : QueueQuestion

abbrev pub told_to : Queue → QueueQuestion → Said
told_to q asks_empty = told_says (is_empty_told q)
told_to q asks_issued = told_says (is_issued_told q)
told_to q asks_pending = told_says (is_pending_told q)
told_to q asks_settled = told_says (is_settled_told q)
told_to q asks_cancelled = told_says (is_cancelled_told q)
told_to q asks_failed = told_says (has_failed_told q)
told_to q asks_retry = told_says (can_retry_told q)
told_to q (asks_finish target) = told_says (can_finish_told q target)
told_to q asks_domain = domain_says (domain_told q)

-- the value that it tells of a well-formed queue: 1 for yes and 0 for no, or the domain
abbrev pub meant_by : Queue → QueueQuestion → ℕ
meant_by q asks_empty = bit (nothing_left q.selection (waiting q))
meant_by q asks_issued = bit q.issued
meant_by q asks_pending = bit (is_pending q.phase)
meant_by q asks_settled = bit (is_settled q.phase)
meant_by q asks_cancelled = bit (is_cancelled q.phase)
meant_by q asks_failed = bit q.failed
meant_by q asks_retry = bit (retry_allowed q q.selection)
meant_by q (asks_finish target) = bit (finishable q.selection q.phase target (committed q))
meant_by q asks_domain = q.domain

-- ---- the calls of the groups that may change their record: what one says, in which order it refuses, what it was given
abbrev pub said_of_groups : Groups → GroupCall → Said
said_of_groups g GroupCall.add_scope = added_says (added_scope g).answer
said_of_groups g (GroupCall.add_iterator bindings) = added_says (added_iterator g bindings).answer
said_of_groups g (GroupCall.remove id) = closed_says (removed g id).answer
said_of_groups g GroupCall.seal = closed_says (sealed_in g).answer
said_of_groups g (GroupCall.register id n) = registered_says (registered_in g id n).answer
said_of_groups g (GroupCall.land id n) = registered_says (landed_in g id n).answer
said_of_groups g (GroupCall.pop id) = popped_says (popped_in g id).answer
said_of_groups g (GroupCall.complete id t outcome kept) = completed_says (completed_in g id t outcome kept).answer
said_of_groups g (GroupCall.retry id) = retried_says (retried_in g id).answer
said_of_groups g (GroupCall.admit id target) = told_says (admitted_in g id target).answer
said_of_groups g (GroupCall.admit_without id) = told_says (admitted_in_without g id).answer
said_of_groups g (GroupCall.end id) = told_says (ended_in g id).answer
said_of_groups g (GroupCall.cancel id) = cancelled_says (cancelled_in g id).answer
said_of_groups g GroupCall.retry_all = told_says (retried_all g).answer

abbrev pub groups_order : Groups → GroupCall → List Ground
groups_order g GroupCall.add_scope = open_order g []
groups_order g (GroupCall.add_iterator bindings) = open_order g bindings
groups_order g (GroupCall.remove id) = close_order g id
groups_order g GroupCall.seal = seal_order g
groups_order g (GroupCall.register id n) = step_order g id (λ q. register_order q n)
groups_order g (GroupCall.land id n) = step_order g id (λ q. land_order q n)
groups_order g (GroupCall.pop id) = step_order g id pop_order
groups_order g (GroupCall.complete id t outcome kept) = step_order g id (λ q. complete_order q t outcome kept)
groups_order g (GroupCall.retry id) = step_order g id retry_order
groups_order g (GroupCall.admit id target) = step_order g id broken_only
groups_order g (GroupCall.admit_without id) = step_order g id broken_only
groups_order g (GroupCall.end id) = step_order g id broken_only
groups_order g (GroupCall.cancel id) = step_order g id broken_only
groups_order g GroupCall.retry_all = record_order g

-- the undo number that it was given
abbrev pub given_to_groups : GroupCall → List ℕ
given_to_groups GroupCall.add_scope = []
given_to_groups (GroupCall.add_iterator bindings) = []
given_to_groups (GroupCall.remove id) = []
given_to_groups GroupCall.seal = []
given_to_groups (GroupCall.register id n) = n ∷ []
given_to_groups (GroupCall.land id n) = n ∷ []
given_to_groups (GroupCall.pop id) = []
given_to_groups (GroupCall.complete id t outcome kept) = kept ∷ []
given_to_groups (GroupCall.retry id) = []
given_to_groups (GroupCall.admit id target) = []
given_to_groups (GroupCall.admit_without id) = []
given_to_groups (GroupCall.end id) = []
given_to_groups (GroupCall.cancel id) = []
given_to_groups GroupCall.retry_all = []

-- its refusal never has the number 0
abbrev pub GroupsNotRefusedWith0 : Groups → GroupCall → Type 0
GroupsNotRefusedWith0 g GroupCall.add_scope = (refusal : Refusal) → (added_scope g).answer ≡ Err refusal → refusal_number refusal ≡ done → ⊥
GroupsNotRefusedWith0 g (GroupCall.add_iterator bindings) = (refusal : Refusal) → (added_iterator g bindings).answer ≡ Err refusal → refusal_number refusal ≡ done → ⊥
GroupsNotRefusedWith0 g (GroupCall.remove id) = (refusal : Refusal) → (removed g id).answer ≡ Err refusal → refusal_number refusal ≡ done → ⊥
GroupsNotRefusedWith0 g GroupCall.seal = (refusal : Refusal) → (sealed_in g).answer ≡ Err refusal → refusal_number refusal ≡ done → ⊥
GroupsNotRefusedWith0 g (GroupCall.register id n) = (refusal : Refusal) (given : ℕ) → (registered_in g id n).answer ≡ Err (refusal, given) → refusal_number refusal ≡ done → ⊥
GroupsNotRefusedWith0 g (GroupCall.land id n) = (refusal : Refusal) (given : ℕ) → (landed_in g id n).answer ≡ Err (refusal, given) → refusal_number refusal ≡ done → ⊥
GroupsNotRefusedWith0 g (GroupCall.pop id) = (refusal : Refusal) → (popped_in g id).answer ≡ Err refusal → refusal_number refusal ≡ done → ⊥
GroupsNotRefusedWith0 g (GroupCall.complete id t outcome kept) = (refusal : Refusal) (given : ℕ) → (completed_in g id t outcome kept).answer ≡ Err (refusal, given) → refusal_number refusal ≡ done → ⊥
GroupsNotRefusedWith0 g (GroupCall.retry id) = (refusal : Refusal) → (retried_in g id).answer ≡ Err refusal → refusal_number refusal ≡ done → ⊥
GroupsNotRefusedWith0 g (GroupCall.admit id target) = (refusal : Refusal) → (admitted_in g id target).answer ≡ Err refusal → refusal_number refusal ≡ done → ⊥
GroupsNotRefusedWith0 g (GroupCall.admit_without id) = (refusal : Refusal) → (admitted_in_without g id).answer ≡ Err refusal → refusal_number refusal ≡ done → ⊥
GroupsNotRefusedWith0 g (GroupCall.end id) = (refusal : Refusal) → (ended_in g id).answer ≡ Err refusal → refusal_number refusal ≡ done → ⊥
GroupsNotRefusedWith0 g (GroupCall.cancel id) = (refusal : Refusal) → (cancelled_in g id).answer ≡ Err refusal → refusal_number refusal ≡ done → ⊥
GroupsNotRefusedWith0 g GroupCall.retry_all = (refusal : Refusal) → (retried_all g).answer ≡ Err refusal → refusal_number refusal ≡ done → ⊥

-- where an answer's number is not 0, its values are those given back, and the record with it is g
abbrev pub GroupsRefusedAs : Groups → List ℕ → Said → Groups → Type 0
GroupsRefusedAs g back s h = (s.number ≡ done → ⊥) → (s.values ≡ back) × (h ≡ g)

-- the group's call that a queue's call is, with the group's id
abbrev pub by_id : ℕ → BenchCall → GroupCall
by_id id (BenchCall.register n) = GroupCall.register id n
by_id id (BenchCall.land n) = GroupCall.land id n
by_id id BenchCall.pop = GroupCall.pop id
by_id id (BenchCall.complete t outcome kept) = GroupCall.complete id t outcome kept
by_id id BenchCall.retry = GroupCall.retry id
by_id id (BenchCall.admit target) = GroupCall.admit id target
by_id id BenchCall.admit_without = GroupCall.admit_without id
by_id id BenchCall.end = GroupCall.end id
by_id id BenchCall.cancel = GroupCall.cancel id

-- whether a call is for the group of this id: seal and retry_all are for every group, an opening is for none that is live
abbrev pub is_for : GroupCall → ℕ → Bool
is_for GroupCall.add_scope id = false
is_for (GroupCall.add_iterator bindings) id = false
is_for (GroupCall.remove at) id = eqb id at
is_for GroupCall.seal id = true
is_for (GroupCall.register at n) id = eqb id at
is_for (GroupCall.land at n) id = eqb id at
is_for (GroupCall.pop at) id = eqb id at
is_for (GroupCall.complete at t outcome kept) id = eqb id at
is_for (GroupCall.retry at) id = eqb id at
is_for (GroupCall.admit at target) id = eqb id at
is_for (GroupCall.admit_without at) id = eqb id at
is_for (GroupCall.end at) id = eqb id at
is_for (GroupCall.cancel at) id = eqb id at
is_for GroupCall.retry_all id = true

-- ---- the calls of the groups that only ask
-- a queue's question, put to the group of an id
abbrev pub told_by_id : Groups → ℕ → QueueQuestion → Said
told_by_id g id asks_empty = told_says (is_empty_in g id)
told_by_id g id asks_issued = told_says (is_issued_in g id)
told_by_id g id asks_pending = told_says (is_pending_in g id)
told_by_id g id asks_settled = told_says (is_settled_in g id)
told_by_id g id asks_cancelled = told_says (is_cancelled_in g id)
told_by_id g id asks_failed = told_says (has_failed_in g id)
told_by_id g id asks_retry = told_says (can_retry_in g id)
told_by_id g id (asks_finish target) = told_says (can_finish_in g id target)
told_by_id g id asks_domain = domain_says (domain_in g id)

-- a yes-or-no question to the whole record; the case says what is asked, and the table behind it which call asks that
pub data RecordQuestion : Type 0 where
  asks_contains : ℕ → RecordQuestion
  asks_none_live : RecordQuestion
  asks_some_pending : RecordQuestion
  asks_some_issued : RecordQuestion
  asks_some_failed : RecordQuestion
  asks_retry_all : RecordQuestion
  asks_all_finish : List ℕ → RecordQuestion
  asks_seal : RecordQuestion
  asks_room : RecordQuestion

abbrev pub record_told : Groups → RecordQuestion → Told
record_told g (asks_contains id) = contains_told g id
record_told g asks_none_live = is_empty_of g
record_told g asks_some_pending = has_pending_of g
record_told g asks_some_issued = has_issued_of g
record_told g asks_some_failed = has_failed_of g
record_told g asks_retry_all = can_retry_all_of g
record_told g (asks_all_finish target) = can_finish_of g target
record_told g asks_seal = can_seal_of g
record_told g asks_room = can_add_of g

-- can_finish asks this of the live place i: neither pending nor failed, and of every id but 0 the queue's own can_finish
abbrev pub Finishes : Groups → List ℕ → ℕ → Type 0
Finishes g target i = (is_pending (queue_at g i).phase ≡ false) × ((queue_at g i).failed ≡ false) × ((id_at g i ≡ 0 → ⊥) → can_finish_told (queue_at g i) target ≡ Ok true)

-- what a yes to it means
abbrev pub YesMeans : Groups → RecordQuestion → Type 0
YesMeans g (asks_contains id) = IsLive g id
YesMeans g asks_none_live = (i : ℕ) → i < 16 → (place_at g i).live ≡ false
YesMeans g asks_some_pending = SomeLive g (λ id q. is_pending q.phase)
YesMeans g asks_some_issued = SomeLive g (λ id q. q.issued)
YesMeans g asks_some_failed = SomeLive g (λ id q. q.failed)
YesMeans g asks_retry_all = SomeLive g (λ id q. q.failed) × ((i : ℕ) → i < 16 → LiveAt g i → (queue_at g i).failed ≡ true → can_retry_told (queue_at g i) ≡ Ok true)
YesMeans g (asks_all_finish target) = (i : ℕ) → i < 16 → LiveAt g i → Finishes g target i
YesMeans g asks_seal = (i : ℕ) → i < 16 → LiveAt g i → DrainedQueue (queue_at g i)
YesMeans g asks_room = (added_scope g).answer ≡ Ok g.next

-- any question: one to a group, accepts_acquisition, get, one to the record, and len
pub data GroupQuestion : Type 0 where
  asks_group : ℕ → QueueQuestion → GroupQuestion
  asks_accepts : ℕ → GroupQuestion
  asks_queue : ℕ → GroupQuestion
  asks_record : RecordQuestion → GroupQuestion
  asks_len : GroupQuestion

abbrev pub groups_told : Groups → GroupQuestion → Said
groups_told g (asks_group id a) = told_by_id g id a
groups_told g (asks_accepts id) = told_says (accepts_in g id)
groups_told g (asks_queue id) = got_says (got g id).answer
groups_told g (asks_record a) = told_says (record_told g a)
groups_told g asks_len = len_says (len_of g)

abbrev pub groups_asked_order : Groups → GroupQuestion → List Ground
groups_asked_order g (asks_group id a) = step_order g id broken_only
groups_asked_order g (asks_accepts id) = step_order g id broken_only
groups_asked_order g (asks_queue id) = id_order g id
groups_asked_order g (asks_record a) = record_order g
groups_asked_order g asks_len = record_order g

-- ---- a group record of the code has sixteen places, by its array's type; a law that looks for a place asks for that
abbrev pub SixteenPlaces : Groups → Type 0
SixteenPlaces g = length g.places ≡ 16

-- a sound record of sixteen places, and in it the live place i
pub record LiveGroup (g : Groups) (i : ℕ) : Type 0 where
  pub places : SixteenPlaces g
  pub sound : well_grouped g ≡ true
  pub inside : i < 16
  pub live : LiveAt g i
