-- The other calls answer the first refusal that is due: 1, 10, then as the queue; on the whole record 1 alone
use Prim.Native.Nat.{ℕ}
use mathlib.Core.Path.{◌≡◌, refl, ap, ◌∙◌}
use mathlib.Core.Bool.{Bool, true, false, not}
use mathlib.Core.List.{List, []}
use Rattle.choice.specs.Choice.{when◌then◌else◌}
use Rattle.stage.specs.Phases.{is_cancelled}
use Rattle.choice.proofs.Ways.{hit, miss, if_by}
use Rattle.queue_record.specs.declared.refusal.Refusal.{Refusal}
use Rattle.queue_record.specs.Refusals.{refusal_number, result_number, broken, no_group}
use Rattle.queue_record.specs.Newest.{is_there}
use Rattle.queue_record.specs.declared.refusal.Refusal.TheVariants.{Broken, NoGroup}
use Rattle.queue_record.specs.declared.record.Queue.{Queue}
use Rattle.queue_record.specs.declared.record.Ticket.{Ticket}
use Rattle.queue_questions.specs.Questions.{matches, is_cancelled_told, domain_told}
use Rattle.queue_births.specs.Sequences.{registered_all}
use Rattle.cleanup_queue.specs.Answers.{registered_says, popped_says, completed_says, retried_says, told_says, cancelled_says, domain_says}
use Rattle.cleanup_queue.specs.Orders.{Ground, first_due, register_order, land_order, pop_order, complete_order, retry_order, broken_only}
use Rattle.cleanup_queue.specs.WholeLists.{register_all_order}
use Rattle.cleanup_queue.proofs.Numbers as queue
use Rattle.cleanup_queue.proofs.ListLaws.{all_number}
use Rattle.group_record.specs.Record.{queue_at}
use Rattle.group_asking.specs.Scan.{first_yes, some_yes}
use Rattle.group_check.specs.WellFormed.{well_grouped}
use Rattle.group_check.specs.Ids.{spot_at, spot_of, got_at, got}
use Rattle.group_record.specs.declared.record.Groups.{Groups}
use Rattle.group_asking.specs.Question.{HoldsId}
use Rattle.group_questions.specs.ById.{told_by, domain_by, domain_in, negation, is_cancelled_in, accepts_in}
use Rattle.group_survey.specs.Whole.{told_of, retries_all, len_of}
use Rattle.group_steps.specs.Births.{registered_at, registered_in, landed_at, landed_in}
use Rattle.group_steps.specs.Sequences.{registered_all_at, registered_all_in}
use Rattle.group_steps.specs.Attempts.{popped_at, popped_in, completed_at, completed_in, retried_at, retried_in}
use Rattle.group_stages.specs.Stages.{admitted_at, admitted_in, admitted_at_without, admitted_in_without, ended_at, ended_in, cancelled_at, cancelled_in}
use Rattle.group_rounds.specs.Rounds.{retried_all}
use Rattle.cleanup_groups.specs.Answers.{len_says}
use Rattle.cleanup_groups.specs.Orders.{order_at, step_order, record_order}
use Rattle.queue_births.specs.declared.sequences.RegisteredAll.{RegisteredAll}
use Rattle.std.specs.Prelude.{Option, Some, None, Ok, Err}
use Rattle.queue_record.specs.declared.answered.Answered.{Answered}
use Rattle.group_record.specs.declared.answered.GroupsAnswered.{GroupsAnswered}
use Rattle.group_check.specs.Types.{Got, Spot}
use Rattle.group_survey.specs.Types.{LenTold}
use Rattle.queue_births.specs.Types.{Registered}
use Rattle.queue_questions.specs.Types.{Told}
use Rattle.queue_stages.specs.Types.{Cancelled}
use Rattle.queue_steps.specs.Types.{Completed, Popped, Retried}

-- ---- as the queue
module _ (g : Groups) (id : ℕ) where
  -- whichever call: it refuses with the number of the id, and at a place as the queue there
  step_number : {A : Type 0} (number : A → ℕ) (f : Spot → A) (order : Queue → List Ground) → ((r : Refusal) → number (f (Err r)) ≡ refusal_number r)
      → ((i : ℕ) → number (f (Ok i)) ≡ first_due (order (queue_at g i))) → number (f (spot_of g id)) ≡ first_due (step_order g id order)
  unfolding spot_of
  step_number number f order r s = go (not (well_grouped g)) (first_yes g (HoldsId id) [])
    where
      go : (a : Bool) (v : Option ℕ) → number (f (when a then Err Broken else spot_at v)) ≡ (when a then broken else when not (is_there v) then no_group else first_due (order_at g order v))
      go true v = r Broken
      go false None = r NoGroup
      go false (Some i) = s i

  pub register_number : (n : ℕ) → (registered_says (registered_in g id n).answer).number ≡ first_due (step_order g id (λ q. register_order q n))
  unfolding registered_in
  register_number n = step_number (λ (r : GroupsAnswered Registered). (registered_says r.answer).number) (registered_at g n)
      (λ q. register_order q n) (λ _. refl) (λ i. queue.register_number (queue_at g i) n)

  pub land_number : (n : ℕ) → (registered_says (landed_in g id n).answer).number ≡ first_due (step_order g id (λ q. land_order q n))
  unfolding landed_in
  land_number n = step_number (λ (r : GroupsAnswered Registered). (registered_says r.answer).number) (landed_at g n) (λ q. land_order q n) (λ _. refl) (λ i. queue.land_number (queue_at g i) n)

  -- of a whole list: 1, 10, then the number of the register of the next one, behind those that were taken
  pub register_all_number : (numbers : List ℕ) → result_number (registered_all_in g id numbers).answer.refusal
      ≡ first_due (step_order g id (λ q. register_all_order q numbers (registered_all q numbers).answer.taken))
  unfolding registered_all_in
  register_all_number numbers =
      step_number (λ (r : GroupsAnswered RegisteredAll). result_number r.answer.refusal) (registered_all_at g numbers) (λ q. register_all_order q numbers (registered_all q numbers).answer.taken)
      (λ _. refl) (λ i. all_number (queue_at g i) numbers)

  pub pop_number : (popped_says (popped_in g id).answer).number ≡ first_due (step_order g id pop_order)
  unfolding popped_in
  pop_number = step_number (λ (r : GroupsAnswered Popped). (popped_says r.answer).number) (popped_at g) pop_order (λ _. refl) (λ i. queue.pop_number (queue_at g i))

  pub complete_number : (t : Ticket) (outcome kept : ℕ) → (completed_says (completed_in g id t outcome kept).answer).number ≡ first_due (step_order g id (λ q. complete_order q t outcome kept))
  unfolding completed_in
  complete_number t outcome kept =
      step_number (λ (r : GroupsAnswered Completed). (completed_says r.answer).number) (completed_at g t outcome kept)
      (λ q. complete_order q t outcome kept) (λ _. refl) (λ i. queue.complete_number (queue_at g i) t outcome kept)

  pub retry_number : (retried_says (retried_in g id).answer).number ≡ first_due (step_order g id retry_order)
  unfolding retried_in
  retry_number = step_number (λ (r : GroupsAnswered Retried). (retried_says r.answer).number) (retried_at g) retry_order (λ _. refl) (λ i. queue.retry_number (queue_at g i))

  pub admit_number : (target : List ℕ) → (told_says (admitted_in g id target).answer).number ≡ first_due (step_order g id broken_only)
  unfolding admitted_in
  admit_number target =
      step_number (λ (r : GroupsAnswered Told). (told_says r.answer).number) (admitted_at g target) broken_only
      (λ _. refl) (λ i. queue.admit_number (queue_at g i) (matches (queue_at g i) target))

  pub admit_without_number : (told_says (admitted_in_without g id).answer).number ≡ first_due (step_order g id broken_only)
  unfolding admitted_in_without
  admit_without_number = step_number (λ (r : GroupsAnswered Told). (told_says r.answer).number) (admitted_at_without g) broken_only (λ _. refl) (λ i. queue.admit_number (queue_at g i) false)

  pub end_number : (told_says (ended_in g id).answer).number ≡ first_due (step_order g id broken_only)
  unfolding ended_in
  end_number = step_number (λ (r : GroupsAnswered Told). (told_says r.answer).number) (ended_at g) broken_only (λ _. refl) (λ i. queue.end_number (queue_at g i))

  pub cancel_number : (cancelled_says (cancelled_in g id).answer).number ≡ first_due (step_order g id broken_only)
  unfolding cancelled_in
  cancel_number = step_number (λ (r : GroupsAnswered Cancelled). (cancelled_says r.answer).number) (cancelled_at g) broken_only (λ _. refl) (λ i. queue.cancel_number (queue_at g i))

  -- the yes-or-no calls of a group, whichever
  pub told_number : (tells : Queue → Told) → ((q : Queue) → (told_says (tells q)).number ≡ first_due (broken_only q))
      → (told_says (told_by (got g id).answer (tells (got g id).queue))).number ≡ first_due (step_order g id broken_only)
  unfolding got
  told_number tells h = step_number (λ (r : Answered Got). (told_says (told_by r.answer (tells r.queue))).number) (got_at g) broken_only (λ _. refl) (λ i. h (queue_at g i))

  pub domain_number : (domain_says (domain_in g id)).number ≡ first_due (step_order g id broken_only)
  unfolding got
  domain_number = step_number (λ (r : Answered Got). (domain_says (domain_by r.answer (domain_told r.queue))).number) (got_at g) broken_only (λ _. refl) (λ i. queue.domain_number (queue_at g i))

  turned_number : (t : Told) → (told_says (negation t)).number ≡ (told_says t).number
  turned_number (Ok true) = refl
  turned_number (Ok false) = refl
  turned_number (Err n) = refl

  pub accepts_number : (told_says (accepts_in g id)).number ≡ first_due (step_order g id broken_only)
  unfolding is_cancelled_told
  accepts_number = turned_number (is_cancelled_in g id) ∙ told_number is_cancelled_told (λ q. queue.asked_number q (is_cancelled q.phase))

-- ---- calls on the whole record: each yes-or-no one is a told_of
module _ (g : Groups) where
  pub whole_number : (b : Bool) → (told_says (told_of g b)).number ≡ first_due (record_order g)
  whole_number b = queue.due_if (λ (r : Told). (told_says r).number) (not (well_grouped g)) _ _ refl (queue.told_number b)

  pub len_number : (len_says (len_of g)).number ≡ first_due (record_order g)
  len_number = queue.due_if (λ (r : LenTold). (len_says r).number) (not (well_grouped g)) _ _ refl refl

  pub retry_all_number : (told_says (retried_all g).answer).number ≡ first_due (record_order g)
  unfolding retried_all
  retry_all_number =
      queue.due_if (λ (r : GroupsAnswered Told). (told_says r.answer).number) (not (well_grouped g)) _ _ refl
      (if_by (λ (r : GroupsAnswered Told). (told_says r.answer).number ≡ 0) (not (retries_all g)) _ _ (λ _. refl) (λ _. refl))

-- ---- an id that is not live gets 10 from every call by id, and a spoiled record 1
module _ (g : Groups) (id : ℕ) (order : Queue → List Ground) where
  pub broken_first : well_grouped g ≡ false → first_due (step_order g id order) ≡ broken
  broken_first w = hit _ (ap not w)

  pub dead_next : well_grouped g ≡ true → some_yes g (HoldsId id) [] ≡ false → first_due (step_order g id order) ≡ no_group
  dead_next w n = miss broken (ap not w) ∙ hit _ (ap not n)
