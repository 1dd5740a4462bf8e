-- A call by id refuses with a number that is never 0: that of the id, or the queue's own
use Prim.Native.Nat.{ℕ}
use mathlib.Core.Bool.{Bool}
use mathlib.Core.List.{List}
use Rattle.queue_questions.specs.Questions.{asked}
use Rattle.queue_record.specs.declared.record.Ticket.{Ticket}
use Rattle.queue_record.specs.declared.record.Queue.{Queue}
use Rattle.group_record.specs.declared.record.Groups.{Groups}
use Rattle.group_check.specs.Ids.{got}
use Rattle.group_questions.specs.ById.{told_by, domain_in, accepts_in}
use Rattle.group_steps.specs.Births.{registered_in, landed_in}
use Rattle.group_steps.specs.Attempts.{popped_in, completed_in, retried_in}
use Rattle.group_stages.specs.Stages.{admitted_in, admitted_in_without, ended_in, cancelled_in}
use Rattle.cleanup_groups.specs.Promises.{Numbered}
use Rattle.cleanup_groups.proofs.Says.{numbered}
use Rattle.std.specs.Prelude.{Err}
use Rattle.queue_questions.specs.Types.{Told}

-- a question put to a queue, whichever
pub asked_numbered : (q : Queue) (answer : Bool) → Numbered Err (asked q answer)
asked_numbered q answer = numbered Err (asked q answer)

module _ (g : Groups) (id : ℕ) where
  -- register, land and complete, whatever number a refusal gives back
  pub register_numbered : (number back : ℕ) → Numbered (λ r. Err (r, back)) (registered_in g id number).answer
  register_numbered number back = numbered (λ r. Err (r, back)) (registered_in g id number).answer

  pub land_numbered : (number back : ℕ) → Numbered (λ r. Err (r, back)) (landed_in g id number).answer
  land_numbered number back = numbered (λ r. Err (r, back)) (landed_in g id number).answer

  pub pop_numbered : Numbered Err (popped_in g id).answer
  pop_numbered = numbered Err (popped_in g id).answer

  pub complete_numbered : (t : Ticket) (outcome kept back : ℕ) → Numbered (λ r. Err (r, back)) (completed_in g id t outcome kept).answer
  complete_numbered t outcome kept back = numbered (λ r. Err (r, back)) (completed_in g id t outcome kept).answer

  pub retry_numbered : Numbered Err (retried_in g id).answer
  retry_numbered = numbered Err (retried_in g id).answer

  pub admit_numbered : (target : List ℕ) → Numbered Err (admitted_in g id target).answer
  admit_numbered target = numbered Err (admitted_in g id target).answer

  pub admit_without_numbered : Numbered Err (admitted_in_without g id).answer
  admit_without_numbered = numbered Err (admitted_in_without g id).answer

  pub end_numbered : Numbered Err (ended_in g id).answer
  end_numbered = numbered Err (ended_in g id).answer

  pub cancel_numbered : Numbered Err (cancelled_in g id).answer
  cancel_numbered = numbered Err (cancelled_in g id).answer

  -- the yes-or-no calls of a group
  pub told_numbered : (told : Queue → Told) → Numbered Err (told_by (got g id).answer (told (got g id).queue))
  told_numbered told = numbered Err (told_by (got g id).answer (told (got g id).queue))

  pub domain_numbered : Numbered Err (domain_in g id)
  domain_numbered = numbered Err (domain_in g id)

  pub accepts_numbered : Numbered Err (accepts_in g id)
  accepts_numbered = numbered Err (accepts_in g id)
