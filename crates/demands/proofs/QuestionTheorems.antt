-- What each question says, and that none is refused with 0
use Prim.Native.Nat.{ℕ}
use mathlib.Core.Path.{◌≡◌, ap}
use mathlib.Core.Bool.{true, false}
use mathlib.Core.List.{[], ◌∷◌}
use native.Mathlib.Omega.{arith}
use lib.ListN.{length}
use Rattle.queue_record.specs.Refusals.{done}
use Rattle.queue_record.proofs.Above.{refusal_above}
use Rattle.queue_record.specs.declared.record.Queue.{Queue}
use Rattle.cleanup_queue.specs.Answers.{Said, says, told_says, domain_says}
use Rattle.cleanup_queue.specs.Orders.{first_said, broken_only}
use Rattle.cleanup_queue.proofs.Said.{questions_said, domain_said_lem}
use Rattle.group_record.specs.declared.record.Groups.{Groups}
use Rattle.group_questions.specs.ById.{accepts_in}
use Rattle.group_survey.specs.Whole.{len_of}
use Rattle.cleanup_groups.specs.Answers.{len_says}
use Rattle.demands.specs.CallTables.{told_to, meant_by, told_by_id, QueueQuestion, asks_empty, asks_issued}
use Rattle.demands.specs.CallTables.{asks_pending, asks_settled, asks_cancelled, asks_failed, asks_retry, asks_finish, asks_domain}
use Rattle.demands.specs.CallTables.{RecordQuestion, record_told}
use Rattle.std.specs.Prelude.{Ok, Err}
use Rattle.group_survey.specs.Types.{LenTold}
use Rattle.queue_questions.specs.Types.{DomainTold, Told}

-- ---- a queue's
pub asks_say_lem : (q : Queue) (a : QueueQuestion) → told_to q a ≡ first_said (broken_only q) [] (meant_by q a ∷ [])
asks_say_lem q asks_empty = (questions_said q []).0
asks_say_lem q asks_issued = (questions_said q []).1
asks_say_lem q asks_pending = (questions_said q []).2
asks_say_lem q asks_settled = (questions_said q []).3
asks_say_lem q asks_cancelled = (questions_said q []).4
asks_say_lem q asks_failed = (questions_said q []).5
asks_say_lem q asks_retry = (questions_said q []).6
asks_say_lem q (asks_finish target) = (questions_said q target).7
asks_say_lem q asks_domain = domain_said_lem q

-- ---- an answer with 0 has a value, and a refusal's number is not 0
told_valued : (r : Told) → told_says r ≡ says done [] → ⊥
told_valued (Ok true) e = let a : ◌≡◌ {A = ℕ} 1 0 = ap (λ (s : Said). length s.values) e in omega arith
told_valued (Ok false) e = let a : ◌≡◌ {A = ℕ} 1 0 = ap (λ (s : Said). length s.values) e in omega arith
told_valued (Err r) e = refusal_above r (ap (λ (s : Said). s.number) e)

domain_valued : (r : DomainTold) → domain_says r ≡ says done [] → ⊥
domain_valued (Ok d) e = let a : ◌≡◌ {A = ℕ} 1 0 = ap (λ (s : Said). length s.values) e in omega arith
domain_valued (Err r) e = refusal_above r (ap (λ (s : Said). s.number) e)

len_valued : (r : LenTold) → len_says r ≡ says done [] → ⊥
len_valued (Ok n) e = let a : ◌≡◌ {A = ℕ} 1 0 = ap (λ (s : Said). length s.values) e in omega arith
len_valued (Err r) e = refusal_above r (ap (λ (s : Said). s.number) e)

pub asked_valued : (q : Queue) (a : QueueQuestion) → told_to q a ≡ says done [] → ⊥
asked_valued q asks_empty = told_valued _
asked_valued q asks_issued = told_valued _
asked_valued q asks_pending = told_valued _
asked_valued q asks_settled = told_valued _
asked_valued q asks_cancelled = told_valued _
asked_valued q asks_failed = told_valued _
asked_valued q asks_retry = told_valued _
asked_valued q (asks_finish target) = told_valued _
asked_valued q asks_domain = domain_valued _

-- ---- the groups'
module _ (g : Groups) where
  pub asked_valued_by_id : (id : ℕ) (a : QueueQuestion) → told_by_id g id a ≡ says done [] → ⊥
  asked_valued_by_id id asks_empty = told_valued _
  asked_valued_by_id id asks_issued = told_valued _
  asked_valued_by_id id asks_pending = told_valued _
  asked_valued_by_id id asks_settled = told_valued _
  asked_valued_by_id id asks_cancelled = told_valued _
  asked_valued_by_id id asks_failed = told_valued _
  asked_valued_by_id id asks_retry = told_valued _
  asked_valued_by_id id (asks_finish target) = told_valued _
  asked_valued_by_id id asks_domain = domain_valued _

  pub accepts_valued : (id : ℕ) → told_says (accepts_in g id) ≡ says done [] → ⊥
  accepts_valued id = told_valued (accepts_in g id)

  pub record_valued : (a : RecordQuestion) → told_says (record_told g a) ≡ says done [] → ⊥
  record_valued a = told_valued (record_told g a)

  pub len_tells_lem : len_says (len_of g) ≡ says done [] → ⊥
  len_tells_lem = len_valued (len_of g)
