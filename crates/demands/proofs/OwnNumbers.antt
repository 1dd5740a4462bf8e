-- A refusal's number is its own, and what is said of it by its number
use Prim.Native.Nat.{ℕ}
use mathlib.Core.Path.{◌≡◌, refl, sym, ap, ◌∙◌}
use mathlib.Core.List.{List, [], ◌∷◌}
use lib.ListN.{get_or}
use Rattle.std.specs.Prelude.{Option, Some, None, Err}
use Rattle.queue_record.specs.Refusals.{done, hollow, refusal_number, result_number}
use Rattle.queue_record.specs.declared.refusal.Refusal.{Refusal}
use Rattle.queue_record.specs.declared.refusal.Refusal.TheVariants.{Broken, BadNumber, NoSlot, NotPending, NoAttempt, NotOut, KeptOnDone}
use Rattle.queue_record.specs.declared.refusal.Refusal.TheVariants.{NoRetry, Hollow, NoGroup, GroupsFull, Sealed, NotDrained, TooManyBindings}
use Rattle.queue_record.specs.declared.refusal.Refusal.TheVariants.{BadOutcome, BadLog, LogFull, BadText, NoId, NothingKept, NoFurtherAttempt}
use Rattle.queue_record.specs.declared.record.Queue.{Queue}
use Rattle.queue_steps.specs.Attempts.{popped}
use Rattle.queue_record.specs.Openings.{Opening, blank}
use Rattle.queue_record.specs.declared.answered.Answered.{Answered}
use Rattle.cleanup_queue.specs.Orders.{first_refusal, first_due, opening_order}
use Rattle.queue_record.proofs.Above.{refusal_above}
use Rattle.cleanup_queue.proofs.HandsOut.{pop_never_hollow}
use Rattle.cleanup_queue.proofs.Numbers.{refusal_due}
use Rattle.log_reader.specs.Reader.{ReadsAs, reading}
use Rattle.log_reader.specs.Types.{Read}
use Rattle.cleanup_log.proofs.ReaderNumbers.{reader_blank}

-- the refusals in the order of their numbers, from 1 on
abbrev in_order : List Refusal
in_order =
    Broken ∷ Broken ∷ BadNumber ∷ NoSlot ∷ NotPending ∷ NoAttempt ∷ NotOut ∷ KeptOnDone ∷ NoRetry ∷ Hollow ∷ NoGroup ∷
    GroupsFull ∷ Sealed ∷ NotDrained ∷ TooManyBindings ∷ BadOutcome ∷ BadLog ∷ LogFull ∷ BadText ∷ NoId ∷ NothingKept ∷ NoFurtherAttempt ∷ []

abbrev of_number : ℕ → Refusal
of_number n = get_or in_order n Broken

number_back : (r : Refusal) → of_number (refusal_number r) ≡ r
number_back Broken = refl
number_back BadNumber = refl
number_back NoSlot = refl
number_back NotPending = refl
number_back NoAttempt = refl
number_back NotOut = refl
number_back KeptOnDone = refl
number_back NoRetry = refl
number_back Hollow = refl
number_back NoGroup = refl
number_back GroupsFull = refl
number_back Sealed = refl
number_back NotDrained = refl
number_back TooManyBindings = refl
number_back BadOutcome = refl
number_back BadLog = refl
number_back LogFull = refl
number_back BadText = refl
number_back NoId = refl
number_back NothingKept = refl
number_back NoFurtherAttempt = refl

pub own_number_lem : (r s : Refusal) → refusal_number r ≡ refusal_number s → r ≡ s
own_number_lem r s e = sym (number_back r) ∙ (ap of_number e ∙ number_back s)

pub never_9 : (q : Queue) (refusal : Refusal) → (popped q).answer ≡ Err refusal → refusal_number refusal ≡ hollow → ⊥
never_9 q refusal e n = pop_never_hollow q (e ∙ ap Err (own_number_lem refusal Hollow n))

-- nothing refuses exactly where the number is 0
pub unrefused : (o : Option Refusal) → result_number o ≡ done → o ≡ None
unrefused None e = refl
unrefused (Some r) e = absurd (refusal_above r e)

-- the reader's answer where the opening is refused
pub blank_read_lem : (o : Opening) (log : List ℕ) (r : Answered Read) → ReadsAs o log r → (first_due (opening_order o) ≡ done → ⊥)
    → (refusal : Refusal) × (refusal_number refusal ≡ first_due (opening_order o)) × (r ≡ reading (Err (refusal, 0)) blank)
blank_read_lem o log r a z = by (first_refusal (opening_order o)) refl
  where
    by : (x : Option Refusal) → first_refusal (opening_order o) ≡ x → (refusal : Refusal) × (refusal_number refusal ≡ first_due (opening_order o)) × (r ≡ reading (Err (refusal, 0)) blank)
    by None e = absurd (z (refusal_due (opening_order o) ∙ ap result_number e))
    by (Some refusal) e = (refusal, sym (refusal_due (opening_order o) ∙ ap result_number e), reader_blank o log r a refusal e)
