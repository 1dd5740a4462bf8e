-- The marked cases, computed: every row of the table agrees
use Prim.Native.Nat.{ℕ, zero, suc, ◌+◌, ◌<◌, ◌≤◌}
use mathlib.Core.Path.{◌≡◌, refl, ap, ◌∙◌}
use mathlib.Core.Bool.{Bool, true, false, not}
use mathlib.Core.List.{List, [], ◌∷◌}
use native.Mathlib.Omega.{arith}
use native.Mathlib.Numerals.{add-one}
use borrow.Author.Tests.{lt-leb, le-leb}
use Rattle.stage.specs.Bindings.{same_set}
use Rattle.stage.specs.declared.phases.Phase.TheVariants.{Ended}
use Rattle.choice.proofs.Ways.{hit, miss}
use Rattle.queue_decisions.specs.Births.{register_refusal, land_refusal}
use Rattle.queue_decisions.specs.Pops.{pop_due}
use Rattle.queue_decisions.specs.Answers.{complete_refusal}
use Rattle.queue_decisions.specs.Renewals.{retry_due}
use Rattle.queue_record.specs.Record.{with_slot, with_count, with_selection, with_failed, with_issued}
use Rattle.queue_record.specs.WellFormed.{well_formed}
use Rattle.queue_record.specs.Newest.{newest}
use Rattle.queue_record.specs.Openings.{opened, scope_of, iterator_of, iterator_opened}
use Rattle.queue_record.specs.declared.record.Kind.TheVariants.{Scope}
use Rattle.queue_record.specs.declared.record.Ticket.{Ticket}
use Rattle.queue_record.specs.declared.record.Queue.{Queue}
use Rattle.queue_record.proofs.OpenedLaws.{scope_well_formed}
use Rattle.queue_births.specs.Births.{born, grown, born_by, registered, landed}
use Rattle.queue_steps.specs.Attempts.{popped, completed, retried}
use Rattle.queue_stages.specs.Stages.{admitted}
use Rattle.cleanup_queue.specs.Answers.{Said, says, registered_says, popped_says, completed_says, retried_says}
use Rattle.cleanup_queue.specs.Marked.{new_scope, two, out, failed, out_again, last, last_out, spent, registers, table, definition_says, paper_says}
use Rattle.cleanup_queue.proofs.Keeps.{register_keeps}
use Rattle.std.specs.Prelude.{Option, Some, None}
use Rattle.queue_record.specs.declared.answered.Answered.{Answered}
use Rattle.queue_births.specs.Types.{Registered}

-- ---- the scope of W2 to W9 at each step, written out, so that each case computes from the one before
abbrev ticket : ℕ → ℕ → Ticket
ticket token attempt = record { domain = 0; token = token; attempt = attempt }

abbrev at : ℕ → ℕ → ℕ → Option Ticket → Bool → Bool → Queue
at next first second s failed issued = with_issued (with_failed (with_selection (with_count (with_slot (with_slot (opened Scope Ended 0 next []) 0 first) 1 second) 2) s) failed) issued

two_is : two ≡ at 0 71 72 None false false
unfolding well_formed scope_of registered register_refusal
two_is = refl

out_is : out ≡ at 1 71 0 (Some (ticket 1 0)) false true
unfolding well_formed newest popped pop_due
out_is = ap (λ (q : Queue). (popped q).queue) two_is

failed_is : failed ≡ at 1 71 72 (Some (ticket 1 0)) true false
unfolding well_formed completed complete_refusal
failed_is = ap (λ (q : Queue). (completed q (ticket 1 0) 1 72).queue) out_is

renewed_is : (retried failed).queue ≡ at 2 71 72 (Some (ticket 1 1)) false false
unfolding well_formed retried retry_due
renewed_is = ap (λ (q : Queue). (retried q).queue) failed_is

out_again_is : out_again ≡ at 2 71 0 (Some (ticket 1 1)) false true
unfolding well_formed popped pop_due
out_again_is = ap (λ (q : Queue). (popped q).queue) renewed_is

last_is : last ≡ at 2 71 0 None false false
unfolding well_formed completed complete_refusal
last_is = ap (λ (q : Queue). (completed q (ticket 1 1) 0 0).queue) out_again_is

last_out_is : last_out ≡ at 3 0 0 (Some (ticket 0 2)) false true
unfolding well_formed newest popped pop_due
last_out_is = ap (λ (q : Queue). (popped q).queue) last_is

spent_is : spent ≡ at 3 0 0 (Some (ticket 0 2)) true false
unfolding well_formed completed complete_refusal
spent_is = ap (λ (q : Queue). (completed q (ticket 0 2) 1 0).queue) last_out_is

-- ---- what each call answers there
w1 : popped_says (popped new_scope).answer ≡ says 0 []
unfolding well_formed newest scope_of popped pop_due
w1 = refl

w2 : popped_says (popped two).answer ≡ says 0 (0 ∷ 1 ∷ 0 ∷ 72 ∷ [])
unfolding well_formed newest popped pop_due
w2 = ap (λ (q : Queue). popped_says (popped q).answer) two_is

w3 : popped_says (popped out).answer ≡ says 0 []
unfolding well_formed popped pop_due
w3 = ap (λ (q : Queue). popped_says (popped q).answer) out_is

w4_failed : completed_says (completed out (ticket 1 0) 1 72).answer ≡ says 0 []
unfolding well_formed completed complete_refusal
w4_failed = ap (λ (q : Queue). completed_says (completed q (ticket 1 0) 1 72).answer) out_is

w4_pop : popped_says (popped failed).answer ≡ says 0 []
unfolding well_formed popped pop_due
w4_pop = ap (λ (q : Queue). popped_says (popped q).answer) failed_is

w5_retry : retried_says (retried failed).answer ≡ says 0 (0 ∷ 1 ∷ 1 ∷ [])
unfolding well_formed retried retry_due
w5_retry = ap (λ (q : Queue). retried_says (retried q).answer) failed_is

w5_pop : popped_says (popped (retried failed).queue).answer ≡ says 0 (0 ∷ 1 ∷ 1 ∷ 72 ∷ [])
unfolding well_formed popped pop_due
w5_pop = ap (λ (q : Queue). popped_says (popped q).answer) renewed_is

w6 : completed_says (completed out_again (ticket 1 0) 0 0).answer ≡ says 6 (0 ∷ [])
unfolding well_formed completed complete_refusal
w6 = ap (λ (q : Queue). completed_says (completed q (ticket 1 0) 0 0).answer) out_again_is

w7 : completed_says (completed out_again (ticket 1 1) 0 72).answer ≡ says 7 (72 ∷ [])
unfolding well_formed completed complete_refusal
w7 = ap (λ (q : Queue). completed_says (completed q (ticket 1 1) 0 72).answer) out_again_is

w8_done : completed_says (completed out_again (ticket 1 1) 0 0).answer ≡ says 0 []
unfolding well_formed completed complete_refusal
w8_done = ap (λ (q : Queue). completed_says (completed q (ticket 1 1) 0 0).answer) out_again_is

w8_pop : popped_says (popped last).answer ≡ says 0 (0 ∷ 0 ∷ 2 ∷ 71 ∷ [])
unfolding well_formed newest popped pop_due
w8_pop = ap (λ (q : Queue). popped_says (popped q).answer) last_is

w9_failed : completed_says (completed last_out (ticket 0 2) 1 0).answer ≡ says 0 []
unfolding well_formed completed complete_refusal
w9_failed = ap (λ (q : Queue). completed_says (completed q (ticket 0 2) 1 0).answer) last_out_is

w9_retry : retried_says (retried spent).answer ≡ says 20 []
unfolding well_formed retried retry_due
w9_retry = ap (λ (q : Queue). retried_says (retried q).answer) spent_is

w9_pop : popped_says (popped spent).answer ≡ says 0 []
unfolding well_formed popped pop_due
w9_pop = ap (λ (q : Queue). popped_says (popped q).answer) spent_is

-- ---- W12: registers count up to 64
opened_count : (registers 0).count ≡ 0
unfolding scope_of
opened_count = refl

abbrev Counted : ℕ → Type 0
Counted n = ((registers n).count ≡ n) × (well_formed (registers n) ≡ true)

taken : (n : ℕ) → n < 64 → Counted n → registered (registers n) 5 ≡ born (registers n) (grown (registers n) 5)
unfolding registered register_refusal
taken n l h = let e : (registers n).count ≡ n = h.0 in miss _ (ap not h.1) ∙ ap (born_by (registers n) 5 (grown (registers n) 5)) (miss _ (lt-leb 64 (registers n).count (omega arith)))

counted : (n : ℕ) → n ≤ 64 → Counted n
counted zero l = (opened_count, scope_well_formed 0 0)
counted (suc n) l =
    let h : Counted n = counted n (omega arith) in
    (ap (λ (r : Answered Registered). r.queue.count) (taken n l h) ∙ (ap (λ (k : ℕ). k + 1) h.0 ∙ add-one n), register_keeps (registers n) 5 h.1)

w12_last : registered_says (registered (registers 63) 6).answer ≡ says 0 (63 ∷ [])
unfolding registered register_refusal
w12_last =
    let h = counted 63 (omega arith) in
    let e : (registers 63).count ≡ 63 = h.0 in
    ap (λ (r : Answered Registered). registered_says r.answer) (miss _ (ap not h.1)
    ∙ ap (born_by (registers 63) 6 (grown (registers 63) 6)) (miss _ (lt-leb 64 (registers 63).count (omega arith))))
    ∙ ap (λ (k : ℕ). says 0 (k ∷ [])) e

w12_full : registered_says (registered (registers 64) 6).answer ≡ says 3 (6 ∷ [])
unfolding registered register_refusal
w12_full =
    let h = counted 64 (omega arith) in
    let e : (registers 64).count ≡ 64 = h.0 in
    ap (λ (r : Answered Registered). registered_says r.answer) (miss _ (ap not h.1) ∙ ap (born_by (registers 64) 6 (grown (registers 64) 6)) (hit _ (le-leb 64 (registers 64).count (omega arith))))

-- ---- the statement
rows : {x y : Said} {xs ys : List Said} → x ≡ y → xs ≡ ys → x ∷ xs ≡ y ∷ ys
rows e f = rw (e, f)

pub marked_cases_lem : definition_says table ≡ paper_says table
unfolding same_set well_formed newest scope_of iterator_of iterator_opened registered register_refusal landed land_refusal popped pop_due completed complete_refusal retried retry_due admitted
marked_cases_lem =
    rows w1 (rows w2 (rows w3
    (rows w4_failed (rows w4_pop
    (rows w5_retry (rows w5_pop
    (rows w6 (rows w7 (rows w8_done
    (rows w8_pop (rows w9_failed
    (rows w9_retry (rows w9_pop (rows refl (rows refl (rows refl (rows refl (rows refl (rows refl (rows refl (rows w12_last (rows w12_full refl))))))))))))))))))))))
