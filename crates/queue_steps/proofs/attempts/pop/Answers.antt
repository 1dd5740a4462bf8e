-- Refused, or what is due is handed out
use Rattle.std.proofs.Common.{rules, ◌≡◌, ℕ, ◌<◌, length, true}
use mathlib.Core.Path.{sym, ap, ◌∙◌}
use native.Mathlib.Omega.{arith}
use lib.ListN.{take}
use lib.Seq.{length-take-le}
use Rattle.choice.proofs.Ways.{miss}
use Rattle.queue_record.specs.declared.record.Queue.{Queue}
use Rattle.queue_record.specs.declared.record.Ticket.{Ticket}
use Rattle.queue_record.specs.WellFormed.{well_formed}
use Rattle.queue_record.proofs.Fit.{fit, tokens_within, selected_below}
use Rattle.queue_decisions.specs.Pops.{sought, number_due, pop_due}
use Rattle.queue_decisions.proofs.PopLaws.{sought_issued, due_below}
use Rattle.queue_decisions.specs.Types.{Due}
use Rattle.queue_steps.specs.Attempts.{due_found, due_in, popped_as, popped}
use Rattle.std.specs.Prelude.{Option, Some, None, Ok, Err, not}
use Rattle.queue_steps.proofs.attempts.pop.Goals.{In-Ok-Some, In-Ok-None, In-Err}
use Rattle.queue_steps.proofs.attempts.pop.Goals as goal

module _ (q : Queue) (well : well_formed q ≡ true) where
  -- the tokens' slots are all that the search needs: what is decided by them is what is due
  decided : {f : Option ℕ} {n : ℕ} {d : Due} → f ≡ sought q.selection (take q.count q.slots) → n ≡ number_due q.selection f q.slots
      → d ≡ pop_due q.issued q.failed q.selection f n q.domain q.next → d ≡ due_in q
  decided {f} {n} {d} found number due =
      due ∙ (ap (λ m. pop_due q.issued q.failed q.selection f m q.domain q.next) number
      ∙ ap (due_found q) (found ∙ sought_issued q.selection q.count q.slots (fit q well).slots))

  handed_by : {d : Due} → due_in q ≡ d → popped q ≡ popped_as q d
  unfolding popped
  handed_by e = miss _ (ap not well) ∙ ap (popped_as q) e

  -- the ticket that is due names one of the 64 slots
  in_place : {t : Ticket} {n k : ℕ} → length q.slots ≡ 64 → due_in q ≡ Ok (Some (t, n, k)) → t.token < 64
  in_place {t} {n} {k} l e =
      let b : t.token < length q.slots =
      due_below q.slots _ q.domain q.next t n k q.selection
      (λ s o. let j : s.token < 64 = selected_below q s well o in omega arith) q.issued q.failed e in omega arith

due_some : (c : In-Ok-Some) → due_in c.args.q ≡ Ok (Some (c.in-Ok-Some.ticket, c.in-Ok-Some.number, c.in-Ok-Some.next))
due_some c =
    let told : c.in-Ok-Some.field-0 ≡ Some (c.in-Ok-Some.ticket, c.in-Ok-Some.number, c.in-Ok-Some.next) = search rules in
    sym (decided c.args.q (sym c.well_formed-2.ensures ∙ c.if-not-well_formed.false) c.seek-found.ensures c.number_due-number.ensures c.pop_due.ensures)
    ∙ (c.in-Ok-Some.is ∙ ap Ok told)

due_none : (c : In-Ok-None) → due_in c.args.q ≡ Ok None
due_none c =
    let told : c.in-Ok-None.field-0 ≡ None = search rules in
    sym (decided c.args.q (sym c.well_formed-2.ensures ∙ c.if-not-well_formed.false) c.seek-found.ensures c.number_due-number.ensures c.pop_due.ensures)
    ∙ (c.in-Ok-None.is ∙ ap Ok told)

due_refused : (c : In-Err) → due_in c.args.q ≡ Err c.in-Err.refusal
due_refused c =
    sym (decided c.args.q (sym c.well_formed-2.ensures ∙ c.if-not-well_formed.false) c.seek-found.ensures c.number_due-number.ensures c.pop_due.ensures)
    ∙ c.in-Err.is

pub returns-then-not-well_formed : goal.returns-then-not-well_formed
unfolding popped
returns-then-not-well_formed c = search rules

pub slice_bounds-slots-end : goal.slice_bounds-slots-end
slice_bounds-slots-end c = tokens_within c.args.q (sym c.well_formed-2.ensures ∙ c.if-not-well_formed.false) (search rules)

pub slice_bounds-seek-end : goal.slice_bounds-seek-end
slice_bounds-seek-end c =
    sym (length-take-le c.args.q.count c.args.q.slots (tokens_within c.args.q (sym c.well_formed-2.ensures ∙ c.if-not-well_formed.false) (search rules)))

pub hand_out-requires : goal.hand_out-requires
hand_out-requires c = in_place c.args.q (sym c.well_formed-2.ensures ∙ c.if-not-well_formed.false) (search rules) (due_some c)

pub returns-in-Ok-None : goal.returns-in-Ok-None
returns-in-Ok-None c = c.pop_nothing.ensures ∙ sym (handed_by c.args.q (sym c.well_formed-2.ensures ∙ c.if-not-well_formed.false) (due_none c.before))

pub returns-in-Ok-Some : goal.returns-in-Ok-Some
returns-in-Ok-Some c = c.hand_out.ensures ∙ sym (handed_by c.args.q (sym c.well_formed-2.ensures ∙ c.if-not-well_formed.false) (due_some c.before))

pub returns-in-Err : goal.returns-in-Err
returns-in-Err c = c.pop_refused-in-Err.ensures ∙ sym (handed_by c.args.q (sym c.well_formed-2.ensures ∙ c.if-not-well_formed.false) (due_refused c.before))
