-- Every call and every run keeps a well-formed record well formed
use Prim.Native.Nat.{ℕ, ◌+◌, ◌<◌}
use mathlib.Core.Path.{◌≡◌, refl, ap, ◌∙◌}
use mathlib.Core.Bool.{Bool, true, false, not}
use mathlib.Core.List.{List, [], ◌∷◌}
use native.Mathlib.Omega.{arith}
use borrow.Author.Tests.{ltb-true, ltb-false}
use lib.Dec.{eqb, ltb}
use lib.ListN.{length, get_or, set, get_or-eq_default}
use lib.Seq.{get_or-set_same, drop-set-lt, set_out}
use Rattle.stage.specs.Phases.{phase_after, is_settled}
use Rattle.stage.specs.declared.phases.Phase.{Phase}
use Rattle.stage.specs.declared.phases.Phase.TheVariants.{Idle, Pending, Ended, Stopping, Closed}
use Rattle.stage.specs.declared.phases.Event.{Event}
use Rattle.stage.specs.declared.phases.Event.TheVariants.{Admit, Land, End, Cancel}
use Rattle.choice.proofs.Ways.{if_by, pass, and_left, and_right, clash}
use Rattle.queue_record.specs.Record.{with_selection, with_failed, with_phase}
use Rattle.queue_record.specs.WellFormed.{all_zero, rest_zero, is_selected, marks_fit, slot_fits, selected_fits, scope_fits, well_formed}
use Rattle.queue_record.specs.declared.record.Kind.{Kind}
use Rattle.queue_record.specs.declared.record.Kind.TheVariants.{Scope, Iterator}
use Rattle.queue_record.specs.declared.record.Ticket.{Ticket}
use Rattle.queue_record.specs.declared.record.Queue.{Queue}
use Rattle.queue_record.proofs.Zeros.{full_below}
use Rattle.queue_record.proofs.Fit.{Fit, fit, fits, ticket_fits_lem, selected_domain, selected_born, selected_before, failed_not_issued, issued_not_failed}
use Rattle.queue_births.specs.Births.{grown, registered, landed}
use Rattle.queue_decisions.specs.Slots.{no_more}
use Rattle.queue_steps.specs.Attempts.{slot, issued_to, fresh_ticket, popped, took_back, completed, retry_allowed, renewed, again, retried}
use Rattle.queue_births.proofs.Grown.{grown_fits}
use Rattle.queue_stages.specs.Stages.{admitted, ended, cancelled_by}
use Rattle.cleanup_queue.specs.Runs.{Call, register, land, pop, complete, retry, admit, end, cancel, after, after_all}
use Rattle.cleanup_queue.proofs.ByCase.{register_by, land_by, Popping, pop_by, Outside, complete_by, retry_by}
use Rattle.std.specs.Prelude.{Option, Some, None}
use Rattle.queue_record.specs.declared.answered.Answered.{Answered}
use Rattle.queue_births.specs.Types.{Registered}
use Rattle.queue_questions.specs.Types.{Told}
use Rattle.queue_stages.specs.Types.{Cancelled}
use Rattle.queue_steps.specs.Types.{Completed, Popped, Retried}

-- ---- slots
-- a store below the count leaves the places past it
rest_kept : (q : Queue) (k n : ℕ) → Fit q → k < q.count → rest_zero q.count (set q.slots k n) ≡ true
rest_kept q k n f h = ap all_zero (drop-set-lt q.count q.slots k n h) ∙ f.slots

-- an emptied slot is empty
emptied_slot : (l : List ℕ) (i : ℕ) → get_or (set l i 0) i 0 ≡ 0
emptied_slot l i = go (ltb i (length l)) refl
  where
    go : (b : Bool) → ltb i (length l) ≡ b → get_or (set l i 0) i 0 ≡ 0
    go true e = get_or-set_same l i 0 0 (ltb-true _ _ e)
    go false e = ap (λ (m : List ℕ). get_or m i 0) (set_out l i 0 (ltb-false i (length l) e)) ∙ get_or-eq_default l 0 (ltb-false i (length l) e)

-- ---- register
pub register_keeps : (q : Queue) (n : ℕ) → well_formed q ≡ true → well_formed (registered q n).queue ≡ true
register_keeps q n h = register_by (λ (r : Answered Registered). well_formed r.queue ≡ true) q n (λ _. h) (λ w z k. grown_fits q n w k)

-- ---- the stage
-- a settled stage stays settled, so a scope's phase stays Ended or Closed
stays_settled : (p : Phase) (e : Event) → is_settled p ≡ true → is_settled (phase_after p e) ≡ true
stays_settled Ended Admit h = refl
stays_settled Ended Land h = refl
stays_settled Ended End h = refl
stays_settled Ended Cancel h = refl
stays_settled Closed Admit h = refl
stays_settled Closed Land h = refl
stays_settled Closed End h = refl
stays_settled Closed Cancel h = refl
stays_settled Idle e h = clash h refl
stays_settled Pending e h = clash h refl
stays_settled Stopping e h = clash h refl

scope_moves : (k : Kind) (b : ℕ) (p : Phase) (e : Event) → scope_fits k b p ≡ true → scope_fits k b (phase_after p e) ≡ true
scope_moves Iterator b p e h = refl
scope_moves Scope b p e h = pass _ (and_left (eqb b 0) (is_settled p) h) ∙ stays_settled p e (and_right (eqb b 0) (is_settled p) h)

phase_fits : (q : Queue) (p : Phase) → Fit q → scope_fits q.kind q.bound p ≡ true → well_formed (with_phase q p) ≡ true
phase_fits q p f s = fits (with_phase q p) (record { given = f.given; count = f.count; slots = f.slots; scope = s; ticket = f.ticket; marks = f.marks; selected = f.selected })

moved_fits : (q : Queue) (e : Event) → well_formed q ≡ true → well_formed (with_phase q (phase_after q.phase e)) ≡ true
moved_fits q e h = phase_fits q (phase_after q.phase e) (fit q h) (scope_moves q.kind q.bound q.phase e (fit q h).scope)

pub land_keeps : (q : Queue) (n : ℕ) → well_formed q ≡ true → well_formed (landed q n).queue ≡ true
land_keeps q n h = land_by (λ (r : Answered Registered). well_formed r.queue ≡ true) q n (λ _. h) (λ w z p k. moved_fits (grown q n) Land (grown_fits q n w k))

pub admit_keeps : (q : Queue) (matched : Bool) → well_formed q ≡ true → well_formed (admitted q matched).queue ≡ true
unfolding admitted
admit_keeps q matched h =
    if_by (λ (r : Answered Told). well_formed r.queue ≡ true) (not (well_formed q)) _ _ (λ _. h)
    (λ _. if_by (λ (p : Phase). well_formed (with_phase q p) ≡ true) matched _ _ (λ _. moved_fits q Admit h) (λ _. h))

pub end_keeps : (q : Queue) → well_formed q ≡ true → well_formed (ended q).queue ≡ true
unfolding ended
end_keeps q h = if_by (λ (r : Answered Told). well_formed r.queue ≡ true) (not (well_formed q)) _ _ (λ _. h) (λ _. moved_fits q End h)

pub cancel_keeps : (q : Queue) → well_formed q ≡ true → well_formed (cancelled_by q).queue ≡ true
unfolding cancelled_by
cancel_keeps q h = if_by (λ (r : Answered Cancelled). well_formed r.queue ≡ true) (not (well_formed q)) _ _ (λ _. h) (λ _. moved_fits q Cancel h)

-- ---- pop
module _ (q : Queue) where
  issued_fits : (t : Ticket) (next : ℕ) → Popping q → t.domain ≡ q.domain → t.token < q.count → t.attempt < next → well_formed (issued_to q t next) ≡ true
  issued_fits t next p d k a =
      let f : Fit q = fit q p.sound in
      fits (issued_to q t next) (record {
        given = f.given;
        count = f.count;
        slots = rest_kept q t.token 0 f k;
        scope = f.scope;
        ticket = ticket_fits_lem q.domain q.count next t d k a;
        marks = ap (λ (b : Bool). marks_fit true b true) p.failed;
        selected = ap (λ (n : ℕ). slot_fits q.failed true n) (emptied_slot q.slots t.token) ∙ ap (λ (b : Bool). slot_fits b true 0) p.failed;
      })

  pub pop_keeps : well_formed q ≡ true → well_formed (popped q).queue ≡ true
  pop_keeps h =
      pop_by (λ (r : Answered Popped). well_formed r.queue ≡ true) q (λ _ _. h) h
      (λ p e token n full room. issued_fits (fresh_ticket q token) (q.next + 1) p refl (full_below q.count q.slots token (fit q h).slots full) (omega arith))
      (λ p t e full. issued_fits t q.next p (selected_domain q t h e) (selected_born q t h e) (selected_before q t h e))

-- ---- complete
module _ (q : Queue) (t : Ticket) (o : Outside q t) where
  abbrev f : Fit q
  f = fit q o.sound

  token_born : t.token < q.count
  token_born = selected_born q t o.sound o.selected

  done_fits : (kept : ℕ) → well_formed (with_selection (took_back q t.token kept) None) ≡ true
  done_fits kept = fits (with_selection (took_back q t.token kept) None) (record {
    given = f.given;
    count = f.count;
    slots = rest_kept q t.token kept f token_born;
    scope = f.scope;
    ticket = refl;
    marks = ap (λ (b : Bool). marks_fit false b false) (issued_not_failed q o.sound o.issued);
    selected = refl;
  })

  failed_fits : (kept : ℕ) → well_formed (with_failed (took_back q t.token kept) true) ≡ true
  failed_fits kept = fits (with_failed (took_back q t.token kept) true) (record {
    given = f.given;
    count = f.count;
    slots = rest_kept q t.token kept f token_born;
    scope = f.scope;
    ticket = f.ticket;
    marks = ap (λ (s : Option Ticket). marks_fit (is_selected s) true false) o.selected;
    selected = ap (selected_fits true false (set q.slots t.token kept)) o.selected;
  })

pub complete_keeps : (q : Queue) (t : Ticket) (outcome kept : ℕ) → well_formed q ≡ true → well_formed (completed q t outcome kept).queue ≡ true
complete_keeps q t outcome kept h =
    complete_by (λ (r : Answered Completed). well_formed r.queue ≡ true) q t outcome kept (λ _. h)
    (λ o _ _. if_by (λ (p : Queue). well_formed p ≡ true) (eqb outcome 0) _ _ (λ _. done_fits q t o kept) (λ _. failed_fits q t o kept))

-- ---- retry
module _ (q : Queue) (h : well_formed q ≡ true) (t : Ticket) (e : q.selection ≡ Some t) (a : retry_allowed q (Some t) ≡ true) where
  was_failed : q.failed ≡ true
  was_failed = and_left q.failed _ a

  still_full : not (eqb (slot q t.token) 0) ≡ true
  still_full = and_left (not (eqb (slot q t.token) 0)) (ltb q.next no_more) (and_right q.failed _ a)

  not_out_lem : q.issued ≡ false
  not_out_lem = failed_not_issued q h was_failed

  again_fits : well_formed (again q (renewed q t)).queue ≡ true
  again_fits =
      let f : Fit q = fit q h in
      fits (again q (renewed q t)).queue (record {
        given = f.given;
        count = f.count;
        slots = f.slots;
        scope = f.scope;
        ticket = ticket_fits_lem q.domain q.count (q.next + 1) (renewed q t) (selected_domain q t h e) (selected_born q t h e) (omega arith);
        marks = ap (λ (b : Bool). marks_fit true false b) not_out_lem;
        selected = ap (λ (b : Bool). slot_fits false b (slot q t.token)) not_out_lem ∙ still_full;
      })

pub retry_keeps : (q : Queue) → well_formed q ≡ true → well_formed (retried q).queue ≡ true
retry_keeps q h = retry_by (λ (r : Answered Retried). well_formed r.queue ≡ true) q (λ _. h) (λ w t e a. again_fits q h t e a)

-- ---- all calls, and runs
pub call_keeps : (q : Queue) (c : Call) → well_formed q ≡ true → well_formed (after q c) ≡ true
call_keeps q (register n) h = register_keeps q n h
call_keeps q (land n) h = land_keeps q n h
call_keeps q pop h = pop_keeps q h
call_keeps q (complete t o k) h = complete_keeps q t o k h
call_keeps q retry h = retry_keeps q h
call_keeps q (admit m) h = admit_keeps q m h
call_keeps q end h = end_keeps q h
call_keeps q cancel h = cancel_keeps q h

pub run_keeps : (q : Queue) (cs : List Call) → well_formed q ≡ true → well_formed (after_all q cs) ≡ true
run_keeps q [] h = h
run_keeps q (c ∷ cs) h = run_keeps (after q c) cs (call_keeps q c h)
