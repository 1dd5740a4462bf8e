-- The check says yes to exactly the sound queues
use Prim.Native.Nat.{ℕ, suc, ◌+◌, ◌≤◌}
use mathlib.Core.Path.{◌≡◌, refl, ap, ◌∙◌}
use mathlib.Core.Logic.{◌⊎◌, inl, inr, ⊎_elim, ◌↔◌}
use mathlib.Core.Bool.{Bool, true, false, not}
use mathlib.Core.List.{List, [], ◌∷◌}
use native.Mathlib.Omega.{arith}
use borrow.Author.Tests.{eq-eqb, ne_eqb, eqb-true}
use lib.Dec.{eqb}
use lib.ListN.{get_or, drop}
use lib.Seq.{get_or-drop}
use Rattle.stage.specs.Phases.{is_settled}
use Rattle.stage.specs.declared.phases.Phase.{Phase}
use Rattle.stage.specs.declared.phases.Phase.TheVariants.{Idle, Pending, Ended, Stopping, Closed}
use Rattle.choice.proofs.Ways.{pass, and_left, and_right, clash}
use Rattle.queue_record.specs.WellFormed.{all_zero, rest_zero, is_selected, ticket_fits, marks_fit, slot_fits, selected_fits, scope_fits, well_formed}
use Rattle.queue_record.specs.declared.record.Kind.{Kind}
use Rattle.queue_record.specs.declared.record.Kind.TheVariants.{Scope, Iterator}
use Rattle.queue_record.specs.declared.record.Queue.{Queue}
use Rattle.queue_record.proofs.Zeros.{rest_at}
use Rattle.queue_record.proofs.Fit.{Fit, fit, fits, ticket_fits_lem, selected_domain, selected_born, selected_before, issued_not_failed, free_no_marks, issued_empty_lem, ready_occupied}
use Rattle.cleanup_queue.specs.SoundQueues.{SoundQueue}
use Rattle.std.specs.Prelude.{Option, Some, None}
use Rattle.queue_record.specs.declared.record.Ticket.{Ticket}

-- ---- places that are 0, one by one
zeros_all : (xs : List ℕ) → ((i : ℕ) → get_or xs i 0 ≡ 0) → all_zero xs ≡ true
zeros_all [] f = refl
zeros_all (x ∷ xs) f = pass _ (eq-eqb x 0 (f 0)) ∙ zeros_all xs (λ i. f (suc i))

at_rest : (c : ℕ) (xs : List ℕ) → ((k : ℕ) → c ≤ k → get_or xs k 0 ≡ 0) → rest_zero c xs ≡ true
at_rest c xs f = zeros_all (drop c xs) (λ i. get_or-drop c xs i 0 ∙ f (c + i) (omega arith))

-- ---- a scope's phase
settled_phase : (p : Phase) → is_settled p ≡ true → (p ≡ Ended) ⊎ (p ≡ Closed)
settled_phase Idle h = clash h refl
settled_phase Pending h = clash h refl
settled_phase Ended h = inl refl
settled_phase Stopping h = clash h refl
settled_phase Closed h = inr refl

scope_parts : (k : Kind) (b : ℕ) (p : Phase) → scope_fits k b p ≡ true → k ≡ Scope → (b ≡ 0) × ((p ≡ Ended) ⊎ (p ≡ Closed))
scope_parts Scope b p h e = (eqb-true b 0 (and_left (eqb b 0) (is_settled p) h), settled_phase p (and_right (eqb b 0) (is_settled p) h))
scope_parts Iterator b p h e = let z : ◌≡◌ {A = ℕ} 0 1 = cc in absurd (omega arith)

parts_scope : (k : Kind) (b : ℕ) (p : Phase) → (k ≡ Scope → (b ≡ 0) × ((p ≡ Ended) ⊎ (p ≡ Closed))) → scope_fits k b p ≡ true
parts_scope Scope b p f = pass _ (eq-eqb b 0 (f refl).0) ∙ ⊎_elim (λ e. ap is_settled e) (λ e. ap is_settled e) (f refl).1
parts_scope Iterator b p f = refl

-- ---- the marks
parts_marks : (selected failed issued : Bool) → (selected ≡ false → (failed ≡ false) × (issued ≡ false)) → (failed ≡ true → issued ≡ true → ⊥) → marks_fit selected failed issued ≡ true
parts_marks true true true f n = absurd (n refl refl)
parts_marks true true false f n = refl
parts_marks true false true f n = refl
parts_marks true false false f n = refl
parts_marks false true i f n = clash {b = true} refl (f refl).0
parts_marks false false true f n = clash {b = true} refl (f refl).1
parts_marks false false false f n = refl

parts_slot : (failed issued : Bool) (n : ℕ) → (issued ≡ true → n ≡ 0) → (failed ≡ false → issued ≡ false → n ≡ 0 → ⊥) → (failed ≡ true → issued ≡ true → ⊥) → slot_fits failed issued n ≡ true
parts_slot true true n e f both = absurd (both refl refl)
parts_slot true false n e f both = refl
parts_slot false true n e f both = pass _ (eq-eqb n 0 (e refl))
parts_slot false false n e f both = ap not (ne_eqb n 0 (f refl refl))

module _ (q : Queue) where
  -- ---- from the check
  well_formed_sound : well_formed q ≡ true → SoundQueue q
  well_formed_sound h =
      let f : Fit q = fit q h in
      record {
        tokens = f.count;
        bindings = f.given.bound;
        unused_slots = λ k l. rest_at q.count q.slots k f.slots l;
        unused_bindings = λ k l. rest_at q.bound q.bindings k f.given.bindings l;
        ticket = λ t e. (selected_domain q t h e, selected_born q t h e, selected_before q t h e);
        unmarked = free_no_marks q h;
        one_mark = λ x i. clash x (issued_not_failed q h i);
        issued_empty = λ t e i. issued_empty_lem q t h e i;
        ready_full = λ t e x i. ready_occupied q t h e i x;
        scope = scope_parts q.kind q.bound q.phase f.scope;
      }

  -- ---- to the check
  module _ (s : SoundQueue q) where
    sound_ticket : (c : Option Ticket) → q.selection ≡ c → ticket_fits q.domain q.count q.next c ≡ true
    sound_ticket None e = refl
    sound_ticket (Some t) e = let p = s.ticket t e in ticket_fits_lem q.domain q.count q.next t p.0 p.1 p.2

    unselected : (c : Option Ticket) → q.selection ≡ c → is_selected c ≡ false → (q.failed ≡ false) × (q.issued ≡ false)
    unselected None e n = s.unmarked e
    unselected (Some t) e n = clash {b = true} refl n

    sound_selected : (c : Option Ticket) → q.selection ≡ c → selected_fits q.failed q.issued q.slots c ≡ true
    sound_selected None e = refl
    sound_selected (Some t) e = parts_slot q.failed q.issued (get_or q.slots t.token 0) (s.issued_empty t e) (s.ready_full t e) s.one_mark

    sound_well_formed : well_formed q ≡ true
    sound_well_formed = fits q (record {
      given = record { bound = s.bindings; bindings = at_rest q.bound q.bindings s.unused_bindings };
      count = s.tokens;
      slots = at_rest q.count q.slots s.unused_slots;
      scope = parts_scope q.kind q.bound q.phase s.scope;
      ticket = sound_ticket q.selection refl;
      marks = parts_marks (is_selected q.selection) q.failed q.issued (unselected q.selection refl) s.one_mark;
      selected = sound_selected q.selection refl;
    })

  pub well_formed_means_lem : (well_formed q ≡ true) ↔ SoundQueue q
  well_formed_means_lem = (well_formed_sound, sound_well_formed)
