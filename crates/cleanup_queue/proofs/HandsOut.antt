-- R41 to R47: when pop hands out work, and what
use Prim.Native.Nat.{ℕ, ◌+◌}
use mathlib.Core.Path.{◌≡◌, refl, sym, ap, ◌∙◌}
use mathlib.Core.Logic.{inl, inr}
use mathlib.Core.Bool.{Bool, true, false, not, ◌&&◌, ◌||◌}
use mathlib.Core.List.{List, [], ◌∷◌, ◌++◌}
use native.Mathlib.Omega.{arith}
use borrow.Author.Tests.{ne_eqb, lt-ltb, le-ltb, leb-true, leb-false}
use lib.Dec.{leb, ltb}
use Rattle.choice.specs.Choice.{when◌then◌else◌}
use Rattle.choice.proofs.Ways.{miss, pass, stop}
use Rattle.queue_record.specs.declared.refusal.Refusal.TheVariants.{Broken, Hollow, NoAttempt}
use Rattle.queue_record.specs.WellFormed.{well_formed, is_selected}
use Rattle.queue_record.specs.Waiting.{occupied, without, waiting}
use Rattle.queue_record.specs.Newest.{newest}
use Rattle.queue_record.specs.declared.record.Ticket.{Ticket}
use Rattle.queue_record.specs.declared.record.Queue.{Queue}
use Rattle.queue_record.proofs.Fit.{ready_occupied}
use Rattle.queue_record.proofs.Last.{newest_none, newest_last}
use Rattle.queue_decisions.specs.Slots.{no_more}
use Rattle.queue_steps.specs.Attempts.{slot, refused_pop, fresh_ticket, popped_as, popped}
use Rattle.queue_decisions.specs.Pops.{pop_due}
use Rattle.queue_record.proofs.Refused.{is_something}
use Rattle.queue_questions.proofs.Left.{none_left}
use Rattle.cleanup_queue.specs.Promises.{is_none, hands_out, may_hand_out, HandedOut}
use Rattle.cleanup_queue.proofs.ByCase.{all_occupied, chosen_full, fresh_in, unmarked_in, Popping, pop_by, work_parts}
use Rattle.std.specs.Prelude.{Option, Some, None, Ok, Err}
use Rattle.queue_record.specs.declared.answered.Answered.{Answered}
use Rattle.queue_decisions.specs.Types.{Due}
use Rattle.queue_steps.specs.Types.{Popped}

-- ---- exactly when
module _ (q : Queue) where
  -- of a queue that goes past pop's first tests
  abbrev rest : Option Ticket → List ℕ → Bool
  rest s ks = is_selected s || (not (is_none ks) && ltb q.next no_more)

  -- whether what is due is handed out
  abbrev hands : Due → Bool
  hands d = hands_out (popped_as q d).answer

  fresh_hands : q.selection ≡ None → (f : Option ℕ) → newest (waiting q) ≡ f
      → hands_out (popped_as q (fresh_in q f)).answer ≡ (not (is_none (waiting q)) && ltb q.next no_more)
  fresh_hands e None n = sym (stop _ (ap (λ (ks : List ℕ). not (is_none ks)) (newest_none (waiting q) n)))
  fresh_hands e (Some token) n =
      ap hands (miss _ (ne_eqb (slot q token) 0 (chosen_full q e token n)))
      ∙ (room (leb no_more q.next) refl ∙ sym (pass _ (ap not (none_left None (waiting q) refl ∙ is_something n))))
    where
      room : (b : Bool) → leb no_more q.next ≡ b → hands (when b then Err NoAttempt else Ok (Some ((fresh_ticket q token), (slot q token), (q.next + 1)))) ≡ ltb q.next no_more
      room true h = sym (le-ltb q.next no_more (leb-true no_more q.next h))
      room false h = sym (lt-ltb q.next no_more (leb-false no_more q.next h))

  by_hands : Popping q → (s : Option Ticket) → q.selection ≡ s → hands (unmarked_in q s) ≡ rest s (waiting q)
  by_hands p None e = fresh_hands e (newest (occupied 0 q.slots)) (ap newest (all_occupied q e))
  by_hands p (Some t) e = ap hands (miss _ (ne_eqb (slot q t.token) 0 (ready_occupied q t p.sound e p.issued p.failed)))

  pub pop_exactly : hands_out (popped q).answer ≡ may_hand_out q
  unfolding popped pop_due may_hand_out
  pop_exactly = go (well_formed q) refl q.issued refl q.failed refl
    where
      go : (w : Bool) → well_formed q ≡ w → (i : Bool) → q.issued ≡ i → (f : Bool) → q.failed ≡ f
          → hands_out (when not w then refused_pop q Broken
          else popped_as q (when i then Ok None else when f then Ok None
          else unmarked_in q q.selection)).answer
          ≡ (w && (not i && (not f && rest q.selection (waiting q))))
      go false e i h f k = refl
      go true e true h f k = refl
      go true e false h true k = refl
      go true e false h false k = by_hands (record { sound = e; issued = h; failed = k }) q.selection refl

  -- ---- what
  pub pop_hands : (t : Ticket) (number : ℕ) → (popped q).answer ≡ Ok (Some (t, number)) → HandedOut q t number
  pop_hands =
      pop_by (λ (r : Answered Popped). (t : Ticket) (number : ℕ) → r.answer ≡ Ok (Some (t, number)) → HandedOut q t number) q
      (λ m _ t number e. let z : ◌≡◌ {A = ℕ} 0 1 = cc in absurd (omega arith))
      (λ t number e. let z : ◌≡◌ {A = ℕ} 0 1 = cc in absurd (omega arith))
      (λ p e token n full room t number w. fresh e token n full t number (work_parts (fresh_ticket q token) t (slot q token) number w))
      (λ p s e full t number w. ready s e full t number (work_parts s t (slot q s.token) number w))
    where
      fresh : q.selection ≡ None → (token : ℕ) → newest (waiting q) ≡ Some token → (slot q token ≡ 0 → ⊥)
          → (t : Ticket) (number : ℕ) → (fresh_ticket q token ≡ t) × (slot q token ≡ number) → HandedOut q t number
      fresh e token n full t number w =
          let k : token ≡ t.token = ap (λ (x : Ticket). x.token) w.0 in
          let all : waiting q ≡ occupied 0 q.slots = all_occupied q e in
          record {
            ticket = inr (record {
              free = e;
              older = without token (waiting q);
              newest =
                  (all ∙ (newest_last q.slots token (ap newest (sym all) ∙ n) ∙ ap (λ (l : List ℕ). without token l ++ (token ∷ [])) (sym all)))
                  ∙ ap (λ (j : ℕ). without token (waiting q) ++ (j ∷ [])) k;
              carries = sym w.0 ∙ ap (fresh_ticket q) k;
            });
            held = sym w.1 ∙ ap (slot q) k;
            full = λ z. full (w.1 ∙ z);
          }

      ready : (s : Ticket) → q.selection ≡ Some s → (slot q s.token ≡ 0 → ⊥) → (t : Ticket) (number : ℕ) → (s ≡ t) × (slot q s.token ≡ number) → HandedOut q t number
      ready s e full t number w = record {
        ticket = inl (e ∙ ap Some w.0);
        held = sym w.1 ∙ ap (λ (x : Ticket). slot q x.token) w.0;
        full = λ z. full (w.1 ∙ z);
      }

  -- ---- refusal 9 is never given: a record that would show it is refused with 1
  pub pop_never_hollow : (popped q).answer ≡ Err Hollow → ⊥
  pop_never_hollow =
      pop_by (λ (r : Answered Popped). r.answer ≡ Err Hollow → ⊥) q
      (λ n other e. other cc)
      (λ e. let z : ◌≡◌ {A = ℕ} 0 1 = cc in omega arith)
      (λ p e token n full room h. let z : ◌≡◌ {A = ℕ} 0 1 = cc in omega arith)
      (λ p t e full h. let z : ◌≡◌ {A = ℕ} 0 1 = cc in omega arith)
