-- What stays: a call on an id changes one queue alone; the base and a seal stay for good
use Prim.Native.Nat.{ℕ, ◌<◌}
use mathlib.Core.Path.{◌≡◌, refl, sym, ap, ◌∙◌, subst}
use mathlib.Core.Bool.{true}
use mathlib.Core.List.{List, [], ◌∷◌}
use lib.ListN.{length}
use Rattle.queue_record.specs.declared.refusal.Refusal.{Refusal}
use Rattle.queue_record.specs.declared.record.Queue.{Queue}
use Rattle.queue_record.specs.declared.record.Ticket.{Ticket}
use Rattle.group_record.specs.Record.{place_at, holding, with_queue, sealing}
use Rattle.group_check.specs.Ids.{spot_of}
use Rattle.group_record.specs.declared.record.Place.{Place}
use Rattle.group_record.specs.declared.record.Groups.{Groups}
use Rattle.group_endings.specs.Endings.{removed}
use Rattle.group_steps.specs.Births.{registered_at, registered_in, landed_at, landed_in}
use Rattle.group_steps.specs.Sequences.{registered_all_at, registered_all_in}
use Rattle.group_steps.specs.Attempts.{popped_at, popped_in, completed_at, completed_in, retried_at, retried_in}
use Rattle.group_stages.specs.Stages.{admitted_at, admitted_in, admitted_at_without, admitted_in_without, ended_at, ended_in, cancelled_at, cancelled_in}
use Rattle.group_rounds.specs.Rounds.{all_retried}
use Rattle.cleanup_groups.specs.Promises.{id_at, IsLive, Frame}
use Rattle.cleanup_groups.specs.Runs.{GroupCall, groups_after, groups_after_all}
use Rattle.cleanup_groups.proofs.ByCase.{by_spot, close_by, call_by}
use Rattle.cleanup_groups.proofs.Placed.{by_place}
use Rattle.cleanup_groups.proofs.Keeps.{spot_live, round_live, round_id}
use Rattle.std.specs.Prelude.{Ok, Err}
use Rattle.group_record.specs.declared.answered.GroupsAnswered.{GroupsAnswered}
use Rattle.group_check.specs.Types.{Spot}
use Rattle.group_endings.specs.Types.{Closed}

frame_same : (g : Groups) → Frame g g
frame_same g = record { base = refl; next = refl; sealed = refl; marks = λ _. refl; ids = λ _. refl }

pub queue_frame : (g : Groups) (i : ℕ) (q : Queue) → length g.places ≡ 16 → i < 16 → Frame g (with_queue g i q)
queue_frame g i q l k = record {
  base = refl;
  next = refl;
  sealed = refl;
  marks = λ j. by_place g i (holding (place_at g i) q) l k (λ (p : Place). p.live ≡ (place_at g j).live) j (λ e. ap (λ (m : ℕ). (place_at g m).live) (sym e)) (λ _. refl);
  ids = λ j. by_place g i (holding (place_at g i) q) l k (λ (p : Place). p.id ≡ id_at g j) j (λ e. ap (λ (m : ℕ). id_at g m) (sym e)) (λ _. refl);
}

-- the same ids are live
pub frame_live : (g h : Groups) (id : ℕ) → Frame g h → IsLive g id → IsLive h id
frame_live g h id f w = (w.0, w.1, f.marks w.0 ∙ w.2, f.ids w.0 ∙ w.3)

pub live_frame : (g h : Groups) (id : ℕ) → Frame g h → IsLive h id → IsLive g id
live_frame g h id f w = (w.0, w.1, sym (f.marks w.0) ∙ w.2, sym (f.ids w.0) ∙ w.3)

module _ (g : Groups) (l : length g.places ≡ 16) (id : ℕ) where
  -- whichever call: refused it leaves the record, else it leaves another queue at the id's place
  framed : (f : Spot → Groups) (q : ℕ → Queue) → ((n : Refusal) → f (Err n) ≡ g) → ((i : ℕ) → f (Ok i) ≡ with_queue g i (q i)) → Frame g (f (spot_of g id))
  framed f q r s =
      by_spot (λ (h : Groups). Frame g h) f (spot_of g id) (λ n _. subst (Frame g) (sym (r n)) (frame_same g))
      (λ i e. subst (Frame g) (sym (s i)) (queue_frame g i (q i) l (spot_live g id i l e).0))

  pub register_frame : (n : ℕ) → Frame g (registered_in g id n).groups
  unfolding registered_in
  register_frame n = framed (λ s. (registered_at g n s).groups) _ (λ _. refl) (λ _. refl)

  pub land_frame : (n : ℕ) → Frame g (landed_in g id n).groups
  unfolding landed_in
  land_frame n = framed (λ s. (landed_at g n s).groups) _ (λ _. refl) (λ _. refl)

  pub register_all_frame : (numbers : List ℕ) → Frame g (registered_all_in g id numbers).groups
  unfolding registered_all_in
  register_all_frame numbers = framed (λ s. (registered_all_at g numbers s).groups) _ (λ _. refl) (λ _. refl)

  pub pop_frame : Frame g (popped_in g id).groups
  unfolding popped_in
  pop_frame = framed (λ s. (popped_at g s).groups) _ (λ _. refl) (λ _. refl)

  pub complete_frame : (t : Ticket) (outcome kept : ℕ) → Frame g (completed_in g id t outcome kept).groups
  unfolding completed_in
  complete_frame t outcome kept = framed (λ s. (completed_at g t outcome kept s).groups) _ (λ _. refl) (λ _. refl)

  pub retry_frame : Frame g (retried_in g id).groups
  unfolding retried_in
  retry_frame = framed (λ s. (retried_at g s).groups) _ (λ _. refl) (λ _. refl)

  pub admit_frame : (target : List ℕ) → Frame g (admitted_in g id target).groups
  unfolding admitted_in
  admit_frame target = framed (λ s. (admitted_at g target s).groups) _ (λ _. refl) (λ _. refl)

  pub admit_without_frame : Frame g (admitted_in_without g id).groups
  unfolding admitted_in_without
  admit_without_frame = framed (λ s. (admitted_at_without g s).groups) _ (λ _. refl) (λ _. refl)

  pub end_frame : Frame g (ended_in g id).groups
  unfolding ended_in
  end_frame = framed (λ s. (ended_at g s).groups) _ (λ _. refl) (λ _. refl)

  pub cancel_frame : Frame g (cancelled_in g id).groups
  unfolding cancelled_in
  cancel_frame = framed (λ s. (cancelled_at g s).groups) _ (λ _. refl) (λ _. refl)

-- a round of retries changes queues alone
pub round_frame_lem : (g : Groups) → Frame g (all_retried g)
round_frame_lem g = record { base = refl; next = refl; sealed = refl; marks = round_live g; ids = round_id g }

-- the base is the record's for good
pub base_stays : (g : Groups) (c : GroupCall) → (groups_after g c).base ≡ g.base
unfolding sealing
base_stays g c = call_by (λ (h : Groups). h.base ≡ g.base) g refl (λ _ _ _ _. refl) (λ _ _ _ _ _. refl) (λ _ _ _ _. refl) (λ _ _. refl) (λ _ _. refl) c

pub run_base : (g : Groups) (cs : List GroupCall) → (groups_after_all g cs).base ≡ g.base
run_base g [] = refl
run_base g (c ∷ cs) = run_base (groups_after g c) cs ∙ base_stays g c

-- a sealed record stays sealed
pub sealed_stays : (g : Groups) (c : GroupCall) → g.sealed ≡ true → (groups_after g c).sealed ≡ true
unfolding sealing
sealed_stays g c s = call_by (λ (h : Groups). h.sealed ≡ true) g s (λ _ _ _ _. s) (λ _ _ _ _ _. s) (λ _ _ _ _. s) (λ _ _. refl) (λ _ _. s) c

pub run_sealed : (g : Groups) (cs : List GroupCall) → g.sealed ≡ true → (groups_after_all g cs).sealed ≡ true
run_sealed g [] s = s
run_sealed g (c ∷ cs) s = run_sealed (groups_after g c) cs (sealed_stays g c s)

-- a closing leaves next and seal (the base: base_stays; the other places: close_others)
pub close_frame : (g : Groups) (id : ℕ) → ((removed g id).groups.next ≡ g.next) × ((removed g id).groups.sealed ≡ g.sealed)
close_frame g id = close_by (λ (r : GroupsAnswered Closed). (r.groups.next ≡ g.next) × (r.groups.sealed ≡ g.sealed)) g (λ _. (refl, refl)) id (λ _ _ _. (refl, refl))
