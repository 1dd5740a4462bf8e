-- Other groups stay: a call on one id leaves every place that is live under another
use Prim.Native.Nat.{ℕ}
use mathlib.Core.Path.{◌≡◌, refl, sym, ap, ◌∙◌}
use mathlib.Core.List.{List}
use lib.ListN.{length}
use Rattle.choice.proofs.Ways.{clash}
use Rattle.queue_record.specs.declared.refusal.Refusal.{Refusal}
use Rattle.queue_record.specs.declared.record.Ticket.{Ticket}
use Rattle.group_record.specs.Record.{place_at, with_place}
use Rattle.group_check.specs.Ids.{spot_of}
use Rattle.group_record.specs.declared.record.Place.{Place}
use Rattle.group_record.specs.declared.record.Groups.{Groups}
use Rattle.group_openings.specs.Openings.{room_of, added_scope, added_iterator}
use Rattle.group_endings.specs.Endings.{removed}
use Rattle.group_steps.specs.Births.{registered_at, registered_in, landed_at, landed_in}
use Rattle.group_steps.specs.Sequences.{registered_all_at, registered_all_in}
use Rattle.group_steps.specs.Attempts.{popped_at, popped_in, completed_at, completed_in, retried_at, retried_in}
use Rattle.group_stages.specs.Stages.{admitted_at, admitted_in, admitted_at_without, admitted_in_without, ended_at, ended_in, cancelled_at, cancelled_in}
use Rattle.cleanup_groups.specs.Promises.{LiveAt, id_at}
use Rattle.cleanup_groups.proofs.ByCase.{by_spot, scope_by, iterator_by, close_by}
use Rattle.cleanup_groups.proofs.Placed.{others_stay}
use Rattle.cleanup_groups.proofs.Keeps.{spot_live, room_free}
use Rattle.std.specs.Prelude.{Ok, Err}
use Rattle.group_record.specs.declared.answered.GroupsAnswered.{GroupsAnswered}
use Rattle.group_check.specs.Types.{Spot}
use Rattle.group_endings.specs.Types.{Closed}
use Rattle.group_openings.specs.Types.{Added}

module _ (g : Groups) (l : length g.places ≡ 16) (j : ℕ) where
  abbrev Stays : Groups → Type 0
  Stays h = place_at h j ≡ place_at g j

  -- ---- calls on an id that is not the one at j
  module _ (id : ℕ) (n : id_at g j ≡ id → ⊥) where
    aside : (i : ℕ) (p : Place) → spot_of g id ≡ Ok i → Stays (with_place g i p)
    aside i p e = others_stay g i p j (λ d. n (ap (id_at g) d ∙ (spot_live g id i l e).2))

    by_id_lem : (f : Spot → Groups) → ((r : Refusal) → Stays (f (Err r))) → ((i : ℕ) → spot_of g id ≡ Ok i → Stays (f (Ok i))) → Stays (f (spot_of g id))
    by_id_lem f a b = by_spot (λ (h : Groups). Stays h) f (spot_of g id) (λ r _. a r) b

    pub register_others : (number : ℕ) → Stays (registered_in g id number).groups
    unfolding registered_in
    register_others number = by_id_lem (λ s. (registered_at g number s).groups) (λ _. refl) (λ i e. aside i _ e)

    pub land_others : (number : ℕ) → Stays (landed_in g id number).groups
    unfolding landed_in
    land_others number = by_id_lem (λ s. (landed_at g number s).groups) (λ _. refl) (λ i e. aside i _ e)

    pub register_all_others : (numbers : List ℕ) → Stays (registered_all_in g id numbers).groups
    unfolding registered_all_in
    register_all_others numbers = by_id_lem (λ s. (registered_all_at g numbers s).groups) (λ _. refl) (λ i e. aside i _ e)

    pub pop_others : Stays (popped_in g id).groups
    unfolding popped_in
    pop_others = by_id_lem (λ s. (popped_at g s).groups) (λ _. refl) (λ i e. aside i _ e)

    pub complete_others : (t : Ticket) (outcome kept : ℕ) → Stays (completed_in g id t outcome kept).groups
    unfolding completed_in
    complete_others t outcome kept = by_id_lem (λ s. (completed_at g t outcome kept s).groups) (λ _. refl) (λ i e. aside i _ e)

    pub retry_others : Stays (retried_in g id).groups
    unfolding retried_in
    retry_others = by_id_lem (λ s. (retried_at g s).groups) (λ _. refl) (λ i e. aside i _ e)

    pub admit_others : (target : List ℕ) → Stays (admitted_in g id target).groups
    unfolding admitted_in
    admit_others target = by_id_lem (λ s. (admitted_at g target s).groups) (λ _. refl) (λ i e. aside i _ e)

    pub admit_without_others : Stays (admitted_in_without g id).groups
    unfolding admitted_in_without
    admit_without_others = by_id_lem (λ s. (admitted_at_without g s).groups) (λ _. refl) (λ i e. aside i _ e)

    pub end_others : Stays (ended_in g id).groups
    unfolding ended_in
    end_others = by_id_lem (λ s. (ended_at g s).groups) (λ _. refl) (λ i e. aside i _ e)

    pub cancel_others : Stays (cancelled_in g id).groups
    unfolding cancelled_in
    cancel_others = by_id_lem (λ s. (cancelled_at g s).groups) (λ _. refl) (λ i e. aside i _ e)

    pub close_others : Stays (removed g id).groups
    close_others = close_by (λ (r : GroupsAnswered Closed). Stays r.groups) g (λ _. refl) id (λ i e _. aside i _ e)

  -- ---- an opening leaves every live group
  module _ (a : LiveAt g j) where
    put_aside : (i : ℕ) (p : Place) → room_of g ≡ Ok i → Stays (with_place g i p)
    put_aside i p e = others_stay g i p j (λ d. clash (sym (ap (λ (k : ℕ). (place_at g k).live) d) ∙ a) (room_free g i l e).1)

    pub scope_others : Stays (added_scope g).groups
    scope_others = scope_by (λ (r : GroupsAnswered Added). Stays r.groups) g (λ _. refl) (λ i _ e. put_aside i _ e)

    pub iterator_others : (bindings : List ℕ) → Stays (added_iterator g bindings).groups
    iterator_others bindings = iterator_by (λ (r : GroupsAnswered Added). Stays r.groups) g (λ _. refl) bindings (λ i _ _ e. put_aside i _ e)
