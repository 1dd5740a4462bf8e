-- R62: a refusal leaves the whole record, and hands back the undo number that came with the call
use Prim.Native.Nat.{ℕ, zero, suc}
use mathlib.Core.Path.{◌≡◌, refl, sym, ap, ◌∙◌}
use mathlib.Core.Bool.{false}
use mathlib.Core.List.{List, [], ◌∷◌}
use native.Mathlib.Omega.{arith}
use lib.ListN.{get_or, set}
use Rattle.queue_record.specs.declared.refusal.Refusal.{Refusal}
use Rattle.queue_record.specs.declared.record.Queue.{Queue}
use Rattle.queue_record.specs.declared.record.Ticket.{Ticket}
use Rattle.queue_questions.specs.Questions.{matches}
use Rattle.cleanup_queue.proofs.Numbers as queue
use Rattle.cleanup_queue.proofs.ByCase.{given_back}
use Rattle.group_record.specs.Record.{nowhere, queue_at, with_queue, with_places}
use Rattle.group_check.specs.Ids.{spot_of}
use Rattle.group_record.specs.declared.record.Place.{Place}
use Rattle.group_record.specs.declared.record.Groups.{Groups}
use Rattle.group_openings.specs.Openings.{added_scope, added_iterator}
use Rattle.group_endings.specs.Endings.{removed, sealed_in}
use Rattle.group_steps.specs.Births.{registered_at, registered_in, landed_at, landed_in}
use Rattle.group_steps.specs.Attempts.{popped_at, popped_in, completed_at, completed_in, retried_at, retried_in}
use Rattle.group_stages.specs.Stages.{admitted_at, admitted_in, admitted_at_without, admitted_in_without, ended_at, ended_in, cancelled_at, cancelled_in}
use Rattle.cleanup_groups.proofs.ByCase.{by_spot, scope_by, iterator_by, close_by, seal_by}
use Rattle.std.specs.Prelude.{Err}
use Rattle.group_record.specs.declared.answered.GroupsAnswered.{GroupsAnswered}
use Rattle.group_endings.specs.Types.{Closed}
use Rattle.group_openings.specs.Types.{Added}
use Rattle.queue_births.specs.Types.{Registered}
use Rattle.queue_questions.specs.Types.{Told}
use Rattle.queue_stages.specs.Types.{Cancelled}
use Rattle.queue_steps.specs.Types.{Completed, Popped, Retried}

-- ---- a queue put back as it was changes nothing
set_same : (ps : List Place) (i : ℕ) → set ps i (get_or ps i nowhere) ≡ ps
set_same [] i = refl
set_same (p ∷ ps) zero = refl
set_same (p ∷ ps) (suc i) = ap (λ (l : List Place). p ∷ l) (set_same ps i)

module _ (g : Groups) where
  pub put_back : (i : ℕ) (q : Queue) → q ≡ queue_at g i → with_queue g i q ≡ g
  put_back i q e = ap (with_queue g i) e ∙ ap (with_places g) (set_same g.places i)

  -- ---- steps
  module _ (id : ℕ) where
    -- what a refusal of register or land gives back
    abbrev Returns : ℕ → GroupsAnswered Registered → Type 0
    Returns n r = (refusal : Refusal) (given : ℕ) → r.answer ≡ Err (refusal, given) → (given ≡ n) × (r.groups ≡ g)

    pub register_refused : (n : ℕ) → Returns n (registered_in g id n)
    unfolding registered_in
    register_refused n =
        by_spot (λ (r : GroupsAnswered Registered). Returns n r) (registered_at g n) (spot_of g id) (λ _ _ _ _ h. (sym (given_back h), refl))
        (λ i _ r m h. let w = queue.register_returns (queue_at g i) n r m h in (w.0, put_back i _ w.1))

    pub land_refused : (n : ℕ) → Returns n (landed_in g id n)
    unfolding landed_in
    land_refused n =
        by_spot (λ (r : GroupsAnswered Registered). Returns n r) (landed_at g n) (spot_of g id) (λ _ _ _ _ h. (sym (given_back h), refl))
        (λ i _ r m h. let w = queue.land_returns (queue_at g i) n r m h in (w.0, put_back i _ w.1))

    pub complete_refused : (t : Ticket) (outcome kept : ℕ) (refusal : Refusal) (given : ℕ)
        → (completed_in g id t outcome kept).answer ≡ Err (refusal, given) → (given ≡ kept) × ((completed_in g id t outcome kept).groups ≡ g)
    unfolding completed_in
    complete_refused t o k r m =
        by_spot (λ (a : GroupsAnswered Completed). a.answer ≡ Err (r, m) → (m ≡ k) × (a.groups ≡ g)) (completed_at g t o k) (spot_of g id)
        (λ _ _ h. (sym (given_back h), refl)) (λ i _ h. let w = queue.complete_returns (queue_at g i) t o k r m h in (w.0, put_back i _ w.1))

    pub pop_refused : (refusal : Refusal) → (popped_in g id).answer ≡ Err refusal → (popped_in g id).groups ≡ g
    unfolding popped_in
    pop_refused r =
        by_spot (λ (a : GroupsAnswered Popped). a.answer ≡ Err r → a.groups ≡ g) (popped_at g) (spot_of g id)
        (λ _ _ _. refl) (λ i _ h. put_back i _ (queue.pop_returns (queue_at g i) r h))

    pub retry_refused : (refusal : Refusal) → (retried_in g id).answer ≡ Err refusal → (retried_in g id).groups ≡ g
    unfolding retried_in
    retry_refused r =
        by_spot (λ (a : GroupsAnswered Retried). a.answer ≡ Err r → a.groups ≡ g) (retried_at g) (spot_of g id)
        (λ _ _ _. refl) (λ i _ h. put_back i _ (queue.retry_returns (queue_at g i) r h))

    abbrev Leaves : GroupsAnswered Told → Type 0
    Leaves a = (refusal : Refusal) → a.answer ≡ Err refusal → a.groups ≡ g

    pub admit_refused : (target : List ℕ) → Leaves (admitted_in g id target)
    unfolding admitted_in
    admit_refused target =
        by_spot (λ (a : GroupsAnswered Told). Leaves a) (admitted_at g target) (spot_of g id) (λ _ _ _ _. refl)
        (λ i _ r h. put_back i _ (queue.admit_returns (queue_at g i) (matches (queue_at g i) target) r h))

    pub admit_without_refused : Leaves (admitted_in_without g id)
    unfolding admitted_in_without
    admit_without_refused = by_spot (λ (a : GroupsAnswered Told). Leaves a) (admitted_at_without g) (spot_of g id) (λ _ _ _ _. refl)
        (λ i _ r h. put_back i _ (queue.admit_returns (queue_at g i) false r h))

    pub end_refused : Leaves (ended_in g id)
    unfolding ended_in
    end_refused = by_spot (λ (a : GroupsAnswered Told). Leaves a) (ended_at g) (spot_of g id) (λ _ _ _ _. refl) (λ i _ r h. put_back i _ (queue.end_returns (queue_at g i) r h))

    pub cancel_refused : (refusal : Refusal) → (cancelled_in g id).answer ≡ Err refusal → (cancelled_in g id).groups ≡ g
    unfolding cancelled_in
    cancel_refused r =
        by_spot (λ (a : GroupsAnswered Cancelled). a.answer ≡ Err r → a.groups ≡ g) (cancelled_at g) (spot_of g id)
        (λ _ _ _. refl) (λ i _ h. put_back i _ (queue.cancel_returns (queue_at g i) r h))

  -- ---- closing and sealing
  abbrev Kept : GroupsAnswered Closed → Type 0
  Kept a = (refusal : Refusal) → a.answer ≡ Err refusal → a.groups ≡ g

  pub close_refused : (id : ℕ) → Kept (removed g id)
  close_refused id = close_by Kept g (λ _ _ _. refl) id (λ _ _ _ r h. let z : ◌≡◌ {A = ℕ} 0 1 = cc in absurd (omega arith))

  pub seal_refused : Kept (sealed_in g)
  seal_refused = seal_by Kept g (λ _ _ _. refl) (λ _ _ r h. let z : ◌≡◌ {A = ℕ} 0 1 = cc in absurd (omega arith))

  -- ---- openings
  abbrev Same : GroupsAnswered Added → Type 0
  Same a = (refusal : Refusal) → a.answer ≡ Err refusal → a.groups ≡ g

  pub scope_refused : Same (added_scope g)
  scope_refused = scope_by Same g (λ _ _ _. refl) (λ _ _ _ r h. let z : ◌≡◌ {A = ℕ} 0 1 = cc in absurd (omega arith))

  pub iterator_refused : (bindings : List ℕ) → Same (added_iterator g bindings)
  iterator_refused bindings = iterator_by Same g (λ _ _ _. refl) bindings (λ _ _ _ _ r h. let z : ◌≡◌ {A = ℕ} 0 1 = cc in absurd (omega arith))
