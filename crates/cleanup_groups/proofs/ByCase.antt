-- Each call by its cases: refused, or done; and every call by the record that it leaves
use Prim.Native.Nat.{ℕ, ◌+◌, ◌≤◌}
use mathlib.Core.Path.{◌≡◌, refl}
use mathlib.Core.Bool.{true, false, not}
use mathlib.Core.List.{List, []}
use borrow.Author.Tests.{not-false, ltb-false}
use lib.Dec.{ltb}
use lib.ListN.{length}
use Rattle.choice.proofs.Ways.{if_by}
use Rattle.queue_record.specs.declared.refusal.Refusal.{Refusal}
use Rattle.queue_record.specs.declared.refusal.Refusal.TheVariants.{NotDrained, TooManyBindings}
use Rattle.queue_record.specs.Record.{Sized}
use Rattle.queue_record.specs.WellFormed.{well_formed}
use Rattle.queue_record.specs.Openings.{scope_of, iterator_of, scope_opened, iterator_opened}
use Rattle.queue_record.specs.declared.record.Queue.{Queue}
use Rattle.queue_record.proofs.OpenedLaws.{scope_well_formed, scope_sized, iterator_well_formed, iterator_sized}
use Rattle.queue_questions.specs.Questions.{matches}
use Rattle.cleanup_queue.specs.Runs as queue
use Rattle.group_record.specs.Record.{queue_at, free_place, with_place, with_queue, with_opened, sealing}
use Rattle.group_asking.specs.Questions.{drained}
use Rattle.group_asking.specs.Scan.{some_yes}
use Rattle.group_check.specs.WellFormed.{well_grouped}
use Rattle.group_check.specs.Ids.{spot_of}
use Rattle.group_record.specs.declared.record.Groups.{Groups}
use Rattle.group_asking.specs.Question.{Undrained}
use Rattle.group_survey.specs.Whole.{retries_all}
use Rattle.group_openings.specs.Openings.{unsealed, room_of, next_domain, refused_add, added_at, added, added_queue, added_opening, added_scope, added_iterator}
use Rattle.group_endings.specs.Endings.{refused_close, removed_at, removed, sealed_by, sealed_in}
use Rattle.group_steps.specs.Births.{registered_at, registered_in, landed_at, landed_in}
use Rattle.group_steps.specs.Attempts.{popped_at, popped_in, completed_at, completed_in, retried_at, retried_in}
use Rattle.group_stages.specs.Stages.{admitted_at, admitted_in, admitted_at_without, admitted_in_without, ended_at, ended_in, cancelled_at, cancelled_in}
use Rattle.group_rounds.specs.Rounds.{all_retried, retried_all}
use Rattle.cleanup_groups.specs.Runs.{GroupCall, add_scope, add_iterator, remove, seal, register, land, pop, complete, retry, admit, admit_without, end, cancel, retry_all, groups_after}
use Rattle.std.specs.Prelude.{Ok, Err}
use Rattle.queue_record.specs.declared.answered.Answered.{Answered}
use Rattle.group_record.specs.declared.answered.GroupsAnswered.{GroupsAnswered}
use Rattle.group_check.specs.Types.{Spot}
use Rattle.group_endings.specs.Types.{Closed}
use Rattle.group_openings.specs.Types.{Added}
use Rattle.queue_questions.specs.Types.{Told}
use Rattle.queue_record.specs.Types.{Opened}

-- by where an id is: refused, or at a place
pub by_spot : {A : Type 0} (P : A → Type 0) (f : Spot → A) (s : Spot) → ((n : Refusal) → s ≡ Err n → P (f (Err n))) → ((i : ℕ) → s ≡ Ok i → P (f (Ok i))) → P (f s)
by_spot P f (Err n) refused there = refused n refl
by_spot P f (Ok i) refused there = there i refl

-- by a check that may refuse
by_gate : {A : Type 0} (P : A → Type 0) (f : Opened → A) (o : Opened) → ((n : Refusal) → o ≡ Err n → P (f (Err n))) → (o ≡ Ok tt → P (f (Ok tt))) → P (f o)
by_gate P f (Err n) refused go_on = refused n refl
by_gate P f (Ok tt) refused go_on = go_on refl

-- ---- an opening: refused, or a queue put into the lowest free place
module _ (P : GroupsAnswered Added → Type 0) (g : Groups) (refused : (r : Refusal) → P (refused_add g r)) where
  put_by : (q : Queue) → ((i : ℕ) → room_of g ≡ Ok i → P (added_at g q (Ok i))) → P (added g q)
  put_by q there = by_spot P (added_at g q) (room_of g) (λ r _. refused r) there

  pub scope_by : ((i : ℕ) → unsealed g ≡ Ok tt → room_of g ≡ Ok i → P (added_at g (scope_of (next_domain g) 0) (Ok i))) → P (added_scope g)
  unfolding added_scope
  scope_by there = by_gate P (added_opening g (scope_opened (next_domain g) 0)) (unsealed g) (λ r _. refused r) (λ u. put_by (scope_of (next_domain g) 0) (λ i e. there i u e))

  pub iterator_by : (bindings : List ℕ)
      → ((i : ℕ) → unsealed g ≡ Ok tt → length bindings ≤ 16 → room_of g ≡ Ok i → P (added_at g (iterator_of (next_domain g) 0 bindings) (Ok i)))
      → P (added_iterator g bindings)
  unfolding added_iterator iterator_opened
  iterator_by bindings there =
      by_gate P (added_opening g (iterator_opened (next_domain g) 0 bindings)) (unsealed g) (λ r _. refused r)
      (λ u. if_by (λ (o : Answered Opened). P (added_queue g o.queue o.answer)) (ltb 16 (length bindings)) _ _
      (λ _. refused TooManyBindings) (λ b. put_by (iterator_of (next_domain g) 0 bindings) (λ i e. there i u (ltb-false _ _ b) e)))

-- ---- close and seal: refused, or done
module _ (P : GroupsAnswered Closed → Type 0) (g : Groups) (refused : (r : Refusal) → P (refused_close g r)) where
  pub close_by : (id : ℕ) → ((i : ℕ) → spot_of g id ≡ Ok i → drained (queue_at g i) ≡ true → P (record { answer = Ok tt; groups = with_place g i free_place })) → P (removed g id)
  unfolding removed
  close_by id there =
      by_spot P (removed_at g) (spot_of g id) (λ r _. refused r)
      (λ i e. if_by P (not (drained (queue_at g i))) _ _ (λ _. refused NotDrained) (λ d. there i e (not-false _ d)))

  pub seal_by : (unsealed g ≡ Ok tt → some_yes g Undrained [] ≡ false → P (record { answer = Ok tt; groups = sealing g })) → P (sealed_in g)
  unfolding sealed_in
  seal_by shut =
      by_gate P (sealed_by g) (unsealed g) (λ r _. refused r)
      (λ u. if_by P (some_yes g Undrained []) _ _ (λ _. refused NotDrained) (λ d. shut u d))

-- ---- every call, by the record that it leaves
-- what an opened queue is like
pub record New (g : Groups) (q : Queue) : Type 0 where
  pub sound : well_formed q ≡ true
  pub domain : q.domain ≡ g.base + g.next
  pub sized : Sized q

module _ (P : Groups → Type 0) (g : Groups)
    (stay : P g)
    (step : (id i : ℕ) → spot_of g id ≡ Ok i → (c : queue.Call) → P (with_queue g i (queue.after (queue_at g i) c)))
    (grow : (i : ℕ) (q : Queue) → unsealed g ≡ Ok tt → room_of g ≡ Ok i → New g q → P (with_opened g i q))
    (close : (id i : ℕ) → spot_of g id ≡ Ok i → drained (queue_at g i) ≡ true → P (with_place g i free_place))
    (shut : unsealed g ≡ Ok tt → some_yes g Undrained [] ≡ false → P (sealing g))
    (round : well_grouped g ≡ true → retries_all g ≡ true → P (all_retried g)) where
  pub call_by : (c : GroupCall) → P (groups_after g c)
  unfolding registered_in landed_in popped_in completed_in retried_in admitted_in admitted_in_without ended_in cancelled_in retried_all scope_of iterator_of
  call_by add_scope =
      scope_by (λ (r : GroupsAnswered Added). P r.groups) g (λ _. stay)
      (λ i u e. grow i _ u e (record { sound = scope_well_formed (next_domain g) 0; domain = refl; sized = scope_sized (next_domain g) 0 }))
  call_by (add_iterator bindings) =
      iterator_by (λ (r : GroupsAnswered Added). P r.groups) g (λ _. stay) bindings
      (λ i u b e. grow i _ u e (record { sound = iterator_well_formed (next_domain g) 0 bindings b; domain = refl; sized = iterator_sized (next_domain g) 0 bindings b }))
  call_by (remove id) = close_by (λ (r : GroupsAnswered Closed). P r.groups) g (λ _. stay) id (λ i e d. close id i e d)
  call_by seal = seal_by (λ (r : GroupsAnswered Closed). P r.groups) g (λ _. stay) shut
  call_by (register id n) = by_spot P (λ s. (registered_at g n s).groups) (spot_of g id) (λ _ _. stay) (λ i e. step id i e (queue.register n))
  call_by (land id n) = by_spot P (λ s. (landed_at g n s).groups) (spot_of g id) (λ _ _. stay) (λ i e. step id i e (queue.land n))
  call_by (pop id) = by_spot P (λ s. (popped_at g s).groups) (spot_of g id) (λ _ _. stay) (λ i e. step id i e queue.pop)
  call_by (complete id t o k) = by_spot P (λ s. (completed_at g t o k s).groups) (spot_of g id) (λ _ _. stay) (λ i e. step id i e (queue.complete t o k))
  call_by (retry id) = by_spot P (λ s. (retried_at g s).groups) (spot_of g id) (λ _ _. stay) (λ i e. step id i e queue.retry)
  call_by (admit id target) = by_spot P (λ s. (admitted_at g target s).groups) (spot_of g id) (λ _ _. stay) (λ i e. step id i e (queue.admit (matches (queue_at g i) target)))
  call_by (admit_without id) = by_spot P (λ s. (admitted_at_without g s).groups) (spot_of g id) (λ _ _. stay) (λ i e. step id i e (queue.admit false))
  call_by (end id) = by_spot P (λ s. (ended_at g s).groups) (spot_of g id) (λ _ _. stay) (λ i e. step id i e queue.end)
  call_by (cancel id) = by_spot P (λ s. (cancelled_at g s).groups) (spot_of g id) (λ _ _. stay) (λ i e. step id i e queue.cancel)
  call_by retry_all =
      if_by (λ (r : GroupsAnswered Told). P r.groups) (not (well_grouped g)) _ _ (λ _. stay)
      (λ w. if_by (λ (r : GroupsAnswered Told). P r.groups) (not (retries_all g)) _ _ (λ _. stay) (λ t. round (not-false _ w) (not-false _ t)))
