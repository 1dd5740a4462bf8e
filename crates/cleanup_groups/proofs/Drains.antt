-- Closing and sealing: what was closed or sealed away had nothing left, and sealing is done where nothing is left
use Prim.Native.Nat.{ℕ, ◌<◌}
use mathlib.Core.Path.{◌≡◌, refl, ap, ◌∙◌}
use mathlib.Core.Bool.{true, false, not, ◌&&◌}
use mathlib.Core.List.{[]}
use native.Mathlib.Omega.{arith}
use borrow.Author.Tests.{not-true, not-false}
use lib.ListN.{length}
use Rattle.stage.specs.Phases.{is_pending, is_settled}
use Rattle.choice.proofs.Ways.{miss, pass, and_left, and_right, clash}
use Rattle.queue_record.specs.WellFormed.{well_formed}
use Rattle.queue_record.specs.declared.record.Queue.{Queue}
use Rattle.queue_record.proofs.Fit.{free_no_marks}
use Rattle.queue_questions.specs.Questions.{is_empty_told}
use Rattle.cleanup_queue.proofs.Upstream.{empty_means_lem, means_empty, empty_holds_nothing}
use Rattle.group_record.specs.Record.{queue_at, free_place, with_place, sealing}
use Rattle.group_asking.specs.Questions.{is_yes, drained}
use Rattle.group_asking.specs.Scan.{some_yes}
use Rattle.group_check.specs.WellFormed.{well_grouped}
use Rattle.group_check.specs.Ids.{spot_of}
use Rattle.group_record.specs.declared.record.Groups.{Groups}
use Rattle.group_asking.specs.Question.{Undrained}
use Rattle.group_endings.specs.Endings.{refused_close, removed, sealed_by, sealed_in}
use Rattle.group_openings.proofs.Room.{unsealed_means, means_unsealed}
use Rattle.group_check.proofs.Spots.{spot_means}
use Rattle.cleanup_groups.specs.Promises.{LiveAt, DrainedQueue}
use Rattle.cleanup_groups.proofs.ByCase.{close_by, seal_by}
use Rattle.cleanup_groups.proofs.Sounds.{sound_means}
use Rattle.cleanup_groups.proofs.Keeps.{spot_live}
use Rattle.cleanup_groups.proofs.Asked.{none_means, means_none}
use Rattle.queue_record.specs.declared.refusal.Refusal.TheVariants.{NotDrained}
use Rattle.std.specs.Prelude.{Ok, Err}
use Rattle.group_record.specs.declared.answered.GroupsAnswered.{GroupsAnswered}
use Rattle.group_endings.specs.Types.{Closed}
use Rattle.queue_questions.specs.Types.{Told}
use Rattle.queue_record.specs.Types.{Opened}

pub yes_is : (t : Told) → is_yes t ≡ true → t ≡ Ok true
yes_is (Ok true) h = refl
yes_is (Ok false) h = clash {b = false} h refl
yes_is (Err n) h = clash {b = false} h refl

-- a drained queue has no undo waiting, out or failed, and no pending stage
pub drained_means : (q : Queue) → well_formed q ≡ true → drained q ≡ true → DrainedQueue q
unfolding drained
drained_means q w h =
    let e : is_empty_told q ≡ Ok true = yes_is (is_empty_told q) (and_left (is_yes (is_empty_told q)) (is_settled q.phase && not (is_pending q.phase)) h) in
    let r : (is_settled q.phase && not (is_pending q.phase)) ≡ true = and_right (is_yes (is_empty_told q)) (is_settled q.phase && not (is_pending q.phase)) h in
    let m = empty_means_lem q e in
    let n = free_no_marks q w m.0 in
    record {
      selection = m.0;
      slots = (empty_holds_nothing q e).1;
      waiting = m.1;
      failed = n.0;
      issued = n.1;
      settled = and_left (is_settled q.phase) (not (is_pending q.phase)) r;
      pending = not-true _ (and_right (is_settled q.phase) (not (is_pending q.phase)) r);
    }

-- and a queue with nothing left is drained
pub means_drained : (q : Queue) → well_formed q ≡ true → DrainedQueue q → drained q ≡ true
unfolding drained
means_drained q w n = pass _ (ap is_yes (means_empty q w n.selection n.waiting)) ∙ (pass _ n.settled ∙ ap not n.pending)

-- ---- closing
-- it was live, with nothing left, and its place is free
pub close_means : (g : Groups) (id : ℕ) → length g.places ≡ 16 → (removed g id).answer ≡ Ok tt
    → (i : ℕ) × (spot_of g id ≡ Ok i) × DrainedQueue (queue_at g i) × ((removed g id).groups ≡ with_place g i free_place)
close_means g id l =
    close_by (λ (r : GroupsAnswered Closed). r.answer ≡ Ok tt → (i : ℕ) × (spot_of g id ≡ Ok i) × DrainedQueue (queue_at g i) × (r.groups ≡ with_place g i free_place)) g
    (λ _ h. let z : ◌≡◌ {A = ℕ} 0 1 = cc in absurd (omega arith)) id
    (λ i e d _. let s = spot_live g id i l e in (i, e, drained_means (queue_at g i) ((sound_means g l (spot_means g id i e).0).queues i s.0 s.1) d, refl))

-- ---- sealing
-- every live group had nothing left, and none is live
pub seal_drops : (g : Groups) → length g.places ≡ 16 → (sealed_in g).answer ≡ Ok tt → ((i : ℕ) → i < 16 → LiveAt g i → DrainedQueue (queue_at g i)) × ((sealed_in g).groups ≡ sealing g)
seal_drops g l =
    seal_by (λ (r : GroupsAnswered Closed). r.answer ≡ Ok tt → ((i : ℕ) → i < 16 → LiveAt g i → DrainedQueue (queue_at g i)) × (r.groups ≡ sealing g)) g
    (λ _ h. let z : ◌≡◌ {A = ℕ} 0 1 = cc in absurd (omega arith))
    (λ u d _. (λ i k a. drained_means (queue_at g i) ((sound_means g l (unsealed_means g u).0).queues i k a) (not-false _ (not-true _ (none_means g l Undrained [] (λ _ _. refl) d i k a))), refl))

-- and it is done where nothing is left in any live group
pub drained_seals : (g : Groups) → length g.places ≡ 16 → well_grouped g ≡ true → g.sealed ≡ false → ((i : ℕ) → i < 16 → LiveAt g i → DrainedQueue (queue_at g i)) → (sealed_in g).answer ≡ Ok tt
unfolding sealed_in
drained_seals g l w u f =
    let n : some_yes g Undrained [] ≡ false = means_none g l Undrained [] (λ _ _. refl) (λ i k a. ap not (ap not (means_drained (queue_at g i) ((sound_means g l w).queues i k a) (f i k a)))) in
    ap (λ (o : Opened). (sealed_by g o).answer) (means_unsealed g w u) ∙ ap (λ (r : GroupsAnswered Closed). r.answer) (miss (refused_close g NotDrained) n)
