-- Clauses of upstream's groups that no other file states: a new record, what an opening gives, can_finish, a sealed record, what
-- a round leaves
use Prim.Native.Nat.{ℕ, ◌<◌, ◌≤◌}
use mathlib.Core.Path.{◌≡◌, refl, sym, ap, ◌∙◌, subst}
use mathlib.Core.Bool.{true, false, not}
use mathlib.Core.List.{List}
use native.Mathlib.Omega.{arith}
use borrow.Author.Tests.{lt-ltb, le-ltb, not-true}
use lib.Dec.{ltb}
use lib.ListN.{length, set}
use Rattle.choice.proofs.Ways.{if_by, hit, miss, pass, and_left, and_right, clash}
use Rattle.stage.specs.Phases.{is_pending}
use Rattle.queue_record.specs.Openings.{scope_of, iterator_of}
use Rattle.queue_record.specs.declared.record.Queue.{Queue}
use Rattle.queue_record.specs.declared.refusal.Refusal.TheVariants.{NoId}
use Rattle.queue_steps.specs.Attempts.{retried}
use Rattle.cleanup_queue.proofs.Upstream.{retry_leaves_lem, call_keeps_domain}
use Rattle.cleanup_queue.specs.Runs as queue
use Rattle.group_record.specs.Record.{place_at, queue_at, live_place, empty_of, with_opened, sealing}
use Rattle.group_asking.specs.Questions.{finishes}
use Rattle.group_check.specs.WellFormed.{last_base}
use Rattle.group_record.specs.declared.record.Place.{Place}
use Rattle.group_record.specs.declared.record.Groups.{Groups}
use Rattle.group_survey.specs.Whole.{can_finish_of}
use Rattle.group_openings.specs.Openings.{new_of, unsealed, next_domain, room_of, added_scope, added_iterator}
use Rattle.group_openings.proofs.Room.{unsealed_means}
use Rattle.group_rounds.specs.Rounds.{all_retried}
use Rattle.cleanup_groups.specs.Promises.{LiveAt, id_at, AddedAs}
use Rattle.cleanup_groups.proofs.ByCase.{scope_by, iterator_by}
use Rattle.cleanup_groups.proofs.Placed.{by_place, put_there}
use Rattle.cleanup_groups.proofs.Keeps.{room_free, room_lowest, all_free_sound, by_round}
use Rattle.cleanup_groups.proofs.Asked.{finish_means_lem}
use Rattle.std.specs.Prelude.{Ok, Err}
use Rattle.group_record.specs.declared.answered.GroupsAnswered.{GroupsAnswered}
use Rattle.group_openings.specs.Types.{Added}
use Rattle.queue_record.specs.Types.{Opened}

-- ---- a new record: exactly id 0 is live, next is 1, not sealed, and its queue is a fresh scope of the base
pub new_root : (base : ℕ) → base ≤ last_base
    → ((new_of base).answer ≡ Ok tt) × ((new_of base).groups.next ≡ 1) × ((new_of base).groups.sealed
    ≡ false) × LiveAt (new_of base).groups 0 × (id_at (new_of base).groups 0 ≡ 0) × (queue_at (new_of base).groups 0 ≡ scope_of base 0)
unfolding new_of empty_of
new_root base h =
    subst (λ (r : GroupsAnswered Opened). (r.answer ≡ Ok tt) × (r.groups.next ≡ 1) × (r.groups.sealed ≡ false) × LiveAt
    r.groups 0 × (id_at r.groups 0 ≡ 0) × (queue_at r.groups 0 ≡ scope_of base 0))
    (sym (miss _ (le-ltb last_base base h)))
    (refl, refl, refl, refl, refl, refl)

pub new_refused : (base : ℕ) → last_base < base → new_of base ≡ record { answer = Err NoId; groups = empty_of 0 }
unfolding new_of
new_refused base h = hit _ (lt-ltb last_base base h)

pub new_alone : (base i : ℕ) → base ≤ last_base → i < 16 → LiveAt (new_of base).groups i → i ≡ 0
unfolding new_of empty_of
new_alone base i h k = if_by (λ (r : GroupsAnswered Opened). LiveAt r.groups i → i ≡ 0) (ltb last_base base) _ _
    (λ _ a. clash a ((all_free_sound 0 0 true (omega arith) (omega arith)).sealed refl i k))
    (λ _. by_place (empty_of base) 0 (live_place 0 (scope_of base 0)) refl (omega arith) (λ (p : Place). p.live ≡ true → i ≡ 0) i
    (λ e _. e) (λ _ a. clash a ((all_free_sound 0 0 true (omega arith) (omega arith)).sealed refl i k)))

-- ---- an opening that is done
module _ (g : Groups) (l : length g.places ≡ 16) (n : ℕ) where
  add_as : (q : Queue) (i : ℕ) → unsealed g ≡ Ok tt → room_of g ≡ Ok i → ◌≡◌ {A = Added} (Ok g.next) (Ok n) → AddedAs g n q (with_opened g i q)
  add_as q i u e h =
      let z : g.next ≡ n = cc in
      let k = room_free g i l e in
      let p = put_there g i (live_place g.next q) l k.0 in
      record {
        id = sym z;
        next = refl;
        unsealed = (unsealed_means g u).1;
        base = refl;
        place = i;
        inside = k.0;
        was = k.1;
        lowest = room_lowest g i e;
        live = ap (λ (a : Place). a.live) p;
        named = ap (λ (a : Place). a.id) p ∙ z;
        queue = ap (λ (a : Place). a.queue) p;
        places = ap (λ (m : ℕ). set g.places i (live_place m q)) z;
      }

  pub scope_as : (added_scope g).answer ≡ Ok n → AddedAs g n (scope_of (next_domain g) 0) (added_scope g).groups
  scope_as =
      scope_by (λ (r : GroupsAnswered Added). r.answer ≡ Ok n → AddedAs g n (scope_of (next_domain g) 0) r.groups) g
      (λ _ h. let z : ◌≡◌ {A = ℕ} 0 1 = cc in absurd (omega arith)) (λ i u e h. add_as _ i u e h)

  -- the committed bindings are the given ones: it is the queue that opening an iterator with them gives
  pub iterator_as : (bindings : List ℕ) → (added_iterator g bindings).answer ≡ Ok n
      → (length bindings ≤ 16) × AddedAs g n (iterator_of (next_domain g) 0 bindings) (added_iterator g bindings).groups
  iterator_as bindings =
      iterator_by (λ (r : GroupsAnswered Added). r.answer ≡ Ok n → (length bindings ≤ 16) × AddedAs g n (iterator_of (next_domain g) 0 bindings) r.groups) g
      (λ _ h. let z : ◌≡◌ {A = ℕ} 0 1 = cc in absurd (omega arith)) bindings (λ i u b e h. (b, add_as _ i u e h))

-- ---- can_finish says yes: nothing is pending and nothing has failed
pub finish_quiet : (g : Groups) (target : List ℕ) → length g.places ≡ 16 → can_finish_of g target ≡ Ok true
    → (i : ℕ) → i < 16 → LiveAt g i → (is_pending (queue_at g i).phase ≡ false) × ((queue_at g i).failed ≡ false)
finish_quiet g target l h i k a =
    let f : finishes (id_at g i) (queue_at g i) target ≡ true = finish_means_lem g l target h i k a in
    (not-true _ (and_left (not (is_pending (queue_at g i).phase)) _ f), not-true _ (and_left (not (queue_at g i).failed) _ (and_right (not (is_pending (queue_at g i).phase)) _ f)))

-- ---- sealed: no group is live
pub seal_empties : (g : Groups) (i : ℕ) → i < 16 → (place_at (sealing g) i).live ≡ false
unfolding sealing
seal_empties g i k = (all_free_sound 0 0 true (omega arith) (omega arith)).sealed refl i k

-- ---- a round of retries keeps slots, marks of issue and domains
pub round_keeps_slots : (g : Groups) (i : ℕ)
    → ((queue_at (all_retried g) i).slots ≡ (queue_at g i).slots) × ((queue_at (all_retried g) i).issued
    ≡ (queue_at g i).issued) × ((queue_at (all_retried g) i).domain ≡ (queue_at g i).domain)
round_keeps_slots g i = by_round (λ (p : Place). (p.queue.slots ≡ (queue_at g i).slots) × (p.queue.issued ≡ (queue_at g i).issued) × (p.queue.domain ≡ (queue_at g i).domain)) g i
    (λ _ _. let r = retry_leaves_lem (queue_at g i) in (r.0, r.2, call_keeps_domain (queue_at g i) queue.retry)) (λ _. (refl, refl, refl))

pub round_at : (g : Groups) (i : ℕ) → LiveAt g i → (queue_at g i).failed ≡ true → queue_at (all_retried g) i ≡ (retried (queue_at g i)).queue
round_at g i a f = by_round (λ (p : Place). p.queue ≡ (retried (queue_at g i)).queue) g i (λ _ _. refl) (λ n. clash (pass _ a ∙ f) n)
