-- A call on a live id is the queue's own call at its place; on any other id it is refused with 10
use Prim.Native.Nat.{ℕ, ◌+◌, ◌<◌}
use mathlib.Core.Path.{◌≡◌, refl, sym, ap, ◌∙◌, subst}
use mathlib.Core.Bool.{Bool, true, false, not}
use mathlib.Core.List.{List, []}
use borrow.Author.Tests.{eq-eqb}
use lib.ListN.{length}
use Rattle.stage.specs.Phases.{is_cancelled}
use Rattle.choice.proofs.Ways.{hit, miss, clash}
use Rattle.queue_record.specs.Newest.{is_there}
use Rattle.queue_record.specs.Openings.{blank}
use Rattle.queue_record.specs.declared.refusal.Refusal.TheVariants.{Broken, NoGroup}
use Rattle.queue_record.specs.WellFormed.{well_formed}
use Rattle.queue_record.specs.declared.record.Queue.{Queue}
use Rattle.queue_record.specs.declared.record.Ticket.{Ticket}
use Rattle.queue_questions.specs.Questions.{yes_or_no, matches, is_cancelled_told, domain_told}
use Rattle.queue_births.specs.Births.{registered, landed}
use Rattle.queue_births.specs.Sequences.{registered_all}
use Rattle.queue_steps.specs.Attempts.{popped, completed, retried}
use Rattle.queue_stages.specs.Stages.{admitted, ended, cancelled_by}
use Rattle.cleanup_queue.proofs.Finish.{yes_asked}
use Rattle.group_record.specs.Record.{queue_at, free_place}
use Rattle.group_asking.specs.Scan.{first_yes}
use Rattle.group_check.specs.WellFormed.{well_grouped}
use Rattle.group_check.specs.Ids.{spot_at, spot_of, got_at, got}
use Rattle.group_record.specs.declared.record.Place.{Place}
use Rattle.group_record.specs.declared.record.Groups.{Groups}
use Rattle.group_asking.specs.Question.{HoldsId}
use Rattle.group_check.proofs.Spots.{spot_means}
use Rattle.group_questions.specs.ById.{told_by, domain_by, domain_in, negation, accepts_in}
use Rattle.group_endings.specs.Endings.{removed_at, removed}
use Rattle.group_steps.specs.Births.{born_at, registered_at, registered_in, landed_at, landed_in}
use Rattle.group_steps.specs.Sequences.{took_at, registered_all_at, registered_all_in}
use Rattle.group_steps.specs.Attempts.{handed_at, popped_at, popped_in, settled_at, completed_at, completed_in, renewed_at, retried_at, retried_in}
use Rattle.group_stages.specs.Stages.{moved_at, admitted_at, admitted_in, admitted_at_without, admitted_in_without, ended_at, ended_in, stopped_at, cancelled_at, cancelled_in}
use Rattle.cleanup_groups.specs.Promises.{LiveAt, id_at, IsLive, Sound, DrainedQueue}
use Rattle.cleanup_groups.proofs.Sounds.{sound_means}
use Rattle.cleanup_groups.proofs.Asked.{means_some}
use Rattle.cleanup_groups.proofs.Placed.{by_place}
use Rattle.cleanup_groups.proofs.Keeps.{holds_means, spot_live}
use Rattle.cleanup_groups.proofs.Drains.{means_drained, close_means}
use Rattle.std.specs.Prelude.{Option, Some, None, Ok, Err}
use Rattle.queue_record.specs.declared.answered.Answered.{Answered}
use Rattle.group_record.specs.declared.answered.GroupsAnswered.{GroupsAnswered}
use Rattle.group_check.specs.Types.{Got, Spot}
use Rattle.group_endings.specs.Types.{Closed}
use Rattle.queue_questions.specs.Types.{Told}

-- ---- where an id is
module _ (g : Groups) (id : ℕ) where
  pub broken_spot : well_grouped g ≡ false → spot_of g id ≡ Err Broken
  unfolding spot_of
  broken_spot w = hit _ (ap not w)

  module _ (l : length g.places ≡ 16) (w : well_grouped g ≡ true) where
    -- the place of a live id is the one that is found, for no other has it
    pub live_spot : (i : ℕ) → i < 16 → LiveAt g i → id_at g i ≡ id → spot_of g id ≡ Ok i
    unfolding spot_of
    live_spot i k a e = miss _ (ap not w) ∙ go (first_yes g (HoldsId id) []) refl
      where
        go : (f : Option ℕ) → first_yes g (HoldsId id) [] ≡ f → spot_at f ≡ Ok i
        go None h = clash (means_some g l (HoldsId id) [] (λ _ _. refl) (i, k, a, eq-eqb _ _ e)) (ap is_there h)
        go (Some j) h = let v = holds_means g id j l h in ap (λ (m : ℕ). Ok m) ((sound_means g l w).distinct j i v.0 k v.1 a (v.2 ∙ sym e))

    pub dead_spot : (IsLive g id → ⊥) → spot_of g id ≡ Err NoGroup
    unfolding spot_of
    dead_spot n = miss _ (ap not w) ∙ go (first_yes g (HoldsId id) []) refl
      where
        go : (f : Option ℕ) → first_yes g (HoldsId id) [] ≡ f → spot_at f ≡ Err NoGroup
        go None h = refl
        go (Some j) h = let v = holds_means g id j l h in absurd (n (j, v.0, v.1, v.2))

    -- the queue is not given for an id that is not live
    pub get_dead : (IsLive g id → ⊥) → got g id ≡ record { answer = Err NoGroup; queue = blank }
    unfolding got
    get_dead n = ap (got_at g) (dead_spot n)

-- ---- the calls on an id that is live at the place i
module _ (g : Groups) (id i : ℕ) (l : length g.places ≡ 16) (w : well_grouped g ≡ true) (k : i < 16) (a : LiveAt g i) (e : id_at g i ≡ id) where
  spot : spot_of g id ≡ Ok i
  spot = live_spot g id l w i k a e

  sound : well_formed (queue_at g i) ≡ true
  sound = (sound_means g l w).queues i k a

  pub register_as : (number : ℕ) → registered_in g id number ≡ born_at g i (registered (queue_at g i) number)
  unfolding registered_in
  register_as number = ap (registered_at g number) spot

  pub land_as : (number : ℕ) → landed_in g id number ≡ born_at g i (landed (queue_at g i) number)
  unfolding landed_in
  land_as number = ap (landed_at g number) spot

  pub register_all_as : (numbers : List ℕ) → registered_all_in g id numbers ≡ took_at g i (registered_all (queue_at g i) numbers)
  unfolding registered_all_in
  register_all_as numbers = ap (registered_all_at g numbers) spot

  pub pop_as : popped_in g id ≡ handed_at g i (popped (queue_at g i))
  unfolding popped_in
  pop_as = ap (popped_at g) spot

  pub complete_as : (t : Ticket) (outcome kept : ℕ) → completed_in g id t outcome kept ≡ settled_at g i (completed (queue_at g i) t outcome kept)
  unfolding completed_in
  complete_as t outcome kept = ap (completed_at g t outcome kept) spot

  pub retry_as : retried_in g id ≡ renewed_at g i (retried (queue_at g i))
  unfolding retried_in
  retry_as = ap (retried_at g) spot

  pub admit_as : (target : List ℕ) → admitted_in g id target ≡ moved_at g i (admitted (queue_at g i) (matches (queue_at g i) target))
  unfolding admitted_in
  admit_as target = ap (admitted_at g target) spot

  pub admit_without_as : admitted_in_without g id ≡ moved_at g i (admitted (queue_at g i) false)
  unfolding admitted_in_without
  admit_without_as = ap (admitted_at_without g) spot

  pub end_as : ended_in g id ≡ moved_at g i (ended (queue_at g i))
  unfolding ended_in
  end_as = ap (ended_at g) spot

  pub cancel_as : cancelled_in g id ≡ stopped_at g i (cancelled_by (queue_at g i))
  unfolding cancelled_in
  cancel_as = ap (cancelled_at g) spot

  pub get_as : got g id ≡ record { answer = Ok tt; queue = queue_at g i }
  unfolding got
  get_as = ap (got_at g) spot

  -- a yes-or-no call of the group, whichever: what the queue's own tells
  pub told_as : (tells : Queue → Told) → told_by (got g id).answer (tells (got g id).queue) ≡ tells (queue_at g i)
  told_as tells = ap (λ (r : Answered Got). told_by r.answer (tells r.queue)) get_as

  -- its domain is base plus id
  pub domain_as : domain_in g id ≡ Ok (g.base + id)
  unfolding domain_told
  domain_as =
      ap (λ (r : Answered Got). domain_by r.answer (domain_told r.queue)) get_as
      ∙ (miss _ (ap not sound) ∙ ap (λ (d : ℕ). Ok d) ((sound_means g l w).domains i k a ∙ ap (λ (n : ℕ). g.base + n) e))

  turned : (b : Bool) → negation (yes_or_no b) ≡ yes_or_no (not b)
  turned true = refl
  turned false = refl

  -- accepts_acquisition: yes unless its stage is cancelled
  pub accepts_as : accepts_in g id ≡ yes_or_no (not (is_cancelled (queue_at g i).phase))
  unfolding is_cancelled_told
  accepts_as = ap negation (told_as is_cancelled_told ∙ yes_asked (queue_at g i) (is_cancelled (queue_at g i).phase) sound) ∙ turned (is_cancelled (queue_at g i).phase)

  -- a group with nothing left can be closed
  pub drained_closes : DrainedQueue (queue_at g i) → (removed g id).answer ≡ Ok tt
  unfolding removed
  drained_closes n = ap (λ (s : Spot). (removed_at g s).answer) spot ∙ ap (λ (r : GroupsAnswered Closed). r.answer) (miss _ (ap not (means_drained (queue_at g i) sound n)))

-- ---- a closed id is not live any more
pub closed_gone : (g : Groups) (id : ℕ) → length g.places ≡ 16 → (removed g id).answer ≡ Ok tt → IsLive (removed g id).groups id → ⊥
closed_gone g id l h v =
    let c = close_means g id l h in
    let s = spot_live g id c.0 l c.1 in
    let o : Sound g = sound_means g l (spot_means g id c.0 c.1).0 in
    subst (λ (r : Groups). IsLive r id → ⊥) (sym c.3)
    (λ u. by_place g c.0 free_place l s.0 (λ (p : Place). p.live ≡ true → p.id ≡ id → ⊥) u.0
    (λ _ b _. clash {b = false} b refl) (λ n b d. n (o.distinct u.0 c.0 u.1 s.0 b s.1 (d ∙ sym s.2))) u.2 u.3) v
