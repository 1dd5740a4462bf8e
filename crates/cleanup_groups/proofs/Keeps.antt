-- Every call keeps a well-formed group record well formed
use Prim.Native.Nat.{ℕ, zero, suc, ◌+◌, ◌<◌, ◌≤◌}
use mathlib.Core.Path.{◌≡◌, refl, sym, ap, ◌∙◌, subst}
use mathlib.Core.Bool.{Bool, true, false, ◌&&◌}
use mathlib.Core.List.{List, [], ◌∷◌}
use native.Mathlib.Omega.{arith}
use borrow.Author.Tests.{eqb-true, ltb-false}
use lib.Dec.{eqb, ltb}
use lib.ListN.{length, get_or, replicate}
use Rattle.choice.specs.Choice.{when◌then◌else◌}
use Rattle.choice.proofs.Ways.{if_by, and_left, and_right, clash}
use Rattle.queue_record.specs.WellFormed.{well_formed}
use Rattle.queue_record.specs.Openings.{scope_of, blank}
use Rattle.queue_record.specs.Blank.{is_blank}
use Rattle.queue_record.specs.declared.record.Queue.{Queue}
use Rattle.queue_record.proofs.OpenedLaws.{scope_well_formed, scope_sized}
use Rattle.queue_steps.specs.Attempts.{retried}
use Rattle.cleanup_queue.specs.Runs as queue
use Rattle.cleanup_queue.proofs.Keeps as queues
use Rattle.cleanup_queue.proofs.Upstream.{call_keeps_domain}
use Rattle.group_record.specs.Record.{nowhere, place_at, queue_at, free_place, live_place, holding, with_place, with_queue, with_next_id, empty_of, with_opened, sealing}
use Rattle.group_asking.specs.Questions.{asks_of}
use Rattle.group_asking.specs.Scan.{first_yes}
use Rattle.group_check.specs.WellFormed.{last_base, ids, well_grouped}
use Rattle.group_check.specs.Ids.{spot_of}
use Rattle.group_record.specs.declared.record.Place.{Place}
use Rattle.group_record.specs.declared.record.Groups.{Groups}
use Rattle.group_asking.specs.Question.{Question, Free, HoldsId}
use Rattle.group_check.proofs.Spots.{spot_means}
use Rattle.group_openings.specs.Openings.{new_of, room_of}
use Rattle.group_openings.proofs.Room.{unsealed_means, room_means}
use Rattle.group_rounds.specs.Rounds.{retried_place, retried_places, all_retried}
use Rattle.cleanup_groups.specs.Promises.{LiveAt, id_at, Sound}
use Rattle.cleanup_groups.specs.Runs.{GroupCall, groups_after, groups_after_all}
use Rattle.cleanup_groups.proofs.Every.{found_says, found_lowest}
use Rattle.cleanup_groups.proofs.Sounds.{sound_means, means_sound}
use Rattle.cleanup_groups.proofs.ByCase.{New, call_by}
use Rattle.cleanup_groups.proofs.Placed.{replaced, raised, same_length}
use Rattle.std.specs.Prelude.{Some, Ok}
use Rattle.group_record.specs.declared.answered.GroupsAnswered.{GroupsAnswered}
use Rattle.queue_record.specs.Types.{Opened}

-- ---- what is found
found_at : (g : Groups) (question : Question) (i : ℕ) → length g.places ≡ 16 → first_yes g question [] ≡ Some i → (i < 16) × (asks_of question [] (place_at g i) ≡ true)
found_at g question i l e =
    let w = found_says (asks_of question []) 0 g.places i e in
    let z : i ≡ 0 + w.0 = w.1 in
    let y : w.0 ≡ i = omega arith in
    let m : w.0 < length g.places = w.2 in
    (omega arith, subst (λ (k : ℕ). asks_of question [] (place_at g k) ≡ true) y w.3)

live_yes : (b x : Bool) → (when b then x else false) ≡ true → (b ≡ true) × (x ≡ true)
live_yes true x h = (refl, h)
live_yes false x h = clash {b = false} h refl

free_yes : (b : Bool) → (when b then false else true) ≡ true → b ≡ false
free_yes true h = clash {b = false} h refl
free_yes false h = refl

-- where an id is found it is live
pub holds_means : (g : Groups) (id i : ℕ) → length g.places ≡ 16 → first_yes g (HoldsId id) [] ≡ Some i → (i < 16) × LiveAt g i × (id_at g i ≡ id)
holds_means g id i l e =
    let w = found_at g (HoldsId id) i l e in
    let v = live_yes (place_at g i).live (eqb (id_at g i) id) w.1 in
    (w.0, v.0, eqb-true _ _ v.1)

pub spot_live : (g : Groups) (id i : ℕ) → length g.places ≡ 16 → spot_of g id ≡ Ok i → (i < 16) × LiveAt g i × (id_at g i ≡ id)
spot_live g id i l e = holds_means g id i l (spot_means g id i e).1

pub room_free : (g : Groups) (i : ℕ) → length g.places ≡ 16 → room_of g ≡ Ok i → (i < 16) × ((place_at g i).live ≡ false)
room_free g i l e = let w = found_at g Free i l (room_means g i e).0 in (w.0, free_yes (place_at g i).live w.1)

not_free : (b : Bool) → (when b then false else true) ≡ false → b ≡ true
not_free true h = refl
not_free false h = clash {b = true} refl h

-- every place below it is live: it is the lowest free one
pub room_lowest : (g : Groups) (i : ℕ) → room_of g ≡ Ok i → (j : ℕ) → j < i → LiveAt g j
room_lowest g i e j k = not_free (place_at g j).live (found_lowest (asks_of Free []) 0 g.places i (room_means g i e).0 j (omega arith))

-- ---- one queue steps
module _ (g : Groups) (l : length g.places ≡ 16) (s : Sound g) where
  pub step_sound : (i : ℕ) (q : Queue) → i < 16 → LiveAt g i → well_formed q ≡ true → q.domain ≡ (queue_at g i).domain → Sound (with_queue g i q)
  step_sound i q k a w d = replaced g i (holding (place_at g i) q) l k s (record {
    apart = λ _ j x n b e. n (s.distinct j i x k b a e);
    below = s.below i k;
    sound = λ _. w;
    domain = λ _. d ∙ s.domains i k a;
    free = λ b. clash a b;
    sealed = λ e. s.sealed e i k;
  })

  open_sound : (i : ℕ) (q : Queue) → i < 16 → g.sealed ≡ false → g.next < 65536 → New g q → Sound (with_opened g i q)
  open_sound i q k u h n = replaced (with_next_id g (g.next + 1)) i (live_place g.next q) l k (raised g s h) (record {
    apart = λ _ j x m b e. let y : id_at g j < g.next = s.below j x b in omega arith;
    below = λ _. omega arith;
    sound = λ _. n.sound;
    domain = λ _. n.domain;
    free = λ b. clash {b = true} refl b;
    sealed = λ e. clash e u;
  })

  free_sound : (i : ℕ) → i < 16 → Sound (with_place g i free_place)
  unfolding blank scope_of
  free_sound i k = replaced g i free_place l k s (record {
    apart = λ b j x m c e. clash {b = false} b refl;
    below = λ b. clash {b = false} b refl;
    sound = λ b. clash {b = false} b refl;
    domain = λ b. clash {b = false} b refl;
    free = λ _. (refl, refl);
    sealed = λ _. refl;
  })

-- ---- all places free
pub free_there : (n i : ℕ) → i < n → get_or (replicate n free_place) i nowhere ≡ free_place
free_there zero i h = absurd (omega arith)
free_there (suc n) zero h = refl
free_there (suc n) (suc i) h = free_there n i (omega arith)

abbrev all_free : ℕ → ℕ → Bool → Groups
all_free base next sealed = record { base = base; next = next; sealed = sealed; places = replicate 16 free_place }

pub all_free_sound : (base next : ℕ) (b : Bool) → base ≤ last_base → next ≤ ids → Sound (all_free base next b)
unfolding blank scope_of
all_free_sound base next b x y = record {
  base = x;
  next = y;
  distinct = λ i j k m a c e. clash a (mark i k);
  below = λ i k a. clash a (mark i k);
  queues = λ i k a. clash a (mark i k);
  domains = λ i k a. clash a (mark i k);
  free = λ i k a. (ap (λ (p : Place). p.id) (free_there 16 i k), ap (λ (p : Place). is_blank p.queue) (free_there 16 i k));
  sealed = λ _ i k. mark i k;
}
  where
    mark : (i : ℕ) → i < 16 → (place_at (all_free base next b) i).live ≡ false
    mark i k = ap (λ (p : Place). p.live) (free_there 16 i k)

-- ---- a round of retries
retried_at_lem : (ps : List Place) (i : ℕ) → get_or (retried_places ps) i nowhere ≡ retried_place (get_or ps i nowhere)
retried_at_lem [] i = refl
retried_at_lem (p ∷ ps) zero = refl
retried_at_lem (p ∷ ps) (suc i) = retried_at_lem ps i

retried_length : (ps : List Place) → length (retried_places ps) ≡ length ps
retried_length [] = refl
retried_length (p ∷ ps) = ap suc (retried_length ps)

-- a place after the round: retried where it is live and has failed, else as it was
pub by_round : (P : Place → Type 0) (g : Groups) (i : ℕ) → (LiveAt g i → (queue_at g i).failed ≡ true → P (holding (place_at g i) (retried (queue_at g i)).queue))
    → (((place_at g i).live && (queue_at g i).failed) ≡ false → P (place_at g i)) → P (place_at (all_retried g) i)
by_round P g i f h =
    subst P (sym (retried_at_lem g.places i))
    (if_by P ((place_at g i).live && (queue_at g i).failed) _ _ (λ e. f (and_left (place_at g i).live (queue_at g i).failed e) (and_right (place_at g i).live (queue_at g i).failed e)) h)

module _ (g : Groups) where
  pub round_live : (i : ℕ) → (place_at (all_retried g) i).live ≡ (place_at g i).live
  round_live i = by_round (λ (p : Place). p.live ≡ (place_at g i).live) g i (λ _ _. refl) (λ _. refl)

  pub round_id : (i : ℕ) → id_at (all_retried g) i ≡ id_at g i
  round_id i = by_round (λ (p : Place). p.id ≡ id_at g i) g i (λ _ _. refl) (λ _. refl)

  round_sound : Sound g → Sound (all_retried g)
  round_sound s = record {
    base = s.base;
    next = s.next;
    distinct = λ i j k m a b e. s.distinct i j k m (sym (round_live i) ∙ a) (sym (round_live j) ∙ b) (sym (round_id i) ∙ (e ∙ round_id j));
    below = λ i k a. subst (λ (n : ℕ). n < g.next) (sym (round_id i)) (s.below i k (sym (round_live i) ∙ a));
    queues = λ i k a. by_round (λ (p : Place). well_formed p.queue ≡ true) g i (λ b _. queues.call_keeps (queue_at g i) queue.retry (s.queues i k b)) (λ _. s.queues i k (sym (round_live i) ∙ a));
    domains =
        λ i k a. by_round (λ (p : Place). p.queue.domain ≡ g.base + p.id) g i
        (λ b _. call_keeps_domain (queue_at g i) queue.retry ∙ s.domains i k b) (λ _. s.domains i k (sym (round_live i) ∙ a));
    free = λ i k a. by_round (λ (p : Place). (p.id ≡ 0) × (is_blank p.queue ≡ true)) g i (λ b _. clash b (sym (round_live i) ∙ a)) (λ _. s.free i k (sym (round_live i) ∙ a));
    sealed = λ e i k. round_live i ∙ s.sealed e i k;
  }

-- ---- every call
pub call_whole : (g : Groups) (c : GroupCall) → length g.places ≡ 16 → length (groups_after g c).places ≡ 16
unfolding sealing
call_whole g c l = call_by (λ (h : Groups). length h.places ≡ 16) g l
    (λ id i _ k. same_length g i (holding (place_at g i) (queue.after (queue_at g i) k)) l)
    (λ i q _ _ _. same_length g i (live_place g.next q) l)
    (λ id i _ _. same_length g i free_place l)
    (λ _ _. refl)
    (λ _ _. retried_length g.places ∙ l) c

module _ (g : Groups) (l : length g.places ≡ 16) where
  sound_after : Sound g → (c : GroupCall) → Sound (groups_after g c)
  unfolding sealing
  sound_after s c = call_by (λ (h : Groups). Sound h) g s
      (λ id i e k. let w = spot_live g id i l e in
      step_sound g l s i (queue.after (queue_at g i) k) w.0 w.1 (queues.call_keeps (queue_at g i) k (s.queues i w.0 w.1)) (call_keeps_domain (queue_at g i) k))
      (λ i q u e n. open_sound g l s i q (room_free g i l e).0 (unsealed_means g u).1 (room_means g i e).1 n)
      (λ id i e _. free_sound g l s i (spot_live g id i l e).0)
      (λ _ _. all_free_sound g.base g.next true s.base s.next)
      (λ _ _. round_sound g s) c

  pub call_keeps : (c : GroupCall) → well_grouped g ≡ true → well_grouped (groups_after g c) ≡ true
  call_keeps c h = means_sound (groups_after g c) (call_whole g c l) (sound_after (sound_means g l h) c)

pub run_whole : (g : Groups) (cs : List GroupCall) → length g.places ≡ 16 → length (groups_after_all g cs).places ≡ 16
run_whole g [] l = l
run_whole g (c ∷ cs) l = run_whole (groups_after g c) cs (call_whole g c l)

pub run_keeps : (g : Groups) (cs : List GroupCall) → length g.places ≡ 16 → well_grouped g ≡ true → well_grouped (groups_after_all g cs) ≡ true
run_keeps g [] l h = h
run_keeps g (c ∷ cs) l h = run_keeps (groups_after g c) cs (call_whole g c l) (call_keeps g l c h)

-- ---- a new record
pub new_whole : (base : ℕ) → length (new_of base).groups.places ≡ 16
unfolding new_of empty_of
new_whole base = if_by (λ (r : GroupsAnswered Opened). length r.groups.places ≡ 16) (ltb last_base base) _ _ (λ _. refl) (λ _. refl)

empty_keeps : (base : ℕ) → base ≤ last_base → well_grouped (empty_of base) ≡ true
unfolding empty_of
empty_keeps base h = means_sound (all_free base 0 false) refl (all_free_sound base 0 false h (omega arith))

root_keeps : (base : ℕ) → base ≤ last_base → well_grouped (with_opened (empty_of base) 0 (scope_of base 0)) ≡ true
unfolding empty_of scope_of
root_keeps base h =
    let z : base ≡ base + 0 = omega arith in
    means_sound (with_opened (all_free base 0 false) 0 (scope_of base 0)) refl
    (open_sound (all_free base 0 false) refl (all_free_sound base 0 false h (omega arith)) 0 (scope_of base 0)
    (omega arith) refl (omega arith) (record { sound = scope_well_formed base 0; domain = z; sized = scope_sized base 0 }))

pub new_keeps : (base : ℕ) → well_grouped (new_of base).groups ≡ true
unfolding new_of
new_keeps base = if_by (λ (r : GroupsAnswered Opened). well_grouped r.groups ≡ true) (ltb last_base base) _ _ (λ _. empty_keeps 0 (omega arith)) (λ e. root_keeps base (ltb-false _ _ e))
