-- A whole list registered in a group is the separate calls that were taken, each with its token, and the refusal of the next one
use Prim.Native.Nat.{ℕ, ◌+◌, ◌-◌, ◌<◌, ◌≤◌, min}
use mathlib.Core.Path.{◌≡◌, refl, sym, ap, ◌∙◌, subst}
use mathlib.Core.Logic.{◌↔◌}
use mathlib.Core.Bool.{Bool, true, false, not}
use mathlib.Core.List.{List, [], ◌∷◌}
use native.Mathlib.Omega.{arith}
use lib.ListN.{length, take}
use Rattle.choice.proofs.Ways.{miss}
use Rattle.queue_record.specs.declared.refusal.Refusal.{Refusal}
use Rattle.queue_record.proofs.Refused.{some_none}
use Rattle.queue_record.specs.Newest.{is_there}
use Rattle.choice.specs.Choice.{when◌then◌else◌}
use Rattle.group_asking.specs.Scan.{first_yes}
use Rattle.group_asking.specs.Question.{HoldsId}
use Rattle.queue_record.specs.declared.refusal.Refusal.TheVariants.{Broken, NoGroup}
use Rattle.queue_record.specs.WellFormed.{well_formed}
use Rattle.queue_births.specs.Sequences.{registered_all}
use Rattle.cleanup_queue.specs.Orders.{first_refusal}
use Rattle.cleanup_queue.specs.WholeLists.{before_zero}
use Rattle.cleanup_queue.proofs.ListLaws.{all_counted, all_none}
use Rattle.group_record.specs.Record.{queue_at}
use Rattle.group_record.specs.declared.record.Groups.{Groups}
use Rattle.group_check.specs.WellFormed.{well_grouped}
use Rattle.group_check.specs.Ids.{spot_at, spot_of}
use Rattle.group_check.proofs.Spots.{spot_means}
use Rattle.group_steps.specs.Births.{registered_at, registered_in}
use Rattle.group_steps.specs.Sequences.{took_at, registered_all_at, registered_all_in}
use Rattle.cleanup_groups.specs.Orders.{id_order}
use Rattle.cleanup_groups.specs.Promises.{LiveAt, id_at, IsLive, AllSized}
use Rattle.cleanup_groups.specs.Runs.{groups_after_all}
use Rattle.cleanup_groups.specs.Sequences.{registers_in, separate_call, took_none_in, groups_in_turn}
use Rattle.cleanup_groups.proofs.ByCase.{by_spot}
use Rattle.cleanup_groups.proofs.Sounds.{sound_means}
use Rattle.cleanup_groups.proofs.Keeps.{spot_live, run_whole, run_keeps}
use Rattle.cleanup_groups.proofs.Sizes.{run_sized}
use Rattle.cleanup_groups.proofs.Live.{broken_spot, live_spot, dead_spot, register_all_as}
use Rattle.cleanup_groups.proofs.Refusals.{put_back}
use Rattle.cleanup_groups.proofs.InTurn.{turn_calls, turn_refused, turn_within, turn_done, turn_all, at_in_turn, turn_tokens, onward, RefusedNext}
use Rattle.queue_births.specs.declared.sequences.RegisteredAll.{RegisteredAll}
use Rattle.std.specs.Prelude.{Option, Some, None, Ok, Err}
use Rattle.group_record.specs.declared.answered.GroupsAnswered.{GroupsAnswered}
use Rattle.group_check.specs.Types.{Spot}

-- ---- the call, by where the id is
module _ (g : Groups) (id : ℕ) where
  -- refused with 1 or 10 it takes none, of an empty list too
  groups_refused : (r : Refusal) → spot_of g id ≡ Err r → (numbers : List ℕ) → registered_all_in g id numbers ≡ took_none_in g (Some r)
  unfolding registered_all_in
  groups_refused r e numbers = ap (registered_all_at g numbers) e

  pub groups_broken : well_grouped g ≡ false → (numbers : List ℕ) → registered_all_in g id numbers ≡ took_none_in g (Some Broken)
  groups_broken w = groups_refused Broken (broken_spot g id w)

  -- none taken changes nothing
  pub groups_none_taken : (numbers : List ℕ) → (registered_all_in g id numbers).answer.taken ≡ 0 → (registered_all_in g id numbers).groups ≡ g
  unfolding registered_all_in
  groups_none_taken numbers =
      by_spot (λ (r : GroupsAnswered RegisteredAll). r.answer.taken ≡ 0 → r.groups ≡ g) (registered_all_at g numbers) (spot_of g id)
      (λ _ _ _. refl) (λ i _ h. put_back g i _ (all_none (queue_at g i) numbers h))

  -- the fold too is refused at its first number
  turn_refuses : (r : Refusal) → spot_of g id ≡ Err r → (n : ℕ) (ns : List ℕ) → groups_in_turn g id (n ∷ ns) ≡ took_none_in g (Some r)
  unfolding groups_in_turn registered_in
  turn_refuses r e n ns = ap (λ (s : Spot). onward (registered_at g n s) id ns) e

  -- what looking for the id alone refuses with
  refusal_at : Spot → Option Refusal
  refusal_at (Ok i) = None
  refusal_at (Err r) = Some r

  id_refusal : (s : Spot) → spot_of g id ≡ s → first_refusal (id_order g id) ≡ refusal_at s
  unfolding spot_of refusal_at
  id_refusal s e = go (not (well_grouped g)) (first_yes g (HoldsId id) []) ∙ ap refusal_at e
    where
      go : (a : Bool) (v : Option ℕ) → (when a then Some Broken else when not (is_there v) then Some NoGroup else None) ≡ refusal_at (when a then Err Broken else spot_at v)
      go true v = refl
      go false None = refl
      go false (Some i) = refl

  module _ (l : length g.places ≡ 16) where
    pub groups_dead : well_grouped g ≡ true → (IsLive g id → ⊥) → (numbers : List ℕ) → registered_all_in g id numbers ≡ took_none_in g (Some NoGroup)
    groups_dead w n = groups_refused NoGroup (dead_spot g id l w n)

    -- where the id is found, each is registered in turn
    groups_turn_at : (i : ℕ) → spot_of g id ≡ Ok i → (numbers : List ℕ) → registered_all_in g id numbers ≡ groups_in_turn g id numbers
    unfolding registered_all_in registered_all
    groups_turn_at i e numbers =
        let s = spot_live g id i l e in
        let sound : well_formed (queue_at g i) ≡ true = (sound_means g l (spot_means g id i e).0).queues i s.0 s.1 in
        ap (registered_all_at g numbers) e ∙ (ap (took_at g i) (miss _ (ap not sound)) ∙ at_in_turn g id i numbers l e)

    -- a list with a number in it, whatever the record and the id
    pub groups_as_fold : (n : ℕ) (ns : List ℕ) → registered_all_in g id (n ∷ ns) ≡ groups_in_turn g id (n ∷ ns)
    groups_as_fold n ns = go (spot_of g id) refl
      where
        go : (s : Spot) → spot_of g id ≡ s → registered_all_in g id (n ∷ ns) ≡ groups_in_turn g id (n ∷ ns)
        go (Err r) e = groups_refused r e (n ∷ ns) ∙ sym (turn_refuses r e n ns)
        go (Ok i) e = groups_turn_at i e (n ∷ ns)

    -- the empty list takes none: 1, then 10, then 0
    pub groups_empty_list : registered_all_in g id [] ≡ took_none_in g (first_refusal (id_order g id))
    unfolding groups_in_turn refusal_at
    groups_empty_list = go (spot_of g id) refl
      where
        go : (s : Spot) → spot_of g id ≡ s → registered_all_in g id [] ≡ took_none_in g (first_refusal (id_order g id))
        go (Err r) e = groups_refused r e [] ∙ ap (took_none_in g) (sym (id_refusal (Err r) e))
        go (Ok i) e = groups_turn_at i e [] ∙ ap (took_none_in g) (sym (id_refusal (Ok i) e))

    -- ---- so it is the fold, but for the empty list
    by_fold : (P : List ℕ → GroupsAnswered RegisteredAll → Type 0) → P [] (took_none_in g (first_refusal (id_order g id)))
        → ((n : ℕ) (ns : List ℕ) → P (n ∷ ns) (groups_in_turn g id (n ∷ ns))) → (numbers : List ℕ) → P numbers (registered_all_in g id numbers)
    by_fold P none some [] = subst (P []) (sym groups_empty_list) none
    by_fold P none some (n ∷ ns) = subst (P (n ∷ ns)) (sym (groups_as_fold n ns)) (some n ns)

    -- the record is that of the separate calls that were taken
    pub groups_in_turn_lem : (numbers : List ℕ) → (registered_all_in g id numbers).groups ≡ groups_after_all g (registers_in id (take (registered_all_in g id numbers).answer.taken numbers))
    groups_in_turn_lem =
        by_fold (λ (ns : List ℕ) (r : GroupsAnswered RegisteredAll). r.groups ≡ groups_after_all g (registers_in id (take r.answer.taken ns))) refl
        (λ n ns. turn_calls g id (n ∷ ns))

    groups_taken_within : (numbers : List ℕ) → (registered_all_in g id numbers).answer.taken ≤ length numbers
    groups_taken_within = by_fold (λ (ns : List ℕ) (r : GroupsAnswered RegisteredAll). r.answer.taken ≤ length ns) (omega arith) (λ n ns. turn_within g id (n ∷ ns))

    -- where a number is left, the separate call of it, behind those that were taken, is refused by the same refusal
    pub groups_next_refused : (numbers : List ℕ) → (registered_all_in g id numbers).answer.taken < length numbers → RefusedNext g id numbers (registered_all_in g id numbers).answer
    groups_next_refused =
        by_fold (λ (ns : List ℕ) (r : GroupsAnswered RegisteredAll). r.answer.taken < length ns → RefusedNext g id ns r.answer)
        (λ h. absurd (omega arith)) (λ n ns. turn_refused g id (n ∷ ns))

    -- each separate call that was taken gives a token: the count of tokens that there were, and from there on
    abbrev TokenAt : List ℕ → ℕ → Type 0
    TokenAt numbers k = (i : ℕ) × (i < 16) × LiveAt g i × (id_at g i ≡ id) × ((separate_call g id numbers k).answer ≡ Ok ((queue_at g i).count + k))

    pub groups_each_token : (numbers : List ℕ) (k : ℕ) → k < (registered_all_in g id numbers).answer.taken → TokenAt numbers k
    groups_each_token numbers k = go (spot_of g id) refl
      where
        go : (s : Spot) → spot_of g id ≡ s → k < (registered_all_in g id numbers).answer.taken → TokenAt numbers k
        go (Err r) e h =
            let t : (registered_all_in g id numbers).answer.taken ≡ 0 = ap (λ (a : GroupsAnswered RegisteredAll). a.answer.taken) (groups_refused r e numbers) in
            absurd (omega arith)
        go (Ok i) e h =
            let s = spot_live g id i l e in
            let t : (registered_all_in g id numbers).answer.taken ≡ (groups_in_turn g id numbers).answer.taken =
            ap (λ (a : GroupsAnswered RegisteredAll). a.answer.taken) (groups_turn_at i e numbers) in
            (i, s.0, s.1, s.2, turn_tokens g id i numbers k l e (omega arith))

    -- a sound record of sixteen places stays one
    groups_stay_whole : (numbers : List ℕ) → length (registered_all_in g id numbers).groups.places ≡ 16
    groups_stay_whole numbers = ap (λ (h : Groups). length h.places) (groups_in_turn_lem numbers) ∙ run_whole g (registers_in id (take (registered_all_in g id numbers).answer.taken numbers)) l

    pub groups_stay_sound_lem : (numbers : List ℕ) → well_grouped g ≡ true → well_grouped (registered_all_in g id numbers).groups ≡ true
    groups_stay_sound_lem numbers w = ap well_grouped (groups_in_turn_lem numbers) ∙ run_keeps g (registers_in id (take (registered_all_in g id numbers).answer.taken numbers)) l w

    groups_stay_sized : (numbers : List ℕ) → AllSized g → AllSized (registered_all_in g id numbers).groups
    groups_stay_sized numbers z = subst AllSized (sym (groups_in_turn_lem numbers)) (run_sized g (registers_in id (take (registered_all_in g id numbers).answer.taken numbers)) l z)

    -- ---- it is not refused exactly if the id is live in a sound record and all are taken
    abbrev AllTaken : List ℕ → Type 0
    AllTaken numbers = (well_grouped g ≡ true) × IsLive g id × ((registered_all_in g id numbers).answer.taken ≡ length numbers)

    pub groups_done_exactly : (numbers : List ℕ) → ((registered_all_in g id numbers).answer.refusal ≡ None) ↔ AllTaken numbers
    groups_done_exactly numbers = (λ h. taken (spot_of g id) refl h, λ v. answered v)
      where
        taken : (s : Spot) → spot_of g id ≡ s → (registered_all_in g id numbers).answer.refusal ≡ None → AllTaken numbers
        taken (Err r) e h = some_none (sym (ap (λ (a : GroupsAnswered RegisteredAll). a.answer.refusal) (groups_refused r e numbers)) ∙ h)
        taken (Ok i) e h =
            let s = spot_live g id i l e in
            let same = groups_turn_at i e numbers in
            let t = turn_done g id numbers (sym (ap (λ (a : GroupsAnswered RegisteredAll). a.answer.refusal) same) ∙ h) in
            ((spot_means g id i e).0, (i, s.0, s.1, s.2), ap (λ (a : GroupsAnswered RegisteredAll). a.answer.taken) same ∙ t)

        answered : AllTaken numbers → (registered_all_in g id numbers).answer.refusal ≡ None
        answered v =
            let i = v.1.0 in
            let same = groups_turn_at i (live_spot g id l v.0 i v.1.1 v.1.2 v.1.3) numbers in
            ap (λ (a : GroupsAnswered RegisteredAll). a.answer.refusal) same ∙ turn_all g id numbers (sym (ap (λ (a : GroupsAnswered RegisteredAll). a.answer.taken) same) ∙ v.2)

-- ---- of a live id: as many as lie before the first 0, and as slots of its queue are free
pub groups_counted : (g : Groups) (id i : ℕ) → length g.places ≡ 16 → well_grouped g ≡ true → i < 16 → LiveAt g i → id_at g i ≡ id → (numbers : List ℕ)
    → (registered_all_in g id numbers).answer.taken ≡ min (before_zero numbers) (64 - (queue_at g i).count)
groups_counted g id i l w k a e numbers =
    ap (λ (r : GroupsAnswered RegisteredAll). r.answer.taken) (register_all_as g id i l w k a e numbers) ∙ all_counted (queue_at g i) numbers ((sound_means g l w).queues i k a)
