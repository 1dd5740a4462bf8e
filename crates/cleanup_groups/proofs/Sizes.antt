-- The queue of every place keeps its 64 slots and 16 bindings, whatever is called
use Prim.Native.Nat.{ℕ, ◌<◌}
use mathlib.Core.Path.{◌≡◌, refl, sym, subst}
use mathlib.Core.List.{List, [], ◌∷◌}
use native.Mathlib.Omega.{arith}
use lib.Dec.{ltb}
use lib.ListN.{length, get_or, replicate}
use Rattle.choice.proofs.Ways.{if_by}
use Rattle.queue_record.specs.Record.{Sized}
use Rattle.queue_record.specs.Openings.{scope_of}
use Rattle.queue_record.proofs.OpenedLaws.{scope_sized, blank_sized}
use Rattle.cleanup_queue.specs.Runs as queue
use Rattle.cleanup_queue.proofs.Sizes as sizes
use Rattle.group_record.specs.Record.{nowhere, place_at, queue_at, free_place, live_place, holding, with_place, empty_of, sealing}
use Rattle.group_record.specs.declared.record.Place.{Place}
use Rattle.group_record.specs.declared.record.Groups.{Groups}
use Rattle.group_check.specs.WellFormed.{last_base}
use Rattle.group_openings.specs.Openings.{new_of}
use Rattle.cleanup_groups.specs.Promises.{AllSized}
use Rattle.cleanup_groups.specs.Runs.{GroupCall, groups_after, groups_after_all}
use Rattle.cleanup_groups.proofs.ByCase.{call_by}
use Rattle.cleanup_groups.proofs.Placed.{by_place}
use Rattle.cleanup_groups.proofs.Keeps.{spot_live, room_free, free_there, by_round, call_whole}
use Rattle.group_record.specs.declared.answered.GroupsAnswered.{GroupsAnswered}
use Rattle.queue_record.specs.Types.{Opened}

put_sized : (g : Groups) (i : ℕ) (p : Place) → length g.places ≡ 16 → i < 16 → AllSized g → Sized p.queue → AllSized (with_place g i p)
put_sized g i p l k s z j x = by_place g i p l k (λ (q : Place). Sized q.queue) j (λ _. z) (λ _. s j x)

free_sized : (i : ℕ) → i < 16 → Sized (get_or (replicate 16 free_place) i nowhere).queue
free_sized i k = subst (λ (p : Place). Sized p.queue) (sym (free_there 16 i k)) blank_sized

pub new_sized : (base : ℕ) → AllSized (new_of base).groups
unfolding new_of empty_of
new_sized base =
    if_by (λ (r : GroupsAnswered Opened). AllSized r.groups) (ltb last_base base) _ _ (λ _. free_sized)
    (λ _. put_sized (empty_of base) 0 (live_place 0 (scope_of base 0)) refl (omega arith) free_sized (scope_sized base 0))

pub call_sized : (g : Groups) (c : GroupCall) → length g.places ≡ 16 → AllSized g → AllSized (groups_after g c)
unfolding sealing
call_sized g c l s = call_by AllSized g s
    (λ id i e k. let w = spot_live g id i l e in put_sized g i (holding (place_at g i) (queue.after (queue_at g i) k)) l w.0 s (sizes.call_sized (queue_at g i) k (s i w.0)))
    (λ i q _ e n. put_sized g i (live_place g.next q) l (room_free g i l e).0 s n.sized)
    (λ id i e _. put_sized g i free_place l (spot_live g id i l e).0 s blank_sized)
    (λ _ _. free_sized)
    (λ _ _ i k. by_round (λ (p : Place). Sized p.queue) g i (λ _ _. sizes.call_sized (queue_at g i) queue.retry (s i k)) (λ _. s i k)) c

pub run_sized : (g : Groups) (cs : List GroupCall) → length g.places ≡ 16 → AllSized g → AllSized (groups_after_all g cs)
run_sized g [] l s = s
run_sized g (c ∷ cs) l s = run_sized (groups_after g c) cs (call_whole g c l) (call_sized g c l s)
