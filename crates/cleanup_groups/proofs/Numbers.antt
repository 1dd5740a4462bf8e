-- Openings, close and seal answer the first refusal that is due, and 0 where none is
use Prim.Native.Nat.{ℕ}
use mathlib.Core.Path.{◌≡◌, refl}
use mathlib.Core.Bool.{Bool, true, false, not}
use mathlib.Core.List.{List, [], ◌∷◌}
use lib.Dec.{leb, ltb}
use lib.ListN.{length}
use Rattle.choice.specs.Choice.{when◌then◌else◌}
use Rattle.queue_record.specs.declared.refusal.Refusal.{Refusal}
use Rattle.queue_record.specs.Newest.{is_there}
use Rattle.queue_record.specs.declared.refusal.Refusal.TheVariants.{Broken, GroupsFull, Sealed, NoId}
use Rattle.queue_record.specs.Refusals.{refusal_number, broken, no_group, sealed, not_drained}
use Rattle.queue_record.specs.Openings.{scope_opened, iterator_opened}
use Rattle.queue_record.specs.declared.record.Queue.{Queue}
use Rattle.cleanup_queue.specs.Answers.{opened_says}
use Rattle.cleanup_queue.proofs.Numbers.{due_if}
use Rattle.cleanup_queue.specs.Orders.{due, first_due}
use Rattle.group_record.specs.Record.{queue_at}
use Rattle.group_asking.specs.Questions.{drained}
use Rattle.group_asking.specs.Scan.{first_yes, some_yes}
use Rattle.group_check.specs.WellFormed.{last_base, ids, well_grouped}
use Rattle.group_check.specs.Ids.{spot_at, spot_of, got_at, got}
use Rattle.group_record.specs.declared.record.Groups.{Groups}
use Rattle.group_asking.specs.Question.{Free, HoldsId, Undrained}
use Rattle.group_openings.specs.Openings.{new_of, unsealed, next_domain, room_at, added_at, added, added_queue, added_opening, added_scope, added_iterator}
use Rattle.group_endings.specs.Endings.{removed_at, removed, sealed_by, sealed_in}
use Rattle.cleanup_groups.specs.Answers.{added_says, closed_says, got_says}
use Rattle.cleanup_groups.specs.Orders.{new_order, open_order, id_order, undrained_at, close_order, seal_order}
use Rattle.std.specs.Prelude.{Option, Some, None, Ok, Err}
use Rattle.queue_record.specs.declared.answered.Answered.{Answered}
use Rattle.group_record.specs.declared.answered.GroupsAnswered.{GroupsAnswered}
use Rattle.group_check.specs.Types.{Spot}
use Rattle.group_endings.specs.Types.{Closed}
use Rattle.group_openings.specs.Types.{Added}
use Rattle.queue_record.specs.Types.{Opened}

pub new_number : (base : ℕ) → (opened_says (new_of base).answer).number ≡ first_due (new_order base)
unfolding new_of
new_number base = due_if (λ (r : GroupsAnswered Opened). (opened_says r.answer).number) (ltb last_base base) _ _ refl refl

-- ---- openings
module _ (g : Groups) where
  abbrev number_of : GroupsAnswered Added → ℕ
  number_of r = (added_says r.answer).number

  -- 1 and 12, then the rest
  gate_number : (f : Opened → GroupsAnswered Added) (rest : ℕ) → ((r : Refusal) → number_of (f (Err r)) ≡ refusal_number r) → number_of (f (Ok tt)) ≡ rest
      → number_of (f (unsealed g)) ≡ (when not (well_grouped g) then broken else when g.sealed then sealed else rest)
  gate_number f rest r o = go (not (well_grouped g)) g.sealed
    where
      go : (a b : Bool) → number_of (f (when a then Err Broken else when b then Err Sealed else (Ok tt))) ≡ (when a then broken else when b then sealed else rest)
      go true b = r Broken
      go false true = r Sealed
      go false false = o

  -- 11 and 19
  room_number : (q : Queue) → number_of (added g q) ≡ first_due (due GroupsFull (not (some_yes g Free [])) ∷ due NoId (leb ids g.next) ∷ [])
  room_number q = go (first_yes g Free [])
    where
      go : (f : Option ℕ) → number_of (added_at g q (room_at g f)) ≡ first_due (due GroupsFull (not (is_there f)) ∷ due NoId (leb ids g.next) ∷ [])
      go None = refl
      go (Some i) = due_if (λ (s : Spot). number_of (added_at g q s)) (leb ids g.next) _ _ refl refl

  pub scope_number : number_of (added_scope g) ≡ first_due (open_order g [])
  unfolding added_scope
  scope_number = gate_number (added_opening g (scope_opened (next_domain g) 0)) _ (λ _. refl) (room_number _)

  pub iterator_number : (bindings : List ℕ) → number_of (added_iterator g bindings) ≡ first_due (open_order g bindings)
  unfolding added_iterator iterator_opened
  iterator_number bindings =
      gate_number (added_opening g (iterator_opened (next_domain g) 0 bindings)) _
      (λ _. refl) (due_if (λ (o : Answered Opened). number_of (added_queue g o.queue o.answer)) (ltb 16 (length bindings)) _ _ refl (room_number _))

-- ---- by id
module _ (g : Groups) (id : ℕ) where
  pub get_number : (got_says (got g id).answer).number ≡ first_due (id_order g id)
  unfolding got spot_of
  get_number = go (not (well_grouped g)) (first_yes g (HoldsId id) [])
    where
      go : (a : Bool) (f : Option ℕ) → (got_says (got_at g (when a then Err Broken else spot_at f)).answer).number ≡ (when a then broken else when not (is_there f) then no_group else 0)
      go true f = refl
      go false None = refl
      go false (Some i) = refl

  pub close_number : (closed_says (removed g id).answer).number ≡ first_due (close_order g id)
  unfolding removed spot_of
  close_number = go (not (well_grouped g)) (first_yes g (HoldsId id) [])
    where
      go : (a : Bool) (f : Option ℕ) → (closed_says (removed_at g (when a then Err Broken else spot_at f)).answer).number
          ≡ (when a then broken else when not (is_there f) then no_group else when undrained_at g f then not_drained else 0)
      go true f = refl
      go false None = refl
      go false (Some i) = due_if (λ (r : GroupsAnswered Closed). (closed_says r.answer).number) (not (drained (queue_at g i))) _ _ refl refl

pub seal_number : (g : Groups) → (closed_says (sealed_in g).answer).number ≡ first_due (seal_order g)
unfolding sealed_in
seal_number g = go (not (well_grouped g)) g.sealed
  where
    go : (a b : Bool) → (closed_says (sealed_by g (when a then Err Broken else when b then Err Sealed else (Ok tt))).answer).number
        ≡ (when a then broken else when b then sealed else when some_yes g Undrained [] then not_drained else 0)
    go true b = refl
    go false true = refl
    go false false = due_if (λ (r : GroupsAnswered Closed). (closed_says r.answer).number) (some_yes g Undrained []) _ _ refl refl
