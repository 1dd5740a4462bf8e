-- When one more group may be opened and when an opening is done, and when no group is live
use Prim.Native.Nat.{ℕ, ◌<◌, ◌≤◌}
use mathlib.Core.Path.{◌≡◌, refl, sym, ap, ◌∙◌}
use mathlib.Core.Logic.{◌↔◌}
use mathlib.Core.Bool.{Bool, true, false, not, ◌&&◌}
use mathlib.Core.List.{List, []}
use native.Mathlib.Omega.{arith}
use borrow.Author.Tests.{ltb-true, lt-ltb, le-ltb, lt-leb, not-true}
use lib.Dec.{ltb}
use lib.ListN.{length}
use Rattle.choice.proofs.Ways.{miss, pass, clash, and_left, and_right}
use Rattle.queue_record.specs.Newest.{is_there}
use Rattle.queue_record.specs.Openings.{scope_of, iterator_of, scope_opened, iterator_opened}
use Rattle.group_record.specs.Record.{place_at}
use Rattle.group_asking.specs.Questions.{asks_of}
use Rattle.group_asking.specs.Scan.{first_yes, some_yes}
use Rattle.group_check.specs.WellFormed.{ids, well_grouped}
use Rattle.group_record.specs.declared.record.Groups.{Groups}
use Rattle.group_asking.specs.Question.{Free, Live}
use Rattle.group_survey.specs.Whole.{room_for, can_add_of, is_empty_of}
use Rattle.group_openings.specs.Openings.{unsealed, next_domain, room_at, room_of, added_at, added_queue, added_opening, added_scope, added_iterator}
use Rattle.group_openings.proofs.Room.{unsealed_means, means_unsealed, room_means}
use Rattle.cleanup_groups.specs.Promises.{RoomToOpen}
use Rattle.cleanup_groups.proofs.ByCase.{scope_by, iterator_by}
use Rattle.cleanup_groups.proofs.Every.{one_some}
use Rattle.cleanup_groups.proofs.Sounds.{says_free}
use Rattle.cleanup_groups.proofs.Keeps.{room_free}
use Rattle.cleanup_groups.proofs.Asked.{told_yes, yes_told, none_means, means_none}
use Rattle.std.specs.Prelude.{Option, Some, None, Ok, Err}
use Rattle.queue_record.specs.declared.answered.Answered.{Answered}
use Rattle.group_record.specs.declared.answered.GroupsAnswered.{GroupsAnswered}
use Rattle.group_check.specs.Types.{Spot}
use Rattle.group_openings.specs.Types.{Added}
use Rattle.queue_record.specs.Types.{Opened}

-- ---- can_add: yes exactly if the opening of a scope is done, or of an iterator with few enough bindings
module _ (g : Groups) where
  open_way : unsealed g ≡ Ok tt → (i : ℕ) → first_yes g Free [] ≡ Some i → g.next < 65536 → (added_scope g).answer ≡ Ok g.next
  unfolding added_scope
  open_way u i f n =
      ap (λ (o : Opened). (added_opening g (scope_opened (next_domain g) 0) o).answer) u
      ∙ ap (λ (s : Spot). (added_at g (scope_of (next_domain g) 0) s).answer) (ap (room_at g) f ∙ miss _ (lt-leb ids g.next n))

  -- the opening of an iterator passes the same way, once its bindings are few enough
  iterator_way : (bindings : List ℕ) → length bindings ≤ 16 → (added_scope g).answer ≡ Ok g.next → unsealed g ≡ Ok tt → (added_iterator g bindings).answer ≡ Ok g.next
  unfolding added_scope added_iterator iterator_opened
  iterator_way bindings k h u =
      ap (λ (o : Opened). (added_opening g (iterator_opened (next_domain g) 0 bindings) o).answer) u
      ∙ (ap (λ (o : Answered Opened). (added_queue g o.queue o.answer).answer) (miss _ (le-ltb 16 (length bindings) k))
      ∙ (same_way (room_of g) ∙ (sym (ap (λ (o : Opened). (added_opening g (scope_opened (next_domain g) 0) o).answer) u) ∙ h)))
    where
      same_way : (s : Spot) → (added_at g (iterator_of (next_domain g) 0 bindings) s).answer ≡ (added_at g (scope_of (next_domain g) 0) s).answer
      same_way (Err r) = refl
      same_way (Ok i) = refl

  pub may_open : can_add_of g ≡ Ok true → (added_scope g).answer ≡ Ok g.next
  may_open h = go (first_yes g Free []) refl
    where
      t : room_for g ≡ true
      t = (told_yes g (room_for g) h).1

      room : (some_yes g Free [] && ltb g.next ids) ≡ true
      room = and_right (not g.sealed) (some_yes g Free [] && ltb g.next ids) t

      go : (f : Option ℕ) → first_yes g Free [] ≡ f → (added_scope g).answer ≡ Ok g.next
      go None e = clash (and_left (some_yes g Free []) (ltb g.next ids) room) (ap is_there e)
      go (Some i) e =
          open_way (means_unsealed g (told_yes g (room_for g) h).0 (not-true _ (and_left (not g.sealed) (some_yes g Free [] && ltb g.next ids) t))) i e
          (ltb-true _ _ (and_right (some_yes g Free []) (ltb g.next ids) room))

  pub may_open_iterator : (bindings : List ℕ) → length bindings ≤ 16 → can_add_of g ≡ Ok true → (added_iterator g bindings).answer ≡ Ok g.next
  may_open_iterator bindings k h =
      let t : room_for g ≡ true = (told_yes g (room_for g) h).1 in
      iterator_way bindings k (may_open h) (means_unsealed g (told_yes g (room_for g) h).0 (not-true _ (and_left (not g.sealed) (some_yes g Free [] && ltb g.next ids) t)))

  room_for_lem : (i : ℕ) → unsealed g ≡ Ok tt → room_of g ≡ Ok i → can_add_of g ≡ Ok true
  room_for_lem i u e =
      let v = unsealed_means g u in
      let r = room_means g i e in
      yes_told g (room_for g) v.0 (pass _ (ap not v.1) ∙ (pass _ (ap is_there r.0) ∙ lt-ltb _ _ r.1))

  pub opened_may : (n : ℕ) → (added_scope g).answer ≡ Ok n → can_add_of g ≡ Ok true
  opened_may n = scope_by (λ (r : GroupsAnswered Added). r.answer ≡ Ok n → can_add_of g ≡ Ok true) g (λ _ h. let z : ◌≡◌ {A = ℕ} 0 1 = cc in absurd (omega arith)) (λ i u e _. room_for_lem i u e)

  pub opened_may_iterator : (bindings : List ℕ) (n : ℕ) → (added_iterator g bindings).answer ≡ Ok n → can_add_of g ≡ Ok true
  opened_may_iterator bindings n =
      iterator_by (λ (r : GroupsAnswered Added). r.answer ≡ Ok n → can_add_of g ≡ Ok true) g
      (λ _ h. let z : ◌≡◌ {A = ℕ} 0 1 = cc in absurd (omega arith)) bindings (λ i u _ e _. room_for_lem i u e)

  module _ (l : length g.places ≡ 16) where
    -- ---- an opening is done exactly if the record is sound and not sealed, a place is free and an id is left
    room_vacant : (i : ℕ) → unsealed g ≡ Ok tt → room_of g ≡ Ok i → RoomToOpen g
    room_vacant i u e =
        let v = unsealed_means g u in
        let f = room_free g i l e in
        (v.0, v.1, (i, f.0, f.1), (room_means g i e).1)

    vacant_opens : RoomToOpen g → (added_scope g).answer ≡ Ok g.next
    vacant_opens v = go (first_yes g Free []) refl
      where
        some : some_yes g Free [] ≡ true
        some =
            let k : v.2.0 < 16 = v.2.1 in
            one_some (asks_of Free []) g.places v.2.0 (omega arith) (says_free Free [] (place_at g v.2.0) v.2.2)

        go : (f : Option ℕ) → first_yes g Free [] ≡ f → (added_scope g).answer ≡ Ok g.next
        go None e = clash some (ap is_there e)
        go (Some i) e = open_way (means_unsealed g v.0 v.1) i e v.3

    pub scope_opens_exactly : ((n : ℕ) × ((added_scope g).answer ≡ Ok n)) ↔ RoomToOpen g
    scope_opens_exactly = (λ h. opened h.0 h.1, λ v. (g.next, vacant_opens v))
      where
        opened : (n : ℕ) → (added_scope g).answer ≡ Ok n → RoomToOpen g
        opened n = scope_by (λ (r : GroupsAnswered Added). r.answer ≡ Ok n → RoomToOpen g) g (λ _ h. let z : ◌≡◌ {A = ℕ} 0 1 = cc in absurd (omega arith)) (λ i u e _. room_vacant i u e)

    -- an iterator's, exactly if its bindings are few enough too
    pub iterator_opens_exactly : (bindings : List ℕ) → ((n : ℕ) × ((added_iterator g bindings).answer ≡ Ok n)) ↔ ((length bindings ≤ 16) × RoomToOpen g)
    iterator_opens_exactly bindings = (
      λ h. opened h.0 h.1,
      λ v. (g.next, iterator_way bindings v.0 (vacant_opens v.1) (means_unsealed g v.1.0 v.1.1)),
    )
      where
        opened : (n : ℕ) → (added_iterator g bindings).answer ≡ Ok n → (length bindings ≤ 16) × RoomToOpen g
        opened n =
            iterator_by (λ (r : GroupsAnswered Added). r.answer ≡ Ok n → (length bindings ≤ 16) × RoomToOpen g) g
            (λ _ h. let z : ◌≡◌ {A = ℕ} 0 1 = cc in absurd (omega arith)) bindings (λ i u b e _. (b, room_vacant i u e))

    -- ---- is_empty: no group is live
    pub empty_means_lem : is_empty_of g ≡ Ok true → (i : ℕ) → i < 16 → (place_at g i).live ≡ false
    empty_means_lem h i k = go (place_at g i).live refl
      where
        go : (b : Bool) → (place_at g i).live ≡ b → (place_at g i).live ≡ false
        go false e = e
        go true e = clash {b = false} (none_means g l Live [] (λ _ _. refl) (not-true _ (told_yes g (not (some_yes g Live [])) h).1) i k e) refl

    pub means_empty : well_grouped g ≡ true → ((i : ℕ) → i < 16 → (place_at g i).live ≡ false) → is_empty_of g ≡ Ok true
    means_empty w f = yes_told g (not (some_yes g Live [])) w (ap not (means_none g l Live [] (λ _ _. refl) (λ i k a. clash a (f i k))))
