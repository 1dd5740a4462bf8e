-- How many groups are live: one more by an opening, one less by a closing, at most sixteen
use Prim.Native.Nat.{ℕ, zero, suc, ◌+◌, ◌<◌, ◌≤◌}
use mathlib.Core.Path.{◌≡◌, refl, sym, ap, ◌∙◌}
use mathlib.Core.Bool.{Bool, true, false}
use mathlib.Core.List.{List, [], ◌∷◌}
use native.Mathlib.Omega.{arith}
use lib.ListN.{length, get_or, set}
use Rattle.choice.specs.Choice.{when◌then◌else◌}
use Rattle.choice.proofs.Ways.{hit, miss}
use Rattle.queue_record.specs.declared.record.Queue.{Queue}
use Rattle.group_record.specs.Record.{nowhere, place_at, free_place, live_place, with_place, with_opened}
use Rattle.group_record.specs.declared.record.Place.{Place}
use Rattle.group_record.specs.declared.record.Groups.{Groups}
use Rattle.group_check.specs.Count.{live_count}
use Rattle.group_openings.specs.Openings.{added_scope, added_iterator}
use Rattle.group_endings.specs.Endings.{removed}
use Rattle.cleanup_groups.specs.Promises.{LiveAt}
use Rattle.cleanup_groups.proofs.ByCase.{scope_by, iterator_by, close_by}
use Rattle.cleanup_groups.proofs.Keeps.{spot_live, room_free}
use Rattle.std.specs.Prelude.{Ok}
use Rattle.group_record.specs.declared.answered.GroupsAnswered.{GroupsAnswered}
use Rattle.group_endings.specs.Types.{Closed}
use Rattle.group_openings.specs.Types.{Added}

-- ---- one place
abbrev one : Bool → ℕ
one true = 1
one false = 0

count_head : (p : Place) (ps : List Place) → live_count (p ∷ ps) ≡ one p.live + live_count ps
count_head p ps = go p.live
  where
    go : (b : Bool) → (when b then suc (live_count ps) else live_count ps) ≡ one b + live_count ps
    go true = omega arith
    go false = omega arith

-- another place at i: the count changes by the marks of the two
count_set : (ps : List Place) (i : ℕ) (p : Place) → i < length ps → live_count (set ps i p) + one (get_or ps i nowhere).live ≡ live_count ps + one p.live
count_set [] i p l = absurd (omega arith)
count_set (q ∷ ps) zero p l = let a = count_head p ps in let b = count_head q ps in omega arith
count_set (q ∷ ps) (suc i) p l = let r = count_set ps i p (omega arith) in let a = count_head q ps in let b = count_head q (set ps i p) in omega arith

module _ (g : Groups) (i : ℕ) (l : length g.places ≡ 16) (k : i < 16) where
  -- an opening in a free place counts one more
  pub count_opened : (q : Queue) → (place_at g i).live ≡ false → live_count (with_opened g i q).places ≡ live_count g.places + 1
  count_opened q f =
      let c = count_set g.places i (live_place g.next q) (omega arith) in
      let z : one (place_at g i).live ≡ 0 = ap one f in
      omega arith

  -- and the closing of a live group one less
  pub count_closed : LiveAt g i → live_count (with_place g i free_place).places + 1 ≡ live_count g.places
  count_closed a =
      let c = count_set g.places i free_place (omega arith) in
      let z : one (place_at g i).live ≡ 1 = ap one a in
      omega arith

-- none counted: none live; all counted: all live
pub count_none : (ps : List Place) → live_count ps ≡ 0 → (i : ℕ) → i < length ps → (get_or ps i nowhere).live ≡ false
count_none [] h i l = absurd (omega arith)
count_none (p ∷ ps) h i l = go p.live refl (sym (count_head p ps) ∙ h) (count_none ps) i l
  where
    go : (b : Bool) → p.live ≡ b → one b + live_count ps ≡ 0 → (live_count ps ≡ 0 → (i : ℕ) → i < length ps → (get_or ps i nowhere).live ≡ false)
        → (i : ℕ) → i < suc (length ps) → (get_or (p ∷ ps) i nowhere).live ≡ false
    go true e s r i l = absurd (omega arith)
    go false e s r zero l = e
    go false e s r (suc i) l = r (omega arith) i (omega arith)

pub none_count : (ps : List Place) → ((i : ℕ) → i < length ps → (get_or ps i nowhere).live ≡ false) → live_count ps ≡ 0
none_count [] f = refl
none_count (p ∷ ps) f = miss _ (f 0 (omega arith)) ∙ none_count ps (λ i l. f (suc i) (omega arith))

pub all_count : (ps : List Place) → ((i : ℕ) → i < length ps → (get_or ps i nowhere).live ≡ true) → live_count ps ≡ length ps
all_count [] f = refl
all_count (p ∷ ps) f = hit _ (f 0 (omega arith)) ∙ ap suc (all_count ps (λ i l. f (suc i) (omega arith)))

-- ---- at most sixteen are live
pub count_most : (ps : List Place) → live_count ps ≤ length ps
count_most [] = omega arith
count_most (p ∷ ps) = let r : live_count ps ≤ length ps = count_most ps in go p.live r
  where
    go : (b : Bool) → live_count ps ≤ length ps → (when b then suc (live_count ps) else live_count ps) ≤ suc (length ps)
    go true r = omega arith
    go false r = omega arith

-- ---- the calls: an opening that is done counts one more, a closing one less
module _ (g : Groups) (l : length g.places ≡ 16) where
  abbrev Counts : ℕ → GroupsAnswered Added → Type 0
  Counts n r = r.answer ≡ Ok n → live_count r.groups.places ≡ live_count g.places + 1

  pub scope_counts : (n : ℕ) → Counts n (added_scope g)
  scope_counts n = scope_by (Counts n) g (λ _ h. let z : ◌≡◌ {A = ℕ} 0 1 = cc in absurd (omega arith)) (λ i _ e _. let k = room_free g i l e in count_opened g i l k.0 _ k.1)

  pub iterator_counts : (n : ℕ) (bindings : List ℕ) → Counts n (added_iterator g bindings)
  iterator_counts n bindings =
      iterator_by (Counts n) g (λ _ h. let z : ◌≡◌ {A = ℕ} 0 1 = cc in absurd (omega arith)) bindings
      (λ i _ _ e _. let k = room_free g i l e in count_opened g i l k.0 _ k.1)

  pub close_counts : (id : ℕ) → (removed g id).answer ≡ Ok tt → live_count (removed g id).groups.places + 1 ≡ live_count g.places
  close_counts id =
      close_by (λ (r : GroupsAnswered Closed). r.answer ≡ Ok tt → live_count r.groups.places + 1 ≡ live_count g.places) g
      (λ _ h. let z : ◌≡◌ {A = ℕ} 0 1 = cc in absurd (omega arith)) id (λ i e _ _. let k = spot_live g id i l e in count_closed g i l k.0 k.1)
