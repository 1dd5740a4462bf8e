-- Ids: next only rises, an id that is gone never comes back, and domains of live groups differ
use Prim.Native.Nat.{ℕ, ◌+◌, ◌<◌, ◌≤◌}
use mathlib.Core.Path.{◌≡◌, refl, sym, ◌∙◌, subst}
use mathlib.Core.Bool.{true, false}
use mathlib.Core.Logic.{◌⊎◌, inl, inr, ⊎_elim}
use mathlib.Core.List.{List, [], ◌∷◌}
use native.Mathlib.Omega.{arith}
use lib.ListN.{length}
use Rattle.choice.proofs.Ways.{clash}
use Rattle.cleanup_queue.specs.Runs as queue
use Rattle.group_record.specs.Record.{place_at, queue_at, free_place, live_place, holding, with_place, sealing}
use Rattle.group_check.specs.WellFormed.{well_grouped}
use Rattle.group_check.proofs.Spots.{spot_means}
use Rattle.group_endings.specs.Endings.{removed}
use Rattle.group_record.specs.declared.record.Place.{Place}
use Rattle.group_record.specs.declared.record.Groups.{Groups}
use Rattle.cleanup_groups.specs.Promises.{LiveAt, id_at, Sound, IsLive}
use Rattle.cleanup_groups.specs.Runs.{GroupCall, groups_after, groups_after_all}
use Rattle.cleanup_groups.proofs.ByCase.{call_by}
use Rattle.cleanup_groups.proofs.Placed.{by_place}
use Rattle.cleanup_groups.proofs.Sounds.{sound_means}
use Rattle.cleanup_groups.proofs.Keeps.{spot_live, room_free, all_free_sound, round_live, round_id, call_whole}
use Rattle.cleanup_groups.proofs.Drains.{close_means}
use Rattle.cleanup_groups.proofs.Frames.{close_frame}
use Rattle.cleanup_groups.proofs.Live.{closed_gone}
use Rattle.std.specs.Prelude.{Ok}

-- ---- next
pub next_rises : (g : Groups) (c : GroupCall) → g.next ≤ (groups_after g c).next
unfolding sealing
next_rises g c = call_by (λ (h : Groups). g.next ≤ h.next) g same (λ _ _ _ _. same) (λ _ _ _ _ _. more) (λ _ _ _ _. same) (λ _ _. same) (λ _ _. same) c
  where
    same : g.next ≤ g.next
    same = omega arith

    more : g.next ≤ g.next + 1
    more = omega arith

-- ---- who is live afterwards
module _ (g : Groups) (l : length g.places ≡ 16) (id : ℕ) where
  -- with another place at i: it was live before, or it is the new one
  other_live : (i : ℕ) (p : Place) → i < 16 → IsLive (with_place g i p) id → IsLive g id ⊎ ((p.live ≡ true) × (p.id ≡ id))
  other_live i p k w =
      by_place g i p l k (λ (q : Place). q.live ≡ true → q.id ≡ id → IsLive g id ⊎ ((p.live ≡ true) × (p.id ≡ id))) w.0
      (λ _ a e. inr (a, e)) (λ _ a e. inl (w.0, w.1, a, e)) w.2 w.3

  -- whoever is live after a call was live before it, or has the id that was next
  pub live_from : (c : GroupCall) → IsLive (groups_after g c) id → IsLive g id ⊎ (id ≡ g.next)
  unfolding sealing
  live_from c = call_by (λ (h : Groups). IsLive h id → IsLive g id ⊎ (id ≡ g.next)) g
      (λ w. inl w)
      (λ d i e k w. let s = spot_live g d i l e in ⊎_elim (λ o. inl o) (λ n. inl (i, s.0, s.1, n.1)) (other_live i (holding (place_at g i) (queue.after (queue_at g i) k)) s.0 w))
      (λ i q u e n w. ⊎_elim (λ o. inl o) (λ m. inr (sym m.1)) (other_live i (live_place g.next q) (room_free g i l e).0 w))
      (λ d i e _ w. ⊎_elim (λ o. inl o) (λ n. clash {b = false} n.0 refl) (other_live i free_place (spot_live g d i l e).0 w))
      (λ u d w. clash w.2 ((all_free_sound 0 0 true (omega arith) (omega arith)).sealed refl w.0 w.1))
      (λ _ _ w. inl (w.0, w.1, sym (round_live g w.0) ∙ w.2, sym (round_id g w.0) ∙ w.3)) c

-- ---- an id that was given and is not live is never live again
pub gone_stays : (g : Groups) (cs : List GroupCall) (id : ℕ) → length g.places ≡ 16 → id < g.next → (IsLive g id → ⊥) → IsLive (groups_after_all g cs) id → ⊥
gone_stays g [] id l b n w = n w
gone_stays g (c ∷ cs) id l b n w =
    let r : g.next ≤ (groups_after g c).next = next_rises g c in
    gone_stays (groups_after g c) cs id (call_whole g c l) (omega arith) (λ v. ⊎_elim n (λ e. omega arith) (live_from g l id c v)) w

-- the id of a closed group, whatever is called afterwards
pub closed_for_good_lem : (g : Groups) (id : ℕ) (cs : List GroupCall) → length g.places ≡ 16 → (removed g id).answer ≡ Ok tt → IsLive (groups_after_all (removed g id).groups cs) id → ⊥
closed_for_good_lem g id cs l h =
    let c = close_means g id l h in
    let s = spot_live g id c.0 l c.1 in
    let b : id < g.next = subst (λ (n : ℕ). n < g.next) s.2 ((sound_means g l (spot_means g id c.0 c.1).0).below c.0 s.0 s.1) in
    gone_stays (removed g id).groups cs id (call_whole g (GroupCall.remove id) l) (subst (λ (n : ℕ). id < n) (sym (close_frame g id).0) b) (closed_gone g id l h)

-- ---- live groups have domains of their own
pub domains_differ_lem : (g : Groups) → length g.places ≡ 16 → well_grouped g ≡ true → (i j : ℕ) → i < 16 → j < 16 → LiveAt g i → LiveAt g j → (queue_at g i).domain ≡ (queue_at g j).domain → i ≡ j
domains_differ_lem g l h i j a b x y e =
    let s : Sound g = sound_means g l h in
    let p : (queue_at g i).domain ≡ g.base + id_at g i = s.domains i a x in
    let q : (queue_at g j).domain ≡ g.base + id_at g j = s.domains j b y in
    s.distinct i j a b x y (omega arith)
