-- One place replaced: what the others hold stays, and what keeps the record sound
use Prim.Native.Nat.{ℕ, ◌+◌, ◌<◌}
use mathlib.Core.Path.{◌≡◌, refl, sym, ◌∙◌, subst}
use mathlib.Core.Bool.{Bool, true, false}
use native.Mathlib.Omega.{arith}
use borrow.Author.Tests.{eqb-true, eqb-false}
use lib.Dec.{eqb}
use lib.ListN.{length, get_or, set, length-set}
use lib.Seq.{get_or-set_same, get_or-set_other}
use Rattle.queue_record.specs.WellFormed.{well_formed}
use Rattle.queue_record.specs.Blank.{is_blank}
use Rattle.group_record.specs.Record.{nowhere, place_at, with_place, with_next_id}
use Rattle.group_record.specs.declared.record.Place.{Place}
use Rattle.group_record.specs.declared.record.Groups.{Groups}
use Rattle.cleanup_groups.specs.Promises.{LiveAt, id_at, Sound}

-- the fifteen other places stay
pub others_stay : (g : Groups) (i : ℕ) (p : Place) (j : ℕ) → (j ≡ i → ⊥) → place_at (with_place g i p) j ≡ place_at g j
others_stay g i p j n = get_or-set_other g.places i j p nowhere n

pub put_there : (g : Groups) (i : ℕ) (p : Place) → length g.places ≡ 16 → i < 16 → place_at (with_place g i p) i ≡ p
put_there g i p l k = get_or-set_same g.places i p nowhere (omega arith)

pub same_length : (g : Groups) (i : ℕ) (p : Place) → length g.places ≡ 16 → length (with_place g i p).places ≡ 16
same_length g i p l = length-set g.places i p ∙ l

-- what a place must be to be put at i
pub record FitsIn (g : Groups) (i : ℕ) (p : Place) : Type 0 where
  pub apart : p.live ≡ true → (j : ℕ) → j < 16 → (j ≡ i → ⊥) → LiveAt g j → id_at g j ≡ p.id → ⊥
  pub below : p.live ≡ true → p.id < g.next
  pub sound : p.live ≡ true → well_formed p.queue ≡ true
  pub domain : p.live ≡ true → p.queue.domain ≡ g.base + p.id
  pub free : p.live ≡ false → (p.id ≡ 0) × (is_blank p.queue ≡ true)
  pub sealed : g.sealed ≡ true → p.live ≡ false

module _ (g : Groups) (i : ℕ) (p : Place) (l : length g.places ≡ 16) (k : i < 16) where
  pub by_place : (P : Place → Type 0) (j : ℕ) → (j ≡ i → P p) → ((j ≡ i → ⊥) → P (place_at g j)) → P (place_at (with_place g i p) j)
  by_place P j f h = go (eqb j i) refl
    where
      go : (b : Bool) → eqb j i ≡ b → P (place_at (with_place g i p) j)
      go true e = subst (λ (m : ℕ). P (get_or (set g.places i p) m nowhere)) (sym (eqb-true j i e)) (subst P (sym (put_there g i p l k)) (f (eqb-true j i e)))
      go false e = subst P (sym (others_stay g i p j (eqb-false j i e))) (h (eqb-false j i e))

  pub replaced : Sound g → FitsIn g i p → Sound (with_place g i p)
  replaced s f = record {
    base = s.base;
    next = s.next;
    distinct = λ a b x y. by_place (λ (q : Place). q.live ≡ true → LiveAt (with_place g i p) b → q.id ≡ id_at (with_place g i p) b → a ≡ b) a
        (λ e m. by_place (λ (q : Place). q.live ≡ true → p.id ≡ q.id → a ≡ b) b (λ d _ _. omega arith) (λ n o w. absurd (f.apart m b y n o (sym w))))
        (λ n m. by_place (λ (q : Place). q.live ≡ true → id_at g a ≡ q.id → a ≡ b) b (λ d o w. absurd (f.apart o a x n m w)) (λ _ o w. s.distinct a b x y m o w));
    below = λ j x. by_place (λ (q : Place). q.live ≡ true → q.id < g.next) j (λ _. f.below) (λ _. s.below j x);
    queues = λ j x. by_place (λ (q : Place). q.live ≡ true → well_formed q.queue ≡ true) j (λ _. f.sound) (λ _. s.queues j x);
    domains = λ j x. by_place (λ (q : Place). q.live ≡ true → q.queue.domain ≡ g.base + q.id) j (λ _. f.domain) (λ _. s.domains j x);
    free = λ j x. by_place (λ (q : Place). q.live ≡ false → (q.id ≡ 0) × (is_blank q.queue ≡ true)) j (λ _. f.free) (λ _. s.free j x);
    sealed = λ e j x. by_place (λ (q : Place). q.live ≡ false) j (λ _. f.sealed e) (λ _. s.sealed e j x);
  }

-- one id more
pub raised : (g : Groups) → Sound g → g.next < 65536 → Sound (with_next_id g (g.next + 1))
raised g s h = record {
  base = s.base;
  next = omega arith;
  distinct = s.distinct;
  below = λ i k a. let b : id_at g i < g.next = s.below i k a in omega arith;
  queues = s.queues;
  domains = s.domains;
  free = s.free;
  sealed = s.sealed;
}
