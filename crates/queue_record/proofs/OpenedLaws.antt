-- Every opening's record is well formed, its arrays have their places, and a refused one is blank
use Prim.Native.Nat.{ℕ, ◌≤◌}
use mathlib.Core.Path.{◌≡◌, refl}
use mathlib.Core.Bool.{true}
use mathlib.Core.List.{List}
use native.Mathlib.Omega.{arith}
use borrow.Author.Tests.{ltb-false}
use lib.Dec.{ltb}
use lib.ListN.{length}
use Rattle.choice.proofs.Ways.{if_by}
use Rattle.queue_record.specs.declared.refusal.Refusal.{Refusal}
use Rattle.queue_record.specs.Record.{Sized}
use Rattle.queue_record.specs.WellFormed.{well_formed}
use Rattle.queue_record.specs.declared.refusal.Refusal.TheVariants.{TooManyBindings}
use Rattle.queue_record.specs.Openings.{Opening, scope_of, iterator_of, blank, scope_opened, iterator_opened, opened_by, opened_as}
use Rattle.queue_record.specs.declared.record.Kind.{Kind}
use Rattle.queue_record.specs.declared.record.Kind.TheVariants.{Scope, Iterator}
use Rattle.queue_record.proofs.Fit.{fits}
use Rattle.queue_record.proofs.Padding.{kept_rest, kept_length}
use Rattle.std.specs.Prelude.{Ok, Err}
use Rattle.queue_record.specs.declared.answered.Answered.{Answered}
use Rattle.queue_record.specs.Types.{Opened}

pub scope_well_formed : (domain first : ℕ) → well_formed (scope_of domain first) ≡ true
unfolding well_formed scope_of
scope_well_formed domain first = refl

pub scope_sized : (domain first : ℕ) → Sized (scope_of domain first)
unfolding scope_of
scope_sized domain first = record { slots = refl; bindings = refl }

blank_well_formed : well_formed blank ≡ true
unfolding blank
blank_well_formed = scope_well_formed 0 0

pub blank_sized : Sized blank
unfolding blank
blank_sized = scope_sized 0 0

module _ (domain first : ℕ) (bindings : List ℕ) where
  pub iterator_well_formed : length bindings ≤ 16 → well_formed (iterator_of domain first bindings) ≡ true
  unfolding iterator_of
  iterator_well_formed l = fits (iterator_of domain first bindings) (record {
    given = record { bound = l; bindings = kept_rest bindings };
    count = omega arith;
    slots = refl;
    scope = refl;
    ticket = refl;
    marks = refl;
    selected = refl;
  })

  pub iterator_sized : length bindings ≤ 16 → Sized (iterator_of domain first bindings)
  unfolding iterator_of
  iterator_sized l = record { slots = refl; bindings = kept_length bindings l }

  pub opening_well_formed : well_formed (iterator_opened domain first bindings).queue ≡ true
  unfolding iterator_opened
  opening_well_formed = if_by (λ (r : Answered Opened). well_formed r.queue ≡ true) (ltb 16 (length bindings)) _ _ (λ _. blank_well_formed) (λ e. iterator_well_formed (ltb-false _ _ e))

  pub opening_sized : Sized (iterator_opened domain first bindings).queue
  unfolding iterator_opened
  opening_sized = if_by (λ (r : Answered Opened). Sized r.queue) (ltb 16 (length bindings)) _ _ (λ _. blank_sized) (λ e. iterator_sized (ltb-false _ _ e))

  pub iterator_open : (iterator_opened domain first bindings).answer ≡ (Ok tt) → (iterator_opened domain first bindings).queue ≡ iterator_of domain first bindings
  unfolding iterator_opened
  iterator_open =
      if_by (λ (x : Answered Opened). x.answer ≡ (Ok tt) → x.queue ≡ iterator_of domain first bindings) (ltb 16 (length bindings)) _ _
      (λ _ h. let z : ◌≡◌ {A = ℕ} 0 1 = cc in absurd (omega arith)) (λ _ _. refl)

  iterator_refused : (n : Refusal) → (iterator_opened domain first bindings).answer ≡ Err n → (n ≡ TooManyBindings) × ((iterator_opened domain first bindings).queue ≡ blank)
  unfolding iterator_opened
  iterator_refused n =
      if_by (λ (x : Answered Opened). x.answer ≡ Err n → (n ≡ TooManyBindings) × (x.queue ≡ blank)) (ltb 16 (length bindings)) _ _
      (λ _ h. (cc, refl)) (λ _ h. let z : ◌≡◌ {A = ℕ} 0 1 = cc in absurd (omega arith))

-- ---- of any opening
by_kind : (P : Answered Opened → Type 0) → ((d f : ℕ) → P (scope_opened d f)) → ((d f : ℕ) (bs : List ℕ) → P (iterator_opened d f bs)) → (o : Opening) → P (opened_as o)
by_kind P s i o = go o.heading.kind
  where
    go : (k : Kind) → P (opened_by k o.heading.domain o.heading.first o.bindings)
    go Scope = s o.heading.domain o.heading.first
    go Iterator = i o.heading.domain o.heading.first o.bindings

pub opened_well_formed : (o : Opening) → well_formed (opened_as o).queue ≡ true
opened_well_formed = by_kind (λ x. well_formed x.queue ≡ true) scope_well_formed opening_well_formed

pub opened_sized : (o : Opening) → Sized (opened_as o).queue
opened_sized = by_kind (λ x. Sized x.queue) scope_sized opening_sized

-- a refused one has the one number that there is, and leaves the blank queue
pub opened_refused : (n : Refusal) (o : Opening) → (opened_as o).answer ≡ Err n → (n ≡ TooManyBindings) × ((opened_as o).queue ≡ blank)
opened_refused n =
    by_kind (λ x. x.answer ≡ Err n → (n ≡ TooManyBindings) × (x.queue ≡ blank)) (λ d f h. let z : ◌≡◌ {A = ℕ} 0 1 = cc in absurd (omega arith))
    (λ d f bs. iterator_refused d f bs n)
