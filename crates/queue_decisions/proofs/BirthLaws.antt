-- Where nothing refuses a birth there is a slot for it
use Prim.Native.Nat.{ℕ, ◌<◌}
use mathlib.Core.Path.{◌≡◌}
use mathlib.Core.Bool.{not}
use native.Mathlib.Omega.{arith}
use borrow.Author.Tests.{leb-false}
use lib.Dec.{eqb, leb}
use Rattle.choice.proofs.Ways.{if_by}
use Rattle.stage.specs.Phases.{is_pending}
use Rattle.stage.specs.declared.phases.Phase.{Phase}
use Rattle.queue_record.specs.declared.refusal.Refusal.{Refusal}
use Rattle.queue_record.proofs.Refused.{some_none}
use Rattle.std.specs.Prelude.{Option, None}
use Rattle.queue_decisions.specs.Births.{register_refusal, land_refusal}

module _ (number count : ℕ) where
  abbrev Room : Option Refusal → Type 0
  Room r = r ≡ None → count < 64

  pub register_room : Room (register_refusal number count)
  unfolding register_refusal
  register_room = if_by Room (eqb number 0) _ _ (λ _ z. some_none z) (λ _. if_by Room (leb 64 count) _ _ (λ _ z. some_none z) (λ l _. leb-false _ _ l))

  pub land_room : (phase : Phase) → Room (land_refusal number phase count)
  unfolding land_refusal
  land_room phase =
      if_by Room (eqb number 0) _ _ (λ _ z. some_none z)
      (λ _. if_by Room (not (is_pending phase)) _ _ (λ _ z. some_none z)
      (λ _. if_by Room (leb 64 count) _ _ (λ _ z. some_none z) (λ l _. leb-false _ _ l)))
