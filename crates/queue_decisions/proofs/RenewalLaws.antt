-- Nothing refuses exactly the retry that is allowed; what is due again, by cases; a renewed ticket's attempt is below the last number
use Prim.Native.Nat.{ℕ, ◌<◌}
use mathlib.Core.Path.{◌≡◌, refl, sym, ap, ◌∙◌}
use mathlib.Core.Bool.{Bool, true, false, not, ◌&&◌}
use mathlib.Core.List.{List}
use native.Mathlib.Omega.{arith}
use borrow.Author.Tests.{lt-ltb, le-ltb, eqb-false, ltb-true, leb-true, leb-false}
use lib.Dec.{eqb, leb, ltb}
use Rattle.choice.specs.Choice.{when◌then◌else◌}
use Rattle.choice.proofs.Ways.{hit, and_right, if_by}
use Rattle.queue_record.specs.declared.refusal.Refusal.{Refusal}
use Rattle.queue_record.proofs.Refused.{err_ok, nothing_is, is_nothing}
use Rattle.queue_record.specs.declared.refusal.Refusal.TheVariants.{NoRetry, NothingKept, NoFurtherAttempt}
use Rattle.queue_record.specs.declared.record.Ticket.{Ticket}
use Rattle.queue_decisions.specs.Slots.{no_more, slot_in}
use Rattle.queue_decisions.specs.Renewals.{may_retry, allowed_by, retry_refusal, renewed_of, renewed_unless, due_again, retry_due}
use Rattle.std.specs.Prelude.{Option, Some, None, Ok, Err, is_none}
use Rattle.queue_decisions.specs.Types.{Renewal}

-- a retry that is allowed has an attempt left
retry_room : (failed : Bool) (number next : ℕ) → may_retry failed number next ≡ true → next < 18446744073709551615
retry_room failed number next h = ltb-true _ _ (and_right (not (eqb number 0)) (ltb next no_more) (and_right failed (not (eqb number 0) && ltb next no_more) h))

pub allowed_unrefused : (failed : Bool) (number next : ℕ) → may_retry failed number next ≡ is_none (retry_refusal failed number next)
allowed_unrefused false number next = refl
allowed_unrefused true number next = by (eqb number 0) (leb no_more next) refl
  where
    by : (empty over : Bool) → leb no_more next ≡ over
        → (not empty && ltb next no_more) ≡ is_none (when empty then Some NothingKept else when over then Some NoFurtherAttempt else None)
    by true over e = refl
    by false true e = le-ltb next no_more (leb-true no_more next e)
    by false false e = lt-ltb next no_more (leb-false no_more next e)

module _ (failed : Bool) (slots : List ℕ) (next : ℕ) where
  unrefused : (t : Ticket) → may_retry failed (slot_in slots t.token) next ≡ is_none (retry_refusal failed (slot_in slots t.token) next)
  unrefused t = allowed_unrefused failed (slot_in slots t.token) next

  -- by what refuses it: the refusal, or the ticket renewed
  renewed_by : (P : Renewal → Type 0) (r : Option Refusal) (u : Ticket) → ((n : Refusal) → P (Err n)) → (r ≡ None → P (Ok u)) → P (renewed_unless r u)
  renewed_by P None u refused taken = taken refl
  renewed_by P (Some n) u refused taken = refused n

  -- refused, or the selected ticket renewed, which was allowed
  pub due_cases : (P : Renewal → Type 0) (s : Option Ticket) → ((n : Refusal) → P (Err n))
      → ((t : Ticket) → s ≡ Some t → allowed_by failed slots next (Some t) ≡ true → P (Ok (renewed_of t next))) → P (due_again failed slots next s)
  due_cases P None refused taken = refused NoRetry
  due_cases P (Some t) refused taken =
      renewed_by P (retry_refusal failed (slot_in slots t.token) next) (renewed_of t next) refused
      (λ z. taken t refl (unrefused t ∙ is_nothing z))

  pub due_own : (s : Option Ticket) (t : Ticket) → s ≡ Some t → allowed_by failed slots next s ≡ true → due_again failed slots next s ≡ Ok (renewed_of t next)
  due_own s t e a =
      ap (due_again failed slots next) e
      ∙ ap (λ r. renewed_unless r (renewed_of t next)) (nothing_is (sym (unrefused t) ∙ (sym (ap (allowed_by failed slots next) e) ∙ a)))

module _ (failed : Bool) (slots : List ℕ) (next : ℕ) (t : Ticket) where
  abbrev Low : Renewal → Type 0
  Low r = r ≡ Ok t → t.attempt < 18446744073709551615

  pub renewal_low : (s : Option Ticket) → Low (retry_due failed s slots next)
  unfolding retry_due
  renewal_low s =
      due_cases failed slots next Low s (λ n e. err_ok e)
      (λ r _ a e. let p : renewed_of r next ≡ t = cc in let k : next ≡ t.attempt = ap (λ (x : Ticket). x.attempt) p in
      let h : next < 18446744073709551615 = retry_room failed (slot_in slots r.token) next a in omega arith)
