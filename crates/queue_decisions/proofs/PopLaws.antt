-- What is due names one of the slots
use Prim.Native.Nat.{ℕ, ◌+◌, ◌<◌}
use mathlib.Core.Path.{◌≡◌, refl, ap}
use mathlib.Core.Bool.{Bool, true}
use mathlib.Core.List.{List}
use native.Mathlib.Omega.{arith}
use lib.Dec.{eqb, leb}
use lib.ListN.{length, take}
use Rattle.choice.proofs.Ways.{if_by}
use Rattle.queue_record.specs.WellFormed.{rest_zero}
use Rattle.queue_record.specs.Waiting.{occupied}
use Rattle.queue_record.specs.Newest.{newest}
use Rattle.queue_record.specs.declared.record.Ticket.{Ticket}
use Rattle.queue_record.proofs.Waiting.{occupied_take}
use Rattle.queue_record.proofs.Last.{newest_below}
use Rattle.queue_decisions.specs.Slots.{no_more}
use Rattle.queue_decisions.specs.Pops.{sought, fresh_of, fresh_due, due_by, pop_due}
use Rattle.std.specs.Prelude.{Option, Some, None, Ok, Err}
use Rattle.queue_decisions.specs.Types.{Due}

-- the slots of the tokens that there are hold all that is looked for
pub sought_issued : (s : Option Ticket) (tokens : ℕ) (slots : List ℕ) → rest_zero tokens slots ≡ true → sought s (take tokens slots) ≡ sought s slots
sought_issued None tokens slots rest = ap newest (occupied_take 0 tokens slots rest)
sought_issued (Some t) tokens slots rest = refl

-- what was found is one of the slots
pub sought_below : (s : Option Ticket) (slots : List ℕ) (token : ℕ) → sought s slots ≡ Some token → token < length slots
sought_below None slots token e = newest_below slots token e
sought_below (Some t) slots token e = let z : ◌≡◌ {A = ℕ} 0 1 = cc in absurd (omega arith)

-- so is what is due, whatever number stands there
module _ (slots : List ℕ) (held domain next : ℕ) (t : Ticket) (number coming : ℕ) where
  abbrev Below : Due → Type 0
  Below d = d ≡ Ok (Some (t, number, coming)) → t.token < length slots

  not_due : {d : Due} → (d ≡ Ok (Some (t, number, coming)) → ◌≡◌ {A = ℕ} 0 1) → Below d
  not_due f e = let z : ◌≡◌ {A = ℕ} 0 1 = f e in absurd (omega arith)

  -- the token of what is due; where nothing is, of another
  token_of : Ticket → Due → ℕ
  token_of s (Ok (Some (u, m, k))) = u.token
  token_of s (Ok None) = s.token
  token_of s (Err r) = s.token

  own_below : (s : Ticket) → s.token < length slots → (m k : ℕ) → Below (Ok (Some (s, m, k)))
  unfolding token_of
  own_below s h m k e = let j : s.token ≡ t.token = ap (token_of s) e in omega arith

  fresh_below : (f : Option ℕ) → newest (occupied 0 slots) ≡ f → Below (fresh_due f held domain next)
  fresh_below None m = not_due (λ e. cc)
  fresh_below (Some k) m =
      if_by Below (eqb held 0) _ _ (λ _. not_due (λ e. cc))
      (λ _. if_by Below (leb no_more next) _ _ (λ _. not_due (λ e. cc)) (λ _. own_below (fresh_of domain k next) (newest_below slots k m) held (next + 1)))

  module _ (selection : Option Ticket) (own : (s : Ticket) → selection ≡ Some s → s.token < length slots) where
    chosen_below : (s : Option Ticket) → selection ≡ s → Below (due_by (sought s slots) held domain next s)
    chosen_below None e = fresh_below (newest (occupied 0 slots)) refl
    chosen_below (Some s) e = if_by Below (eqb held 0) _ _ (λ _. not_due (λ e. cc)) (λ _. own_below s (own s e) held next)

    pub due_below : (issued failed : Bool) → Below (pop_due issued failed selection (sought selection slots) held domain next)
    unfolding pop_due
    due_below issued failed = if_by Below issued _ _ (λ _. not_due (λ e. cc)) (λ _. if_by Below failed _ _ (λ _. not_due (λ e. cc)) (λ _. chosen_below selection refl))
