-- R13 to R20, part by part in propositions: what well formed means, beside the check that computes it
use Rattle.std.specs.Prelude.{ℕ, ◌<◌, ◌≤◌, ◌≡◌, ◌⊎◌, true, false, get_or, Some, None}
use Rattle.stage.specs.declared.phases.Phase.TheVariants.{Ended, Closed}
use Rattle.queue_record.specs.declared.record.Kind.TheVariants.{Scope}
use Rattle.queue_record.specs.declared.record.Ticket.{Ticket}
use Rattle.queue_record.specs.declared.record.Queue.{Queue}

-- a place past the end of a list counts as 0
pub record SoundQueue (q : Queue) : Type 0 where
  -- R13
  pub tokens : q.count ≤ 64
  pub bindings : q.bound ≤ 16
  -- R14: every slot from the count on, and every place for a binding
  pub unused_slots : (k : ℕ) → q.count ≤ k → get_or q.slots k 0 ≡ 0
  pub unused_bindings : (k : ℕ) → q.bound ≤ k → get_or q.bindings k 0 ≡ 0
  -- R15: this queue's domain, a token given out, an attempt before next
  pub ticket : (t : Ticket) → q.selection ≡ Some t → (t.domain ≡ q.domain) × (t.token < q.count) × (t.attempt < q.next)
  -- R16: no mark without a ticket; R17: not both
  pub unmarked : q.selection ≡ None → (q.failed ≡ false) × (q.issued ≡ false)
  pub one_mark : q.failed ≡ true → q.issued ≡ true → ⊥
  -- R18: empty while its number is out; R19: full while its ticket is ready
  pub issued_empty : (t : Ticket) → q.selection ≡ Some t → q.issued ≡ true → get_or q.slots t.token 0 ≡ 0
  pub ready_full : (t : Ticket) → q.selection ≡ Some t → q.failed ≡ false → q.issued ≡ false → get_or q.slots t.token 0 ≡ 0 → ⊥
  -- R20
  pub scope : q.kind ≡ Scope → (q.bound ≡ 0) × ((q.phase ≡ Ended) ⊎ (q.phase ≡ Closed))
