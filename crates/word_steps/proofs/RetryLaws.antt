-- Retry on words: by the ticket that is due again, whose attempt is below the last number
use Prim.Native.Nat.{◌<◌, ℕ}
use mathlib.Core.Path.{◌≡◌, ap, ◌∙◌}
use mathlib.Core.Bool.{true, false, not}
use mathlib.Core.List.{List}
use Rattle.choice.proofs.Ways.{hit, miss}
use Rattle.queue_record.specs.declared.refusal.Refusal.{Refusal}
use Rattle.queue_record.specs.declared.refusal.Refusal.TheVariants.{Broken}
use Rattle.queue_record.specs.declared.record.Ticket.{Ticket}
use Rattle.queue_decisions.proofs.RenewalLaws.{renewal_low}
use Rattle.queue_steps.specs.Attempts.{due_again_in, retried_as, retried}
use Rattle.queue_words.specs.Words.{queue_of, is_sound}
use Rattle.queue_words.specs.Exported.{refused_on, retry_exported, retry_on}
use Rattle.queue_words.proofs.OnWords.{unsound_on, sound_on, not_broken, same_words_lem}
use Rattle.std.specs.Prelude.{Ok, Err}
use Rattle.queue_decisions.specs.Types.{Renewal}

module _ (ws : List ℕ) where
  module _ (s : is_sound ws ≡ true) where
    pub retry_by : retried (queue_of ws) ≡ retried_as (queue_of ws) (due_again_in (queue_of ws))
    unfolding retried
    retry_by = miss _ (not_broken ws s)

    pub retry_on_lem : retry_on ws ≡ retry_exported (retried_as (queue_of ws) (due_again_in (queue_of ws)))
    unfolding retry_on
    retry_on_lem = sound_on ws s 0 _ ∙ ap retry_exported retry_by

    pub retry_due_on : {d : Renewal} → due_again_in (queue_of ws) ≡ d → retry_on ws ≡ retry_exported (retried_as (queue_of ws) d)
    retry_due_on e = retry_on_lem ∙ ap (λ (d : Renewal). retry_exported (retried_as (queue_of ws) d)) e

    pub retry_no : {f : Refusal} → due_again_in (queue_of ws) ≡ Err f → retry_on ws ≡ refused_on f 0 ws
    retry_no {f} e = retry_due_on e ∙ ap (refused_on f 0) (same_words_lem ws s)

  pub again_low : (t : Ticket) → due_again_in (queue_of ws) ≡ Ok t → t.attempt < 18446744073709551615
  again_low t e = let q = queue_of ws in renewal_low q.failed q.slots q.next t q.selection e

-- words that are not sound are refused with 1
pub retry_unsound : (ws : List ℕ) → is_sound ws ≡ false → retry_on ws ≡ refused_on Broken 0 ws
unfolding retry_on retried
retry_unsound ws u = unsound_on ws 0 _ u (λ w. ap retry_exported (hit _ (ap not w)))
