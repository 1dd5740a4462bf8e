-- What calls store and say on words
use Rattle.std.specs.Prelude.{ℕ, Bool, true, false, List, length, set, replicate, Option}
use Rattle.std.proofs.Math.Seq.{paste}
use Rattle.queue_record.specs.Refusals.{done}
use Rattle.queue_words.specs.Layout.{at_kind, at_domain, at_next, at_selected, at_ticket_domain, at_ticket_token, at_ticket_attempt, at_bound, word_count}
use Rattle.queue_words.specs.Words.{selected_word, domain_word, token_word, attempt_word}
use Rattle.queue_words.specs.Exported.{Exported, exported, answer_of}
use Rattle.queue_record.specs.declared.record.Ticket.{Ticket}

-- the four words of a selection
abbrev pub set_selection : List ℕ → Option Ticket → List ℕ
set_selection ws s = set (set (set (set ws at_selected (selected_word s)) at_ticket_domain (domain_word s)) at_ticket_token (token_word s)) at_ticket_attempt (attempt_word s)

-- yes or no as a word
abbrev pub yes_word : Bool → ℕ
yes_word true = 2
yes_word false = 1

-- whether words are sound, as a number
abbrev pub sound_number : Bool → ℕ
sound_number true = 1
sound_number false = 0

-- yes or no, beside the words
abbrev pub said_in : List ℕ → Bool → Exported
said_in ws told = exported done (answer_of (yes_word told) 0) ws

-- an iterator's words before its bindings are put: all else is 0, and so is Idle
abbrev pub iterator_in : ℕ → ℕ → ℕ → List ℕ
iterator_in domain first bound = set (set (set (set (replicate word_count 0) at_kind 1) at_domain domain) at_next first) at_bound bound

-- values in their places, one behind the other
unfoldable pub run_put : List ℕ → ℕ → List ℕ → List ℕ
run_put ws from values = paste ws from values (length values)
