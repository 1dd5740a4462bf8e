-- By the words' own selection
use Prim.Native.Nat.{ℕ}
use mathlib.Core.Path.{◌≡◌, ap, ◌∙◌}
use mathlib.Core.Bool.{Bool}
use mathlib.Core.List.{List}
use Rattle.queue_decisions.specs.Renewals.{allowed_by}
use Rattle.queue_steps.specs.Attempts.{retry_allowed}
use Rattle.queue_words.specs.Layout.{at_next, at_failed}
use Rattle.queue_words.specs.Words.{word, mark_at, slots_in, selection_in, queue_of}
use borrow.Author.Rules.{rules}
use Rattle.queue_words.proofs.questions.retry_allowed.Statement.{statement}
use Rattle.queue_words.proofs.questions.retry_allowed.Tie as tie
use Rattle.std.specs.Prelude.{Option}
use Rattle.queue_record.specs.declared.record.Ticket.{Ticket}

-- behind the words that are lent: the words that are asked
abbrev asked : tie.After-words-1 → List ℕ
asked c = c.args.w.now

abbrev by_own : tie.After-words-1 → Option Ticket → Bool
by_own c s = allowed_by (mark_at (word (asked c) at_failed)) (slots_in (asked c)) (word (asked c) at_next) s

own : (c : tie.After-words-1) → by_own c c.selection_in-selection.result ≡ retry_allowed (queue_of (asked c)) (selection_in (asked c))
unfolding queue_of
own c = ap (by_own c) c.selection_in-selection.ensures

pub retry_allowed_spec : {M : Type 1} → statement M
retry_allowed_spec =
    tie.close
    (tie.spec
    (λ c κs. search rules)
    (λ c. search rules)
    (λ c. search rules)
    (λ c. search rules)
    (λ c. search rules)
    (λ c. search rules)
    (λ c κs. search rules)
    (λ c. c.retry_allowed.ensures ∙ own c.before.before.before.before.before))
