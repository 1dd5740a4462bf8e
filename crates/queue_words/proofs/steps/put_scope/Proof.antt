-- Word by word
use mathlib.Core.Path.{refl}
use Rattle.queue_record.specs.Openings.{scope_of}
use Rattle.queue_words.specs.Words.{words_of}
use borrow.Author.Rules.{rules}
use Rattle.queue_words.proofs.steps.put_scope.Statement.{statement}
use Rattle.queue_words.proofs.steps.put_scope.Tie as tie

pub put_scope_spec : {M : Type 1} → statement M
unfolding scope_of words_of
put_scope_spec =
    tie.close
    (tie.spec
    (λ c. search rules)
    (λ c. search rules)
    (λ c. search rules)
    (λ c. refl))
