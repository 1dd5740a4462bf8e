-- The blank queue is a scope
use Rattle.queue_record.specs.Openings.{blank}
use borrow.Author.Rules.{rules}
use Rattle.queue_words.proofs.steps.put_blank.Statement.{statement}
use Rattle.queue_words.proofs.steps.put_blank.Tie as tie

pub put_blank_spec : {M : Type 1} → statement M
unfolding blank
put_blank_spec =
    tie.close
    (tie.spec
    (λ c κs. search rules)
    (λ c. c.put_scope.ensures))
