-- The bindings in use are a part of the words
use mathlib.Core.Path.{ap, ◌∙◌}
use Rattle.stage.specs.Bindings.{same_set}
use Rattle.queue_words.proofs.QuestionWords.{committed_words}
use borrow.Author.Rules.{rules}
use Rattle.queue_words.proofs.questions.target_matches.Statement.{statement}
use Rattle.queue_words.proofs.questions.target_matches.Tie as tie

-- the start, as seen from where the part is lent
abbrev start : tie.After-same_set-arg-1 → tie.Start
start c = c.before.before.before.before.before

pub target_matches_spec : {M : Type 1} → statement M
target_matches_spec =
    tie.close
    (tie.spec
    (λ c. search rules)
    (λ c. search rules)
    (λ c. search rules)
    (λ c. search rules)
    (λ c. search rules)
    (λ c κs. search rules)
    (λ c.
    let s = start c.before in
    c.same_set.ensures.0 ∙ ap (same_set s.args.target.now) (committed_words s.args.w.now s.requires)))
