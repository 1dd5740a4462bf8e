-- The table's row, which is made from the name at that place
use mathlib.Core.Path.{sym, ap}
use mathlib.Core.List.{[]}
use borrow.Author.Rules.{rules}
use Rattle.result_names.specs.Names.{result_names, in_places, result_text}
use Rattle.result_names.proofs.Tables.{at_each, past_all}
use Rattle.result_names.proofs.text_of.Statement.{statement}
use Rattle.result_names.proofs.text_of.Tie as tie

pub text_of_spec : {M : Type 1} → statement M
unfolding result_text
text_of_spec =
    tie.close
    (tie.spec
    (λ c. search rules)
    (λ c. search rules)
    (λ c. at_each in_places result_names c.args.number [] "unknown" c.if-number-lt22.true)
    (λ c. sym (ap in_places (past_all result_names c.args.number "unknown" c.if-number-lt22.false))))
