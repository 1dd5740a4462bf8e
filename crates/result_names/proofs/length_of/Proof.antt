-- The table's row, which is made from the name at that place
use Prim.Native.String.{len}
use mathlib.Core.Path.{sym, ap}
use borrow.Author.Rules.{rules}
use Rattle.result_names.specs.Names.{result_names, result_length}
use Rattle.result_names.proofs.Tables.{at_each, past_all}
use Rattle.result_names.proofs.length_of.Statement.{statement}
use Rattle.result_names.proofs.length_of.Tie as tie

pub length_of_spec : {M : Type 1} → statement M
unfolding result_length
length_of_spec =
    tie.close
    (tie.spec
    (λ c. search rules)
    (λ c. search rules)
    (λ c. at_each len result_names c.args.number 0 "unknown" c.if-number-lt22.true)
    (λ c. sym (ap len (past_all result_names c.args.number "unknown" c.if-number-lt22.false))))
