use Rattle.std.proofs.Common.{rules, tests, eqb}
use Rattle.std.proofs.lemmas.Iterator.{YieldsList-from_slice}
use Rattle.std.proofs.lemmas.Iterator.Search.{all_from_yields_List}
use Rattle.queue_record.proofs.Zeros.{is_rest_zero}
use Rattle.queue_record.proofs.check.zeros_from.Goals as goal

pub returns : goal.returns
returns c =
    is_rest_zero c.args.from c.min-start.result c.args.s.now c.all.result (search rules)
    (all_from_yields_List (λ x. eqb x 0) _ _ _ c.all.ensures.ran (YieldsList-from_slice _ c.iter.ensures.rest) (λ x b q k. search (rules, tests)))
