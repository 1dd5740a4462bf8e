use Rattle.std.proofs.Common.{rules, tests}
use Rattle.std.proofs.lemmas.Iterator.{YieldsList-from_slice}
use Rattle.std.proofs.lemmas.Iterator.Search.{all_from_yields_List}
use Rattle.stage.specs.Bindings.{member}
use Rattle.stage.proofs.Sets.{is_within, member_is_any}
use Rattle.stage.proofs.bindings.inside.Goals as goal

pub returns : goal.returns
returns c =
    is_within c.args.a.now c.args.b.now c.all.result
    (all_from_yields_List (λ x. member x c.args.b.now) _ _ _ c.all.ensures.ran (YieldsList-from_slice c.args.a.now cc) (λ x b q k. search (rules, tests, member_is_any)))
