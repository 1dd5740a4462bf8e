-- The library's walk asks what the question asks
use Rattle.std.proofs.Common.{[], ◌∙◌, rules, tests}
use Rattle.std.proofs.lemmas.Iterator.{YieldsList-from_slice}
use Rattle.std.proofs.lemmas.Iterator.Search.{any_from_yields_List}
use Rattle.group_asking.specs.Question.{Stuck}
use Rattle.group_asking.specs.Questions.{asks_of}
use Rattle.group_asking.proofs.Walk.{some_it}
use Rattle.group_asking.proofs.scan.some_stuck.Goals as goal

pub returns : goal.returns
returns c =
    any_from_yields_List (asks_of Stuck []) _ _ _ c.any.ensures.ran (YieldsList-from_slice c.args.g.places cc) (λ x b q k. search (rules, tests))
    ∙ some_it _ c.args.g.places
