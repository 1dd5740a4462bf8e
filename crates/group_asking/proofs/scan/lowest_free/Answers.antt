-- The library's walk asks what the question asks
use Rattle.std.proofs.Common.{[], ◌∙◌, rules, tests}
use Rattle.std.proofs.lemmas.Iterator.{YieldsList-from_slice}
use Rattle.std.proofs.lemmas.Iterator.Search.{position_from_yields_List}
use Rattle.group_asking.specs.Question.{Free}
use Rattle.group_asking.specs.Questions.{asks_of}
use Rattle.group_asking.proofs.Walk.{first_it}
use Rattle.group_asking.proofs.scan.lowest_free.Goals as goal

pub returns : goal.returns
returns c =
    position_from_yields_List (asks_of Free []) _ _ _ c.position.ensures.ran (YieldsList-from_slice c.args.g.places cc) (λ x b q k. search (rules, tests))
    ∙ first_it _ c.args.g.places
