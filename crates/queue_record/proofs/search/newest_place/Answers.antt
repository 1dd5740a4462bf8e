use Rattle.std.proofs.Common.{rules}
use Rattle.queue_record.proofs.Last.{found_newest, found_none}
use Rattle.queue_record.proofs.search.newest_place.Goals as goal

pub returns-in-Some : goal.returns-in-Some
returns-in-Some c = found_newest c.args.slots.now c.in-Some.place (search rules) (λ k a l. search rules)

pub returns-in-None : goal.returns-in-None
returns-in-None c = found_none c.args.slots.now (λ k l. search rules)
