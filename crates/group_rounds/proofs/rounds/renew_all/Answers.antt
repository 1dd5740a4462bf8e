-- Before the first place none is retried, each place is one more, and past the last all are
use Rattle.std.proofs.Common.{ap, ◌∙◌, rules}
use Rattle.group_record.specs.Record.{with_places}
use Rattle.group_rounds.proofs.Halfway.{halfway_none, halfway_on, halfway_all}
use Rattle.group_rounds.proofs.rounds.renew_all.Goals as goal

pub loop-place-init : goal.loop-place-init
loop-place-init c = halfway_none c.args.g.places

pub loop-place-preserved : goal.loop-place-preserved
loop-place-preserved c = halfway_on c.args.g.places _ _ _ (search rules) c.loop-place-test.true c.loop-place.invariant c.renew.ensures

pub returns : goal.returns
returns c = ap (with_places c.args.g) (c.loop-place.invariant ∙ halfway_all c.args.g.places _ (search rules) c.loop-place-test.false)
