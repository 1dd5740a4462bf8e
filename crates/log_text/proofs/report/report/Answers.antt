-- Names, six values, the last one
use Rattle.log_text.specs.Report.{names}
use Rattle.log_text.proofs.Reported.{last_fits, reported}
use Rattle.log_text.proofs.report.report.Goals as goal

pub put_number-requires : goal.put_number-requires
unfolding names
put_number-requires c =
    let n = c.put-named.ensures in
    let f = c.put_fields-last.ensures in
    last_fits c.args.f c.args.out.now c.requires _ _ _ _ n.value n.out_after f.value f.out_after

pub returns-clause-value : goal.returns-clause-value
unfolding names
returns-clause-value c =
    let n = c.put-named.ensures in
    let f = c.put_fields-last.ensures in
    let e = c.put_number.ensures in
    (reported c.args.f c.args.out.now c.requires _ _ _ _ n.value n.out_after f.value f.out_after _ _ e.value e.out_after).0

pub returns-clause-out_after : goal.returns-clause-out_after
unfolding names
returns-clause-out_after c =
    let n = c.put-named.ensures in
    let f = c.put_fields-last.ensures in
    let e = c.put_number.ensures in
    (reported c.args.f c.args.out.now c.requires _ _ _ _ n.value n.out_after f.value f.out_after _ _ e.value e.out_after).1
