use Rattle.std.proofs.Common.{◌+◌, ◌∙◌, ap, sym, arith, drop}
use Rattle.queue_record.specs.declared.record.Queue.{Queue}
use Rattle.queue_births.specs.Sequences.{grown_all}
use Rattle.queue_births.proofs.SequenceLaws.{grown_more, grown_end}
use Rattle.queue_births.proofs.sequences.grow_all.Goals as goal

pub loop-number-preserved : goal.loop-number-preserved
loop-number-preserved c =
    record {
      made = ap (λ (p : Queue). grown_all p (drop (c.loop-number.number-index + 1) c.args.numbers.now)) c.grow-after.ensures
          ∙ (sym (grown_more c.args.numbers.now c.loop-number.after c.loop-number.number-index (omega arith)) ∙ c.loop-number.invariant.made);
      count = ap (λ (p : Queue). p.count) c.grow-after.ensures ∙ omega arith;
    }

pub returns : goal.returns
returns c = sym (grown_end c.args.numbers.now c.loop-number.after c.loop-number.number-index (omega arith)) ∙ c.loop-number.invariant.made
