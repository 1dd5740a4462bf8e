-- By what is due
use Rattle.std.proofs.Common.{rules, ◌≡◌}
use mathlib.Core.Path.{sym, ap, ◌∙◌}
use Rattle.std.specs.Prelude.{Some, None, Ok}
use Rattle.word_steps.proofs.PopLaws.{pop_due_on, pop_none, pop_no, due_place}
use Rattle.word_steps.proofs.pop.pop_by.Goals as goal

pub issue-requires : goal.issue-requires
issue-requires c =
    let told : c.in-Ok-Some.field-0 ≡ Some (c.in-Ok-Some.ticket, c.in-Ok-Some.number, c.in-Ok-Some.next) = search rules in
    (c.requires.0, due_place c.args.queue.now c.requires.0 _ _ _ (sym c.requires.1 ∙ (c.in-Ok-Some.is ∙ ap Ok told)))

pub returns-in-Ok-None : goal.returns-in-Ok-None
returns-in-Ok-None c =
    let told : c.in-Ok-None.field-0 ≡ None = search rules in
    sym (pop_none c.args.queue.now c.requires.0 (sym c.requires.1 ∙ (c.in-Ok-None.is ∙ ap Ok told)))

pub returns-in-Ok-Some : goal.returns-in-Ok-Some
returns-in-Ok-Some c =
    let told : c.in-Ok-Some.field-0 ≡ Some (c.in-Ok-Some.ticket, c.in-Ok-Some.number, c.in-Ok-Some.next) = search rules in
    rw c.issue.ensures (sym (pop_due_on c.args.queue.now c.requires.0 (sym c.requires.1 ∙ (c.in-Ok-Some.is ∙ ap Ok told))))

pub returns-in-Err : goal.returns-in-Err
returns-in-Err c = rw c.into.ensures (sym (pop_no c.args.queue.now c.requires.0 (sym c.requires.1 ∙ c.in-Err.is)))
