-- 1, or what is decided at once
use Rattle.std.proofs.Common.{rules, ◌≡◌, ℕ, Option}
use mathlib.Core.Path.{sym, ap, ◌∙◌}
use mathlib.Core.Bool.{true}
use native.Mathlib.Omega.{arith}
use borrow.Author.Tests.{not-false}
use Rattle.queue_record.specs.declared.refusal.Refusal.{Refusal}
use Rattle.queue_record.specs.WellFormed.{well_formed}
use Rattle.queue_record.specs.declared.record.Queue.{Queue}
use Rattle.queue_record.specs.declared.answered.Answered.{Answered}
use Rattle.queue_record.proofs.Fit.{fit}
use Rattle.queue_decisions.proofs.SequenceLaws.{sequence_front, sequence_lends, sequence_part, sequence_room}
use Rattle.queue_births.specs.Sequences.{took_as, grown_all, registered_all}
use Rattle.queue_births.specs.declared.sequences.RegisteredAll.{RegisteredAll}
use Rattle.queue_births.proofs.SequenceLaws.{all_taken}
use Rattle.queue_births.proofs.sequences.register_all.Goals as goal

pub returns-then-not-well_formed : goal.returns-then-not-well_formed
unfolding registered_all
returns-then-not-well_formed c = search rules

pub slice_bounds-copy-end : goal.slice_bounds-copy-end
slice_bounds-copy-end c = sequence_lends _ _ _ c.register_taking-taking.ensures _ (omega arith)

pub slice_bounds-grow_all-end : goal.slice_bounds-grow_all-end
slice_bounds-grow_all-end c = sym (sequence_part _ _ _ c.register_taking-taking.ensures _ (omega arith))

pub grow_all-after-requires : goal.grow_all-after-requires
grow_all-after-requires c =
    let w : well_formed c.args.q ≡ true = search (rules, not-false) in
    sequence_room _ _ _ c.register_taking-taking.ensures _ (omega arith) (fit _ w).count

abbrev leaves : ℕ → Option Refusal → Queue → Answered RegisteredAll
leaves taken refusal q = record { answer = took_as taken refusal; queue = q }

pub returns : goal.returns
returns c =
    let w : well_formed c.args.q ≡ true = search (rules, not-false) in
    let s = c.register_taking-taking.result in
    ap (leaves s.taken s.refusal) (c.grow_all-after.ensures ∙ ap (grown_all c.args.q) (sequence_front _ _ _ c.register_taking-taking.ensures s.taken (omega arith)))
    ∙ all_taken _ _ w s c.register_taking-taking.ensures
