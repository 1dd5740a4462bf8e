-- A number that is not refused has a slot
use Rattle.std.proofs.Common.{ℕ, ◌≡◌, ◌<◌, ◌∙◌, List, ap, sym, arith, length, get_or, set}
use Rattle.std.specs.Prelude.{Option, Some, None}
use Rattle.queue_record.specs.declared.refusal.Refusal.{Refusal}
use Rattle.queue_decisions.specs.declared.sequences.Taking.{Taking}
use Rattle.queue_decisions.proofs.BirthLaws.{register_room}
use Rattle.queue_decisions.proofs.SequenceLaws.{so_far_more, so_far_refused, so_far_all, copied_more, decided}
use Rattle.queue_decisions.proofs.sequences.register_taking.Goals as goal

abbrev made : List ℕ → ℕ → Option Refusal → Taking
made numbers taken refusal = record { numbers = numbers; taken = taken; refusal = refusal }

pub bounds-numbers-i : goal.bounds-numbers-i
bounds-numbers-i c = omega (arith, register_room _ _ (sym c.register_refusal.ensures ∙ c.in_default.is))

pub overflow_add-tokens : goal.overflow_add-tokens
overflow_add-tokens c = omega (arith, register_room _ _ (sym c.register_refusal.ensures ∙ c.in_default.is))

pub loop-i-preserved : goal.loop-i-preserved
loop-i-preserved c =
    let fine = sym c.register_refusal.ensures ∙ c.in_default.is in
    let room : c.loop-i.tokens < 64 = register_room _ _ fine in
    record {
      numbers = ap (λ (xs : List ℕ). set xs c.loop-i.i (get_or c.args.given.now c.loop-i.i 0)) c.loop-i.invariant.numbers ∙ copied_more c.args.given.now c.loop-i.i (omega arith) (omega arith);
      tokens = omega arith;
      so_far = so_far_more c.args.given.now _ _ _ c.loop-i.invariant.so_far (omega arith) fine;
    }

pub returns-in-Some : goal.returns-in-Some
returns-in-Some c =
    let refused = sym c.register_refusal.ensures ∙ c.in-Some.is in
    ap (λ (xs : List ℕ). made xs c.loop-i.i (Some c.in-Some.refusal)) c.loop-i.invariant.numbers
    ∙ sym (so_far_refused c.args.given.now _ _ _ c.loop-i.invariant.so_far (omega arith) c.in-Some.refusal refused ∙ ap (decided c.args.given.now c.loop-i.i) refused)

pub returns : goal.returns
returns c =
    let e : length c.args.given.now ≡ c.loop-i.i = omega arith in
    ap (λ (n : ℕ). made c.loop-i.numbers n None) e ∙ (ap (λ (xs : List ℕ). made xs c.loop-i.i None) c.loop-i.invariant.numbers
    ∙ sym (so_far_all c.args.given.now _ _ _ c.loop-i.invariant.so_far (omega arith)))
