-- Empty, the selected one, or one that waits
use mathlib.Core.Path.{◌≡◌, sym, ◌∙◌, ap}
use borrow.Author.Tests.{eq-eqb, ne_eqb}
use Rattle.choice.proofs.Ways.{hit, miss}
use Rattle.queue_record.specs.Waiting.{share, share_of}
use borrow.Author.Rules.{rules}
use Rattle.queue_record.proofs.tally.slot_share.Statement.{statement}
use Rattle.queue_record.proofs.tally.slot_share.Tie as tie
use Rattle.std.specs.Prelude.{Some}

-- behind the selection: what is asked, and the share that is left of the definition
abbrev asked : tie.In-Some → tie.Start
asked c = c.before.before

left : (c : tie.In-Some) → share c.args.selection c.args.place c.args.number ≡ share_of c.args.place (Some c.in-Some.ticket)
left c = miss _ (ne_eqb _ _ c.if-number-eq0.false) ∙ ap (share_of c.args.place) c.in-Some.is

pub slot_share_spec : {M : Type 1} → statement M
slot_share_spec =
    tie.close (tie.spec
    (λ c. sym (hit _ (eq-eqb _ _ c.if-number-eq0.true)))
    (λ c. search rules)
    (λ c. search rules)
    (λ c. sym (miss _ (ne_eqb _ _ c.if-number-eq0.false) ∙ ap (share_of c.args.place) c.in_default.is))
    (λ c. sym (left c.before.before ∙ hit _ (eq-eqb _ _ c.if-place-ticket.true)))
    (λ c. sym (left c.before.before ∙ miss _ (ne_eqb _ _ c.if-place-ticket.false))))
