-- A token more keeps a well-formed record well formed
use Prim.Native.Nat.{ℕ, ◌+◌, ◌<◌}
use mathlib.Core.Path.{◌≡◌, ap, ◌∙◌}
use mathlib.Core.Bool.{true}
use native.Mathlib.Omega.{arith}
use lib.ListN.{set}
use lib.Seq.{get_or-set_other, drop-set-lt}
use Rattle.queue_record.specs.WellFormed.{all_zero, ticket_fits, slot_fits, selected_fits, well_formed}
use Rattle.queue_record.specs.declared.record.Queue.{Queue}
use Rattle.queue_record.proofs.Zeros.{rest_more}
use Rattle.queue_record.proofs.Fit.{Fit, fit, fits, ticket_born, ticket_domain, ticket_before, ticket_fits_lem}
use Rattle.queue_births.specs.Births.{grown}
use Rattle.std.specs.Prelude.{Option, Some, None}
use Rattle.queue_record.specs.declared.record.Ticket.{Ticket}

module _ (q : Queue) (n : ℕ) where
  born_ticket : (s : Option Ticket) → ticket_fits q.domain q.count q.next s ≡ true → ticket_fits q.domain (q.count + 1) q.next s ≡ true
  born_ticket None h = h
  born_ticket (Some t) h =
      let b : t.token < q.count = ticket_born q.domain q.count q.next t h in
      ticket_fits_lem q.domain (q.count + 1) q.next t (ticket_domain q.domain q.count q.next t h) (omega arith) (ticket_before q.domain q.count q.next t h)

  born_selected : (s : Option Ticket) → ticket_fits q.domain q.count q.next s ≡ true
      → selected_fits q.failed q.issued q.slots s ≡ true → selected_fits q.failed q.issued (set q.slots q.count n) s ≡ true
  born_selected None h k = k
  born_selected (Some t) h k =
      let b : t.token < q.count = ticket_born q.domain q.count q.next t h in
      ap (slot_fits q.failed q.issued) (get_or-set_other q.slots q.count t.token n 0 (λ e. omega arith)) ∙ k

  grown_fit : well_formed q ≡ true → q.count < 64 → Fit (grown q n)
  grown_fit h k =
      let f : Fit q = fit q h in
      record {
        given = f.given;
        count = omega arith;
        slots = ap all_zero (drop-set-lt (q.count + 1) q.slots q.count n (omega arith)) ∙ rest_more q.count q.slots f.slots;
        scope = f.scope;
        ticket = born_ticket q.selection f.ticket;
        marks = f.marks;
        selected = born_selected q.selection f.ticket f.selected;
      }

  pub grown_fits : well_formed q ≡ true → q.count < 64 → well_formed (grown q n) ≡ true
  grown_fits h k = fits (grown q n) (grown_fit h k)
