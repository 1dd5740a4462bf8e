-- A well-formed record, clause by clause: taken apart, and put together
use Prim.Native.Nat.{ℕ, zero, suc, ◌<◌, ◌≤◌}
use mathlib.Core.Path.{◌≡◌, refl, sym, ap, ◌∙◌}
use mathlib.Core.Bool.{Bool, true, false, ◌&&◌}
use mathlib.Core.List.{List, [], ◌∷◌}
use native.Mathlib.Omega.{arith}
use borrow.Author.Tests.{eq-eqb, lt-ltb, le-leb, eqb-true, ltb-true, leb-true}
use lib.Dec.{eqb, ltb}
use lib.ListN.{length, get_or}
use Rattle.choice.proofs.Ways.{pass, and_left, and_right, clash}
use Rattle.queue_record.specs.WellFormed.{all_true, clauses, rest_zero, is_selected, ticket_fits, marks_fit, slot_fits, selected_fits, scope_fits, well_formed}
use Rattle.queue_record.specs.declared.record.Ticket.{Ticket}
use Rattle.queue_record.specs.declared.record.Queue.{Queue}
use Rattle.std.specs.Prelude.{Option, Some, None}

-- ---- the clauses on what an opening gives and no call changes: a law over a call passes them on whole
pub record Given (n : ℕ) (places : List ℕ) : Type 0 where
  pub bound : n ≤ 16
  pub bindings : rest_zero n places ≡ true

-- ---- the whole record
pub record Fit (q : Queue) : Type 0 where
  pub given : Given q.bound q.bindings
  pub count : q.count ≤ 64
  pub slots : rest_zero q.count q.slots ≡ true
  pub scope : scope_fits q.kind q.bound q.phase ≡ true
  pub ticket : ticket_fits q.domain q.count q.next q.selection ≡ true
  pub marks : marks_fit (is_selected q.selection) q.failed q.issued ≡ true
  pub selected : selected_fits q.failed q.issued q.slots q.selection ≡ true

pub all_at : (bs : List Bool) (i : ℕ) → all_true bs ≡ true → get_or bs i true ≡ true
all_at [] i h = refl
all_at (b ∷ bs) zero h = and_left b (all_true bs) h
all_at (b ∷ bs) (suc i) h = all_at bs i (and_right b (all_true bs) h)

pub fit : (q : Queue) → well_formed q ≡ true → Fit q
unfolding well_formed
fit q h = record {
  given = record { bound = leb-true _ _ (all_at (clauses q) 1 h); bindings = all_at (clauses q) 3 h };
  count = leb-true _ _ (all_at (clauses q) 0 h);
  slots = all_at (clauses q) 2 h;
  scope = all_at (clauses q) 4 h;
  ticket = all_at (clauses q) 5 h;
  marks = all_at (clauses q) 6 h;
  selected = all_at (clauses q) 7 h;
}

pub fits : (q : Queue) → Fit q → well_formed q ≡ true
unfolding well_formed
fits q f =
    pass _ (le-leb _ _ f.count)
    ∙ (pass _ (le-leb _ _ f.given.bound)
    ∙ (pass _ f.slots ∙ (pass _ f.given.bindings ∙ (pass _ f.scope ∙ (pass _ f.ticket ∙ (pass _ f.marks ∙ pass _ f.selected))))))

-- the tokens have room, so that their slots can be lent
pub tokens_within : (q : Queue) → well_formed q ≡ true → length q.slots ≡ 64 → q.count ≤ length q.slots
tokens_within q h l = let b : q.count ≤ 64 = (fit q h).count in omega arith

-- ---- the selected ticket
module _ (domain count next : ℕ) (t : Ticket) where
  pub ticket_domain : ticket_fits domain count next (Some t) ≡ true → t.domain ≡ domain
  ticket_domain h = eqb-true _ _ (and_left (eqb t.domain domain) (ltb t.token count && ltb t.attempt next) h)

  ticket_rest : ticket_fits domain count next (Some t) ≡ true → (ltb t.token count && ltb t.attempt next) ≡ true
  ticket_rest h = and_right (eqb t.domain domain) (ltb t.token count && ltb t.attempt next) h

  pub ticket_born : ticket_fits domain count next (Some t) ≡ true → t.token < count
  ticket_born h = ltb-true _ _ (and_left (ltb t.token count) (ltb t.attempt next) (ticket_rest h))

  pub ticket_below : count ≤ 64 → ticket_fits domain count next (Some t) ≡ true → t.token < 64
  ticket_below l h = let b : t.token < count = ticket_born h in omega arith

  pub ticket_before : ticket_fits domain count next (Some t) ≡ true → t.attempt < next
  ticket_before h = ltb-true _ _ (and_right (ltb t.token count) (ltb t.attempt next) (ticket_rest h))

  pub ticket_fits_lem : t.domain ≡ domain → t.token < count → t.attempt < next → ticket_fits domain count next (Some t) ≡ true
  ticket_fits_lem d k a = pass _ (eq-eqb _ _ d) ∙ (pass _ (lt-ltb _ _ k) ∙ lt-ltb _ _ a)

-- the selected ticket of a well-formed record
module _ (q : Queue) (t : Ticket) (h : well_formed q ≡ true) (e : q.selection ≡ Some t) where
  own : ticket_fits q.domain q.count q.next (Some t) ≡ true
  own = sym (ap (ticket_fits q.domain q.count q.next) e) ∙ (fit q h).ticket

  pub selected_domain : t.domain ≡ q.domain
  selected_domain = ticket_domain q.domain q.count q.next t own

  pub selected_born : t.token < q.count
  selected_born = ticket_born q.domain q.count q.next t own

  pub selected_before : t.attempt < q.next
  selected_before = ticket_before q.domain q.count q.next t own

  pub selected_below : t.token < 64
  selected_below = let b : t.token < q.count = selected_born in let f : Fit q = fit q h in omega arith

  selected_slot : slot_fits q.failed q.issued (get_or q.slots t.token 0) ≡ true
  selected_slot = sym (ap (selected_fits q.failed q.issued q.slots) e) ∙ (fit q h).selected

-- ---- the marks
-- an issued queue is not failed
never_both : (s f i : Bool) → marks_fit s f i ≡ true → i ≡ true → f ≡ false
never_both s true true h e = clash h (go s)
  where
    go : (s : Bool) → marks_fit s true true ≡ false
    go true = refl
    go false = refl
never_both s false i h e = refl
never_both s true false h e = clash e refl

pub issued_not_failed : (q : Queue) → well_formed q ≡ true → q.issued ≡ true → q.failed ≡ false
issued_not_failed q h = never_both (is_selected q.selection) q.failed q.issued (fit q h).marks

pub failed_not_issued : (q : Queue) → well_formed q ≡ true → q.failed ≡ true → q.issued ≡ false
failed_not_issued q h e = go q.issued refl
  where
    go : (b : Bool) → q.issued ≡ b → q.issued ≡ false
    go false i = i
    go true i = clash e (issued_not_failed q h i)

-- no mark without a selection
free_unmarked : (f i : Bool) → marks_fit false f i ≡ true → (f ≡ false) × (i ≡ false)
free_unmarked false false h = (refl, refl)
free_unmarked true i h = clash h refl
free_unmarked false true h = clash h refl

pub free_no_marks : (q : Queue) → well_formed q ≡ true → q.selection ≡ None → (q.failed ≡ false) × (q.issued ≡ false)
free_no_marks q h e = free_unmarked q.failed q.issued (sym (ap (λ (s : Option Ticket). marks_fit (is_selected s) q.failed q.issued) e) ∙ (fit q h).marks)

-- an issued slot is empty
issued_hollow : (f i : Bool) (n : ℕ) → slot_fits f i n ≡ true → i ≡ true → n ≡ 0
issued_hollow f true n h e = eqb-true n 0 (and_left (eqb n 0) _ h)
issued_hollow f false n h e = clash e refl

pub issued_empty_lem : (q : Queue) (t : Ticket) → well_formed q ≡ true → q.selection ≡ Some t → q.issued ≡ true → get_or q.slots t.token 0 ≡ 0
issued_empty_lem q t h e i = issued_hollow q.failed q.issued (get_or q.slots t.token 0) (selected_slot q t h e) i

-- a ready slot is occupied
ready_full_lem : (f i : Bool) (n : ℕ) → slot_fits f i n ≡ true → i ≡ false → f ≡ false → n ≡ 0 → ⊥
ready_full_lem false false n h i f z = clash h (rw z)
ready_full_lem true j n h i f z = clash {b = true} refl f
ready_full_lem false true n h i f z = clash {b = true} refl i

pub ready_occupied : (q : Queue) (t : Ticket) → well_formed q ≡ true → q.selection ≡ Some t → q.issued ≡ false → q.failed ≡ false → get_or q.slots t.token 0 ≡ 0 → ⊥
ready_occupied q t h e i f = ready_full_lem q.failed q.issued (get_or q.slots t.token 0) (selected_slot q t h e) i f
