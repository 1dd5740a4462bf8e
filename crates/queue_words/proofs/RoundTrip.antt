-- The words of a record encode it, and words that encode a record are its words: an encoding is unique both ways
use Prim.Native.Nat.{ℕ, suc, ◌+◌, ◌<◌, ◌≤◌}
use mathlib.Core.Path.{◌≡◌, sym, ap, ◌∙◌}
use mathlib.Core.Bool.{true}
use mathlib.Core.List.{List, [], ◌∷◌, ◌++◌}
use native.Mathlib.Omega.{arith}
use borrow.Author.Tests.{eq-eqb, eqb-true, leb-true}
use lib.Dec.{eqb, leb}
use lib.ListN.{length, take, drop, length-append, length-drop, take-append-drop, drop_of_length-le}
use lib.Seq.{drop-cons, drop-drop, take_at, drop_at, get_or_at, length-take-le}
use Rattle.stage.specs.Phases.{phase_at}
use Rattle.choice.proofs.Ways.{pass, and_left, and_right}
use Rattle.stage.proofs.Table.{phase_back}
use Rattle.queue_record.specs.Record.{Sized}
use Rattle.queue_record.specs.declared.record.Queue.{Queue}
use Rattle.queue_words.specs.Layout.{at_kind, at_domain, at_next, at_slots, at_count, at_selected, at_ticket_domain, at_ticket_token, at_ticket_attempt}
use Rattle.queue_words.specs.Layout.{at_failed, at_issued, at_phase, at_bindings, at_bound, word_count}
use Rattle.queue_words.specs.Words.{word, kind_at, mark_at, slots_in, bindings_in, selection_in, marks_encode, ticket_encodes, words_behind, queue_of, words_of, encodes}
use Rattle.queue_words.proofs.Parts.{kind_back, mark_back, selection_back, kind_again, mark_again, phase_again, selection_again, marks_encode_lem, ticket_encodes_lem}
use Rattle.queue_words.proofs.Places.{word_behind}

-- ---- a queue's words, place by place
module _ (ws : List ℕ) (l : length ws ≡ word_count) where
  one : (j : ℕ) → j < word_count → {rest : List ℕ} → drop (suc j) ws ≡ rest → drop j ws ≡ word ws j ∷ rest
  one j h e = drop-cons ws j 0 (omega arith) ∙ ap (λ (r : List ℕ). word ws j ∷ r) e

  many : (j n : ℕ) {rest : List ℕ} → drop (j + n) ws ≡ rest → drop j ws ≡ take n (drop j ws) ++ rest
  many j n e = sym (take-append-drop n (drop j ws)) ∙ ap (λ (r : List ℕ). take n (drop j ws) ++ r) (drop-drop n j ws ∙ e)

  apart : ws ≡ word ws at_kind ∷ word ws at_domain ∷ word ws at_next ∷ (slots_in ws
      ++ (word ws at_count ∷ word ws at_selected ∷ word ws at_ticket_domain ∷ word ws at_ticket_token ∷ word ws at_ticket_attempt
      ∷ word ws at_failed ∷ word ws at_issued ∷ word ws at_phase ∷ (bindings_in ws
      ++ (word ws at_bound ∷ []))))
  apart =
      let end : drop word_count ws ≡ [] = drop_of_length-le ws {i = word_count} (omega arith) in
      one at_kind (omega arith)
      (one at_domain (omega arith)
      (one at_next (omega arith)
      (many at_slots 64 (one at_count (omega arith)
      (one at_selected (omega arith)
      (one at_ticket_domain (omega arith)
      (one at_ticket_token (omega arith)
      (one at_ticket_attempt (omega arith)
      (one at_failed (omega arith) (one at_issued (omega arith) (one at_phase (omega arith) (many at_bindings 16 (one at_bound (omega arith) end)))))))))))))

-- ---- what encodes says, part by part
pub record Encoded (ws : List ℕ) : Type 0 where
  pub long : length ws ≡ word_count
  pub kind : word ws at_kind ≤ 1
  pub selected : word ws at_selected ≤ 1
  pub failed : word ws at_failed ≤ 1
  pub issued : word ws at_issued ≤ 1
  pub phase : word ws at_phase ≤ 4
  pub ticket : ticket_encodes (word ws at_selected) (word ws at_ticket_domain) (word ws at_ticket_token) (word ws at_ticket_attempt) ≡ true

pub encoded : (ws : List ℕ) → encodes ws ≡ true → Encoded ws
unfolding encodes
encoded ws h =
    let r = and_right (eqb (length ws) word_count) _ h in
    let m = and_left (marks_encode (word ws at_kind) (word ws at_selected) (word ws at_failed) (word ws at_issued) (word ws at_phase)) _ r in
    let m₁ = and_right (leb (word ws at_kind) 1) _ m in
    let m₂ = and_right (leb (word ws at_selected) 1) _ m₁ in
    let m₃ = and_right (leb (word ws at_failed) 1) _ m₂ in
    record {
      long = eqb-true _ _ (and_left (eqb (length ws) word_count) _ h);
      kind = leb-true _ _ (and_left (leb (word ws at_kind) 1) _ m);
      selected = leb-true _ _ (and_left (leb (word ws at_selected) 1) _ m₁);
      failed = leb-true _ _ (and_left (leb (word ws at_failed) 1) _ m₂);
      issued = leb-true _ _ (and_left (leb (word ws at_issued) 1) _ m₃);
      phase = leb-true _ _ (and_right (leb (word ws at_issued) 1) _ m₃);
      ticket = and_right (marks_encode (word ws at_kind) (word ws at_selected) (word ws at_failed) (word ws at_issued) (word ws at_phase)) _ r;
    }

pub words_again : (ws : List ℕ) → encodes ws ≡ true → words_of (queue_of ws) ≡ ws
unfolding words_of queue_of
words_again ws h =
    let e = encoded ws h in
    let s = selection_again (word ws at_ticket_domain) (word ws at_ticket_token) (word ws at_ticket_attempt) (word ws at_selected) e.selected e.ticket in
    rw (
      kind_again (word ws at_kind) e.kind,
      s.selected,
      s.domain,
      s.token,
      s.attempt,
      mark_again (word ws at_failed) e.failed,
      mark_again (word ws at_issued) e.issued,
      phase_again (word ws at_phase) e.phase,
    ) (sym (apart ws e.long))

-- ---- the words of a record encode it
module _ (q : Queue) (s : Sized q) where
  -- the bound stands behind the bindings
  word_bound : word (words_of q) at_bound ≡ q.bound
  word_bound = word_behind q s.slots 24 ∙ get_or_at q.bindings q.bound [] 0 16 s.bindings

  slots_read : slots_in (words_of q) ≡ q.slots
  unfolding words_of
  slots_read = take_at q.slots (words_behind q) 64 s.slots

  bindings_read : bindings_in (words_of q) ≡ q.bindings
  unfolding words_of
  bindings_read =
      let d : drop at_bindings (words_of q) ≡ drop 8 (words_behind q) = sym (drop-drop 8 64 (q.slots ++ words_behind q)) ∙ ap (drop 8) (drop_at q.slots (words_behind q) 64 s.slots) in
      ap (take 16) d ∙ take_at q.bindings (q.bound ∷ []) 16 s.bindings

  selection_read : selection_in (words_of q) ≡ q.selection
  selection_read = rw (word_behind q s.slots 1, word_behind q s.slots 2, word_behind q s.slots 3, word_behind q s.slots 4) (selection_back q.selection)

  failed_read : mark_at (word (words_of q) at_failed) ≡ q.failed
  failed_read = ap mark_at (word_behind q s.slots 5) ∙ mark_back q.failed

  issued_read : mark_at (word (words_of q) at_issued) ≡ q.issued
  issued_read = ap mark_at (word_behind q s.slots 6) ∙ mark_back q.issued

  phase_read : phase_at (word (words_of q) at_phase) ≡ q.phase
  phase_read = ap phase_at (word_behind q s.slots 7) ∙ phase_back q.phase

  kind_read : kind_at (word (words_of q) at_kind) ≡ q.kind
  unfolding words_of
  kind_read = kind_back q.kind

  pub queue_again : queue_of (words_of q) ≡ q
  unfolding words_of queue_of
  queue_again = rw (kind_read, slots_read, word_behind q s.slots 0, selection_read, failed_read, issued_read, phase_read, bindings_read, word_bound)

  pub words_length : length (words_of q) ≡ word_count
  unfolding words_of
  words_length =
      let b : length (q.bindings ++ (q.bound ∷ [])) ≡ 17 = length-append q.bindings (q.bound ∷ []) ∙ ap (λ (n : ℕ). n + 1) s.bindings in
      let a : length (q.slots ++ words_behind q) ≡ length q.slots + length (words_behind q) = length-append q.slots (words_behind q) in
      let t : length q.slots ≡ 64 = s.slots in
      omega arith

  pub words_encode : encodes (words_of q) ≡ true
  unfolding encodes words_of
  words_encode =
      rw (
        word_behind q s.slots 1,
        word_behind q s.slots 2,
        word_behind q s.slots 3,
        word_behind q s.slots 4,
        word_behind q s.slots 5,
        word_behind q s.slots 6,
        word_behind q s.slots 7,
      )
      (pass _ (eq-eqb _ _ words_length) ∙ pass _ (marks_encode_lem q.kind q.selection q.failed q.issued q.phase) ∙ ticket_encodes_lem q.selection)

-- so an encoding is unique both ways
pub one_record : (p q : Queue) → Sized p → Sized q → words_of p ≡ words_of q → p ≡ q
one_record p q sp sq e = sym (queue_again p sp) ∙ (ap queue_of e ∙ queue_again q sq)

pub one_encoding : (ws vs : List ℕ) → encodes ws ≡ true → encodes vs ≡ true → queue_of ws ≡ queue_of vs → ws ≡ vs
one_encoding ws vs ew ev e = sym (words_again ws ew) ∙ (ap words_of e ∙ words_again vs ev)

-- the record that a queue's words encode has its 64 and 16 places
part_length : (ws : List ℕ) → length ws ≡ word_count → (j n : ℕ) → j + n ≤ word_count → length (take n (drop j ws)) ≡ n
part_length ws l j n h = length-take-le n (drop j ws) (rw (length-drop j ws) (omega arith))

pub slots_length : (ws : List ℕ) → length ws ≡ word_count → length (slots_in ws) ≡ 64
slots_length ws l = part_length ws l 3 64 (omega arith)

pub queue_sized : (ws : List ℕ) → length ws ≡ word_count → Sized (queue_of ws)
unfolding queue_of
queue_sized ws l = record { slots = slots_length ws l; bindings = part_length ws l at_bindings 16 (omega arith) }
