-- A log of 64-bit words in the language is left by calls whose inputs are 64-bit words
use Prim.Native.Nat.{ℕ, ◌+◌, ◌*◌, ◌≤◌}
use mathlib.Core.Path.{◌≡◌, refl, sym, ap, ◌∙◌}
use mathlib.Core.Logic.{⊎_elim}
use mathlib.Core.Bool.{true}
use mathlib.Core.List.{List, [], ◌∷◌, ◌++◌}
use native.Mathlib.Omega.{arith}
use lib.ListN.{length, length-append}
use Rattle.choice.proofs.Ways.{pass, and_left, and_right}
use Rattle.queue_record.specs.Openings.{scope_of, iterator_of, opened_by, opened_as}
use Rattle.queue_record.specs.declared.record.Kind.{Kind}
use Rattle.queue_record.specs.declared.record.Kind.TheVariants.{Scope, Iterator}
use Rattle.queue_record.specs.declared.record.Queue.{Queue}
use Rattle.queue_record.specs.Refusals.{done}
use Rattle.cleanup_queue.specs.Runs.{Call}
use Rattle.cleanup_queue.proofs.Upstream.{call_keeps_domain}
use Rattle.log_rows.specs.Rows.{rows}
use Rattle.log_rows.specs.declared.Row.{Row}
use Rattle.log_language.specs.Readings.{every}
use Rattle.log_language.specs.Language.{Belongs}
use Rattle.log_language.proofs.Core.{one_more_may}
use Rattle.log_language.proofs.Lists.{snoc_ind, every_snoc}
use Rattle.queue_record.proofs.OpenedLaws.{iterator_open}
use Rattle.history.specs.Histories.{Bench, bench, called, number_of, Start, History, opens, calls, Made, no_call, one_call, opened_queue, setting}
use Rattle.history.specs.Fits.{is_word, fits, row_fits, LeftByFitting}
use Rattle.history.proofs.Steps.{step}
use Rattle.history.proofs.Spoken.{stands}
use Rattle.history.proofs.Demand.{More, row_more}
use Rattle.history.proofs.Computed.{made_history}
use Rattle.std.specs.Prelude.{Ok}

-- a history keeps the opening's domain
opened_domain : (k : Kind) (domain first : ℕ) (bindings : List ℕ) → (opened_by k domain first bindings).answer ≡ Ok tt → (opened_by k domain first bindings).queue.domain ≡ domain
unfolding scope_of iterator_of
opened_domain Scope domain first bindings e = refl
opened_domain Iterator domain first bindings e = ap (λ (q : Queue). q.domain) (iterator_open domain first bindings e)

history_domain : (s : Start) (b : Bench) → History s b → b.queue.domain ≡ s.opening.heading.domain
history_domain s _ (opens e) = opened_domain s.opening.heading.kind s.opening.heading.domain s.opening.heading.first s.opening.bindings e
history_domain s _ (calls {b} h c a) =
    ⊎_elim (λ e. ap (λ (x : Bench). x.queue.domain) e) (λ w. ap (λ (x : Bench). x.queue.domain) w.left
    ∙ call_keeps_domain b.queue c) (step b (stands s b h).sound c a) ∙ history_domain s b h

-- one call more behind the others
made_more : {a b : Bench} {cs : List Call} → Made a cs b → (c : Call) → number_of b c ≡ done → Made a (cs ++ (c ∷ [])) (called b c)
made_more no_call c h = one_call h no_call
made_more (one_call e m) c h = one_call e (made_more m c h)

module _ (s : Start) (unrefused : (opened_as s.opening).answer ≡ Ok tt) (word : is_word s.opening.heading.domain ≡ true) where
  abbrev Spoken : List Row → Type 0
  Spoken rs = every row_fits rs ≡ true → Belongs (setting s) rs → length rs * 5 ≤ length s.memory → LeftByFitting s rs

  first_of : Spoken []
  unfolding rows
  first_of f b l = record { calls = []; fitting = refl; end = bench (opened_queue s) 0 s.memory; made = no_call; wrote = refl }

  one_more : (rs : List Row) (r : Row) → Spoken rs → Spoken (rs ++ (r ∷ []))
  one_more rs r ih f b l =
      let n : length (rs ++ (r ∷ [])) ≡ length rs + 1 = length-append rs (r ∷ []) in
      let g = sym (every_snoc row_fits rs r) ∙ f in
      let h : LeftByFitting s rs = ih (and_left (every row_fits rs) (row_fits r) g) ((one_more_may (setting s) rs r).0 b).0 (omega arith) in
      let k : History s h.end = made_history (opens unrefused) h.made in
      let m : More s unrefused h.end rs r = row_more s unrefused h.end k rs r h.wrote b l in
      let d : is_word h.end.queue.domain ≡ true = ap is_word (history_domain s h.end k) ∙ word in
      let w : fits m.write.call ≡ true = m.write.words d (and_right (every row_fits rs) (row_fits r) g) in
      record {
        calls = h.calls ++ (m.write.call ∷ []);
        fitting = every_snoc fits h.calls m.write.call ∙ (pass _ h.fitting ∙ w);
        end = called h.end m.write.call;
        made = made_more h.made m.write.call m.write.fine;
        wrote = m.wrote;
      }

  -- every log in the language, of 64-bit words and with room for its rows, is left by calls with 64-bit inputs
  pub language_spoken_fits : (rs : List Row) → Spoken rs
  language_spoken_fits = snoc_ind Spoken first_of one_more
