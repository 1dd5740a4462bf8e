-- Refused with the blank queue, or the iterator's words
use Prim.Native.Nat.{ℕ}
use mathlib.Core.Path.{sym, ap, ◌∙◌}
use mathlib.Core.List.{List}
use borrow.Author.Tests.{lt-ltb, le-ltb}
use lib.ListN.{length}
use Rattle.choice.proofs.Ways.{hit, miss}
use Rattle.queue_record.specs.Openings.{iterator_opened}
use Rattle.queue_record.specs.Types.{Opened}
use Rattle.queue_record.specs.declared.answered.Answered.{Answered}
use Rattle.queue_words.specs.Layout.{at_bindings}
use Rattle.queue_words.specs.Words.{words_of}
use Rattle.queue_words.specs.Exported.{open_number}
use Rattle.queue_words.specs.InPlace.{iterator_in, run_put}
use Rattle.queue_words.proofs.OpenWords.{iterator_words}
use Rattle.word_steps.proofs.openings.open_iterator.Goals as goal

number : Answered Opened → ℕ
number x = open_number x.answer

left : Answered Opened → List ℕ
left x = words_of x.queue

pub returns-then-bound-gt-MOST_BINDINGS : goal.returns-then-bound-gt-MOST_BINDINGS
unfolding iterator_opened number left
returns-then-bound-gt-MOST_BINDINGS c = record {
  number = c.into.ensures ∙ sym (ap number (hit _ (lt-ltb _ _ c.if-bound-gt-MOST_BINDINGS.true)));
  left = c.put_blank.ensures ∙ sym (ap left (hit _ (lt-ltb _ _ c.if-bound-gt-MOST_BINDINGS.true)));
}

pub returns : goal.returns
unfolding iterator_opened number left
returns c =
    let given = c.args.bindings.now in
    record {
      number = sym (ap number (miss _ (le-ltb _ _ c.if-bound-gt-MOST_BINDINGS.false)));
      left = c.put_iterator.ensures
          ∙ (ap (run_put (iterator_in c.args.domain c.args.first (length given)) at_bindings) c.places_of-places.ensures
          ∙ (iterator_words c.args.domain c.args.first given c.if-bound-gt-MOST_BINDINGS.false
          ∙ sym (ap left (miss _ (le-ltb _ _ c.if-bound-gt-MOST_BINDINGS.false)))));
    }
