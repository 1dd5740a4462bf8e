-- The tokens' slots are all that the search needs
use Prim.Native.Nat.{◌≤◌}
use mathlib.Core.Path.{ap, ◌∙◌}
use Rattle.queue_record.specs.Newest.{newest}
use Rattle.queue_words.specs.Layout.{at_count}
use Rattle.queue_words.specs.Words.{word}
use Rattle.queue_words.proofs.OnWords.{few_tokens, issued_occupied}
use borrow.Author.Rules.{rules}
use Rattle.queue_words.proofs.search.newest_waiting.Statement.{statement}
use Rattle.queue_words.proofs.search.newest_waiting.Tie as tie

-- the tokens have room behind the words in front of them
few : (s : tie.Start) → word s.args.w.now at_count ≤ 64
few s = few_tokens s.args.w.now s.requires

-- the start, as seen from where the part is lent
abbrev start : tie.After-newest_place-arg-1 → tie.Start
start c = c.before.before.before.before

pub newest_waiting_spec : {M : Type 1} → statement M
newest_waiting_spec =
    tie.close
    (tie.spec
    (λ c. search rules)
    (λ c. let f = few c.before.before in search rules)
    (λ c. let f = few c.before.before.before in search rules)
    (λ c. let f = few c.before.before.before in search rules)
    (λ c. let f = few c.before.before.before in search rules)
    (λ c κs. search rules)
    (λ c.
    let s = start c.before in
    c.newest_place.ensures ∙ ap newest (issued_occupied s.args.w.now s.requires)))
