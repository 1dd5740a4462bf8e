-- The places that the filter keeps are those that the definition counts
use Rattle.std.proofs.Common.{◌≡◌, List, refl, sym, ◌∙◌, rules}
use Rattle.std.specs.List.{count_by}
use Rattle.std.proofs.lemmas.List.Recursion.{is_count_by}
use Rattle.group_check.specs.Count.{live_count}
use Rattle.group_record.specs.declared.record.Place.{Place}
use Rattle.group_check.proofs.tally.live_count.Goals as goal

live_counted : (ps : List Place) → live_count ps ≡ count_by (λ p. p.live) ps
live_counted ps = is_count_by live_count (λ p. p.live) refl (λ p ps. search rules) ps

pub returns : goal.returns
returns c =
    let kept : c.count.result ≡ count_by (λ p. p.live) c.args.g.places = search rules in
    kept ∙ sym (live_counted c.args.g.places)
