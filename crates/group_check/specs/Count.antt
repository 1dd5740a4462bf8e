-- How many of some places are live
use Rattle.std.specs.Prelude.{ℕ, suc, List, [], ◌∷◌}
use Rattle.choice.specs.Choice.{when◌then◌else◌}
use Rattle.group_record.specs.declared.record.Place.{Place}

abbrev pub live_count : List Place → ℕ
live_count [] = 0
live_count (p ∷ ps) = when p.live then suc (live_count ps) else live_count ps
