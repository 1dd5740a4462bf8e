-- What is decided of the list, stored from a copy
use mathlib.Core.Path.{sym, ◌∙◌}
use native.Mathlib.Omega.{arith}
use Rattle.queue_decisions.proofs.SequenceLaws.{sequence_lends, sequence_part}
use Rattle.word_steps.proofs.SequenceLaws.{part_room, all_from_part}
use Rattle.word_steps.proofs.sequences.register_all_in.Goals as goal

pub slice_bounds-copy-end : goal.slice_bounds-copy-end
slice_bounds-copy-end c = sequence_lends _ _ _ c.register_taking-taking.ensures _ (omega arith)

pub slice_bounds-register_all_by-end : goal.slice_bounds-register_all_by-end
slice_bounds-register_all_by-end c = sym (sequence_part _ _ _ c.register_taking-taking.ensures _ (omega arith))

pub register_all_by-requires : goal.register_all_by-requires
register_all_by-requires c = (c.requires, part_room _ _ c.requires _ c.register_taking-taking.ensures)

pub returns : goal.returns
returns c = c.register_all_by.ensures ∙ all_from_part _ _ c.requires _ c.register_taking-taking.ensures
