use Rattle.std.proofs.Common.{◌≡◌, take, length, map}
use Rattle.rv_program.specs.Edits.{edit_of}
use Rattle.rv_commands.specs.Edited.{AreEdits}
use Rattle.rv_commands.proofs.edited.make_edits.Given as goal

-- the edits so far are made
abbrev pub invariant-loop-at : goal.invariant-loop-at
invariant-loop-at l = record {
  edits : AreEdits l.fn.store (map edit_of (take l.at l.edits)) (take l.at l.results) l.store;
  size : length l.results ≡ length l.edits;
}
