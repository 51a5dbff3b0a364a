use Rattle.std.proofs.Common.{◌≡◌, length}
use Rattle.rv_program.specs.Edits.{edit_of}
use Rattle.rv_program.specs.lemmas.MovedDefinitionLaws.{AreKept}
use Rattle.rv_program.proofs.moved_definitions.keep_places.Given as goal

abbrev pub invariant-loop-number : goal.invariant-loop-number
invariant-loop-number l = record {
  kept : AreKept (edit_of l.edit) l.searched l.names l.initial.row.items l.row.items l.number;
  as_many : length l.row.items ≡ length l.initial.row.items;
}
