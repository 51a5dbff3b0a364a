use Rattle.std.proofs.Common.{◌≡◌, [], length}
use Rattle.rv_doc.specs.Frames.{first_length, length_of, rows_from}
use Rattle.rv_doc.proofs.frame.length_of.Given as goal

-- none of the rows so far is the field of the length
abbrev pub invariant-rows : goal.invariant-rows
invariant-rows l = record {
  left : first_length (rows_from [] l.rest) ≡ length_of l.header;
}

abbrev pub decreases-rows : goal.decreases-rows
decreases-rows l = length l.rest
