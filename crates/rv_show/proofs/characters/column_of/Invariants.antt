use Rattle.std.proofs.Common.{◌≡◌, ◌+◌, ◌*◌, ◌≤◌, length}
use Rattle.rv_show.specs.Characters.{column_behind, column_of}
use Rattle.rv_show.proofs.characters.column_of.Given as goal

-- what is done so far and what is left are the whole
abbrev pub invariant-bytes : goal.invariant-bytes
invariant-bytes l = record {
  whole : column_behind l.place l.left l.bytes ≡ column_of l.line l.byte;
  room : l.place.column + 8 * length l.bytes ≤ 8000;
}

abbrev pub decreases-bytes : goal.decreases-bytes
decreases-bytes l = length l.bytes
