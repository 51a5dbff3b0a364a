use Rattle.std.proofs.Common.{◌≡◌, ◌+◌, ◌*◌, ◌≤◌, ◌++◌, length}
use Rattle.rv_show.specs.Characters.{shown_from, start}
use Rattle.rv_show.proofs.characters.push_shown.Given as goal

-- what is done so far and what is left are the whole
abbrev pub invariant-bytes : goal.invariant-bytes
invariant-bytes l = record {
  whole : l.out ++ shown_from l.place l.bytes ≡ l.fn.out ++ shown_from start l.line;
  room : l.place.column + 8 * length l.bytes ≤ 8000;
}

abbrev pub decreases-bytes : goal.decreases-bytes
decreases-bytes l = length l.bytes
