use Rattle.std.proofs.Common.{◌≡◌, ◌++◌, length}
use Rattle.rv_show.specs.Characters.{shown_name}
use Rattle.rv_show.proofs.characters.push_name.Given as goal

-- what is done so far and what is left are the whole
abbrev pub invariant-bytes : goal.invariant-bytes
invariant-bytes l = l.out ++ shown_name l.left l.bytes ≡ l.fn.out ++ shown_name 0 l.name

abbrev pub decreases-bytes : goal.decreases-bytes
decreases-bytes l = length l.bytes
