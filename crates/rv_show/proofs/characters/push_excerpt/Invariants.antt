use Rattle.std.proofs.Common.{◌≡◌, ◌++◌, length}
use Rattle.rv_show.specs.Characters.{abridged, excerpt}
use Rattle.rv_show.proofs.characters.push_excerpt.Given as goal

-- what is done so far and what is left are the whole
abbrev pub invariant-bytes : goal.invariant-bytes
invariant-bytes l = l.out ++ abridged l.room l.left l.bytes ≡ l.fn.out ++ excerpt l.part

abbrev pub decreases-bytes : goal.decreases-bytes
decreases-bytes l = length l.bytes
