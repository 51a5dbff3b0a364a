use Rattle.std.proofs.Common.{◌≡◌, ◌++◌, replicate}
use Rattle.rv_show.proofs.text.Text.push_repeated.Given as goal

-- what is done so far and what is left are the whole
abbrev pub invariant-more : goal.invariant-more
invariant-more l = l.self ++ replicate l.left l.byte ≡ l.fn.self ++ replicate l.count l.byte

abbrev pub decreases-more : goal.decreases-more
decreases-more l = l.left
