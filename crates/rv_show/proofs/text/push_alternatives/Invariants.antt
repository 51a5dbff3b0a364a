use Rattle.std.proofs.Common.{◌≡◌, ◌++◌, length, map}
use Rattle.rv_show.specs.Texts.{alternatives}
use Rattle.rv_show.proofs.text.push_alternatives.Given as goal

-- what is done so far and what is left are the whole
abbrev pub invariant-texts : goal.invariant-texts
invariant-texts l = l.out ++ alternatives l.comma l.or l.place (map (λ t. t.now) l.texts) ≡ l.fn.out ++ alternatives l.comma l.or l.place (map (λ t. t.now) l.fn.texts)

abbrev pub decreases-texts : goal.decreases-texts
decreases-texts l = length l.texts
