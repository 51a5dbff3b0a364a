use Rattle.std.proofs.Common.{◌≡◌, ◌++◌, length}
use Rattle.rv_language.specs.LineNames.{names_used}
use Rattle.rv_language.specs.NameUses.{before_of}
use Rattle.rv_language.proofs.names.push_used.Given as goal

-- the names so far, and those that the tokens that are left use
abbrev pub invariant-tokens : goal.invariant-tokens
invariant-tokens l = record {
  added : l.names.items ++ names_used l.body l.text (before_of l.typed) l.left ≡ l.fn.names.items ++ names_used l.body l.text (before_of l.initial.typed) l.initial.left;
}

abbrev pub decreases-tokens : goal.decreases-tokens
decreases-tokens l = length l.left
