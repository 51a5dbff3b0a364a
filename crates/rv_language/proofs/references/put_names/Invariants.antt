use Rattle.std.proofs.Common.{◌≡◌, ◌++◌, length}
use Rattle.rv_language.specs.References.{asked_of, places_of}
use Rattle.rv_language.proofs.references.put_names.Given as goal

-- the places so far, and those of the names that are left
abbrev pub invariant-names : goal.invariant-names
invariant-names g l = record {
  said : l.m ++ places_of l.context.encoding l.context.uri.now (g.V.View.shown l.view) (asked_of l.wanted) l.number l.text l.left
      ≡ l.fn.m ++ places_of l.context.encoding l.context.uri.now (g.V.View.shown l.view) (asked_of l.wanted) l.number l.text l.initial.left;
}

abbrev pub decreases-names : goal.decreases-names
decreases-names g l = length l.left
