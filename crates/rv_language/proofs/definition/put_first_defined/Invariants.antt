use Rattle.std.proofs.Common.{◌≡◌, length}
use Rattle.rv_language.specs.Meanings.{meant}
use Rattle.rv_language.specs.References.{definition_in}
use Rattle.rv_language.proofs.definition.put_first_defined.Given as goal

-- nothing is written, and none of the names so far defines the meaning
abbrev pub invariant-names : goal.invariant-names
invariant-names g l = record {
  said : l.m ≡ l.fn.m;
  left : definition_in l.context.encoding l.context.uri.now (g.V.View.shown l.view) (meant l.meaning) l.number l.text l.left
      ≡ definition_in l.context.encoding l.context.uri.now (g.V.View.shown l.view) (meant l.meaning) l.number l.text l.initial.left;
}

abbrev pub decreases-names : goal.decreases-names
decreases-names g l = length l.left
