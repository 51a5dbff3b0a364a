use Rattle.std.proofs.Common.{ap, sym, ◌∙◌}
use Rattle.std.specs.List.{list_any}
use Rattle.std.proofs.lemmas.Bool.{not-true}
use Rattle.rv_stmt.specs.Statement.{statement_of}
use Rattle.rv_program.specs.Definitions.{defines_symbol}
use Rattle.rv_program.specs.lemmas.LocalLines.{none-among}
use Rattle.rv_store.proofs.waiting.is_unused.Goals as goal

pub returns-then-not-brief : goal.returns-then-not-brief
returns-then-not-brief c all = record {
  local = λ number. none-among number (statement_of c.args.line.now).labels (sym (ap (λ b. b.local_labels) c.brief.ensures) ∙ not-true c.brief.result.local_labels c.if-not-brief.true);
  symbols = λ name has. c.are_unused.ensures all name (ap (list_any (λ l. defines_symbol l.name name)) (c.as_slice.ensures ∙ ap (λ t. t.labels) c.stmt.ensures) ∙ has);
}
