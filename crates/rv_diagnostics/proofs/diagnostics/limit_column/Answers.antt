use Rattle.std.proofs.Common.{ap, take, ◌∙◌}
use Rattle.rv_doc.specs.Positions.{columns}
use Rattle.rv_diagnostics.proofs.Written.{first_of}
use Rattle.rv_diagnostics.proofs.diagnostics.limit_column.Goals as goal

pub returns : goal.returns
returns c =
    let line = c.without_return-line in
    c.column_of.ensures
    ∙ ap (columns c.args.encoding) (c.split_at.ensures.front ∙ first_of c.min.result 1000 line.result.now c.min.ensures ∙ ap (take 1000) line.ensures.value)
