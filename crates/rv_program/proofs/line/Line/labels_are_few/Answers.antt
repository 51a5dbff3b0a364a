use Rattle.std.proofs.Common.{ap, sym, ◌∙◌}
use Rattle.rv_program.specs.Text.{is_line}
use Rattle.rv_program.specs.lemmas.DefinitionRows.{few_labels-line}
use Rattle.rv_program.proofs.line.Line.labels_are_few.Goals as goal

pub returns : goal.returns
returns c = few_labels-line c.args.self.now (ap is_line (sym c.text.ensures.text) ∙ c.text.ensures.line)
