use Rattle.std.proofs.Common.{◌∙◌, ap}
use Rattle.rv_ops.specs.Table.{operation_named}
use Rattle.rv_ops.specs.NameLaws.{operation_named-name}
use Rattle.rv_ops.proofs.names.name_of.Goals as goal

pub returns-clause-read : goal.returns-clause-read
returns-clause-read c = ap operation_named c.row.ensures.name ∙ operation_named-name c.args.op
