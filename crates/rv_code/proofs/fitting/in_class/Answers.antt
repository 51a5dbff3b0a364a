use Rattle.std.proofs.Common.{◌∙◌, ap}
use Rattle.rv_code.specs.Encoding.{is_in}
use Rattle.rv_code.proofs.Classes.{member-is_in}
use Rattle.rv_code.proofs.fitting.in_class.Goals as goal

pub returns : goal.returns
returns c = member-is_in c.args.class c.number.result c.number.ensures.below ∙ ap (is_in c.args.class) c.number.ensures.value
