use Rattle.std.proofs.Common.{ap, ◌∙◌}
use Rattle.rv_list.specs.Later.{bytes_left}
use Rattle.rv_list.proofs.LaterLines.{none_taken}
use Rattle.rv_list.proofs.bytes_left.SectionBytes.new.Goals as goal

pub returns : goal.returns
returns g c =
    ap (λ shown. bytes_left shown c.args.section 0 0) c.lines.ensures.text ∙ none_taken (g.V.View.shown c.args.view.now) c.args.section
