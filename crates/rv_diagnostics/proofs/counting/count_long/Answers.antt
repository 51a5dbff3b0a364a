use Rattle.std.proofs.Common.{◌∙◌, refl}
use Rattle.rv_doc.specs.Positions.{lines_of}
use Rattle.rv_diagnostics.proofs.Counts.{none_long, none_long_before}
use Rattle.rv_diagnostics.proofs.counting.count_long.Goals as goal

pub returns-then-not-may_have_longer_line-clause-all : goal.returns-then-not-may_have_longer_line-clause-all
returns-then-not-may_have_longer_line-clause-all c =
    c.new.ensures.all ∙ none_long 16384 (lines_of c.args.document.now) (c.if-not-may_have_longer_line.ensures refl)

pub returns-then-not-may_have_longer_line-clause-before : goal.returns-then-not-may_have_longer_line-clause-before
returns-then-not-may_have_longer_line-clause-before c =
    c.new.ensures.before ∙ none_long_before c.args.at 16384 (lines_of c.args.document.now) (c.if-not-may_have_longer_line.ensures refl)
