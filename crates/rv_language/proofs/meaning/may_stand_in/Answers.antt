use Rattle.std.proofs.Common.{sym, ◌∙◌}
use Rattle.rv_language.proofs.MeantNames.{none_in}
use Rattle.rv_language.proofs.meaning.may_stand_in.Goals as goal

pub returns : goal.returns
returns c = λ none. none_in c.args.text.now c.args.symbol.now c.find.result c.find.ensures (sym c.is_some.ensures ∙ none)
