use Rattle.rv_stmt.specs.Forms.{other_forms}
use Rattle.rv_language.proofs.operand_lists.names_in_other_forms.Goals as goal

pub returns-clause-csrs : goal.returns-clause-csrs
unfolding other_forms
returns-clause-csrs c = c.names_in_forms.ensures.csrs

pub returns-clause-sets : goal.returns-clause-sets
unfolding other_forms
returns-clause-sets c = c.names_in_forms.ensures.sets
