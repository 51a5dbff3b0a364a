use Rattle.std.proofs.Common.{sym, ◌∙◌}
use Rattle.rv_stmt.specs.Statement.{statement_of}
use Rattle.rv_store.specs.internal.Alike.{same_labels}
use Rattle.rv_store.proofs.AlikeLines.{same_labels-true}
use Rattle.rv_store.proofs.alike.have_same_labels.Goals as goal

pub returns : goal.returns
returns c =
    let is = c.are_same_labels.ensures ∙ (λ i. same_labels (c.as_slice.ensures i) (c.as_slice-2.ensures i)) ∙ (λ i. same_labels (c.stmt.ensures i).labels (c.stmt-2.ensures i).labels) in
    λ h. same_labels-true (statement_of c.args.line.now).labels (statement_of c.args.former.now).labels (sym is ∙ h)
