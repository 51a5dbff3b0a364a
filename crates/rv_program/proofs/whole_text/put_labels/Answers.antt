use Rattle.std.proofs.Common.{◌≡◌, ◌+◌, suc, false, arith, ap, sym, ◌∙◌}
use Rattle.std.proofs.lemmas.Bool.{not-true}
use Rattle.rv_stmt.specs.declared.statement.Stmt.{Stmt}
use Rattle.rv_stmt.specs.Statement.{statement_of}
use Rattle.rv_program.specs.internal.Locals.{with_last}
use Rattle.rv_program.specs.Program.{program_of, statement_at}
use Rattle.rv_program.specs.References.{among_local, has_local}
use Rattle.rv_program.specs.lemmas.LocalLines.{statement-of-line, none-among}
use Rattle.rv_program.proofs.WholeTexts.{locals-next}
use Rattle.rv_program.proofs.whole_text.put_labels.Goals as goal

pub returns-then-not-brief : goal.returns-then-not-brief
returns-then-not-brief c = λ number.
    let program = program_of c.args.lines.now in
    let i = c.args.i in
    let line = c.index-lines-i.result in
    let read : statement_at program (suc i) ≡ statement_of line = ap (statement_at program) (let e : suc i ≡ i + 1 = omega arith in e) ∙ statement-of-line c.args.lines.now i line c.requires.within c.index-lines-i.is in
    let none = none-among number (statement_of line).labels (sym (ap (λ b. b.local_labels) c.brief.ensures) ∙ not-true c.brief.result.local_labels c.if-not-brief.true) in
    let other : false ≡ has_local program number (suc i) = sym (ap (λ (s : Stmt). among_local number s.labels) read ∙ none) in
    c.requires.before number ∙ locals-next (has_local program number) i false other

pub returns : goal.returns
returns c = λ number.
    let program = program_of c.args.lines.now in
    let i = c.args.i in
    let line = c.index-lines-i.result in
    let read : statement_at program (suc i) ≡ statement_of line = ap (statement_at program) (let e : suc i ≡ i + 1 = omega arith in e) ∙ statement-of-line c.args.lines.now i line c.requires.within c.index-lines-i.is in
    let labels = c.as_slice.ensures ∙ ap (λ (s : Stmt). s.labels) (c.stmt.ensures ∙ sym read) in
    c.in_ok-put_line.ensures.ok number
    ∙ ap (with_last (i + 1) (among_local number c.as_slice.result)) (c.requires.before number)
    ∙ locals-next (has_local program number) i (among_local number c.as_slice.result) (ap (among_local number) labels)
