use Rattle.std.proofs.lemmas.List.{length-set}
use Rattle.rv_program.specs.internal.Work.{equ_operands}
use Rattle.std.proofs.Common.{◌≡◌, ℕ, suc, ◌+◌, ◌-◌, true, false, get_or, arith, ap, sym, refl, subst, ◌∙◌, ◌≤◌}
use Rattle.rv_stmt.specs.declared.statement.Body.TheVariants.{Equ as EquBody}
use Rattle.rv_stmt.specs.Statement.{statement_of}
use Rattle.rv_program.specs.Constants.{defined_value}
use Rattle.rv_program.specs.Program.{Program, body_at}
use Rattle.rv_program.specs.internal.KeptEqus.{HasValuesThrough}
use Rattle.rv_program.specs.internal.TextRows.{program_in, references_through}
use Rattle.rv_program.specs.lemmas.ConstantRows.{equ-by_row, body-read}
use Rattle.rv_program.specs.lemmas.EquLaws.{equ_values-kept, equ_values-set}
use Rattle.rv_program.proofs.KeptEqus.{known-of_all}
use Rattle.rv_program.proofs.equ_values.settle_equ.Goals as goal

less-one : (i : ℕ) → i + 1 - 1 ≡ i
less-one i = omega arith

pub value_on-requires-clause-values : goal.value_on-requires-clause-values
value_on-requires-clause-values g c =
    rw c.deref.ensures.value (subst (λ n. HasValuesThrough c.args.text.now n c.args.row.now.items) (sym (less-one c.args.i)) (known-of_all c.args.text.now c.args.i c.args.row.now.items c.requires.before))

pub returns-in_default-clause-after : goal.returns-in_default-clause-after
returns-in_default-clause-after g c =
    let text = c.args.text.now in
    let program : Program = program_in text in
    let read = c.line-read.result.now in
    let here : body_at program (suc c.args.i) ≡ (statement_of read).body =
    body-read text.lines.now c.args.i read c.requires.within (c.line-read.ensures ∙ ap (λ n. get_or text.lines.now n read) (less-one c.args.i)) in
    equ_values-kept text.base program c.args.i text.names.now c.args.row.now.items
    (λ d is. equ-by_row program text.names.now text.definitions.now c.requires.rows.defined c.args.i d.symbol false
    (c.in_default.ensures.none refl d (sym here ∙ is)))
    c.requires.before

pub returns-clause-after : goal.returns-clause-after
returns-clause-after g c =
    let text = c.args.text.now in
    let program : Program = program_in text in
    let read = c.line-read.result.now in
    let here : body_at program (suc c.args.i) ≡ (statement_of read).body =
    body-read text.lines.now c.args.i read c.requires.within (c.line-read.ensures ∙ ap (λ n. get_or text.lines.now n read) (less-one c.args.i)) in
    let d = c.in-Some.definition.now in
    let next : c.args.i + 1 ≡ suc c.args.i = omega arith in
    equ_values-set text.base program c.args.i text.names.now c.args.row.now.items d c.in-Some.number c.value_on.result
    (here ∙ c.in-Some.ensures.body)
    (equ-by_row program text.names.now text.definitions.now c.requires.rows.defined c.args.i d.symbol true c.in-Some.ensures.defines)
    c.in-Some.ensures.number
    (omega (arith, c.requires.as_many, c.in-Some.ensures.within, c.requires.rows.defined.within))
    (c.value_on.ensures.value
    ∙ ap (λ n. defined_value (references_through text n (c.args.i + 1)) (EquBody d)) (less-one c.args.i)
    ∙ ap (λ n. defined_value (references_through text c.args.i n) (EquBody d)) next)
    c.requires.before

pub returns-clause-parsed : goal.returns-clause-parsed
returns-clause-parsed g c = c.value_on.ensures.parsed

pub returns-clause-encoded : goal.returns-clause-encoded
returns-clause-encoded g c = c.value_on.ensures.encoded

pub returns-clause-operands : goal.returns-clause-operands
returns-clause-operands g c =
    let text = c.args.text.now in
    let program : Program = program_in text in
    let read = c.line-read.result.now in
    let here : body_at program (suc c.args.i) ≡ (statement_of read).body =
    body-read text.lines.now c.args.i read c.requires.within (c.line-read.ensures ∙ ap (λ n. get_or text.lines.now n read) (less-one c.args.i)) in
    let next : c.args.i + 1 ≡ suc c.args.i = omega arith in
    let body : body_at program (c.args.i + 1) ≡ EquBody c.in-Some.definition.now = ap (body_at program) next ∙ here ∙ c.in-Some.ensures.body in
    subst (λ b. g.C.Count.valued_count c.value_on.new.counter ≤ g.C.Count.valued_count c.args.counter.now + equ_operands b) (sym body) c.value_on.ensures.operands

pub returns-clause-as_many : goal.returns-clause-as_many
returns-clause-as_many g c = rw length-set c.requires.as_many
