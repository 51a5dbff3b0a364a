use Rattle.std.proofs.Common.{◌≡◌, ℕ, suc, ◌+◌, ◌-◌, ◌<◌, length, true, false, Err, get_or, arith, ap, sym, refl, subst, ◌∙◌}
use Rattle.std.proofs.lemmas.List.{get_or_default}
use Rattle.rv_expr.specs.declared.faults.ValueFault.TheVariants.{LaterEqu}
use Rattle.rv_stmt.specs.declared.statement.Body.TheVariants.{Equ as EquBody}
use Rattle.rv_stmt.specs.Statement.{statement_of}
use Rattle.rv_program.specs.Constants.{defined_value}
use Rattle.rv_program.specs.Definitions.{definition_of}
use Rattle.rv_program.specs.Program.{Program, body_at}
use Rattle.rv_program.specs.internal.KeptEqus.{HasValuesThrough, IsLeft}
use Rattle.rv_program.specs.internal.TextRows.{program_in, references_through}
use Rattle.rv_program.specs.lemmas.ConstantRows.{equ-by_row, body-read}
use Rattle.rv_program.specs.lemmas.DefinitionLaws.{is_equ_on-true}
use Rattle.rv_program.proofs.KeptEqus.{values-left, values-kept, values-same, values-set}
use Rattle.rv_program.proofs.equ_values_after.settle_after.Goals as goal

less-one : (i : ℕ) → i + 1 - 1 ≡ i
less-one i = omega arith

next-is : (i : ℕ) → i + 1 ≡ suc i
next-is i = omega arith

pub returns-then-is_left-clause-values : goal.returns-then-is_left-clause-values
returns-then-is_left-clause-values g c =
    let before = c.args.before.now in
    let text = c.args.text.now in
    let set = c.args.differing.now in
    values-left before text c.requires.before c.requires.rows c.requires.after c.args.i c.args.row.now.items set c.requires.within c.requires.values
    (subst (λ l. IsLeft before text l set) (next-is c.args.i) (c.is_left.ensures c.if-is_left.true))

pub returns-in_default-clause-values : goal.returns-in_default-clause-values
returns-in_default-clause-values g c =
    let text = c.args.text.now in
    let program : Program = program_in text in
    let read = c.line-read.result.now in
    let here : body_at program (suc c.args.i) ≡ (statement_of read).body =
    body-read text.lines.now c.args.i read c.requires.within (c.line-read.ensures ∙ ap (λ n. get_or text.lines.now n read) (less-one c.args.i)) in
    values-kept c.args.before.now text c.requires.before c.requires.rows c.requires.after c.args.i
    (λ d is. equ-by_row program text.names.now text.definitions.now c.requires.rows.defined c.args.i d.symbol false
    (c.in_default.ensures.none refl d (sym here ∙ is)))
    c.args.row.now.items c.args.differing.now c.requires.values

pub value_on-value-requires-clause-values : goal.value_on-value-requires-clause-values
value_on-value-requires-clause-values g c =
    rw c.deref.ensures.value (subst (λ n. HasValuesThrough c.args.text.now n c.args.row.now.items) (sym (less-one c.args.i)) c.requires.values.known)

pub returns-then-is_same_entry-clause-values : goal.returns-then-is_same_entry-clause-values
returns-then-is_same_entry-clause-values g c =
    let text = c.args.text.now in
    let program : Program = program_in text in
    let row = c.args.row.now.items in
    let n = c.in-Some.number in
    let d = c.in-Some.definition.now in
    let read = c.line-read.result.now in
    let here : body_at program (suc c.args.i) ≡ (statement_of read).body =
    body-read text.lines.now c.args.i read c.requires.within (c.line-read.ensures ∙ ap (λ n. get_or text.lines.now n read) (less-one c.args.i)) in
    let within : n < length row = omega (arith, c.requires.values.as_many, c.in-Some.ensures.within, c.requires.rows.defined.within) in
    values-same c.args.before.now text c.requires.before c.requires.rows c.requires.after c.args.i row c.args.differing.now c.requires.values d n c.value_on-value.result
    (here ∙ c.in-Some.ensures.body) c.in-Some.ensures.number within
    (c.value_on-value.ensures.value
    ∙ ap (λ n. defined_value (references_through text n (c.args.i + 1)) (EquBody d)) (less-one c.args.i)
    ∙ ap (λ n. defined_value (references_through text c.args.i n) (EquBody d)) (next-is c.args.i))
    (c.is_same_entry.ensures.0 c.if-is_same_entry.true ∙ c.index.ensures ∙ get_or_default row n c.index.result.now (Err LaterEqu) within)

pub returns-clause-values : goal.returns-clause-values
returns-clause-values g c =
    let text = c.args.text.now in
    let program : Program = program_in text in
    let row = c.args.row.now.items in
    let n = c.in-Some.number in
    let d = c.in-Some.definition.now in
    let read = c.line-read.result.now in
    let here : body_at program (suc c.args.i) ≡ (statement_of read).body =
    body-read text.lines.now c.args.i read c.requires.within (c.line-read.ensures ∙ ap (λ n. get_or text.lines.now n read) (less-one c.args.i)) in
    let within : n < length row = omega (arith, c.requires.values.as_many, c.in-Some.ensures.within, c.requires.rows.defined.within) in
    let defines = is_equ_on-true (suc c.args.i) (definition_of program d.symbol)
    (equ-by_row program text.names.now text.definitions.now c.requires.rows.defined c.args.i d.symbol true c.in-Some.ensures.defines) in
    values-set c.args.before.now text c.requires.before c.requires.rows c.requires.after c.args.i row c.args.differing.now c.requires.values d n c.value_on-value.result
    (here ∙ c.in-Some.ensures.body) c.in-Some.ensures.number within
    (c.value_on-value.ensures.value
    ∙ ap (λ n. defined_value (references_through text n (c.args.i + 1)) (EquBody d)) (less-one c.args.i)
    ∙ ap (λ n. defined_value (references_through text c.args.i n) (EquBody d)) (next-is c.args.i))
    c.add.new.self c.bucket.result defines c.add.ensures.kept (c.bucket.ensures.bucket d.symbol c.in-Some.ensures.number) c.add.ensures.added
