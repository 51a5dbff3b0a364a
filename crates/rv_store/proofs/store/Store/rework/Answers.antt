use Rattle.std.proofs.Common.{◌≡◌, ◌+◌, ◌≤◌, arith, subst}
use Rattle.std.proofs.lemmas.Grind.{common_steps}
use Rattle.std.specs.Result.{IfOk, OnOk, OnErr}
use Rattle.rv_program.specs.Changes.{changed_lines, most_values, most_codes}
use Rattle.rv_program.specs.Edits.{edit_of}
use Rattle.rv_program.specs.internal.Former.{AreFormer}
use Rattle.rv_program.specs.internal.NewShapes.{shape_operands}
use Rattle.rv_program.specs.Text.{text_after}
use Rattle.rv_program.specs.lemmas.ShapeWork.{nothing-counted}
use Rattle.rv_store.proofs.store.Store.rework.Goals as goal

pub assemble-requires-clause-former : goal.assemble-requires-clause-former
assemble-requires-clause-former g c =
    let old = c.forget_names.new.self in
    subst (λ e. AreFormer old.base old.lines e 0 c.in_ok-items.items.items) c.requires.read c.in_ok-items.ensures.former

pub returns-in_err-items-clause-values : goal.returns-in_err-items-clause-values
returns-in_err-items-clause-values g c =
    omega (arith, nothing-counted c.args.self.now.base c.args.self.now.lines (edit_of c.args.edit.now) c.requires.allowed)

pub returns-clause-parsed : goal.returns-clause-parsed
returns-clause-parsed g c = c.assemble.ensures.counted.parsed

-- Names are forgotten, and the text stays

pub returns-clause-ok : goal.returns-clause-ok
returns-clause-ok g c =
    subst (λ old. OnOk c.assemble.result (c.assemble.new.self ≡ text_after old (edit_of c.args.edit.now))) c.forget_names.ensures c.assemble.ensures.ok

pub returns-clause-err : goal.returns-clause-err
returns-clause-err g c = subst (λ old. OnErr c.assemble.result (c.assemble.new.self ≡ old)) c.forget_names.ensures c.assemble.ensures.err

pub returns-clause-changed : goal.returns-clause-changed
returns-clause-changed g c =
    subst (λ old. IfOk c.assemble.result (λ r. r.lines ≡ changed_lines old.base old.lines (edit_of c.args.edit.now))) c.forget_names.ensures c.assemble.ensures.changed

pub returns-clause-values : goal.returns-clause-values
returns-clause-values g c =
    let count = g.C.Count.valued_count in
    let edit = edit_of c.args.edit.now in
    subst (λ old. count c.assemble.new.counter + shape_operands edit ≤ count c.args.counter.now + most_values old.base old.lines edit) c.forget_names.ensures c.assemble.ensures.counted.valued_most

pub returns-clause-codes : goal.returns-clause-codes
returns-clause-codes g c =
    let count = g.C.Count.encoded_count in
    let edit = edit_of c.args.edit.now in
    subst (λ old. count c.assemble.new.counter ≤ count c.args.counter.now + most_codes old.base old.lines edit) c.forget_names.ensures c.assemble.ensures.counted.encoded_most

pub returns-clause-valued : goal.returns-clause-valued
returns-clause-valued g c = grind (arith, common_steps)

pub returns-clause-encoded : goal.returns-clause-encoded
returns-clause-encoded g c = grind (arith, common_steps)
