use Rattle.std.proofs.Common.{◌≡◌, ◌+◌, ◌-◌, ◌<◌, ◌≤◌, length, insert, arith, ap, sym, refl, subst, ◌∙◌}
use Rattle.std.proofs.lemmas.List.Edits.{insert_end}
use Rattle.rv_program.specs.internal.Items.{AreFirstItems}
use Rattle.rv_program.specs.internal.ValueRows.{base_of, program_of_rows}
use Rattle.rv_program.specs.internal.Work.{value_operands}
use Rattle.rv_program.specs.lemmas.ItemLaws.{no_items, one_item_more}
use Rattle.rv_program.specs.lemmas.ShapeWork.{operands-next, operands-more}
use Rattle.rv_store.proofs.ItemsLeft.{first-count}
use Rattle.rv_store.proofs.TreeMemory.{insert-by-memory}
use Rattle.rv_store.proofs.loading.items_of.Goals as goal

pub loop-k-init : goal.loop-k-init
loop-k-init g c = record {
  items = subst (AreFirstItems (base_of c.args.rows.now) c.args.rows.now.symbols.text.lines.now 0) (sym c.new-items.ensures.items) (no_items (base_of c.args.rows.now) c.args.rows.now.symbols.text.lines.now);
  least = omega arith;
  few = omega arith;
  operands = omega arith;
  parsed = refl;
  encoded_least = omega arith;
  encoded_most = omega arith;
}

pub loop-k-preserved : goal.loop-k-preserved
loop-k-preserved g c =
    let rows = c.args.rows.now in
    let text = rows.symbols.text.lines.now in
    let before = c.loop-k.invariant in
    let one = c.item_on.ensures in
    let k = c.loop-k.k in
    let items = c.loop-k.items.items in
    let count = first-count (base_of rows) text k items before.items in
    let place : k + 1 - 1 ≡ length items = omega (arith, count) in
    let pushed = c.in_ok-items.ensures.items ∙ ap (λ n. insert items n c.in_ok-item.item) place ∙ insert_end items c.in_ok-item.item in
    let within : k < length text = omega (arith, c.loop-k-test.true, c.len-count.ensures) in
    record {
      items = subst (AreFirstItems (base_of rows) text (k + 1)) (sym pushed) (one_item_more (base_of rows) text k items c.in_ok-item.item within before.items c.in_ok-item.ensures.item);
      least = omega (arith, before.least, one.least);
      few = omega (arith, before.few, one.few_valued);
      operands = omega (arith, before.operands, one.operands, operands-next value_operands (program_of_rows rows) k);
      parsed = one.parsed ∙ before.parsed;
      encoded_least = omega (arith, before.encoded_least, one.encoded_least);
      encoded_most = omega (arith, before.encoded_most, one.encoded_most);
    }

pub returns-in_err-item-clause-operands : goal.returns-in_err-item-clause-operands
returns-in_err-item-clause-operands g c =
    let program = program_of_rows c.args.rows.now in
    let k = c.loop-k.k in
    let within : k + 1 ≤ length c.args.rows.now.symbols.text.lines.now = omega (arith, c.loop-k-test.true, c.len-count.ensures) in
    omega (arith, c.loop-k.invariant.operands, c.item_on.ensures.operands, operands-next value_operands program k, operands-more value_operands program (k + 1) (length c.args.rows.now.symbols.text.lines.now) within)

pub returns-in_err-items-clause-operands : goal.returns-in_err-items-clause-operands
returns-in_err-items-clause-operands g c =
    let program = program_of_rows c.args.rows.now in
    let k = c.loop-k.k in
    let within : k + 1 ≤ length c.args.rows.now.symbols.text.lines.now = omega (arith, c.loop-k-test.true, c.len-count.ensures) in
    omega (arith, c.loop-k.invariant.operands, c.item_on.ensures.operands, operands-next value_operands program k, operands-more value_operands program (k + 1) (length c.args.rows.now.symbols.text.lines.now) within)

pub returns-in_err-items-clause-memory : goal.returns-in_err-items-clause-memory
returns-in_err-items-clause-memory g c =
    let rows = c.args.rows.now in
    let k = c.loop-k.k in
    let items = c.loop-k.items.items in
    let count = first-count (base_of rows) rows.symbols.text.lines.now k items c.loop-k.invariant.items in
    let residual = c.from_residual-in_err-items in
    insert-by-memory residual.result c.in_err-items.field-0.0 (k + 1) (length items) residual.ensures.1 c.in_err-items.ensures.refused (omega arith) (omega (arith, count)) (omega (arith, count, c.loop-k-test.true, c.len-count.ensures, c.requires.few))
