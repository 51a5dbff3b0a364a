use Rattle.std.proofs.Common.{◌≡◌, ℕ, ◌+◌, ◌-◌, ◌*◌, ◌^◌, ◌<◌, ◌≤◌, List, length, None, arith, ap, sym, subst, ◌∙◌}
use Rattle.rv_program.specs.declared.item.Item.{Item}
use Rattle.rv_program.specs.Counted.{counts_of}
use Rattle.rv_program.specs.Edits.{edit_of, line_before_edit}
use Rattle.rv_program.specs.internal.Items.{AreFirstItems}
use Rattle.rv_program.specs.internal.Renewals.{changed_through, AreCounted}
use Rattle.rv_program.specs.internal.Revisions.{edited_text}
use Rattle.rv_program.specs.internal.ValueRows.{base_of}
use Rattle.rv_program.specs.lemmas.CountedLines.{nothing_counted, both_counted}
use Rattle.rv_program.specs.lemmas.ItemLaws.{all_items}
use Rattle.rv_store.proofs.ItemsLeft.{first-count, with-last, listed-last, counted-last}
use Rattle.rv_store.proofs.TreeMemory.{insert-by-memory}
use Rattle.rv_store.proofs.renewal.items_passed.Goals as goal

pub returns-in_err-passed-clause-counted : goal.returns-in_err-passed-clause-counted
returns-in_err-passed-clause-counted g c =
    let counts = counts_of g.C.Count.parsed_count g.C.Count.valued_count g.C.Count.encoded_count in
    let new = counts c.renewed_in_one_pass.new.counter in
    both_counted (edited_text c.args.revision.now) 0 (length c.args.items.now.items) (length c.args.rows.now.symbols.text.lines.now) (counts c.args.counter.now) new new c.renewed_in_one_pass.ensures.counted
    (nothing_counted (edited_text c.args.revision.now) (length c.args.items.now.items) (length c.args.rows.now.symbols.text.lines.now) new c.requires.left.few)

-- There is an item for each line

pub returns-then-line-len-clause-items : goal.returns-then-line-len-clause-items
returns-then-line-len-clause-items g c =
    let count = first-count (base_of c.args.rows.now) c.args.rows.now.symbols.text.lines.now (length c.args.items.now.items) c.in_ok-passed.passed.items c.in_ok-passed.ensures.items in
    let same : length c.args.items.now.items ≡ length c.args.rows.now.symbols.text.lines.now = omega (arith, count, c.if-line-len.true, c.len-line.ensures.value, c.len.ensures, c.requires.left.few) in
    all_items (base_of c.args.rows.now) c.args.rows.now.symbols.text.lines.now (length c.args.items.now.items) c.in_ok-passed.passed.items same c.in_ok-passed.ensures.items

pub returns-then-line-len-clause-changed : goal.returns-then-line-len-clause-changed
returns-then-line-len-clause-changed g c =
    let count = first-count (base_of c.args.rows.now) c.args.rows.now.symbols.text.lines.now (length c.args.items.now.items) c.in_ok-passed.passed.items c.in_ok-passed.ensures.items in
    let same : length c.args.items.now.items ≡ length c.args.rows.now.symbols.text.lines.now = omega (arith, count, c.if-line-len.true, c.len-line.ensures.value, c.len.ensures, c.requires.left.few) in
    c.of.ensures ∙ c.in_ok-passed.ensures.changed ∙ ap (changed_through (edited_text c.args.revision.now)) same

pub returns-then-line-len-clause-counted : goal.returns-then-line-len-clause-counted
returns-then-line-len-clause-counted g c =
    let counts = counts_of g.C.Count.parsed_count g.C.Count.valued_count g.C.Count.encoded_count in
    let count = first-count (base_of c.args.rows.now) c.args.rows.now.symbols.text.lines.now (length c.args.items.now.items) c.in_ok-passed.passed.items c.in_ok-passed.ensures.items in
    let same : length c.args.items.now.items ≡ length c.args.rows.now.symbols.text.lines.now = omega (arith, count, c.if-line-len.true, c.len-line.ensures.value, c.len.ensures, c.requires.left.few) in
    subst (λ n. AreCounted (edited_text c.args.revision.now) 0 n (counts c.args.counter.now) (counts c.renewed_in_one_pass.new.counter)) same c.renewed_in_one_pass.ensures.counted

-- There is none for the last line

next-last : (base : ℕ) (text : List (List ℕ)) (k count len : ℕ) (items : List Item) → AreFirstItems base text k items → count ≡ length items → count + 1 ≤ len → len ≡ length text → length text ≤ k + 1 → (count + 1 ≡ k + 1) × (count + 1 ≡ length text)
next-last base text k count len items are counted within all few =
    let same = first-count base text k items are in
    let next : count + 1 ≡ k + 1 = omega (arith, same, counted) in
    (next, omega (arith, next, within, all, few))

pub line_behind-requires-clause-new : goal.line_behind-requires-clause-new
line_behind-requires-clause-new g c =
    let is = next-last _ _ _ c.len-line.result c.len.result _ c.in_ok-passed.ensures.items c.len-line.ensures.value c.if-line-len.false c.len.ensures c.requires.left.next in
    subst (λ k. line_before_edit (edit_of c.args.revision.now.edit) k ≡ None) (sym is.1) (c.requires.left.new (omega (arith, is.0, is.1)))

pub returns-in_err-item-clause-counted : goal.returns-in_err-item-clause-counted
returns-in_err-item-clause-counted g c =
    let counts = counts_of g.C.Count.parsed_count g.C.Count.valued_count g.C.Count.encoded_count in
    let is = next-last _ _ _ c.len-line.result c.len.result _ c.in_ok-passed.ensures.items c.len-line.ensures.value c.if-line-len.false c.len.ensures c.requires.left.next in
    counted-last (edited_text c.args.revision.now) (length c.args.items.now.items) (c.len-line.result + 1) (length c.args.rows.now.symbols.text.lines.now) (counts c.args.counter.now) (counts c.renewed_in_one_pass.new.counter) (counts c.line_behind.new.counter)
    (omega (arith, is.0)) is.1 c.renewed_in_one_pass.ensures.counted c.line_behind.ensures.counted

pub returns-in_err-inserted-clause-counted : goal.returns-in_err-inserted-clause-counted
returns-in_err-inserted-clause-counted g c =
    let counts = counts_of g.C.Count.parsed_count g.C.Count.valued_count g.C.Count.encoded_count in
    let is = next-last _ _ _ c.len-line.result c.len.result _ c.in_ok-passed.ensures.items c.len-line.ensures.value c.if-line-len.false c.len.ensures c.requires.left.next in
    counted-last (edited_text c.args.revision.now) (length c.args.items.now.items) (c.len-line.result + 1) (length c.args.rows.now.symbols.text.lines.now) (counts c.args.counter.now) (counts c.renewed_in_one_pass.new.counter) (counts c.line_behind.new.counter)
    (omega (arith, is.0)) is.1 c.renewed_in_one_pass.ensures.counted c.line_behind.ensures.counted

pub returns-clause-items : goal.returns-clause-items
returns-clause-items g c =
    let is = next-last _ _ _ c.len-line.result c.len.result _ c.in_ok-passed.ensures.items c.len-line.ensures.value c.if-line-len.false c.len.ensures c.requires.left.next in
    with-last (base_of c.args.rows.now) c.args.rows.now.symbols.text.lines.now c.in_ok-passed.passed.items c.in_ok-inserted.field-0.items c.in_ok-item.item (length c.args.items.now.items) (c.len-line.result + 1) c.in_ok-passed.ensures.items is.0 is.1 (omega (arith, is.0, c.len-line.ensures.value)) c.in_ok-item.ensures.item c.in_ok-inserted.ensures.items

pub returns-clause-changed : goal.returns-clause-changed
returns-clause-changed g c =
    let is = next-last _ _ _ c.len-line.result c.len.result _ c.in_ok-passed.ensures.items c.len-line.ensures.value c.if-line-len.false c.len.ensures c.requires.left.next in
    c.of-2.ensures ∙ listed-last (edited_text c.args.revision.now) (length c.args.items.now.items) (c.len-line.result + 1) (length c.args.rows.now.symbols.text.lines.now) c.renewed_in_one_pass.new.changed.items _ (omega (arith, is.0)) is.1 c.in_ok-passed.ensures.changed c.in_ok-item.ensures.listed

pub returns-clause-counted : goal.returns-clause-counted
returns-clause-counted g c =
    let counts = counts_of g.C.Count.parsed_count g.C.Count.valued_count g.C.Count.encoded_count in
    let is = next-last _ _ _ c.len-line.result c.len.result _ c.in_ok-passed.ensures.items c.len-line.ensures.value c.if-line-len.false c.len.ensures c.requires.left.next in
    counted-last (edited_text c.args.revision.now) (length c.args.items.now.items) (c.len-line.result + 1) (length c.args.rows.now.symbols.text.lines.now) (counts c.args.counter.now) (counts c.renewed_in_one_pass.new.counter) (counts c.line_behind.new.counter)
    (omega (arith, is.0)) is.1 c.renewed_in_one_pass.ensures.counted c.line_behind.ensures.counted

-- There is room in the counts for the last line

values-left : (old new items lines : ℕ) → new + 1000 * 0 ≤ old + 1000 * items → items + 1 ≡ lines → old + 1000 * lines < 2 ^ 64 → new + 1000 < 2 ^ 64
values-left old new items lines most next room = omega arith

codes-left : (old new items lines : ℕ) → new + 0 ≤ old + items → items + 1 ≡ lines → old + lines < 2 ^ 64 → new < 2 ^ 64 - 1
codes-left old new items lines most next room = omega arith

pub line_behind-requires-clause-valued : goal.line_behind-requires-clause-valued
line_behind-requires-clause-valued g c =
    let count = g.C.Count.valued_count in
    let is = next-last _ _ _ c.len-line.result c.len.result _ c.in_ok-passed.ensures.items c.len-line.ensures.value c.if-line-len.false c.len.ensures c.requires.left.next in
    values-left (count c.args.counter.now) (count c.renewed_in_one_pass.new.counter) (length c.args.items.now.items) (length c.args.rows.now.symbols.text.lines.now)
    c.renewed_in_one_pass.ensures.counted.valued_few (sym is.0 ∙ is.1) c.requires.valued

pub line_behind-requires-clause-encoded : goal.line_behind-requires-clause-encoded
line_behind-requires-clause-encoded g c =
    let count = g.C.Count.encoded_count in
    let is = next-last _ _ _ c.len-line.result c.len.result _ c.in_ok-passed.ensures.items c.len-line.ensures.value c.if-line-len.false c.len.ensures c.requires.left.next in
    codes-left (count c.args.counter.now) (count c.renewed_in_one_pass.new.counter) (length c.args.items.now.items) (length c.args.rows.now.symbols.text.lines.now)
    c.renewed_in_one_pass.ensures.counted.encoded_few (sym is.0 ∙ is.1) c.requires.encoded

-- Only memory may be wanting for it

place-left : (line n len lines : ℕ) → line ≡ n → line + 1 ≤ len → len ≡ lines → lines ≤ 16384 → (1 ≤ line + 1) × ((line + 1 ≤ n + 1) × (n < 16384))
place-left line n len lines same within all few = (omega arith, (omega arith, omega arith))

pub returns-in_err-inserted-clause-memory : goal.returns-in_err-inserted-clause-memory
returns-in_err-inserted-clause-memory g c =
    let items = c.in_ok-passed.passed.items in
    let line = c.len-line.result in
    let place = place-left line (length items) c.len.result (length c.args.rows.now.symbols.text.lines.now) c.len-line.ensures.value c.if-line-len.false c.len.ensures c.requires.revised.few in
    let residual = c.from_residual-in_err-inserted in
    insert-by-memory residual.result c.in_err-inserted.field-0.0 (line + 1) (length items) residual.ensures.1 c.in_err-inserted.ensures.refused place.0 place.1.0 place.1.1
