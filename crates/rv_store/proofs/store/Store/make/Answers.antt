use Rattle.std.proofs.Common.{◌≡◌, ℕ, ◌+◌, ◌^◌, ◌<◌, ◌≤◌, length, [], ◌∷◌, arith, ap, sym, subst, ◌∙◌}
use Rattle.std.specs.Result.{IfOk, OnOk, OnErr}
use Rattle.rv_program.specs.Changes.{changed_lines, most_values, most_codes}
use Rattle.rv_program.specs.Edits.{edit_of, edit_of_read, place_of_edit}
use Rattle.rv_program.specs.internal.NewShapes.{shape_operands}
use Rattle.rv_program.specs.Text.{Delete, text_after}
use Rattle.rv_program.specs.lemmas.ShapeWork.{nothing-counted}
use Rattle.rv_store.specs.internal.StillLines.{IsStillLine}
use Rattle.rv_store.proofs.store.Store.make.Goals as goal

pub returns-in_err-share-in-Some-clause-values : goal.returns-in_err-share-in-Some-clause-values
returns-in_err-share-in-Some-clause-values g c =
    let old = c.args.self.now in
    let enough = nothing-counted old.base old.lines (edit_of c.args.edit.now) c.requires.allowed in
    let operands = ap shape_operands c.requires.read in
    omega (arith, c.new_shape-shape.ensures.most, enough, operands)

pub returns-in_err-share-in-Some-alike-clause-values : goal.returns-in_err-share-in-Some-alike-clause-values
returns-in_err-share-in-Some-alike-clause-values g c =
    let old = c.args.self.now in
    let enough = nothing-counted old.base old.lines (edit_of c.args.edit.now) c.requires.allowed in
    let operands = ap shape_operands c.requires.read in
    omega (arith, c.new_shape-shape.ensures.most, enough, operands)

-- What the lines are put in by

pub put-requires-clause-still : goal.put-requires-clause-still
put-requires-clause-still g c =
    let base = c.args.self.now.base in
    let lines = c.args.self.now.lines in
    let place : place_of_edit (edit_of c.args.edit.now) ≡ c.in-Insert.k = ap place_of_edit (sym c.requires.read) ∙ ap (λ r. place_of_edit (edit_of_read r)) c.in-Insert.is in
    subst (λ p. IsStillLine base lines p c.in_ok-share-in-Some.field-0 c.in-Some.end.still c.deref.result.now) (sym place)
    (subst (λ l. IsStillLine base lines c.in-Insert.k l c.in-Some.end.still c.deref.result.now) (sym c.in_ok-share-in-Some.ensures)
    (subst (IsStillLine base lines c.in-Insert.k c.in-Insert.line c.in-Some.end.still) (sym c.deref.ensures.value) c.in-Some.ensures.still))

pub put-requires-in-Some-alike-clause-still : goal.put-requires-in-Some-alike-clause-still
put-requires-in-Some-alike-clause-still g c =
    let base = c.args.self.now.base in
    let lines = c.args.self.now.lines in
    let k = c.in-Replace.k in
    let place : place_of_edit (edit_of c.args.edit.now) ≡ k = ap place_of_edit (sym c.requires.read) ∙ ap (λ r. place_of_edit (edit_of_read r)) c.in-Replace.is in
    subst (λ p. IsStillLine base lines p c.in_ok-share-in-Some-alike.field-0 c.in-Some-alike.still (k ∷ [])) (sym place)
    (subst (λ l. IsStillLine base lines k l c.in-Some-alike.still (k ∷ [])) (sym c.in_ok-share-in-Some-alike.ensures) c.in-Some-alike.ensures.still)

-- How many values are computed: those for the shape, and those of the rest

values-most : (first shaped last taken taken' most : ℕ) → shaped ≤ first + taken → taken ≡ taken' → last + taken' ≤ shaped + most → last ≤ first + most
values-most first shaped last taken taken' most shape same rest = omega arith

shape-alone : (first shaped taken taken' most : ℕ) → shaped ≤ first + taken → taken ≡ taken' → taken' ≤ most → shaped ≤ first + most
shape-alone first shaped taken taken' most shape same enough = omega arith

-- the shape takes one value at most, and no code
both-within : (first shaped last : ℕ) → first ≤ shaped → shaped ≤ first + 1 → (shaped ≤ last) × (last + 1 < shaped + 2 ^ 32) → (first ≤ last) × (last < first + 2 ^ 32)
both-within first shaped last least one rest = (omega (arith, least, rest.0), omega (arith, one, rest.1))

shape-within : (first shaped : ℕ) → first ≤ shaped → shaped ≤ first + 1 → (first ≤ shaped) × (shaped < first + 2 ^ 32)
shape-within first shaped least one = (least, omega (arith, one))

same-within : (first last : ℕ) → last ≡ first → (first ≤ last) × (last < first + 2 ^ 32)
same-within first last same = (omega (arith, same), omega (arith, same))

same-most : (first last most : ℕ) → last ≡ first → last ≤ first + most
same-most first last most same = omega (arith, same)

pub returns-in_ok-share-in-Some : goal.returns-in_ok-share-in-Some
returns-in_ok-share-in-Some g c =
    let value-count = g.C.Count.valued_count in
    let code-count = g.C.Count.encoded_count in
    let old = c.args.self.now in
    let edit = edit_of c.args.edit.now in
    let shape = c.new_shape-shape.ensures in
    let rest = c.put.ensures in
    record {
      ok = rest.ok;
      err = rest.err;
      changed = rest.changed;
      memory = rest.memory;
      parsed = rest.parsed ∙ shape.parsed;
      valued = both-within (value-count c.args.counter.now) (value-count c.new_shape-shape.new.counter) (value-count c.put.new.counter) shape.least shape.one rest.valued;
      encoded = subst (λ n. (n ≤ code-count c.put.new.counter) × (code-count c.put.new.counter < n + 2 ^ 32)) shape.encoded rest.encoded;
      values = values-most (value-count c.args.counter.now) (value-count c.new_shape-shape.new.counter) (value-count c.put.new.counter) (shape_operands (edit_of_read c.args.read)) (shape_operands edit) (most_values old.base old.lines edit)
          shape.most (ap shape_operands c.requires.read) rest.values;
      codes = subst (λ n. code-count c.put.new.counter ≤ n + most_codes old.base old.lines edit) shape.encoded rest.codes;
    }

pub returns-in_ok-share-in-Some-alike : goal.returns-in_ok-share-in-Some-alike
returns-in_ok-share-in-Some-alike g c =
    let value-count = g.C.Count.valued_count in
    let code-count = g.C.Count.encoded_count in
    let old = c.args.self.now in
    let edit = edit_of c.args.edit.now in
    let shape = c.new_shape-shape.ensures in
    let rest = c.put-in-Some-alike.ensures in
    record {
      ok = rest.ok;
      err = rest.err;
      changed = rest.changed;
      memory = rest.memory;
      parsed = rest.parsed ∙ shape.parsed;
      valued = both-within (value-count c.args.counter.now) (value-count c.new_shape-shape.new.counter) (value-count c.put-in-Some-alike.new.counter) shape.least shape.one rest.valued;
      encoded = subst (λ n. (n ≤ code-count c.put-in-Some-alike.new.counter) × (code-count c.put-in-Some-alike.new.counter < n + 2 ^ 32)) shape.encoded rest.encoded;
      values = values-most (value-count c.args.counter.now) (value-count c.new_shape-shape.new.counter) (value-count c.put-in-Some-alike.new.counter) (shape_operands (edit_of_read c.args.read)) (shape_operands edit) (most_values old.base old.lines edit)
          shape.most (ap shape_operands c.requires.read) rest.values;
      codes = subst (λ n. code-count c.put-in-Some-alike.new.counter ≤ n + most_codes old.base old.lines edit) shape.encoded rest.codes;
    }

pub returns-in-None : goal.returns-in-None
returns-in-None g c =
    let value-count = g.C.Count.valued_count in
    let code-count = g.C.Count.encoded_count in
    let old = c.args.self.now in
    let edit = edit_of c.args.edit.now in
    let shape = c.new_shape-shape.ensures in
    let rest = c.rework.ensures in
    record {
      ok = rest.ok;
      err = rest.err;
      changed = rest.changed;
      memory = rest.memory;
      parsed = rest.parsed ∙ shape.parsed;
      valued = both-within (value-count c.args.counter.now) (value-count c.new_shape-shape.new.counter) (value-count c.rework.new.counter) shape.least shape.one rest.valued;
      encoded = subst (λ n. (n ≤ code-count c.rework.new.counter) × (code-count c.rework.new.counter < n + 2 ^ 32)) shape.encoded rest.encoded;
      values = values-most (value-count c.args.counter.now) (value-count c.new_shape-shape.new.counter) (value-count c.rework.new.counter) (shape_operands (edit_of_read c.args.read)) (shape_operands edit) (most_values old.base old.lines edit)
          shape.most (ap shape_operands c.requires.read) rest.values;
      codes = subst (λ n. code-count c.rework.new.counter ≤ n + most_codes old.base old.lines edit) shape.encoded rest.codes;
    }

pub returns-in-None-alike : goal.returns-in-None-alike
returns-in-None-alike g c =
    let value-count = g.C.Count.valued_count in
    let code-count = g.C.Count.encoded_count in
    let old = c.args.self.now in
    let edit = edit_of c.args.edit.now in
    let shape = c.new_shape-shape.ensures in
    let rest = c.rework-in-None-alike.ensures in
    record {
      ok = rest.ok;
      err = rest.err;
      changed = rest.changed;
      memory = rest.memory;
      parsed = rest.parsed ∙ shape.parsed;
      valued = both-within (value-count c.args.counter.now) (value-count c.new_shape-shape.new.counter) (value-count c.rework-in-None-alike.new.counter) shape.least shape.one rest.valued;
      encoded = subst (λ n. (n ≤ code-count c.rework-in-None-alike.new.counter) × (code-count c.rework-in-None-alike.new.counter < n + 2 ^ 32)) shape.encoded rest.encoded;
      values = values-most (value-count c.args.counter.now) (value-count c.new_shape-shape.new.counter) (value-count c.rework-in-None-alike.new.counter) (shape_operands (edit_of_read c.args.read)) (shape_operands edit) (most_values old.base old.lines edit)
          shape.most (ap shape_operands c.requires.read) rest.values;
      codes = subst (λ n. code-count c.rework-in-None-alike.new.counter ≤ n + most_codes old.base old.lines edit) shape.encoded rest.codes;
    }

pub returns-in-None-last_line : goal.returns-in-None-last_line
returns-in-None-last_line g c =
    let value-count = g.C.Count.valued_count in
    let code-count = g.C.Count.encoded_count in
    let old = c.args.self.now in
    let edit = edit_of c.args.edit.now in
    let shape = c.new_shape-shape.ensures in
    let rest = c.rework-in-None-last_line.ensures in
    record {
      ok = rest.ok;
      err = rest.err;
      changed = rest.changed;
      memory = rest.memory;
      parsed = rest.parsed ∙ shape.parsed;
      valued = both-within (value-count c.args.counter.now) (value-count c.new_shape-shape.new.counter) (value-count c.rework-in-None-last_line.new.counter) shape.least shape.one rest.valued;
      encoded = subst (λ n. (n ≤ code-count c.rework-in-None-last_line.new.counter) × (code-count c.rework-in-None-last_line.new.counter < n + 2 ^ 32)) shape.encoded rest.encoded;
      values = values-most (value-count c.args.counter.now) (value-count c.new_shape-shape.new.counter) (value-count c.rework-in-None-last_line.new.counter) (shape_operands (edit_of_read c.args.read)) (shape_operands edit) (most_values old.base old.lines edit)
          shape.most (ap shape_operands c.requires.read) rest.values;
      codes = subst (λ n. code-count c.rework-in-None-last_line.new.counter ≤ n + most_codes old.base old.lines edit) shape.encoded rest.codes;
    }

-- The last line is taken out

pub returns-in-Some-last_line : goal.returns-in-Some-last_line
returns-in-Some-last_line g c =
    let value-count = g.C.Count.valued_count in
    let code-count = g.C.Count.encoded_count in
    let old = c.args.self.now in
    let edit = edit_of c.args.edit.now in
    let shape = c.new_shape-shape.ensures in
    let rest = c.shorten.ensures in
    let removes : Delete (length old.lines) ≡ edit = ap Delete (sym c.in-Some-last_line.ensures.place) ∙ ap edit_of_read (sym c.in-Delete.is) ∙ c.requires.read in
    record {
      ok = subst (λ e. OnOk c.shorten.result (c.shorten.new.self ≡ text_after old e)) removes
          (subst (λ t. OnOk c.shorten.result (c.shorten.new.self ≡ text_after t (Delete (length t.lines)))) c.forget_names.ensures rest.ok);
      err = subst (λ t. OnErr c.shorten.result (c.shorten.new.self ≡ t)) c.forget_names.ensures rest.err;
      changed = subst (λ e. IfOk c.shorten.result (λ r. r.lines ≡ changed_lines old.base old.lines e)) removes
          (subst (λ t. IfOk c.shorten.result (λ r. r.lines ≡ changed_lines t.base t.lines (Delete (length t.lines)))) c.forget_names.ensures rest.changed);
      memory = rest.memory;
      parsed = shape.parsed;
      valued = shape-within (value-count c.args.counter.now) (value-count c.new_shape-shape.new.counter) shape.least shape.one;
      encoded = same-within (code-count c.args.counter.now) (code-count c.new_shape-shape.new.counter) shape.encoded;
      values = shape-alone (value-count c.args.counter.now) (value-count c.new_shape-shape.new.counter) (shape_operands (edit_of_read c.args.read)) (shape_operands edit) (most_values old.base old.lines edit)
          shape.most (ap shape_operands c.requires.read) (nothing-counted old.base old.lines edit c.requires.allowed);
      codes = same-most (code-count c.args.counter.now) (code-count c.new_shape-shape.new.counter) (most_codes old.base old.lines edit) shape.encoded;
    }

-- There is no memory for the line

pub returns-in_err-share-in-Some-clause-parsed : goal.returns-in_err-share-in-Some-clause-parsed
returns-in_err-share-in-Some-clause-parsed g c = c.new_shape-shape.ensures.parsed

pub returns-in_err-share-in-Some-clause-valued : goal.returns-in_err-share-in-Some-clause-valued
returns-in_err-share-in-Some-clause-valued g c =
    let count = g.C.Count.valued_count in
    shape-within (count c.args.counter.now) (count c.new_shape-shape.new.counter) c.new_shape-shape.ensures.least c.new_shape-shape.ensures.one

pub returns-in_err-share-in-Some-clause-encoded : goal.returns-in_err-share-in-Some-clause-encoded
returns-in_err-share-in-Some-clause-encoded g c =
    let count = g.C.Count.encoded_count in
    same-within (count c.args.counter.now) (count c.new_shape-shape.new.counter) c.new_shape-shape.ensures.encoded

pub returns-in_err-share-in-Some-clause-codes : goal.returns-in_err-share-in-Some-clause-codes
returns-in_err-share-in-Some-clause-codes g c =
    let count = g.C.Count.encoded_count in
    let old = c.args.self.now in
    same-most (count c.args.counter.now) (count c.new_shape-shape.new.counter) (most_codes old.base old.lines (edit_of c.args.edit.now)) c.new_shape-shape.ensures.encoded

pub returns-in_err-share-in-Some-alike-clause-parsed : goal.returns-in_err-share-in-Some-alike-clause-parsed
returns-in_err-share-in-Some-alike-clause-parsed g c = c.new_shape-shape.ensures.parsed

pub returns-in_err-share-in-Some-alike-clause-valued : goal.returns-in_err-share-in-Some-alike-clause-valued
returns-in_err-share-in-Some-alike-clause-valued g c =
    let count = g.C.Count.valued_count in
    shape-within (count c.args.counter.now) (count c.new_shape-shape.new.counter) c.new_shape-shape.ensures.least c.new_shape-shape.ensures.one

pub returns-in_err-share-in-Some-alike-clause-encoded : goal.returns-in_err-share-in-Some-alike-clause-encoded
returns-in_err-share-in-Some-alike-clause-encoded g c =
    let count = g.C.Count.encoded_count in
    same-within (count c.args.counter.now) (count c.new_shape-shape.new.counter) c.new_shape-shape.ensures.encoded

pub returns-in_err-share-in-Some-alike-clause-codes : goal.returns-in_err-share-in-Some-alike-clause-codes
returns-in_err-share-in-Some-alike-clause-codes g c =
    let count = g.C.Count.encoded_count in
    let old = c.args.self.now in
    same-most (count c.args.counter.now) (count c.new_shape-shape.new.counter) (most_codes old.base old.lines (edit_of c.args.edit.now)) c.new_shape-shape.ensures.encoded
