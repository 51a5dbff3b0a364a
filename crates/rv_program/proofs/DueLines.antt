-- Which lines are due after an edit, and the row of those lines.
use Rattle.std.proofs.Common.{◌≡◌, ℕ, ℤ, ◌≤◌, ◌==◌, Bool, true, false, true≢false, not, ◌&&◌, ◌||◌, List, [], ◌∷◌, length, map, if◌then◌else◌, Option, Some, None, is_some, Ok, Err, ap, sym, ◌∙◌, refl}
use Rattle.std.specs.List.{list_any}
use Rattle.std.proofs.lemmas.Bool.{not_from_true, or_left, or_right, or_from}
use Rattle.rv_stmt.specs.declared.directive.Definition.{Definition}
use Rattle.rv_expr.specs.declared.tree.LabelReference.TheVariants as reference
use Rattle.rv_expr.specs.Tree as Tree
use Rattle.rv_expr.specs.Value.{Environment, value_of}
use Rattle.rv_ops.specs.Table.{is_full}
use Rattle.rv_ops.specs.declared.op.Op.{Op}
use Rattle.rv_ops.specs.declared.op.Op.TheVariants.{Auipc}
use Rattle.rv_stmt.specs.declared.expansion.Expansion.TheVariants.{Itself}
use Rattle.rv_stmt.specs.declared.operand.Operand.{Operand}
use Rattle.rv_stmt.specs.declared.operand.OperandValue.{OperandValue}
use Rattle.rv_stmt.specs.declared.operand.OperandValue.TheVariants.{Plain, PcrelHigh, PcrelLow}
use Rattle.rv_stmt.specs.declared.operand.Role.{Role}
use Rattle.rv_stmt.specs.declared.operand.Role.TheVariants.{Immediate, Target, PairTarget}
use Rattle.rv_stmt.specs.declared.statement.Body.{Body}
use Rattle.rv_stmt.specs.declared.statement.Body.TheVariants as body
use Rattle.rv_stmt.specs.declared.statement.Instruction.{Instruction}
use Rattle.rv_stmt.specs.Expansion.{expansion_by_role, expansion_of, expanded, instructions_of, size_of_instructions}
use Rattle.rv_stmt.specs.ValueParts.{high_part}
use Rattle.rv_fix.specs.Displacements.{displacement}
use Rattle.rv_stmt.specs.declared.statement.Body.TheVariants.{Equ}
use Rattle.rv_stmt.specs.Readings.{and_then}
use Rattle.rv_layout.specs.declared.measured.Measured.TheVariants.{Bytes}
use Rattle.rv_layout.specs.Places.{offset_of, size_at as line_size}
use Rattle.rv_layout.specs.Shapes.{constants, is_size, shape_of_instructions, shape_of}
use Rattle.rv_fix.specs.Values.{Entry, given_to, operand_value, counted_from, entry_of}
use Rattle.rv_program.specs.declared.before.Before.{Before}
use Rattle.rv_program.specs.declared.text_rows.TextRows.{TextRows}
use Rattle.rv_program.specs.internal.Before.{IsAfter, base_before, lines_before, edit_on}
use Rattle.rv_program.specs.declared.line_values.LineValues.TheVariants.{Operands}
use Rattle.rv_program.specs.Changes.{program_after, is_new_or, differs_in_values, is_invalidated, is_reencoded, is_compared, is_due}
use Rattle.rv_program.specs.Codes.{values_of_body, values_by_shape, values_at}
use Rattle.rv_program.specs.Constants.{constant_of}
use Rattle.rv_program.specs.Edits.{line_before_edit}
use Rattle.rv_program.specs.Jumps.{label_in, target_in, target_among, target_of, distance}
use Rattle.rv_program.specs.Layout.{shape_at, shapes_of, address_at, size_at}
use Rattle.rv_program.specs.Pairs.{names_at, is_high_in, is_high_among, is_high_alone, upper_by, pcrel_high_value, pcrel_high_operand, pcrel_high_of, high_by, high_at, low_symbol_in, low_symbol_among, low_symbol_of, low_of_symbol}
use Rattle.rv_program.specs.Program.{Program, program_of, body_at}
use Rattle.rv_program.specs.Sameness.{same_entry, same_values}
use Rattle.rv_program.specs.References.{references_at}
use Rattle.rv_program.specs.Text.{Edit, refusal_of, lines_after}
use Rattle.rv_program.specs.internal.TextRows.{program_in}
use Rattle.rv_program.specs.Uses.{names_in, is_equ}
use Rattle.rv_program.proofs.ChangeLaws.{not_reencoded}
use Rattle.rv_program.specs.lemmas.SamenessLaws.{same_shape-Decides}
use Rattle.rv_program.specs.lemmas.Alignments.{shape-in_row}
use Rattle.rv_program.specs.lemmas.UsedConstants.{no-size_operand}
use Rattle.rv_program.specs.lemmas.UsedValues.{value-follows}

-- `.equ`s

-- their shape is no fault, so they have the values of their bodies
equ-values : (base : ℕ) (program : Program) (k : ℕ) (d : Definition) → body_at program k ≡ Equ d → values_at base program k ≡ values_of_body base program k (Equ d)
equ-values base program k d is =
    ap (λ b. values_by_shape (shape_of (constant_of program k) b) (values_of_body base program k b)) is

equ-shape : (before after : Program) (k j : ℕ) (d : Definition) → body_at after k ≡ Equ d → body_at before j ≡ Equ d → shape_at after k ≡ shape_at before j
equ-shape before after k j d here there =
    ap (shape_of (constant_of after k)) here ∙ sym (ap (shape_of (constant_of before j)) there)

no_more : (x : Bool) → (x || false) ≡ x
no_more true = refl
no_more false = refl

equ-differs : (base : ℕ) (before after : Program) (k j : ℕ) (d : Definition) → body_at after k ≡ Equ d → body_at before j ≡ Equ d → not (same_values (values_of_body base after k (Equ d)) (values_of_body base before j (Equ d))) ≡ differs_in_values base before after k j
equ-differs base before after k j d here there =
    let values = not (same_values (values_at base after k) (values_at base before j)) in
    let shape = not_from_true _ ((same_shape-Decides _ _).1 (equ-shape before after k j d here there)) in
    (λ i. not (same_values (sym (equ-values base after k d here) i) (sym (equ-values base before j d there) i)))
    ∙ sym (no_more values)
    ∙ ap (λ b. values || b) (sym shape)

-- one that stood somewhere is reencoded where its symbol has another value
pub reencoded-by_symbol : (before : Before) (after : TextRows) (line stood : ℕ) (d : Definition) → IsAfter before after → line_before_edit (edit_on before) line ≡ Some stood → body_at (program_in after) line ≡ Equ d → body_at (program_in before.symbols.text) stood ≡ Equ d → not (same_values (values_of_body after.base (program_in after) line (Equ d)) (values_of_body (base_before before) (program_in before.symbols.text) stood (Equ d))) ≡ is_reencoded (base_before before) (lines_before before) (edit_on before) line
reencoded-by_symbol before after line stood d is_after stands here there =
    let edited = ap program_of is_after.lines in
    (λ i. not (same_values (values_of_body (is_after.base i) (edited i) line (Equ d)) (values_of_body (base_before before) (program_in before.symbols.text) stood (Equ d))))
    ∙ equ-differs (base_before before) (program_of (lines_before before)) (program_after (lines_before before) (edit_on before)) line stood d (sym (ap (λ p. body_at p line) edited) ∙ here) there
    ∙ sym (ap (is_new_or (differs_in_values (base_before before) (program_of (lines_before before)) (program_after (lines_before before) (edit_on before)) line)) stands)

-- Jumps

pub none≢some : {A : Type 0} {x : A} {P : Type 0} → None ≡ Some x → P
none≢some h = absurd (let no : None ≡ Some _ = h in cc)

pub label-is : (e target : Tree.Tree) → label_in e ≡ Some target → e ≡ target
label-is (Tree.Symbol name) target h = let same : Some (Tree.Symbol name) ≡ Some target = h in cc
label-is (Tree.Local number direction) target h = let same : Some (Tree.Local number direction) ≡ Some target = h in cc
label-is e target h = none≢some h

target-entry : (given : Environment) (here : ℕ) (value : OperandValue) (role : Role) (target : Tree.Tree) → target_in value role ≡ Some target → and_then (operand_value (given_to role given) here value) (λ v. Ok (counted_from here role v)) ≡ distance here (value_of given target)
target-entry given here (Plain e) Target target h = ap (λ t. distance here (value_of given t)) (label-is e target h)
target-entry given here (Plain e) PairTarget target h = ap (λ t. distance here (value_of given t)) (label-is e target h)
target-entry given here value role target h = none≢some h

target-entries : (given : Environment) (here : ℕ) (os : List Operand) (target : Tree.Tree) → target_among os ≡ Some target → map (entry_of given here) os ≡ distance here (value_of given target) ∷ []
target-entries given here [] target h = none≢some h
target-entries given here (o ∷ []) target h = ap (λ e. e ∷ []) (target-entry given here o.value o.role target h)
target-entries given here (o ∷ p ∷ os) target h = none≢some h

-- what its target gives on line k
abbrev pub target_value : (base : ℕ) → Program → (k : ℕ) → (target : Tree.Tree) → Entry
target_value base program k target = value_of (names_at base program k) target

jump-values : (base : ℕ) (program : Program) (k : ℕ) (b : Body) (target : Tree.Tree) → target_of b ≡ Some target → values_of_body base program k b ≡ Operands (distance (address_at base program k) (target_value base program k target) ∷ [])
jump-values base program k (body.Instr i) target h = ap Operands (target-entries (names_at base program k) (address_at base program k) i.operands target h)
jump-values base program k (body.Pseudo i) target h = ap Operands (target-entries (names_at base program k) (address_at base program k) i.operands target h)
jump-values base program k b target h = none≢some h

target-unsized : (value : OperandValue) (role : Role) (target : Tree.Tree) → target_in value role ≡ Some target → is_size role ≡ false
target-unsized (Plain e) Target target h = refl
target-unsized (Plain e) PairTarget target h = refl
target-unsized value role target h = none≢some h

targets-unsized : (os : List Operand) (target : Tree.Tree) → target_among os ≡ Some target → list_any (λ o. is_size o.role) os ≡ false
targets-unsized [] target h = none≢some h
targets-unsized (o ∷ []) target h = or_from (is_size o.role) false (target-unsized o.value o.role target h) refl
targets-unsized (o ∷ p ∷ os) target h = none≢some h

-- their shape follows from no constant, and is no fault
jump-shape : (b : Body) (target : Tree.Tree) → target_of b ≡ Some target → (n : ℕ) × ((f : List ℕ → Option ℤ) → shape_of f b ≡ Bytes n)
jump-shape (body.Instr i) target h =
    (_, λ f. ap (shape_of_instructions (constants f) i) (no-size_operand i.operands (targets-unsized i.operands target h)))
jump-shape (body.Pseudo i) target h =
    (_, λ f. ap (shape_of_instructions (constants f) i) (no-size_operand i.operands (targets-unsized i.operands target h)))
jump-shape b target h = none≢some h

-- so they have the values of their bodies
jump-values_at : (base : ℕ) (program : Program) (k : ℕ) (b : Body) (target : Tree.Tree) → body_at program k ≡ b → target_of b ≡ Some target → values_at base program k ≡ Operands (distance (address_at base program k) (target_value base program k target) ∷ [])
jump-values_at base program k b target is h =
    let shape : shape_at program k ≡ Bytes (jump-shape b target h).0 = ap (shape_of (constant_of program k)) is ∙ (jump-shape b target h).1 (constant_of program k) in
    let values = ap (values_of_body base program k) is ∙ jump-values base program k b target h in
    λ i. values_by_shape (shape i) (values i)

and_no_more : (x : Bool) → (x && true) ≡ x
and_no_more true = refl
and_no_more false = refl

jump-differs : (base : ℕ) (before after : Program) (k j : ℕ) (b : Body) (target : Tree.Tree) → body_at after k ≡ b → body_at before j ≡ b → target_of b ≡ Some target → not (same_entry (distance (address_at base after k) (target_value base after k target)) (distance (address_at base before j) (target_value base before j target))) ≡ differs_in_values base before after k j
jump-differs base before after k j b target here there h =
    let x = distance (address_at base after k) (target_value base after k target) in
    let y = distance (address_at base before j) (target_value base before j target) in
    let values = not (same_values (values_at base after k) (values_at base before j)) in
    let n = jump-shape b target h in
    let shape : shape_at after k ≡ shape_at before j =
    ap (shape_of (constant_of after k)) here ∙ n.1 (constant_of after k) ∙ sym (ap (shape_of (constant_of before j)) there ∙ n.1 (constant_of before j)) in
    let same = not_from_true _ ((same_shape-Decides _ _).1 shape) in
    ap not (sym (and_no_more (same_entry x y)))
    ∙ (λ i. not (same_values (sym (jump-values_at base after k b target here h) i) (sym (jump-values_at base before j b target there h) i)))
    ∙ sym (no_more values)
    ∙ ap (λ b. values || b) (sym same)

-- one that stood somewhere is reencoded where its target is another distance from it
pub reencoded-by_distance : (before : Before) (after : TextRows) (line stood : ℕ) (target : Tree.Tree) → IsAfter before after → line_before_edit (edit_on before) line ≡ Some stood → target_of (body_at (program_in after) line) ≡ Some target → body_at (program_in before.symbols.text) stood ≡ body_at (program_in after) line → not (same_entry (distance (address_at after.base (program_in after) line) (target_value after.base (program_in after) line target)) (distance (address_at (base_before before) (program_in before.symbols.text) stood) (target_value (base_before before) (program_in before.symbols.text) stood target))) ≡ is_reencoded (base_before before) (lines_before before) (edit_on before) line
reencoded-by_distance before after line stood target is_after stands is_target there =
    let edited = ap program_of is_after.lines in
    let b = body_at (program_in after) line in
    (λ i. not (same_entry (distance (address_at (is_after.base i) (edited i) line) (target_value (is_after.base i) (edited i) line target)) (distance (address_at (base_before before) (program_in before.symbols.text) stood) (target_value (base_before before) (program_in before.symbols.text) stood target))))
    ∙ jump-differs (base_before before) (program_of (lines_before before)) (program_after (lines_before before) (edit_on before)) line stood b target (sym (ap (λ p. body_at p line) edited)) there is_target
    ∙ sym (ap (is_new_or (differs_in_values (base_before before) (program_of (lines_before before)) (program_after (lines_before before) (edit_on before)) line)) stands)

-- a jump is no `.equ`
pub jump-open : (b : Body) (target : Tree.Tree) → target_of b ≡ Some target → is_equ b ≡ false
jump-open (Equ d) target h = none≢some h
jump-open b target h = refl

-- Lines of which `%pcrel_lo` of a symbol is the only operand

all-of : (x : Entry) → and_then x (λ v. Ok v) ≡ x
all-of (Ok v) = refl
all-of (Err fault) = refl

low-entry : (base : ℕ) (program : Program) (k here : ℕ) (value : OperandValue) (role : Role) (name : List ℕ) → low_symbol_in value role ≡ Some name → and_then (operand_value (given_to role (names_at base program k)) here value) (λ v. Ok (counted_from here role v)) ≡ low_of_symbol base program name
low-entry base program k here (PcrelLow (reference.Symbol n)) Immediate name h =
    all-of (low_of_symbol base program n) ∙ ap (low_of_symbol base program) (let same : Some n ≡ Some name = h in let is : n ≡ name = cc in is)
low-entry base program k here value role name h = none≢some h

low-entries : (base : ℕ) (program : Program) (k here : ℕ) (os : List Operand) (name : List ℕ) → low_symbol_among os ≡ Some name → map (entry_of (names_at base program k) here) os ≡ low_of_symbol base program name ∷ []
low-entries base program k here [] name h = none≢some h
low-entries base program k here (o ∷ []) name h = ap (λ e. e ∷ []) (low-entry base program k here o.value o.role name h)
low-entries base program k here (o ∷ p ∷ os) name h = none≢some h

low-values : (base : ℕ) (program : Program) (k : ℕ) (b : Body) (name : List ℕ) → low_symbol_of b ≡ Some name → values_of_body base program k b ≡ Operands (low_of_symbol base program name ∷ [])
low-values base program k (body.Instr i) name h = ap Operands (low-entries base program k (address_at base program k) i.operands name h)
low-values base program k b name h = none≢some h

low-unsized : (value : OperandValue) (role : Role) (name : List ℕ) → low_symbol_in value role ≡ Some name → is_size role ≡ false
low-unsized (PcrelLow (reference.Symbol n)) Immediate name h = refl
low-unsized value role name h = none≢some h

lows-unsized : (os : List Operand) (name : List ℕ) → low_symbol_among os ≡ Some name → list_any (λ o. is_size o.role) os ≡ false
lows-unsized [] name h = none≢some h
lows-unsized (o ∷ []) name h = or_from (is_size o.role) false (low-unsized o.value o.role name h) refl
lows-unsized (o ∷ p ∷ os) name h = none≢some h

low-shape : (b : Body) (name : List ℕ) → low_symbol_of b ≡ Some name → (n : ℕ) × ((f : List ℕ → Option ℤ) → shape_of f b ≡ Bytes n)
low-shape (body.Instr i) name h = (_, λ f. ap (shape_of_instructions (constants f) i) (no-size_operand i.operands (lows-unsized i.operands name h)))
low-shape b name h = none≢some h

low-values_at : (base : ℕ) (program : Program) (k : ℕ) (b : Body) (name : List ℕ) → body_at program k ≡ b → low_symbol_of b ≡ Some name → values_at base program k ≡ Operands (low_of_symbol base program name ∷ [])
low-values_at base program k b name is h =
    let shape : shape_at program k ≡ Bytes (low-shape b name h).0 = ap (shape_of (constant_of program k)) is ∙ (low-shape b name h).1 (constant_of program k) in
    let values = ap (values_of_body base program k) is ∙ low-values base program k b name h in
    λ i. values_by_shape (shape i) (values i)

low-differs : (base : ℕ) (before after : Program) (k j : ℕ) (b : Body) (name : List ℕ) → body_at after k ≡ b → body_at before j ≡ b → low_symbol_of b ≡ Some name → not (same_entry (low_of_symbol base after name) (low_of_symbol base before name)) ≡ differs_in_values base before after k j
low-differs base before after k j b name here there h =
    let x = low_of_symbol base after name in
    let y = low_of_symbol base before name in
    let values = not (same_values (values_at base after k) (values_at base before j)) in
    let n = low-shape b name h in
    let shape : shape_at after k ≡ shape_at before j =
    ap (shape_of (constant_of after k)) here ∙ n.1 (constant_of after k) ∙ sym (ap (shape_of (constant_of before j)) there ∙ n.1 (constant_of before j)) in
    let same = not_from_true _ ((same_shape-Decides _ _).1 shape) in
    ap not (sym (and_no_more (same_entry x y)))
    ∙ (λ i. not (same_values (sym (low-values_at base after k b name here h) i) (sym (low-values_at base before j b name there h) i)))
    ∙ sym (no_more values)
    ∙ ap (λ b. values || b) (sym same)

-- one that stood somewhere is reencoded where that gives something else
pub reencoded-by_low : (before : Before) (after : TextRows) (line stood : ℕ) (name : List ℕ) → IsAfter before after → line_before_edit (edit_on before) line ≡ Some stood → low_symbol_of (body_at (program_in after) line) ≡ Some name → body_at (program_in before.symbols.text) stood ≡ body_at (program_in after) line → not (same_entry (low_of_symbol after.base (program_in after) name) (low_of_symbol (base_before before) (program_in before.symbols.text) name)) ≡ is_reencoded (base_before before) (lines_before before) (edit_on before) line
reencoded-by_low before after line stood name is_after stands is_low there =
    let edited = ap program_of is_after.lines in
    let b = body_at (program_in after) line in
    (λ i. not (same_entry (low_of_symbol (is_after.base i) (edited i) name) (low_of_symbol (base_before before) (program_in before.symbols.text) name)))
    ∙ low-differs (base_before before) (program_of (lines_before before)) (program_after (lines_before before) (edit_on before)) line stood b name (sym (ap (λ p. body_at p line) edited)) there is_low
    ∙ sym (ap (is_new_or (differs_in_values (base_before before) (program_of (lines_before before)) (program_after (lines_before before) (edit_on before)) line)) stands)

-- Lines of which `%pcrel_hi` is the only operand

upper-of : (here : ℕ) (x : Entry) → and_then (and_then x (λ v. Ok (high_part (displacement here v)))) (λ v. Ok v) ≡ upper_by (and_then x (λ v. Ok (displacement here v)))
upper-of here (Ok v) = refl
upper-of here (Err fault) = refl

-- expressions have no `%pcrel_lo`
value-alone : (base : ℕ) (program : Program) (k : ℕ) (e : Tree.Tree) → value_of (names_at base program k) e ≡ value_of (references_at base program k) e
value-alone base program k e = value-follows (λ name. false) (names_at base program k) (references_at base program k) (λ name h. refl) e (never (names_in e)) (λ h. refl) (λ h. refl)
  where
    never : (names : List (List ℕ)) → list_any (λ name. false) names ≡ false
    never [] = refl
    never (n ∷ ns) = never ns

high-entry : (base : ℕ) (program : Program) (k : ℕ) (op : Op) (os : List Operand) → is_high_among op os ≡ true → map (entry_of (names_at base program k) (address_at base program k)) os ≡ upper_by (high_by (references_at base program k) (address_at base program k) (pcrel_high_operand op os)) ∷ []
high-entry base program k Auipc (o ∷ []) alone = ap (λ e. e ∷ []) (at o.value o.role alone)
  where
    here : ℕ
    here = address_at base program k

    at : (value : OperandValue) (role : Role) → is_high_in value role ≡ true → and_then (operand_value (given_to role (names_at base program k)) here value) (λ v. Ok (counted_from here role v)) ≡ upper_by (high_by (references_at base program k) here (pcrel_high_value value))
    at (PcrelHigh e) Immediate alone =
        upper-of here (value_of (names_at base program k) e)
        ∙ ap (λ x. upper_by (and_then x (λ v. Ok (displacement here v)))) (value-alone base program k e)
    at value role alone = absurd (true≢false (sym alone))
high-entry base program k op os alone = absurd (true≢false (sym alone))

high-values : (base : ℕ) (program : Program) (k : ℕ) (b : Body) → is_high_alone b ≡ true → values_of_body base program k b ≡ Operands (upper_by (high_by (references_at base program k) (address_at base program k) (pcrel_high_of b)) ∷ [])
high-values base program k (body.Instr i) alone = ap Operands (high-entry base program k i.op i.operands alone)
high-values base program k b alone = absurd (true≢false (sym alone))

high-unsized : (op : Op) (os : List Operand) → is_high_among op os ≡ true → list_any (λ o. is_size o.role) os ≡ false
high-unsized Auipc (o ∷ []) alone = or_from (is_size o.role) false (at o.value o.role alone) refl
  where
    at : (value : OperandValue) (role : Role) → is_high_in value role ≡ true → is_size role ≡ false
    at (PcrelHigh e) Immediate alone = refl
    at value role alone = absurd (true≢false (sym alone))
high-unsized op os alone = absurd (true≢false (sym alone))

-- its shape is that of one instruction
high-shape : (b : Body) → is_high_alone b ≡ true → (n : ℕ) × ((f : List ℕ → Option ℤ) → shape_of f b ≡ Bytes n)
high-shape (body.Instr i) alone = (_, λ f. ap (shape_of_instructions (constants f) i) (no-size_operand i.operands (high-unsized i.op i.operands alone)))
high-shape b alone = absurd (true≢false (sym alone))

high-values_at : (base : ℕ) (program : Program) (k : ℕ) (b : Body) → body_at program k ≡ b → is_high_alone b ≡ true → values_at base program k ≡ Operands (upper_by (high_at base program k) ∷ [])
high-values_at base program k b is alone =
    let shape : shape_at program k ≡ Bytes (high-shape b alone).0 = ap (shape_of (constant_of program k)) is ∙ (high-shape b alone).1 (constant_of program k) in
    let high = ap (λ c. Operands (upper_by (high_by (references_at base program k) (address_at base program k) (pcrel_high_of c)) ∷ [])) (sym is) in
    let values = ap (values_of_body base program k) is ∙ high-values base program k b alone ∙ high in
    λ i. values_by_shape (shape i) (values i)

high-differs : (base : ℕ) (before after : Program) (k j : ℕ) (b : Body) → body_at after k ≡ b → body_at before j ≡ b → is_high_alone b ≡ true → not (same_entry (upper_by (high_at base after k)) (upper_by (high_at base before j))) ≡ differs_in_values base before after k j
high-differs base before after k j b here there alone =
    let x = upper_by (high_at base after k) in
    let y = upper_by (high_at base before j) in
    let values = not (same_values (values_at base after k) (values_at base before j)) in
    let n = high-shape b alone in
    let shape : shape_at after k ≡ shape_at before j =
    ap (shape_of (constant_of after k)) here ∙ n.1 (constant_of after k) ∙ sym (ap (shape_of (constant_of before j)) there ∙ n.1 (constant_of before j)) in
    let same = not_from_true _ ((same_shape-Decides _ _).1 shape) in
    ap not (sym (and_no_more (same_entry x y)))
    ∙ (λ i. not (same_values (sym (high-values_at base after k b here alone) i) (sym (high-values_at base before j b there alone) i)))
    ∙ sym (no_more values)
    ∙ ap (λ b. values || b) (sym same)

-- one that stood somewhere is reencoded where that gives something else
pub reencoded-by_high : (before : Before) (after : TextRows) (line stood : ℕ) → IsAfter before after → line_before_edit (edit_on before) line ≡ Some stood → is_high_alone (body_at (program_in after) line) ≡ true → body_at (program_in before.symbols.text) stood ≡ body_at (program_in after) line → not (same_entry (upper_by (high_at after.base (program_in after) line)) (upper_by (high_at (base_before before) (program_in before.symbols.text) stood))) ≡ is_reencoded (base_before before) (lines_before before) (edit_on before) line
reencoded-by_high before after line stood is_after stands alone there =
    let edited = ap program_of is_after.lines in
    let b = body_at (program_in after) line in
    (λ i. not (same_entry (upper_by (high_at (is_after.base i) (edited i) line)) (upper_by (high_at (base_before before) (program_in before.symbols.text) stood))))
    ∙ high-differs (base_before before) (program_of (lines_before before)) (program_after (lines_before before) (edit_on before)) line stood b (sym (ap (λ p. body_at p line) edited)) there alone
    ∙ sym (ap (is_new_or (differs_in_values (base_before before) (program_of (lines_before before)) (program_after (lines_before before) (edit_on before)) line)) stands)

-- such a line has bytes
word-some : (full : Bool) → ((if full then 4 else 2) == 0) ≡ false
word-some true = refl
word-some false = refl

high-instruction : (i : Instruction) (op : Op) (os : List Operand) → i.op ≡ op → i.operands ≡ os → is_high_among op os ≡ true → (size_of_instructions (instructions_of i i.fields) == 0) ≡ false
high-instruction i Auipc (o ∷ []) op os alone =
    ap (λ e. size_of_instructions (expanded e i.op i.fields) == 0) (ap expansion_of os ∙ at o.value o.role alone)
    ∙ word-some (is_full i.op)
  where
    at : (value : OperandValue) (role : Role) → is_high_in value role ≡ true → expansion_by_role role Itself ≡ Itself
    at (PcrelHigh e) Immediate alone = refl
    at value role alone = absurd (true≢false (sym alone))
high-instruction i op os is operands alone = absurd (true≢false (sym alone))

pub high-bytes : (program : Program) (k : ℕ) → 1 ≤ k → k ≤ length program → is_high_alone (body_at program k) ≡ true → (size_at program k == 0) ≡ false
high-bytes program k first last alone = at (body_at program k) refl alone
  where
    at : (b : Body) → body_at program k ≡ b → is_high_alone b ≡ true → (size_at program k == 0) ≡ false
    at (body.Instr i) is alone =
        let n = size_of_instructions (instructions_of i i.fields) in
        let shape : shape_at program k ≡ Bytes n = ap (shape_of (constant_of program k)) is ∙ ap (shape_of_instructions (constants (constant_of program k)) i) (no-size_operand i.operands (high-unsized i.op i.operands alone)) in
        ap (λ m. line_size (offset_of (shapes_of program) k) m == 0) (shape-in_row program k first last ∙ shape)
        ∙ high-instruction i i.op i.operands refl refl alone
    at b is alone = absurd (true≢false (sym alone))

-- Whether a line is due

module _ (base : ℕ) (lines : List (List ℕ)) (edit : Edit) (k : ℕ) where
  due-by : Bool → Bool
  due-by compared = if compared then is_reencoded base lines edit k else is_invalidated base lines edit k

  pub due-jump : (target : Tree.Tree) → target_of (body_at (program_after lines edit) k) ≡ Some target → is_reencoded base lines edit k ≡ is_due base lines edit k
  unfolding due-by
  due-jump target goes =
      let b = body_at (program_after lines edit) k in
      sym (ap due-by (or_left (is_equ b || is_some (target_of b) || is_some (low_symbol_of b)) (is_high_alone b) (or_left (is_equ b || is_some (target_of b)) (is_some (low_symbol_of b)) (or_right (is_equ b) (is_some (target_of b)) (ap is_some goes)))))

  pub due-low : (name : List ℕ) → low_symbol_of (body_at (program_after lines edit) k) ≡ Some name → is_reencoded base lines edit k ≡ is_due base lines edit k
  unfolding due-by
  due-low name goes =
      let b = body_at (program_after lines edit) k in
      sym (ap due-by (or_left (is_equ b || is_some (target_of b) || is_some (low_symbol_of b)) (is_high_alone b) (or_right (is_equ b || is_some (target_of b)) (is_some (low_symbol_of b)) (ap is_some goes))))

  pub due-high : is_high_alone (body_at (program_after lines edit) k) ≡ true → is_reencoded base lines edit k ≡ is_due base lines edit k
  unfolding due-by
  due-high alone =
      let b = body_at (program_after lines edit) k in
      sym (ap due-by (or_right (is_equ b || is_some (target_of b) || is_some (low_symbol_of b)) (is_high_alone b) alone))

  pub due-other : is_equ (body_at (program_after lines edit) k) ≡ false → target_of (body_at (program_after lines edit) k) ≡ None → low_symbol_of (body_at (program_after lines edit) k) ≡ None → is_high_alone (body_at (program_after lines edit) k) ≡ false → is_invalidated base lines edit k ≡ is_due base lines edit k
  unfolding due-by
  due-other equ goes low high = sym (λ i. due-by (equ i || is_some (goes i) || is_some (low i) || high i))

  -- a line that is not invalidated is not due
  pub due-valid : refusal_of lines edit ≡ None → 1 ≤ k → k ≤ length (lines_after lines edit) → is_invalidated base lines edit k ≡ false → false ≡ is_due base lines edit k
  due-valid allowed first last valid = at (is_compared (body_at (program_after lines edit) k))
    where
      at : (compared : Bool) → false ≡ (if compared then is_reencoded base lines edit k else is_invalidated base lines edit k)
      at true = sym (not_reencoded base lines edit k allowed first last valid)
      at false = sym valid
