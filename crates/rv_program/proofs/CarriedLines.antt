-- Lines with the address of one symbol, counted from their own, where both rose alike: the symbol is as far from them as it was.
use Rattle.std.proofs.Common.{◌≡◌, ℕ, ℤ, pos, ◌+ℤ◌, ◌-ℤ◌, ◌≤◌, true, false, not, ◌||◌, List, [], ◌∷◌, length, Option, Some, None, is_some, Ok, Err, ◌++◌, true≢false, arith, ap, sym, subst, ◌∙◌, refl}
use Rattle.std.specs.List.{list_any, flat_map}
use Rattle.std.proofs.lemmas.Bool.{or_parts}
use Rattle.std.proofs.lemmas.Int.{ints}
use Rattle.rv_expr.specs.Tree as Tree
use Rattle.rv_ops.specs.declared.op.Op.{Op}
use Rattle.rv_ops.specs.declared.op.Op.TheVariants.{Auipc}
use Rattle.rv_stmt.specs.declared.operand.Operand.{Operand}
use Rattle.rv_stmt.specs.declared.operand.OperandValue.{OperandValue}
use Rattle.rv_stmt.specs.declared.operand.OperandValue.TheVariants.{Plain, PcrelHigh}
use Rattle.rv_stmt.specs.declared.operand.Role.{Role}
use Rattle.rv_stmt.specs.declared.operand.Role.TheVariants.{Immediate, Target, PairTarget}
use Rattle.rv_stmt.specs.declared.statement.Body.{Body}
use Rattle.rv_stmt.specs.declared.statement.Body.TheVariants.{Instr, Pseudo}
use Rattle.rv_stmt.specs.Statement.{operands_of}
use Rattle.rv_stmt.specs.ValueParts.{signed_word}
use Rattle.rv_fix.specs.Values.{Entry}
use Rattle.rv_program.specs.declared.before.Before.{Before}
use Rattle.rv_program.specs.declared.brief.Brief.{Brief}
use Rattle.rv_program.specs.declared.name_set.Mark.{Mark}
use Rattle.rv_program.specs.declared.name_set.Mark.TheVariants.{Unknown, Same, Moved, Changed}
use Rattle.rv_program.specs.declared.text_rows.TextRows.{TextRows}
use Rattle.rv_program.specs.declared.used_names.UsedNames.TheVariants.{Few}
use Rattle.rv_program.specs.internal.Before.{IsBefore, IsAfter, base_before, lines_before, edit_on}
use Rattle.rv_program.specs.internal.Briefs.{brief_of}
use Rattle.rv_program.specs.Changes.{program_after, is_reencoded, is_due}
use Rattle.rv_program.specs.internal.Differing.{moved_by, MovesBy, Tells, HasDiffering, HasSameHigh, MovedTogether}
use Rattle.rv_program.specs.Edits.{line_before_edit}
use Rattle.rv_program.specs.internal.HighSymbols.{high_symbol_in, high_symbol_among, high_symbol_of}
use Rattle.rv_program.specs.Jumps.{label_in, target_in, target_among, target_of, distance}
use Rattle.rv_program.specs.Layout.{address_at}
use Rattle.rv_program.specs.internal.NameSets.{bucket_of, Marks, mark_of, brief_of_names, HasMoved}
use Rattle.rv_program.specs.Pairs.{pcrel_high_value, pcrel_high_operand, pcrel_high_of, high_by, high_at, is_high_in, is_high_among, is_high_alone, upper_by}
use Rattle.rv_program.specs.Program.{Program, program_of, statement_at, body_at}
use Rattle.rv_program.specs.References.{reference_of, references_at}
use Rattle.rv_program.specs.Text.{Edit}
use Rattle.rv_program.specs.internal.TextRows.{program_in}
use Rattle.rv_program.specs.Uses.{names_in, names_used, expression_of, has_local_label, uses_local_label, uses_paired_high, is_equ}
use Rattle.rv_program.proofs.DueLines.{none≢some, reencoded-by_distance, jump-open, due-jump, reencoded-by_high, high-bytes, due-high}
use Rattle.rv_program.proofs.LinePairLaws.{stood-before, body-before}
use Rattle.rv_program.specs.lemmas.Programs.{length-program}
use Rattle.rv_program.specs.lemmas.SamenessLaws.{same_entry-Decides}

-- A jump to no local label goes to a symbol, and uses no other

-- the only symbol of a body
abbrev IsOnly : (names : List (List ℕ)) → (target : Tree.Tree) → Type 0
IsOnly names target = (name : List ℕ) × (target ≡ Tree.Symbol name) × (names ≡ name ∷ [])

symbol-in : (e target : Tree.Tree) → label_in e ≡ Some target → has_local_label e ≡ false → IsOnly (names_in e) target
symbol-in (Tree.Symbol name) target h local = (name, (let same : Some (Tree.Symbol name) ≡ Some target = h in let is : Tree.Symbol name ≡ target = cc in sym is), refl)
symbol-in (Tree.Local number direction) target h local = absurd (true≢false local)
symbol-in e target h local = none≢some h

symbol-in_value : (value : OperandValue) (role : Role) (target : Tree.Tree) → target_in value role ≡ Some target → has_local_label (expression_of value) ≡ false → IsOnly (names_in (expression_of value)) target
symbol-in_value (Plain e) Target target h local = symbol-in e target h local
symbol-in_value (Plain e) PairTarget target h local = symbol-in e target h local
symbol-in_value value role target h local = none≢some h

symbol-among : (os : List Operand) (target : Tree.Tree) (b : Body) → operands_of b ≡ os → target_among os ≡ Some target → uses_local_label b ≡ false → IsOnly (names_used b) target
symbol-among [] target b is h local = none≢some h
symbol-among (o ∷ []) target b is h local =
    let apart = or_parts (has_local_label (expression_of o.value)) false (ap (list_any (λ o. has_local_label (expression_of o.value))) (sym is) ∙ local) in
    let only = symbol-in_value o.value o.role target h apart.0 in
    (only.0, only.1, ap (flat_map (λ o. names_in (expression_of o.value))) is ∙ ap (λ names. names ++ []) only.2)
symbol-among (o ∷ p ∷ os) target b is h local = none≢some h

symbol-of : (b : Body) (target : Tree.Tree) → target_of b ≡ Some target → uses_local_label b ≡ false → IsOnly (names_used b) target
symbol-of (Instr i) target h local = symbol-among i.operands target (Instr i) refl h local
symbol-of (Pseudo i) target h local = symbol-among i.operands target (Pseudo i) refl h local
symbol-of b target h local = none≢some h

-- Lines of which `%pcrel_hi` of a symbol is the only operand

record IsHighOf (b : Body) (name : List ℕ) : Type 0 where
  only : names_used b ≡ name ∷ []
  no_equ : is_equ b ≡ false
  alone : is_high_alone b ≡ true
  high : pcrel_high_of b ≡ Some (Tree.Symbol name)

high_symbol-of : (b : Body) (name : List ℕ) → high_symbol_of b ≡ Some name → IsHighOf b name
high_symbol-of (Instr i) name h = among i.op i.operands refl refl h
  where
    among : (op : Op) (os : List Operand) → i.op ≡ op → i.operands ≡ os → high_symbol_among op os ≡ Some name → IsHighOf (Instr i) name
    among Auipc (o ∷ []) is are h = at o.value refl o.role refl h
      where
        at : (value : OperandValue) → o.value ≡ value → (role : Role) → o.role ≡ role → high_symbol_in value role ≡ Some name → IsHighOf (Instr i) name
        at (PcrelHigh (Tree.Symbol n)) is_value Immediate is_role h =
            let same : n ≡ name = (let is : ◌≡◌ {A = Option (List ℕ)} (Some n) (Some name) = h in cc) in
            record {
              only = ap (flat_map (λ o. names_in (expression_of o.value))) are ∙ ap (λ value. names_in (expression_of value) ++ []) is_value ∙ ap (λ n. n ∷ []) same;
              no_equ = refl;
              alone = (λ j. is_high_among (is j) (are j)) ∙ (λ j. is_high_in (is_value j) (is_role j));
              high = (λ j. pcrel_high_operand (is j) (are j)) ∙ ap pcrel_high_value is_value ∙ ap (λ n. Some (Tree.Symbol n)) same;
            }
        at value is_value role is_role h = none≢some h
    among op os is are h = none≢some h
high_symbol-of b name h = none≢some h

-- a line with `%pcrel_hi` goes to no label
high-no_target : (b : Body) → is_some (pcrel_high_of b) ≡ true → target_of b ≡ None
high-no_target (Instr i) high = at i.op i.operands high
  where
    at : (op : Op) (os : List Operand) → is_some (pcrel_high_operand op os) ≡ true → target_among os ≡ None
    at Auipc (o ∷ []) high = of o.value o.role high
      where
        of : (value : OperandValue) (role : Role) → is_some (pcrel_high_value value) ≡ true → target_in value role ≡ None
        of (PcrelHigh e) role high = refl
        of value role high = absurd (true≢false (sym high))
    at Auipc (o ∷ p ∷ os) high = refl
    at op os high = absurd (true≢false (sym high))
high-no_target b high = absurd (true≢false (sym high))

-- Distances

-- what rises as the line does is as far from it
same-distance : (shift : ℤ) (here there : ℕ) (entry : Entry) → pos here ≡ pos there +ℤ shift → distance here (moved_by shift entry) ≡ distance there entry
same-distance shift here there (Ok v) rises =
    ap (λ far. Ok (signed_word far)) (let e : (v +ℤ shift) -ℤ pos here ≡ v -ℤ pos there = omega (arith, ints, rises) in e)
same-distance shift here there (Err fault) rises = refl

-- The line

pub moves-by : (base : ℕ) (lines : List (List ℕ)) (edit : Edit) (name : List ℕ) (shift : ℤ) (mark : Mark) → HasMoved mark → Tells base lines edit shift mark name → MovesBy base lines edit shift name
moves-by base lines edit name shift Unknown moved tells = tells.1
moves-by base lines edit name shift Same moved tells = absurd moved
moves-by base lines edit name shift Moved moved tells = tells
moves-by base lines edit name shift Changed moved tells = absurd moved

module _ (before : Before) (after : TextRows) (line stood : ℕ) (is : IsBefore before) (is_after : IsAfter before after) (first : 1 ≤ line) (last : line ≤ length after.lines.now) (stands : line_before_edit (edit_on before) line ≡ Some stood) (set : Marks) (has : HasDiffering (base_before before) (lines_before before) (edit_on before) set) (brief : Brief) (of_line : brief ≡ brief_of (statement_at (program_in after) line)) (together : MovedTogether before.symbols.text after set brief.names stood line) where
  abbrev body : Body
  body = body_at (program_in after) line

  abbrev old : Program
  old = program_in before.symbols.text

  edited : program_in after ≡ program_after (lines_before before) (edit_on before)
  edited = ap program_of is_after.lines

  there : body ≡ body_at old stood
  there = body-before before after line stood is is_after first last stands

  -- the symbol is as far from it as it was
  same-far : (name : List ℕ) → names_used body ≡ name ∷ [] → is_equ body ≡ false → distance (address_at after.base (program_in after) line) (reference_of after.base (program_in after) line name) ≡ distance (address_at (base_before before) old stood) (reference_of (base_before before) old stood name)
  same-far name only no_equ =
      let shift = set.shift in
      let moved = together.moved in
      let bucket : moved.0 ≡ bucket_of name =
      (let same : Few (Some moved.0) None ≡ Few (Some (bucket_of name)) None = sym moved.1 ∙ ap (λ b. b.names) of_line ∙ ap brief_of_names only in cc) in
      let moves : MovesBy (base_before before) (lines_before before) (edit_on before) shift name =
      moves-by (base_before before) (lines_before before) (edit_on before) name shift (mark_of set (bucket_of name)) (subst (λ b. HasMoved (mark_of set b)) bucket moved.2) (has name) in
      let value : reference_of after.base (program_in after) line name ≡ moved_by shift (reference_of (base_before before) old stood name) =
      (λ i. reference_of (is_after.base i) (edited i) line name)
      ∙ moves line stood stands (ap (λ p. is_equ (body_at p line)) (sym edited) ∙ no_equ) (ap is_equ (sym there) ∙ no_equ) in
      ap (distance (address_at after.base (program_in after) line)) value
      ∙ same-distance shift (address_at after.base (program_in after) line) (address_at (base_before before) old stood) (reference_of (base_before before) old stood name) together.rises

  abbrev NotDue : Type 0
  NotDue = is_due (base_before before) (lines_before before) (edit_on before) line ≡ false

  -- Jumps

  jump-not_due : (target : Tree.Tree) → target_of body ≡ Some target → IsOnly (names_used body) target → NotDue
  jump-not_due target goes only =
      let name = only.0 in
      let goes' : target_of body ≡ Some (Tree.Symbol name) = goes ∙ ap Some only.1 in
      let x = distance (address_at after.base (program_in after) line) (reference_of after.base (program_in after) line name) in
      let y = distance (address_at (base_before before) old stood) (reference_of (base_before before) old stood name) in
      let reencoded : is_reencoded (base_before before) (lines_before before) (edit_on before) line ≡ false =
      sym (reencoded-by_distance before after line stood (Tree.Symbol name) is_after stands goes' (sym there)) ∙ ap not ((same_entry-Decides x y).1 (same-far name only.2 (jump-open body target goes))) in
      sym (due-jump (base_before before) (lines_before before) (edit_on before) line (Tree.Symbol name) (ap (λ p. target_of (body_at p line)) (sym edited) ∙ goes'))
      ∙ reencoded

  -- High halves

  high-same : (name : List ℕ) → high_symbol_of body ≡ Some name → high_at after.base (program_in after) line ≡ high_at (base_before before) old stood
  high-same name is_high =
      let one = high_symbol-of body name is_high in
      ap (high_by (references_at after.base (program_in after) line) (address_at after.base (program_in after) line)) one.high
      ∙ same-far name one.only one.no_equ
      ∙ ap (high_by (references_at (base_before before) old stood) (address_at (base_before before) old stood)) (sym (ap pcrel_high_of (sym there) ∙ one.high))

  high-not_due : (name : List ℕ) → high_symbol_of body ≡ Some name → NotDue
  high-not_due name is_high =
      let alone = (high_symbol-of body name is_high).alone in
      let x = upper_by (high_at after.base (program_in after) line) in
      let y = upper_by (high_at (base_before before) old stood) in
      sym (due-high (base_before before) (lines_before before) (edit_on before) line (ap (λ p. is_high_alone (body_at p line)) (sym edited) ∙ alone))
      ∙ sym (reencoded-by_high before after line stood is_after stands alone (sym there))
      ∙ ap not ((same_entry-Decides x y).1 (ap upper_by (high-same name is_high)))

  relative : brief.relative ≡ true → (is_some (target_of body) || is_some (high_symbol_of body)) ≡ true
  relative h = sym (ap (λ b. b.relative) of_line) ∙ h

  pub carried-not_due : brief.relative ≡ true → brief.uncompared ≡ false → NotDue
  carried-not_due h compared = at (target_of body) refl (high_symbol_of body) refl (relative h)
    where
      local : uses_local_label body ≡ false
      local =
          (or_parts (uses_local_label body) (uses_paired_high body)
          (or_parts (uses_local_label body || uses_paired_high body) (is_equ body) (sym (ap (λ b. b.uncompared) of_line) ∙ compared)).0).0

      at : (target : Option Tree.Tree) → target_of body ≡ target → (symbol : Option (List ℕ)) → high_symbol_of body ≡ symbol → (is_some target || is_some symbol) ≡ true → NotDue
      at (Some target) goes symbol is_high some = jump-not_due target goes (symbol-of body target goes local)
      at None goes (Some name) is_high some = high-not_due name is_high
      at None goes None is_high some = absurd (true≢false (sym some))

  -- a line with `%pcrel_hi` has the high half that it had
  pub carried-high : brief.relative ≡ true → is_some (pcrel_high_of body) ≡ true → HasSameHigh before after stood line
  carried-high h high = at (high_symbol_of body) refl (ap (λ t. is_some t || is_some (high_symbol_of body)) (sym (high-no_target body high)) ∙ relative h)
    where
      of : (name : List ℕ) → high_symbol_of body ≡ Some name → HasSameHigh before after stood line
      of name is_high =
          let stays = stood-before before after line stood is is_after first last stands in
          let alone = (high_symbol-of body name is_high).alone in
          record {
            bytes = high-bytes old stood stays.first (omega (arith, stays.last, length-program before.symbols.text.lines.now)) (ap is_high_alone (sym there) ∙ alone);
            high = high-same name is_high;
          }

      at : (symbol : Option (List ℕ)) → high_symbol_of body ≡ symbol → is_some symbol ≡ true → HasSameHigh before after stood line
      at (Some name) is_high some = of name is_high
      at None is_high some = absurd (true≢false (sym some))
