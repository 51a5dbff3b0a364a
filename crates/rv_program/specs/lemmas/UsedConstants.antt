-- The shape of a line follows from the constants of the names that it uses.
use Rattle.std.proofs.Common.{◌≡◌, ℕ, ℤ, Bool, true, false, ◌&&◌, List, [], ◌∷◌, Option, Some, None, if◌then◌else◌, true≢false, ap, sym, ◌∙◌, refl}
use Rattle.std.specs.List.{list_any, flat_map}
use Rattle.std.proofs.lemmas.Bool.{or_parts}
use Rattle.std.proofs.lemmas.List.Folds.{list_any-append}
use Rattle.rv_stmt.specs.declared.operand.Operand.{Operand}
use Rattle.rv_stmt.specs.declared.operand.OperandValue.{OperandValue}
use Rattle.rv_stmt.specs.declared.operand.OperandValue.TheVariants.{Plain}
use Rattle.rv_stmt.specs.declared.statement.Body.{Body}
use Rattle.rv_stmt.specs.declared.statement.Body.TheVariants as body
use Rattle.rv_stmt.specs.declared.statement.Instruction.{Instruction}
use Rattle.rv_layout.specs.Shapes.{constants, is_size, size_operand, or_not_constant, value_of_constant, value_at, constant_of_operand, load_size, fill_size, exponent_by_role, bytes_or_range, align_or_range, shape_by, shape_of_instructions, shape_of_fill, shape_of_alignment, shape_of}
use Rattle.rv_program.specs.Uses.{names_in, expression_of, names_used, is_sized, uses_symbols}
use Rattle.rv_program.specs.lemmas.UsedValues.{value-follows}

-- A line without symbols

none-differs : (differs : List ℕ → Bool) (names : List (List ℕ)) → list_any (λ name. true) names ≡ false → list_any differs names ≡ false
none-differs differs [] none = refl
none-differs differs (n ∷ ns) none = absurd (true≢false none)

-- A line that is not sized

pub no-size_operand : (os : List Operand) → list_any (λ o. is_size o.role) os ≡ false → size_operand os ≡ None
no-size_operand [] none = refl
no-size_operand (o ∷ os) none =
    let parts = or_parts (is_size o.role) (list_any (λ o. is_size o.role) os) none in
    ap (λ b. if b then Some o else size_operand os) parts.0 ∙ no-size_operand os parts.1

-- its shape follows from no constant
shape-by_no_operand : (f g : List ℕ → Option ℤ) (b : Body) → is_sized b ≡ false → shape_of f b ≡ shape_of g b
shape-by_no_operand f g (body.Instr i) none =
    let no = no-size_operand i.operands none in
    ap (shape_of_instructions (constants f) i) no ∙ sym (ap (shape_of_instructions (constants g) i) no)
shape-by_no_operand f g (body.Pseudo i) none =
    let no = no-size_operand i.operands none in
    ap (shape_of_instructions (constants f) i) no ∙ sym (ap (shape_of_instructions (constants g) i) no)
shape-by_no_operand f g (body.Fill d) none =
    let no = no-size_operand d.operands none in
    ap (shape_of_fill (constants f)) no ∙ sym (ap (shape_of_fill (constants g)) no)
shape-by_no_operand f g (body.Align d) none =
    let no = no-size_operand d.operands none in
    ap (shape_of_alignment (constants f)) no ∙ sym (ap (shape_of_alignment (constants g)) no)
shape-by_no_operand f g b none = refl

-- where names that do not differ have the same constant
module _ (differs : List ℕ → Bool) (f g : List ℕ → Option ℤ) (same : (name : List ℕ) → differs name ≡ false → f name ≡ g name) where
  constant-follows : (v : OperandValue) → list_any differs (names_in (expression_of v)) ≡ false → value_of_constant (constants f) v ≡ value_of_constant (constants g) v
  constant-follows (Plain e) names =
      value-follows differs (constants f) (constants g) (λ name h. ap or_not_constant (same name h)) e names (λ h. refl) (λ h. refl)
  constant-follows v names = refl

  -- an operand, where there is one, is the same constant
  abbrev Follows : Option Operand → Type 0
  Follows None = Unit {0}
  Follows (Some o) = constant_of_operand (constants f) o ≡ constant_of_operand (constants g) o

  either-follows : (test : Bool) (o : Operand) (rest : Option Operand) → Follows (Some o) → Follows rest → Follows (if test then Some o else rest)
  either-follows true o rest one more = one
  either-follows false o rest one more = more

  size_operand-follows : (os : List Operand) → list_any differs (flat_map (λ o. names_in (expression_of o.value)) os) ≡ false → Follows (size_operand os)
  size_operand-follows [] names = tt
  size_operand-follows (o ∷ os) names =
      let first = names_in (expression_of o.value) in
      let more = flat_map (λ o. names_in (expression_of o.value)) os in
      let parts = or_parts (list_any differs first) (list_any differs more) (sym (list_any-append differs first more) ∙ names) in
      either-follows (is_size o.role) o (size_operand os) (ap (value_at o.span) (constant-follows o.value parts.0)) (size_operand-follows os parts.1)

  instructions-follow : (i : Instruction) (o : Option Operand) → Follows o → shape_of_instructions (constants f) i o ≡ shape_of_instructions (constants g) i o
  instructions-follow i None h = refl
  instructions-follow i (Some o) h = ap (shape_by (λ z. bytes_or_range o.span (load_size i z))) h

  fill-follows : (o : Option Operand) → Follows o → shape_of_fill (constants f) o ≡ shape_of_fill (constants g) o
  fill-follows None h = refl
  fill-follows (Some o) h = ap (shape_by (λ z. bytes_or_range o.span (fill_size z))) h

  alignment-follows : (o : Option Operand) → Follows o → shape_of_alignment (constants f) o ≡ shape_of_alignment (constants g) o
  alignment-follows None h = refl
  alignment-follows (Some o) h = ap (shape_by (λ z. align_or_range o.span (exponent_by_role o.role z))) h

  pub shape-follows : (b : Body) → list_any differs (names_used b) ≡ false → shape_of f b ≡ shape_of g b
  shape-follows (body.Instr i) names = instructions-follow i (size_operand i.operands) (size_operand-follows i.operands names)
  shape-follows (body.Pseudo i) names = instructions-follow i (size_operand i.operands) (size_operand-follows i.operands names)
  shape-follows (body.Fill d) names = fill-follows (size_operand d.operands) (size_operand-follows d.operands names)
  shape-follows (body.Align d) names = alignment-follows (size_operand d.operands) (size_operand-follows d.operands names)
  shape-follows b names = refl

  -- where the shape follows from no operand, or names that it uses are the same constants
  pub shape-same : (b : Body) → (is_sized b && (uses_symbols b && list_any differs (names_used b))) ≡ false → shape_of f b ≡ shape_of g b
  shape-same b same = at (is_sized b) refl (uses_symbols b) refl same
    where
      at : (sized : Bool) → is_sized b ≡ sized → (symbols : Bool) → uses_symbols b ≡ symbols → (sized && (symbols && list_any differs (names_used b))) ≡ false → shape_of f b ≡ shape_of g b
      at true e true s names = shape-follows b names
      at true e false s names = shape-follows b (none-differs differs (names_used b) s)
      at false e symbols s names = shape-by_no_operand f g b e
