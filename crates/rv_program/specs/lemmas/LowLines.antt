-- Lines of which `%pcrel_lo` of a symbol is the only operand: they use this symbol, and nothing else of other lines.
use Rattle.std.proofs.Common.{◌≡◌, ℕ, Bool, true, false, true≢false, not, ◌&&◌, ◌||◌, List, [], ◌∷◌, ◌++◌, Option, Some, None, ap, sym, ◌∙◌, refl}
use Rattle.std.specs.List.{list_any, flat_map}
use Rattle.std.specs.Option.{is_some}
use Rattle.std.proofs.lemmas.Bool.{or_parts, or_from}
use Rattle.rv_expr.specs.declared.tree.LabelReference.TheVariants as reference
use Rattle.rv_stmt.specs.declared.operand.Operand.{Operand}
use Rattle.rv_stmt.specs.declared.operand.OperandValue.{OperandValue}
use Rattle.rv_stmt.specs.declared.operand.OperandValue.TheVariants.{PcrelLow}
use Rattle.rv_stmt.specs.declared.operand.Role.{Role}
use Rattle.rv_stmt.specs.declared.operand.Role.TheVariants.{Immediate}
use Rattle.rv_stmt.specs.declared.statement.Body.{Body}
use Rattle.rv_stmt.specs.declared.statement.Body.TheVariants.{Instr}
use Rattle.rv_program.specs.declared.mask.Kind.TheVariants.{Uncompared}
use Rattle.rv_program.specs.internal.LinesWithout.{is_of_kind}
use Rattle.rv_program.specs.Pairs.{low_symbol_in, low_symbol_among, low_symbol_of}
use Rattle.rv_program.specs.Uses.{names_in, names_used, expression_of, has_local_label, uses_local_label, uses_paired_high, is_equ}

-- what such a line uses
pub record UsesLow (b : Body) (name : List ℕ) : Type 0 where
  pub names : names_used b ≡ name ∷ []
  pub no_local : uses_local_label b ≡ false
  pub no_equ : is_equ b ≡ false

none-some : {C : Type 0} {name : List ℕ} → None ≡ Some name → C
none-some {name} h = absurd (let no : None ≡ Some name = h in cc)

module _ (name : List ℕ) where
  names-in : (value : OperandValue) (role : Role) → low_symbol_in value role ≡ Some name → names_in (expression_of value) ++ [] ≡ name ∷ []
  names-in (PcrelLow (reference.Symbol n)) Immediate h = let same : Some n ≡ Some name = h in let is : n ≡ name = cc in ap (λ m. m ∷ []) is
  names-in value role h = none-some h

  local-in : (value : OperandValue) (role : Role) → low_symbol_in value role ≡ Some name → has_local_label (expression_of value) ≡ false
  local-in (PcrelLow (reference.Symbol n)) Immediate h = refl
  local-in value role h = none-some h

  names-among : (os : List Operand) → low_symbol_among os ≡ Some name → flat_map (λ o. names_in (expression_of o.value)) os ≡ name ∷ []
  names-among [] h = none-some h
  names-among (o ∷ []) h = names-in o.value o.role h
  names-among (o ∷ p ∷ os) h = none-some h

  local-among : (os : List Operand) → low_symbol_among os ≡ Some name → list_any (λ o. has_local_label (expression_of o.value)) os ≡ false
  local-among [] h = none-some h
  local-among (o ∷ []) h = or_from (has_local_label (expression_of o.value)) false (local-in o.value o.role h) refl
  local-among (o ∷ p ∷ os) h = none-some h

  pub uses-low : (b : Body) → low_symbol_of b ≡ Some name → UsesLow b name
  uses-low (Instr i) h = record { names = names-among i.operands h; no_local = local-among i.operands h; no_equ = refl }
  uses-low b h = none-some h

-- one of another kind that each edit leaves alone
pub nothing-left : (uncompared low : Bool) → (uncompared && not low) ≡ false → low ≡ false → uncompared ≡ false
nothing-left true low none other = absurd (true≢false (sym (ap not other) ∙ none))
nothing-left false low none other = refl

-- a line that is found by its symbol, or compared by what it uses, uses no local label
pub kind-local : (b : Body) → is_of_kind Uncompared b ≡ false → uses_local_label b ≡ false
kind-local b none = at (low_symbol_of b) refl
  where
    at : (low : Option (List ℕ)) → low_symbol_of b ≡ low → uses_local_label b ≡ false
    at None is =
        let left = nothing-left (uses_local_label b || uses_paired_high b || is_equ b) (is_some (low_symbol_of b)) none (ap is_some is) in
        (or_parts (uses_local_label b) (uses_paired_high b) (or_parts (uses_local_label b || uses_paired_high b) (is_equ b) left).0).0
    at (Some name) is = (uses-low name b is).no_local
