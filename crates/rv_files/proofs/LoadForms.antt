-- A line that loads a constant has that operand alone: by the tables of forms, a form reads the constant after its register and nothing else,
-- or loads none.
use denote.Enum.Declared.{tag_of}
use Rattle.std.proofs.Common.{◌≡◌, ℕ, zero, suc, Bool, true, false, ◌&&◌, ◌||◌, not, List, [], ◌∷◌, Option, Some, None, Result, Ok, Err, refl, ap, sym, ◌∙◌, subst}
use Rattle.std.specs.Prelude.{slice_index_or, cond}
use Rattle.std.specs.List.{list_any, list_all}
use Rattle.std.specs.Str.{str_eq_ignore_ascii_case}
use Rattle.std.proofs.lemmas.Bool.{and_parts}
use Rattle.std.proofs.lemmas.List.Folds.{list_all-append}
use Rattle.rv_text.specs.declared.faults.Fault.{Fault}
use Rattle.rv_text.specs.declared.faults.FaultNumber.{FaultNumber}
use Rattle.rv_text.specs.declared.faults.FaultNumber.TheVariants as faults
use Rattle.rv_ops.specs.Table.{shape_of, operation_named}
use Rattle.rv_ops.specs.declared.op.Op.{Op}
use Rattle.rv_ops.specs.declared.op.Shape.{Shape}
use Rattle.rv_ops.specs.declared.op.Shape.TheVariants.{Upper}
use Rattle.rv_ops.specs.contracts.op.Shape.{the_type as shape_type}
use Rattle.rv_code.specs.declared.instruction.Fields.{Fields}
use Rattle.rv_stmt.specs.declared.draft.Draft.{Draft}
use Rattle.rv_stmt.specs.declared.runs.Run.{Run}
use Rattle.rv_stmt.specs.declared.slots.Slot.{Slot}
use Rattle.rv_stmt.specs.declared.slots.Slot.TheVariants as slot
use Rattle.rv_stmt.specs.declared.slots.TheConstants.{OPERANDS}
use Rattle.rv_stmt.specs.Forms.{Form, slots_of, own_forms, other_forms, forms_named, forms_of, operand_count, first_of_count, form_of}
use Rattle.rv_stmt.specs.OperandCounts.{takes}
use Rattle.rv_stmt.specs.Slots.{slots_read}
use Rattle.rv_files.proofs.Outcomes.{Holds, either_holds}
use Rattle.rv_files.proofs.LoadOperands.{IsPlain, IsAlone, takes_constant, loads_none, slots_plain, load_alone}

abbrev is_rd : Slot → Bool
is_rd slot.Rd = true
is_rd s = false

abbrev is_load : List Slot → Bool
is_load [] = false
is_load (s ∷ []) = false
is_load (s ∷ t ∷ []) = is_rd s && takes_constant t
is_load (s ∷ t ∷ u ∷ ss) = false

-- no constant is loaded, or a register is read and then the constant
abbrev loads_alone : List Slot → Bool
loads_alone ss = not (list_any takes_constant ss) || is_load ss

rd_is : (s : Slot) → is_rd s ≡ true → s ≡ slot.Rd
rd_is slot.Rd e = refl
rd_is s e = absurd (let no : false ≡ true = e in cc)

constant_is : (s : Slot) → takes_constant s ≡ true → s ≡ slot.Constant
constant_is slot.Constant e = refl
constant_is s e = absurd (let no : false ≡ true = e in cc)

load_is : (ss : List Slot) → is_load ss ≡ true → ss ≡ slot.Rd ∷ slot.Constant ∷ []
load_is [] e = absurd (let no : false ≡ true = e in cc)
load_is (s ∷ []) e = absurd (let no : false ≡ true = e in cc)
load_is (s ∷ t ∷ []) e =
    let both = and_parts (is_rd s) (takes_constant t) e in
    let second = constant_is t both.1 in
    rw (rd_is s both.0, second) refl
load_is (s ∷ t ∷ u ∷ ss) e = absurd (let no : false ≡ true = e in cc)

pub slots_alone : (op : Op) (ss : List Slot) (rs : List Run) (f : Fields) → loads_alone ss ≡ true → Holds IsAlone (slots_read op ss rs (record { fields = f; operands = [] }))
slots_alone op ss rs f e = at (list_any takes_constant ss) refl e
  where
    d : Draft
    d = record { fields = f; operands = [] }

    weaker : (x : Result Draft Fault) → Holds IsPlain x → Holds IsAlone x
    weaker (Ok y) h = loads_none y.operands h
    weaker (Err fault) h = tt

    at : (some : Bool) → list_any takes_constant ss ≡ some → (not some || is_load ss) ≡ true → Holds IsAlone (slots_read op ss rs (record { fields = f; operands = [] }))
    at false none e = weaker _ (slots_plain op ss rs (record { fields = f; operands = [] }) none refl)
    at true some e =
        subst (λ l. Holds IsAlone (slots_read op l rs (record { fields = f; operands = [] }))) (sym (load_is ss e)) (load_alone op rs (record { fields = f; operands = [] }) refl)

-- the tables

abbrev is_alone_form : Form → Bool
is_alone_form f = loads_alone f.slots

passes_at : {X : Type 0} (p : X → Bool) (xs : List X) (k : ℕ) (d : X) → list_all p xs ≡ true → p d ≡ true → p (slice_index_or xs k d) ≡ true
passes_at p [] k d all other = other
passes_at p (x ∷ xs) zero d all other = (and_parts (p x) (list_all p xs) all).0
passes_at p (x ∷ xs) (suc k) d all other = passes_at p xs k d (and_parts (p x) (list_all p xs) all).1 other

own_alone : (s : Shape) → loads_alone (slots_of s) ≡ true
unfolding slots_of
own_alone s = passes_at (λ row. loads_alone row.1.now) OPERANDS (tag_of shape_type s) (Upper, record { now = [] }) refl refl

own_forms_alone : (op : Option Op) → list_all is_alone_form (own_forms op) ≡ true
own_forms_alone None = refl
own_forms_alone (Some op) = ap (λ b. b && true) (own_alone (shape_of op))

others_alone : list_all (λ (row : List ℕ × Form). is_alone_form row.1) other_forms ≡ true
unfolding other_forms
others_alone = refl

named_alone : (rows : List (List ℕ × Form)) (name : List ℕ) → list_all (λ (row : List ℕ × Form). is_alone_form row.1) rows ≡ true → list_all is_alone_form (forms_named rows name) ≡ true
named_alone [] name all = refl
named_alone (row ∷ rows) name all =
    let both = and_parts (is_alone_form row.1) (list_all (λ (r : List ℕ × Form). is_alone_form r.1) rows) all in
    at (str_eq_ignore_ascii_case row.0 name) both.0 (named_alone rows name both.1)
  where
    at : (b : Bool) → is_alone_form row.1 ≡ true → list_all is_alone_form (forms_named rows name) ≡ true → list_all is_alone_form (cond b (row.1 ∷ forms_named rows name) (forms_named rows name)) ≡ true
    at true first later = ap (λ b. b && list_all is_alone_form (forms_named rows name)) first ∙ later
    at false first later = later

forms_alone : (name : List ℕ) → list_all is_alone_form (forms_of name) ≡ true
forms_alone name =
    list_all-append is_alone_form (own_forms (operation_named name)) (forms_named other_forms name)
    ∙ ap (λ b. b && list_all is_alone_form (forms_named other_forms name)) (own_forms_alone (operation_named name))
    ∙ named_alone other_forms name others_alone

abbrev pub IsAloneForm : Form → Type 0
IsAloneForm f = is_alone_form f ≡ true

first_alone : (fault : FaultNumber) (count : ℕ) (fs : List Form) → list_all is_alone_form fs ≡ true → Holds IsAloneForm (first_of_count fault count fs)
first_alone fault count [] all = tt
first_alone fault count (f ∷ fs) all =
    let both = and_parts (is_alone_form f) (list_all is_alone_form fs) all in
    either_holds IsAloneForm (takes (operand_count f) count) (Ok f) (first_of_count faults.OperandCount count fs) both.0 (first_alone faults.OperandCount count fs both.1)

pub form_alone : (name : List ℕ) (count : ℕ) → Holds IsAloneForm (form_of name count)
form_alone name count = first_alone faults.UnknownName count (forms_of name) (forms_alone name)
