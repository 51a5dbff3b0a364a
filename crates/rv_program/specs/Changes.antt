-- What an edit changes, by the numbers of the lines in the text after it, and the most that may be computed anew for it.
use Rattle.std.specs.Prelude.{ℕ, ◌*◌, ◌==◌, Bool, true, not, ◌&&◌, ◌||◌, List, length, Option, Some, None, if◌then◌else◌}
use Rattle.std.specs.List.{list_any, sum_by}
use Rattle.std.specs.Option.{is_some}
use Rattle.rv_stmt.specs.declared.statement.Body.{Body}
use Rattle.rv_stmt.specs.Statement.{operands_of}
use Rattle.rv_program.specs.Codes.{values_at, code_at}
use Rattle.rv_program.specs.Constants.{constant_of}
use Rattle.rv_program.specs.Edits.{line_before_edit}
use Rattle.rv_program.specs.Jumps.{target_of}
use Rattle.rv_program.specs.Layout.{shape_at, section_at, address_at}
use Rattle.rv_program.specs.Pairs.{low_symbol_of, is_high_alone}
use Rattle.rv_program.specs.Program.{Program, program_of, body_at, lines_that}
use Rattle.rv_program.specs.References.{reference_of}
use Rattle.rv_program.specs.Sameness.{same_section, same_shape, same_constant, same_entry, same_values, same_code}
use Rattle.rv_program.specs.Text.{Edit, lines_after}
use Rattle.rv_program.specs.Uses.{names_used, uses_address, uses_local_label, uses_paired_high, is_equ}

-- the statements after an edit
abbrev pub program_after : (lines : List (List ℕ)) → Edit → Program
program_after lines edit = program_of (lines_after lines edit)

-- a line is new, or differs from the line that it was before the edit
abbrev pub is_new_or : (differs_from : ℕ → Bool) → Option ℕ → Bool
is_new_or differs_from None = true
is_new_or differs_from (Some j) = differs_from j

-- Changed lines

-- line k after an edit has another code than line j had before
abbrev pub differs_in_code : (base : ℕ) → (before after : Program) → (k j : ℕ) → Bool
differs_in_code base before after k j = not (same_code (code_at base after k) (code_at base before j))

abbrev pub is_changed : (base : ℕ) → (lines : List (List ℕ)) → Edit → (k : ℕ) → Bool
is_changed base lines edit k =
    is_new_or (differs_in_code base (program_of lines) (program_after lines edit) k) (line_before_edit edit k)

-- the lines that are new or have another code
abbrev pub changed_lines : (base : ℕ) → (lines : List (List ℕ)) → Edit → List ℕ
changed_lines base lines edit = lines_that (is_changed base lines edit) (length (lines_after lines edit))

-- Invalidated lines: their values may differ, so they may be computed anew

-- a symbol gives another value or another constant on line k after an edit than on line j before
abbrev pub differs_in_name : (base : ℕ) → (before after : Program) → (k j : ℕ) → (name : List ℕ) → Bool
differs_in_name base before after k j name =
    not (same_entry (reference_of base after k name) (reference_of base before j name))
    || not (same_constant (constant_of after k name) (constant_of before j name))

-- line k after an edit has another address than line j had before, or is in another section
abbrev pub differs_in_place : (base : ℕ) → (before after : Program) → (k j : ℕ) → Bool
differs_in_place base before after k j =
    not (address_at base after k == address_at base before j) || not (same_section (section_at after k) (section_at before j))

-- line k after an edit, which has this body, may have other values than line j had before: what it uses gives something
-- else, or it uses what is not compared
abbrev pub differs_in_uses : (base : ℕ) → (before after : Program) → (k j : ℕ) → Body → Bool
differs_in_uses base before after k j body =
    list_any (differs_in_name base before after k j) (names_used body)
    || (uses_address body && differs_in_place base before after k j)
    || uses_local_label body
    || uses_paired_high body
    || is_equ body

abbrev pub is_invalidated : (base : ℕ) → (lines : List (List ℕ)) → Edit → (k : ℕ) → Bool
is_invalidated base lines edit k =
    is_new_or
    (λ j. differs_in_uses base (program_of lines) (program_after lines edit) k j (body_at (program_after lines edit) k))
    (line_before_edit edit k)

-- the lines that are new, or use a name that gives something else, or their own address where they moved, or a local label
-- or `%pcrel_lo`, or are an `.equ`
abbrev pub invalidated_lines : (base : ℕ) → (lines : List (List ℕ)) → Edit → List ℕ
invalidated_lines base lines edit = lines_that (is_invalidated base lines edit) (length (lines_after lines edit))

-- Reencoded lines: their codes may differ, so they may be encoded anew

-- line k after an edit has other values or another shape than line j had before
abbrev pub differs_in_values : (base : ℕ) → (before after : Program) → (k j : ℕ) → Bool
differs_in_values base before after k j =
    not (same_values (values_at base after k) (values_at base before j)) || not (same_shape (shape_at after k) (shape_at before j))

abbrev pub is_reencoded : (base : ℕ) → (lines : List (List ℕ)) → Edit → (k : ℕ) → Bool
is_reencoded base lines edit k =
    is_new_or (differs_in_values base (program_of lines) (program_after lines edit) k) (line_before_edit edit k)

-- the lines that are new or have other values or another shape
abbrev pub reencoded_lines : (base : ℕ) → (lines : List (List ℕ)) → Edit → List ℕ
reencoded_lines base lines edit = lines_that (is_reencoded base lines edit) (length (lines_after lines edit))

-- Due lines: what is kept of them may be other than it was, so it is made anew

-- the values of such a line are compared before they are computed: an `.equ` has that of its symbol, a jump the distance of
-- its target, and a line with `%pcrel_hi`, or `%pcrel_lo` of a symbol, alone what that gives
abbrev pub is_compared : Body → Bool
is_compared body = is_equ body || is_some (target_of body) || is_some (low_symbol_of body) || is_high_alone body

-- a line that is compared is due only where its values differ
abbrev pub is_due : (base : ℕ) → (lines : List (List ℕ)) → Edit → (k : ℕ) → Bool
is_due base lines edit k =
    if is_compared (body_at (program_after lines edit) k) then is_reencoded base lines edit k else is_invalidated base lines edit k

-- Bounds

-- the most values that an edit may compute: each operand of an invalidated line once as a constant and once as a value
abbrev pub most_values : (base : ℕ) → (lines : List (List ℕ)) → Edit → ℕ
most_values base lines edit =
    2 * sum_by (λ k. length (operands_of (body_at (program_after lines edit) k))) (invalidated_lines base lines edit)

-- the most lines that an edit may encode
abbrev pub most_codes : (base : ℕ) → (lines : List (List ℕ)) → Edit → ℕ
most_codes base lines edit = length (reencoded_lines base lines edit)
