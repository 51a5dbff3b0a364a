-- How many operands a name takes, and how many stand after it.
use Rattle.std.specs.Prelude.{ℕ, ◌+◌, ◌*◌, Bool, false, bytes_eq, is_ok, List, ◌++◌, length, drop, map, Option, Some, None, codes, decimal, if◌then◌else◌}
use Rattle.std.specs.List.{filter}
use Rattle.rv_text.specs.Lexing.{LexedLine, spelled_tokens}
use Rattle.rv_stmt.specs.declared.directives.DirectiveForm.{DirectiveForm}
use Rattle.rv_stmt.specs.declared.operand_count.OperandCount.{OperandCount}
use Rattle.rv_stmt.specs.declared.operand_count.OperandCount.TheVariants.{Exactly, Between, AtLeast}
use Rattle.rv_stmt.specs.Directives.{directive_named}
use Rattle.rv_stmt.specs.Forms.{form_of}
use Rattle.rv_stmt.specs.OperandCounts.{takes}
use Rattle.rv_stmt.specs.Runs.{runs_of}
use Rattle.rv_stmt.specs.Statement.{is_directive_name}
use Rattle.rv_show.specs.Texts.{alternatives}
use Rattle.rv_report.specs.declared.counts.TheConstants.{NUMERALS}

abbrev pub directive_takes : Option DirectiveForm → ℕ → Bool
directive_takes None count = false
directive_takes (Some d) count = takes d.count count

-- a name takes so many operands
abbrev pub name_takes : List ℕ → ℕ → Bool
name_takes name count = if is_directive_name name then directive_takes (directive_named name) count else is_ok (form_of name count)

-- the numbers from 0 to 3 that it takes, which are all if there is a greatest
abbrev pub numbers_taken : List ℕ → List (ℕ × List ℕ) → List (List ℕ)
numbers_taken name rows = map (λ row. row.1) (filter (λ row. name_takes name row.0) rows)

abbrev pub numerals : List (ℕ × List ℕ)
numerals = map (λ row. (row.0, row.1.now)) NUMERALS

-- a number of operands
abbrev pub operands_text : List ℕ → List ℕ
operands_text numbers =
    if bytes_eq numbers (codes "0") then codes "no operands"
    else (if bytes_eq numbers (codes "1") then codes "1 operand" else numbers ++ codes " operands")

unfoldable pub some_numbers : List ℕ → List ℕ
some_numbers name = operands_text (alternatives (codes ", ") (codes " or ") 0 (numbers_taken name numerals))

-- a directive may take any number from a least one on
abbrev pub by_count : OperandCount → List ℕ → List ℕ
by_count (Exactly n) name = some_numbers name
by_count (Between least most) name = some_numbers name
by_count (AtLeast n) name = decimal n ++ codes " or more operands"

abbrev pub by_directive : Option DirectiveForm → List ℕ → List ℕ
by_directive None name = some_numbers name
by_directive (Some d) name = by_count d.count name

-- the numbers of operands that a name takes
abbrev pub numbers_text : List ℕ → List ℕ
numbers_text name = if is_directive_name name then by_directive (directive_named name) name else some_numbers name

-- how many operands stand after the name: each label before it is two tokens
abbrev pub operands_standing : (labels : ℕ) → LexedLine → ℕ
operands_standing labels line = length (runs_of 0 (drop (2 * labels + 1) (spelled_tokens line)))
