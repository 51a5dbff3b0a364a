-- The messages of names that no instruction and no directive has.
use Rattle.std.specs.Prelude.{ℕ, Bool, true, false, not, ◌==◌, ◌&&◌, bytes_eq, is_some, List, ◌∷◌, ◌++◌, length, map, Result, Ok, Err, codes, if◌then◌else◌}
use Rattle.std.specs.Char.{to_ascii_lowercase}
use Rattle.rv_text.specs.declared.faults.FaultNumber.{FaultNumber}
use Rattle.rv_text.specs.declared.faults.FaultNumber.TheVariants.{UnknownName}
use Rattle.rv_stmt.specs.Directives.{directive_named}
use Rattle.rv_stmt.specs.Forms.{Form, form_of}
use Rattle.rv_stmt.specs.Statement.{is_directive_name}
use Rattle.rv_show.specs.Characters.{excerpt}
use Rattle.rv_show.specs.Suggestions.{did_you_mean, suggestions}
use Rattle.rv_show.specs.Texts.{quoted}
use Rattle.rv_report.specs.declared.advice.Topic.TheVariants.{OtherDirective, OtherMnemonic, Rv64Mnemonic}
use Rattle.rv_report.specs.Advice.{advice}
use Rattle.rv_report.specs.LanguageNames.{names_like}

abbrev pub is_known : Result Form FaultNumber → Bool
is_known (Ok form) = true
is_known (Err UnknownName) = false
is_known (Err number) = true

-- a statement may begin with the name
abbrev pub begins_statement : List ℕ → Bool
begins_statement name = if is_directive_name name then is_some (directive_named name) else is_known (form_of name 0)

-- a statement begins with the word after the name; behind the name of a directive it may be that of a section
abbrev pub is_before_statement : (name next : List ℕ) → Bool
is_before_statement name next =
    if is_directive_name name && is_directive_name next then false else begins_statement next

-- the names of its kind that may have been meant
unfoldable pub near_names : List ℕ → List ℕ
near_names name = did_you_mean 0 (suggestions (map to_ascii_lowercase name) (names_like name))

unfoldable pub missing_colon : List ℕ
missing_colon = codes "; is a ':' missing after the label?"

-- names near it, or a label where there are none and nothing follows
abbrev pub by_names : (next question : List ℕ) → List ℕ
by_names next question = if length question == 0 && length next == 0 then missing_colon else question

unfoldable pub definition_of : List ℕ → List ℕ
definition_of name = codes "; write '.equ " ++ (excerpt name ++ codes ", VALUE'")

unfoldable pub missing_point : List ℕ → List ℕ
missing_point name = codes "; did you mean '." ++ (excerpt name ++ codes "'?")

-- the word after the name, and the byte right behind it, tell more than names near it
abbrev pub by_what_follows : (name next : List ℕ) → (behind : ℕ) → List ℕ
by_what_follows name next behind =
    if bytes_eq next (codes "=") then definition_of name
    else (if behind == 0x2D then codes "; a name cannot contain '-'"
    else (if is_some (directive_named (0x2E ∷ name)) then missing_point name
    else (if is_before_statement name next then missing_colon
    else by_names next (near_names name))))

abbrev pub other_mnemonic : List ℕ → List ℕ
other_mnemonic name =
    if length (advice OtherMnemonic name) == 0 then advice Rv64Mnemonic name else advice OtherMnemonic name

-- what is written in the place of a name that other assemblers have
unfoldable pub replacement : List ℕ → List ℕ
replacement name = if is_directive_name name then advice OtherDirective name else other_mnemonic name

-- the name is one that other assemblers or processors have
abbrev pub is_of_others : List ℕ → Bool
is_of_others name = not (length (replacement name) == 0)

abbrev pub help_with_name : (name next : List ℕ) → (behind : ℕ) → List ℕ
help_with_name name next behind =
    if length (replacement name) == 0 then by_what_follows name next behind else replacement name

unfoldable pub unknown_name : (name next : List ℕ) → (behind : ℕ) → List ℕ
unknown_name name next behind =
    codes "no instruction or directive is called " ++ (quoted name ++ help_with_name name next behind)
