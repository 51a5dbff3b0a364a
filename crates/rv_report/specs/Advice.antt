-- What messages advise, by the names that they are about.
use Rattle.std.specs.Prelude.{ℕ, Bool, List, [], ◌∷◌, map, if◌then◌else◌}
use Rattle.std.specs.List.{list_any}
use Rattle.std.specs.Str.{str_eq_ignore_ascii_case}
use Rattle.rv_report.specs.declared.advice.Topic.{Topic}
use Rattle.rv_report.specs.declared.advice.Topic.TheVariants.{OtherDirective, OtherMnemonic, Rv64Mnemonic, RegisterGiven, LabelGiven, NumberGiven, NameGiven, OperandGiven, RegisterLetter, RangeExceeded, Character}
use Rattle.rv_report.specs.declared.advice_tables.TheConstants.{CHARACTERS, LABEL_GIVEN, NAME_GIVEN, NUMBER_GIVEN, OPERAND_GIVEN, OTHER_DIRECTIVES, OTHER_MNEMONICS, RANGE_EXCEEDED, REGISTER_GIVEN, REGISTER_LETTERS, RV64_MNEMONICS}

-- a name is one of some, in either letter case
abbrev pub is_any : List (List ℕ) → List ℕ → Bool
is_any names name = list_any (λ n. str_eq_ignore_ascii_case n name) names

-- the advice of the first row that has the name
abbrev pub advice_in : List (List (List ℕ) × List ℕ) → List ℕ → List ℕ
advice_in [] name = []
advice_in (row ∷ rows) name = if is_any row.0 name then row.1 else advice_in rows name

-- what a message advises about a name
unfoldable pub advice : Topic → List ℕ → List ℕ
advice OtherDirective name = advice_in (map (λ row. (map (λ n. n.now) row.0.now, row.1.now)) OTHER_DIRECTIVES) name
advice OtherMnemonic name = advice_in (map (λ row. (map (λ n. n.now) row.0.now, row.1.now)) OTHER_MNEMONICS) name
advice Rv64Mnemonic name = advice_in (map (λ row. (map (λ n. n.now) row.0.now, row.1.now)) RV64_MNEMONICS) name
advice RegisterGiven name = advice_in (map (λ row. (map (λ n. n.now) row.0.now, row.1.now)) REGISTER_GIVEN) name
advice LabelGiven name = advice_in (map (λ row. (map (λ n. n.now) row.0.now, row.1.now)) LABEL_GIVEN) name
advice NumberGiven name = advice_in (map (λ row. (map (λ n. n.now) row.0.now, row.1.now)) NUMBER_GIVEN) name
advice NameGiven name = advice_in (map (λ row. (map (λ n. n.now) row.0.now, row.1.now)) NAME_GIVEN) name
advice OperandGiven name = advice_in (map (λ row. (map (λ n. n.now) row.0.now, row.1.now)) OPERAND_GIVEN) name
advice RegisterLetter name = advice_in (map (λ row. (map (λ n. n.now) row.0.now, row.1.now)) REGISTER_LETTERS) name
advice RangeExceeded name = advice_in (map (λ row. (map (λ n. n.now) row.0.now, row.1.now)) RANGE_EXCEEDED) name
advice Character name = advice_in (map (λ row. (map (λ n. n.now) row.0.now, row.1.now)) CHARACTERS) name

-- what can take the place of a name: the words of the first row that has it
abbrev pub replacements_in : List (List (List ℕ) × List (List ℕ)) → List ℕ → List (List ℕ)
replacements_in [] name = []
replacements_in (row ∷ rows) name = if is_any row.0 name then row.1 else replacements_in rows name

-- what can take the place of a name that a message advises about
unfoldable pub replacements : Topic → List ℕ → List (List ℕ)
replacements OtherDirective name = replacements_in (map (λ row. (map (λ n. n.now) row.0.now, map (λ n. n.now) row.2.now)) OTHER_DIRECTIVES) name
replacements OtherMnemonic name = replacements_in (map (λ row. (map (λ n. n.now) row.0.now, map (λ n. n.now) row.2.now)) OTHER_MNEMONICS) name
replacements RegisterGiven name = replacements_in (map (λ row. (map (λ n. n.now) row.0.now, map (λ n. n.now) row.2.now)) REGISTER_GIVEN) name
replacements LabelGiven name = replacements_in (map (λ row. (map (λ n. n.now) row.0.now, map (λ n. n.now) row.2.now)) LABEL_GIVEN) name
replacements NumberGiven name = replacements_in (map (λ row. (map (λ n. n.now) row.0.now, map (λ n. n.now) row.2.now)) NUMBER_GIVEN) name
replacements RangeExceeded name = replacements_in (map (λ row. (map (λ n. n.now) row.0.now, map (λ n. n.now) row.2.now)) RANGE_EXCEEDED) name
replacements Character name = replacements_in (map (λ row. (map (λ n. n.now) row.0.now, map (λ n. n.now) row.2.now)) CHARACTERS) name
replacements Rv64Mnemonic name = []
replacements NameGiven name = []
replacements OperandGiven name = []
replacements RegisterLetter name = []
