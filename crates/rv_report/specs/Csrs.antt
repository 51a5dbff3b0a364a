-- The messages of names of no control and status register.
use Rattle.std.specs.Prelude.{ℕ, ◌/◌, ◌%◌, List, [], ◌∷◌, ◌++◌, map, Option, Some, None, codes}
use Rattle.std.specs.Char.{to_ascii_lowercase}
use Rattle.rv_ops.specs.declared.csrs.TheConstants.{CSRS}
use Rattle.rv_ops.specs.Names.{first_named}
use Rattle.rv_show.specs.Digits.{upper_digit, upper_hex}
use Rattle.rv_show.specs.Suggestions.{did_you_mean, suggestions}
use Rattle.rv_show.specs.Texts.{about}
use Rattle.rv_report.specs.declared.advice_tables.TheConstants.{COUNTER_NUMBERS, CSR_NUMBERS}

-- the names that there are, in the order of their table
unfoldable pub csr_list : List (List ℕ)
csr_list = map (λ row. row.1.now) CSRS

-- the number of the register of this name that the standard has
unfoldable pub standard_number : List ℕ → Option ℕ
standard_number name = first_named (map (λ row. (row.0, row.1.now)) CSR_NUMBERS) name

-- the same for a counter
unfoldable pub counter_number : List ℕ → Option ℕ
counter_number name = first_named (map (λ row. (row.0, row.1.now)) COUNTER_NUMBERS) name

-- a number of twelve bits
unfoldable pub its_number : ℕ → List ℕ
its_number n = codes " here; its number is 0x" ++ (upper_digit (n / 256 % 16) ∷ upper_hex (n % 256))

abbrev pub number_or : Option ℕ → List ℕ → List ℕ
number_or (Some n) text = its_number n
number_or None text = text

unfoldable pub near_csrs : List ℕ → List ℕ
near_csrs name = did_you_mean 0 (suggestions (map to_ascii_lowercase name) csr_list)

abbrev pub first_number : Option ℕ → Option ℕ → Option ℕ
first_number (Some n) other = Some n
first_number None other = other

-- the number of the register or the counter of this name that the standard has
abbrev pub number_of_csr : List ℕ → Option ℕ
number_of_csr name = first_number (standard_number name) (counter_number name)

-- its number where the standard has a register of the name, or else the names near it
abbrev pub csr_help : List ℕ → List ℕ
csr_help name = number_or (number_of_csr name) (near_csrs name)

unfoldable pub unknown_csr : List ℕ → List ℕ
unknown_csr name = about (codes "no control and status register is called ") name [] ++ csr_help name
