-- The row that ends the reports of a file.
use Rattle.std.specs.Prelude.{ℕ, ◌+◌, ◌==◌, nat_le, List, [], ◌++◌, codes, decimal, if◌then◌else◌}

-- so many, with the word for one of them
unfoldable pub amount_of : (word : List ℕ) → (count : ℕ) → List ℕ
amount_of word count = decimal count ++ (codes " " ++ (word ++ (if count == 1 then [] else codes "s")))

unfoldable pub both_counts : (faults warnings : ℕ) → List ℕ
both_counts faults warnings = amount_of (codes "fault") faults ++ (codes ", " ++ amount_of (codes "warning") warnings)

abbrev pub counts_text : (faults warnings : ℕ) → List ℕ
counts_text faults warnings =
    if warnings == 0 then amount_of (codes "fault") faults
    else if faults == 0 then amount_of (codes "warning") warnings
    else both_counts faults warnings

-- of more reports than are shown, which ones are
unfoldable pub first_shown : (most : ℕ) → List ℕ
first_shown most = codes "; the first " ++ (decimal most ++ codes " reports are shown, --all shows all")

abbrev pub part_shown : (count most : ℕ) → List ℕ
part_shown count most = if nat_le count most then [] else first_shown most

-- the row that ends so many reports of a file
unfoldable pub last_row : (file : List ℕ) → (faults warnings reports most : ℕ) → List ℕ
last_row file faults warnings reports most =
    file ++ (codes ": " ++ (counts_text faults warnings ++ (part_shown reports most ++ codes "\n")))

abbrev pub last_rows : (file : List ℕ) → (faults warnings reports most : ℕ) → List ℕ
last_rows file faults warnings reports most =
    if faults + warnings == 0 then [] else last_row file faults warnings reports most
