-- The listing of a text: a row for each line, with its number, its address, its first bytes and the line itself.
use Rattle.std.specs.Prelude.{ℕ, nat_lt, List, [], ◌∷◌, ◌++◌, length, take, codes, decimal, if◌then◌else◌}
use Rattle.std.specs.List.{flat_map}
use Rattle.rv_text.specs.Rows.{hex}
use Rattle.rv_layout.specs.Sections.{section_number}
use Rattle.rv_list.specs.Rows.{right, left, counted}
use Rattle.rv_list.specs.Shown.{Shown, ShownLine, from_lines, shows_bytes}

-- the bytes of a line that are shown
abbrev pub listed_bytes : ShownLine → List ℕ
listed_bytes line = if shows_bytes (section_number line.place.section) then line.code.payload else []

-- eight bytes, and a sign where there are more
unfoldable pub first_bytes : List ℕ → List ℕ
first_bytes bytes =
    left 16 (flat_map (hex 2) (take 8 bytes)) ++ (if nat_lt 8 (length bytes) then codes "+" else codes " ")

-- the columns before the line
unfoldable pub listing_columns : (number : ℕ) → ShownLine → List ℕ
listing_columns number line =
    right 5 (decimal number) ++ (codes " " ++ (hex 8 line.place.address ++ (codes " " ++ (first_bytes (listed_bytes line) ++ codes " "))))

unfoldable pub listing_row : (number : ℕ) → ShownLine → List ℕ
listing_row number line = listing_columns number line ++ (line.text ++ codes "\n")

abbrev pub listing_rows : Shown → List (List ℕ)
listing_rows shown = from_lines shown (λ number line. listing_row number line ∷ [])

unfoldable pub listing_text : Shown → List ℕ
listing_text shown = counted (codes "listing") (listing_rows shown)
