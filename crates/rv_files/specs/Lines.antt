-- The lines of a file. (docs/FILES.md, Reading)
use Rattle.std.specs.Prelude.{◌≡◌, ◌⊎◌, ℕ, ◌<◌, ◌==◌, ◌&&◌, Bool, true, false, List, [], ◌∷◌, ◌++◌, length, if◌then◌else◌}
use Rattle.std.specs.List.{list_any, slice_split}

abbrev pub is_line_break : ℕ → Bool
is_line_break byte = byte == 10

abbrev pub is_empty : {A : Type 0} → List A → Bool
is_empty [] = true
is_empty (x ∷ xs) = false

-- some parts, the last one only where it is not empty
abbrev pub without_empty_last : List (List ℕ) → List (List ℕ)
without_empty_last [] = []
without_empty_last (part ∷ parts) =
    if is_empty parts && is_empty part then [] else part ∷ without_empty_last parts

-- the lines of a file: the parts between its line breaks, and what stands after the last one only where it is not empty
abbrev pub lines_of : (file : List ℕ) → List (List ℕ)
lines_of file = without_empty_last (slice_split is_line_break file)

-- The same, however they are found: no line break is in a line; one ends each, but perhaps the last, which then is not empty.
abbrev pub AreLinesOf : (file : List ℕ) → List (List ℕ) → Type 0
AreLinesOf file [] = file ≡ []
AreLinesOf file (line ∷ later) =
    (list_any is_line_break line ≡ false)
    × (((rest : List ℕ) × (file ≡ line ++ 10 ∷ rest) × AreLinesOf rest later)
    ⊎ ((file ≡ line) × (0 < length line) × (later ≡ [])))
