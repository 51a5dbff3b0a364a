-- Where the lines of a text lie, by their shapes. (docs/LANGUAGE.md, Layout)
use Rattle.std.specs.Prelude.{◌%◌, ℕ, zero, suc, ◌+◌, ◌-◌, ◌^◌, ◌≤◌, ◌==◌, ◌&&◌, nat_le, Bool, List, [], ◌∷◌, take, get_or, if◌then◌else◌}
use Rattle.rv_stmt.specs.declared.section.Sect.{Sect}
use Rattle.rv_stmt.specs.declared.section.Sect.TheVariants.{Text}
use Rattle.rv_layout.specs.declared.measured.Measured.{Measured}
use Rattle.rv_layout.specs.declared.measured.Measured.TheVariants.{Bytes, Align, Switch, Nothing}
use Rattle.rv_layout.specs.Rounding.{padding, round_up}
use Rattle.rv_layout.specs.Sections.{section_number}

-- the section after a line: a switch acts from the next line on
abbrev pub section_after : Sect → Measured → Sect
section_after s (Switch t) = t
section_after s m = s

-- the offset after a line
abbrev pub offset_after : ℕ → Measured → ℕ
offset_after x (Bytes n) = x + n
offset_after x (Align e) = round_up x (2 ^ e)
offset_after x m = x

-- the section after some lines, the first of which is in section `s`
abbrev pub section_through : Sect → List Measured → Sect
section_through s [] = s
section_through s (m ∷ ms) = section_through (section_after s m) ms

-- the offset in section number `t` after some lines, where it is `x` before them, and the first of them is in section `s`:
-- the lines of the section count
abbrev pub offset_through : (t : ℕ) → Sect → (x : ℕ) → List Measured → ℕ
offset_through t s x [] = x
offset_through t s x (m ∷ ms) =
    offset_through t (section_after s m) (if section_number s == t then offset_after x m else x) ms

-- the lines before line `i`; lines are counted from 1
abbrev pub before : ℕ → List Measured → List Measured
before i ms = take (i - 1) ms

-- the section of line `i`: that of the last switch before it, and `.text` where there is none
abbrev pub section_of : List Measured → (i : ℕ) → Sect
section_of ms i = section_through Text (before i ms)

-- the offset of line `i` in its section
abbrev pub offset_of : List Measured → (i : ℕ) → ℕ
offset_of ms i = offset_through (section_number (section_of ms i)) Text 0 (before i ms)

-- the offset at which section number `t` ends
abbrev pub section_end_of : List Measured → (t : ℕ) → ℕ
section_end_of ms t = offset_through t Text 0 ms

-- how many bytes a line has at offset `x`
abbrev pub size_at : (x : ℕ) → Measured → ℕ
size_at x (Bytes n) = n
size_at x (Align e) = padding x (2 ^ e)
size_at x m = 0

-- how many bytes line `i` has
abbrev pub line_size_of : List Measured → (i : ℕ) → ℕ
line_size_of ms i = size_at (offset_of ms i) (get_or ms (i - 1) Nothing)

-- the base of section number `t`, by the ends of the sections before it: the first section begins at `base`, and each other
-- at the least multiple of 4096 that is not below the end of the one before it
abbrev pub base_from : (base : ℕ) → (end : ℕ → ℕ) → (t : ℕ) → ℕ
base_from base end zero = base
base_from base end (suc t) = round_up (base_from base end t + end t) 4096

-- the address at which section number `t` begins
abbrev pub section_base_of : (base : ℕ) → List Measured → (t : ℕ) → ℕ
section_base_of base ms t = base_from base (section_end_of ms) t

-- the address of line `i`
abbrev pub address_of : (base : ℕ) → List Measured → (i : ℕ) → ℕ
address_of base ms i = section_base_of base ms (section_number (section_of ms i)) + offset_of ms i

-- the sum of a number for each section below section number `n`
abbrev pub sum_below : (ℕ → ℕ) → (n : ℕ) → ℕ
sum_below f zero = 0
sum_below f (suc n) = sum_below f n + f n

-- a base is a multiple of 4096, at most 0x80000000
abbrev pub is_base : ℕ → Bool
is_base base = base % 4096 == 0 && nat_le base 0x80000000

-- a shape is within the limits: at most 65,536 bytes, or a multiple of at most 4096
abbrev pub IsLimited : Measured → Type 0
IsLimited (Bytes n) = n ≤ 65536
IsLimited (Align e) = e ≤ 12
IsLimited m = Unit {0}

abbrev pub AreLimited : List Measured → Type 0
AreLimited [] = Unit {0}
AreLimited (m ∷ ms) = IsLimited m × AreLimited ms
