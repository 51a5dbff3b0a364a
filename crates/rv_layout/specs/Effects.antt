-- What lines do to the section and to the offsets of all sections, joined line by line. (docs/LANGUAGE.md, Layout)
use Rattle.std.specs.Prelude.{◌≡◌, ℕ, zero, suc, ◌==◌, List, [], ◌∷◌, length, replicate, get_or, if◌then◌else◌}
use Rattle.rv_stmt.specs.declared.section.Sect.{Sect}
use Rattle.rv_stmt.specs.declared.section.Sect.TheVariants.{Text}
use Rattle.rv_layout.specs.declared.advance.Advance.{Advance}
use Rattle.rv_layout.specs.declared.effect.Effect.{Effect}
use Rattle.rv_layout.specs.declared.effect.Effect.TheVariants.{Plain, Switched}
use Rattle.rv_layout.specs.declared.measured.Measured.{Measured}
use Rattle.rv_layout.specs.declared.measured.Measured.TheVariants.{Bytes, Align, Switch}
use Rattle.rv_layout.specs.Advances.{advance_of, advanced, then_advance, no_advance, IsAdvance}
use Rattle.rv_layout.specs.Places.{base_from}
use Rattle.rv_layout.specs.Sections.{sections, section_number}

-- one more advance of section number `i`
abbrev pub advance_at : (i : ℕ) → Advance → List Advance → List Advance
advance_at i h [] = []
advance_at zero h (x ∷ xs) = then_advance x h ∷ xs
advance_at (suc i) h (x ∷ xs) = x ∷ advance_at i h xs

-- the advances of each section, then those that follow
abbrev pub both : List Advance → List Advance → List Advance
both [] ys = []
both (x ∷ xs) [] = []
both (x ∷ xs) (y ∷ ys) = then_advance x y ∷ both xs ys

-- some lines, then others: those of the others that stand before their first switch are in the section that is left
abbrev pub join : Effect → Effect → Effect
join (Plain h) (Plain k) = Plain (then_advance h k)
join (Plain h) (Switched k t ys) = Switched (then_advance h k) t ys
join (Switched h s xs) (Plain k) = Switched h s (advance_at (section_number s) k xs)
join (Switched h s xs) (Switched k t ys) = Switched h t (both (advance_at (section_number s) k xs) ys)

-- no lines
abbrev pub no_lines : Effect
no_lines = Plain no_advance

-- one line
abbrev pub effect_of : Measured → Effect
effect_of (Bytes n) = Plain (advance_of 0 0 n)
effect_of (Align e) = Plain (advance_of 0 e 0)
effect_of (Switch s) = Switched no_advance s (replicate sections no_advance)
effect_of m = Plain no_advance

-- some lines
abbrev pub layout_of : List Measured → Effect
layout_of [] = no_lines
layout_of (m ∷ ms) = join (effect_of m) (layout_of ms)

-- the section after the lines, the first of which is in section `s`
abbrev pub effect_on_section : Effect → Sect → Sect
effect_on_section (Plain h) s = s
effect_on_section (Switched h t xs) s = t

-- the offset in section number `t` after the lines, where it is `x` before them, and the first of them is in section `s`,
-- modulo 2 ^ 32
abbrev pub effect_on_offset : Effect → (t : ℕ) → Sect → (x : ℕ) → ℕ
effect_on_offset (Plain h) t s x = if section_number s == t then advanced h x else x
effect_on_offset (Switched h u xs) t s x = advanced (get_or xs t no_advance) (if section_number s == t then advanced h x else x)

-- the section after the first lines of a text
abbrev pub section_reached : Effect → Sect
section_reached l = effect_on_section l Text

-- the offset in section number `t` after the first lines of a text, modulo 2 ^ 32
abbrev pub offset_reached : Effect → (t : ℕ) → ℕ
offset_reached l t = effect_on_offset l t Text 0

-- the base of section number `t` in a text whose lines do this
abbrev pub base_by_layout : (base : ℕ) → Effect → (t : ℕ) → ℕ
base_by_layout base l t = base_from base (offset_reached l) t

abbrev pub AreAdvances : List Advance → Type 0
AreAdvances [] = Unit {0}
AreAdvances (x ∷ xs) = IsAdvance x × AreAdvances xs

-- an effect as the code holds it: an advance for each section
abbrev pub IsEffect : Effect → Type 0
IsEffect (Plain h) = IsAdvance h
IsEffect (Switched h s xs) = IsAdvance h × (length xs ≡ sections) × AreAdvances xs
