-- The rows of a survey, put together.
use Rattle.std.proofs.Common.{◌≡◌, ℕ, List, length, ap, sym, ◌∙◌}
use Rattle.rv_layout.specs.declared.measured.Measured.{Measured}
use Rattle.rv_layout.specs.Places.{section_of, address_of, line_size_of}
use Rattle.rv_list.specs.declared.view.LinePlace.{LinePlace}
use Rattle.rv_program.specs.Layout.{shape_at, place_at}
use Rattle.rv_program.specs.Program.{Program, for_lines}
use Rattle.rv_program.specs.internal.Rows.{AreShapes, ArePlaces}
use Rattle.rv_program.specs.lemmas.Programs.{length-for_lines}

-- where line i lies in a text whose lines have these shapes
abbrev place_by : ℕ → List Measured → ℕ → LinePlace
place_by base shapes i = record { section = section_of shapes i; address = address_of base shapes i; size = line_size_of shapes i }

pub unplaced : (base : ℕ) (program : Program) (shapes : List Measured) (row : List LinePlace) → AreShapes program shapes → ArePlaces base program row → row ≡ for_lines (λ i. record { section = section_of shapes i; address = address_of base shapes i; size = line_size_of shapes i }) (length shapes)
unplaced base program shapes row are made =
    made ∙ ap (for_lines (place_at base program)) (sym (length-for_lines (shape_at program) (length program)))
    ∙ ap (λ ms. for_lines (place_by base ms) (length ms)) (sym are)

pub placed : (base : ℕ) (program : Program) (shapes : List Measured) (row : List LinePlace) → AreShapes program shapes → row ≡ for_lines (λ i. record { section = section_of shapes i; address = address_of base shapes i; size = line_size_of shapes i }) (length shapes) → ArePlaces base program row
placed base program shapes row are made =
    made ∙ ap (λ ms. for_lines (place_by base ms) (length ms)) are
    ∙ ap (for_lines (place_at base program)) (length-for_lines (shape_at program) (length program))
