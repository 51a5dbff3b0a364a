-- The lines of a text have the sizes of their places, and hold bytes.
use Rattle.std.proofs.Common.{◌≡◌, ℕ, zero, suc, ◌-◌, ◌≤◌, ◌<◌, List, [], ◌∷◌, length, take, get_or, refl, ap, sym, ◌∙◌, ◌⊎◌, inl, inr, arith}
use Rattle.std.specs.Prelude.{⊤, All}
use Rattle.std.proofs.lemmas.Bool.{cases_lt}
use Rattle.std.proofs.lemmas.List.{take-append-le, take_all}
use Rattle.rv_text.specs.declared.lexeme.Span.{Span}
use Rattle.rv_text.specs.Lexing.{text_at}
use Rattle.rv_stmt.specs.declared.statement.Body.{Body}
use Rattle.rv_layout.specs.declared.measured.Measured.{Measured}
use Rattle.rv_layout.specs.declared.measured.Measured.TheVariants.{Nothing}
use Rattle.rv_layout.specs.Places.{size_at as size_of_shape, offset_of}
use Rattle.rv_program.specs.declared.line_values.LineValues.{LineValues}
use Rattle.rv_program.specs.declared.line_values.LineValues.TheVariants as values
use Rattle.rv_program.specs.Codes.{values_at, code_by_values, code_at}
use Rattle.rv_program.specs.Layout.{shape_at, shapes_of, size_at}
use Rattle.rv_program.specs.Program.{Program, program_of, no_statement, body_at, for_lines}
use Rattle.rv_program.specs.lemmas.Programs.{length-for_lines as length_lines, at-for_lines as answer_at}
use Rattle.rv_files.specs.Segments.{AreBytes}
use Rattle.rv_files.proofs.PayloadBytes.{code_bytes, padding_bytes}
use Rattle.rv_files.proofs.PayloadSizes.{SizeLaws, body_sized}
use Rattle.rv_files.proofs.RegularBodies.{IsRegular, IsSpelled, body_regular}
use Rattle.rv_files.proofs.StringBytes.{bytes_spelled, bytes_at}

-- What lines answer

pub first_answers : {A : Type 0} (f : ℕ → A) (n k : ℕ) → k ≤ n → take k (for_lines f n) ≡ for_lines f k
first_answers f zero k within = let none : k ≡ 0 = omega (arith, within) in rw none refl
first_answers f (suc n) k within = at (cases_lt n k) (first_answers f n k)
  where
    at : (n < k) ⊎ (k ≤ n) → (k ≤ n → take k (for_lines f n) ≡ for_lines f k) → take k (for_lines f (suc n)) ≡ for_lines f k
    at (inl more) earlier =
        let all : k ≡ suc n = omega (arith, more, within) in
        take_all k (for_lines f (suc n)) (omega (arith, all, length_lines f (suc n))) ∙ ap (for_lines f) (sym all)
    at (inr less) earlier = take-append-le k (for_lines f n) (f (suc n) ∷ []) (omega (arith, less, length_lines f n)) ∙ earlier less

-- Bodies

regular_at : (B : List ℕ → Type 0) → IsSpelled B → (lines : List (List ℕ)) (k : ℕ) → ((j : ℕ) → j < length lines → (span : Span) → B (text_at (get_or lines j []) span)) → IsRegular B (get_or (program_of lines) k no_statement).body
regular_at B spells [] k h = tt
regular_at B spells (line ∷ lines) zero h = body_regular B spells line (h 0 (omega arith))
regular_at B spells (line ∷ lines) (suc k) h = regular_at B spells lines k (λ j within. h (suc j) (omega (arith, within)))

any_spelled : IsSpelled (λ bs. ⊤)
any_spelled = record { none = tt; end = tt; both = λ xs ys h k. tt; content = λ text h. tt }

-- Lines

pub size_by_shape : (program : Program) (i : ℕ) → 1 ≤ i → i ≤ length program → size_at program i ≡ size_of_shape (offset_of (shapes_of program) i) (shape_at program i)
size_by_shape program i first last =
    let next : suc (i - 1) ≡ i = omega (arith, first) in
    ap (size_of_shape (offset_of (shapes_of program) i))
    (answer_at (shape_at program) (length program) (i - 1) Nothing (omega (arith, first, last)) ∙ ap (shape_at program) next)

pub line_sized : SizeLaws → (base : ℕ) (lines : List (List ℕ)) (i : ℕ) → 1 ≤ i → i ≤ length (program_of lines) → length (code_at base (program_of lines) i).payload ≡ size_at (program_of lines) i
line_sized laws base lines i first last =
    let program = program_of lines in
    let size = size_by_shape program i first last in
    body_sized laws base program i last (offset_of (shapes_of program) i) (body_at program i) (regular_at (λ bs. ⊤) any_spelled lines (i - 1) (λ j within span. tt)) size
    ∙ sym size

values_bytes : (shape : Measured) (b : Body) (v : LineValues) → IsRegular AreBytes b → AreBytes (code_by_values shape b v).payload
values_bytes shape b values.Nothing h = code_bytes shape b [] h
values_bytes shape b (values.Operands es) h = code_bytes shape b es h
values_bytes shape b (values.Symbol e) h = code_bytes shape b (e ∷ []) h
values_bytes shape b (values.Padding in_code count) h = padding_bytes in_code count

pub line_bytes : (base : ℕ) (lines : List (List ℕ)) (i : ℕ) → All AreBytes lines → AreBytes (code_at base (program_of lines) i).payload
line_bytes base lines i bytes =
    let program = program_of lines in
    values_bytes (shape_at program i) (body_at program i) (values_at base program i)
    (regular_at AreBytes bytes_spelled lines (i - 1) (λ j within span. bytes_at (get_or lines j []) span (bytes j [] within)))
