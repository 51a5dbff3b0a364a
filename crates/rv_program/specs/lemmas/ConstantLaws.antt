-- The constant of a name on a line, by the row of all constants.
use Rattle.std.proofs.Common.{◌≡◌, ℕ, zero, suc, ◌+◌, ◌-◌, ◌<◌, ◌≤◌, ℤ, false, List, length, Option, None, if◌then◌else◌, arith, ap, sym, refl, subst, ◌∙◌, ◌⊎◌, inl, inr}
use Rattle.std.proofs.lemmas.Bool.{cases_lt, ne_eqb, lt-ltb, le-ltb}
use Rattle.std.proofs.Math.Path.{fun_ext}
use Rattle.rv_list.specs.declared.view.DefinitionPlace.{DefinitionPlace}
use Rattle.rv_list.specs.declared.view.DefinitionPlace.TheVariants.{Nowhere, Label as ByLabel, Equ}
use Rattle.rv_program.specs.Constants.{constant_through, constant_of}
use Rattle.rv_program.specs.Definitions.{definition_of, is_equ_on}
use Rattle.rv_program.specs.Program.{Program}
use Rattle.rv_program.specs.internal.LineConstants.{constant_behind, constant_on}
use Rattle.rv_program.specs.internal.Rows.{in_row, AreDefinitions, AreConstants}
use Rattle.rv_program.specs.lemmas.ConstantRows.{constant-kept}
use Rattle.rv_program.specs.lemmas.DefinitionLaws.{IsWithin, definition-within}
use Rattle.rv_program.specs.lemmas.Programs.{kept-up}

-- a name that no line up to the k-th defines by an `.equ` is no constant there
pub constant-none : (program : Program) (name : List ℕ) (k : ℕ) → ((i : ℕ) → i < k → is_equ_on (suc i) (definition_of program name) ≡ false) → constant_through program k name ≡ None
constant-none program name zero others = refl
constant-none program name (suc k) others =
    constant-kept program k name (others k (omega arith)) ∙ constant-none program name k (λ i l. others i (omega (arith, l)))

-- what only the line of its `.equ` gives a name stays the same from that line on
pub equ-stays : {A : Type 0} (f : ℕ → List ℕ → A) (program : Program) → ((i : ℕ) (name : List ℕ) → is_equ_on (suc i) (definition_of program name) ≡ false → f (suc i) name ≡ f i name) → (name : List ℕ) (line j k : ℕ) → definition_of program name ≡ Equ line → line ≤ j → j ≤ k → f k name ≡ f j name
equ-stays f program kept name line j k h l m = kept-up (λ n. f n name ≡ f j name) j k m
    (λ n above last before. kept n name (ap (is_equ_on (suc n)) h ∙ ne_eqb line (suc n) (λ e. omega (arith, e, l, above))) ∙ before) refl

constant-stays : (program : Program) (name : List ℕ) (line j k : ℕ) → definition_of program name ≡ Equ line → line ≤ j → j ≤ k → constant_through program k name ≡ constant_through program j name
constant-stays program = equ-stays (constant_through program) program (constant-kept program)

-- a name that is defined by a label, or nowhere, is no constant
pub constant-of_other : (program : Program) (line : ℕ) (name : List ℕ) (place : DefinitionPlace) → place ≡ definition_of program name → (place ≡ Nowhere) ⊎ ((defining : ℕ) × (index : ℕ) × (place ≡ ByLabel defining index)) → constant_of program line name ≡ None
constant-of_other program line name place is (inl h) =
    constant-none program name (line - 1) (λ i l. ap (is_equ_on (suc i)) (sym is ∙ h))
constant-of_other program line name place is (inr (defining, index, h)) =
    constant-none program name (line - 1) (λ i l. ap (is_equ_on (suc i)) (sym is ∙ h))

-- one that is defined by an `.equ` is none up to the line of it
pub constant-of_later : (program : Program) (line : ℕ) (name : List ℕ) (defining : ℕ) → definition_of program name ≡ Equ defining → line ≤ defining → constant_of program line name ≡ None
constant-of_later program line name defining h later =
    constant-none program name (line - 1) (λ i l. ap (is_equ_on (suc i)) h ∙ ne_eqb defining (suc i) (λ e. omega (arith, l, e, later)))

-- and after it what the row holds
pub constant-of_earlier : (program : Program) (names : List (List ℕ)) (row : List (Option ℤ)) (line : ℕ) (name : List ℕ) (defining : ℕ) → AreConstants program (length program) names row → definition_of program name ≡ Equ defining → defining < line → in_row names row None name ≡ constant_of program line name
constant-of_earlier program names row line name defining are h l =
    let within : IsWithin 1 (1 + length program) (Equ defining) = subst (IsWithin 1 (1 + length program)) h (definition-within program name) in
    ap (λ f. f name) are.each
    ∙ constant-stays program name defining defining (length program) h (omega arith) (omega (arith, within.1))
    ∙ sym (constant-stays program name defining defining (line - 1) h (omega arith) (omega (arith, l)))

-- the constants on a line by both rows
pub constants-on_line : (program : Program) (names : List (List ℕ)) (definitions : List DefinitionPlace) (row : List (Option ℤ)) (line : ℕ) → AreDefinitions program names definitions → AreConstants program (length program) names row → constant_on names definitions row line ≡ constant_of program line
constants-on_line program names definitions row line defined are = fun_ext (λ name. at name (in_row names definitions Nowhere name) refl)
  where
    at : (name : List ℕ) (place : DefinitionPlace) → in_row names definitions Nowhere name ≡ place → constant_behind (in_row names definitions Nowhere name) (in_row names row None name) line ≡ constant_of program line name
    at name Nowhere h =
        ap (λ p. constant_behind p (in_row names row None name) line) h
        ∙ sym (constant-of_other program line name Nowhere (sym h ∙ ap (λ f. f name) defined.each) (inl refl))
    at name (ByLabel defining index) h =
        ap (λ p. constant_behind p (in_row names row None name) line) h
        ∙ sym (constant-of_other program line name (ByLabel defining index) (sym h ∙ ap (λ f. f name) defined.each) (inr (defining, index, refl)))
    at name (Equ defining) h = by_line (cases_lt defining line)
      where
        is : definition_of program name ≡ Equ defining
        is = sym (ap (λ f. f name) defined.each) ∙ h

        by_line : (defining < line) ⊎ (line ≤ defining) → constant_behind (in_row names definitions Nowhere name) (in_row names row None name) line ≡ constant_of program line name
        by_line (inl below) =
            ap (λ p. constant_behind p (in_row names row None name) line) h
            ∙ ap (λ b. if b then in_row names row None name else None) (lt-ltb defining line below)
            ∙ constant-of_earlier program names row line name defining are is below
        by_line (inr above) =
            ap (λ p. constant_behind p (in_row names row None name) line) h
            ∙ ap (λ b. if b then in_row names row None name else None) (le-ltb defining line above)
            ∙ sym (constant-of_later program line name defining is above)
