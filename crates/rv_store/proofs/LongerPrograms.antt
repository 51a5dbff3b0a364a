-- A text with one statement more at its end: what the lines before it define, and their shapes.
use Rattle.std.proofs.Common.{◌≡◌, ℕ, zero, suc, ◌+◌, ◌-◌, ◌≤◌, List, [], ◌∷◌, ◌++◌, length, get_or, arith, ap, ◌∙◌, refl}
use Rattle.std.proofs.lemmas.List.{length-append, get_or_append_left}
use Rattle.std.proofs.Math.Seq.{get_or-append_seam}
use Rattle.std.proofs.Math.Path.{fun_ext}
use Rattle.rv_stmt.specs.declared.statement.Stmt.{Stmt}
use Rattle.rv_layout.specs.Shapes.{shape_of}
use Rattle.rv_store.specs.internal.Appended.{shape_at_end}
use Rattle.rv_program.specs.Constants.{constant_through}
use Rattle.rv_program.specs.internal.Defining.{then_also}
use Rattle.rv_program.specs.Definitions.{or_place, place_in_statement, definition_of, is_equ_on}
use Rattle.rv_program.specs.Layout.{shape_at, shapes_of}
use Rattle.rv_program.specs.Program.{Program, no_statement, statement_at, body_at, for_lines}
use Rattle.rv_program.specs.lemmas.DefinitionRows.{or_place-nowhere}
use Rattle.rv_program.specs.lemmas.EarlierConstants as earlier
use Rattle.rv_program.specs.lemmas.MovedDefinitionLaws.{first-append}

pub for_lines-same : {A : Type 0} (f g : ℕ → A) (n : ℕ) → ((i : ℕ) → 1 ≤ i → i ≤ n → f i ≡ g i) → for_lines f n ≡ for_lines g n
for_lines-same f g zero same = refl
for_lines-same f g (suc n) same =
    let earlier = for_lines-same f g n (λ i first last. same i first (omega (arith, last))) in
    let here = same (suc n) (omega arith) (omega arith) in
    λ j. earlier j ++ here j ∷ []

module _ (p : Program) (s : Stmt) where
  abbrev pub more : Program
  more = p ++ s ∷ []

  pub count-more : length more ≡ suc (length p)
  count-more = length-append p (s ∷ []) ∙ (let e : length p + 1 ≡ suc (length p) = omega arith in e)

  pub statement-earlier : (i : ℕ) → 1 ≤ i → i ≤ length p → statement_at more i ≡ statement_at p i
  statement-earlier i first last = get_or_append_left p (s ∷ []) no_statement (i - 1) (omega (arith, first, last))

  pub statement-last : statement_at more (suc (length p)) ≡ s
  statement-last =
      let back : suc (length p) - 1 ≡ length p = omega arith in
      ap (λ i. get_or more i no_statement) back ∙ get_or-append_seam p s [] no_statement

  pub body-earlier : (i : ℕ) → 1 ≤ i → i ≤ length p → body_at more i ≡ body_at p i
  body-earlier i first last = ap (λ t. t.body) (statement-earlier i first last)

  pub body-last : body_at more (suc (length p)) ≡ s.body
  body-last = ap (λ t. t.body) statement-last

  -- Definitions

  -- the text defines what it defined, and then what the last line defines
  pub definitions-more : definition_of more ≡ then_also (definition_of p) (place_in_statement (suc (length p)) s)
  definitions-more =
      let last : 1 + length p ≡ suc (length p) = omega arith in
      fun_ext (λ name.
      first-append 1 p (s ∷ []) name
      ∙ ap (or_place (definition_of p name)) (or_place-nowhere (place_in_statement (1 + length p) s name) ∙ ap (λ n. place_in_statement n s name) last))

  -- the earlier lines define the same constants
  pub equ-earlier : (m : ℕ) (name : List ℕ) → m ≤ length p → is_equ_on m (definition_of more name) ≡ is_equ_on m (definition_of p name)
  equ-earlier m name within = earlier.equ-earlier p (s ∷ []) m name within

  pub constants-same : (m : ℕ) → m ≤ length p → constant_through more m ≡ constant_through p m
  constants-same m within = earlier.constants-earlier p (s ∷ []) m within

  -- Shapes

  pub shape-same : (i : ℕ) → 1 ≤ i → i ≤ length p → shape_at more i ≡ shape_at p i
  shape-same i first last =
      let given = constants-same (i - 1) (omega (arith, last)) in
      let here = body-earlier i first last in
      λ j. shape_of (given j) (here j)

  pub shape-last : shape_at more (suc (length p)) ≡ shape_at_end p s
  shape-last =
      let back : suc (length p) - 1 ≡ length p = omega arith in
      let given = ap (constant_through more) back ∙ constants-same (length p) (omega arith) in
      λ j. shape_of (given j) (body-last j)

  pub shapes-more : shapes_of more ≡ shapes_of p ++ shape_at_end p s ∷ []
  shapes-more =
      let earlier = for_lines-same (shape_at more) (shape_at p) (length p) shape-same in
      ap (for_lines (shape_at more)) count-more ∙ (λ j. earlier j ++ shape-last j ∷ [])
