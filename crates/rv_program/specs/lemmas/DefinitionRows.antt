-- The row of definitions, line by line.
use Rattle.std.proofs.Common.{◌≡◌, ℕ, ◌+◌, ◌<◌, ◌≤◌, nat_le, ◌==◌, Bool, true, false, not, ◌||◌, List, [], ◌∷◌, length, get_or, set, bytes_eq, Option, Some, None, if◌then◌else◌, true≢false, arith, ap, sym, ◌∙◌, refl}
use Rattle.std.specs.List.{list_any}
use Rattle.std.proofs.Math.Path.{fun_ext}
use Rattle.std.proofs.lemmas.Bool.{and_parts, or_parts, leb-true}
use Rattle.std.proofs.lemmas.Bool.Decides.{nat_tests}
use Rattle.std.proofs.lemmas.Grind.{common_steps}
use Rattle.std.proofs.lemmas.Slice.Eq.{bytes_eq-Decides}
use Rattle.rv_text.specs.Lexing.{SpelledToken, lexed_line, spelled_tokens}
use Rattle.rv_text.specs.TokenLaws.{few_spelled_tokens}
use Rattle.rv_stmt.specs.declared.statement.Body.{Body}
use Rattle.rv_stmt.specs.declared.statement.Body.TheVariants.{Equ as EquBody}
use Rattle.rv_stmt.specs.declared.statement.Stmt.{Stmt}
use Rattle.rv_stmt.specs.LabelNames.{Label}
use Rattle.rv_stmt.specs.Labels.{label_at, with_label, labels_and_body}
use Rattle.rv_stmt.specs.Statement.{statement_of}
use Rattle.rv_list.specs.declared.view.DefinitionPlace.{DefinitionPlace}
use Rattle.rv_list.specs.declared.view.DefinitionPlace.TheVariants.{Nowhere, Label as ByLabel, Equ}
use Rattle.rv_program.specs.internal.Defining.{Definitions, only, of_label, then_also, is_up_to, or_here, also_on}
use Rattle.rv_program.specs.Definitions.{defines_symbol, place_among_labels, place_in_body, place_in_statement, or_place}
use Rattle.rv_program.specs.internal.Rows.{number_of, in_row}
use Rattle.rv_program.specs.Text.{is_line}
use Rattle.rv_program.specs.Uses.{is_equ}
use Rattle.rv_program.specs.lemmas.DefinitionLaws.{IsWithin}
use Rattle.rv_program.specs.lemmas.Lists.{no-items}
use Rattle.rv_program.specs.lemmas.NameRows.{row-set, row-at}

-- Definitions joined

pub or_place-nowhere : (place : DefinitionPlace) → or_place place Nowhere ≡ place
or_place-nowhere Nowhere = refl
or_place-nowhere _ = refl

pub or_place-assoc : (a b c : DefinitionPlace) → or_place (or_place a b) c ≡ or_place a (or_place b c)
or_place-assoc Nowhere b c = refl
or_place-assoc _ b c = refl

-- what a line defines, put to the definitions on the others

module _ (line : ℕ) (other here : DefinitionPlace) where
  pub here-kept : is_up_to line other ≡ true → or_here line other here ≡ other
  here-kept up = ap (λ b. if b then other else or_place here other) up

  pub here-first : is_up_to line other ≡ false → or_here line other here ≡ or_place here other
  here-first behind = ap (λ b. if b then other else or_place here other) behind

pub here-nothing : (line : ℕ) (other : DefinitionPlace) → or_here line other Nowhere ≡ other
here-nothing line other = at (is_up_to line other)
  where
    at : (b : Bool) → (if b then other else other) ≡ other
    at true = refl
    at false = refl

-- a definition on a line or before it comes first
here-up : (line : ℕ) (place other : DefinitionPlace) → is_up_to line place ≡ true → or_place place other ≡ place
here-up line Nowhere other up = absurd (true≢false (sym up))
here-up line (ByLabel l index) other up = refl
here-up line (Equ l) other up = refl

pub within-up : (l line : ℕ) → l < line + 1 → nat_le l line ≡ true
within-up l line below = grind (arith, nat_tests, common_steps)

-- a part of a line, and then another
here-joined : (line : ℕ) (other part later : DefinitionPlace) → IsWithin line (line + 1) part → or_here line (or_here line other part) later ≡ or_here line other (or_place part later)
here-joined line other part later within = at (is_up_to line other) refl part within
  where
    at : (b : Bool) → is_up_to line other ≡ b → (part : DefinitionPlace) → IsWithin line (line + 1) part → or_here line (or_here line other part) later ≡ or_here line other (or_place part later)
    at true up part within =
        ap (λ p. or_here line p later) (here-kept line other part up) ∙ here-kept line other later up ∙ sym (here-kept line other (or_place part later) up)
    at false behind Nowhere within = ap (λ p. or_here line p later) (here-first line other Nowhere behind)
    at false behind (ByLabel l index) within =
        ap (λ p. or_here line p later) (here-first line other (ByLabel l index) behind)
        ∙ here-kept line (ByLabel l index) later (within-up l line within.1)
        ∙ sym (here-first line other (ByLabel l index) behind)
    at false behind (Equ l) within =
        ap (λ p. or_here line p later) (here-first line other (Equ l) behind)
        ∙ here-kept line (Equ l) later (within-up l line within.1)
        ∙ sym (here-first line other (Equ l) behind)

pub also_on-nothing : (line : ℕ) (f : Definitions) → also_on line f (λ name. Nowhere) ≡ f
also_on-nothing line f = fun_ext (λ name. here-nothing line (f name))

pub also_on-joined : (line : ℕ) (f g h : Definitions) → ((name : List ℕ) → IsWithin line (line + 1) (g name)) → also_on line (also_on line f g) h ≡ also_on line f (then_also g h)
also_on-joined line f g h within =
    fun_ext (λ name. here-joined line (f name) (g name) (h name) (within name))

label-within : (line index : ℕ) (l : Label) (name : List ℕ) → IsWithin line (line + 1) (of_label line index l name)
label-within line index l name = at (defines_symbol l.name name)
  where
    at : (b : Bool) → IsWithin line (line + 1) (if b then ByLabel line index else Nowhere)
    at true = (omega arith, omega arith)
    at false = tt

-- the labels of a line after its first one
labels-step : (line index : ℕ) (l : Label) (ls : List Label) → then_also (of_label line index l) (place_among_labels line (index + 1) ls) ≡ place_among_labels line index (l ∷ ls)
labels-step line index l ls = fun_ext (λ name. at (defines_symbol l.name name) (place_among_labels line (index + 1) ls name))
  where
    at : (b : Bool) (later : DefinitionPlace) → or_place (if b then ByLabel line index else Nowhere) later ≡ (if b then ByLabel line index else later)
    at true later = refl
    at false later = refl

-- a statement with no labels, which is no `.equ`, defines nothing
pub nowhere : (line : ℕ) (b : Body) (name : List ℕ) → is_equ b ≡ false → place_in_body line b name ≡ Nowhere
nowhere line (EquBody d) name other = absurd (true≢false other)
nowhere line b name other = refl

pub nothing-defined : (line : ℕ) (s : Stmt) → (not (length s.labels == 0) || is_equ s.body) ≡ false → place_in_statement line s ≡ (λ name. Nowhere)
nothing-defined line s none =
    let parts = or_parts (not (length s.labels == 0)) (is_equ s.body) none in
    let labels = no-items s.labels parts.0 in
    fun_ext (λ name. ap (λ ls. or_place (place_among_labels line 0 ls name) (place_in_body line s.body name)) labels ∙ nowhere line s.body name parts.1)

-- what is left of labels after the first one
pub labels-next : (f g : Definitions) (line index : ℕ) (ls later : List Label) (l : Label) → ls ≡ l ∷ later → g ≡ also_on line f (of_label line index l) → also_on line g (place_among_labels line (index + 1) later) ≡ also_on line f (place_among_labels line index ls)
labels-next f g line index ls later l is next =
    ap (λ h. also_on line h (place_among_labels line (index + 1) later)) next
    ∙ also_on-joined line f (of_label line index l) (place_among_labels line (index + 1) later) (label-within line index l)
    ∙ ap (also_on line f) (labels-step line index l later ∙ ap (place_among_labels line index) (sym is))

pub no_labels_left : (f : Definitions) (line index : ℕ) (ls : List Label) → ls ≡ [] → also_on line f (place_among_labels line index ls) ≡ f
no_labels_left f line index ls none = ap (λ rest. also_on line f (place_among_labels line index rest)) none ∙ also_on-nothing line f

-- Rows

only-other : (symbol : List ℕ) (place : DefinitionPlace) (m : List ℕ) → (m ≡ symbol → ⊥) → only symbol place m ≡ Nowhere
only-other symbol place m differs = at (bytes_eq symbol m) refl
  where
    at : (b : Bool) → bytes_eq symbol m ≡ b → (if b then place else Nowhere) ≡ Nowhere
    at true e = absurd (differs (sym ((bytes_eq-Decides symbol m).0 e)))
    at false e = refl

only-itself : (symbol : List ℕ) (place : DefinitionPlace) → only symbol place symbol ≡ place
only-itself symbol place = ap (λ b. if b then place else Nowhere) ((bytes_eq-Decides symbol symbol).1 refl)

-- a definition on a line, before those that a row has
pub defined-here : (names : List (List ℕ)) (row : List DefinitionPlace) (symbol : List ℕ) (n line : ℕ) (place : DefinitionPlace) → number_of names symbol ≡ Some n → n < length row → is_up_to line place ≡ true → is_up_to line (get_or row n Nowhere) ≡ false → in_row names (set row n place) Nowhere ≡ also_on line (in_row names row Nowhere) (only symbol place)
defined-here names row symbol n line place number within up behind =
    let before = in_row names row Nowhere in
    row-set names row Nowhere symbol n place (also_on line before (only symbol place)) number within
    (sym
    (ap (or_here line (before symbol)) (only-itself symbol place)
    ∙ here-first line (before symbol) place (ap (is_up_to line) (row-at names row Nowhere symbol n number) ∙ behind)
    ∙ here-up line place (before symbol) up))
    (λ m differs. sym (ap (or_here line (before m)) (only-other symbol place m differs) ∙ here-nothing line (before m)))

-- A line has few labels

few_labels-among : (ps : List SpelledToken) → length (labels_and_body ps).labels ≤ length ps
few_labels-among [] = omega arith
few_labels-among (p ∷ []) = omega arith
few_labels-among (p ∷ q ∷ ps) = at (label_at (p ∷ q ∷ ps) 0) (few_labels-among ps)
  where
    at : (label : Option Label) → length (labels_and_body ps).labels ≤ length ps → length (with_label label (p ∷ q ∷ ps) (labels_and_body ps)).labels ≤ length (p ∷ q ∷ ps)
    at None few = omega arith
    at (Some l) few = omega (arith, few)

few_labels : (line : List ℕ) → length (statement_of line).labels ≤ length line
few_labels line =
    let among = few_labels-among (spelled_tokens (lexed_line line)) in
    let tokens = few_spelled_tokens line in omega (arith, among, tokens)

pub few_labels-line : (line : List ℕ) → is_line line ≡ true → length (statement_of line).labels ≤ 1000
few_labels-line line e =
    let bytes : length line ≤ 1000 = leb-true (length line) 1000 (and_parts (not (list_any (λ b. b == 10) line)) (nat_le (length line) 1000) e).1 in
    let labels = few_labels line in omega (arith, bytes, labels)
