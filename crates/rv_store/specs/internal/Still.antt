-- Lines that are put in the place of a line, or behind the last one: all other lines stay as they are, but for those that use a name
-- that such a line touches, or may find a local label on it.
use Rattle.std.specs.Prelude.{◌≡◌, ℕ, ◌-◌, ◌<◌, ◌≤◌, ◌==◌, Bool, true, false, ◌&&◌, ◌||◌, nat_le, List, length, Some, None}
use Rattle.std.specs.List.{list_any}
use Rattle.std.specs.Option.{is_some}
use Rattle.rv_expr.specs.declared.tree.Direction.TheVariants.{Forward}
use Rattle.rv_stmt.specs.declared.statement.Body.{Body}
use Rattle.rv_program.specs.Changes.{differs_in_name}
use Rattle.rv_program.specs.Constants.{constant_through}
use Rattle.rv_program.specs.Definitions.{definition_of, is_equ_on}
use Rattle.rv_program.specs.Edits.{line_before_edit}
use Rattle.rv_program.specs.Layout.{place_at}
use Rattle.rv_program.specs.Pairs.{pcrel_high_of}
use Rattle.rv_program.specs.Program.{Program, statement_at, body_at}
use Rattle.rv_program.specs.References.{has_local, local_line}
use Rattle.rv_program.specs.Text.{Edit, lines_after}
use Rattle.rv_program.specs.Uses.{names_used, uses_local_label, is_equ}
use Rattle.rv_program.specs.internal.Still.{set_or_push}

-- other lines take what the line gives: it is an `.equ`, or a high half
abbrev pub is_settled : Body → Bool
is_settled b = is_equ b || is_some (pcrel_high_of b)

-- what a line touches: names, and local labels as the lines from this one on name them
pub record Touched : Type 0 where
  pub names : List ℕ → Bool
  pub from : ℕ

-- line i of a text uses a name that is touched, or local labels where they are
abbrev pub uses_any : Touched → Program → (i : ℕ) → Bool
uses_any touched p i = list_any touched.names (names_used (body_at p i)) || (nat_le touched.from i && uses_local_label (body_at p i))

-- line i is line k, or uses one of these
abbrev pub is_put_or_uses : Touched → Program → (k i : ℕ) → Bool
is_put_or_uses touched p k i = i == k || uses_any touched p i

-- line i of a text is another one than line k
pub record IsOther (p : Program) (k i : ℕ) : Type 0 where
  pub first : 1 ≤ i
  pub last : i ≤ length p
  pub differs : i ≡ k → ⊥

-- Line k of the text q is new, and only the names that are touched may be defined otherwise than in the text p: they give something
-- else. Where it is behind the text, each line before those that it touches finds each of its local labels before it. No other line that
-- uses what is touched is settled, and none has to do with line k by an `.equ` or its place.
pub record IsStill (base : ℕ) (p q : Program) (k : ℕ) (touched : Touched) : Type 0 where
  pub first : 1 ≤ k
  pub last : k ≤ length q
  pub longer : length p ≤ length q
  pub behind : (i : ℕ) → length p < i → i ≤ length q → i ≡ k
  pub statements : (i : ℕ) → IsOther p k i → statement_at q i ≡ statement_at p i
  pub unused : (i : ℕ) → IsOther p k i → is_settled (body_at p i) ≡ true → uses_any touched p i ≡ false
  pub definitions : (name : List ℕ) → touched.names name ≡ false → definition_of q name ≡ definition_of p name
  pub differ : (i j : ℕ) (name : List ℕ) → touched.names name ≡ true → differs_in_name base p q i j name ≡ true
  pub equs : (m : ℕ) (name : List ℕ) → m ≤ length p → is_equ_on m (definition_of q name) ≡ is_equ_on m (definition_of p name)
  pub no_equ : k ≤ length p → (name : List ℕ) → is_equ_on k (definition_of p name) ≡ false
  pub constants : (m : ℕ) → m ≤ length p → constant_through q m ≡ constant_through p m
  pub locals : (number i : ℕ) → 1 ≤ i → i ≤ length p → has_local q number i ≡ has_local p number i
  pub near : (number i : ℕ) → length p < k → has_local q number k ≡ true → i ≤ length p → i < touched.from → is_some (local_line p i number Forward) ≡ true
  pub places : (i : ℕ) → 1 ≤ i → i ≤ length p → place_at base q i ≡ place_at base p i

-- an edit puts a line in the place of line k, or behind the last one, and moves no other line
pub record IsPutEdit (lines : List (List ℕ)) (edit : Edit) (k : ℕ) (line : List ℕ) : Type 0 where
  pub edited : lines_after lines edit ≡ set_or_push lines (k - 1) line
  pub new : line_before_edit edit k ≡ None
  pub others : (i : ℕ) → i ≤ length lines → (i ≡ k → ⊥) → line_before_edit edit i ≡ Some i
