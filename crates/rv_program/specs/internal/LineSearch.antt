-- Lines that have nothing of what is looked for.
use Rattle.std.specs.Prelude.{◌≡◌, ℕ, ◌≤◌, ◌<◌, true, false, List, [], ◌++◌, get_or, Option, Some, None}
use Rattle.rv_stmt.specs.Statement.{statement_of}
use Rattle.rv_program.specs.declared.brief.Brief.{Brief}
use Rattle.rv_program.specs.declared.item.Item.{Item}
use Rattle.rv_program.specs.declared.mask.Kind.{Kind}
use Rattle.rv_program.specs.declared.mask.Mask.{Mask}
use Rattle.rv_program.specs.internal.Briefs.{brief_of, is_brief_of}
use Rattle.rv_program.specs.internal.DefinedNames.{may_define}
use Rattle.rv_program.specs.internal.Lines.{lines_of}
use Rattle.rv_program.specs.internal.Masks.{has_name, has_kind}
use Rattle.rv_program.specs.internal.NameSets.{may_have}

-- a line uses and defines none of the names of a mask, and is of none of its kinds
pub record Lacks (wanted : Mask) (b : Brief) : Type 0 where
  pub unused : (bucket : ℕ) → has_name wanted bucket ≡ true → may_have b.names bucket ≡ false
  pub undefined : (bucket : ℕ) → has_name wanted bucket ≡ true → may_define b.defined bucket ≡ false
  pub kinds : (kind : Kind) → has_kind wanted kind ≡ true → is_brief_of kind b ≡ false

abbrev pub LineLacks : (wanted : Mask) → (line : List ℕ) → Type 0
LineLacks wanted line = Lacks wanted (brief_of (statement_of line))

-- so do the lines after the first i, up to the first j
abbrev pub AreUnwanted : (wanted : Mask) → (lines : List (List ℕ)) → (i j : ℕ) → Type 0
AreUnwanted wanted lines i j = (k : ℕ) → i ≤ k → k < j → LineLacks wanted (get_or lines k [])

-- the lines are the first ones of these, or all of them
pub record AreFirst (lines all : List (List ℕ)) : Type 0 where
  pub others : List (List ℕ)
  pub whole : all ≡ lines ++ others

-- so they are of those of the items, if there are any
abbrev pub AreOf : Option (List Item) → (lines : List (List ℕ)) → Type 0
AreOf None lines = Unit {0}
AreOf (Some items) lines = AreFirst lines (lines_of items)
