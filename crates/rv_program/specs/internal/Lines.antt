-- The lines of a text, where they stand.
use Rattle.std.specs.Prelude.{ℕ, List, map}
use Rattle.rv_program.specs.declared.item.Item.{Item}
use Rattle.rv_program.specs.declared.lines.Standing.{Standing}
use Rattle.rv_program.specs.declared.lines.Standing.TheVariants.{Column, Items}

-- the lines of items
abbrev pub lines_of : List Item → List (List ℕ)
lines_of items = map (λ item. item.line) items

-- the lines of a column, or of the items of a tree
abbrev pub lines_in : Standing → List (List ℕ)
lines_in (Column lines) = lines.now
lines_in (Items items) = lines_of items.now.items
