-- The lines of a text with what is kept of them. The text is the list of its lines.
use Rattle.std.specs.Prelude.{◌≡◌, ℕ, ◌-◌, List, [], length, map, get_or, take}
use Rattle.rv_program.specs.declared.item.Item.{Item}
use Rattle.rv_program.specs.Codes.{values_at, code_at}
use Rattle.rv_program.specs.Layout.{shape_at}
use Rattle.rv_program.specs.Program.{program_of, for_lines}

-- line i with its shape, its values and its code
pub record IsItem (base : ℕ) (text : List (List ℕ)) (i : ℕ) (item : Item) : Type 0 where
  pub line : item.line ≡ get_or text (i - 1) []
  pub shape : item.shape ≡ shape_at (program_of text) i
  pub values : item.values ≡ values_at base (program_of text) i
  pub code : item.code ≡ code_at base (program_of text) i

-- the first k lines
pub record AreFirstItems (base : ℕ) (text : List (List ℕ)) (k : ℕ) (items : List Item) : Type 0 where
  pub lines : map (λ item. item.line) items ≡ take k text
  pub shapes : map (λ item. item.shape) items ≡ for_lines (shape_at (program_of text)) k
  pub values : map (λ item. item.values) items ≡ for_lines (values_at base (program_of text)) k
  pub codes : map (λ item. item.code) items ≡ for_lines (code_at base (program_of text)) k

-- all lines
pub record AreItems (base : ℕ) (text : List (List ℕ)) (items : List Item) : Type 0 where
  pub lines : map (λ item. item.line) items ≡ text
  pub shapes : map (λ item. item.shape) items ≡ for_lines (shape_at (program_of text)) (length text)
  pub values : map (λ item. item.values) items ≡ for_lines (values_at base (program_of text)) (length text)
  pub codes : map (λ item. item.code) items ≡ for_lines (code_at base (program_of text)) (length text)
