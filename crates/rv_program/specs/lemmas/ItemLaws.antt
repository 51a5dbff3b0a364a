-- The lines with what is kept of them, one by one.
use Rattle.std.proofs.Common.{◌≡◌, ℕ, suc, ◌+◌, ◌-◌, ◌<◌, ◌≤◌, List, [], ◌∷◌, ◌++◌, length, map, get_or, take, arith, ap, sym, ◌∙◌, refl}
use Rattle.std.proofs.lemmas.List.{get_or-map, length-map, map-append, take_more, take_all}
use Rattle.rv_program.specs.declared.item.Item.{Item}
use Rattle.rv_program.specs.Codes.{values_at, code_at}
use Rattle.rv_program.specs.internal.Items.{IsItem, AreFirstItems, AreItems}
use Rattle.rv_program.specs.Layout.{shape_at}
use Rattle.rv_program.specs.Program.{program_of, for_lines}
use Rattle.rv_program.specs.lemmas.Programs.{at-for_lines}

-- a row by lines that a part of each item makes
one_more : {A : Type 0} (part : Item → A) (f : ℕ → A) (k : ℕ) (items : List Item) (item : Item) → map part items ≡ for_lines f k → part item ≡ f (k + 1) → map part (items ++ item ∷ []) ≡ for_lines f (k + 1)
one_more part f k items item are is =
    let next : k + 1 ≡ suc k = omega arith in
    map-append part items (item ∷ []) ∙ ap (λ xs. xs ++ part item ∷ []) are
    ∙ ap (λ x. for_lines f k ++ x ∷ []) (is ∙ ap f next) ∙ sym (ap (for_lines f) next)

-- no item
pub no_items : (base : ℕ) (text : List (List ℕ)) → AreFirstItems base text 0 []
no_items base text = record { lines = refl; shapes = refl; values = refl; codes = refl }

-- one item more
pub one_item_more : (base : ℕ) (text : List (List ℕ)) (k : ℕ) (items : List Item) (item : Item) → k < length text → AreFirstItems base text k items → IsItem base text (k + 1) item → AreFirstItems base text (k + 1) (items ++ item ∷ [])
one_item_more base text k items item within are is =
    let place : k + 1 - 1 ≡ k = omega arith in
    record {
      lines =
          map-append (λ i. i.line) items (item ∷ []) ∙ ap (λ xs. xs ++ item.line ∷ []) are.lines
          ∙ ap (λ x. take k text ++ x ∷ []) (is.line ∙ ap (λ j. get_or text j []) place) ∙ sym (take_more text k [] within);
      shapes = one_more (λ i. i.shape) (shape_at (program_of text)) k items item are.shapes is.shape;
      values = one_more (λ i. i.values) (values_at base (program_of text)) k items item are.values is.values;
      codes = one_more (λ i. i.code) (code_at base (program_of text)) k items item are.codes is.code;
    }

-- all items
pub all_items : (base : ℕ) (text : List (List ℕ)) (k : ℕ) (items : List Item) → k ≡ length text → AreFirstItems base text k items → AreItems base text items
all_items base text k items all are = record {
  lines = are.lines ∙ take_all k text (omega (arith, all));
  shapes = are.shapes ∙ ap (for_lines (shape_at (program_of text))) all;
  values = are.values ∙ ap (for_lines (values_at base (program_of text))) all;
  codes = are.codes ∙ ap (for_lines (code_at base (program_of text))) all;
}

-- the part of the item of a line
part_of_line : {A : Type 0} (part : Item → A) (f : ℕ → A) (items : List Item) (i : ℕ) (other : Item) → map part items ≡ for_lines f (length items) → 1 ≤ i → i ≤ length items → part (get_or items (i - 1) other) ≡ f i
part_of_line part f items i other are first last =
    let within : i - 1 < length items = omega (arith, first, last) in
    let next : suc (i - 1) ≡ i = omega (arith, first) in
    sym (get_or-map part items (i - 1) other (part other) within) ∙ ap (λ xs. get_or xs (i - 1) (part other)) are
    ∙ at-for_lines f (length items) (i - 1) (part other) within ∙ ap f next

-- the item of a line
pub item_of_line : (base : ℕ) (text : List (List ℕ)) (items : List Item) (i : ℕ) (other : Item) → AreItems base text items → 1 ≤ i → i ≤ length text → IsItem base text i (get_or items (i - 1) other)
item_of_line base text items i other are first last =
    let count : length text ≡ length items = sym (ap length are.lines) ∙ length-map items (λ item. item.line) in
    let there : i ≤ length items = omega (arith, last, count) in
    let within : i - 1 < length items = omega (arith, first, there) in
    record {
      line = sym (get_or-map (λ item. item.line) items (i - 1) other [] within) ∙ ap (λ ls. get_or ls (i - 1) []) are.lines;
      shape = part_of_line (λ item. item.shape) (shape_at (program_of text)) items i other (are.shapes ∙ ap (for_lines (shape_at (program_of text))) count) first there;
      values = part_of_line (λ item. item.values) (values_at base (program_of text)) items i other (are.values ∙ ap (for_lines (values_at base (program_of text))) count) first there;
      code = part_of_line (λ item. item.code) (code_at base (program_of text)) items i other (are.codes ∙ ap (for_lines (code_at base (program_of text))) count) first there;
    }
