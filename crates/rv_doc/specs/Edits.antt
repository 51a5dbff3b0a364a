-- What the changes of a message make of a text, and of its lines.
-- (LSP 3.17, DidChangeTextDocument Notification)
use Rattle.std.specs.Prelude.{ℕ, ◌+◌, List, [], ◌∷◌, ◌++◌, take, drop, max, Option, Some, None}
use Rattle.rv_doc.specs.declared.encoding.Encoding.{Encoding}
use Rattle.rv_doc.specs.declared.position.Range.{Range}
use Rattle.rv_doc.specs.Positions.{offset}

-- a change: another text in the place of a range, or of the whole document where none is named
pub record Change : Type 0 where
  pub range : Option Range
  pub text : List ℕ

-- a text with other bytes between two of its places
abbrev pub replaced : (old : List ℕ) → (from to : ℕ) → (text : List ℕ) → List ℕ
replaced old from to text = take from old ++ (text ++ drop to old)

-- the text after a change of a range, both ends of which are positions before the change; a range that ends before it begins is empty
abbrev pub text_after_range : Encoding → (old : List ℕ) → Range → (text : List ℕ) → List ℕ
text_after_range encoding old range text =
    replaced old (offset encoding old range.start) (max (offset encoding old range.start) (offset encoding old range.end)) text

-- the text after a change
abbrev pub text_after_by : Encoding → (old : List ℕ) → Option Range → (text : List ℕ) → List ℕ
text_after_by encoding old None text = text
text_after_by encoding old (Some range) text = text_after_range encoding old range text

abbrev pub text_after : Encoding → (old : List ℕ) → Change → List ℕ
text_after encoding old change = text_after_by encoding old change.range change.text

-- the text after the changes of a message, each made in what the one before it left
abbrev pub text_after_all : Encoding → (old : List ℕ) → List Change → List ℕ
text_after_all encoding old [] = old
text_after_all encoding old (change ∷ changes) = text_after_all encoding (text_after encoding old change) changes

-- a list with others in the place of some of its items
abbrev pub spliced : {A : Type 0} → (old : List A) → (first count : ℕ) → (new : List A) → List A
spliced old first count new = take first old ++ (new ++ drop (first + count) old)
