-- Documents, each with the address at which the first section of its text begins.
use Rattle.std.specs.Prelude.{ℕ, List, Option, Some, None, Result, Ok, Err}
use Rattle.rv_program.specs.Text.{Text}
use Rattle.rv_changes.specs.Assembled.{assembled}

pub record PlacedDocument : Type 0 where
  pub base : ℕ
  pub document : List ℕ

-- a document at a base
abbrev pub placed : (base : ℕ) → (document : List ℕ) → PlacedDocument
placed base document = record { base = base; document = document }

-- a document with another text, or as it is where there is none
abbrev pub changed_by : (text : Option (List ℕ)) → PlacedDocument → Result PlacedDocument PlacedDocument
changed_by (Some text) d = Ok (placed d.base text)
changed_by None d = Err d

-- what it is as a text of the language
abbrev pub text_of : PlacedDocument → Text
text_of d = assembled d.base d.document
