-- What a list of edits makes of a text, and what is shown of it.
use Rattle.std.specs.Prelude.{◌≡◌, ℕ, List, [], ◌∷◌, ◌++◌, Option, Result}
use Rattle.rv_text.specs.Streams.{Writes}
use Rattle.rv_program.specs.declared.edit_error.EditError.{EditError}
use Rattle.rv_program.specs.Text.{Text, Edit, Edits}
use Rattle.rv_commands.specs.declared.pages.Page.TheVariants.{Image, Listing, Symbols, Faults}
use Rattle.rv_commands.specs.Pages.{page_text}
use Rattle.rv_commands.specs.Transcript.{empty_text}

-- The results of some edits, one after another, and the text after the last of them. `Edits` has it that a refused edit
-- changes nothing.
abbrev pub AreEdits : Text → List Edit → List (Result (Unit {0}) EditError) → Text → Type 0
AreEdits old [] [] new = new ≡ old
AreEdits old (edit ∷ edits) (result ∷ results) new =
    (between : Text) × Edits old edit result between × AreEdits between edits results new
AreEdits old [] (result ∷ results) new = ⊥
AreEdits old (edit ∷ edits) [] new = ⊥

-- the image, the symbols, the listing and the faults of a text, one after another
abbrev pub shown_texts : Text → List ℕ
shown_texts text = page_text Image text ++ (page_text Symbols text ++ (page_text Listing text ++ page_text Faults text))

-- The edits were made from the empty text on, with these results, and the image, the symbols, the listing and the faults
-- of the text that they give were written.
pub record ShowsEdited {A E : Type 0} (base : ℕ) (edits : List Edit) (results : List (Result (Unit {0}) EditError)) (taken_before : Option (List ℕ)) (result : Result A E) (taken_after : Option (List ℕ)) : Type 0 where
  pub text : Text
  pub edited : AreEdits (empty_text base) edits results text
  pub written : Writes taken_before (shown_texts text) result taken_after
