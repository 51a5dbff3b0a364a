-- The pages that show a text.
use Rattle.std.specs.Prelude.{ℕ, List, [], ◌∷◌, ◌++◌, length, codes, decimal}
use Rattle.std.specs.List.{flat_map}
use Rattle.rv_list.specs.Faults.{fault_text}
use Rattle.rv_list.specs.Image.{image_text}
use Rattle.rv_list.specs.Listing.{listing_text}
use Rattle.rv_list.specs.Symbols.{symbol_text}
use Rattle.rv_store.specs.Shown.{shown_of}
use Rattle.rv_program.specs.Text.{Text}
use Rattle.rv_commands.specs.declared.pages.Page.{Page}
use Rattle.rv_commands.specs.declared.pages.Page.TheVariants.{Image, Listing, Symbols, Faults, Lines}

-- a word, a number and a line break
unfoldable pub numbered : List ℕ → ℕ → List ℕ
numbered word n = word ++ decimal n ++ codes "\n"

-- some bytes with a line break
abbrev pub ended : List ℕ → List ℕ
ended bytes = bytes ++ 10 ∷ []

-- how many lines there are, and then the lines
unfoldable pub text_of : Text → List ℕ
text_of text = numbered (codes "text ") (length text.lines) ++ flat_map ended text.lines

-- what a page shows of a text
abbrev pub page_text : Page → Text → List ℕ
page_text Image text = image_text (shown_of text)
page_text Listing text = listing_text (shown_of text)
page_text Symbols text = symbol_text (shown_of text)
page_text Faults text = fault_text (shown_of text)
page_text Lines text = text_of text
