-- What a request about a name is answered. (Language Server Protocol 3.17, Language Features)
use Rattle.std.specs.Prelude.{ℕ, true, List, [], ◌∷◌, ◌++◌}
use Rattle.json.specs.Token.{Token, begin_array, end_array}
use Rattle.rv_doc.specs.declared.encoding.Encoding.{Encoding}
use Rattle.rv_list.specs.Shown.{Shown}
use Rattle.rv_language.specs.NamesAt.{Seen}
use Rattle.rv_language.specs.References.{Alone, WithDocument, definition, references}
use Rattle.rv_language.specs.Renames.{edits, prepared, workspace_edit}
use Rattle.rvls.specs.declared.looking_up.NameWish.{NameWish}
use Rattle.rvls.specs.declared.looking_up.NameWish.TheVariants as wish

abbrev pub in_list : List Token → List Token
in_list tokens = begin_array ∷ (tokens ++ end_array ∷ [])

-- the answer about a name of a line, by its number from 1 on
abbrev pub about_name : Encoding → (uri : List ℕ) → Shown → (number : ℕ) → (text : List ℕ) → Seen → NameWish → List Token
about_name encoding uri shown number text seen wish.Definition = definition encoding uri shown seen.meaning
about_name encoding uri shown number text seen (wish.References with_definition) =
    in_list (references encoding uri shown (record { meaning = seen.meaning; with_definition = with_definition; form = WithDocument }))
about_name encoding uri shown number text seen wish.Highlights =
    in_list (references encoding uri shown (record { meaning = seen.meaning; with_definition = true; form = Alone }))
about_name encoding uri shown number text seen wish.CanRename = prepared encoding shown number text seen
about_name encoding uri shown number text seen (wish.Rename new_text) =
    workspace_edit uri (edits encoding uri shown seen.meaning new_text.now)
