-- Another name for what a name means: why there is none, and where it is put. (Language Server Protocol 3.17, textDocument/rename)
use Rattle.std.specs.Prelude.{◌≡◌, ⊤, ℕ, zero, suc, ◌+◌, ◌-◌, ◌^◌, ◌==◌, nat_lt, not, min, Bool, true, List, [], ◌∷◌, ◌++◌, length, take, codes, Option, Some, None, Result, Ok, Err, unwrap_or, if◌then◌else◌}
use Rattle.std.specs.List.{list_all}
use Rattle.std.specs.Option.{option_or}
use Rattle.json.specs.Token.{Token, begin_array, begin_object, end_array, end_object, key, null}
use Rattle.std.specs.Str.Lossy.{utf8_lossy}
use Rattle.rv_text.specs.declared.lexeme.Span.{Span}
use Rattle.rv_text.specs.Numbers.{is_local_number}
use Rattle.rv_expr.specs.TokenRoles.{label_number}
use Rattle.rv_doc.specs.declared.encoding.Encoding.{Encoding}
use Rattle.rv_diagnostics.specs.Json.{string_member}
use Rattle.rv_list.specs.Shown.{Shown, ShownLine}
use Rattle.rv_show.specs.Parts.{part}
use Rattle.rv_language.specs.declared.names.NameSpan.{NameSpan}
use Rattle.rv_language.specs.declared.rename.NameRefusal.{NameRefusal}
use Rattle.rv_language.specs.declared.rename.NameRefusal.TheVariants as refusal
use Rattle.rv_language.specs.declared.rename.RenameError.{RenameError}
use Rattle.rv_language.specs.declared.rename.RenameError.TheVariants as errors
use Rattle.rv_language.specs.declared.rename.Renaming.{Renaming}
use Rattle.rv_language.specs.LineNames.{names_of}
use Rattle.rv_language.specs.Meanings.{Meant, meant, SymbolMeant, LocalMeant, Name, Symbol, Label, Back, Forward, definition_line, meaning_of, means, means_local, means_written, name_of}
use Rattle.rv_language.specs.Names.{name_range}
use Rattle.rv_language.specs.NamesAt.{Seen}
use Rattle.rv_language.specs.NewNames.{is_symbol_name}
use Rattle.rv_language.specs.References.{Replaced, references}

-- a meaning in the place of another: of how many bytes the names are
pub record Change : Type 0 where
  pub old : Meant
  pub new : Meant
  pub old_length : ℕ
  pub new_length : ℕ

abbrev pub change_of : Renaming → Change
change_of r = record { old = meant r.old; new = meant r.new; old_length = r.old_length; new_length = r.new_length }

-- a name of a local label with another number
abbrev pub with_number : (number : ℕ) → Name → Name
with_number number (Symbol name) = Symbol name
with_number number (Label n) = Label number
with_number number (Back n) = Back number
with_number number (Forward n) = Forward number

-- the new name means the same in the place of an old one
abbrev pub still_means : Meant → (line : ℕ) → Name → Bool
still_means (SymbolMeant symbol) line name = true
still_means (LocalMeant label) line name = means_local label line (with_number label.number name)

-- a name of a line means the same afterwards: it is the old one and the new one means it, or it is another
abbrev pub keeps : Change → (line : ℕ) → Name → Bool
keeps change line name = if means change.old line name then still_means change.new line name else not (means change.new line name)

abbrev pub keeps_written : Change → (line : ℕ) → Option Name → Bool
keeps_written change line None = true
keeps_written change line (Some name) = keeps change line name

abbrev pub keeps_span : Change → (line : ℕ) → (text : List ℕ) → NameSpan → Bool
keeps_span change line text name = keeps_written change line (name_of (part text name.span))

-- how many bytes a line has with the new name in the place of an old one, as far as a count of 64 bits goes
abbrev pub length_with : Change → (is_old : Bool) → ℕ → ℕ
length_with change is_old n = if is_old then min (n + change.new_length) (2 ^ 64 - 1) - change.old_length else n

-- and with it in the place of all of some names that are old ones
abbrev pub length_after : Change → (line : ℕ) → (text : List ℕ) → ℕ → List NameSpan → ℕ
length_after change line text n [] = n
length_after change line text n (name ∷ names) =
    length_after change line text (length_with change (means_written change.old line (name_of (part text name.span))) n) names

abbrev pub names_refusal : Change → (line : ℕ) → (text : List ℕ) → List NameSpan → Option NameRefusal
names_refusal change line text names =
    if list_all (keeps_span change line text) names
    then (if nat_lt 1000 (length_after change line text (length text) names) then Some refusal.LineTooLong else None)
    else Some refusal.Taken

-- why a line, by its number from 1 on, cannot get the new name: a name of it would mean something else, or it would be too long
unfoldable pub line_refusal : Change → (number : ℕ) → ShownLine → Option NameRefusal
line_refusal change number line = names_refusal change number (take 1000 line.text) (names_of line)

-- the first refusal of 0, 1 and so on, of as many as are asked
abbrev pub first_refusal : (ℕ → Option NameRefusal) → (n : ℕ) → Option NameRefusal
first_refusal f zero = None
first_refusal f (suc n) = option_or (first_refusal f n) (f n)

abbrev pub lines_refusal : Shown → Change → Option NameRefusal
lines_refusal shown change = first_refusal (λ k. line_refusal change (k + 1) (shown.line (k + 1))) shown.count

abbrev pub found_or : NameRefusal → Option Meant → Result Meant NameRefusal
found_or refusal None = Err refusal
found_or refusal (Some meaning) = Ok meaning

-- what a new name means in the place of an old one
abbrev pub new_meaning : Shown → (old : Meant) → (new : List ℕ) → Result Meant NameRefusal
new_meaning shown (SymbolMeant old) new = if is_symbol_name new then Ok (SymbolMeant new) else Err refusal.NoSymbolName
new_meaning shown (LocalMeant label) new =
    if is_local_number new then found_or refusal.NoLocalName (meaning_of shown label.line (Label (unwrap_or (label_number new) 0)))
    else Err refusal.NoLocalName

abbrev pub refusal_with : Shown → (old : Meant) → (old_length new_length : ℕ) → Result Meant NameRefusal → Option NameRefusal
refusal_with shown old old_length new_length (Err refusal) = Some refusal
refusal_with shown old old_length new_length (Ok new) =
    lines_refusal shown (record { old = old; new = new; old_length = old_length; new_length = new_length })

-- why a name of so many bytes cannot get another one: it is not defined, the new one is none, or a line cannot get it
abbrev pub rename_refusal : Shown → (old : Meant) → (old_length : ℕ) → (new : List ℕ) → Option NameRefusal
rename_refusal shown old old_length new =
    if definition_line shown old == 0 then Some refusal.NotDefined
    else refusal_with shown old old_length (length new) (new_meaning shown old new)

-- an error is out of memory, or this refusal
abbrev pub IsRefusal : RenameError → Option NameRefusal → Type 0
IsRefusal errors.Memory refusal = ⊤
IsRefusal (errors.Refused r) refusal = refusal ≡ Some r

-- the same of the meaning of a new name
abbrev pub IsMeaningRefusal : RenameError → Result Meant NameRefusal → Type 0
IsMeaningRefusal errors.Memory new = ⊤
IsMeaningRefusal (errors.Refused r) new = new ≡ Err r

-- the edits that put a new name where a meaning has its names
abbrev pub edits : Encoding → (uri : List ℕ) → Shown → Meant → (new_text : List ℕ) → List Token
edits encoding uri shown meaning new_text =
    references encoding uri shown (record { meaning = meaning; with_definition = true; form = Replaced new_text })

-- edits of a document (Language Server Protocol 3.17, WorkspaceEdit)
unfoldable pub workspace_edit : (uri : List ℕ) → (edits : List Token) → List Token
workspace_edit uri edits =
    begin_object ∷ (key (codes "changes") ∷ (begin_object ∷ (key uri ∷ (begin_array ∷ (edits ++ end_array ∷ (end_object ∷ (end_object ∷ [])))))))

-- the place of a name, and its text (Language Server Protocol 3.17, PrepareRenameResult)
unfoldable pub placed_name : Encoding → (number : ℕ) → (text : List ℕ) → Span → List Token
placed_name encoding number text span =
    begin_object ∷ (key (codes "range") ∷ (name_range encoding number text span ++ (string_member (codes "placeholder") (utf8_lossy (part text span)) ++ end_object ∷ [])))

-- a name of a line can get another one: it is defined
abbrev pub prepared : Encoding → Shown → (number : ℕ) → (text : List ℕ) → Seen → List Token
prepared encoding shown number text seen =
    if definition_line shown seen.meaning == 0 then null ∷ [] else placed_name encoding number text seen.span
