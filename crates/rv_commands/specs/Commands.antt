-- The commands of the editor, and how they are spelled.
use Rattle.std.specs.Prelude.{ℕ, nat_le, Bool, ◌==◌, List, length, codes, bytes_eq, Option, Some, None, if◌then◌else◌}
use Rattle.std.specs.List.{before_first, after_first}
use Rattle.std.specs.Option.{option_map, option_or}
use Rattle.rv_text.specs.Numbers.{digits_number}
use Rattle.rv_program.specs.Edits.{edit_of}
use Rattle.rv_program.specs.Text.{Edit, Insert, Delete, Replace}
use Rattle.rv_commands.specs.declared.command.Command.{Command}
use Rattle.rv_commands.specs.declared.command.Command.TheVariants as command
use Rattle.rv_commands.specs.declared.pages.Page.{Page}
use Rattle.rv_commands.specs.declared.pages.Page.TheVariants.{Image, Listing, Symbols, Faults, Lines}

-- what a command asks for: a line after the last one, an edit, to show a page, or to disassemble the sections of code
pub data Request : Type 0 where
  Append : (line : List ℕ) → Request
  Change : (edit : Edit) → Request
  Show : (page : Page) → Request
  Disassemble : Request

-- what a command that was read asks for
abbrev pub request : Command → Request
request (command.Append line) = Append line.now
request (command.Change edit) = Change (edit_of edit)
request (command.Show page) = Show page
request command.Disassemble = Disassemble

-- a space ends a word
abbrev pub is_space : ℕ → Bool
is_space byte = byte == 32

-- the bytes before the first space, or all where there is none
abbrev pub first_word : List ℕ → List ℕ
first_word bytes = before_first is_space bytes

-- the bytes behind the first space, or nothing where there is none
abbrev pub after_word : List ℕ → List ℕ
after_word bytes = after_first is_space bytes

-- the number of a line: one to nine decimal digits
abbrev pub place_of : List ℕ → Option ℕ
place_of slice = if nat_le (length slice) 9 then digits_number 10 slice else None

-- the page of this name
abbrev pub page_of : List ℕ → Option Page
page_of name =
    if bytes_eq name (codes "image") then Some Image
    else (if bytes_eq name (codes "list") then Some Listing
    else (if bytes_eq name (codes "syms") then Some Symbols
    else (if bytes_eq name (codes "faults") then Some Faults
    else (if bytes_eq name (codes "text") then Some Lines
    else None))))

-- what this name alone asks for
abbrev pub request_named : List ℕ → Option Request
request_named name = if bytes_eq name (codes "dis") then Some Disassemble else option_map Show (page_of name)

-- the edit that a word asks for with what stands behind it
abbrev pub change_of : (word rest : List ℕ) → Option Request
change_of word rest =
    if bytes_eq word (codes "a") then Some (Append rest)
    else (if bytes_eq word (codes "i") then option_map (λ place. Change (Insert place (after_word rest))) (place_of (first_word rest))
    else (if bytes_eq word (codes "d") then option_map (λ place. Change (Delete place)) (place_of rest)
    else (if bytes_eq word (codes "r") then option_map (λ place. Change (Replace place (after_word rest))) (place_of (first_word rest))
    else None)))

-- What the bytes of a command ask for, if anything. One space stands between the parts, and nothing after the last.
abbrev pub request_of : List ℕ → Option Request
request_of command = option_or (request_named command) (change_of (first_word command) (after_word command))
