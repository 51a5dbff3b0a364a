-- What a message says about changes of a document. (Language Server Protocol 3.17, textDocument/didChange)
use Rattle.std.specs.Prelude.{ℕ, ◌^◌, nat_lt, Bool, true, false, List, [], ◌∷◌, codes, Option, Some, None, option_and_then, option_map, if◌then◌else◌}
use Rattle.serde_json.specs.Data.{Data, null}
use Rattle.serde_json.specs.Find.{pointer, as_str, as_number, as_u64}
use Rattle.rv_doc.specs.declared.position.Position.{Position}
use Rattle.rv_doc.specs.declared.position.Range.{Range}
use Rattle.rv_doc.specs.Edits.{Change}

-- the text at a path
abbrev pub text_in : (path : List ℕ) → Data → Option (List ℕ)
text_in path json = option_and_then as_str (pointer path json)

-- a number of 32 bits
abbrev pub small : ℕ → Option ℕ
small n = if nat_lt n (2 ^ 32) then Some n else None

-- the number of 32 bits at a path
abbrev pub number_in : (path : List ℕ) → Data → Option ℕ
number_in path json = option_and_then small (option_and_then as_u64 (option_and_then as_number (pointer path json)))

-- two things that are both there
abbrev pub both : {A B C : Type 0} → (A → B → C) → Option A → Option B → Option C
both f (Some a) (Some b) = Some (f a b)
both f a b = None

abbrev pub position_in : (line character : List ℕ) → Data → Option Position
position_in line character json =
    both (λ l c. record { line = l; character = c }) (number_in line json) (number_in character json)

-- the range of a change
abbrev pub range_in : Data → Option Range
range_in json =
    both (λ from to. record { start = from; end = to })
    (position_in (codes "/range/start/line") (codes "/range/start/character") json)
    (position_in (codes "/range/end/line") (codes "/range/end/character") json)

-- a change is of the whole document: its range is missing or null
abbrev pub is_of_whole : Option Data → Bool
is_of_whole None = true
is_of_whole (Some null) = true
is_of_whole (Some range) = false

abbrev pub change_by : (whole : Bool) → Option Range → (text : List ℕ) → Option Change
change_by true range text = Some (record { range = None; text = text })
change_by false range text = option_map (λ range. record { range = Some range; text = text }) range

-- one of `contentChanges`, if it is well formed
abbrev pub change_of : Data → Option Change
change_of json =
    option_and_then (change_by (is_of_whole (pointer (codes "/range") json)) (range_in json)) (text_in (codes "/text") json)

-- all of them, if each is
abbrev pub changes_of : List Data → Option (List Change)
changes_of [] = Some []
changes_of (json ∷ more) = both (λ change changes. change ∷ changes) (change_of json) (changes_of more)
