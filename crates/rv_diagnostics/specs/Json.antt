-- What the server writes of JSON, as tokens, and the frames of texts. (Language Server Protocol 3.17, Base Protocol)
use Rattle.std.specs.Prelude.{ℕ, List, [], ◌∷◌, ◌++◌, length, codes, decimal}
use Rattle.json.specs.Token.{Token, begin_object, end_object, begin_array, end_array, key, string, number, boolean}
use Rattle.rv_diagnostics.specs.declared.part.Part.{Part}
use Rattle.rv_diagnostics.specs.declared.part.Part.TheVariants as part

-- a part of a message as a token
abbrev pub token_of : Part → Token
token_of part.BeginObject = begin_object
token_of part.EndObject = end_object
token_of part.BeginArray = begin_array
token_of part.EndArray = end_array
token_of (part.Key name) = key name.now
token_of (part.Text text) = string text.now
token_of (part.Number n) = number (decimal n)
token_of (part.Boolean b) = boolean b

abbrev pub tokens_of : List Part → List Token
tokens_of [] = []
tokens_of (p ∷ ps) = token_of p ∷ tokens_of ps

-- a text with its header
abbrev pub frame : (body : List ℕ) → List ℕ
frame body = codes "Content-Length: " ++ (decimal (length body) ++ (codes "\r\n\r\n" ++ body))

abbrev pub number_member : (name : List ℕ) → ℕ → List Token
number_member name n = key name ∷ number (decimal n) ∷ []

abbrev pub string_member : (name text : List ℕ) → List Token
string_member name text = key name ∷ string text ∷ []

-- a position, both numbers from 0 on
unfoldable pub position : (line character : ℕ) → List Token
position line character =
    begin_object ∷ (number_member (codes "line") line ++ (number_member (codes "character") character ++ end_object ∷ []))

-- a range in a line
unfoldable pub range : (line from to : ℕ) → List Token
range line from to =
    begin_object ∷ key (codes "start") ∷ (position line from ++ key (codes "end") ∷ (position line to ++ end_object ∷ []))

-- a message, by what it says
abbrev pub message : (said : List Token) → List Token
message said = begin_object ∷ (string_member (codes "jsonrpc") (codes "2.0") ++ (said ++ end_object ∷ []))
