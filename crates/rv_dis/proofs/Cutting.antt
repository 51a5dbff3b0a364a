-- How the tokens of some operands are cut into these.
use Rattle.std.proofs.Common.{◌≡◌, ℕ, ◌+◌, Bool, true, false, List, [], ◌∷◌, ◌++◌, length, sym, refl, ap, ◌∙◌, subst}
use Rattle.std.specs.Prelude.{◌==◌, ◌&&◌, ⊤, codes}
use Rattle.std.proofs.lemmas.Bool.{cond-false}
use Rattle.rv_text.specs.declared.lexeme.TokenKind.{TokenKind}
use Rattle.rv_text.specs.declared.lexeme.TokenKind.TheVariants.{Punctuation}
use Rattle.rv_text.specs.Lexing.{SpelledToken}
use Rattle.rv_expr.specs.Depth.{depth_after}
use Rattle.rv_expr.specs.TokenRoles.{token_role, token_role_of_text}
use Rattle.rv_stmt.specs.declared.runs.Run.{Run}
use Rattle.rv_stmt.specs.Runs.{no_tokens, with_first, runs_from, runs_of}
use Rattle.rv_stmt.specs.Tokens.{is_punctuation}
use Rattle.rv_dis.proofs.Spelling.{Piece, Space, Spelled, spelled_tokens_at, are_plain_tokens, begins_apart, may_precede, first_token}

-- where some tokens end
abbrev pub end_after : ℕ → List Piece → ℕ
end_after at [] = at
end_after at (Space ∷ ps) = end_after (at + 1) ps
end_after at (Spelled kind text ∷ ps) = end_after (at + length text) ps

-- the tokens of one operand: no comma, and as many `)` as `(`
abbrev pub IsWhole : ℕ → List Piece → Type 0
IsWhole depth [] = depth ≡ 0
IsWhole depth (Space ∷ ps) = ⊥
IsWhole depth (Spelled kind text ∷ ps) =
    ((at : ℕ) → is_punctuation (codes ",") (record { kind = kind; text = text; span = record { from = at; to = at + length text } }) ≡ false)
    × IsWhole (depth_after depth (token_role_of_text kind text)) ps

-- the run that they are; `end` is the end of the token before them
abbrev pub run_at : ℕ → ℕ → List Piece → Run
run_at end at [] = no_tokens end
run_at end at (Space ∷ ps) = run_at end (at + 1) ps
run_at end at (Spelled kind text ∷ ps) =
    record { tokens = record { kind = kind; text = text; span = record { from = at; to = at + length text } } ∷ (run_at (at + length text) (at + length text) ps).tokens; span = record { from = at; to = (run_at (at + length text) (at + length text) ps).span.to } }

-- the tokens up to a comma, or to the end, are one run
cut : (depth end at : ℕ) (ps qs : List Piece) (rs : List Run) → IsWhole depth ps → ((end : ℕ) → runs_from end 0 (spelled_tokens_at (end_after at ps) qs) ≡ no_tokens end ∷ rs) → runs_from end depth (spelled_tokens_at at (ps ++ qs)) ≡ run_at end at ps ∷ rs
cut depth end at [] qs rs h next = subst (λ d. runs_from end d (spelled_tokens_at at qs) ≡ no_tokens end ∷ rs) (sym h) (next end)
cut depth end at (Space ∷ ps) qs rs h next = absurd h
cut depth end at (Spelled kind text ∷ ps) qs rs h next =
    let p : SpelledToken = record { kind = kind; text = text; span = record { from = at; to = at + length text } } in
    let more = cut (depth_after depth (token_role p)) (at + length text) (at + length text) ps qs rs h.1 next in
    let plain : (is_punctuation (codes ",") p && depth == 0) ≡ false = ap (λ b. b && depth == 0) (h.0 at) in
    cond-false (is_punctuation (codes ",") p && depth == 0) _ _ plain ∙ ap (with_first p) more

-- operands, each after a comma and a space
abbrev pub more_pieces : List (List Piece) → List Piece
more_pieces [] = []
more_pieces (ps ∷ pss) = Spelled Punctuation (codes ",") ∷ Space ∷ (ps ++ more_pieces pss)

-- all operands, the first after a space
abbrev pub operands_pieces : List (List Piece) → List Piece
operands_pieces [] = []
operands_pieces (ps ∷ pss) = Space ∷ (ps ++ more_pieces pss)

abbrev pub more_runs : ℕ → List (List Piece) → List Run
more_runs at [] = []
more_runs at (ps ∷ pss) = run_at (at + 1) (at + 1 + 1) ps ∷ more_runs (end_after (at + 1 + 1) ps) pss

-- the runs of operands after a name that ends at a place
abbrev pub runs_at : ℕ → List (List Piece) → List Run
runs_at at [] = []
runs_at at (ps ∷ pss) = run_at at (at + 1) ps ∷ more_runs (end_after (at + 1) ps) pss

abbrev pub AreWhole : List (List Piece) → Type 0
AreWhole [] = ⊤
AreWhole (ps ∷ pss) = IsWhole 0 ps × AreWhole pss

cut_more : (at end : ℕ) (pss : List (List Piece)) → AreWhole pss → runs_from end 0 (spelled_tokens_at at (more_pieces pss)) ≡ no_tokens end ∷ more_runs at pss
cut_more at end [] h = refl
cut_more at end (ps ∷ pss) h =
    ap (λ rs. no_tokens end ∷ rs) (cut 0 (at + 1) (at + 1 + 1) ps (more_pieces pss) (more_runs (end_after (at + 1 + 1) ps) pss) h.0 (λ end. cut_more (end_after (at + 1 + 1) ps) end pss h.1))

-- an operand has a token
abbrev pub has_token : List Piece → Bool
has_token [] = false
has_token (Space ∷ ps) = false
has_token (Spelled kind text ∷ ps) = true

runs_of_some : (end at : ℕ) (ps qs : List Piece) → has_token ps ≡ true → runs_of end (spelled_tokens_at at (ps ++ qs)) ≡ runs_from end 0 (spelled_tokens_at at (ps ++ qs))
runs_of_some end at [] qs h = absurd (cc)
runs_of_some end at (Space ∷ ps) qs h = absurd (cc)
runs_of_some end at (Spelled kind text ∷ ps) qs h = refl

abbrev pub HaveTokens : List (List Piece) → Type 0
HaveTokens [] = ⊤
HaveTokens (ps ∷ pss) = (has_token ps ≡ true) × HaveTokens pss

-- operands that are joined by commas are cut into these
pub operands_cut : (at : ℕ) (pss : List (List Piece)) → AreWhole pss → HaveTokens pss → runs_of at (spelled_tokens_at at (operands_pieces pss)) ≡ runs_at at pss
operands_cut at [] h some = refl
operands_cut at (ps ∷ pss) h some =
    runs_of_some at (at + 1) ps (more_pieces pss) some.0
    ∙ cut 0 at (at + 1) ps (more_pieces pss) (more_runs (end_after (at + 1) ps) pss) h.0 (λ end. cut_more (end_after (at + 1) ps) end pss h.1)

-- what the pieces of operands join with
begins_apart-more : (pss : List (List Piece)) → begins_apart (more_pieces pss) ≡ true
begins_apart-more [] = refl
begins_apart-more (ps ∷ pss) = refl

may_precede-append : (kind : TokenKind) (ps qs : List Piece) → may_precede kind ps ≡ true → begins_apart qs ≡ true → may_precede kind (ps ++ qs) ≡ true
may_precede-append Punctuation ps qs h apart = refl
may_precede-append kind [] qs h apart = apart
may_precede-append kind (Space ∷ ps) qs h apart = refl
may_precede-append kind (Spelled Punctuation text ∷ ps) qs h apart = refl
may_precede-append kind (Spelled other text ∷ ps) qs h apart = h

pub are_plain_tokens-append : (ps qs : List Piece) → are_plain_tokens ps ≡ true → begins_apart qs ≡ true → are_plain_tokens qs ≡ true → are_plain_tokens (ps ++ qs) ≡ true
are_plain_tokens-append [] qs h apart more = more
are_plain_tokens-append (Space ∷ ps) qs h apart more = are_plain_tokens-append ps qs h apart more
are_plain_tokens-append (Spelled kind text ∷ ps) qs h apart more =
    let first = first_token kind text ps h in
    rw (first.plain, may_precede-append kind ps qs first.precedes apart, are_plain_tokens-append ps qs first.others apart more) refl

abbrev pub ArePlain : List (List Piece) → Type 0
ArePlain [] = ⊤
ArePlain (ps ∷ pss) = (are_plain_tokens ps ≡ true) × ArePlain pss

more_plain : (pss : List (List Piece)) → ArePlain pss → are_plain_tokens (more_pieces pss) ≡ true
more_plain [] h = refl
more_plain (ps ∷ pss) h = are_plain_tokens-append ps (more_pieces pss) h.0 (begins_apart-more pss) (more_plain pss h.1)

pub operands_plain : (pss : List (List Piece)) → ArePlain pss → are_plain_tokens (operands_pieces pss) ≡ true
operands_plain [] h = refl
operands_plain (ps ∷ pss) h = are_plain_tokens-append ps (more_pieces pss) h.0 (begins_apart-more pss) (more_plain pss h.1)
