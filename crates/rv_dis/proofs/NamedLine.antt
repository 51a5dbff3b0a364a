-- A line that is a name and operands: it has no label and no lexical fault, and its operands are cut apart.
use Rattle.std.proofs.Common.{◌≡◌, ℕ, ◌+◌, true, false, List, [], ◌∷◌, length, Option, Some, None, refl, ap, ◌∙◌}
use Rattle.std.specs.Prelude.{◌==◌, codes}
use Rattle.std.proofs.lemmas.Bool.{cond-true, cond-false}
use Rattle.rv_text.specs.declared.faults.Fault.{Fault}
use Rattle.rv_text.specs.declared.lexeme.Span.{Span}
use Rattle.rv_text.specs.declared.lexeme.TokenKind.{TokenKind}
use Rattle.rv_text.specs.declared.lexeme.TokenKind.TheVariants.{Identifier, Punctuation}
use Rattle.rv_text.specs.Lexical.{is_identifier}
use Rattle.rv_text.specs.Lexing.{LexedLine, SpelledToken, lexed_line}
use Rattle.rv_stmt.specs.declared.directives.DirectiveForm.{DirectiveForm}
use Rattle.rv_stmt.specs.declared.statement.Body.{Body}
use Rattle.rv_stmt.specs.declared.statement.Stmt.{Stmt}
use Rattle.rv_stmt.specs.DirectiveBodies as directives
use Rattle.rv_stmt.specs.DirectiveBodies.{is_ignored}
use Rattle.rv_stmt.specs.Directives.{directive_named}
use Rattle.rv_stmt.specs.Labels.{Labelled, labels_and_body}
use Rattle.rv_stmt.specs.Runs.{runs_of}
use Rattle.rv_stmt.specs.Statement.{statement_of, body_of, body_of_name, body_of_directive, body_of_mnemonic, is_directive_name}
use Rattle.rv_stmt.specs.Tokens.{is_punctuation}
use Rattle.rv_dis.proofs.Spelling.{Piece, Space, Spelled, spelling, spelled_tokens_at, are_plain_tokens, is_plain_token, may_precede, of_plain_punctuation, first_token, spelling_lexed, spelling_tokens}
use Rattle.rv_dis.proofs.Cutting.{runs_at, operands_pieces, AreWhole, HaveTokens, ArePlain, operands_cut, operands_plain}

-- a name, and operands after it
abbrev pub named_pieces : List ℕ → List (List Piece) → List Piece
named_pieces name pss = Spelled Identifier name ∷ operands_pieces pss

-- where the name ends
abbrev pub end_of_name : List ℕ → ℕ
end_of_name name = 0 + length name

abbrev pub name_span : List ℕ → Span
name_span name = record { from = 0; to = end_of_name name }

abbrev pub name_token : List ℕ → SpelledToken
name_token name = record { kind = Identifier; text = name; span = name_span name }

-- the statement without labels
abbrev pub unlabelled : Body → Stmt
unlabelled body = record { labels = []; body = body }

-- the pieces of each operand are its tokens
pub record AreOperands (pss : List (List Piece)) : Type 0 where
  pub plain : ArePlain pss
  pub whole : AreWhole pss
  pub some : HaveTokens pss

-- no token of an operand is a colon
punctuation_no_colon : (b : ℕ) → is_plain_token Punctuation (b ∷ []) ≡ true → (b == 0x3A) ≡ false
punctuation_no_colon = of_plain_punctuation (λ b. (b == 0x3A) ≡ false) refl refl refl refl

token_no_colon : (kind : TokenKind) (text : List ℕ) (span : Span) → is_plain_token kind text ≡ true → is_punctuation (codes ":") (record { kind = kind; text = text; span = span }) ≡ false
token_no_colon Punctuation [] span h = refl
token_no_colon Punctuation (b ∷ []) span h = rw (punctuation_no_colon b h) refl
token_no_colon Punctuation (b ∷ c ∷ cs) span h = absurd (cc)
token_no_colon kind text span h = refl

-- so no label stands first
no_label : (p : SpelledToken) (at : ℕ) (pss : List (List Piece)) → ArePlain pss → HaveTokens pss → labels_and_body (p ∷ spelled_tokens_at at (operands_pieces pss)) ≡ record { labels = []; body = p ∷ spelled_tokens_at at (operands_pieces pss) }
no_label p at [] h some = refl
no_label p at ([] ∷ pss) h some = absurd (let e = some.0 in cc)
no_label p at ((Space ∷ ps) ∷ pss) h some = absurd (let e = some.0 in cc)
no_label p at ((Spelled kind text ∷ ps) ∷ pss) h some =
    let first = first_token kind text ps h.0 in
    rw (token_no_colon kind text (record { from = at + 1; to = at + 1 + length text }) first.plain) refl

name_precedes : (pss : List (List Piece)) → may_precede Identifier (operands_pieces pss) ≡ true
name_precedes [] = refl
name_precedes (ps ∷ pss) = refl

module _ (name : List ℕ) (pss : List (List Piece)) (identifier : is_identifier name ≡ true) (h : AreOperands pss) where
  line_plain : are_plain_tokens (named_pieces name pss) ≡ true
  line_plain = rw (identifier, name_precedes pss, operands_plain pss h.plain) refl

  -- the line is its name and what follows that
  named_line : statement_of (spelling (named_pieces name pss)) ≡ unlabelled (body_of_name None (name_token name) (spelled_tokens_at (end_of_name name) (operands_pieces pss)))
  named_line =
      let ps = named_pieces name pss in
      let l = lexed_line (spelling ps) in
      let statement : List SpelledToken → Option Fault → Stmt =
      λ tokens fault. record { labels = (labels_and_body tokens).labels; body = body_of fault (labels_and_body tokens).body } in
      let without_fault : Labelled → Stmt = λ x. record { labels = x.labels; body = body_of None x.body } in
      ap (λ tokens. statement tokens l.fault) (spelling_tokens ps line_plain)
      ∙ ap (λ (x : LexedLine). statement (spelled_tokens_at 0 ps) x.fault) (spelling_lexed ps line_plain)
      ∙ ap without_fault (no_label (name_token name) (end_of_name name) pss h.plain h.some)

  name_runs : runs_of (end_of_name name) (spelled_tokens_at (end_of_name name) (operands_pieces pss)) ≡ runs_at (end_of_name name) pss
  name_runs = operands_cut (end_of_name name) pss h.whole h.some

  -- a mnemonic and its operands
  pub mnemonic_line : is_directive_name name ≡ false → statement_of (spelling (named_pieces name pss)) ≡ unlabelled (body_of_mnemonic (name_token name) (runs_at (end_of_name name) pss))
  mnemonic_line other =
      named_line
      ∙ ap unlabelled (cond-false (is_directive_name name) _ _ other ∙ ap (body_of_mnemonic (name_token name)) name_runs)

  -- the name of a directive that is not ignored, and its operands
  pub directive_line : (d : DirectiveForm) → is_directive_name name ≡ true → directive_named name ≡ Some d → is_ignored d.kind ≡ false → statement_of (spelling (named_pieces name pss)) ≡ unlabelled (directives.body_of_form d (name_span name) (runs_at (end_of_name name) pss))
  directive_line d is found read =
      let tokens = spelled_tokens_at (end_of_name name) (operands_pieces pss) in
      named_line
      ∙ ap unlabelled
      (cond-true (is_directive_name name) _ _ is
      ∙ ap (body_of_directive None (name_token name) tokens) found
      ∙ cond-false (is_ignored d.kind) _ _ read
      ∙ ap (directives.body_of_form d (name_span name)) name_runs)
