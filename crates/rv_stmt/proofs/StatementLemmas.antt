-- Of a line's tokens.
use Rattle.std.proofs.Common.{◌≡◌, ◌-◌, length, arith}
use Rattle.std.proofs.lemmas.List.{take_all}
use Rattle.rv_text.specs.Lexing.{LexedLine, spelled_tokens}
use Rattle.rv_text.specs.TokenLaws.{count_of_spelled_tokens}
use Rattle.rv_expr.specs.Reading.{run_of as range_of}

-- the range of all tokens
pub all_spelled_tokens : (l : LexedLine) → range_of l 0 (length l.tokens) ≡ spelled_tokens l
all_spelled_tokens l =
    let count : length (spelled_tokens l) ≡ length l.tokens = count_of_spelled_tokens l in
    take_all (length l.tokens - 0) (spelled_tokens l) (omega (arith, count))
