use Rattle.std.proofs.Common.{◌≡◌, ◌-◌, ◌≤◌, ◌++◌, length, drop}
use Rattle.rv_text.specs.Lexing.{tokens_of, tokens_from, SpansFit}
use Rattle.rv_text.proofs.lexer.tokens.Given as goal

-- the tokens so far and those of what is left are those of the line
abbrev pub invariant-loop-at : goal.invariant-loop-at
invariant-loop-at l = record {
  in_range : l.at ≤ length l.line;
  few : length l.found.items ≤ l.at;
  fit : SpansFit l.line l.found.items;
  tokens : l.found.items ++ (tokens_from l.at 0 (drop l.at l.line)).tokens ≡ (tokens_of l.line).tokens;
  fault : (tokens_from l.at 0 (drop l.at l.line)).fault ≡ (tokens_of l.line).fault;
}

abbrev pub decreases-loop-at : goal.decreases-loop-at
decreases-loop-at l = length l.line - l.at
