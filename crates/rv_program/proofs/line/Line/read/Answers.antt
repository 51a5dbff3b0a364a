use Rattle.std.proofs.Common.{ap, sym, ◌∙◌}
use Rattle.rv_stmt.specs.Statement.{statement_of}
use Rattle.rv_program.specs.Text.{is_line}
use Rattle.rv_program.proofs.line.Line.read.Goals as goal

pub returns-in_err-stmt-clause-parsed : goal.returns-in_err-stmt-clause-parsed
returns-in_err-stmt-clause-parsed g c = c.read_line.ensures.parsed

pub returns-in_err-text-clause-parsed : goal.returns-in_err-text-clause-parsed
returns-in_err-text-clause-parsed g c = c.read_line.ensures.parsed

pub returns-in_err-content-clause-parsed : goal.returns-in_err-content-clause-parsed
returns-in_err-content-clause-parsed g c = c.read_line.ensures.parsed

pub returns-clause-parsed : goal.returns-clause-parsed
returns-clause-parsed g c = c.read_line.ensures.parsed

pub returns-in_err-stmt-clause-valued : goal.returns-in_err-stmt-clause-valued
returns-in_err-stmt-clause-valued g c = c.read_line.ensures.valued

pub returns-in_err-text-clause-valued : goal.returns-in_err-text-clause-valued
returns-in_err-text-clause-valued g c = c.read_line.ensures.valued

pub returns-in_err-content-clause-valued : goal.returns-in_err-content-clause-valued
returns-in_err-content-clause-valued g c = c.read_line.ensures.valued

pub returns-clause-valued : goal.returns-clause-valued
returns-clause-valued g c = c.read_line.ensures.valued

pub returns-in_err-stmt-clause-encoded : goal.returns-in_err-stmt-clause-encoded
returns-in_err-stmt-clause-encoded g c = c.read_line.ensures.encoded

pub returns-in_err-text-clause-encoded : goal.returns-in_err-text-clause-encoded
returns-in_err-text-clause-encoded g c = c.read_line.ensures.encoded

pub returns-in_err-content-clause-encoded : goal.returns-in_err-content-clause-encoded
returns-in_err-content-clause-encoded g c = c.read_line.ensures.encoded

pub returns-clause-encoded : goal.returns-clause-encoded
returns-clause-encoded g c = c.read_line.ensures.encoded

pub invariant_of-result : goal.invariant_of-result
invariant_of-result g c =
    let text = c.in_ok-text.ensures.items in
    rw c.in_ok-content.ensures.ok (record {
      line = ap is_line text ∙ c.requires.line;
      read = c.in_ok-stmt.ensures.statement ∙ ap statement_of (sym text);
      summed = c.of-brief.ensures;
    })
