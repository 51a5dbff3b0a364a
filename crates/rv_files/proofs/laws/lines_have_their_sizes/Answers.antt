use Rattle.std.proofs.Common.{arith}
use Rattle.std.proofs.lemmas.List.{length-map}
use Rattle.rv_stmt.specs.Statement.{statement_of}
use Rattle.rv_files.proofs.LineSizes.{line_sized}
use Rattle.rv_files.proofs.PayloadSizes.{SizeLaws}
use Rattle.rv_files.proofs.SectionSizes.{section_sized}
use Rattle.rv_files.proofs.laws.lines_have_their_sizes.Goals as goal

pub returns : goal.returns
returns c =
    let laws : SizeLaws = record {
      instructions = c.faults_keep_sizes.ensures.instructions;
      filled = c.faults_keep_sizes.ensures.filled;
      content = c.faults_keep_sizes.ensures.data;
      fills = c.faults_keep_sizes.ensures.fills;
      padding = c.codes_are_limited.ensures.padding;
      values = c.values_keep_sizes.ensures;
      constants = c.constants_are_values.ensures.operands;
    } in
    record {
      lines = λ base lines i first last. line_sized laws base lines i first (omega (arith, last, length-map lines statement_of));
      sections = section_sized laws;
    }
