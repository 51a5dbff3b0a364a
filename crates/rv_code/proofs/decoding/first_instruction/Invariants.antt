use Rattle.std.proofs.Common.{length, map, IsTrue}
use Rattle.std.specs.List.{list_all}
use Rattle.rv_code.specs.Decoding.{IsWordOfNone, is_code_for}
use Rattle.rv_code.proofs.decoding.first_instruction.Given as goal

abbrev pub invariant-loop-rows : goal.invariant-loop-rows
invariant-loop-rows l = record {
  codes : IsTrue (list_all (is_code_for l.word) (map (λ row. (row.0, row.3, row.4)) l.rows));
  none : IsWordOfNone (map (λ row. (row.0, row.3, row.4)) l.rows) l.word → IsWordOfNone (map (λ row. (row.0, row.3, row.4)) l.initial.rows) l.word;
}

abbrev pub decreases-loop-rows : goal.decreases-loop-rows
decreases-loop-rows l = length l.rows
