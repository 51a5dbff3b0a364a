use Rattle.std.proofs.Common.{append_assoc, ◌∙◌}
use Rattle.rv_language.specs.Renames.{placed_name}
use Rattle.rv_language.proofs.rename.put_placed_name.Goals as goal

pub returns : goal.returns
unfolding placed_name
returns c =
    let name = c.as_str.ensures.value ∙ c.in_ok-shown.ensures.lossy in
    rw (c.in_ok-put_all-2.ensures, c.in_ok-put_name_range.ensures, c.in_ok-put_all.ensures, name, c.part.ensures)
    (simp append_assoc)
