use Rattle.rv_layout.specs.EffectLaws.{no_lines-join, join-no_lines, join_assoc, join-IsEffect}
use Rattle.rv_layout.proofs.laws.layouts_join.Goals as goal

pub returns : goal.returns
returns c = record { left = no_lines-join; right = join-no_lines; associative = join_assoc; kept = join-IsEffect }
