use Rattle.std.proofs.Common.{◌≡◌, slice_index, arith, ap}
use Rattle.std.proofs.lemmas.Bool.Decides.{Decides-eqb}
use Rattle.std.proofs.lemmas.Slice.Eq.{slice_eq-Decides}
use Rattle.rv_store.proofs.places.stay_sections.Goals as goal

pub returns : goal.returns
returns c h t within =
    let same : c.bases_by_ends.result ≡ c.bases_by_ends-2.result = (slice_eq-Decides Decides-eqb c.bases_by_ends.result c.bases_by_ends-2.result c.eq.result c.eq.ensures).0 h in
    let total = c.bases_by_ends.ensures t within in
    let before = c.bases_by_ends-2.ensures t within in
    omega (arith, total, before, ap (λ bases. slice_index bases t) same)
