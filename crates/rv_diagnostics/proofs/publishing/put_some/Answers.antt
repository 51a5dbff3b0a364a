use Rattle.std.proofs.Common.{◌≡◌, ◌++◌, List, ℕ, OnOk, map, take, min, arith, ap, subst, ◌∙◌}
use Rattle.rv_files.specs.Symbols.{searched, symbols_of}
use Rattle.rv_files.specs.Words.{unknown_words}
use Rattle.rv_diagnostics.specs.declared.publishing.TheConstants.{MOST}
use Rattle.rv_diagnostics.specs.Published.{all_diagnostics, fault_count, shown_in, words_with}
use Rattle.rv_diagnostics.proofs.Publications.{no_faults}
use Rattle.rv_diagnostics.proofs.publishing.put_some.Goals as goal

pub returns-then-count-eq0 : goal.returns-then-count-eq0
returns-then-count-eq0 g c =
    let shown = g.T.View.shown c.args.told.now in
    let context = c.args.context.now in
    let none : fault_count shown ≡ 0 = omega (arith, c.requires, c.if-count-eq0.true) in
    no_faults context.encoding context.uri.now (g.T.Told.environments c.args.told.now) shown (words_with shown (fault_count shown)) c.args.window.now c.args.m.now none

pub returns : goal.returns
returns g c =
    let shown = g.T.View.shown c.args.told.now in
    let context = c.args.context.now in
    let few : c.min.result ≡ min (fault_count shown) MOST = omega (arith, c.min.ensures, c.requires) in
    let most : c.searched-most.result ≡ searched (min (fault_count shown) MOST) = c.searched-most.ensures ∙ ap searched few in
    let first = ap (take c.searched-most.result) c.as_slice.ensures.value ∙ c.in_ok-symbols.ensures.first ∙ ap (λ n. take n (symbols_of shown)) most in
    let reports = min (fault_count shown) MOST in
    let named : map (λ s. s.now) c.as_slice-2.result.now ≡ map (λ s. s.name) (take (searched reports) (symbols_of shown)) =
    ap (map (λ s. s.now)) c.as_slice-2.ensures.value ∙ c.in_ok-names.ensures ∙ ap (map (λ s. s.name)) first in
    let unknown : c.as_slice-3.result.now ≡ take (searched reports) (unknown_words shown) =
    c.as_slice-3.ensures.value ∙ c.in_ok-unknown.ensures ∙ ap (λ n. take n (unknown_words shown)) most in
    rw (named, unknown) at c.put_lines.ensures
