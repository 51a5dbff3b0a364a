use Rattle.std.proofs.Common.{◌≡◌, Bool, ◌&&◌, ◌||◌, true, false, ap, sym, ◌∙◌, refl}
use Rattle.std.specs.List.{list_any}
use Rattle.std.proofs.lemmas.Bool.{or_parts, or_left, or_right, true≢false}
use Rattle.rv_program.specs.Changes.{differs_in_place}
use Rattle.rv_program.specs.internal.LinePairs.{differs_in_name_on, program_before_pair, program_after_pair}
use Rattle.rv_program.specs.internal.NameSets.{brief_of_names, has_bucket, may_have, IsOutside}
use Rattle.rv_program.specs.Program.{body_at}
use Rattle.rv_program.specs.Uses.{names_used, uses_address, uses_local_label, uses_paired_high, is_equ}
use Rattle.rv_program.proofs.LinePairLaws.{same-by_brief, uses-by_names}
use Rattle.rv_program.specs.lemmas.NameSetLaws.{none-passes}
use Rattle.rv_program.proofs.invalidation.LinePair.differs_in_uses.Goals as goal
use Rattle.rv_program.proofs.invalidation.LinePair.differs_in_uses.Goals.{then-brief-via-then-brief, then-brief-via-else-brief+then-differs_in_place, then-brief-2, else-brief-2}

pub returns-else-meets : goal.returns-else-meets
returns-else-meets c =
    let pair = c.args.self.now in
    let base = pair.before.now.text.base in
    let body = body_at (program_after_pair pair) pair.line in
    let moved = differs_in_place base (program_before_pair pair) (program_after_pair pair) pair.line pair.stood in
    let brief = c.brief_on-brief.result in
    let is = c.brief_on-brief.ensures in
    let uncompared : (uses_local_label body || uses_paired_high body || is_equ body) ≡ false = sym (ap (λ b. b.uncompared) is) ∙ c.if-brief.false in
    let no_equ : is_equ body ≡ false = (or_parts (uses_local_label body || uses_paired_high body) (is_equ body) uncompared).1 in
    let apart : IsOutside (brief_of_names (names_used body)) c.args.differing.now = λ bucket has. sym (ap (λ b. may_have b.names bucket) is) ∙ c.meets.ensures c.if-meets.false bucket has in
    let names : list_any (differs_in_name_on pair) (names_used body) ≡ false =
    none-passes (has_bucket c.args.differing.now) (differs_in_name_on pair) (c.requires.differing no_equ) (names_used body) apart in
    let address : brief.address ≡ uses_address body = ap (λ b. b.address) is in
    let place : (brief.address && moved) ≡ false =
    elim c.if-brief-2.branch [
      | then-brief-2 w ↦ ap (λ b. b && moved) w.if-brief-2.true ∙ sym w.differs_in_place.ensures ∙ sym w.value-is ∙ c.if-differs_in_place.false
      | else-brief-2 w ↦ ap (λ b. b && moved) w.if-brief-2.false
    ] in
    c.if-meets.false
    ∙ sym (same-by_brief base (program_before_pair pair) (program_after_pair pair) pair.line pair.stood body names (ap (λ b. b && moved) (sym address) ∙ place) uncompared)

pub returns-then-meets : goal.returns-then-meets
returns-then-meets c =
    let pair = c.args.self.now in
    let base = pair.before.now.text.base in
    let body = body_at (program_after_pair pair) pair.line in
    let moved = differs_in_place base (program_before_pair pair) (program_after_pair pair) pair.line pair.stood in
    let is = c.brief_on-brief.ensures in
    let uncompared : (uses_local_label body || uses_paired_high body || is_equ body) ≡ false = sym (ap (λ b. b.uncompared) is) ∙ c.if-brief.false in
    let place : (c.brief_on-brief.result.address && moved) ≡ false =
    elim c.if-brief-2.branch [
      | then-brief-2 w ↦ ap (λ b. b && moved) w.if-brief-2.true ∙ sym w.differs_in_place.ensures ∙ sym w.value-is ∙ c.if-differs_in_place.false
      | else-brief-2 w ↦ ap (λ b. b && moved) w.if-brief-2.false
    ] in
    c.any_name.ensures
    ∙ ap (λ b. list_any (differs_in_name_on pair) (names_used b)) (ap (λ s. s.body) c.statement_on.ensures)
    ∙ sym (uses-by_names base (program_before_pair pair) (program_after_pair pair) pair.line pair.stood body (ap (λ b. b && moved) (sym (ap (λ b. b.address) is)) ∙ place) uncompared)

-- one of some is true
one_of : (x a b c : Bool) → (a || b || c) ≡ true → (x || a || b || c) ≡ true
one_of true a b c h = refl
one_of false a b c h = h

pub returns-then-brief : goal.returns-then-brief
returns-then-brief c =
    let pair = c.args.self.now in
    let base = pair.before.now.text.base in
    let body = body_at (program_after_pair pair) pair.line in
    let moved = differs_in_place base (program_before_pair pair) (program_after_pair pair) pair.line pair.stood in
    let names = list_any (differs_in_name_on pair) (names_used body) in
    let is = c.brief_on-brief.ensures in
    elim c.then-brief.branch [
      | then-brief-via-then-brief w ↦
          let uncompared : (uses_local_label body || uses_paired_high body || is_equ body) ≡ true = sym (ap (λ b. b.uncompared) is) ∙ w.if-brief.true in
          sym (one_of (names || uses_address body && moved) (uses_local_label body) (uses_paired_high body) (is_equ body) uncompared)
      | then-brief-via-else-brief+then-differs_in_place w ↦
          let place : (c.brief_on-brief.result.address && moved) ≡ true = elim w.if-brief-2.branch [
            | then-brief-2 v ↦ ap (λ b. b && moved) v.if-brief-2.true ∙ sym v.differs_in_place.ensures ∙ sym v.value-is ∙ w.if-differs_in_place.true
            | else-brief-2 v ↦ absurd (true≢false (sym w.if-differs_in_place.true ∙ v.value-is ∙ v.if-brief-2.false))
          ] in
          let used : (uses_address body && moved) ≡ true = ap (λ b. b && moved) (sym (ap (λ b. b.address) is)) ∙ place in
          sym (or_left (names || uses_address body && moved || uses_local_label body || uses_paired_high body) (is_equ body)
          (or_left (names || uses_address body && moved || uses_local_label body) (uses_paired_high body)
          (or_left (names || uses_address body && moved) (uses_local_label body) (or_right names (uses_address body && moved) used))))
    ]
