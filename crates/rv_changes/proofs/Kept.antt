-- Lists in which other items stand in the place of some, where no more than so many are kept.
use Rattle.std.proofs.Common.{◌≡◌, ℕ, zero, suc, ◌+◌, ◌-◌, ◌<◌, ◌≤◌, List, [], ◌∷◌, ◌++◌, length, take, drop, min, refl, ap, sym, ◌∙◌, arith, append_assoc, length-append, length-drop}
use Rattle.std.proofs.Math.Seq.{take-append-add, take-add}
use Rattle.std.proofs.lemmas.Grind.{common_steps}
use Rattle.std.proofs.lemmas.List.{append-nil, drop-take, length-map, length-take, length-take-le, map-append, take-append-le, take-map, drop-map, take_all}
use Rattle.std.specs.Prelude.{insert, map, remove}
use Rattle.rv_doc.specs.Edits.{spliced}

take_less : {A : Type 0} (k n : ℕ) (xs : List A) → k ≤ n → take k (take n xs) ≡ take k xs
take_less zero n xs le = refl
take_less (suc k) zero xs le = absurd (omega (arith, le))
take_less (suc k) (suc n) [] le = refl
take_less (suc k) (suc n) (x ∷ xs) le = ap (λ l. x ∷ l) (take_less k n xs (omega (arith, le)))

spliced_mapped : {A B : Type 0} (f : A → B) (old : List A) (first count : ℕ) (new : List A) → map f (spliced old first count new) ≡ spliced (map f old) first count (map f new)
spliced_mapped f old first count new = simp (map-append, take-map, drop-map)

spliced_count : {A : Type 0} (old : List A) (first count : ℕ) (new : List A) → first + count ≤ length old → length (spliced old first count new) + count ≡ length old + length new
spliced_count old first count new le =
    let front : length (take first old) ≡ first = length-take-le first old (omega (arith, le)) in
    omega (arith, front, length-append (take first old) (new ++ drop (first + count) old), length-append new (drop (first + count) old), length-drop (first + count) old)

-- some are taken out
pub taken_count : {A : Type 0} (old now : List A) (first count : ℕ) → first + count ≤ length old → now ≡ spliced old first count [] → length now + count ≡ length old
taken_count old now first count le is = ap (λ l. length l + count) is ∙ spliced_count old first count [] le ∙ omega arith

-- Items at the end

-- one is taken out there
pub take_removed : {A : Type 0} (most at : ℕ) (xs : List A) → most ≤ at → take most (remove xs at) ≡ take most xs
take_removed zero at xs le = refl
take_removed (suc most) zero xs le = absurd (omega (arith, le))
take_removed (suc most) (suc at) [] le = refl
take_removed (suc most) (suc at) (x ∷ xs) le = ap (λ l. x ∷ l) (take_removed most at xs (omega (arith, le)))

insert_last : {A : Type 0} (xs : List A) (x : A) → insert xs (length xs) x ≡ xs ++ x ∷ []
insert_last [] x = refl
insert_last (y ∷ xs) x = ap (λ l. y ∷ l) (insert_last xs x)

-- one is put in there
pub appended_more : {A B : Type 0} (f : A → B) (done now : List B) (at limit : ℕ) (x : A) (later all : List A) → now ≡ insert done at (f x) → at ≡ length done → length done < limit → all ≡ x ∷ later → now ++ map f (take (limit - length now) later) ≡ done ++ map f (take (limit - length done) all)
appended_more f done now at limit x later all is last some e =
    let put : now ≡ done ++ f x ∷ [] = is ∙ ap (λ i. insert done i (f x)) last ∙ insert_last done (f x) in
    let count : length now ≡ length done + 1 = ap length put ∙ length-append done (f x ∷ []) in
    let more : limit - length done ≡ suc (limit - length now) = omega (arith, count, some) in
    ap (λ l. l ++ map f (take (limit - length now) later)) put
    ∙ append_assoc done (f x ∷ []) (map f (take (limit - length now) later))
    ∙ ap (λ n. done ++ map f (take n (x ∷ later))) (sym more)
    ∙ ap (λ l. done ++ map f (take (limit - length done) l)) (sym e)

-- there are as many as there may be
pub appended_all : {A B : Type 0} (f : A → B) (done : List B) (limit : ℕ) (left : List A) → limit ≤ length done → done ++ map f (take (limit - length done) left) ≡ done
appended_all f done limit left full =
    let none : limit - length done ≡ 0 = omega (arith, full) in
    ap (λ n. done ++ map f (take n left)) none ∙ append-nil done

-- the others of a list follow its first items
pub filled : {A B : Type 0} (f : A → B) (done : List B) (limit : ℕ) (all : List A) → length done ≤ limit → done ≡ map f (take (length done) all) → done ++ map f (take (limit - length done) (drop (length done) all)) ≡ map f (take limit all)
filled f done limit all few is =
    let whole : length done + (limit - length done) ≡ limit = omega (arith, few) in
    ap (λ l. l ++ map f (take (limit - length done) (drop (length done) all))) is
    ∙ sym (map-append f (take (length done) all) (take (limit - length done) (drop (length done) all)))
    ∙ ap (map f) (sym (take-add (length done) (limit - length done) all))
    ∙ ap (λ n. map f (take n all)) whole

-- Items that are replaced

few_kept : {A B : Type 0} (f : A → B) (old : List A) (limit : ℕ) (kept : List B) → kept ≡ map f (take limit old) → length kept ≡ min limit (length old)
few_kept f old limit kept is = ap length is ∙ length-map (take limit old) f ∙ length-take limit old

-- all are kept, before and after
pub all_kept : {A B : Type 0} (f : A → B) (old new all : List A) (first count limit : ℕ) (kept : List B) → kept ≡ map f (take limit old) → first + count ≤ length old → all ≡ spliced old first count new → length kept < limit → length kept + length new ≤ limit + count → spliced kept first count (map f new) ≡ map f (take limit all)
all_kept f old new all first count limit kept is within after few room =
    let size = few_kept f old limit kept is in
    let old_few : length old ≤ limit = grind (arith, common_steps, size, few) in
    let same : length kept ≡ length old = grind (arith, common_steps, size, few) in
    let all_few : length all ≤ limit = omega (arith, ap length after, spliced_count old first count new within, same, room) in
    ap (λ l. spliced l first count (map f new)) (is ∙ ap (map f) (take_all limit old old_few))
    ∙ sym (spliced_mapped f old first count new)
    ∙ ap (map f) (sym after)
    ∙ ap (map f) (sym (take_all limit all all_few))

spliced_taken : {A : Type 0} (old new : List A) (first count kept : ℕ) → first + count ≤ kept → kept ≤ length old → spliced (take kept old) first count new ≡ take (first + (length new + (kept - (first + count)))) (spliced old first count new)
spliced_taken old new first count kept within few =
    let rest = kept - (first + count) in
    let front : take first (take kept old) ≡ take first old = take_less first kept old (omega (arith, within)) in
    let parts : kept ≡ (first + count) + rest = omega (arith, within) in
    let back : drop (first + count) (take kept old) ≡ take rest (drop (first + count) old) = ap (λ n. drop (first + count) (take n old)) parts ∙ drop-take (first + count) rest old in
    let size : length (take first old) ≡ first = length-take-le first old (omega (arith, within, few)) in
    ap (λ l. l ++ (new ++ drop (first + count) (take kept old))) front
    ∙ ap (λ l. take first old ++ (new ++ l)) back
    ∙ ap (λ l. take first old ++ l) (sym (take-append-add new (drop (first + count) old) rest))
    ∙ sym (take-append-add (take first old) (new ++ drop (first + count) old) (length new + rest))
    ∙ ap (λ n. take (n + (length new + rest)) (spliced old first count new)) size

-- those that are kept of the items are the first ones then, where all that are replaced are kept
pub first_after : {A B : Type 0} (f : A → B) (old new all : List A) (first count limit most : ℕ) (kept now : List B) → kept ≡ map f (take limit old) → all ≡ spliced old first count new → first + count ≤ most → most ≤ length kept → now ≡ spliced (take most kept) first count (map f new) → now ≡ map f (take (length now) all)
first_after f old new all first count limit most kept now is after within few made =
    let size = few_kept f old limit kept is in
    let below : most ≤ limit = grind (arith, common_steps, size, few) in
    let room : most ≤ length old = grind (arith, common_steps, size, few) in
    let n = first + (length new + (most - (first + count))) in
    let cut : take most kept ≡ map f (take most old) = ap (take most) is ∙ take-map f most (take limit old) ∙ ap (map f) (take_less most limit old below) in
    let whole : now ≡ map f (take n all) =
    made ∙ ap (λ l. spliced l first count (map f new)) cut
    ∙ sym (spliced_mapped f (take most old) first count new)
    ∙ ap (map f) (spliced_taken old new first count most within room)
    ∙ ap (λ l. map f (take n l)) (sym after) in
    let count_ : length all + count ≡ length old + length new = ap (λ l. length l + count) after ∙ spliced_count old first count new (omega (arith, within, room)) in
    let size' : length now ≡ n = ap length whole ∙ length-map (take n all) f ∙ length-take-le n all (omega (arith, count_, within, room)) in
    whole ∙ ap (λ k. map f (take k all)) (sym size')

-- and where only those before them are kept
pub first_before : {A B : Type 0} (f : A → B) (old new all : List A) (first count limit : ℕ) (kept now : List B) → kept ≡ map f (take limit old) → first + count ≤ length old → all ≡ spliced old first count new → now ≡ take first kept → now ≡ map f (take (length now) all)
first_before f old new all first count limit kept now is within after made =
    let n = min first limit in
    let below : n ≤ first = grind (arith, common_steps) in
    let below' : n ≤ limit = grind (arith, common_steps) in
    let size : length (take first old) ≡ first = length-take-le first old (omega (arith, within)) in
    let cut : now ≡ take first (map f (take limit old)) = made ∙ ap (take first) is in
    let count_ : length now ≡ n = ap length cut ∙ length-take first (map f (take limit old)) ∙ grind (arith, common_steps, length-map (take limit old) f, length-take limit old, within) in
    let of_all : take n all ≡ take n old =
    ap (take n) after ∙ take-append-le n (take first old) (new ++ drop (first + count) old) (omega (arith, size, below)) ∙ take_less n first old below in
    let of_old : now ≡ map f (take n old) =
    sym (take_all n now (omega (arith, count_))) ∙ ap (take n) cut ∙ take_less n first (map f (take limit old)) below
    ∙ take-map f n (take limit old) ∙ ap (map f) (take_less n limit old below') in
    of_old ∙ ap (map f) (sym of_all) ∙ ap (λ k. map f (take k all)) (sym count_)
