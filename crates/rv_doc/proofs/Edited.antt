-- The lines of a text after whole lines of it were replaced.
use Rattle.std.proofs.Common.{◌≡◌, ℕ, ◌+◌, ◌-◌, ◌≤◌, List, [], ◌∷◌, ◌++◌, length, take, drop, refl, ap, sym, ◌∙◌, arith, length-append, length-drop, inl, inr}
use Rattle.std.specs.Prelude.{◌==◌, count_by}
use Rattle.std.proofs.lemmas.List.{take-append-drop}
use Rattle.std.proofs.Math.Seq.{take-append_seam, drop-append_seam, drop-append-add}
use Rattle.std.proofs.lemmas.List.Splits.{length-slice_split}
use Rattle.std.proofs.lemmas.Grind.{common_steps}
use Rattle.rv_doc.specs.Edits.{spliced}
use Rattle.rv_doc.specs.Borders.{IsLineStart, IsLineEnd}
use Rattle.rv_doc.specs.Positions.{lines_of}
use Rattle.rv_doc.proofs.Around.{EndsLines, BeginsLines, lines_join, lines_around}

abbrev pub breaks : List ℕ → ℕ
breaks text = count_by (λ b. b == 10) text

ended_count : (text : List ℕ) → length (lines_of text) ≡ breaks (text ++ 10 ∷ [])
ended_count text =
    let all = length-slice_split (λ b. b == 10) (text ++ 10 ∷ []) in
    let joined = ap length (lines_join text []) ∙ length-append (lines_of text) ([] ∷ []) in
    omega (arith, all, joined)

start_lines : (text : List ℕ) (at : ℕ) → IsLineStart text at → (before : List (List ℕ)) × EndsLines (take at text) before × (length before ≡ breaks (take at text))
start_lines text at (inl e) = rw e ([], EndsLines.None, refl)
start_lines text at (inr (front, e)) = rw e (lines_of front, EndsLines.Some front, ended_count front)

end_lines : (text : List ℕ) (at : ℕ) → IsLineEnd text at → (after : List (List ℕ)) × BeginsLines (drop at text) after
end_lines text at (inl e) = rw e ([], BeginsLines.None)
end_lines text at (inr (back, e)) = rw e (lines_of back, BeginsLines.Some back)

drop_both : (a b : ℕ) (text : List ℕ) → a ≤ b → drop (b - a) (drop a text) ≡ drop b text
drop_both a b text le = grind (arith, common_steps)

in_parts : (text : List ℕ) (start end : ℕ) → start ≤ end → take start text ++ (take (end - start) (drop start text) ++ drop end text) ≡ text
in_parts text start end le =
    ap (λ l. take start text ++ (take (end - start) (drop start text) ++ l)) (sym (drop_both start end text le))
    ∙ ap (λ l. take start text ++ l) (take-append-drop (end - start) (drop start text))
    ∙ take-append-drop start text

pub spliced_parts : {A : Type 0} (pre mid post new : List A) → spliced (pre ++ (mid ++ post)) (length pre) (length mid) new ≡ pre ++ (new ++ post)
spliced_parts pre mid post new =
    rw (take-append_seam pre (mid ++ post), drop-append-add pre (mid ++ post) (length mid), drop-append_seam mid post) refl

-- what stands between two places, the second counted from the end, and what stands behind the second
abbrev pub middle : List ℕ → (start behind : ℕ) → List ℕ
middle text start behind = take (length (drop start text) - behind) (drop start text)

abbrev pub back : List ℕ → (behind : ℕ) → List ℕ
back text behind = drop (length text - behind) text

pub in_middle : (text : List ℕ) (start behind : ℕ) → start + behind ≤ length text → take start text ++ (middle text start behind ++ back text behind) ≡ text
in_middle text start behind le =
    let size : length (drop start text) - behind ≡ (length text - behind) - start = omega (arith, length-drop start text) in
    rw size (in_parts text start (length text - behind) (omega arith))

-- the lines of a text with another middle
edited : (pre mid new post : List ℕ) (before after : List (List ℕ)) → EndsLines pre before → BeginsLines post after → lines_of (pre ++ (new ++ post)) ≡ spliced (lines_of (pre ++ (mid ++ post))) (length before) (length (lines_of mid)) (lines_of new)
edited pre mid new post before after e b =
    lines_around pre new post before after e b
    ∙ sym (rw (lines_around pre mid post before after e b) (spliced_parts before (lines_of mid) after (lines_of new)))

few : (pre mid post : List ℕ) (before after : List (List ℕ)) → EndsLines pre before → BeginsLines post after → length before + length (lines_of mid) ≤ length (lines_of (pre ++ (mid ++ post)))
few pre mid post before after e b =
    rw (lines_around pre mid post before after e b, length-append before (lines_of mid ++ after), length-append (lines_of mid) after) (omega arith)

-- two texts that are the same up to the beginning of a line, and from the end of a line on
pub record Differ (old new : List ℕ) (start behind : ℕ) : Type 0 where
  pub old_room : start + behind ≤ length old
  pub new_room : start + behind ≤ length new
  pub front : take start old ≡ take start new
  pub back : drop (length old - behind) old ≡ drop (length new - behind) new
  pub starts : IsLineStart new start
  pub ends : IsLineEnd new (length new - behind)

old_again : (old new : List ℕ) (start behind : ℕ) → Differ old new start behind → take start new ++ (middle old start behind ++ back new behind) ≡ old
old_again old new start behind d = rw (sym d.front, sym d.back) (in_middle old start behind d.old_room)

pub lines_differ : (old new : List ℕ) (start behind : ℕ) → Differ old new start behind → lines_of new ≡ spliced (lines_of old) (breaks (take start old)) (length (lines_of (middle old start behind))) (lines_of (middle new start behind))
lines_differ old new start behind d =
    let pre = start_lines new start d.starts in
    let post = end_lines new (length new - behind) d.ends in
    let all = edited (take start new) (middle old start behind) (middle new start behind) (back new behind) pre.0 post.0 pre.1 post.1 in
    let first : length pre.0 ≡ breaks (take start old) = pre.2 ∙ sym (ap breaks d.front) in
    ap lines_of (sym (in_middle new start behind d.new_room)) ∙ all
    ∙ rw (old_again old new start behind d, first) refl

pub few_differ : (old new : List ℕ) (start behind : ℕ) → Differ old new start behind → breaks (take start old) + length (lines_of (middle old start behind)) ≤ length (lines_of old)
few_differ old new start behind d =
    let pre = start_lines new start d.starts in
    let post = end_lines new (length new - behind) d.ends in
    let all = few (take start new) (middle old start behind) (back new behind) pre.0 post.0 pre.1 post.1 in
    let first : length pre.0 ≡ breaks (take start old) = pre.2 ∙ sym (ap breaks d.front) in
    let whole = ap (λ t. length (lines_of t)) (old_again old new start behind d) in
    omega (arith, all, first, whole)

of_rest : (text : List ℕ) (front back : ℕ) → back ≤ length (drop front text) → drop (length (drop front text) - back) (drop front text) ≡ drop (length text - back) text
of_rest text front back le = grind (arith, common_steps)

less : (text : List ℕ) (back behind : ℕ) → behind ≤ back → back ≤ length text → drop (back - behind) (drop (length text - back) text) ≡ drop (length text - behind) text
less text back behind le room = grind (arith, common_steps)

-- what two texts share at the end of what stands behind their beginnings, they share at their ends, and less of it
pub back_less : (old new : List ℕ) (front back behind : ℕ) → front ≤ length old → front ≤ length new → back ≤ length (drop front old) → back ≤ length (drop front new) → drop (length (drop front old) - back) (drop front old) ≡ drop (length (drop front new) - back) (drop front new) → behind ≤ back → drop (length old - behind) old ≡ drop (length new - behind) new
back_less old new front back behind fo fn o n e le =
    let same : drop (length old - back) old ≡ drop (length new - back) new = sym (of_rest old front back o) ∙ e ∙ of_rest new front back n in
    sym (less old back behind le (omega (arith, o, length-drop front old))) ∙ ap (λ t. drop (back - behind) t) same ∙ less new back behind le (omega (arith, n, length-drop front new))
