-- Sessions and lists of edits, as they have to be answered.
use Rattle.std.proofs.Common.{◌≡◌, ℕ, List, [], ◌∷◌, refl, inl, inr}
use Rattle.std.specs.Fmt.{digits}
use Rattle.std.specs.Prelude.{codes, Ok, Err}
use Rattle.rv_program.specs.declared.edit_error.EditError.TheVariants.{Place, Memory}
use Rattle.rv_program.specs.Text.{Text, Insert, Delete, Replace}
use Rattle.rv_commands.specs.declared.pages.Page.TheVariants.{Lines}
use Rattle.rv_commands.specs.Edited.{AreEdits}
use Rattle.rv_commands.specs.Pages.{numbered, text_of, page_text}
use Rattle.rv_commands.specs.Transcript.{IsTranscript, empty_text}

abbrev text : List (List ℕ) → Text
text lines = record { base = 0; lines = lines }

no_lines : page_text Lines (empty_text 0) ≡ codes "text 0\n"
unfolding text_of numbered digits
no_lines = refl

two_lines : page_text Lines (text (codes "nop" ∷ [] ∷ [])) ≡ codes "text 2\nnop\n\n"
unfolding text_of numbered digits
two_lines = refl

-- lines are put in, and the first is put in the place of another; there is no third one, and the last piece is a command
session : IsTranscript 0 (codes "a x\ni 1 y\nr 2 z\nd 3\ntext\nq") (codes "ok 1\nok 2\nok 2\nrefused 2\ntext 2\ny\nz\nbad\n")
unfolding text_of numbered digits
session =
    let first = text (codes "x" ∷ []) in
    let both = text (codes "y" ∷ codes "x" ∷ []) in
    let last = text (codes "y" ∷ codes "z" ∷ []) in (
      last,
      (
        first,
        codes "ok 1\n",
        codes "ok 2\nok 2\nrefused 2\ntext 2\ny\nz\nbad\n",
        inl (refl, refl),
        refl,
        (
          both,
          codes "ok 2\n",
          codes "ok 2\nrefused 2\ntext 2\ny\nz\nbad\n",
          inl (refl, refl),
          refl,
          (
            last,
            codes "ok 2\n",
            codes "refused 2\ntext 2\ny\nz\nbad\n",
            inl (refl, refl),
            refl,
            (
              last,
              codes "refused 2\n",
              codes "text 2\ny\nz\nbad\n",
              (refl, refl),
              refl,
              (
                last,
                codes "text 2\ny\nz\n",
                codes "bad\n",
                (refl, refl),
                refl,
                (last, codes "bad\n", [], (refl, refl), refl, (refl, refl)),
              ),
            ),
          ),
        ),
      ),
    )

-- memory runs out in an edit, which may be tried again
tried_again : IsTranscript 0 (codes "a x\na x") (codes "refused 5\nok 1\n")
unfolding numbered digits
tried_again =
    let last = text (codes "x" ∷ []) in (
      last,
      (
        empty_text 0,
        codes "refused 5\n",
        codes "ok 1\n",
        inr (refl, refl),
        refl,
        (last, codes "ok 1\n", [], inl (refl, refl), refl, (refl, refl)),
      ),
    )

-- the second edit is refused for its place, and the third since there is no memory
edits : AreEdits (empty_text 0) (Insert 1 (codes "x") ∷ Delete 2 ∷ Insert 1 [] ∷ Replace 1 (codes "y") ∷ []) (Ok tt ∷ Err Place ∷ Err Memory ∷ Ok tt ∷ []) (text (codes "y" ∷ []))
edits =
    let before = text (codes "x" ∷ []) in
    (before, (refl, refl), (before, (refl, refl), (before, (refl, refl), (text (codes "y" ∷ []), (refl, refl), refl))))
