use Rattle.std.proofs.Common.{drop, sym, ◌∙◌, ap}
use Rattle.rv_commands.proofs.WordLemmas.{word_before, word_after, word_whole, word_last}
use Rattle.rv_commands.proofs.command.split_word.Goals as goal

pub returns-in_default-clause-word : goal.returns-in_default-clause-word
returns-in_default-clause-word c = sym (word_whole _ c.in_default.ensures)

pub returns-in_default-clause-rest : goal.returns-in_default-clause-rest
returns-in_default-clause-rest c = sym (word_last _ c.in_default.ensures)

pub returns-clause-word : goal.returns-clause-word
returns-clause-word c = c.split_at.ensures.front ∙ sym (word_before _ _ c.in-Some.ensures)

pub returns-clause-rest : goal.returns-clause-rest
returns-clause-rest c =
    c.split_at-2.ensures.back ∙ ap (λ l. drop 1 l) c.split_at.ensures.back ∙ sym (word_after _ _ c.in-Some.ensures)
