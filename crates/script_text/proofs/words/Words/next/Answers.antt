use Rattle.std.proofs.Common.{◌+◌, ◌∙◌, sym, ap}
use Rattle.std.specs.Option.{option_copied}
use Rattle.std.proofs.lemmas.List.{take_rest}
use Rattle.script_text.specs.Words.{words_left}
use Rattle.script_text.proofs.TextCuts.{words_cut, words_whole}
use Rattle.script_text.proofs.words.Words.next.Goals as goal

pub returns-in-Some-clause-next : goal.returns-in-Some-clause-next
returns-in-Some-clause-next c =
    let text = c.in_ok-text.text.now in
    let cut = words_cut text c.in-Some.at (sym c.in-Some.ensures) in
    rw (take_rest text (c.in-Some.at + 1)) (sym c.self.view_is ∙ ap (λ r. words_left (option_copied r)) c.in_ok-text.was ∙ cut)

pub returns-in-None-clause-next : goal.returns-in-None-clause-next
returns-in-None-clause-next c =
    let whole = words_whole c.in_ok-text.text.now (sym c.in-None.ensures) in
    sym c.self.view_is ∙ ap (λ r. words_left (option_copied r)) c.in_ok-text.was ∙ whole
