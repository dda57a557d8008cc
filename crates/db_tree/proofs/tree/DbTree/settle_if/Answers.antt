use Rattle.std.proofs.Common.{◌∙◌, refl, sym}
use Rattle.std.proofs.lemmas.Bool.{true≢false}
use Rattle.db_tree.proofs.tree.DbTree.settle_if.Goals as goal

pub returns-then-not-may-clause-settled : goal.returns-then-not-may-clause-settled
returns-then-not-may-clause-settled c =
    let away = c.requires.may c.if-not-may.true in
    record {
      e = away.e;
      over = away.over;
      cleared = λ h. absurd (true≢false (sym h ∙ away.away));
      kept = λ h. refl;
    }

pub returns-then-not-is_shown-clause-settled : goal.returns-then-not-is_shown-clause-settled
returns-then-not-is_shown-clause-settled c =
    let away = c.requires.shown c.if-not-is_shown.true in
    record {
      e = away.e;
      over = away.over;
      cleared = λ h. absurd (true≢false (sym h ∙ away.away));
      kept = λ h. refl;
    }
