use Rattle.std.proofs.Common.{◌∙◌, ◌==◌, ap, sym}
use Rattle.std.specs.List.{list_any}
use Rattle.std.proofs.lemmas.List.Sorted.{list_any-IsPermutation}
use Rattle.recovery_je.proofs.FinishLaws.{finished_along, finished_from}
use Rattle.recovery_je.proofs.finishing.finish.Goals as goal

pub returns-clause-finished : goal.returns-clause-finished
returns-clause-finished g c =
    let stored = g.T.Loads.stored in
    finished_along c.deref-2.result.now c.args.numbers.items (g.T.Loads.has_tree c.drop_others.new.trees) (stored c.args.trees.now) (stored c.drop_others.new.trees)
    (λ d. ap (list_any (λ n. n == d)) c.deref-2.ensures.value ∙ sym (list_any-IsPermutation (λ n. n == d) c.args.numbers.items c.sort_unstable.new.self.items c.sort_unstable.ensures.permutation))
    (finished_from c.deref-2.result.now (g.T.Loads.has_tree c.drop_others.new.trees) (stored c.args.trees.now) (stored c.make_missing.new.trees) (stored c.drop_others.new.trees)
    (λ d. c.in_ok-make_missing.ensures.stored d ∙ c.in_ok-ensure_tree.ensures.stored d) c.in_ok-drop_others.ensures.finished)
