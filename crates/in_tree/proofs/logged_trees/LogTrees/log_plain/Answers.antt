use Rattle.std.proofs.Common.{[], ◌∷◌, ◌∙◌, refl, sym}
use Rattle.in_tree.specs.Fitting.{fitting_tried, fitting_unchanged}
use Rattle.in_tree.proofs.Checked.{tried_none}
use Rattle.in_tree.proofs.logged_trees.LogTrees.log_plain.Goals as goal

pub returns-then-has_failed-clause-tried : goal.returns-then-has_failed-clause-tried
returns-then-has_failed-clause-tried g c = λ is. (
  [],
  (c.args.entry.now ∷ [], refl),
  tried_none g.D.Disk.meaning c.args.self.now.log (sym c.has_failed.ensures ∙ c.if-has_failed.true),
)

pub returns-in-Ok-append_plain-clause-got : goal.returns-in-Ok-append_plain-clause-got
returns-in-Ok-append_plain-clause-got g c =
    record { mid = c.take_place.new.self.log; same = c.take_place.ensures.log; grew = c.in-Ok-append_plain.ensures.grew; at_is = c.in-Ok-append_plain.ensures.at }

pub returns-in-Err-append_plain-clause-tried : goal.returns-in-Err-append_plain-clause-tried
returns-in-Err-append_plain-clause-tried g c = λ is. (
  c.args.entry.now ∷ [],
  ([], refl),
  fitting_tried g.D.Disk.meaning c.args.self.now.log c.take_place.new.self.log c.append_plain.new.log [] (c.args.entry.now ∷ [])
      (fitting_unchanged g.D.Disk.meaning c.args.self.now.log c.take_place.new.self.log c.take_place.ensures.log) c.in-Err-append_plain.ensures.tried,
)
