use Rattle.std.proofs.Common.{◌∙◌, true, false, sym, drop, ◌+◌}
use Rattle.std.proofs.lemmas.List.{drop_more}
use Rattle.std.proofs.Math.ListN.{get_or}
use Rattle.store_model.specs.declared.kind.Kind.TheVariants.{Plain}
use Rattle.recovery_je.specs.declared.numbered.Numbered.{Numbered}
use Rattle.recovery_je.proofs.CheckLaws.{wrong_next, right_next, turned}
use Rattle.recovery_je.proofs.checking.least_wrong.Goals as goal
use Rattle.recovery_je.proofs.checking.least_wrong.Goals.{then-is_wrong, else-is_wrong}

pub loop-database-preserved : goal.loop-database-preserved
loop-database-preserved g c =
    let none : Numbered = record { number = 0; kind = Plain } in
    let at : Numbered = get_or c.args.databases.now c.loop-database.database-index none in
    let parts = drop_more c.args.databases.now c.loop-database.database-index none c.loop-database-test.true in
    elim c.if-is_wrong.branch [
      | then-is_wrong w ↦
          wrong_next (g.T.Loads.stored c.args.trees.now) at w.lesser.result (drop c.loop-database.database-index c.args.databases.now)
          (drop (c.loop-database.database-index + 1) c.args.databases.now) c.loop-database.found c.if-is_wrong.found parts (turned _ true (sym c.is_wrong.ensures ∙ w.if-is_wrong.true)) w.found-is
          w.lesser.ensures.none w.lesser.ensures.some ∙ c.loop-database.invariant
      | else-is_wrong w ↦
          right_next (g.T.Loads.stored c.args.trees.now) at (drop c.loop-database.database-index c.args.databases.now)
          (drop (c.loop-database.database-index + 1) c.args.databases.now) c.loop-database.found c.if-is_wrong.found parts (turned _ false (sym c.is_wrong.ensures ∙ w.if-is_wrong.false)) w.found-is
          ∙ c.loop-database.invariant
    ]
