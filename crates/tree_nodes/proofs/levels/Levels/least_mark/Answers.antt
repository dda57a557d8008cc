use Rattle.std.proofs.Common.{◌≡◌, ◌<◌, ◌∙◌, [], length, arith}
use Rattle.std.proofs.lemmas.List.{get_or_default}
use Rattle.std.proofs.Math.Nat.{le_trans}
use Rattle.tree_nodes.specs.Levels.{row_of}
use Rattle.tree_nodes.proofs.MarkLaws.{from_more, marks_more}
use Rattle.tree_nodes.proofs.levels.Levels.least_mark.Goals as goal

pub loop-level-preserved : goal.loop-level-preserved
loop-level-preserved c =
    let rows = c.self.inside.levels.items in
    let k = c.loop-level.level in
    let test = c.loop-level-test.true in
    let end = c.len-level-end.ensures in
    let all = c.self.inside.levels.ok.0 in
    let within : k < length rows = omega (arith, test, end, all) in
    let is : c.index-row.result.now ≡ row_of rows k = c.index-row.ensures ∙ get_or_default rows k c.index-row.result.now [] within in (
      le_trans c.least_mark-least.ensures.upto c.loop-level.invariant.0,
      from_more rows k c.loop-level.least c.least_mark-least.result c.index-row.result.now is c.least_mark-least.ensures.upto c.least_mark-least.ensures.all c.loop-level.invariant.1,
      marks_more c.args.bound rows k c.loop-level.least c.least_mark-least.result c.index-row.result.now is c.least_mark-least.ensures.some c.loop-level.invariant.2,
    )
