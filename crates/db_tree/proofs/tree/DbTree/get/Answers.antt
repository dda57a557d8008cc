use Rattle.std.proofs.Common.{◌∙◌, sym}
use Rattle.db_tree.proofs.Seen.{occupied_rises}
use Rattle.db_tree.proofs.ReadCells.{seen_some, seen_free, seen_none}
use Rattle.db_tree.proofs.tree.DbTree.get.Goals as goal

pub returns-then-is_occupied-clause-found : goal.returns-then-is_occupied-clause-found
returns-then-is_occupied-clause-found c =
    seen_some c.args.self.now.cells c.args.name.now c.in-Some.cell.now c.len-len.ensures.rising c.in-Some.ensures.cell (sym c.is_occupied.ensures ∙ c.if-is_occupied.true)

pub returns-then-is_occupied-clause-rising : goal.returns-then-is_occupied-clause-rising
returns-then-is_occupied-clause-rising c = occupied_rises c.args.self.now.cells c.len-len.ensures.rising

pub returns-else-is_occupied-clause-found : goal.returns-else-is_occupied-clause-found
returns-else-is_occupied-clause-found c =
    seen_free c.args.self.now.cells c.args.name.now c.in-Some.cell.now c.len-len.ensures.rising c.in-Some.ensures.cell (sym c.is_occupied.ensures ∙ c.if-is_occupied.false)

pub returns-else-is_occupied-clause-rising : goal.returns-else-is_occupied-clause-rising
returns-else-is_occupied-clause-rising c = occupied_rises c.args.self.now.cells c.len-len.ensures.rising

pub returns-in-None-clause-found : goal.returns-in-None-clause-found
returns-in-None-clause-found c = seen_none c.args.self.now.cells c.args.name.now c.len-len.ensures.rising c.in-None.ensures.cell

pub returns-in-None-clause-rising : goal.returns-in-None-clause-rising
returns-in-None-clause-rising c = occupied_rises c.args.self.now.cells c.len-len.ensures.rising
