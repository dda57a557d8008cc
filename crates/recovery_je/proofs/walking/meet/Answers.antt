use Rattle.std.proofs.Common.{◌≡◌, ◌≤◌, max, refl, rules, arith}
use Rattle.std.specs.BTreeSet.{insert_key}
use Rattle.std.specs.Ordering.{nat_cmp}
use Rattle.recovery_je.proofs.WalkLaws.{met_one}
use Rattle.recovery_je.proofs.walking.meet.Goals as goal

pub returns-clause-walk : goal.returns-clause-walk
returns-clause-walk g c walk at =
    let before = c.args.walking.now in
    let put : c.insert.new.self.keys ≡ insert_key nat_cmp before.seen.keys c.args.node.now.number = search rules in
    met_one (g.T.Loads.stored before.trees) (g.T.Loads.stored c.load_node.new.self) before.seen.keys c.insert.new.self.keys before.node before.db c.max-walking.result c.args.node.now walk c.in_ok-load_node.ensures.stored put
    c.max-walking.ensures at

pub returns-clause-nodes : goal.returns-clause-nodes
returns-clause-nodes g c =
    let greatest : c.max-walking.result ≡ max c.args.walking.now.node c.args.node.now.number = c.max-walking.ensures in
    record {
      same = refl;
      rises = omega (arith, greatest);
      puts = λ most le. ((let high : c.max-walking.result ≤ most = le in omega (arith, greatest, high)), c.in_ok-load_node.ensures.nodes, c.in_ok-load_node.ensures.read);
    }
