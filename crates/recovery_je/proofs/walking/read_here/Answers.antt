use Rattle.std.proofs.Common.{◌∙◌, map, sym, true, false}
use Rattle.recovery_je.proofs.WalkLaws.{stands}
use Rattle.recovery_je.proofs.walking.read_here.Goals as goal

pub returns-then-may_stand : goal.returns-then-may_stand
returns-then-may_stand c =
    stands (map (λ f. f.0) c.args.files.now) c.args.entries.now c.args.d c.args.level c.args.at c.args.seen.now.keys c.in_ok-node.node true c.in_ok-node.ensures (sym c.may_stand.ensures ∙ c.if-may_stand.true)

pub returns : goal.returns
returns c =
    stands (map (λ f. f.0) c.args.files.now) c.args.entries.now c.args.d c.args.level c.args.at c.args.seen.now.keys c.in_ok-node.node false c.in_ok-node.ensures (sym c.may_stand.ensures ∙ c.if-may_stand.false)
