use Rattle.std.proofs.Common.{[], ◌∷◌}
use Rattle.log_entry.specs.declared.entry.Entry.TheVariants.{Commit}
use Rattle.txn_core.proofs.transaction.commit_names.Goals as goal

pub returns-clause-grew : goal.returns-clause-grew
returns-clause-grew g c =
    g.met.T.Records.grew_then c.args.trees.now c.commit.new.self c.drop_gone.new.trees (Commit c.args.txn ∷ []) [] c.in_ok-commit.ensures.grew c.drop_gone.ensures.grew
