use Rattle.std.proofs.Common.{◌∙◌, ap, map}
use Rattle.log_meaning.specs.Checkpoint.{Checkpoint}
use Rattle.recovery_je.proofs.RootWalks.{walk_begins}
use Rattle.recovery_je.proofs.TreeCheckLaws.{roots_all}
use Rattle.recovery_je.proofs.root_checks.check_roots.Goals as goal

pub returns : goal.returns
returns g c =
    let begins = walk_begins (g.T.Loads.stored c.args.trees) c.new.result.keys (λ d. g.met.T.Loads.none_stored c.args.trees d (c.requires.empty d)) c.new.ensures.empty in
    record {
      checked = roots_all g.T.Loads.stored (map (λ f. f.0) c.args.files.now) c.args.entries.now c.args.end.now c.end.inside.at c.as_slice.result.now _ c.check_each.new.check
          (c.as_slice.ensures ∙ ap (λ (k : Checkpoint). k.roots) c.end.view_is) (ap (λ (k : Checkpoint). k.at) c.end.view_is) begins c.new-2.ensures c.in_ok-check_each.ensures.checks;
    }
