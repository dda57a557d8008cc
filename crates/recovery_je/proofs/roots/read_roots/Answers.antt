use Rattle.std.proofs.Common.{◌≡◌, ◌∙◌, ap, sym, subst, map, List, [], Err}
use Rattle.log_entry.specs.declared.root.Root.{Root}
use Rattle.log_trees.specs.Walk.{Walk, each, read_root, read_roots}
use Rattle.log_meaning.specs.Checkpoint.{Checkpoint}
use Rattle.recovery_je.specs.Putting.{as_loaded, are_whole}
use Rattle.recovery_je.proofs.MeaningLaws.{handed_on}
use Rattle.log_meaning.specs.ReadNodes.{AreLoadedEach, IsRootLoaded}
use Rattle.recovery_je.proofs.PutLaws.{all_whole}
use Rattle.recovery_je.proofs.RootWalks.{walk_begins, walk_ends}
use Rattle.recovery_je.proofs.roots.read_roots.Goals as goal

pub returns-in_err-read_each-clause-found : goal.returns-in_err-read_each-clause-found
returns-in_err-read_each-clause-found g c =
    let files = map (λ f. f.0) c.args.files.now in
    let es = c.args.entries.now in
    let none : Walk = record { seen = []; rows = [] } in
    let same : each (read_root files es c.end.inside.at) c.as_slice.result.now none ≡ read_roots files es c.args.end.now.at c.args.end.now.roots =
    ap (λ (l : List Root). read_roots files es c.end.inside.at l) c.as_slice.ensures ∙ ap (λ (k : Checkpoint). read_roots files es k.at k.roots) c.end.view_is in
    let begins = walk_begins (g.T.Loads.stored c.args.trees) c.new.result.keys (λ d. g.met.T.Loads.none_stored c.args.trees d (c.requires.empty d)) c.new.ensures.empty in
    handed_on (λ f. each (read_root files es c.end.inside.at) c.as_slice.result.now none ≡ Err f) (λ f. read_roots files es c.args.end.now.at c.args.end.now.roots ≡ Err f) c.from_residual.result
    c.in_err-read_each.field-0.0 c.from_residual.ensures.1 (c.in_err-read_each.ensures.walk none begins) (λ f is. sym same ∙ is)

pub returns-clause-read : goal.returns-clause-read
returns-clause-read g c =
    let files = map (λ f. f.0) c.args.files.now in
    let es = c.args.entries.now in
    let none : Walk = record { seen = []; rows = [] } in
    let same : each (read_root files es c.end.inside.at) c.as_slice.result.now none ≡ read_roots files es c.args.end.now.at c.args.end.now.roots =
    ap (λ (l : List Root). read_roots files es c.end.inside.at l) c.as_slice.ensures ∙ ap (λ (k : Checkpoint). read_roots files es k.at k.roots) c.end.view_is in
    let begins = walk_begins (g.T.Loads.stored c.args.trees) c.new.result.keys (λ d. g.met.T.Loads.none_stored c.args.trees d (c.requires.empty d)) c.new.ensures.empty in
    let done = c.in_ok-read_each.ensures.walk none begins in
    let after = c.read_each.new.walking in
    walk_ends files es c.args.end.now (g.T.Loads.stored after.trees) after.seen.keys after.node after.db (done.0, sym same ∙ done.1, done.2)

pub returns-clause-nodes : goal.returns-clause-nodes
returns-clause-nodes g c =
    let es = c.args.entries.now in
    let after = c.read_each.new.walking in
    let roots : c.as_slice.result.now ≡ c.args.end.now.roots = c.as_slice.ensures ∙ ap (λ (k : Checkpoint). k.roots) c.end.view_is in
    record {
      keeps = c.entries.inside.whole;
      whole = λ t. all_whole es (sym (c.entries.invariant.1 ∙ ap are_whole c.entries.view_is) ∙ t);
      put = λ most le. subst (λ (l : List Root). AreLoadedEach (IsRootLoaded es c.entries.inside.whole most) l (as_loaded g.T.Loads.nodes g.T.Loads.read c.args.trees) (as_loaded g.T.Loads.nodes g.T.Loads.read after.trees)) roots (c.in_ok-read_each.ensures.nodes.puts most le);
    }
