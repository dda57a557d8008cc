use Rattle.std.proofs.Common.{◌∙◌, sym, subst, map, Option}
use Rattle.je_lsn.specs.declared.file_no.FileNo.{FileNo}
use Rattle.log_entry.specs.declared.entry.Entry.{Entry}
use Rattle.log_entry.specs.Body.{IsEntry}
use Rattle.log_trees.specs.Walk.{delta_on}
use Rattle.recovery_je.specs.Walking.{Answers}
use Rattle.recovery_je.proofs.LookupLaws.{named_entry}
use Rattle.recovery_je.proofs.images.read_delta.Goals as goal

pub delta_with-node-requires : goal.delta_with-node-requires
delta_with-node-requires c = named_entry IsEntry c.args.entries.now c.args.full c.in-Some.base c.requires.entries (sym c.in-Some.is ∙ c.in_ok-base.ensures)

pub returns-in-Some : goal.returns-in-Some
returns-in-Some c =
    subst (λ (o : Option Entry). Answers (delta_on (map (λ (f : FileNo). f.0) c.args.files.now) c.args.at c.args.db c.args.number c.args.full c.args.delta.now o) c.delta_with-node.result) (sym c.in-Some.is ∙ c.in_ok-base.ensures) c.delta_with-node.ensures
