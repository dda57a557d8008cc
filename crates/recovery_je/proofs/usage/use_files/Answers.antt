use Rattle.std.proofs.Common.{◌≡◌, ◌∙◌, List, Option, Err, map, unwrap_or, refl, sym, ap, ap₂, subst}
use Rattle.log_entry.specs.declared.root.Root.{Root}
use Rattle.log_trees.specs.Placed.{Placed}
use Rattle.log_meaning.specs.Checkpoint.{Checkpoint, no_checkpoint, restarted}
use Rattle.log_meaning.specs.Meaning.{Meaning}
use Rattle.log_meaning.specs.Reading.{meaning_in, reading_of}
use Rattle.file_use.specs.Live.{is_in_catalog, is_record_from, images_in_use, is_one_of}
use Rattle.recovery_je.specs.declared.recovered.Recovered.{Recovered}
use Rattle.recovery_je.specs.Answer.{IsReadingOf, HasWrongIndex}
use Rattle.recovery_je.specs.Files.{AreSound, LogIsNoted}
use Rattle.recovery_je.specs.Recovering.{HasTrees}
use Rattle.recovery_je.specs.Measuring.{AreMeasured}
use Rattle.recovery_je.specs.Using.{uses_by}
use Rattle.recovery_je.proofs.AnswerLaws.{stopped, corrupt, corrupt_on, wrong}
use Rattle.recovery_je.proofs.UseLaws.{index_on, trees_again, used}
use Rattle.recovery_je.proofs.usage.use_files.Goals as goal

pub returns-in-Stopped-clause-corrupt : goal.returns-in-Stopped-clause-corrupt
returns-in-Stopped-clause-corrupt g c observable reads read =
    stopped observable reads c.args.files.now c.in-Stopped.corruption c.requires.files (subst (AreMeasured observable reads c.args.files.now c.args.lens.now) c.in-Stopped.is read)

pub returns-in_err-meant-in-All-clause-corrupt : goal.returns-in_err-meant-in-All-clause-corrupt
returns-in_err-meant-in-All-clause-corrupt g c observable reads read =
    let files = c.args.files.now in
    let es = c.in-All.entries in
    corrupt_on (λ f. meaning_in (map (λ n. n.0) files) es ≡ Err f) (λ corruption. IsReadingOf observable reads files (λ held. reading_of held ≡ Err corruption)) c.from_residual-in_err-meant-in-All.result
    c.in_err-meant-in-All.field-0.0 c.from_residual-in_err-meant-in-All.ensures.1 c.in_err-meant-in-All.ensures.found
    (λ f is. corrupt observable reads files es c.in-All.tail f c.requires.files (subst (AreMeasured observable reads files c.args.lens.now) c.in-All.is read).reading is)

pub returns-in_err-found-in-All-clause-index : goal.returns-in_err-found-in-All-clause-index
returns-in_err-found-in-All-clause-index g c observable reads read =
    let files = c.args.files.now in
    let made = c.in_ok-meant-in-All.meant in
    index_on (λ name. IsReadingOf observable reads files (HasWrongIndex name)) c.from_residual-in_err-found-in-All.result c.in_err-found-in-All.field-0.0 made.settled.wrong_index
    c.from_residual-in_err-found-in-All.ensures.1 c.in_err-found-in-All.ensures.wrong
    (λ name is. wrong observable reads files c.in-All.entries c.in-All.tail
    (record { store = made.settled.opening; last_txn = made.last_txn; last_node = made.last_node; last_db = made.last_db; checkpoint = made.checkpoint })
    (g.T.Loads.has_tree made.settled.trees) (g.T.Loads.stored made.settled.trees) made.settled.databases made.settled.records name c.requires.files
    (subst (AreMeasured observable reads files c.args.lens.now) c.in-All.is read).reading c.in_ok-meant-in-All.ensures.meant (sym is ∙ c.in_ok-meant-in-All.ensures.index.first))

pub returns-in_ok-uses-in-All-clause-used : goal.returns-in_ok-uses-in-All-clause-used
returns-in_ok-uses-in-All-clause-used g c observable reads read =
    let files = c.args.files.now in
    let lens = c.args.lens.now in
    let es = c.in-All.entries in
    let made = c.in_ok-meant-in-All.meant in
    let found = c.in_ok-found-in-All.found in
    let meaning : Meaning = record { store = made.settled.opening; last_txn = made.last_txn; last_node = made.last_node; last_db = made.last_db; checkpoint = made.checkpoint } in
    let meant = c.in_ok-meant-in-All.ensures.meant in
    let is = c.in_ok-found-in-All.ensures.recovered.1 in
    let again = trees_again (map (λ f. f.0) files) es meaning (g.T.Loads.has_tree made.settled.trees) (g.T.Loads.stored made.settled.trees) made.settled.databases made.settled.records (subst AreSound c.in-All.is c.requires.sound).1 meant in
    let trees = subst (λ (x : Recovered _). HasTrees (restarted es) (g.T.Loads.has_tree x.trees) (g.T.Loads.stored x.trees)) (sym is) again in
    let end = (subst LogIsNoted c.in-All.is c.requires.noted).end in
    let roots = c.deref.ensures.value ∙ c.in_ok-roots-in-All.ensures ∙ ap (λ (o : Option Checkpoint). (unwrap_or o no_checkpoint).roots) end in
    let uses = c.in_ok-uses-in-All.ensures (restarted es) trees
    ∙ ap₂ (λ (l : List Placed) (rs : List Root). uses_by (is_record_from (restarted es)) (is_one_of (images_in_use (is_in_catalog (restarted es)) l rs)) l lens) (c.in_ok-meant-in-All.ensures.kept refl) roots in
    used observable reads files es c.in-All.tail lens meaning c.in_ok-uses-in-All.uses found.databases found.records found.last_txn c.requires.files
    (subst (AreMeasured observable reads files lens) c.in-All.is read) meant.meaning_is
    (ap (λ (x : Recovered _). x.databases) is ∙ meant.databases_are) (ap (λ (x : Recovered _). x.records) is ∙ meant.records_are) (ap (λ (x : Recovered _). x.last_txn) is) uses
