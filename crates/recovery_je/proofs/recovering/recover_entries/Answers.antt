use Rattle.std.proofs.Common.{◌≡◌, ◌≤◌, ◌∙◌, [], refl, ap, sym, subst, map, max, ℕ, unwrap_or, Option, Err, arith}
use Rattle.log_entry.specs.declared.root.Root.{Root}
use Rattle.log_meaning.specs.Redo.{redone}
use Rattle.log_meaning.specs.Checkpoint.{Checkpoint, no_checkpoint, last_checkpoint, last_end, behind}
use Rattle.log_meaning.specs.Meaning.{most}
use Rattle.log_meaning.specs.Reading.{meaning_in, redo_corruption}
use Rattle.recovery_je.specs.Recovering.{IsWalked, IsWrong}
use Rattle.recovery_je.specs.Putting.{as_loaded, AreRootsPut, count_from}
use Rattle.recovery_je.proofs.NumberLaws.{from_none_txn, from_none_node, from_none_db}
use Rattle.recovery_je.proofs.ReadAgain.{are_read}
use Rattle.recovery_je.proofs.MeaningLaws.{meant, found_wrong, handed_on, same_stored}
use Rattle.recovery_je.proofs.recovering.recover_entries.Goals as goal

pub returns-in_err-settled-clause-found : goal.returns-in_err-settled-clause-found
returns-in_err-settled-clause-found g c =
    let files = map (λ f. f.0) c.args.files.now in
    let es = c.args.entries.now in
    let e : Checkpoint = record { at = c.end.inside.at; number = c.end.inside.number; redo = c.end.inside.redo; last_txn = c.end.inside.last_txn; last_node = c.end.inside.last_node; last_db = c.end.inside.last_db; roots = c.end.inside.roots } in
    let found_end : c.args.notes.end ≡ last_end es = c.requires.noted.end in
    let at : e ≡ last_checkpoint es = c.end.view_is ∙ c.or_none-end.ensures ∙ ap (λ (o : Option Checkpoint). unwrap_or o no_checkpoint) found_end in
    let right = c.redo_corruption-corruption.ensures ∙ ap (redo_corruption files) found_end in
    let walk = c.in_ok-walked.ensures.read.0 in
    let before = g.T.Loads.stored c.in_ok-walked.walked.trees in
    let walked = subst (λ (k : Checkpoint). IsWalked files es k c.in_ok-walked.walked.numbers before walk) (sym c.end.view_is) c.in_ok-walked.ensures.read.1 in
    let redo = behind walk.rows (redone e.redo es) in
    handed_on (IsWrong redo) (λ f. meaning_in files es ≡ Err f) c.from_residual-in_err-settled.result c.in_err-settled.field-0.0 c.from_residual-in_err-settled.ensures.1
    (c.in_err-settled.ensures.found redo (c.in_ok-trees.ensures.redone walk.rows (same_stored walk.rows before (g.T.Loads.stored c.begin_redo.new.self) c.begin_redo.ensures.stored walked.records)))
    (λ f wrong. found_wrong files es e c.redo_corruption-corruption.result walk f at right c.in_ok-walked.ensures.right walked.read wrong)

pub returns-clause-meant : goal.returns-clause-meant
returns-clause-meant g c =
    let files = map (λ f. f.0) c.args.files.now in
    let es = c.args.entries.now in
    let e : Checkpoint = record { at = c.end.inside.at; number = c.end.inside.number; redo = c.end.inside.redo; last_txn = c.end.inside.last_txn; last_node = c.end.inside.last_node; last_db = c.end.inside.last_db; roots = c.end.inside.roots } in
    let found_end : c.args.notes.end ≡ last_end es = c.requires.noted.end in
    let at : e ≡ last_checkpoint es = c.end.view_is ∙ c.or_none-end.ensures ∙ ap (λ (o : Option Checkpoint). unwrap_or o no_checkpoint) found_end in
    let right = c.redo_corruption-corruption.ensures ∙ ap (redo_corruption files) found_end in
    let walk = c.in_ok-walked.ensures.read.0 in
    let before = g.T.Loads.stored c.in_ok-walked.walked.trees in
    let walked = subst (λ (k : Checkpoint). IsWalked files es k c.in_ok-walked.walked.numbers before walk) (sym c.end.view_is) c.in_ok-walked.ensures.read.1 in
    let redo = behind walk.rows (redone e.redo es) in
    meant files es e c.redo_corruption-corruption.result c.in_ok-walked.walked.numbers before (g.T.Loads.stored c.in_ok-settled.settled.trees) (g.T.Loads.has_tree c.in_ok-settled.settled.trees) c.in_ok-settled.settled.opening
    c.in_ok-settled.settled.databases c.in_ok-settled.settled.records c.max-2.result c.max-last_node.result c.max-5.result walk at right c.in_ok-walked.ensures.right walked
    (c.in_ok-settled.ensures.settled redo (c.in_ok-trees.ensures.redone walk.rows (same_stored walk.rows before (g.T.Loads.stored c.begin_redo.new.self) c.begin_redo.ensures.stored walked.records)))
    (c.max-2.ensures ∙ ap (λ (n : ℕ). max e.last_txn n) (from_none_txn e.redo es [] c.in_ok-numbers.numbers refl c.in_ok-numbers.ensures))
    (c.max-last_node.ensures ∙ ap (λ (n : ℕ). max e.last_node n) (c.max.ensures ∙ ap (λ (n : ℕ). max c.in_ok-walked.walked.numbers.node n)
    (from_none_node e.redo es [] c.in_ok-numbers.numbers refl c.in_ok-numbers.ensures)))
    (c.max-5.ensures ∙ ap (λ (n : ℕ). max e.last_db n) (c.max-4.ensures
    ∙ ap (λ (n : ℕ). max n c.max-3.result) (c.greatest_db-roots_db.ensures ∙ ap (most (λ (r : Root). r.db)) c.as_slice.ensures)
    ∙ ap (λ (n : ℕ). max (most (λ (r : Root). r.db) e.roots) n) (c.max-3.ensures ∙ ap (λ (n : ℕ). max c.in_ok-walked.walked.numbers.db n)
    (from_none_db e.redo es [] c.in_ok-numbers.numbers refl c.in_ok-numbers.ensures))))

pub returns-clause-redone : goal.returns-clause-redone
returns-clause-redone g c =
    let es = c.args.entries.now in
    let e : Checkpoint = record { at = c.end.inside.at; number = c.end.inside.number; redo = c.end.inside.redo; last_txn = c.end.inside.last_txn; last_node = c.end.inside.last_node; last_db = c.end.inside.last_db; roots = c.end.inside.roots } in
    let found_end : c.args.notes.end ≡ last_end es = c.requires.noted.end in
    let at : e ≡ last_checkpoint es = c.end.view_is ∙ c.or_none-end.ensures ∙ ap (λ (o : Option Checkpoint). unwrap_or o no_checkpoint) found_end in
    c.in_ok-redone.ensures ∙ ap (λ (k : Checkpoint). count_from k.redo es) at

pub returns-clause-fits : goal.returns-clause-fits
returns-clause-fits g c =
    let files = map (λ f. f.0) c.args.files.now in
    let es = c.args.entries.now in
    let e : Checkpoint = record { at = c.end.inside.at; number = c.end.inside.number; redo = c.end.inside.redo; last_txn = c.end.inside.last_txn; last_node = c.end.inside.last_node; last_db = c.end.inside.last_db; roots = c.end.inside.roots } in
    let found_end : c.args.notes.end ≡ last_end es = c.requires.noted.end in
    let at : e ≡ last_checkpoint es = c.end.view_is ∙ c.or_none-end.ensures ∙ ap (λ (o : Option Checkpoint). unwrap_or o no_checkpoint) found_end in
    let walk = c.in_ok-walked.ensures.read.0 in
    let numbers = c.in_ok-walked.walked.numbers in
    let before = g.T.Loads.stored c.in_ok-walked.walked.trees in
    let state = as_loaded g.T.Loads.nodes g.T.Loads.read in
    let after = state c.in_ok-walked.walked.trees in
    let begun = state c.args.trees in
    let read = c.begin_redo.new.self in
    let walked = subst (λ (k : Checkpoint). IsWalked files es k numbers before walk) (sym c.end.view_is) c.in_ok-walked.ensures.read.1 in
    let put = subst (λ (k : Checkpoint). AreRootsPut es k.roots numbers.node begun after) (sym c.end.view_is) c.in_ok-walked.ensures.nodes in
    let first = c.max.ensures in
    let next = c.max-last_node.ensures in
    let le : numbers.node ≤ c.max-last_node.result = omega (arith, first, next) in
    record {
      read = read;
      formed = c.begin_redo.ensures.formed;
      roots = are_read files es e numbers begun after (g.T.Loads.nodes read) (g.T.Loads.read read) before (g.T.Loads.stored read) walk c.max-last_node.result (g.T.Loads.last_number read) c.requires.entries at walked put
          (λ d k low. g.met.T.Loads.no_nodes c.args.trees d k low (c.requires.empty d)) (λ d x. g.met.T.Loads.none_read c.args.trees d x (c.requires.empty d)) c.begin_redo.ensures.nodes c.begin_redo.ensures.read c.begin_redo.ensures.stored le c.begin_redo.ensures.numbers;
      fit = λ base small below fit. c.in_ok-settled.ensures.fits es base (c.in_ok-trees.ensures.fits base small below fit);
      redo_is = sym (ap (λ (k : Checkpoint). k.redo) at);
    }
