use Rattle.std.proofs.Common.{◌∙◌, List, map, ap, sym, subst}
use Rattle.std.specs.List.{AllByRecursion}
use Rattle.je_order.specs.declared.txn_id.TxnId.{TxnId}
use Rattle.log_entry.specs.Body.{IsEntry}
use Rattle.record_tree.specs.Logged.{entry_for}
use Rattle.record_tree.specs.declared.tree_change.TreeChange.{TreeChange}
use Rattle.je_answers.specs.Views.{changes_with, needs_in, outcome_of}
use Rattle.active_txns.specs.Own.{counted}
use Rattle.txn_log.specs.Own.{tree_of}
use Rattle.txn_views.specs.Laws.{own_names}
use Rattle.environment.specs.Writing.{MayWrite}
use Rattle.environment.proofs.OwnEnds.{entries_now, is_active_, last_db_now, may_write, none_pushed, valid_now}
use Rattle.environment.proofs.environment.Environment.push_and_log.Goals as goal

-- taken: before, most, session, standing, transaction, call, target, answer, taken up, its number
pub push_copied-requires-clause-can : goal.push_copied-requires-clause-can
push_copied-requires-clause-can g c =
    let r = c.requires.taken in
    let old = c.args.self.now in
    let cs = changes_with r.3 r.4 r.6 (outcome_of r.3 r.4 r.5 r.6).changes in (
      r.3,
      cs,
      valid_now g.D.Disk.meaning r.0 old r.1 r.2 r.3 r.4 r.5 r.6 r.7 c.args.changes.items r.8,
      subst (λ (t : TxnId). MayWrite r.3 t.0 cs) r.9 (may_write g.D.Disk.meaning r.0 old r.1 r.2 r.3 r.4 r.5 r.6 r.7 c.args.changes.items r.8 c.are_ordered.ensures c.requires.some),
      c.in-Ok.ensures.changes ∙ ap (map tree_of) r.8.changes_are,
    )

pub push_copied-requires-clause-entries : goal.push_copied-requires-clause-entries
push_copied-requires-clause-entries g c =
    let r = c.requires.taken in
    subst (λ (l : List TreeChange). AllByRecursion (λ x. IsEntry (entry_for c.args.txn x.db x.name x.value)) l) (sym (c.in-Ok.ensures.changes ∙ ap (map tree_of) r.8.changes_are))
    (entries_now g.D.Disk.meaning r.0 c.args.self.now r.1 r.2 r.3 r.4 r.5 r.6 r.7 c.args.changes.items r.8 c.are_ordered.ensures c.args.txn
    c.number_fits.ensures c.db_fits.ensures)

pub returns-in-Ok-clause-writes : goal.returns-in-Ok-clause-writes
returns-in-Ok-clause-writes g c before most session st a asked t answer up is =
    let old = c.args.self.now in
    c.push_copied.ensures.writes st (changes_with st a t (outcome_of st a asked t).changes) a (needs_in st a asked t)
    (valid_now g.D.Disk.meaning before old most session st a asked t answer c.args.changes.items up)
    (may_write g.D.Disk.meaning before old most session st a asked t answer c.args.changes.items up c.are_ordered.ensures c.requires.some) is
    (is_active_ g.D.Disk.meaning before old most session st a asked t answer c.args.changes.items up)
    (last_db_now g.D.Disk.meaning before old most session st a asked t answer c.args.changes.items up)
    (c.counted-counts.ensures ∙ ap counted (c.as_slice.ensures.value ∙ up.changes_are)) (c.in-Ok.ensures.changes ∙ ap (map tree_of) up.changes_are) (c.in-Ok.ensures.names ∙ ap own_names up.changes_are) up.taken

pub returns-in-Err-clause-writes : goal.returns-in-Err-clause-writes
returns-in-Err-clause-writes g c before most session st a asked t answer up is =
    none_pushed g.D.Disk.meaning c.args.self.now c.args.self.now.sessions a (needs_in st a asked t) st (changes_with st a t (outcome_of st a asked t).changes) c.in-Err.error
    (valid_now g.D.Disk.meaning before c.args.self.now most session st a asked t answer c.args.changes.items up) up.taken
