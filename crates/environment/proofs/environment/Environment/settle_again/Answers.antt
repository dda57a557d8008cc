use Rattle.std.proofs.Common.{◌∙◌, ◌+◌, ◌≤◌, ℕ, ap, sym, subst}
use Rattle.je_answers.specs.Views.{changes_with, needs_in, outcome_of, with_numbers}
use Rattle.je_answers.specs.Locking.{all_got}
use Rattle.je_answers.specs.After.{with_locks}
use Rattle.in_tree.specs.Observed.{cells_of}
use Rattle.txn_core.specs.Known.{committed}
use Rattle.sessions.specs.AtStanding.{with_own}
use Rattle.environment.specs.declared.wrote.Wrote.TheVariants.{Done}
use Rattle.environment.proofs.OwnFree.{own_free}
use Rattle.environment.proofs.PlacesLaws.{its_moves}
use Rattle.environment.proofs.AgainEnds.{had_settles, pushed_again, room_settles, settled_again, taken_again, unsettled_again}
use Rattle.environment.proofs.environment.Environment.settle_again.Goals as goal

pub less-records-requires : goal.less-records-requires
less-records-requires g c =
    let r = c.requires.written in
    subst (λ (n : ℕ). n ≤ c.args.all) (sym c.had_of.ensures)
    (had_settles g.D.Disk.meaning r.1 r.0 c.args.self.now r.2 c.args.session c.args.txn c.args.level r.3 r.4 r.5 c.args.all r.6)

pub commit_own-requires-clause-room : goal.commit_own-requires-clause-room
commit_own-requires-clause-room g c =
    let r = c.requires.written in
    room_settles g.D.Disk.meaning r.1 r.0 c.args.self.now r.2 c.args.session c.args.txn c.args.level r.3 r.4 r.5 c.args.all r.6

pub commit_own-requires-clause-own : goal.commit_own-requires-clause-own
commit_own-requires-clause-own g c =
    let r = c.requires.written in
    let e = c.args.self.now in
    let valid = r.6.pushed.writes.0 in
    own_free (cells_of e.engine.trees) (with_own r.3.txn.0 (with_numbers (changes_with r.2 r.3 r.5 (outcome_of r.2 r.3 r.4 r.5).changes)) r.2).own (committed (cells_of e.engine.trees)) e.written.by_txn.entries c.args.txn valid.writes valid.names

pub returns-in-Ok-clause-comes : goal.returns-in-Ok-clause-comes
returns-in-Ok-clause-comes g c before most line st a asked t w moves =
    let taken = taken_again g.D.Disk.meaning most before c.args.self.now st c.args.session c.args.txn c.args.level a asked t c.args.all Done w
    c.commit_own.new.self.sessions c.commit_own.ensures.sessions in
    settled_again g.D.Disk.meaning most before c.args.self.now st c.args.session c.args.txn c.args.level a asked t c.args.all c.commit_own.new.self
    c.move_by.new.sessions c.end.new.self c.less-records.result line c.told.result w c.in-Ok.ensures.done
    (c.move_by.ensures (with_locks a (all_got a.txn (needs_in st a asked t) st.locks.at) (with_own a.txn.0 w.pushed.more st)) a asked (outcome_of st a asked t).place (its_moves c.args.session a st.actives asked (outcome_of st a asked t).place c.args.moves w.up.its moves)
    (c.answered.ensures.stands a (needs_in st a asked t) (with_own a.txn.0 w.pushed.more st) w.its_txn w.its_level taken))
    c.end.ensures.stands
    (ap (λ (n : ℕ). c.less-records.result + n) (sym c.had_of.ensures) ∙ c.less-records.ensures) c.told.ensures.answer c.told.ensures.victims

pub returns-in-Err-clause-comes : goal.returns-in-Err-clause-comes
returns-in-Err-clause-comes g c before most line st a asked t w moves =
    let pushed = pushed_again g.D.Disk.meaning most before c.args.self.now st c.args.session c.args.txn c.args.level a asked t c.args.all Done w
    c.commit_own.new.self.sessions c.commit_own.ensures.sessions in
    unsettled_again g.D.Disk.meaning most before c.args.self.now st c.args.session c.args.txn c.args.level a asked t c.args.all c.commit_own.new.self
    c.undo_own.new.sessions line c.told-in-Err.result w c.in-Err.ensures.failed (c.undo_own.ensures a (needs_in st a asked t) w.pushed.more st w.its_txn pushed) c.told-in-Err.ensures.answer c.told-in-Err.ensures.victims
