use Rattle.std.proofs.Common.{None, Ok, Err}
use Rattle.txn_locks.specs.Taking.{state_of}
use Rattle.je_answers.specs.Views.{changes_with, needs_in, outcome_of, with_numbers}
use Rattle.sessions.specs.AtStanding.{owing, with_own}
use Rattle.environment.proofs.OwnEnds.{goes_on, has_pushed, not_ends, stands_taken, writes_up}
use Rattle.environment.proofs.PlacesLaws.{its_moves}
use Rattle.environment.proofs.environment.Environment.write_up.Goals as goal

pub end_own-requires : goal.end_own-requires
end_own-requires g c =
    let r = c.requires.taken in
    let s = c.args.self.now.sessions in
    let st = r.3 in
    let a = r.4 in
    let needs = needs_in st a r.5 r.6 in
    let p = c.in-Ok.ensures.writes r.0 r.1 r.2 st a r.5 r.6 r.7 r.8 r.9 in
    let counts = c.own-counts.ensures (record st { fault = None; locks = state_of s.locks.locks }) (stands_taken g.D.Disk.meaning s a needs st r.8.taken) in
    (a, needs, p.more, st, r.9, r.10, has_pushed g.D.Disk.meaning c.push_and_log.new.self.sessions a c.args.txn needs p.more _ st r.9 counts p.taken)

pub undo_own-requires : goal.undo_own-requires
undo_own-requires g c =
    let r = c.requires.taken in
    let s = c.args.self.now.sessions in
    let st = r.3 in
    let a = r.4 in
    let needs = needs_in st a r.5 r.6 in
    let p = c.in-Err.ensures.writes r.0 r.1 r.2 st a r.5 r.6 r.7 r.8 r.9 in
    let counts = c.own-counts.ensures (record st { fault = None; locks = state_of s.locks.locks }) (stands_taken g.D.Disk.meaning s a needs st r.8.taken) in
    (a, needs, p.more, st, r.9, has_pushed g.D.Disk.meaning c.push_and_log.new.self.sessions a c.args.txn needs p.more _ st r.9 counts p.taken)

pub returns-in-Ok-clause-comes : goal.returns-in-Ok-clause-comes
returns-in-Ok-clause-comes g c before most session st a asked t answer up moves is level =
    let old = c.args.self.now in
    let s = old.sessions in
    let needs = needs_in st a asked t in
    let p = c.in-Ok.ensures.writes before most session st a asked t answer up is in
    let counts = c.own-counts.ensures (record st { fault = None; locks = state_of s.locks.locks }) (stands_taken g.D.Disk.meaning s a needs st up.taken) in
    let pushed = has_pushed g.D.Disk.meaning c.push_and_log.new.self.sessions a c.args.txn needs p.more _ st is counts p.taken in
    writes_up g.D.Disk.meaning before old most session st a asked t answer c.args.changes.items up c.push_and_log.new.self c.end_own.new.sessions c.in-Ok.wrote c.requires.some p (c.end_own.ensures a asked (outcome_of st a asked t).place needs p.more st is level (its_moves session a st.actives asked (outcome_of st a asked t).place c.args.moves up.its moves) pushed)

pub returns-in-Ok-clause-bounds : goal.returns-in-Ok-clause-bounds
returns-in-Ok-clause-bounds g c =
    let r = c.requires.taken in
    let p = c.in-Ok.ensures.writes r.0 r.1 r.2 r.3 r.4 r.5 r.6 r.7 r.8 r.9 in
    goes_on g.D.Disk.meaning c.args.self.now c.push_and_log.new.self r.3 r.4.txn.0 (changes_with r.3 r.4 r.6 (outcome_of r.3 r.4 r.5 r.6).changes) (owing (with_own r.4.txn.0 (with_numbers (changes_with r.3 r.4 r.6 (outcome_of r.3 r.4 r.5 r.6).changes)) r.3)) (Ok c.in-Ok.wrote) c.requires.bounds p.writes

pub returns-in-Err-clause-comes : goal.returns-in-Err-clause-comes
returns-in-Err-clause-comes g c before most session st a asked t answer up moves is level =
    let old = c.args.self.now in
    let s = old.sessions in
    let needs = needs_in st a asked t in
    let p = c.in-Err.ensures.writes before most session st a asked t answer up is in
    let counts = c.own-counts.ensures (record st { fault = None; locks = state_of s.locks.locks }) (stands_taken g.D.Disk.meaning s a needs st up.taken) in
    let pushed = has_pushed g.D.Disk.meaning c.push_and_log.new.self.sessions a c.args.txn needs p.more _ st is counts p.taken in
    not_ends g.D.Disk.meaning before old most session st a asked t answer c.args.changes.items up c.push_and_log.new.self c.undo_own.new.sessions c.in-Err.error p (c.undo_own.ensures a needs p.more st is pushed)

pub returns-in-Err-clause-bounds : goal.returns-in-Err-clause-bounds
returns-in-Err-clause-bounds g c =
    let r = c.requires.taken in
    let p = c.in-Err.ensures.writes r.0 r.1 r.2 r.3 r.4 r.5 r.6 r.7 r.8 r.9 in
    goes_on g.D.Disk.meaning c.args.self.now c.push_and_log.new.self r.3 r.4.txn.0 (changes_with r.3 r.4 r.6 (outcome_of r.3 r.4 r.5 r.6).changes) (owing (with_own r.4.txn.0 (with_numbers (changes_with r.3 r.4 r.6 (outcome_of r.3 r.4 r.5 r.6).changes)) r.3)) (Err c.in-Err.error) c.requires.bounds p.writes
