use Rattle.std.proofs.Common.{◌∙◌, ◌+◌, ℕ, Err, ap, count_by}
use Rattle.store_model.specs.declared.record_change.RecordChange.{RecordChange}
use Rattle.je_answers.specs.Views.{changes_with, needs_in, outcome_of, with_numbers}
use Rattle.sessions.specs.AtStanding.{owing, with_own}
use Rattle.active_txns.specs.Own.{is_set, none_counted}
use Rattle.environment.proofs.AgainEnds.{counts_none, written_again}
use Rattle.environment.proofs.AgainLaws.{not_again}
use Rattle.environment.proofs.OwnEnds.{goes_on, has_pushed, not_ends}
use Rattle.environment.proofs.environment.Environment.commit_again.Goals as goal

pub returns-in_default-clause-comes : goal.returns-in_default-clause-comes
returns-in_default-clause-comes g c = λ before most line st a asked t answer up moves is level auto bare.
    not_again g.D.Disk.meaning before c.args.self.now c.give_up.new.self most c.args.session st a asked t answer c.args.changes.items up (c.give_up.ensures.stands _ a _ st is up.taken)

pub push_and_log-requires-clause-taken : goal.push_and_log-requires-clause-taken
push_and_log-requires-clause-taken g c =
    let r = c.requires.taken in
    (r.0, r.1, c.args.session, r.2, r.3, r.4, r.5, r.6, r.7, r.8)

pub end_again-requires : goal.end_again-requires
end_again-requires g c =
    let r = c.requires.taken in
    let pushed = c.in-Ok.ensures.writes r.0 r.1 c.args.session r.2 r.3 r.4 r.5 r.6 r.7 r.8 in
    record {
      written = (
        r.0,
        r.1,
        r.2,
        r.3,
        r.4,
        r.5,
        written_again g.D.Disk.meaning r.1 r.0 c.args.self.now c.push_and_log.new.self r.2 c.args.session c.args.txn c.args.level r.3 r.4 r.5 r.6 c.args.changes.items c.in-Some.all c.in-Ok.wrote r.7
            c.requires.some r.8 r.9 r.10 r.11 pushed (c.in-Some.ensures.counted ∙ ap (λ (n : ℕ). c.args.self.now.engine.kept.totals.records + n) (c.count_set-set.ensures ∙ ap (count_by (λ (x : ℕ × RecordChange). is_set x.1)) c.as_slice.ensures.value)) c.in-Some.ensures.fits c.in-Some.ensures.next,
      );
    }

pub undo_own-requires : goal.undo_own-requires
undo_own-requires g c =
    let r = c.requires.taken in
    let pushed = c.in-Err.ensures.writes r.0 r.1 c.args.session r.2 r.3 r.4 r.5 r.6 r.7 r.8 in
    let needs = needs_in r.2 r.3 r.4 r.5 in
    (r.3, needs, pushed.more, r.2, r.8, has_pushed g.D.Disk.meaning c.push_and_log.new.self.sessions r.3 c.args.txn needs pushed.more none_counted r.2 r.8 (counts_none r.2 r.3 c.args.txn r.8 r.11) pushed.taken)

pub returns-in-Ok-clause-comes : goal.returns-in-Ok-clause-comes
returns-in-Ok-clause-comes g c before most line st a asked t answer up moves is level auto bare =
    let pushed = c.in-Ok.ensures.writes before most c.args.session st a asked t answer up is in
    c.end_again.ensures.comes before most line st a asked t (written_again g.D.Disk.meaning most before c.args.self.now c.push_and_log.new.self st c.args.session c.args.txn c.args.level a asked t answer c.args.changes.items c.in-Some.all c.in-Ok.wrote up
    c.requires.some is level auto bare pushed (c.in-Some.ensures.counted ∙ ap (λ (n : ℕ). c.args.self.now.engine.kept.totals.records + n) (c.count_set-set.ensures ∙ ap (count_by (λ (x : ℕ × RecordChange). is_set x.1)) c.as_slice.ensures.value)) c.in-Some.ensures.fits c.in-Some.ensures.next) moves

pub returns-in-Ok-clause-cause : goal.returns-in-Ok-clause-cause
returns-in-Ok-clause-cause g c = c.end_again.ensures.cause (g.D.Disk.meaning.faults _) c.push_and_log.ensures.never_falls c.in-Ok.ensures.rose

pub returns-in-Err-clause-comes : goal.returns-in-Err-clause-comes
returns-in-Err-clause-comes g c before most line st a asked t answer up moves is level auto bare =
    let p = c.in-Err.ensures.writes before most c.args.session st a asked t answer up is in
    let needs = needs_in st a asked t in
    let pushed = has_pushed g.D.Disk.meaning c.push_and_log.new.self.sessions a c.args.txn needs p.more none_counted st is (counts_none st a c.args.txn is bare) p.taken in
    not_ends g.D.Disk.meaning before c.args.self.now most c.args.session st a asked t answer c.args.changes.items up c.push_and_log.new.self c.undo_own.new.sessions c.in-Err.error p (c.undo_own.ensures a needs p.more st is pushed)

pub returns-in-Err-clause-bounds : goal.returns-in-Err-clause-bounds
returns-in-Err-clause-bounds g c =
    let r = c.requires.taken in
    let p = c.in-Err.ensures.writes r.0 r.1 c.args.session r.2 r.3 r.4 r.5 r.6 r.7 r.8 in
    let cs = changes_with r.2 r.3 r.5 (outcome_of r.2 r.3 r.4 r.5).changes in
    goes_on g.D.Disk.meaning c.args.self.now c.push_and_log.new.self r.2 r.3.txn.0 cs (owing (with_own r.3.txn.0 (with_numbers cs) r.2)) (Err c.in-Err.error) c.requires.bounds p.writes
