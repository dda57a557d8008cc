use Rattle.std.proofs.Common.{◌≡◌, None, ap, inl, inr, refl, sym, subst, ◌∙◌, Option}
use Rattle.je_disk.specs.Moments.{now}
use Rattle.serial_replay.proofs.Attempts.{reached_goes-on}
use Rattle.environment.specs.Valid.{fitting}
use Rattle.je_disk.specs.States.{State}
use Rattle.store_model.specs.declared.answer.Answer.TheVariants.{DiskFault, Durable, Invalid}
use Rattle.store_model.specs.declared.answer.Fault.{Fault}
use Rattle.store_model.specs.declared.event.Event.TheVariants.{WriteOut}
use Rattle.je_answers.specs.Events.{IsWrittenOut}
use Rattle.log_buffer.specs.Buffer.{disk_of}
use Rattle.in_tree.specs.Observed.{cells_of, has_tree_of}
use Rattle.engine.proofs.GuardLaws.{guarded_quiet}
use Rattle.engine.proofs.WholeLaws.{still_works}
use Rattle.engine.proofs.WriteOutLaws.{not_written_safely, written_safely}
use Rattle.environment.proofs.Standing.{IsLike, at_failed, at_like}
use Rattle.environment.proofs.environment.Environment.write_out.Goals as goal

pub returns-in-Some-clause-crash : goal.returns-in-Some-clause-crash
returns-in-Some-clause-crash g c = λ observed most st start journal here is. (
  is.0,
  guarded_quiet st is.0 start (g.D.Disk.meaning.history (disk_of c.args.self.now.engine.trees.log)) c.args.self.now.engine.trees.log journal (WriteOut (Invalid c.in-Some.first)) refl refl refl refl refl is.1,
)

pub returns-in-Ok-clause-goes_on : goal.returns-in-Ok-clause-goes_on
returns-in-Ok-clause-goes_on g c = λ most st here.
    let e = c.args.self.now in
    let state : g.row.D.Denot → State = λ d. now (g.D.Disk.meaning.history d) in
    let old = e.engine.trees.log in
    let new = c.write_out.new.self in
    let none : st.fault ≡ None = sym here.at.fault ∙ c.in_default.is in
    let like : IsLike g.D.Disk.meaning.observable (state (disk_of old)) (state (disk_of new)) old new = record {
      logs = c.in-Ok.ensures.grew.log;
      end = c.write_out.ensures.end;
      max = c.write_out.ensures.file_max;
      works = still_works c.write_out.result c.in-Ok.field-0 new c.in-Ok.is c.write_out.ensures.cause.failed;
      room = c.in-Ok.ensures.room;
    } in
    record {
      limit = None;
      bounded = inl refl;
      answered = subst (λ (f : Option Fault). IsWrittenOut f st.commits (Durable e.engine.kept.commits)) (sym none) (inl (ap Durable here.at.commits));
      here = record {
        at = at_like most g.D.Disk.meaning.observable (state (disk_of old)) (state (disk_of new)) old new (cells_of e.engine.trees) (has_tree_of e.engine.trees) (fitting e.engine.trees) e.engine.kept e.sessions e.written.by_txn.entries st st.begun like here.at;
        right = here.right;
        bare = here.bare;
        reached = reached_goes-on None st (WriteOut (Durable e.engine.kept.commits)) here.reached (subst (λ (f : Option Fault). IsWrittenOut f st.commits (Durable e.engine.kept.commits)) (sym none) (inl (ap Durable here.at.commits)));
      };
    }

pub returns-in-Err-clause-goes_on : goal.returns-in-Err-clause-goes_on
returns-in-Err-clause-goes_on g c = λ most st here.
    let e = c.args.self.now in
    let state : g.row.D.Denot → State = λ d. now (g.D.Disk.meaning.history d) in
    let old = e.engine.trees.log in
    let new = c.write_out.new.self in
    let none : st.fault ≡ None = sym here.at.fault ∙ c.in_default.is in
    let answered : IsWrittenOut st.fault st.commits DiskFault = subst (λ (f : Option Fault). IsWrittenOut f st.commits DiskFault) (sym none) (inr refl) in
    record {
      limit = None;
      bounded = inl refl;
      answered = answered;
      here = record {
        at = at_failed most g.D.Disk.meaning.observable (state (disk_of old)) (state (disk_of new)) old new (cells_of e.engine.trees) (cells_of e.engine.trees) (has_tree_of e.engine.trees) (has_tree_of e.engine.trees) (fitting e.engine.trees) (fitting e.engine.trees) e.engine.kept e.sessions e.written.by_txn.entries e.written.by_txn.entries st st.begun c.write_out.ensures.file_max here.at;
        right = λ valid. absurd cc;
        bare = λ valid. absurd cc;
        reached = reached_goes-on None st (WriteOut DiskFault) here.reached answered;
      };
    }

pub returns-in-Ok-clause-crash : goal.returns-in-Ok-clause-crash
returns-in-Ok-clause-crash g c = λ observed most st start journal here is.
    let e = c.args.self.now in (
      is.0,
      written_safely g.D.Disk.meaning st is.0 start e.engine.kept.commits e.engine.trees.log c.write_out.new.self journal observed
          (sym here.at.fault ∙ c.in_default.is) here.at.commits is.1 c.in-Ok.ensures.grew c.in-Ok.ensures.whole,
    )

pub returns-in-Err-clause-crash : goal.returns-in-Err-clause-crash
returns-in-Err-clause-crash g c = λ observed most st start journal here is.
    let e = c.args.self.now in (
      is.0,
      not_written_safely g.D.Disk.meaning st is.0 start e.engine.trees.log c.write_out.new.self journal observed
          (sym here.at.fault ∙ c.in_default.is) is.1 c.in-Err.ensures.tried,
    )
