use Rattle.std.proofs.Common.{◌∙◌, ap, subst}
use Rattle.je_disk.specs.States.{Files, State, IsListing}
use Rattle.log_replay.proofs.UnchangedMoments.{passes_again}
use Rattle.recovery_je.proofs.AnswerLaws.{ok_weaker, on_ok_to, cause_of_list}
use Rattle.recovery_je.proofs.recovery.list_files.Goals as goal

pub returns-clause-same : goal.returns-clause-same
returns-clause-same g c t = c.list.ensures.same t ∙ c.mount.ensures.same t

pub returns-clause-moments : goal.returns-clause-moments
returns-clause-moments g c t =
    passes_again (g.D.Disk.meaning.history c.args.disk.now) (g.D.Disk.meaning.history c.mount.new.self) (g.D.Disk.meaning.history c.list.new.self) (c.mount.ensures.same t) (c.mount.ensures.moments t) (c.list.ensures.moments t)

pub returns-clause-cause : goal.returns-clause-cause
returns-clause-cause g c = cause_of_list (g.D.Disk.meaning.faults c.args.disk.now) (g.D.Disk.meaning.faults c.mount.new.self) (g.D.Disk.meaning.faults c.list.new.self) c.list.result c.mount.ensures.cause.never_falls c.list.ensures.cause

pub returns-clause-none_out : goal.returns-clause-none_out
returns-clause-none_out g c = on_ok_to c.list.result (λ none. c.list.ensures.sync_out ∙ none) c.mount.ensures.sync_out

pub returns-clause-listed : goal.returns-clause-listed
returns-clause-listed g c t =
    ok_weaker _ _ c.list.result (λ files is. subst (λ (reads : Files). IsListing reads files.items) (ap (λ (s : State). s.reads) (c.mount.ensures.same t)) is) (c.list.ensures.listed t)
