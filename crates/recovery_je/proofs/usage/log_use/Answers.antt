use Rattle.std.proofs.Common.{◌≡◌, ◌∙◌, ap, subst, sym, Err}
use Rattle.je_disk.specs.Moments.{now}
use Rattle.je_disk.specs.States.{State, IsListing}
use Rattle.log_meaning.specs.Reading.{reading_of}
use Rattle.log_replay.proofs.UnchangedMoments.{passes_again}
use Rattle.recovery_je.specs.Answer.{IsReadingOf, HasFiles, HasWrongIndex}
use Rattle.recovery_je.proofs.AnswerLaws.{has_files, ok_weaker, corrupt_weaker, index_weaker, on_ok_to, cause_then}
use Rattle.recovery_je.proofs.usage.log_use.Goals as goal

pub returns-clause-same : goal.returns-clause-same
returns-clause-same g c t = c.use_listed.ensures.same t ∙ c.in_ok-files.ensures.same t

pub returns-clause-moments : goal.returns-clause-moments
returns-clause-moments g c t =
    passes_again (g.D.Disk.meaning.history c.args.disk.now) (g.D.Disk.meaning.history c.list_files.new.disk) (g.D.Disk.meaning.history c.use_listed.new.disk) (c.in_ok-files.ensures.same t) (c.in_ok-files.ensures.moments t) (c.use_listed.ensures.moments t)

pub returns-clause-cause : goal.returns-clause-cause
returns-clause-cause g c =
    cause_then (g.D.Disk.meaning.faults c.args.disk.now) (g.D.Disk.meaning.faults c.list_files.new.disk) (g.D.Disk.meaning.faults c.use_listed.new.disk) c.use_listed.result c.in_ok-files.ensures.cause.never_falls c.use_listed.ensures.cause

pub returns-clause-none_out : goal.returns-clause-none_out
returns-clause-none_out g c = on_ok_to c.use_listed.result (λ none. c.use_listed.ensures.jobs ∙ none) c.in_ok-files.ensures.none_out

pub returns-clause-used : goal.returns-clause-used
returns-clause-used g c =
    let meaning = g.D.Disk.meaning in
    let before = (now (g.D.Disk.meaning.history c.args.disk.now)).reads in
    let mid = (now (g.D.Disk.meaning.history c.list_files.new.disk)).reads in
    let files = c.deref.result.now in
    ok_weaker _ _ c.use_listed.result
    (λ r is. has_files meaning.observable before mid files _ (λ t. ap (λ (s : State). s.reads) (c.in_ok-files.ensures.same t))
    (λ t. subst (IsListing before) (sym c.deref.ensures.value) (c.in_ok-files.ensures.listed t)) is)
    c.use_listed.ensures.used

pub returns-clause-corrupt : goal.returns-clause-corrupt
returns-clause-corrupt g c =
    let meaning = g.D.Disk.meaning in
    let before = (now (g.D.Disk.meaning.history c.args.disk.now)).reads in
    let mid = (now (g.D.Disk.meaning.history c.list_files.new.disk)).reads in
    let files = c.deref.result.now in
    corrupt_weaker (λ corruption. IsReadingOf meaning.observable mid files (λ held. reading_of held ≡ Err corruption)) (λ corruption. HasFiles meaning.observable before (λ held. reading_of held ≡ Err corruption)) c.use_listed.result
    (λ f is. has_files meaning.observable before mid files (λ held. reading_of held ≡ Err f) (λ t. ap (λ (s : State). s.reads) (c.in_ok-files.ensures.same t))
    (λ t. subst (IsListing before) (sym c.deref.ensures.value) (c.in_ok-files.ensures.listed t)) is)
    c.use_listed.ensures.corrupt

pub returns-clause-index : goal.returns-clause-index
returns-clause-index g c =
    let meaning = g.D.Disk.meaning in
    let before = (now (g.D.Disk.meaning.history c.args.disk.now)).reads in
    let mid = (now (g.D.Disk.meaning.history c.list_files.new.disk)).reads in
    let files = c.deref.result.now in
    index_weaker (λ name. IsReadingOf meaning.observable mid files (HasWrongIndex name)) (λ name. HasFiles meaning.observable before (HasWrongIndex name)) c.use_listed.result
    (λ name is. has_files meaning.observable before mid files (HasWrongIndex name) (λ t. ap (λ (s : State). s.reads) (c.in_ok-files.ensures.same t))
    (λ t. subst (IsListing before) (sym c.deref.ensures.value) (c.in_ok-files.ensures.listed t)) is)
    c.use_listed.ensures.index
