use Rattle.std.proofs.Common.{◌≡◌, ◌∙◌, arith}
use Rattle.je_disk.specs.States.{State}
use Rattle.je_disk.specs.Moments.{now}
use Rattle.je_disk.proofs.MomentLaws.{passes_then, passes_weaken}
use Rattle.log_file.proofs.reading.read_whole.Goals as goal

pub returns-clause-same : goal.returns-clause-same
returns-clause-same g c = λ observed. c.in_ok-count.ensures.same observed ∙ c.in_ok-len.ensures.same observed

pub returns-clause-moments : goal.returns-clause-moments
returns-clause-moments g c = λ observed.
    let meaning = g.D.Disk.meaning in
    let old = meaning.history c.args.disk.now in
    passes_then old (meaning.history c.len.new.self) (meaning.history c.read.new.self) (λ (s : State). s ≡ now old) (c.in_ok-len.ensures.moments observed)
    (passes_weaken (meaning.history c.len.new.self) (meaning.history c.read.new.self) (λ (s : State). s ≡ now (meaning.history c.len.new.self)) (λ (s : State). s ≡ now old) (λ s is. is ∙ c.in_ok-len.ensures.same observed) (c.in_ok-count.ensures.moments observed))

pub returns-clause-jobs : goal.returns-clause-jobs
returns-clause-jobs g c = (
  c.in_ok-count.ensures.sync_out ∙ c.in_ok-len.ensures.sync_out,
  c.in_ok-count.ensures.read_out ∙ c.in_ok-len.ensures.read_out,
  c.in_ok-count.ensures.read_of ∙ c.in_ok-len.ensures.read_of,
  c.in_ok-count.ensures.last_job ∙ c.in_ok-len.ensures.last_job,
)

pub returns-clause-cause : goal.returns-clause-cause
returns-clause-cause g c = record {
  never_falls = omega (arith, c.in_ok-len.ensures.cause.never_falls, c.in_ok-count.ensures.cause.never_falls);
  failed = λ no. absurd cc;
}
