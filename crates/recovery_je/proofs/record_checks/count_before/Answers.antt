use Rattle.std.proofs.Common.{◌+◌, ap}
use Rattle.std.proofs.Math.ListN.{drop_of_length-le}
use Rattle.store_model.specs.declared.kind.Kind.TheVariants.{Plain}
use Rattle.recovery_je.specs.declared.numbered.Numbered.{Numbered}
use Rattle.recovery_je.proofs.RecordNotes.{place_next, place_found, place_last}
use Rattle.recovery_je.proofs.record_checks.count_before.Goals as goal

pub loop-other-preserved : goal.loop-other-preserved
loop-other-preserved c =
    let none : Numbered = record { number = 0; kind = Plain } in
    (ap (λ n. n + 1) c.loop-other.invariant.0, place_next c.args.databases.now c.loop-other.other-index c.args.database none c.loop-other-test.true c.if-database-other.false c.loop-other.invariant.1)

pub returns-then-database-other-clause-place : goal.returns-then-database-other-clause-place
returns-then-database-other-clause-place c =
    let none : Numbered = record { number = 0; kind = Plain } in
    place_found c.args.databases.now c.loop-other.other-index c.loop-other.before c.args.database none c.loop-other-test.true c.loop-other.invariant.0 c.if-database-other.true c.loop-other.invariant.1

pub returns-clause-place : goal.returns-clause-place
returns-clause-place c =
    place_last c.args.databases.now c.loop-other.other-index c.loop-other.before c.args.database (drop_of_length-le c.args.databases.now c.loop-other-test.false) c.loop-other.invariant.0 c.loop-other.invariant.1
