use Rattle.std.proofs.Common.{◌≤◌, length, arith}
use Rattle.je_program.specs.declared.reading.TheConstants.{MOST_INPUT}
use Rattle.je_program.proofs.ReadingLaws.{bad_line, long_input, reads_plan, unread_script}
use Rattle.je_program.proofs.reading.read_script.Goals as goal

pub returns-then-len-gt-MOST_INPUT-clause-stopped : goal.returns-then-len-gt-MOST_INPUT-clause-stopped
returns-then-len-gt-MOST_INPUT-clause-stopped g c =
    long_input (g.S.Source.left c.args.input.now) (g.S.Source.left c.read_all.new.input) c.in_ok-bytes.bytes.items c.in_ok-bytes.ensures.observed (omega arith)

pub returns-in-Ok-clause-read : goal.returns-in-Ok-clause-read
returns-in-Ok-clause-read g c =
    let short : length c.in_ok-bytes.bytes.items ≤ MOST_INPUT = omega arith in
    reads_plan (g.S.Source.left c.args.input.now) (g.S.Source.left c.read_all.new.input) c.in_ok-bytes.bytes.items c.in-Ok.plan c.in_ok-bytes.ensures.observed short
    (rw c.deref.ensures.value at c.in-Ok.ensures.answer)

pub returns-in-Err-BadScript-clause-stopped : goal.returns-in-Err-BadScript-clause-stopped
returns-in-Err-BadScript-clause-stopped g c =
    let short : length c.in_ok-bytes.bytes.items ≤ MOST_INPUT = omega arith in
    let says = rw c.in-Err-BadScript.field-0-is at c.in-Err-BadScript.ensures.answer in
    bad_line (g.S.Source.left c.args.input.now) (g.S.Source.left c.read_all.new.input) c.in_ok-bytes.bytes.items c.in-Err-BadScript.line c.in_ok-bytes.ensures.observed short
    (rw c.deref.ensures.value at says)

pub returns-in_err-bytes-clause-no_dump : goal.returns-in_err-bytes-clause-no_dump
returns-in_err-bytes-clause-no_dump g c = unread_script c.in_err-bytes.field-0.0 c.from_residual.result c.from_residual.ensures.1
