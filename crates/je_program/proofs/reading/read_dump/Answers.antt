use Rattle.std.proofs.Common.{◌≤◌, length, arith}
use Rattle.je_program.specs.declared.reading.TheConstants.{MOST_INPUT}
use Rattle.je_program.proofs.ReadingLaws.{bad_dump_line, long_input, reads_dump, unread_dump}
use Rattle.je_program.proofs.reading.read_dump.Goals as goal

pub returns-then-len-gt-MOST_INPUT-clause-stopped : goal.returns-then-len-gt-MOST_INPUT-clause-stopped
returns-then-len-gt-MOST_INPUT-clause-stopped g c =
    long_input (g.S.Source.left c.args.input.now) (g.S.Source.left c.read_all.new.input) c.in_ok-bytes.bytes.items c.in_ok-bytes.ensures.observed (omega arith)

pub returns-in-Ok-clause-read : goal.returns-in-Ok-clause-read
returns-in-Ok-clause-read g c =
    let short : length c.in_ok-bytes.bytes.items ≤ MOST_INPUT = omega arith in
    reads_dump (g.S.Source.left c.args.input.now) (g.S.Source.left c.read_all.new.input) c.in_ok-bytes.bytes.items c.in-Ok.dump c.in_ok-bytes.ensures.observed short
    (rw c.deref.ensures.value at c.in-Ok.ensures)

pub returns-in-Err-BadDump-clause-stopped : goal.returns-in-Err-BadDump-clause-stopped
returns-in-Err-BadDump-clause-stopped g c =
    let short : length c.in_ok-bytes.bytes.items ≤ MOST_INPUT = omega arith in
    let says = rw c.in-Err-BadDump.field-0-is at c.in-Err-BadDump.ensures in
    bad_dump_line (g.S.Source.left c.args.input.now) (g.S.Source.left c.read_all.new.input) c.in_ok-bytes.bytes.items c.in-Err-BadDump.line c.in_ok-bytes.ensures.observed short
    (rw c.deref.ensures.value at says)

pub returns-in_err-bytes-clause-no_script : goal.returns-in_err-bytes-clause-no_script
returns-in_err-bytes-clause-no_script g c = unread_dump c.in_err-bytes.field-0.0 c.from_residual.result c.from_residual.ensures.1
