use Rattle.std.proofs.Common.{◌+◌, get_or, take, drop}
use Rattle.std.specs.Int.{w32}
use Rattle.log_entry.specs.Body.{entry_in}
use Rattle.log_entry.specs.Reading.{number_at}
use Rattle.log_entry.proofs.DecodeSteps.{flags_are_unknown, body_is_unknown, entry_is_whole}
use Rattle.log_entry.proofs.decoder.decode_whole.Goals as goal

pub returns-then-bytes-ne0 : goal.returns-then-bytes-ne0
returns-then-bytes-ne0 c =
    let bytes = c.args.bytes.now in
    flags_are_unknown (get_or bytes 5 0) (number_at w32 6 bytes) (14 + c.args.len) (entry_in (get_or bytes 4 0) (take c.args.len (drop 14 bytes))) c.if-bytes-ne0.true

pub returns-in_default : goal.returns-in_default
returns-in_default c = body_is_unknown c.args.bytes.now c.args.len c.in_ok-entry.field-0 c.in_ok-entry.ensures c.in_default.is

pub returns : goal.returns
returns c = entry_is_whole c.args.bytes.now c.args.len c.number_at-prev.result c.in_ok-entry.field-0 c.in-Some.entry c.if-bytes-ne0.false c.number_at-prev.ensures c.in_ok-entry.ensures c.in-Some.is
