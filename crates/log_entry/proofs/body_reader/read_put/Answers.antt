use Rattle.std.proofs.Common.{Some, None}
use Rattle.log_entry.proofs.BodyParts.{put_is}
use Rattle.log_entry.proofs.body_reader.read_put.Goals as goal

pub returns-in_default-2 : goal.returns-in_default-2
returns-in_default-2 c = put_is c.args.bytes.now c.new-reader.result c.u64.new.self c.u32.new.self c.in-Ok.txn c.in-Ok-u32.db c.in_ok-name.field-0 None c.new-reader.ensures c.in-Ok.ensures.ok c.in-Ok-u32.ensures.ok c.in_ok-name.ensures c.in_default-2.is

pub returns : goal.returns
returns c =
    put_is c.args.bytes.now c.new-reader.result c.u64.new.self c.u32.new.self c.in-Ok.txn c.in-Ok-u32.db c.in_ok-name.field-0 (Some (c.in-Some.name, c.in-Some.value)) c.new-reader.ensures c.in-Ok.ensures.ok c.in-Ok-u32.ensures.ok c.in_ok-name.ensures c.in-Some.is
