use Rattle.std.proofs.Common.{◌≤◌, ◌∙◌, sym, arith}
use Rattle.log_entry.proofs.BodyParts.{internal_is}
use Rattle.log_entry.proofs.body_reader.read_internal.Goals as goal

pub returns : goal.returns
returns c =
    let low : 2 ≤ c.in-Ok-u8.level = omega arith in
    internal_is c.args.bytes.now c.new-reader.result c.u32.new.self c.u64.new.self c.u8.new.self c.in-Ok.db c.in-Ok-u64.node c.in-Ok-u8.level c.in_ok-slots.field-0 c.in-Some.slots
    c.new-reader.ensures c.in-Ok.ensures.ok c.in-Ok-u64.ensures.ok c.in-Ok-u8.ensures.ok c.in_ok-slots.ensures c.in-Some.is low c.if-level-gt64.false (sym c.is_empty.ensures ∙ c.if-is_empty.false)
