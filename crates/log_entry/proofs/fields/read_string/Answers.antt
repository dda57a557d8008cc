use Rattle.std.proofs.Common.{◌∙◌, sym}
use Rattle.log_entry.proofs.FieldLaws.{string_in-long}
use Rattle.log_entry.proofs.fields.read_string.Goals as goal

pub returns-then-len-gt-KEY_LIMIT : goal.returns-then-len-gt-KEY_LIMIT
returns-then-len-gt-KEY_LIMIT c =
    string_in-long c.args.reader.now c.u16.new.self c.in_ok-len.field-0 c.u16.result (sym c.ok.ensures.value ∙ c.in_ok-len.was) c.u16.ensures.ok c.if-len-gt-KEY_LIMIT.true
