use Rattle.std.proofs.Common.{sym, ◌∙◌, None}
use Rattle.secondary.proofs.FieldLaws.{next_field}
use Rattle.secondary.proofs.extracting.field_in.Goals as goal

pub returns-in_default : goal.returns-in_default
returns-in_default c = sym (next_field c.args.separator c.fields.rest.now c.fields.left None c.fields-test.true c.in_default.ensures) ∙ c.fields.invariant
