use Rattle.std.proofs.Common.{◌≡◌, ◌∙◌, ap, true, codes, Some}
use Rattle.clap.specs.Walk.{Rule, rule_of}
use Rattle.clap.specs.declared.builder.arg.Arg.{Arg}
use Rattle.command_line.proofs.arguments.db.Goals as goal

required : (old new : Arg) → new ≡ record old { required = true } → rule_of new ≡ record (rule_of old) { required = true }
required old new e = ap rule_of e

pub returns : goal.returns
returns c = record {
  rule = required c.long.result c.required.result c.required.ensures ∙ ap (λ (r : Rule). record r { required = true })
      (ap rule_of c.long.ensures ∙ ap (λ (r : Rule). record r { long = Some (codes "db") }) c.new.ensures.rule);
  local = ap (λ (a : Arg). a.global) c.required.ensures ∙ ap (λ (a : Arg). a.global) c.long.ensures ∙ c.new.ensures.optional.1;
}
