use Rattle.std.proofs.Common.{◌≡◌, ◌∙◌, ap, codes, Some}
use Rattle.clap.specs.Walk.{Rule, rule_of}
use Rattle.clap.specs.declared.builder.action.ArgAction.TheVariants.{SetTrue}
use Rattle.clap.specs.declared.builder.arg.Arg.{Arg}
use Rattle.command_line.proofs.arguments.no_overwrite.Goals as goal

acting : (old new : Arg) → new ≡ record old { action = Some SetTrue } → rule_of new ≡ record (rule_of old) { action = Some SetTrue }
acting old new e = ap rule_of e

pub returns : goal.returns
returns c = record {
  rule = acting c.long.result c.action.result c.action.ensures ∙ ap (λ (r : Rule). record r { action = Some SetTrue })
      (ap rule_of c.long.ensures ∙ ap (λ (r : Rule). record r { long = Some (codes "no-overwrite") }) c.new.ensures.rule);
  local = ap (λ (a : Arg). a.global) c.action.ensures ∙ ap (λ (a : Arg). a.global) c.long.ensures ∙ c.new.ensures.optional.1;
}
