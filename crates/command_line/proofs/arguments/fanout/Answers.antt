use Rattle.std.proofs.Common.{◌≡◌, ◌∙◌, ◌∷◌, [], ap, codes, Some}
use Rattle.std.specs.Prelude.{pos}
use Rattle.std.specs.Range.{range_inclusive_start, range_inclusive_end}
use Rattle.clap.specs.Walk.{Rule, rule_of}
use Rattle.clap.specs.declared.builder.arg.Arg.{Arg}
use Rattle.clap.specs.declared.builder.value_parser.ValueParser.TheVariants as parser
use Rattle.command_line.proofs.arguments.fanout.Goals as goal

pub returns : goal.returns
returns c =
    let low : range_inclusive_start c.new-2.result ≡ pos 4 = c.new-2.ensures.start in
    let high : range_inclusive_end c.new-2.result ≡ pos 128 = c.new-2.ensures.end in
    let bounds : c.range.result ≡ parser.Signed (pos 4) (pos 128) = rw (c.value_parser.ensures, low, high) at c.range.ensures in
    let checks : c.value_parser-2.result.value_parser ≡ Some (parser.Signed (pos 4) (pos 128)) =
    c.value_parser-2.ensures.given.1 ∙ ap (λ q. Some q) (c.value_parser-2.ensures.given.2 ∙ bounds) in
    record {
      rule = ap rule_of c.default_value.ensures ∙ ap (λ (r : Rule). record r { defaults = codes "128" ∷ [] })
          (ap rule_of c.value_parser-2.ensures.others ∙ ap (λ p. record (rule_of c.long.result) { parser = p }) checks
          ∙ ap (λ (r : Rule). record r { parser = Some (parser.Signed (pos 4) (pos 128)) })
          (ap rule_of c.long.ensures ∙ ap (λ (r : Rule). record r { long = Some (codes "fanout") }) c.new.ensures.rule));
      local = ap (λ (a : Arg). a.global) c.default_value.ensures ∙ ap (λ (a : Arg). a.global) c.value_parser-2.ensures.others
          ∙ ap (λ (a : Arg). a.global) c.long.ensures ∙ c.new.ensures.optional.1;
    }
