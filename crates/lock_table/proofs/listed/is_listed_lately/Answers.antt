use Rattle.std.proofs.Common.{ap, sym, false, ◌∙◌}
use Rattle.std.specs.Option.{option_map_or}
use Rattle.lock_table.specs.Table.{lists_record}
use Rattle.lock_table.proofs.listed.is_listed_lately.Goals as goal

pub returns-in-Some : goal.returns-in-Some
returns-in-Some c = λ h. sym (ap (λ o. option_map_or (λ m. lists_record m.entries c.args.at.now) o false) c.in-Some.ensures.value) ∙ c.has_lately.ensures h
