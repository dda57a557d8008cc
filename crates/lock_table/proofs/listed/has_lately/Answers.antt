use Rattle.std.proofs.Common.{sym, ◌∙◌}
use Rattle.lock_table.proofs.RecordLists.{stands}
use Rattle.lock_table.proofs.listed.has_lately.Goals as goal

pub returns : goal.returns
returns c = λ h. stands c.args.dbs.now.entries c.args.at.now c.in-Some.list.now c.in-Some.ensures.value c.as_slice.result.now c.as_slice.ensures.value c.last_place.result c.last_place.ensures.within c.last_place.ensures.there (sym c.is_some.ensures ∙ h)
