use Rattle.std.proofs.Common.{◌∙◌, ap, sym}
use Rattle.std.specs.Option.{is_some}
use Rattle.embed_example.proofs.Answering.{begun_out, begun_valid, usable_at}
use Rattle.embed_example.proofs.session.Session.sync.Goals as goal

-- src/session.rt:49:5
pub returns-in-Some-sync_begin : goal.returns-in-Some-sync_begin
returns-in-Some-sync_begin g c =
    let usable = c.requires.here in
    let valid = sym (c.fault.ensures usable.most usable.st usable.here) ∙ c.in_default.is in
    let begun = c.sync_begin.ensures.begins usable.most usable.st usable.here valid in
    let began = ap (λ o. is_some o) c.in-Some-sync_begin.is in
    let out = begun_out usable.st (is_some c.sync_begin.result) began c.commits-begun.result (c.commits-begun.ensures usable.most usable.st usable.here) in
    let ended = c.sync_end.ensures.ends usable.most _ begun.1 (begun_valid usable.st (is_some c.sync_begin.result) began valid) out in
    record { here = usable_at ended.1 (c.sync_end.ensures.bounds (c.sync_begin.ensures.bounds usable.bounds)) }

-- src/session.rt:49:5
pub returns-in-None : goal.returns-in-None
returns-in-None g c =
    let usable = c.requires.here in
    let valid = sym (c.fault.ensures usable.most usable.st usable.here) ∙ c.in_default.is in
    let begun = c.sync_begin.ensures.begins usable.most usable.st usable.here valid in
    record { here = usable_at begun.1 (c.sync_begin.ensures.bounds usable.bounds) }
