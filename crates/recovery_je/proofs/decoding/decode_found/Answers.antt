use Rattle.recovery_je.proofs.EntryPlaces.{entry_within, found_whole, found_torn}
use Rattle.recovery_je.proofs.decoding.decode_found.Goals as goal

pub decode_at-requires : goal.decode_at-requires
decode_at-requires c = entry_within c.args.bytes.now c.args.at c.requires.0 c.requires.1

pub returns : goal.returns
returns c e has = found_whole c.args.bytes.now c.args.at e c.in-Whole.entry c.in-Whole.prev c.in-Whole.len c.in_ok-entry.field-0 has c.in_ok-entry.ensures.exact c.in-Whole.is

pub unreachable-requires : goal.unreachable-requires
unreachable-requires c = found_torn c.args.bytes.now c.args.at c.requires.0 c.in-Torn.field-0 c.in_ok-entry.field-0 c.requires.1 c.in_ok-entry.ensures.exact c.in-Torn.is
