use Rattle.std.proofs.Common.{length}
use Rattle.std.specs.Int.{w16, to_be_bytes}
use Rattle.std.specs.List.{flat_map}
use Rattle.log_entry.proofs.VectorAppends.{puts_behind, stops_unchanged}
use Rattle.log_entry.proofs.items.put_counted.Goals as goal

pub returns-in_err-put_u16 : goal.returns-in_err-put_u16
returns-in_err-put_u16 g c =
    stops_unchanged (to_be_bytes w16 (length c.args.items.now)) (flat_map g.T.Item.item_bytes c.args.items.now) c.from_residual.ensures.0 c.in_err-put_u16.ensures.err c.in_err-put_u16.ensures.fits c.in_err-put_u16.ensures.capacity

pub returns : goal.returns
returns g c = puts_behind (to_be_bytes w16 (length c.args.items.now)) c.in_ok-put_u16.ensures.ok c.in_ok-put_u16.ensures.capacity c.put_items.ensures
