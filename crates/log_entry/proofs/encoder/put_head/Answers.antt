use Rattle.std.proofs.Common.{[], ◌∷◌, ◌++◌}
use Rattle.std.specs.Int.{w32, to_be_bytes}
use Rattle.log_entry.proofs.VectorAppends.{puts_behind, push_stops, stops_unchanged, puts_all}
use Rattle.log_entry.proofs.encoder.put_head.Goals as goal

pub returns-in_err-push : goal.returns-in_err-push
returns-in_err-push c =
    push_stops c.args.kind (0 ∷ (to_be_bytes w32 c.args.prev ++ to_be_bytes w32 c.args.len)) c.args.out.now.len c.from_residual.ensures.0 c.in_err-push.ensures.items c.args.out.now.ok.0 c.in_err-push.ensures.succeeds c.in_err-push.ensures.capacity

pub returns-in_err-push-2 : goal.returns-in_err-push-2
returns-in_err-push-2 c =
    puts_behind (c.args.kind ∷ []) c.in_ok-push.ensures.items c.in_ok-push.ensures.capacity
    (push_stops 0 (to_be_bytes w32 c.args.prev ++ to_be_bytes w32 c.args.len) c.push.new.self.len c.from_residual-in_err-push-2.ensures.0 c.in_err-push-2.ensures.items c.push.new.self.ok.0 c.in_err-push-2.ensures.succeeds c.in_err-push-2.ensures.capacity)

pub returns-in_err-put_u32 : goal.returns-in_err-put_u32
returns-in_err-put_u32 c =
    puts_behind (c.args.kind ∷ []) c.in_ok-push.ensures.items c.in_ok-push.ensures.capacity
    (puts_behind (0 ∷ []) c.in_ok-push-2.ensures.items c.in_ok-push-2.ensures.capacity
    (stops_unchanged (to_be_bytes w32 c.args.prev) (to_be_bytes w32 c.args.len) c.from_residual-in_err-put_u32.ensures.0 c.in_err-put_u32.ensures.err c.in_err-put_u32.ensures.fits c.in_err-put_u32.ensures.capacity))

pub returns : goal.returns
returns c =
    puts_behind (c.args.kind ∷ []) c.in_ok-push.ensures.items c.in_ok-push.ensures.capacity
    (puts_behind (0 ∷ []) c.in_ok-push-2.ensures.items c.in_ok-push-2.ensures.capacity
    (puts_behind (to_be_bytes w32 c.args.prev) c.in_ok-put_u32.ensures.ok c.in_ok-put_u32.ensures.capacity
    (puts_all (to_be_bytes w32 c.args.len) c.put_u32-2.ensures.ok c.put_u32-2.ensures.err c.put_u32-2.ensures.fits c.put_u32-2.ensures.capacity)))
