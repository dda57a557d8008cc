use Rattle.std.proofs.Common.{◌≡◌, ◌+◌, get_or, drop, sum_by, ap, subst, arith, ◌∙◌}
use Rattle.std.specs.List.{AllByRecursion}
use Rattle.std.proofs.lemmas.List.Sums.{sum_by-cons}
use Rattle.log_entry.specs.Body.{IsEntry}
use Rattle.log_trees.specs.Placed.{Placed}
use Rattle.log_replay.specs.Reading.{lsn_at}
use Rattle.file_use.specs.Live.{is_one_of, live_size}
use Rattle.recovery_je.specs.Using.{is_stored_from}
use Rattle.recovery_je.proofs.EntryPlaces.{offset_at, first_at}
use Rattle.recovery_je.proofs.live_entries.live_at_offsets.Goals as goal

pub loop-at-preserved : goal.loop-at-preserved
loop-at-preserved g c es standing each =
    let so = c.loop-at.invariant es standing each in
    let i = c.loop-at.at-index in
    let offsets = c.args.offsets.now in
    let size = live_size (is_stored_from (g.T.Loads.stored c.args.trees.now)) (is_one_of c.args.images.now.keys) in
    let first = first_at c.args.number.0 c.args.bytes.now (drop i offsets) (get_or offsets i 0) (drop (i + 1) offsets) so.left (offset_at offsets i c.loop-at-test.true) so.standing in
    let p : Placed = (lsn_at c.args.number.0 (get_or offsets i 0), first.entry) in
    let here : c.in_ok-more.more ≡ size p = c.in_ok-more.ensures first.entry first.has in
    let left : sum_by size so.left ≡ size p + sum_by size first.more = ap (sum_by size) first.is ∙ sum_by-cons size p first.more in
    let wide : c.from.result ≡ c.in_ok-more.more = c.from.ensures in
    let sum : c.in-Some.sum ≡ c.loop-at.live + c.from.result = c.in-Some.ensures.1 in
    let before : c.loop-at.live + sum_by size so.left ≡ sum_by size es = so.sum in
    record {
      left = first.more;
      standing = first.standing;
      each = (subst (AllByRecursion (λ (q : Placed). IsEntry q.1)) first.is so.each).1;
      sum = omega (arith, here, left, wide, sum, before);
    }
