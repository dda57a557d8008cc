use Rattle.std.proofs.Common.{◌≡◌, ◌++◌, ◌∙◌, ℕ, List, true, false, map, nat_lt, ap, subst}
use Rattle.je_lsn.specs.Naming.{last_file}
use Rattle.log_entry.specs.Encoding.{size_of}
use Rattle.log_buffer.specs.Buffer.{file_max_of}
use Rattle.in_tree.specs.Filled.{end_first, entries_with}
use Rattle.in_tree.specs.Limits.{commit_sizes, end_behind}
use Rattle.in_tree.proofs.FillReady.{filled_met, filled_none, place_first}
use Rattle.in_tree.proofs.logged_trees.LogTrees.try_fill.Goals as goal

pub check_filled-requires-clause-loggable : goal.check_filled-requires-clause-loggable
check_filled-requires-clause-loggable g c =
    let log = c.args.self.now.log in
    let fanout = c.args.self.now.trees.fanout in
    let is =
    c.in-Ok-fill.ensures.filled (file_max_of log) (end_first log c.args.change.now c.args.room.now)
    (place_first log c.args.change.now c.args.room.now c.next_place.result c.place_behind-place.result c.as_slice.result.now c.in-Ok.first.items c.next_place.ensures c.place_behind-place.ensures c.as_slice.ensures.value c.in-Ok.ensures) in
    is.loggable

pub check_filled-requires-clause-paired : goal.check_filled-requires-clause-paired
check_filled-requires-clause-paired g c =
    let log = c.args.self.now.log in
    let fanout = c.args.self.now.trees.fanout in
    let is =
    c.in-Ok-fill.ensures.filled (file_max_of log) (end_first log c.args.change.now c.args.room.now)
    (place_first log c.args.change.now c.args.room.now c.next_place.result c.place_behind-place.result c.as_slice.result.now c.in-Ok.first.items c.next_place.ensures c.place_behind-place.ensures c.as_slice.ensures.value c.in-Ok.ensures) in
    is.paired

pub returns-in-Ok-check_filled-clause-ok : goal.returns-in-Ok-check_filled-clause-ok
returns-in-Ok-check_filled-clause-ok g c =
    let log = c.args.self.now.log in
    let fanout = c.args.self.now.trees.fanout in
    let is =
    c.in-Ok-fill.ensures.filled (file_max_of log) (end_first log c.args.change.now c.args.room.now)
    (place_first log c.args.change.now c.args.room.now c.next_place.result c.place_behind-place.result c.as_slice.result.now c.in-Ok.first.items c.next_place.ensures c.place_behind-place.ensures c.as_slice.ensures.value c.in-Ok.ensures) in
    record {
      is_filled = is;
      sizes_are = c.in-Ok-check_filled.ensures.sizes ∙ ap (λ (l : List ℕ). l ++ (map size_of (entries_with c.args.txn c.args.rows.now c.in-Ok-fill.filled.images.items) ++ commit_sizes c.args.owed)) c.in-Ok.ensures;
      files = subst (λ (l : List ℕ). nat_lt last_file (end_behind log (l ++ (map size_of (entries_with c.args.txn c.args.rows.now c.in-Ok-fill.filled.images.items) ++ commit_sizes c.args.owed))) ≡ false) c.in-Ok.ensures c.in-Ok-check_filled.ensures.files;
      ids = c.in-Ok-check_filled.ensures.ids;
    }

pub returns-in-Ok-check_filled-clause-none : goal.returns-in-Ok-check_filled-clause-none
returns-in-Ok-check_filled-clause-none g c =
    let log = c.args.self.now.log in
    let fanout = c.args.self.now.trees.fanout in
    let is =
    c.in-Ok-fill.ensures.filled (file_max_of log) (end_first log c.args.change.now c.args.room.now)
    (place_first log c.args.change.now c.args.room.now c.next_place.result c.place_behind-place.result c.as_slice.result.now c.in-Ok.first.items c.next_place.ensures c.place_behind-place.ensures c.as_slice.ensures.value c.in-Ok.ensures) in
    filled_none log fanout c.args.change.now c.args.rows.now c.args.owed c.args.room.now c.args.number c.args.txn (file_max_of log) (end_first log c.args.change.now c.args.room.now) c.in-Ok-fill.filled is
    (subst (λ (l : List ℕ). nat_lt last_file (end_behind log (l ++ (map size_of (entries_with c.args.txn c.args.rows.now c.in-Ok-fill.filled.images.items) ++ commit_sizes c.args.owed))) ≡ false) c.in-Ok.ensures c.in-Ok-check_filled.ensures.files) c.in-Ok-check_filled.ensures.ids

pub returns-in-Err-check_filled-clause-met : goal.returns-in-Err-check_filled-clause-met
returns-in-Err-check_filled-clause-met g c =
    let log = c.args.self.now.log in
    let fanout = c.args.self.now.trees.fanout in
    let is =
    c.in-Ok-fill.ensures.filled (file_max_of log) (end_first log c.args.change.now c.args.room.now)
    (place_first log c.args.change.now c.args.room.now c.next_place.result c.place_behind-place.result c.as_slice.result.now c.in-Ok.first.items c.next_place.ensures c.place_behind-place.ensures c.as_slice.ensures.value c.in-Ok.ensures) in
    filled_met log fanout c.args.change.now c.args.rows.now c.args.owed c.args.room.now c.args.number c.args.txn (file_max_of log) (end_first log c.args.change.now c.args.room.now) c.in-Ok-fill.filled is c.in-Err-check_filled.error
    (λ full. subst (λ (l : List ℕ). nat_lt last_file (end_behind log (l ++ (map size_of (entries_with c.args.txn c.args.rows.now c.in-Ok-fill.filled.images.items) ++ commit_sizes c.args.owed))) ≡ true) c.in-Ok.ensures (c.in-Err-check_filled.ensures.full full))
    (λ ended. (let met = c.in-Err-check_filled.ensures.ended ended in (subst (λ (l : List ℕ). nat_lt last_file (end_behind log (l ++ (map size_of (entries_with c.args.txn c.args.rows.now c.in-Ok-fill.filled.images.items) ++ commit_sizes c.args.owed))) ≡ false) c.in-Ok.ensures met.0, met.1)))
