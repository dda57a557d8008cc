-- The end of a checkpoint may stand behind a log that the trees fit.
use Rattle.std.proofs.Common.{ℕ, ◌≤◌, ◌<◌, ◌-◌, Bool, List, Option, refl, arith}
use Rattle.std.proofs.Math.Nat.{le_trans}
use Rattle.je_disk.specs.DiskMeaning.{DiskMeaning}
use Rattle.je_order.proofs.Lists.{all_weaker}
use Rattle.je_order.specs.declared.name.Name.{Name}
use Rattle.log_entry.specs.Encoding.{size_of}
use Rattle.log_file.proofs.PlacedLaws.{placed_are_in_order}
use Rattle.log_buffer.specs.Buffer.{end_of, file_max_of, last_of}
use Rattle.log_buffer.specs.Flip.{placed_at, pos_lsn}
use Rattle.log_replay.specs.Rows.{data_at}
use Rattle.log_trees.specs.Placed.{Placed, placed}
use Rattle.log_trees.specs.Changes.{LoggedChange}
use Rattle.log_meaning.specs.Stands.{Stands}
use Rattle.crash_recovery.proofs.RisingLsns.{behind_end, logs_lie_below}
use Rattle.tree_images.proofs.ForestEnds.{forests_may_end}
use Rattle.txn_log.specs.Checkpoints.{end_entry}
use Rattle.txn_log.specs.Own.{is_live}
use Rattle.txn_log.proofs.RedoLsns.{redo_is_needed}
use Rattle.ending_laws.specs.Ends.{EndsMayStand}

-- what stands up to an LSN stands up to a later one
stands_on : (es : List Placed) (base next later : ℕ) (is_open : ℕ → Bool) (rows : ℕ → Name → Option (List ℕ)) (is_live : ℕ → Bool) (logged : ℕ → List LoggedChange) → next ≤ later →
    Stands es base next is_open rows is_live logged → Stands es base later is_open rows is_live logged
stands_on es base next later is_open rows is_live logged le s = record {
  begun = le_trans s.begun le;
  reach = (le_trans s.reach.0 le, le_trans s.reach.1 le);
  past = λ d x. le_trans (s.past d x) le;
  past_own = λ t live. all_weaker (λ (c : LoggedChange). (base ≤ c.written.at) × (c.written.at ≤ next)) (λ c. (base ≤ c.written.at) × (c.written.at ≤ later)) (λ c h. (h.0, le_trans h.1 le)) (logged t) (s.past_own t live);
  same = s.same;
  own = s.own;
  redo = s.redo;
  tied = s.tied;
  later = s.later;
  alone = s.alone;
  apart = s.apart;
}

pub ends_may_stand : {D : Type 0} (meaning : DiskMeaning D) → EndsMayStand meaning
ends_may_stand meaning buffer log rows last_txn last_db is_active own first opening found transactions p summary since last trees h is redo =
    let under = logs_lie_below log (end_of buffer) (last_of buffer) h.has.is_log h.has.ends in
    let some : 0 < pos_lsn (end_of buffer) - 1 = under.some in
    let next_low = h.gives.below in
    let le : h.gives.next ≤ pos_lsn (end_of buffer) - 1 = omega (arith, next_low) in
    let at_end = behind_end log (end_of buffer) (last_of buffer) (file_max_of buffer) (size_of (end_entry p summary)) h.has.is_log h.has.ends in
    let later : pos_lsn (end_of buffer) - 1 < pos_lsn (placed_at (file_max_of buffer) (end_of buffer) (size_of (end_entry p summary))) = omega (arith, some, at_end) in
    let low = redo.names.below in
    let stands = stands_on (placed log) h.gives.base h.gives.next (pos_lsn (end_of buffer) - 1) h.gives.is_open (λ d x. data_at x (rows d)) (is_live last_txn is_active) h.gives.logged le h.gives.stands in
    record {
      given = record {
        has = h.has;
        gives = record {
          base = h.gives.base;
          next = pos_lsn (end_of buffer) - 1;
          is_open = h.gives.is_open;
          logged = h.gives.logged;
          stands = stands;
          own_is = h.gives.own_is;
          none = h.gives.none;
          below = omega (arith, some);
          listed = h.gives.listed;
          later = h.gives.later;
          unused = h.gives.unused;
          numbers = h.gives.numbers;
        };
      };
      same = refl;
      may = forests_may_end first (placed log) h.gives.base (pos_lsn (end_of buffer) - 1) (pos_lsn (placed_at (file_max_of buffer) (end_of buffer) (size_of (end_entry p summary)))) h.gives.is_open (λ d x. data_at x (rows d))
          (is_live last_txn is_active) h.gives.logged p.redo p.roots last trees stands (placed_are_in_order log h.has.is_log)
          (all_weaker (λ (e : Placed). e.0 < pos_lsn (end_of buffer) - 1) (λ e. e.0 < pos_lsn (placed_at (file_max_of buffer) (end_of buffer) (size_of (end_entry p summary)))) (λ e lt. omega (arith, lt, later)) (placed log) under.below)
          later
          (record {
            from = le_trans redo.from.life redo.since_low;
            upto = omega (arith, low);
            file = redo_is_needed first opening found transactions log h.gives.base since p.redo is redo.from redo.since_low;
            own = redo.firsts;
          })
          redo.fits redo.names.roots_are redo.records redo.names.each;
    }
