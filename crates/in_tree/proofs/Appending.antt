-- A log that got one entry: the entry's LSN is behind all others, and not before this life of the environment.
use Rattle.std.proofs.Common.{◌≡◌, ◌≤◌, ◌<◌, ◌-◌, ℕ, List, [], ◌∷◌, ◌++◌, ap, sym, ◌∙◌, arith}
use Rattle.std.specs.List.{AllByRecursion}
use Rattle.je_disk.specs.DiskMeaning.{DiskMeaning}
use Rattle.je_disk.specs.Moments.{now}
use Rattle.je_order.proofs.Lists.{all_weaker}
use Rattle.log_entry.specs.declared.entry.Entry.{Entry}
use Rattle.log_entry.specs.Encoding.{size_of}
use Rattle.log_file.specs.Log.{Log}
use Rattle.log_buffer.specs.declared.buffer.LogBuffer.{LogBuffer}
use Rattle.log_buffer.specs.Buffer.{disk_of, end_of, file_max_of, last_of}
use Rattle.log_buffer.specs.Flip.{pos_lsn, placed_at}
use Rattle.log_buffer.specs.Growth.{longer}
use Rattle.log_buffer.specs.Laws.{placed_by}
use Rattle.log_buffer.specs.Log.{HasLog}
use Rattle.log_buffer.proofs.GrowthLaws.{appended_are_placed}
use Rattle.log_trees.specs.Placed.{Placed, placed}
use Rattle.crash_recovery.proofs.RisingLsns.{appended_rise, logs_lie_below}
use Rattle.in_tree.specs.Limits.{GrewFitting}

module _ {D : Type 0} (meaning : DiskMeaning D) where
  -- the log's entries with others behind them
  pub more_placed : (x : LogBuffer D) (entries : List Entry) (log : Log) → HasLog meaning.observable (now (meaning.history (disk_of x))) x log →
      placed (longer x entries log) ≡ placed log ++ placed_by (file_max_of x) (end_of x) entries
  more_placed x entries log has = appended_are_placed log (end_of x) (last_of x) (file_max_of x) entries has.is_log has.ends

  -- an entry at its LSN
  pub record IsAppended (x : LogBuffer D) (e : Entry) (log : Log) (base at : ℕ) : Type 0 where
    pub is : placed (longer x (e ∷ []) log) ≡ placed log ++ (at, e) ∷ []
    pub behind : AllByRecursion (λ p. p.0 < at) (placed log)
    pub begun : base ≤ at

  pub is_appended : (x y : LogBuffer D) (e : Entry) (log : Log) (base at : ℕ) → GrewFitting meaning x y (e ∷ []) →
      at ≡ pos_lsn (placed_at (file_max_of x) (end_of x) (size_of e)) → HasLog meaning.observable (now (meaning.history (disk_of x))) x log → base ≤ pos_lsn (end_of x) → IsAppended x e log base at
  is_appended x y e log base at grew at_is has begun =
      let under = logs_lie_below log (end_of x) (last_of x) has.is_log has.ends in
      let some : 0 < pos_lsn (end_of x) - 1 = under.some in
      let lt : pos_lsn (end_of x) - 1 < pos_lsn (end_of x) = omega (arith, some) in
      let rise = appended_rise log (end_of x) (last_of x) (file_max_of x) (e ∷ []) (pos_lsn (end_of x) - 1) has.is_log has.ends (grew.grew.log log has).is_log lt in
      let up : pos_lsn (end_of x) - 1 < pos_lsn (placed_at (file_max_of x) (end_of x) (size_of e)) = rise.rise.0.0 in
      record {
        is = more_placed x (e ∷ []) log has ∙ ap (λ (n : ℕ). placed log ++ (n, e) ∷ []) (sym at_is);
        behind = all_weaker (λ (p : Placed). p.0 < pos_lsn (end_of x) - 1) (λ p. p.0 < at) (λ p h. omega (arith, h, up, at_is)) (placed log) under.below;
        begun = omega (arith, up, at_is, begun, some);
      }
