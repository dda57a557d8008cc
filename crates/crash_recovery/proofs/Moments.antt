-- The disk of a log buffer while its log grows.
use Rattle.std.proofs.Common.{ℕ, ◌≤◌, List, [], Option, subst}
use Rattle.je_disk.specs.DiskMeaning.{DiskMeaning}
use Rattle.je_disk.specs.Moments.{Passes, now}
use Rattle.log_entry.specs.declared.entry.Entry.{Entry}
use Rattle.log_file.specs.Log.{Log}
use Rattle.log_buffer.specs.declared.buffer.LogBuffer.{LogBuffer}
use Rattle.log_buffer.specs.Buffer.{disk_of, end_of, file_max_of, last_of}
use Rattle.log_buffer.specs.Growth.{longer, KeepsLonger, Tried}
use Rattle.log_buffer.proofs.GrowthLaws.{tried_more}
use Rattle.log_buffer.proofs.Prefixes.{observed_prefixes}
use Rattle.log_trees.specs.Placed.{placed}
use Rattle.log_meaning.specs.Recovery.{commits_in}
use Rattle.store_model.specs.declared.change.Change.{Change}
use Rattle.store_model.specs.declared.store.Store.{Store}
use Rattle.crash_recovery.specs.Recovery.{RecoversLog, IsStateRecovered}
use Rattle.crash_recovery.specs.Growth.{IsHeld, StandingRecovers, GrowthRecovers, TriedRecovers}
use Rattle.crash_recovery.proofs.Commits.{kept_are_within, commits_stay}
use Rattle.crash_recovery.proofs.ImageStores.{states_recover, through_recovers}

module _ {D : Type 0} (meaning : DiskMeaning D) where
  pub standing_recovers : StandingRecovers meaning
  standing_recovers first opening base least begun transactions x log held is from =
      let kept = held.holds.kept in
      states_recover first opening base least transactions log (now (meaning.history (disk_of x))) is from
      (record { keeps = kept.keeps; read = kept.read; prefixes = observed_prefixes meaning.observable (now (meaning.history (disk_of x))) x log held.observed held.has })

  longer_recovers : (first : ℕ) (opening : Store) (base least : ℕ) (begun : Option ℕ) (transactions : List (List Change)) (x y : LogBuffer D) (entries : List Entry) (log : Log) →
      IsHeld meaning x log least begun → KeepsLonger meaning x y entries → RecoversLog first opening base transactions (longer x entries log) → base ≤ least →
      Passes (meaning.history (disk_of x)) (meaning.history (disk_of y)) (IsStateRecovered (longer x entries log) opening (commits_in base least (placed log)) transactions)
  longer_recovers first opening base least begun transactions x y entries log held keeps is from =
      let has = held.has in
      subst (λ (n : ℕ). Passes (meaning.history (disk_of x)) (meaning.history (disk_of y)) (IsStateRecovered (longer x entries log) opening n transactions))
      (commits_stay log (end_of x) (last_of x) (file_max_of x) entries base least has.is_log has.ends
      (kept_are_within log [] least (now (meaning.history (disk_of x))).crash_states held.holds.kept.keeps))
      (through_recovers first opening base least transactions (longer x entries log) (meaning.history (disk_of x)) (meaning.history (disk_of y)) is from
      (keeps held.observed log [] least begun has held.holds))

  pub growth_recovers : GrowthRecovers meaning
  growth_recovers first opening base least begun transactions x y entries log held grew is from =
      longer_recovers first opening base least begun transactions x y entries log held grew.crash is from

  pub tried_recovers : TriedRecovers meaning
  tried_recovers first opening base least begun transactions x y front rest entries log held tried parts is from =
      let all : Tried meaning x y entries =
      subst (Tried meaning x y) parts (tried_more meaning x y front rest tried) in
      longer_recovers first opening base least begun transactions x y entries log held all.crash is from
