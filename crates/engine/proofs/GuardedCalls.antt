-- A guarded run over a buffer that is unchanged, and a log that grew.
use Rattle.std.proofs.Common.{◌≡◌, ℕ, ◌≤◌, true, List, [], None, ap, sym, subst}
use Rattle.je_disk.specs.States.{State}
use Rattle.je_disk.specs.Moments.{History, now}
use Rattle.store_model.specs.declared.event.Event.{Event}
use Rattle.je_answers.specs.Standing.{Standing}
use Rattle.je_answers.specs.After.{after_events}
use Rattle.log_entry.specs.declared.entry.Entry.{Entry}
use Rattle.log_file.specs.Log.{Log}
use Rattle.log_buffer.specs.declared.buffer.LogBuffer.{LogBuffer}
use Rattle.log_buffer.specs.Buffer.{disk_of, end_of, file_max_of, last_of, IsUnchanged}
use Rattle.log_buffer.specs.Crash.{FilesStay, HoldPrefixes, KeepsRead}
use Rattle.log_buffer.specs.Growth.{longer}
use Rattle.log_buffer.specs.Log.{HasLog}
use Rattle.engine.specs.Crash.{AreSafeEvents, Follows}
use Rattle.engine.specs.Guarded.{IsGuardedLog, IsKeeping, IsRead}
use Rattle.engine.proofs.GuardLaws.{keeping_unchanged}
use Rattle.engine.proofs.LengthLaws.{sizes_other}
use Rattle.engine.proofs.SafeLaws.{IsGrownFrom, grown_by}

module _ {D : Type 0} where
  -- the run with another buffer over the same disk
  pub guarded_along : (history_of : D → History) (st : Standing) (log : Log) (start : History) (buffer other : LogBuffer D) (journal : List Event) → IsUnchanged buffer other →
      (g : IsGuardedLog st log start (history_of (disk_of buffer)) buffer journal) → (after_events st journal).fault ≡ None → IsGuardedLog st log start (history_of (disk_of other)) other journal
  guarded_along history_of st log start buffer other journal same g none =
      let old : History = history_of (disk_of buffer) in
      let new : History = history_of (disk_of other) in
      let alike : old ≡ new = sym (ap history_of same.disk) in
      let keeping : IsKeeping (now new) other log g.least g.begun = keeping_unchanged (λ d. now (history_of d)) buffer other log g.least g.begun same (g.works none) in
      let k = g.kept in
      record {
        since = subst (λ (h : History). Follows start h) alike g.since;
        begins = g.begins;
        events = subst (λ (h : History). AreSafeEvents st start.moment h (λ from over. from ≡ h.moment) start.moment [] journal) alike g.events;
        none_before = g.none_before;
        base = g.base;
        least = g.least;
        kept = record {
          from = k.from;
          first = k.first;
          logged = k.logged;
          cut = k.cut;
          attempts = k.attempts;
          recovers = k.recovers;
          synced = k.synced;
          keeps = subst (λ (h : History). KeepsRead log [] g.least (now h)) alike k.keeps;
          read = subst (λ (h : History). IsRead g.base log g.least (now h) journal) alike k.read;
        };
        begun = g.begun;
        works = λ valid. keeping;
        covers = g.covers;
        all = g.all;
        stops = λ ok. none;
        faultless = g.faultless;
        files = subst (λ (h : History). (k : ℕ) → start.moment ≤ k → k ≤ h.moment → FilesStay (now start).reads (h.state_at k).reads) alike g.files;
        past = subst (λ (h : History). (k : ℕ) → start.moment ≤ k → k ≤ h.moment → HoldPrefixes log (h.state_at k).reads) alike g.past;
        most = g.most;
        sizes = λ valid. sizes_other g.most (now start).reads buffer other log same.kept.max (g.sizes valid);
      }

  -- a buffer's log, longer
  pub grown_longer : (state : State) (buffer : LogBuffer D) (log : Log) (base : ℕ) (entries : List Entry) → HasLog true state buffer log → IsGrownFrom base log (longer buffer entries log)
  grown_longer state buffer log base entries has = grown_by base log (end_of buffer) (last_of buffer) (file_max_of buffer) entries has.is_log has.ends
