use Rattle.std.proofs.Common.{◌≡◌, ◌≤◌, ◌+◌, ℕ, List, [], length, vec_capacity, refl, sym, ap, subst, ◌∙◌, arith}
use Rattle.je_disk.specs.Moments.{now}
use Rattle.log_buffer.specs.Buffer.{room_for}
use Rattle.log_buffer.specs.Crash.{Holds}
use Rattle.log_buffer.proofs.CrashWriteOut.{unwritten_is}
use Rattle.log_buffer.proofs.WriteBuffers.{bytes_for_none}
use Rattle.log_buffer.proofs.WriteBufferRoom.{same_for}
use Rattle.log_buffer.proofs.LogEnds.{log_written}
use Rattle.log_buffer.proofs.GrowthLaws.{tried_failed}
use Rattle.log_buffer.proofs.FaultCauses.{cause_ok, cause_failed, cause_fault}
use Rattle.log_buffer.proofs.buffer.LogBuffer.write_out.Goals as goal

pub returns-then-self-clause-tried : goal.returns-then-self-clause-tried
returns-then-self-clause-tried g c = tried_failed g.D.Disk.meaning _ _ c.if-self.true

pub returns-in-Ok-clause-grew : goal.returns-in-Ok-clause-grew
returns-in-Ok-clause-grew g c =
    let old = c.args.self.now in
    let unwritten = c.write_unwritten.ensures in
    record {
      log = λ log has.
          log_written g.D.Disk.meaning.observable (now (g.D.Disk.meaning.history old.disk)) (now (g.D.Disk.meaning.history c.write_unwritten.new.disk)) old _ log
          (record {
            empty = λ f. same_for [] [] c.clear.new.self.bytes.items c.clear.new.self.starts.items old.file.0 f c.clear.ensures.bytes c.clear.ensures.starts ∙ bytes_for_none old.file.0 f;
            first = let starts = ap length c.clear.ensures.starts in omega (arith, starts);
            flushed_len = refl;
          })
          refl refl refl c.in-Ok.ensures.done has;
      crash = λ observed log removed least begun has h. unwritten.crash observed log removed least begun (unwritten_is g.D.Disk.meaning.observable (now (g.D.Disk.meaning.history old.disk)) old log observed has) h;
      holds = λ observed log removed least begun has h.
          subst (λ (n : ℕ). Holds log removed least begun n (now (g.D.Disk.meaning.history c.write_unwritten.new.disk))) (let starts = ap length c.clear.ensures.starts in omega (arith, starts))
          (c.in-Ok.ensures.holds observed log removed least begun (unwritten_is g.D.Disk.meaning.observable (now (g.D.Disk.meaning.history old.disk)) old log observed has) h);
      end = refl;
      max = refl;
      failed = sym c.if-self.false;
      jobs = record { syncs = unwritten.sync_out; reads = unwritten.read_out; file = unwritten.read_of };
    }

pub returns-in-Err-clause-tried : goal.returns-in-Err-clause-tried
returns-in-Err-clause-tried g c =
    let old = c.args.self.now in
    let unwritten = c.write_unwritten.ensures in
    record {
      crash = λ observed log removed least begun has h. unwritten.crash observed log removed least begun (unwritten_is g.D.Disk.meaning.observable (now (g.D.Disk.meaning.history old.disk)) old log observed has) h;
      max = refl;
      failed = refl;
      jobs = record { syncs = unwritten.sync_out; reads = unwritten.read_out; file = unwritten.read_of };
    }

pub returns-then-self-clause-cause : goal.returns-then-self-clause-cause
returns-then-self-clause-cause g c = cause_failed _ _ _ _ c.if-self.true c.if-self.true refl

pub returns-in-Ok-clause-cause : goal.returns-in-Ok-clause-cause
returns-in-Ok-clause-cause g c = cause_ok _ _ _ _ _ c.if-self.false refl c.write_unwritten.ensures.cause.never_falls

pub returns-in-Err-clause-cause : goal.returns-in-Err-clause-cause
returns-in-Err-clause-cause g c = cause_fault _ _ _ _ _ c.if-self.false refl c.write_unwritten.ensures.cause.never_falls refl c.in-Err.ensures.cause.failed

-- room that bytes leave when they go
more_spare : (bytes left : List ℕ) (room most more : ℕ) → left ≡ [] → more ≡ most → length bytes + room ≤ most → length left + room ≤ more
more_spare bytes left room most more none same le = let len = ap length none in omega (arith, len)

-- room for files that begin, once none begins
none_begun : (starts begun : List ℕ) (count most places : ℕ) → starts ≡ [] → places ≡ most → length begun + count ≤ most → length starts + count ≤ places
none_begun starts begun count most places none same le = let len = ap length none in omega (arith, len)

pub returns-in-Ok-clause-written : goal.returns-in-Ok-clause-written
returns-in-Ok-clause-written g c =
    let last = c.args.self.now.file.0 in
    λ f. same_for [] [] c.clear.new.self.bytes.items c.clear.new.self.starts.items last f c.clear.ensures.bytes c.clear.ensures.starts ∙ bytes_for_none last f

pub returns-in-Ok-clause-whole : goal.returns-in-Ok-clause-whole
returns-in-Ok-clause-whole g c = λ log has observed f. c.in-Ok.ensures.done observed f ∙ has.observed observed f

pub returns-in-Ok-clause-room : goal.returns-in-Ok-clause-room
returns-in-Ok-clause-room g c =
    let old = c.args.self.now.unwritten in
    λ sizes room. record {
      bytes = more_spare old.bytes.items c.clear.new.self.bytes.items (room_for sizes) (vec_capacity old.bytes) (vec_capacity c.clear.new.self.bytes) c.clear.ensures.bytes c.clear.ensures.bytes_capacity room.bytes;
      files = none_begun c.clear.new.self.starts.items old.starts.items (length sizes) (vec_capacity old.starts) (vec_capacity c.clear.new.self.starts) c.clear.ensures.starts c.clear.ensures.capacity room.files;
    }
