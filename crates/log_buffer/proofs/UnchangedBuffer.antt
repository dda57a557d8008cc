-- A buffer whose write buffer stays as it was.
use Rattle.std.proofs.Common.{◌≡◌, ℕ, ◌-◌, ◌≤◌, ◌<◌, ◌^◌, Bool, true, List, None, length, vec_capacity, refl, sym, ap, ap₂, subst, ◌∙◌, le_refl, arith}
use Rattle.je_disk.specs.States.{State, Files, content}
use Rattle.log_file.specs.Log.{Log, files_of_log}
use Rattle.log_buffer.specs.declared.log_pos.LogPos.{LogPos}
use Rattle.log_buffer.specs.declared.buffer.LogBuffer.{LogBuffer}
use Rattle.log_buffer.specs.WriteBuffer.{bytes_for, first_for}
use Rattle.log_buffer.specs.Buffer.{end_of, last_of, flushed_len_of, first_of, unwritten_of, file_max_of, joined, HasRoom, KeepsUnwritten}
use Rattle.log_buffer.specs.Log.{HasLog, IsFront}
use Rattle.log_buffer.proofs.WriteBufferRoom.{same_for}
use Rattle.log_buffer.proofs.BufferLog.{log_kept}

module _ {D : Type 0} where
  -- a log is read from the files alone
  reread : (observable : Bool) (s s' : State) (buffer : LogBuffer D) (log : Log) → s'.reads ≡ s.reads → HasLog observable s buffer log → HasLog observable s' buffer log
  reread observable s s' buffer log same has = record {
    is_log = has.is_log;
    ends = has.ends;
    observed = λ t. subst (λ (r : Files). (f : ℕ) → joined (r f) (unwritten_of buffer f) ≡ files_of_log log f) (sym same) (has.observed t);
    flushed_len = λ t e. subst (λ (r : Files). flushed_len_of buffer ≡ length (content r (first_of buffer))) (sym same) (has.flushed_len t e);
    ahead = λ t. subst (λ (r : Files). (f : ℕ) → first_of buffer < f → r f ≡ None) (sym same) (has.ahead t);
    front = λ t e. subst (λ (r : Files). IsFront log (first_of buffer) (content r (first_of buffer))) (sym same) (has.front t e);
  }

  pub log_still : (observable : Bool) (s s' : State) (old new : LogBuffer D) (log : Log) → (observable ≡ true → s'.reads ≡ s.reads) → KeepsUnwritten old new → HasLog observable s old log → HasLog observable s' new log
  log_still observable s s' old new log same kept has = record {
    is_log = has.is_log;
    ends = (log_kept observable s old new log kept has).ends;
    observed = λ t. (moved t).observed t;
    flushed_len = λ t. (moved t).flushed_len t;
    ahead = λ t. (moved t).ahead t;
    front = λ t. (moved t).front t;
  } where
    moved : observable ≡ true → HasLog observable s' new log
    moved t = log_kept observable s' old new log kept (reread observable s s' old log (same t) has)

  pub room_kept : (old new : LogBuffer D) → new.unwritten.bytes.items ≡ old.unwritten.bytes.items → new.unwritten.starts.items ≡ old.unwritten.starts.items
      → vec_capacity old.unwritten.bytes ≤ vec_capacity new.unwritten.bytes → vec_capacity old.unwritten.starts ≤ vec_capacity new.unwritten.starts → (sizes : List ℕ) → HasRoom old sizes → HasRoom new sizes
  room_kept old new bytes starts room places sizes had = record {
    bytes = let had_bytes = had.bytes in let count = ap length bytes in omega arith;
    files = let files = had.files in let count = ap length starts in omega arith;
  }

  pub unwritten_kept : (old new : LogBuffer D) → end_of new ≡ end_of old → last_of new ≡ last_of old → flushed_len_of new ≡ flushed_len_of old → file_max_of new ≡ file_max_of old
      → new.unwritten.bytes.items ≡ old.unwritten.bytes.items → new.unwritten.starts.items ≡ old.unwritten.starts.items
      → vec_capacity old.unwritten.bytes ≤ vec_capacity new.unwritten.bytes → vec_capacity old.unwritten.starts ≤ vec_capacity new.unwritten.starts → KeepsUnwritten old new
  unwritten_kept old new end last flushed_len max bytes starts room places = record {
    end = end;
    last = last;
    first = ap₂ (λ (p : LogPos) (s : List ℕ). p.file - length s) end starts;
    written = ap₂ (λ (p : LogPos) (s : List ℕ). first_for s (p.file - length s)) end starts;
    flushed_len = flushed_len;
    max = max;
    unwritten = λ f. same_for old.unwritten.bytes.items old.unwritten.starts.items new.unwritten.bytes.items new.unwritten.starts.items new.file.0 f bytes starts
        ∙ ap (λ (p : LogPos). bytes_for old.unwritten.bytes.items old.unwritten.starts.items p.file f) end;
    room = room_kept old new bytes starts room places;
  }

  pub unwritten_same : (buffer : LogBuffer D) → KeepsUnwritten buffer buffer
  unwritten_same buffer = unwritten_kept buffer buffer refl refl refl refl refl refl (le_refl _) (le_refl _)

  -- where only the disk below has changed, or the word whether the buffer has failed
  pub unwritten_over : (buffer : LogBuffer D) {disk : D} {failed : Bool} {last_file : buffer.file.0 ≤ 0xfffffffe} {max : buffer.file_max ≤ 2 ^ 30} {files : length buffer.unwritten.starts.items ≤ buffer.file.0}
      → KeepsUnwritten buffer (record {
        disk = disk;
        unwritten = buffer.unwritten;
        file = buffer.file;
        offset = buffer.offset;
        last = buffer.last;
        flushed_len = buffer.flushed_len;
        file_max = buffer.file_max;
        failed = failed;
        last_file = last_file;
        max = max;
        files = files;
      })
  unwritten_over buffer = unwritten_kept buffer _ refl refl refl refl refl refl (le_refl _) (le_refl _)
