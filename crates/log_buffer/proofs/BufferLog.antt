-- A buffer that keeps its write buffer keeps its log.
use Rattle.std.proofs.Common.{◌<◌, Bool, length, ap, sym, subst, ◌∙◌}
use Rattle.je_disk.specs.States.{State, content}
use Rattle.log_file.specs.Log.{Log}
use Rattle.log_buffer.specs.declared.buffer.LogBuffer.{LogBuffer}
use Rattle.log_buffer.specs.declared.log_pos.LogPos.{LogPos}
use Rattle.log_buffer.specs.Buffer.{file_of, offset_of, last_of, joined, KeepsUnwritten}
use Rattle.log_buffer.specs.Log.{EndsAt, HasLog, IsFront}

module _ {D : Type 0} where
  pub log_kept : (observable : Bool) (state : State) (old new : LogBuffer D) (log : Log) → KeepsUnwritten old new → HasLog observable state old log → HasLog observable state new log
  log_kept observable state old new log kept has = record {
    is_log = has.is_log;
    ends = subst (λ n. EndsAt log (file_of new) (offset_of new) n) (sym kept.last)
        (subst (λ (pos : LogPos). EndsAt log pos.file pos.offset (last_of old)) (sym kept.end) has.ends);
    observed = λ t f. ap (joined (state.reads f)) (kept.unwritten f) ∙ has.observed t f;
    flushed_len = λ t e. kept.flushed_len ∙ has.flushed_len t (sym kept.written ∙ e ∙ kept.first) ∙ ap (λ n. length (content state.reads n)) (sym kept.first);
    ahead = λ t f less. has.ahead t f (subst (λ n. n < f) kept.first less);
    front = λ t e. subst (λ n. IsFront log n (content state.reads n)) (sym kept.first) (has.front t (sym kept.written ∙ e ∙ kept.first));
  }
