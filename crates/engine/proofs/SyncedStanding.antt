-- Where an environment stands after a sync, and after a fault of the disk.
use Rattle.std.proofs.Common.{◌≡◌, ℕ, ◌∙◌, Bool, false, Option, Some, ap}
use Rattle.je_disk.specs.States.{State}
use Rattle.store_model.specs.declared.answer.Fault.TheVariants.{Disk}
use Rattle.je_answers.specs.Alone.{Alone}
use Rattle.log_file.specs.Log.{Log}
use Rattle.log_buffer.specs.declared.buffer.LogBuffer.{LogBuffer}
use Rattle.log_buffer.specs.Buffer.{end_of, file_max_of, has_failed}
use Rattle.log_buffer.specs.Log.{HasLog}
use Rattle.engine.specs.Contents.{Checkpoints, Contents, HasFaulted}
use Rattle.engine.specs.Environment.{AreAlone}
use Rattle.engine.proofs.TransactionGrowth.{gives_moved}

module _ {D : Type 0} where
  -- the disk failed
  pub faulted_at : (most : ℕ) (observable : Bool) (before after : State) (buffer other : LogBuffer D) (old new : Contents) (p : Alone) (begun : Option ℕ) → AreAlone most observable before buffer old p → HasFaulted old new →
      file_max_of other ≡ file_max_of buffer → AreAlone most observable after other new (record p { fault = Some Disk; begun = begun })
  faulted_at most observable before after buffer other old new p begun at has max = record {
    file_max = max ∙ at.file_max;
    fault = has.fault;
    last_txn = has.last_txn ∙ at.last_txn;
    last_db = has.last_db ∙ at.last_db;
    commits = has.commits ∙ at.commits;
    totals = has.totals ∙ at.totals;
    checkpoint = ap (λ (k : Checkpoints). k.under_way) has.checkpoints ∙ at.checkpoint;
    numbers = λ none. absurd cc;
    valid = λ none. absurd cc;
  }
