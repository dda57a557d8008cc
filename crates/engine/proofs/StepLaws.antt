-- Where an environment stands after a step, beside the model.
use Rattle.std.proofs.Common.{◌≡◌, ℕ, ◌+◌, ◌<◌, ◌≤◌, List, [], ◌∷◌, refl, None, ap, sym, ◌∙◌, subst, arith}
use Rattle.std.proofs.lemmas.Bool.Decides.{nat_tests}
use Rattle.je_disk.specs.DiskMeaning.{DiskMeaning}
use Rattle.je_disk.specs.States.{State}
use Rattle.je_disk.specs.Moments.{now}
use Rattle.store_model.specs.declared.call.Call.{Call}
use Rattle.store_model.specs.declared.change.Change.{Change}
use Rattle.store_model.specs.declared.change.Change.TheVariants.{Set, Unset, Make, MakeIndex, Remove, Rename, Empty}
use Rattle.store_model.specs.declared.store.TheConstants.{LAST_DATABASE, LAST_TXN}
use Rattle.store_model.specs.Refusals.{made_by, next_txn}
use Rattle.je_answers.specs.Standing.{numbered, all_numbered}
use Rattle.log_replay.specs.Logging.{number_named}
use Rattle.log_replay.specs.Kept.{numbered as numbered_in, all_numbered as all_numbered_in}
use Rattle.engine.proofs.PlannedRows.{planned_rows}
use mathlib.Core.Path.{fun_ext}
use Rattle.je_answers.specs.Alone.{Alone, committed_alone, drawn_alone}
use Rattle.log_buffer.specs.declared.buffer.LogBuffer.{LogBuffer}
use Rattle.log_buffer.specs.Buffer.{IsUnchanged, disk_of, end_of}
use Rattle.txn_core.specs.declared.planned_changes.PlannedChanges.{PlannedChanges}
use Rattle.txn_core.specs.Planning.{IsPlannedLog}
use Rattle.engine.specs.Contents.{Checkpoints, Contents, HasLogged, IsSame, drawn_contents, known}
use Rattle.engine.specs.Environment.{AreAlone}
use Rattle.engine.specs.Steps.{CarriesTrees, HasAppended, txn_of}
use Rattle.engine.proofs.PlannedCalls.{are_planned}
use Rattle.engine.proofs.TransactionGrowth.{sound_of, valid_drawn, valid_on, valid_same}

-- the numbers after changes, of databases and of the catalog's records
one_numbered : (change : Change) (last : ℕ) (numbers : List ℕ → ℕ) → numbered_in change last numbers ≡ numbered change last numbers
one_numbered (Set db at value) last numbers = refl
one_numbered (Unset db at) last numbers = refl
one_numbered (Make db kind) last numbers = refl
one_numbered (MakeIndex db index) last numbers = refl
one_numbered (Remove db) last numbers = refl
one_numbered (Rename db to) last numbers = refl
one_numbered (Empty db) last numbers = refl

pub numbered_alike : (changes : List Change) (last : ℕ) (numbers : List ℕ → ℕ) → all_numbered_in changes last numbers ≡ all_numbered changes last numbers
numbered_alike [] last numbers = refl
numbered_alike (change ∷ changes) last numbers =
    ap (all_numbered_in changes (last + made_by (change ∷ []))) (one_numbered change last numbers) ∙ numbered_alike changes (last + made_by (change ∷ [])) (numbered change last numbers)

next_is : (last : ℕ) → last < LAST_TXN → next_txn last ≡ last + 1
next_is last h = grind (arith, nat_tests)

module _ {D : Type 0} where
  module _ (meaning : DiskMeaning D) where
    -- an answer that changes nothing allocates a number
    pub drawn_at : (most : ℕ) (state : State) (buffer : LogBuffer D) (c : Contents) (p : Alone) → AreAlone most meaning.observable state buffer c p → c.last_txn < LAST_TXN →
        AreAlone most meaning.observable state buffer (drawn_contents c) (drawn_alone p)
    drawn_at most state buffer c p at below = record {
      file_max = at.file_max;
      fault = at.fault;
      last_txn = ap (λ n. n + 1) at.last_txn ∙ sym (next_is p.last_txn (subst (λ n. n < LAST_TXN) at.last_txn below));
      last_db = at.last_db;
      commits = at.commits;
      totals = at.totals;
      checkpoint = at.checkpoint;
      numbers = at.numbers;
      valid = λ none. valid_drawn meaning state buffer c p.store (at.valid none);
    }

    -- where nothing changed, the environment is where it was
    pub same_at : (most : ℕ) (buffer other : LogBuffer D) (old new : Contents) (p : Alone) → AreAlone most meaning.observable (now (meaning.history (disk_of buffer))) buffer old p → IsSame old new →
        IsUnchanged buffer other → AreAlone most meaning.observable (now (meaning.history (disk_of other))) other new p
    same_at most buffer other old new p at same log = record {
      file_max = log.kept.max ∙ at.file_max;
      fault = same.fault ∙ at.fault;
      last_txn = same.last_txn ∙ at.last_txn;
      last_db = same.last_db ∙ at.last_db;
      commits = same.commits ∙ at.commits;
      totals = same.totals ∙ at.totals;
      checkpoint = ap (λ (k : Checkpoints). k.under_way) same.checkpoints ∙ at.checkpoint;
      numbers = λ none. ap number_named (fun_ext same.rows) ∙ at.numbers none;
      valid = λ none. valid_same meaning buffer other old new p.store log same (at.valid none);
    }

    -- changes were logged
    pub logged_at : (most : ℕ) (buffer other : LogBuffer D) (old new : Contents) (p : Alone) (session : ℕ) (call : Call) (planned : PlannedChanges) →
        AreAlone most meaning.observable (now (meaning.history (disk_of buffer))) buffer old p → p.fault ≡ None → old.last_txn < LAST_TXN → (log : IsPlannedLog (known old) p session call planned) →
        planned.last_db ≤ LAST_DATABASE → HasLogged old new planned →
        (appended : HasAppended meaning buffer other (txn_of (old.last_txn + 1)) planned.changes.items) →
        CarriesTrees meaning buffer appended.entries old new →
        AreAlone most meaning.observable (now (meaning.history (disk_of other))) other new (committed_alone (log.change ∷ log.more) (drawn_alone p))
    logged_at most buffer other old new p session call planned at none below log low has appended carries =
        let changes : List Change = log.change ∷ log.more in
        let v = at.valid none in
        record {
          file_max = appended.grew.max ∙ at.file_max;
          fault = has.fault ∙ at.fault;
          last_txn = has.last_txn ∙ ap (λ n. n + 1) at.last_txn ∙ sym (next_is p.last_txn (subst (λ n. n < LAST_TXN) at.last_txn below));
          last_db = has.last_db ∙ log.last_db ∙ ap (λ n. n + made_by changes) at.last_db;
          commits = has.commits ∙ ap (λ n. n + 1) at.commits;
          totals = has.totals ∙ log.totals;
          checkpoint = ap (λ (k : Checkpoints). k.under_way) has.checkpoints ∙ at.checkpoint;
          numbers = λ again. ap number_named (fun_ext has.rows)
              ∙ (planned_rows old.rows old.last_db log.change log.more planned.changes.items planned.gone
              (are_planned old p session call planned (sound_of v.log (end_of buffer) old v.gives) log (omega (arith, low)))).numbers
              ∙ numbered_alike changes old.last_db (number_named old.rows)
              ∙ ap (λ (n : ℕ). all_numbered changes n (number_named old.rows)) at.last_db ∙ ap (all_numbered changes p.last_db) (at.numbers none);
          valid = λ again. valid_on meaning buffer other old new log.change log.more planned p.store v
              (are_planned old p session call planned (sound_of v.log (end_of buffer) old v.gives) log (omega (arith, low))) log.last_db has appended carries;
        }
