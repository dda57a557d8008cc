-- A call that waited, is a transaction of its own, and changes something once it has its locks.
use Rattle.std.specs.Prelude.{ℕ, ◌≡◌, ◌≢◌, ◌<◌, ◌+◌, ◌^◌, [], true, List, Ok, count_by}
use Rattle.je_disk.specs.DiskMeaning.{DiskMeaning}
use Rattle.je_order.specs.declared.txn_id.TxnId.{TxnId}
use Rattle.store_model.specs.declared.answer.Answer.{Answer}
use Rattle.store_model.specs.declared.call.Call.{Call}
use Rattle.store_model.specs.declared.isolation.Isolation.{Isolation}
use Rattle.store_model.specs.declared.record_change.RecordChange.{RecordChange}
use Rattle.je_answers.specs.declared.active.Active.{Active}
use Rattle.je_answers.specs.Standing.{Standing}
use Rattle.je_answers.specs.Views.{Target, changes_with, needs_in, outcome_of}
use Rattle.environment.specs.declared.environment.Environment.{Environment}
use Rattle.environment.specs.declared.wrote.Wrote.{Wrote}
use Rattle.environment.specs.Access.{IsTakenUp}
use Rattle.active_txns.specs.Own.{is_set}
use Rattle.environment.specs.OwnEnds.{HasPushedAndLogged}

module _ {D : Type 0} (meaning : DiskMeaning D) where
  -- Its changes are its transaction's own, and logging them came to this. `all` counts the records, and each change that sets one as one more; another
  -- commit has a number.
  pub record HasWrittenAgain (most : ℕ) (before now : Environment D) (st : Standing) (session : ℕ) (txn : TxnId) (level : Isolation) (a : Active) (call : Call) (g : Target) (all : ℕ) (wrote : Wrote) : Type 0 where
    pub old : Environment D
    pub answer : Answer
    pub changes : List (ℕ × RecordChange)
    pub up : IsTakenUp meaning most before old st session a call g answer changes
    pub some : changes ≢ []
    pub its_txn : a.txn ≡ txn
    pub its_level : a.level ≡ level
    pub auto : a.is_auto ≡ true
    pub bare : st.own a.txn.0 ≡ []
    pub pushed : HasPushedAndLogged meaning old now a (needs_in st a call g) st (changes_with st a g (outcome_of st a call g).changes) (Ok wrote)
    pub counted : all ≡ before.engine.kept.totals.records + count_by (λ c. is_set c.1) changes
    pub numbers : now.engine.kept.commits < now.engine.kept.last_txn
    pub fits : now.engine.kept.commits + 1 < 2 ^ 64
