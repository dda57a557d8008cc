-- What is kept of the own changes of transactions under way, by their numbers.
use Rattle.std.specs.Prelude.{ℕ, ◌≡◌, ◌+◌, ◌==◌, not, List, [], ◌∷◌, Bool, true, false, Option, Some, None, unwrap_or, length, count_by}
use Rattle.je_order.specs.declared.txn_id.TxnId.{TxnId}
use Rattle.lock_table.specs.Table.{at_txn}
use Rattle.store_model.specs.declared.record_change.RecordChange.{RecordChange}
use Rattle.store_model.specs.declared.record_change.RecordChange.TheVariants.{Set, Unset}
use Rattle.active_txns.specs.declared.own_counts.OwnCounts.{OwnCounts}

-- whether a change sets a name
abbrev pub is_set : RecordChange → Bool
is_set (Set at value) = true
is_set (Unset at) = false

-- the counts of changes
abbrev pub counted : List (ℕ × RecordChange) → OwnCounts
counted cs = record { len = length cs; set = count_by (λ c. is_set c.1) cs }

-- the counts of no change
abbrev pub none_counted : OwnCounts
none_counted = record { len = 0; set = 0 }

-- the counts of changes and of more behind them
abbrev pub counts_added : OwnCounts → OwnCounts → OwnCounts
counts_added a b = record { len = a.len + b.len; set = a.set + b.set }

-- the counts of each transaction that changed something
abbrev pub OwnEntries : Type 0
OwnEntries = List (TxnId × OwnCounts)

abbrev pub counts_at : TxnId → OwnEntries → OwnCounts
counts_at t entries = unwrap_or (at_txn t entries) none_counted

-- the counts of a transaction, if there are some
abbrev pub if_counted : Option OwnCounts → OwnCounts → OwnCounts
if_counted None counts = none_counted
if_counted (Some old) counts = counts

-- the counts are those of what each transaction changed
abbrev pub AreCounted : OwnEntries → (ℕ → List (ℕ × RecordChange)) → Type 0
AreCounted entries own = (n : ℕ) → counts_at (record { 0 = n }) entries ≡ counted (own n)

-- whether something was changed
abbrev pub has_changes : List (ℕ × RecordChange) → Bool
has_changes [] = false
has_changes (c ∷ cs) = true

-- the same by the counts
abbrev pub has_some : OwnCounts → Bool
has_some counts = not (counts.len == 0)
