-- The entries that calls log: none of them is the end of a checkpoint.
use Rattle.std.proofs.Common.{◌≡◌, ℕ, List, [], ◌∷◌, None, Some, Option, refl, sym, subst}
use Rattle.je_order.specs.declared.name.Name.{Name}
use Rattle.je_order.specs.declared.txn_id.TxnId.{TxnId}
use Rattle.je_order.proofs.Lists.{all_append}
use Rattle.log_entry.specs.declared.entry.Entry.{Entry}
use Rattle.log_entry.specs.declared.entry.Entry.TheVariants.{Commit, In, Bin}
use Rattle.record_tree.specs.declared.tree_change.TreeChange.{TreeChange}
use Rattle.record_tree.specs.Logged.{AreImages, IsImage, LogsChanges, LogsTransaction, entry_for}
use Rattle.log_meaning.specs.Checkpoint.{checkpoint_in}
use Rattle.txn_log.specs.Checkpoints.{AreNoEnds}

abbrev IsNoEnd : Entry → Type 0
IsNoEnd e = (at : ℕ) → checkpoint_in at e ≡ None

image_no_end : (e : Entry) → IsImage e → IsNoEnd e
image_no_end (In db node level slots) is at = refl
image_no_end (Bin db node slots) is at = refl
image_no_end e is at = absurd is

pub images_no_ends : (entries : List Entry) → AreImages entries → AreNoEnds entries
images_no_ends [] are = tt
images_no_ends (e ∷ entries) are = (image_no_end e are.0, images_no_ends entries are.1)

change_no_end : (txn : TxnId) (db : ℕ) (name : Name) (value : Option (List ℕ)) → IsNoEnd (entry_for txn db name value)
change_no_end txn db name (Some value) at = refl
change_no_end txn db name None at = refl

pub changes_no_ends : (txn : TxnId) (changes : List TreeChange) (entries : List Entry) → LogsChanges txn changes entries → AreNoEnds entries
changes_no_ends txn [] entries logs = subst AreNoEnds (sym logs) tt
changes_no_ends txn (c ∷ changes) entries logs =
    subst AreNoEnds (sym logs.3)
    (all_append IsNoEnd logs.0 (entry_for txn c.db c.name c.value ∷ logs.1) (images_no_ends logs.0 logs.2) (change_no_end txn c.db c.name c.value, changes_no_ends txn changes logs.1 logs.4))

pub commit_no_end : (txn : TxnId) → AreNoEnds (Commit txn ∷ [])
commit_no_end txn = (λ at. refl, tt)

pub transaction_no_ends : (txn : TxnId) (changes : List TreeChange) (entries : List Entry) → LogsTransaction txn changes entries → AreNoEnds entries
transaction_no_ends txn changes entries logs =
    subst AreNoEnds (sym logs.2) (all_append IsNoEnd logs.0 (Commit txn ∷ []) (changes_no_ends txn changes logs.0 logs.1) (commit_no_end txn))
