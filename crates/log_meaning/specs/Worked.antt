-- A log worked by hand: what it means, and what is wrong with it where one child of an IN stands elsewhere.
use Rattle.std.specs.Prelude.{◌≡◌, ℕ, List, [], ◌∷◌, Option, None, Some, Ok, Err}
use Rattle.je_order.specs.declared.name.Name.{Name}
use Rattle.je_order.specs.declared.txn_id.TxnId.{TxnId}
use Rattle.store_model.specs.declared.store.Store.{Store}
use Rattle.store_model.specs.declared.kind.Kind.TheVariants.{Plain}
use Rattle.log_entry.specs.declared.entry.Entry.TheVariants.{Put, Delete, Commit, In, Bin, BinDelta, CkptStart, CkptEnd}
use Rattle.log_entry.specs.declared.child_slot.ChildSlot.{ChildSlot}
use Rattle.log_entry.specs.declared.record_slot.RecordSlot.{RecordSlot}
use Rattle.log_entry.specs.declared.root.Root.{Root}
use Rattle.log_replay.specs.declared.corruption.Corruption.TheVariants.{Missing, Tree}
use Rattle.log_trees.specs.Placed.{Placed}
use Rattle.log_meaning.specs.Meaning.{Meaning}
use Rattle.log_meaning.specs.Reading.{meaning_in}

-- ---- parts of entries

abbrev pub key_ : ℕ → Name
key_ byte = record { key = byte ∷ []; dup = [] }

abbrev pub txn_ : ℕ → TxnId
txn_ number = record { 0 = number }

abbrev pub slot_ : ℕ → Option ℕ → RecordSlot
slot_ byte lsn = record { name = key_ byte; lsn = lsn }

abbrev pub child_ : Name → ℕ → ChildSlot
child_ name at = record { name = name; child = at }

abbrev pub root_ : ℕ → ℕ → Root
root_ d at = record { db = d; image = at }

-- ---- the log

-- database 1, `t`, gets a, b, c and d. Images of its two BINs are logged. b is deleted, a delta shows that, and an IN and a checkpoint's end follow. Then d
-- is deleted and e put; the put of f is not committed. The IN's second child stands at `second`, which is 51 where the log is right
abbrev pub worked_log : ℕ → List Placed
worked_log second =
    (26, Put (txn_ 1) 0 (key_ 116) (0 ∷ 0 ∷ 0 ∷ 1 ∷ 0 ∷ [])) ∷ (30, Commit (txn_ 1)) ∷
    (40, Put (txn_ 2) 1 (key_ 97) (1 ∷ [])) ∷ (41, Put (txn_ 2) 1 (key_ 98) (2 ∷ [])) ∷ (42, Put (txn_ 2) 1 (key_ 99) (3 ∷ [])) ∷
    (43, Put (txn_ 2) 1 (key_ 100) (4 ∷ [])) ∷ (44, Commit (txn_ 2)) ∷
    (50, Bin 1 2 (slot_ 97 (Some 40) ∷ slot_ 98 (Some 41) ∷ [])) ∷ (51, Bin 1 3 (slot_ 99 (Some 42) ∷ slot_ 100 (Some 43) ∷ [])) ∷
    (53, Delete (txn_ 3) 1 (key_ 98)) ∷ (54, Commit (txn_ 3)) ∷
    (60, CkptStart 1) ∷
    (61, BinDelta 1 2 50 (slot_ 98 None ∷ [])) ∷ (62, In 1 4 2 (child_ (record { key = []; dup = [] }) 61 ∷ child_ (key_ 99) second ∷ [])) ∷ (63, Bin 0 1 (slot_ 116 (Some 26) ∷ [])) ∷
    (64, CkptEnd 1 60 60 (txn_ 3) 4 1 None (root_ 0 63 ∷ root_ 1 62 ∷ [])) ∷
    (70, Delete (txn_ 4) 1 (key_ 100)) ∷ (71, Put (txn_ 4) 1 (key_ 101) (5 ∷ [])) ∷ (72, Commit (txn_ 4)) ∷ (73, Put (txn_ 5) 1 (key_ 102) (6 ∷ [])) ∷ []

-- a, c and e are left
abbrev pub worked_store : Store
worked_store = record { databases = record { name = 116 ∷ []; kind = Plain; index = None; pairs = (97 ∷ [], 1 ∷ []) ∷ (99 ∷ [], 3 ∷ []) ∷ (101 ∷ [], 5 ∷ []) ∷ [] } ∷ [] }

abbrev pub worked_meaning : Meaning
worked_meaning = record { store = worked_store; last_txn = 5; last_node = 4; last_db = 1; checkpoint = 1 }

-- what is read: the meaning; or a child seen twice, one that is not lower, one where nothing begins, and one in a file that is not there
pub record IsWorked : Type 0 where
  pub right : meaning_in (0 ∷ []) (worked_log 51) ≡ Ok worked_meaning
  pub twice : meaning_in (0 ∷ []) (worked_log 61) ≡ Err (Tree 61)
  pub higher : meaning_in (0 ∷ []) (worked_log 62) ≡ Err (Tree 62)
  pub nothing_there : meaning_in (0 ∷ []) (worked_log 55) ≡ Err (Tree 55)
  pub no_file : meaning_in (0 ∷ []) (worked_log 0x100000068) ≡ Err (Missing 0x100000068)
