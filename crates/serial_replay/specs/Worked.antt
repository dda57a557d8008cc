-- Replays that were worked by hand: calls at two cursors, over two records; calls on a database and its index; and such that find a record that was not there.
use Rattle.std.specs.Prelude.{ℕ, ◌∷◌, [], List, None, Some, false, if◌then◌else◌}
use Rattle.je_order.specs.declared.txn_id.TxnId.{TxnId}
use Rattle.store_model.specs.declared.store.Store.{Store}
use Rattle.store_model.specs.declared.extract.Extract.TheVariants.{ByteSlice}
use Rattle.store_model.specs.declared.kind.Kind.TheVariants.{Plain, Dup}
use Rattle.store_model.specs.declared.put_mode.PutMode.TheVariants.{Overwrite, NoOverwrite}
use Rattle.store_model.specs.declared.motion.Motion.TheVariants.{First, Next, Prev, Current}
use Rattle.store_model.specs.declared.call.Call.{Call}
use Rattle.store_model.specs.declared.call.Call.TheVariants.{Get, Put, Delete, Open, Close, Dup as Duplicate, Count as Counts, Cur, CPutCur, CDel, CPut}
use Rattle.store_model.specs.declared.change.Change.{Change}
use Rattle.store_model.specs.declared.change.Change.TheVariants.{Set, Unset}
use Rattle.store_model.specs.declared.answer.Answer.{Answer}
use Rattle.store_model.specs.declared.answer.Answer.TheVariants.{Done, Rec, IndexRec, Count, NotFound, KeyEmpty}
use Rattle.je_order.specs.Order.{is_same_bytes}
use Rattle.store_model.specs.Store.{Pair, named}
use Rattle.store_model.specs.Evaluation.{plain_name}
use Rattle.serial_replay.specs.Replay.{AnsweredCall, GivesAgain}

-- a word, a key or data of one letter
abbrev pub one : ℕ → List ℕ
one letter = letter ∷ []

-- a store with a plain database of these records
abbrev pub store_of : List Pair → Store
store_of pairs = record { databases = record { name = one 116; kind = Plain; index = None; pairs = pairs } ∷ [] }

-- the number of that database, and of the index
abbrev pub numbers : List ℕ → ℕ
numbers name = if is_same_bytes name (one 116) then 1 else 2

abbrev pub txn : TxnId
txn = record { 0 = 1 }

-- a call on a database, or one that opens a cursor or closes it
abbrev pub told_on : List ℕ → Call → Answer → AnsweredCall
told_on db call answer = record { txn = txn; call = call; db = db; answer = answer; own = [] }

abbrev pub told : Call → Answer → AnsweredCall
told call answer = told_on (one 116) call answer

-- a cursor puts a record between two, another one changes it, the first takes out the last record, and goes back from where that was
abbrev pub changing : List AnsweredCall
changing =
    told (Open 1 (one 116)) Done
    ∷ told (Cur 1 First false) (Rec (one 97) (one 49))
    ∷ told (CPut 1 (one 98) (one 50) NoOverwrite) Done
    ∷ told (Duplicate 1 2) Done
    ∷ told (Cur 1 Next false) (Rec (one 99) (one 51))
    ∷ told (CPutCur 2 (one 55)) Done
    ∷ told (CDel 1) Done
    ∷ told (Cur 1 Current false) KeyEmpty
    ∷ told (Cur 1 Prev false) (Rec (one 98) (one 55))
    ∷ told (Counts 2) (Count 1)
    ∷ told (Close 1) Done
    ∷ told (Open 1 (one 116)) Done
    ∷ told (Cur 1 Next false) (Rec (one 97) (one 49))
    ∷ []

abbrev pub changed : List Change
changed = Set (one 116) (plain_name (one 98)) (one 50) ∷ Set (one 116) (plain_name (one 98)) (one 55) ∷ Unset (one 116) (plain_name (one 99)) ∷ []

-- a cursor passes all records
abbrev pub passing : List AnsweredCall
passing =
    told (Open 1 (one 116)) Done
    ∷ told (Cur 1 First false) (Rec (one 97) (one 49))
    ∷ told (Cur 1 Next false) (Rec (one 99) (one 51))
    ∷ told (Cur 1 Next false) NotFound
    ∷ []

-- a store with such a database, and an index of it by the first letter of the data
abbrev pub indexed_store : List Pair → List Pair → Store
indexed_store pairs records = record {
  databases =
      record { name = one 105; kind = Dup; index = Some (record { primary = one 116; extract = ByteSlice 0 1 }); pairs = pairs }
      ∷ record { name = one 116; kind = Plain; index = None; pairs = records }
      ∷ [];
}

-- a record is read by the index, changed in its database, read by its new key, and taken out by the index
abbrev pub through_index : List AnsweredCall
through_index =
    told_on (one 105) (Get (one 105) (one 50) false) (IndexRec (one 50) (one 98) (one 50))
    ∷ told (Put (one 116) (one 98) (one 51) Overwrite) Done
    ∷ told_on (one 105) (Get (one 105) (one 50) false) NotFound
    ∷ told_on (one 105) (Get (one 105) (one 51) false) (IndexRec (one 51) (one 98) (one 51))
    ∷ told_on (one 105) (Delete (one 105) (one 51)) Done
    ∷ told (Get (one 116) (one 98) false) NotFound
    ∷ []

abbrev pub changed_in_both : List Change
changed_in_both =
    Set (one 116) (plain_name (one 98)) (one 51)
    ∷ Unset (one 105) (named (one 50) (one 98))
    ∷ Set (one 105) (named (one 51) (one 98)) []
    ∷ Unset (one 116) (plain_name (one 98))
    ∷ Unset (one 105) (named (one 51) (one 98))
    ∷ []

-- a cursor on the index passes all records
abbrev pub passing_index : List AnsweredCall
passing_index =
    told_on (one 105) (Open 1 (one 105)) Done
    ∷ told_on (one 105) (Cur 1 First false) (IndexRec (one 49) (one 97) (one 49))
    ∷ told_on (one 105) (Cur 1 Next false) (IndexRec (one 50) (one 98) (one 50))
    ∷ told_on (one 105) (Cur 1 Next false) NotFound
    ∷ []

-- they come to the same on the records that they were made on, and those that pass do not where one came in between
pub record IsWorked : Type 0 where
  pub changing_again : GivesAgain changing numbers (store_of ((one 97, one 49) ∷ (one 99, one 51) ∷ [])) changed
  pub passing_again : GivesAgain passing numbers (store_of ((one 97, one 49) ∷ (one 99, one 51) ∷ [])) []
  pub phantom : GivesAgain passing numbers (store_of ((one 97, one 49) ∷ (one 98, one 50) ∷ (one 99, one 51) ∷ [])) [] → ⊥
  pub index_again : GivesAgain through_index numbers (indexed_store ((one 49, one 97) ∷ (one 50, one 98) ∷ []) ((one 97, one 49) ∷ (one 98, one 50) ∷ [])) changed_in_both
  pub passing_index_again : GivesAgain passing_index numbers (indexed_store ((one 49, one 97) ∷ (one 50, one 98) ∷ []) ((one 97, one 49) ∷ (one 98, one 50) ∷ [])) []
  pub index_phantom : GivesAgain passing_index numbers (indexed_store ((one 49, one 97) ∷ (one 49, one 99) ∷ (one 50, one 98) ∷ []) ((one 97, one 49) ∷ (one 98, one 50) ∷ (one 99, one 49) ∷ [])) [] → ⊥
