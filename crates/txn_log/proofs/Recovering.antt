-- What a log recovers that grows while transactions are under way.
use Rattle.std.proofs.Common.{◌≡◌, ℕ, Bool, List, [], ◌∷◌, ◌++◌, take, length, sym, ap, subst, ◌∙◌, arith, append_assoc}
use Rattle.std.proofs.lemmas.List.{append-nil, take_all}
use Rattle.store_model.specs.declared.change.Change.{Change}
use Rattle.store_model.specs.declared.store.Store.{Store}
use Rattle.store_model.specs.Store.{all_changed, store_after}
use Rattle.log_entry.specs.declared.entry.Entry.TheVariants.{Commit}
use Rattle.log_file.specs.Log.{Log}
use Rattle.log_buffer.specs.declared.log_pos.LogPos.{LogPos}
use Rattle.log_replay.specs.Rows.{Rows, data_at, store_of}
use Rattle.log_trees.specs.Placed.{Placed, placed}
use Rattle.log_meaning.specs.Recovery.{Leaves, Recovers, commits_in}
use Rattle.log_meaning.specs.Transactions.{KeepsCheckpoint, RecoversLonger, last_lsn, waiting}
use Rattle.log_meaning.proofs.Appending.{EndsInCommit, within}
use Rattle.log_meaning.proofs.Leaving.{stands_leaves}
use Rattle.log_meaning.proofs.Recovering.{changes_recover, commits_recover}
use Rattle.txn_log.specs.Own.{OwnChange, is_live}
use Rattle.txn_log.specs.Gives.{GivesRecordsWith}
use Rattle.txn_log.specs.Growth.{ChangesRecoverSame, TransactionIsRecovered}
use Rattle.txn_log.proofs.Giving.{adds, after_is, appends, ended, before, listed, live, open_after, smaller, up}

abbrev Flags : Type 0
Flags = ℕ → Bool

abbrev Owns : Type 0
Owns = ℕ → List OwnChange

-- a log that recovers transactions leaves their store
pub leaves_all : (first : ℕ) (opening : Store) (found : ℕ) (transactions : List (List Change)) (es : List Placed) → Recovers first opening found transactions es → Leaves first es (store_after opening transactions)
leaves_all first opening found transactions es is =
    let each : Leaves first (take (length es) es) (store_after opening (take (commits_in found (length es) es) transactions)) = is.each (length es) is.within (omega arith) in
    subst (λ (l : List Placed). Leaves first l (store_after opening transactions)) (take_all (length es) es (omega arith))
    (subst (λ (ts : List (List Change)). Leaves first (take (length es) es) (store_after opening ts))
    (ap (λ (n : ℕ). take n transactions) is.all ∙ take_all (length transactions) transactions (omega arith)) each)

-- the records that it gives make that store
pub gives_store : (log : Log) (end : LogPos) (rows : Rows) (last_txn last_db : ℕ) (is_active : Flags) (own : Owns) (first : ℕ) (opening : Store) (found : ℕ) (transactions : List (List Change)) →
    GivesRecordsWith log end rows last_txn last_db is_active own → Recovers first opening found transactions (placed log) → store_of rows ≡ store_after opening transactions
gives_store log end rows last_txn last_db is_active own first opening found transactions gives is =
    let whole : Leaves first (placed log) (store_after opening transactions) = leaves_all first opening found transactions (placed log) is in
    let own_leaves : Leaves first (placed log) (store_of rows) =
    stands_leaves first (placed log) gives.base gives.next gives.is_open (λ d x. data_at x (rows d)) (is_live last_txn is_active) gives.logged rows gives.stands whole.roots whole.redo
    gives.listed.rising gives.listed.data_is gives.listed.catalog gives.listed.named gives.listed.environment in
    sym own_leaves.store_is ∙ whole.store_is

-- ---- changes of a transaction

pub changes_recover_same : ChangesRecoverSame
changes_recover_same log end rows last_txn last_db is_active own t changes more first opening found transactions gives a is front rest parts =
    let whole : Leaves first (placed log) (store_after opening transactions) = leaves_all first opening found transactions (placed log) is in
    (changes_recover first opening found transactions (placed log) gives.base gives.next gives.is_open (λ d x. data_at x (rows d)) (is_live last_txn is_active) gives.logged t changes more rows
    is whole.roots whole.redo gives.stands (adds log end rows last_txn last_db is_active own t changes more gives a) gives.listed
    (gives_store log end rows last_txn last_db is_active own first opening found transactions gives is) front rest parts).recovers

-- ---- a commit

keeps_then : (first : ℕ) (a b c : List Placed) → KeepsCheckpoint first a b → KeepsCheckpoint first b c → KeepsCheckpoint first a c
keeps_then first a b c one two = record { last = two.last ∙ one.last; roots = two.roots; redo = two.redo }

pub transaction_is_recovered : TransactionIsRecovered
transaction_is_recovered log end rows after last_txn last_db later_db is_active own goes t had changes more first opening found transactions committed gives a store is = record {
  fronts = λ front rest p parts.
      let inner = within front rest ends.own p (ends.at, Commit t) (parts ∙ ends.is) in own_fronts front inner.more inner.is;
  whole = subst (RecoversLonger first opening found (transactions ++ committed ∷ []) (placed log))
      (append_assoc (placed log) ends.own ((ends.at, Commit t) ∷ []) ∙ ap (λ (l : List Placed). placed log ++ l) (sym ends.is))
      (record {
        recovers = behind.recovers;
        checkpoint = keeps_then first (placed log) (placed log ++ ends.own) ((placed log ++ ends.own) ++ (ends.at, Commit t) ∷ []) front_all.checkpoint behind.checkpoint;
      });
} where
  ends : EndsInCommit t changes more
  ends = ended log end rows after last_txn last_db later_db is_active own goes t had changes more gives a

  whole : Leaves first (placed log) (store_after opening transactions)
  whole = leaves_all first opening found transactions (placed log) is

  makes : store_of rows ≡ store_after opening transactions
  makes = gives_store log end rows last_txn last_db is_active own first opening found transactions gives is

  own_fronts : (front rest : List Placed) → front ++ rest ≡ ends.own → RecoversLonger first opening found transactions (placed log) (placed log ++ front)
  own_fronts = changes_recover first opening found transactions (placed log) gives.base gives.next gives.is_open (λ d x. data_at x (rows d)) (is_live last_txn is_active) gives.logged t changes ends.own rows
      is whole.roots whole.redo gives.stands (appends log end rows after last_txn last_db later_db is_active own goes t had changes more gives a) gives.listed makes

  front_all : RecoversLonger first opening found transactions (placed log) (placed log ++ ends.own)
  front_all = own_fronts ends.own [] (append-nil ends.own)

  behind : RecoversLonger first opening found (transactions ++ committed ∷ []) (placed log ++ ends.own) ((placed log ++ ends.own) ++ (ends.at, Commit t) ∷ [])
  behind = commits_recover first opening found transactions committed (placed log ++ ends.own) gives.base (last_lsn gives.next ends.own) ends.at gives.is_open (open_after goes gives.is_open)
      (λ d x. data_at x (rows d)) (λ d x. data_at x (after d)) (is_live last_txn is_active) (waiting ends.own gives.logged) t after
      front_all.recovers front_all.checkpoint.roots front_all.checkpoint.redo
      (before log end rows after last_txn last_db later_db is_active own goes t had changes more gives a)
      (up log end rows after last_txn last_db later_db is_active own goes t had changes more gives a).1.0.0
      (live log end rows after last_txn last_db later_db is_active own goes t had changes more gives a)
      (smaller log end rows after last_txn last_db later_db is_active own goes t had changes more gives a)
      (after_is log end rows after last_txn last_db later_db is_active own goes t had changes more gives a)
      (listed log end rows after last_txn last_db later_db is_active own goes t had changes more gives a)
      (store ∙ ap (all_changed committed) makes)
