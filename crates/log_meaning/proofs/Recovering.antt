-- A log that is longer by the entries of a transaction recovers one transaction more.
use Rattle.std.proofs.Common.{◌≡◌, ℕ, ◌<◌, ◌≤◌, Bool, true, false, List, [], ◌∷◌, ◌++◌, Option, None, Ok, unwrap_or, Result, refl, sym, ap, subst, ◌∙◌, arith, append_assoc}
use Rattle.std.proofs.lemmas.List.{append-nil}
use Rattle.std.specs.List.{AllByRecursion}
use Rattle.je_order.specs.declared.name.Name.{Name}
use Rattle.je_order.specs.declared.txn_id.TxnId.{TxnId}
use Rattle.je_order.proofs.Lists.{all_weaker}
use Rattle.store_model.specs.declared.change.Change.{Change}
use Rattle.store_model.specs.declared.store.Store.{Store}
use Rattle.store_model.specs.Store.{all_changed, store_after}
use Rattle.log_entry.specs.declared.entry.Entry.TheVariants.{Commit}
use Rattle.log_replay.specs.declared.corruption.Corruption.{Corruption}
use Rattle.log_replay.specs.Rows.{Rows, store_of}
use Rattle.log_replay.specs.Wrong.{or_else}
use Rattle.log_replay.proofs.ListLaws.{all_parts}
use Rattle.log_trees.specs.Placed.{Placed}
use Rattle.log_trees.specs.Changes.{LoggedChange}
use Rattle.log_trees.specs.Trees.{rows_of_roots}
use Rattle.log_trees.specs.Walk.{Walk, read_roots}
use Rattle.log_trees.proofs.LongerLogs.{readings_stay}
use Rattle.log_trees.proofs.Staying.{roots_stay}
use Rattle.log_meaning.specs.Checkpoint.{Checkpoint, no_checkpoint, checkpoint_in, last_end, last_checkpoint}
use Rattle.log_meaning.specs.Redo.{emptied}
use Rattle.log_meaning.specs.Growth.{is_neutral}
use Rattle.log_meaning.specs.Stands.{Stands}
use Rattle.log_meaning.proofs.Standing.{stands_commit}
use Rattle.log_meaning.specs.Recovery.{is_commit, AreRootsRead, IsRedoLsn, Leaves, Recovers, with_commit}
use Rattle.log_meaning.specs.Transactions.{RiseBehind, last_lsn, waiting, KeepsCheckpoint, CheckpointsStay, AreListed, RecoversLonger, ChangesRecover, TransactionsRecover, NeutralsRecover, CommitsRecover}
use Rattle.log_meaning.proofs.RedoLaws.{last_end-push}
use Rattle.log_meaning.proofs.Leaving.{stands_leaves, recovers_push}
use Rattle.log_meaning.proofs.Appending.{IsOwnEntry, are_own, own_no_commit, own_no_end, neutral_no_commit, neutral_no_end, neutrals_stand, stands_front, rise_parts, within, EndsInCommit, ends_in_commit, after_waits}

abbrev Flags : Type 0
Flags = ℕ → Bool

abbrev Data : Type 0
Data = ℕ → Name → Option (List ℕ)

abbrev Own : Type 0
Own = ℕ → List LoggedChange

-- ---- the last checkpoint

last_end-stays : (more es : List Placed) → AllByRecursion (λ p. checkpoint_in p.0 p.1 ≡ None) more → last_end (es ++ more) ≡ last_end es
last_end-stays [] es all = ap last_end (append-nil es)
last_end-stays (p ∷ more) es all =
    ap last_end (sym (append_assoc es (p ∷ []) more))
    ∙ last_end-stays more (es ++ p ∷ []) all.1
    ∙ last_end-push es p
    ∙ ap (λ (o : Option Checkpoint). or_else o (last_end es)) all.0

-- a walk that read these rows
abbrev pub read_as : List ℕ → List LoggedChange → Result Walk Corruption
read_as numbers rows = Ok (record { seen = numbers; rows = rows })

pub checkpoints_stay : CheckpointsStay
checkpoints_stay first es more next roots redo low up all =
    let c : Checkpoint = last_checkpoint es in
    let last : last_end (es ++ more) ≡ last_end es = last_end-stays more es all in
    let same : last_checkpoint (es ++ more) ≡ c = ap (λ (o : Option Checkpoint). unwrap_or o no_checkpoint) last in
    let behind : AllByRecursion (λ p. c.at ≤ p.0) more = all_weaker (λ (p : Placed). next < p.0) (λ p. c.at ≤ p.0) (λ p h. omega (arith, h, low)) more up.0 in
    record {
      last = last;
      roots = λ files.
          let read = roots files in
          subst (λ (k : Checkpoint). (numbers : List ℕ) × (read_roots files (es ++ more) k.at k.roots ≡ read_as numbers (rows_of_roots (es ++ more) k.at k.roots))) (sym same)
          (read.0, readings_stay files es more c.at c.roots behind ∙ read.1 ∙ ap (read_as read.0) (sym (roots_stay es more c.at c.roots behind)));
      redo = subst (IsRedoLsn first) (sym last) redo;
    }

-- ---- stores

store_after-push : (base : Store) (transactions : List (List Change)) (own : List Change) → store_after base (transactions ++ own ∷ []) ≡ all_changed own (store_after base transactions)
store_after-push base [] own = refl
store_after-push base (changes ∷ transactions) own = store_after-push (all_changed changes base) transactions own

-- a log that stands leaves the store of its records
pub leaves_of : (first : ℕ) (es : List Placed) (base next : ℕ) (is_open : Flags) (rows : Data) (is_live : Flags) (logged : Own) (kept : Rows) (store : Store) →
    Stands es base next is_open rows is_live logged → AreRootsRead es → IsRedoLsn first (last_end es) → AreListed is_open rows kept → store_of kept ≡ store → Leaves first es store
leaves_of first es base next is_open rows is_live logged kept store s roots redo listed is =
    subst (Leaves first es) is
    (stands_leaves first es base next is_open rows is_live logged kept s roots redo listed.rising listed.data_is listed.catalog listed.named listed.environment)

-- ---- entries that commit nothing

recovers_on : (first : ℕ) (opening : Store) (found : ℕ) (transactions : List (List Change)) (more es : List Placed) → Recovers first opening found transactions es →
    AllByRecursion (λ p. is_commit p.1 ≡ false) more → ((front rest : List Placed) → front ++ rest ≡ more → Leaves first (es ++ front) (store_after opening transactions)) →
    Recovers first opening found transactions (es ++ more)
recovers_on first opening found transactions [] es is none leaves = subst (Recovers first opening found transactions) (sym (append-nil es)) is
recovers_on first opening found transactions (p ∷ more) es is none leaves =
    let made : Leaves first (es ++ p ∷ []) (store_after opening (with_commit (is_commit p.1) [] transactions)) =
    subst (λ (b : Bool). Leaves first (es ++ p ∷ []) (store_after opening (with_commit b [] transactions))) (sym none.0) (leaves (p ∷ []) more refl) in
    let step : Recovers first opening found transactions (es ++ p ∷ []) =
    subst (λ (b : Bool). Recovers first opening found (with_commit b [] transactions) (es ++ p ∷ [])) none.0 (recovers_push first opening found transactions [] es p is made) in
    subst (Recovers first opening found transactions) (append_assoc es (p ∷ []) more)
    (recovers_on first opening found transactions more (es ++ p ∷ []) step none.1
    (λ front rest parts.
    subst (λ (l : List Placed). Leaves first l (store_after opening transactions)) (sym (append_assoc es (p ∷ []) front)) (leaves (p ∷ front) rest (ap (λ (l : List Placed). p ∷ l) parts))))

-- what holds of entries that end no transaction and no checkpoint, and behind each front of which the log stands
module _ (first : ℕ) (opening : Store) (found : ℕ) (transactions : List (List Change)) (es : List Placed) (base next : ℕ) (is_open : Flags) (rows : Data) (is_live : Flags) (waits : List Placed → Own)
    (more : List Placed) (kept : Rows) (roots : AreRootsRead es) (redo : IsRedoLsn first (last_end es)) (low : (last_checkpoint es).at ≤ next)
    (stands : (front rest : List Placed) → front ++ rest ≡ more → Stands (es ++ front) base (last_lsn next front) is_open rows is_live (waits front))
    (no_end : AllByRecursion (λ p. checkpoint_in p.0 p.1 ≡ None) more) (no_commit : AllByRecursion (λ p. is_commit p.1 ≡ false) more) (up : RiseBehind next more)
    (listed : AreListed is_open rows kept) (store : store_of kept ≡ store_after opening transactions) where
  front_keeps : (front rest : List Placed) → front ++ rest ≡ more → KeepsCheckpoint first es (es ++ front)
  front_keeps front rest is =
      checkpoints_stay first es front next roots redo low (rise_parts next front rest (subst (RiseBehind next) (sym is) up)).0
      (all_parts (λ (p : Placed). checkpoint_in p.0 p.1 ≡ None) front rest (subst (AllByRecursion (λ p. checkpoint_in p.0 p.1 ≡ None)) (sym is) no_end)).0

  front_leaves : (front rest : List Placed) → front ++ rest ≡ more → Leaves first (es ++ front) (store_after opening transactions)
  front_leaves front rest is =
      let keeps = front_keeps front rest is in
      leaves_of first (es ++ front) base (last_lsn next front) is_open rows is_live (waits front) kept (store_after opening transactions) (stands front rest is) keeps.roots keeps.redo listed store

  front_recovers : Recovers first opening found transactions es → (front rest : List Placed) → front ++ rest ≡ more → RecoversLonger first opening found transactions es (es ++ front)
  front_recovers is front rest parts = record {
    recovers = recovers_on first opening found transactions front es is
        (all_parts (λ (p : Placed). is_commit p.1 ≡ false) front rest (subst (AllByRecursion (λ p. is_commit p.1 ≡ false)) (sym parts) no_commit)).0
        (λ a b inner. front_leaves a (b ++ rest) (sym (append_assoc a b rest) ∙ ap (λ (l : List Placed). l ++ rest) inner ∙ parts));
    checkpoint = front_keeps front rest parts;
  }

-- a transaction's entries before its Commit
own_recovers : (first : ℕ) (opening : Store) (found : ℕ) (transactions : List (List Change)) (es : List Placed) (base next : ℕ) (is_open : Flags) (rows : Data) (is_live : Flags) (logged : Own)
    (t : TxnId) (own : List Placed) (kept : Rows) → AreRootsRead es → IsRedoLsn first (last_end es) → Stands es base next is_open rows is_live logged → is_live t.0 ≡ true →
    AllByRecursion (λ p. IsOwnEntry is_live logged t p.1) own → RiseBehind next own → AreListed is_open rows kept → store_of kept ≡ store_after opening transactions →
    Recovers first opening found transactions es → (front rest : List Placed) → front ++ rest ≡ own → RecoversLonger first opening found transactions es (es ++ front)
own_recovers first opening found transactions es base next is_open rows is_live logged t own kept roots redo s live entries up listed store is =
    front_recovers first opening found transactions es base next is_open rows is_live (λ front. waiting front logged) own kept roots redo s.reach.0
    (λ front rest parts. stands_front front rest own es base next is_open rows is_live logged t s live entries up parts)
    (all_weaker (λ (p : Placed). IsOwnEntry is_live logged t p.1) (λ p. checkpoint_in p.0 p.1 ≡ None) (λ p h. own_no_end is_live logged t p.0 p.1 h) own entries)
    (all_weaker (λ (p : Placed). IsOwnEntry is_live logged t p.1) (λ p. is_commit p.1 ≡ false) (λ p h. own_no_commit is_live logged t p.1 h) own entries)
    up listed store is

pub changes_recover : ChangesRecover
changes_recover first opening found transactions es base next is_open rows is_live logged t changes more kept is roots redo s appends listed store =
    own_recovers first opening found transactions es base next is_open rows is_live logged t more kept roots redo s appends.live
    (are_own is_live logged t changes more appends.free appends.logs) appends.rise listed store is

pub neutrals_recover : NeutralsRecover
neutrals_recover first opening found transactions es base next is_open rows is_live logged more kept is roots redo s up neutral listed store =
    front_recovers first opening found transactions es base next is_open rows is_live (λ front. logged) more kept roots redo s.reach.0
    (λ front rest parts. neutrals_stand es base next is_open rows is_live logged front s (rise_parts next front rest (subst (RiseBehind next) (sym parts) up)).0
    (all_parts (λ (p : Placed). is_neutral p.1 ≡ true) front rest (subst (AllByRecursion (λ p. is_neutral p.1 ≡ true)) (sym parts) neutral)).0)
    (all_weaker (λ (p : Placed). is_neutral p.1 ≡ true) (λ p. checkpoint_in p.0 p.1 ≡ None) (λ p h. neutral_no_end p.0 p.1 h) more neutral)
    (all_weaker (λ (p : Placed). is_neutral p.1 ≡ true) (λ p. is_commit p.1 ≡ false) (λ p h. neutral_no_commit p.1 h) more neutral)
    up listed store is

-- ---- a Commit

pub commits_recover : CommitsRecover
commits_recover first opening found transactions own es base next at is_open fewer rows after is_live logged t kept_after is roots redo s lt live smaller after_is listed store =
    let keeps : KeepsCheckpoint first es (es ++ (at, Commit t) ∷ []) = checkpoints_stay first es ((at, Commit t) ∷ []) next roots redo s.reach.0 ((lt, tt), (tt, tt)) (refl, tt) in
    record {
      recovers = recovers_push first opening found transactions own es (at, Commit t) is
          (leaves_of first (es ++ (at, Commit t) ∷ []) base at fewer after is_live (emptied t.0 logged) kept_after (store_after opening (transactions ++ own ∷ []))
          (stands_commit es base next at is_open fewer rows after is_live logged t s lt live smaller after_is) keeps.roots keeps.redo listed
          (store ∙ sym (store_after-push opening transactions own)));
      checkpoint = keeps;
    }

-- ---- a whole transaction

-- what is kept of a checkpoint is kept through two steps
keeps_then : (first : ℕ) (a b c : List Placed) → KeepsCheckpoint first a b → KeepsCheckpoint first b c → KeepsCheckpoint first a c
keeps_then first a b c one two = record { last = two.last ∙ one.last; roots = two.roots; redo = two.redo }

pub transactions_recover : TransactionsRecover
transactions_recover first opening found transactions own es base next is_open fewer rows after is_live logged t changes more kept kept_after is roots redo s appends listed listed_after store store_after_is =
    record {
      fronts = λ front rest p parts. let inner = within front rest ended.own p (ended.at, Commit t) (parts ∙ ended.is) in own_fronts front inner.more inner.is;
      whole = subst (RecoversLonger first opening found (transactions ++ own ∷ []) es) same
          (record { recovers = committed.recovers; checkpoint = keeps_then first es (es ++ ended.own) ((es ++ ended.own) ++ (ended.at, Commit t) ∷ []) before.checkpoint committed.checkpoint });
    }
  where
    ended : EndsInCommit t changes more
    ended = ends_in_commit t changes more appends.logs

    entries : AllByRecursion (λ p. IsOwnEntry is_live logged t p.1) ended.own
    entries = are_own is_live logged t changes ended.own appends.free ended.logs

    up : RiseBehind next ended.own × RiseBehind (last_lsn next ended.own) ((ended.at, Commit t) ∷ [])
    up = rise_parts next ended.own ((ended.at, Commit t) ∷ []) (subst (RiseBehind next) ended.is appends.rise)

    own_fronts : (front rest : List Placed) → front ++ rest ≡ ended.own → RecoversLonger first opening found transactions es (es ++ front)
    own_fronts = own_recovers first opening found transactions es base next is_open rows is_live logged t ended.own kept roots redo s appends.live entries up.0 listed store is

    before : RecoversLonger first opening found transactions es (es ++ ended.own)
    before = own_fronts ended.own [] (append-nil ended.own)

    committed : RecoversLonger first opening found (transactions ++ own ∷ []) (es ++ ended.own) ((es ++ ended.own) ++ (ended.at, Commit t) ∷ [])
    committed = commits_recover first opening found transactions own (es ++ ended.own) base (last_lsn next ended.own) ended.at is_open fewer rows after is_live (waiting ended.own logged) t kept_after
        before.recovers before.checkpoint.roots before.checkpoint.redo
        (stands_front ended.own [] ended.own es base next is_open rows is_live logged t s appends.live entries up.0 (append-nil ended.own)) up.1.0.0 appends.live appends.smaller
        (after_waits fewer rows after logged t changes ended.own appends.begins ended.logs appends.after_is) listed_after store_after_is

    same : (es ++ ended.own) ++ (ended.at, Commit t) ∷ [] ≡ es ++ more
    same = append_assoc es ended.own ((ended.at, Commit t) ∷ []) ∙ ap (λ (l : List Placed). es ++ l) (sym ended.is)
