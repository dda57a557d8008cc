-- A valid environment whose log got an entry of a checkpoint.
use Rattle.std.proofs.Common.{◌≡◌, ◌≢◌, ℕ, suc, ◌≤◌, Bool, true, List, [], ◌∷◌, ◌++◌, Option, None, Some, refl, sym, ◌∙◌, subst, arith}
use Rattle.std.specs.Option.{option_map_or}
use Rattle.std.proofs.lemmas.List.{append-nil}
use Rattle.je_disk.specs.DiskMeaning.{DiskMeaning}
use Rattle.je_disk.specs.States.{State}
use Rattle.je_disk.specs.Moments.{now}
use Rattle.je_order.specs.declared.txn_id.TxnId.{TxnId}
use Rattle.lock_table.specs.Table.{at_txn}
use Rattle.store_model.specs.declared.change.Change.{Change}
use Rattle.store_model.specs.declared.store.Store.{Store}
use Rattle.je_answers.specs.Standing.{Standing}
use Rattle.log_entry.specs.declared.entry.Entry.{Entry}
use Rattle.log_entry.specs.declared.entry.Entry.TheVariants.{In, Bin, CkptEnd}
use Rattle.log_file.specs.Log.{Log}
use Rattle.log_buffer.specs.declared.buffer.LogBuffer.{LogBuffer}
use Rattle.log_buffer.specs.Buffer.{disk_of, end_of}
use Rattle.log_buffer.specs.Flip.{pos_lsn}
use Rattle.log_buffer.specs.Growth.{longer}
use Rattle.log_buffer.specs.Log.{HasLog}
use Rattle.log_replay.specs.Rows.{data_at}
use Rattle.log_trees.specs.Placed.{placed}
use Rattle.log_meaning.specs.Checkpoint.{checkpoint_in}
use Rattle.log_meaning.specs.Growth.{is_neutral}
use Rattle.record_tree.specs.Logged.{IsFront, IsImage}
use Rattle.record_tree.specs.Occupied.{AllCells}
use Rattle.record_tree.specs.declared.tree_name.TreeName.{TreeName}
use Rattle.crash_recovery.specs.Recovery.{RecoversLog}
use Rattle.db_tree.specs.declared.tree.DbTree.{DbTree}
use Rattle.db_tree.specs.Seen.{occupied}
use Rattle.tree_images.specs.Forest.{ForestFits}
use Rattle.tree_images.specs.Roots.{AreRowsOf}
use Rattle.in_tree.specs.Checkpoints.{MayEndTrees}
use Rattle.in_tree.specs.Forest.{cells_of}
use Rattle.in_tree.specs.Limits.{GrewFitting, HasRoomFor, TriedFitting, commit_sizes}
use Rattle.txn_core.specs.Known.{committed}
use Rattle.txn_log.specs.Buffers.{HasAdded, HasFailed, HasGiven}
use Rattle.txn_log.specs.Checkpoints.{AreNeutral, AreNoEnds, EndParts, IsEndOf, end_entry}
use Rattle.txn_log.proofs.CheckpointLaws.{end_is_given, end_is_recovered, end_leaves_base, neutrals_are_given, neutrals_are_recovered, neutrals_leave_base, tried_end_is_recovered, tried_neutrals_are_recovered}
use Rattle.txn_log.proofs.RedoLsns.{ends_from_end}
use Rattle.ending_laws.specs.Ends.{HasRedo, MayGetEnd}
use Rattle.ending_laws.proofs.EndStands.{ends_may_stand}
use Rattle.ending_laws.proofs.Records.{cells_are_records}
use Rattle.checkpointer.specs.Numbers.{earlier_of}
use Rattle.sessions.specs.AtStanding.{owing}
use Rattle.standing_laws.specs.Right.{txn_id}
use Rattle.engine.proofs.GuardLaws.{one_log}
use Rattle.engine.proofs.ObservedLaws.{of_observed}
use Rattle.environment.specs.declared.written.OwnNames.{OwnNames}
use Rattle.environment.specs.Steps.{RecoversWith}
use Rattle.environment.specs.Turning.{IsAtMost, IsFirstOf}
use Rattle.environment.specs.Valid.{Forest, IsValidWith, Lives, active_number}
use Rattle.environment.specs.Written.{first_at, first_noted, names_at}
use Rattle.environment.proofs.Bases.{ends_later, firsts_grow, lives_on}
use Rattle.environment.proofs.Firsts.{firsts_behind, neutral_no_commit}

-- ---- entries

pub image_neutral : (e : Entry) → IsImage e → is_neutral e ≡ true
image_neutral (In db node level slots) is = refl
image_neutral (Bin db node slots) is = refl
image_neutral e is = absurd is

no_end : (e : Entry) → is_neutral e ≡ true → (at : ℕ) → checkpoint_in at e ≡ None
no_end (CkptEnd number start redo last_txn last_node last_db summary roots) is at = cc
no_end e is at = refl

no_ends : (entries : List Entry) → AreNeutral entries → AreNoEnds entries
no_ends [] all = tt
no_ends (e ∷ entries) all = (no_end e all.0, no_ends entries all.1)

-- ---- first LSNs

at_least : (o : Option ℕ) (start redo first : ℕ) → redo ≤ earlier_of start o → IsAtMost o first → redo ≤ first
at_least None start redo first low most = absurd most
at_least (Some least) start redo first low most = grind arith

module _ {D : Type 0} (meaning : DiskMeaning D) where
  abbrev state_of : LogBuffer D → State
  state_of buffer = now (meaning.history (disk_of buffer))

  module _ (old new : LogBuffer D) (cells : AllCells) (has_tree : ℕ → Bool) (forest : Forest) (since : ℕ) (written : List (TxnId × OwnNames)) (st : Standing)
      (v : IsValidWith meaning.observable (state_of old) old cells has_tree forest since written st) where
    abbrev Given : LogBuffer D → Log → Type 0
    Given buffer log = HasGiven meaning buffer log (committed cells) st.last_txn st.last_db (active_number st.actives) st.own

    abbrev given : Given old v.log
    given = record { has = v.has; gives = v.gives }

    -- what holds of the log that gives the records holds of each that the buffer has
    on_log : meaning.observable ≡ true → (P : Log → Type 0) → P v.log → (log : Log) → HasLog meaning.observable (state_of old) old log → P log
    on_log observed P its log has =
        subst P (one_log (state_of old) old v.log log (of_observed meaning.observable (state_of old) old v.log observed v.has) (of_observed meaning.observable (state_of old) old log observed has)) its

    -- ---- the longer log

    module _ (entries : List Entry) (later : Forest) (begun : Bool) where
      abbrev long : Log
      long = longer old entries v.log

      -- where the log got entries that leave what it gives and recovers, the environment is valid
      valid_longer : (later_since : ℕ) (g : Given new long) → g.gives.base ≡ v.gives.base → GrewFitting meaning old new entries →
          Lives later long later_since (pos_lsn (end_of new)) written v.gives.base → RecoversLog v.recovers.first v.recovers.opening v.recovers.base v.recovers.transactions long →
          ((n : ℕ) → owing st ≡ suc n → HasRoomFor new (commit_sizes (suc n))) →
          IsValidWith meaning.observable (state_of new) new cells has_tree later later_since written (record st { in_checkpoint = begun })
      valid_longer later_since g base grew lives recovers room =
          let moved : Lives later long later_since (pos_lsn (end_of new)) written g.gives.base = subst (Lives later long later_since (pos_lsn (end_of new)) written) (sym base) lives in
          record {
            log = long;
            has = g.has;
            works = grew.grew.failed ∙ v.works;
            gives = g.gives;
            recovers = record {
              first = v.recovers.first;
              opening = v.recovers.opening;
              base = v.recovers.base;
              transactions = v.recovers.transactions;
              recovers = recovers;
              made = v.recovers.made;
            };
            makes = record {
              environment = v.makes.environment;
              rising = v.makes.rising;
              unused = v.makes.unused;
              numbers = v.makes.numbers;
              store = v.makes.store;
              named = v.makes.named;
            };
            writes = v.writes;
            may = v.may;
            made = v.made;
            room = room;
            names = v.names;
            fits = moved.fits;
            from = moved.from;
            firsts = moved.firsts;
          }

    -- ---- entries that change nothing

    abbrev Grew : List Entry → Type 0
    Grew entries = GrewFitting meaning old new entries

    abbrev Tried : List Entry → Type 0
    Tried front = TriedFitting meaning old new front

    abbrev added : (entries : List Entry) (Logs : List Entry → Type 0) → Logs entries → Grew entries → HasAdded meaning old new Logs
    added entries Logs logs grew = record { entries = entries; logs = logs; grew = grew.grew; room = record { max = old.max; entries_are = grew.fits.entries_are; room = grew.fits.room } }

    abbrev failed : (entries front : List Entry) (Logs : List Entry → Type 0) → Logs entries → IsFront front entries → Tried front → HasFailed meaning old new Logs
    failed entries front Logs logs is_front tried =
        record { entries = entries; front = front; logs = logs; is_front = is_front; tried = tried.tried; room = record { max = old.max; entries_are = tried.fits.entries_are; room = tried.fits.room } }

    -- a log with further entries recovers no transactions more
    none_more : (entries : List Entry) (first : ℕ) (opening : Store) (base : ℕ) (transactions : List (List Change)) (log : Log) → RecoversLog first opening base transactions (longer old entries log) →
        RecoversLog first opening base (transactions ++ []) (longer old entries log)
    none_more entries first opening base transactions log is = subst (λ (l : List (List Change)). RecoversLog first opening base l (longer old entries log)) (sym (append-nil transactions)) is

    pub valid_neutral : (entries : List Entry) (later : Forest) (begun : Bool) → AreNeutral entries → Grew entries → (forest (placed v.log) v.gives.base → later (placed (longer old entries v.log)) v.gives.base) →
        ((n : ℕ) → owing st ≡ suc n → HasRoomFor new (commit_sizes (suc n))) → IsValidWith meaning.observable (state_of new) new cells has_tree later since written (record st { in_checkpoint = begun })
    valid_neutral entries later begun neutral grew carries room =
        valid_longer entries later begun since
        (neutrals_are_given meaning old new v.log (committed cells) st.last_txn st.last_db (active_number st.actives) st.own given (added entries AreNeutral neutral grew))
        (neutrals_leave_base meaning old new v.log (committed cells) st.last_txn st.last_db (active_number st.actives) st.own given (added entries AreNeutral neutral grew))
        grew (lives_on meaning old new v.log entries later since v.gives.base written v.has grew.grew (no_ends entries neutral) (carries v.fits) v.from (λ t named. neutral_no_commit t entries neutral) v.firsts)
        (neutrals_are_recovered meaning old new v.log (committed cells) st.last_txn st.last_db (active_number st.actives) st.own v.recovers.first v.recovers.opening v.recovers.base
        v.recovers.transactions given (added entries AreNeutral neutral grew) v.recovers.recovers) room

    pub recovers_neutral : (entries : List Entry) → AreNeutral entries → Grew entries → RecoversWith meaning old entries []
    recovers_neutral entries neutral grew observed log has first opening base transactions =
        on_log observed (λ l. RecoversLog first opening base transactions l → RecoversLog first opening base (transactions ++ []) (longer old entries l))
        (λ is. none_more entries first opening base transactions v.log
        (neutrals_are_recovered meaning old new v.log (committed cells) st.last_txn st.last_db (active_number st.actives) st.own first opening base transactions given
        (added entries AreNeutral neutral grew) is)) log has

    pub tries_neutral : (entries front : List Entry) → AreNeutral entries → IsFront front entries → Tried front → RecoversWith meaning old front []
    tries_neutral entries front neutral is_front tried observed log has first opening base transactions =
        on_log observed (λ l. RecoversLog first opening base transactions l → RecoversLog first opening base (transactions ++ []) (longer old front l))
        (λ is. none_more front first opening base transactions v.log
        (tried_neutrals_are_recovered meaning old new v.log (committed cells) st.last_txn st.last_db (active_number st.actives) st.own first opening base transactions given
        (failed entries front AreNeutral neutral is_front tried) is)) log has

    -- ---- the end of a checkpoint

    -- a redo LSN that is above no first LSN is not above that of a transaction with names
    below_first : (o : Option ℕ) (start redo : ℕ) → redo ≤ earlier_of start o → IsFirstOf written o → (t : ℕ) → names_at (txn_id t) written ≢ [] → redo ≤ first_at (txn_id t) written
    below_first o start redo low first t some = by_own (at_txn (txn_id t) written) refl some
      where
        by_names : (own : OwnNames) (names : List TreeName) → at_txn (txn_id t) written ≡ Some own → own.names.items ≢ [] → names ≢ [] → redo ≤ first_noted names own.first
        by_names own [] is named none = absurd (none refl)
        by_names own (name ∷ names) is named none = at_least o start redo own.first low (first.least (txn_id t) own is named)

        by_own : (found : Option OwnNames) → at_txn (txn_id t) written ≡ found → option_map_or (λ (w : OwnNames). w.names.items) found [] ≢ [] →
            redo ≤ option_map_or (λ (w : OwnNames). first_noted w.names.items w.first) found 0
        by_own None is none = absurd (none refl)
        by_own (Some own) is none = by_names own own.names.items is none none

    module _ (p : EndParts) (last : ℕ) (trees : ℕ → Option DbTree) (o : Option ℕ) (start : ℕ) (cells_are : cells ≡ (λ d. occupied (cells_of (trees d)))) (fits : forest ≡ (λ es base. ForestFits es base last trees))
        (since_low : since ≤ p.redo) (low : p.redo ≤ earlier_of start o) (first : IsFirstOf written o) (may : MayEndTrees old trees p.redo p.roots) where
      abbrev ends : List Entry
      ends = end_entry p None ∷ []

      has_redo : HasRedo meaning old v.log (committed cells) st.last_txn st.last_db (active_number st.actives) st.own given since p.redo last trees p.roots
      has_redo = record {
        from = v.from;
        since_low = since_low;
        names = may;
        fits = subst (λ (f : Forest). f (placed v.log) v.gives.base) fits v.fits;
        records = subst (λ (c : AllCells). AreRowsOf v.gives.is_open (λ d x. data_at x (committed c d)) trees) (sym cells_are) (cells_are_records v.gives.is_open trees may.rising);
        firsts = firsts_behind v.log (end_of old) (committed cells) st.last_txn st.last_db (active_number st.actives) st.own v.gives written (pos_lsn (end_of old)) p.redo v.names v.firsts
            (below_first o start p.redo low first);
      }

      abbrev EndMay : ℕ → Type 0
      EndMay from = MayGetEnd meaning old v.log (committed cells) st.last_txn st.last_db (active_number st.actives) st.own v.gives.base from p None

      may_end : (from : ℕ) (opening : Store) (base : ℕ) (transactions : List (List Change)) → RecoversLog from opening base transactions v.log → EndMay from
      may_end from opening base transactions is =
          ends_may_stand meaning old v.log (committed cells) st.last_txn st.last_db (active_number st.actives) st.own from opening base transactions p None since last trees given is has_redo

      pub recovers_end : Grew ends → RecoversWith meaning old ends []
      recovers_end grew observed log has from opening base transactions =
          on_log observed (λ l. RecoversLog from opening base transactions l → RecoversLog from opening base (transactions ++ []) (longer old ends l))
          (λ is. (let m = may_end from opening base transactions is in
          none_more ends from opening base transactions v.log
          (end_is_recovered meaning old new v.log (committed cells) st.last_txn st.last_db (active_number st.actives) st.own from opening base transactions p None m.given m.may
          (added ends (IsEndOf p None) refl grew) is))) log has

      pub tries_end : (front : List Entry) → IsFront front ends → Tried front → RecoversWith meaning old front []
      tries_end front is_front tried observed log has from opening base transactions =
          on_log observed (λ l. RecoversLog from opening base transactions l → RecoversLog from opening base (transactions ++ []) (longer old front l))
          (λ is. (let m = may_end from opening base transactions is in
          none_more front from opening base transactions v.log
          (tried_end_is_recovered meaning old new v.log (committed cells) st.last_txn st.last_db (active_number st.actives) st.own from opening base transactions p None m.given m.may
          (failed ends front (IsEndOf p None) refl is_front tried) is))) log has

      pub valid_end : (later : Forest) (begun : Bool) → Grew ends → (forest (placed v.log) v.gives.base → later (placed (longer old ends v.log)) v.gives.base) →
          ((n : ℕ) → owing st ≡ suc n → HasRoomFor new (commit_sizes (suc n))) → IsValidWith meaning.observable (state_of new) new cells has_tree later p.redo written (record st { in_checkpoint = begun })
      valid_end later begun grew carries room =
          let m : EndMay v.recovers.first = may_end v.recovers.first v.recovers.opening v.recovers.base v.recovers.transactions v.recovers.recovers in
          valid_longer ends later begun p.redo
          (end_is_given meaning old new v.log (committed cells) st.last_txn st.last_db (active_number st.actives) st.own v.recovers.first v.recovers.opening v.recovers.base
          v.recovers.transactions p None m.given v.recovers.recovers m.may (added ends (IsEndOf p None) refl grew))
          (end_leaves_base meaning old new v.log (committed cells) st.last_txn st.last_db (active_number st.actives) st.own v.recovers.first v.recovers.opening v.recovers.base
          v.recovers.transactions p None m.given v.recovers.recovers m.may (added ends (IsEndOf p None) refl grew) ∙ m.same)
          grew
          (record {
            fits = carries v.fits;
            from = ends_from_end meaning old v.log p None v.gives.base since v.has since_low v.from;
            firsts = firsts_grow meaning old v.log ends v.gives.base (pos_lsn (end_of new)) written v.has (grew.grew.log v.log v.has).is_log
                (ends_later meaning old new v.log ends v.has grew.grew) (λ t named. (tt, tt)) v.firsts;
          })
          (end_is_recovered meaning old new v.log (committed cells) st.last_txn st.last_db (active_number st.actives) st.own v.recovers.first v.recovers.opening v.recovers.base
          v.recovers.transactions p None m.given m.may (added ends (IsEndOf p None) refl grew) v.recovers.recovers) room
