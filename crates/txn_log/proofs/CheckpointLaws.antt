-- A log buffer whose log gives records while transactions are under way, and gets the entries of a checkpoint.
use Rattle.std.proofs.Common.{◌≡◌, ℕ, ◌<◌, Bool, true, List, [], ◌∷◌, ◌++◌, Option, map, refl, sym, ap, subst, ◌∙◌}
use Rattle.std.specs.List.{AllByRecursion}
use Rattle.std.proofs.lemmas.List.{append-nil}
use Rattle.je_disk.specs.DiskMeaning.{DiskMeaning}
use Rattle.je_disk.specs.Moments.{now}
use Rattle.store_model.specs.declared.change.Change.{Change}
use Rattle.store_model.specs.declared.store.Store.{Store}
use Rattle.log_entry.specs.declared.entry.Entry.{Entry}
use Rattle.log_file.specs.Log.{Log}
use Rattle.log_buffer.specs.declared.buffer.LogBuffer.{LogBuffer}
use Rattle.log_buffer.specs.declared.log_pos.LogPos.{LogPos}
use Rattle.log_buffer.specs.Buffer.{disk_of, end_of, file_max_of, last_of}
use Rattle.log_buffer.specs.Flip.{pos_lsn}
use Rattle.log_buffer.specs.Growth.{longer}
use Rattle.log_buffer.specs.Laws.{placed_by}
use Rattle.log_buffer.specs.Log.{HasLog}
use Rattle.log_replay.specs.Rows.{Rows, data_at}
use Rattle.log_replay.proofs.ListLaws.{all_of_map}
use Rattle.log_trees.specs.Placed.{Placed, placed}
use Rattle.log_meaning.specs.Ending.{Ends}
use Rattle.log_meaning.specs.Growth.{is_neutral}
use Rattle.log_meaning.specs.Stands.{Stands}
use Rattle.log_meaning.specs.Transactions.{last_lsn}
use Rattle.log_meaning.proofs.Appending.{neutrals_stand}
use Rattle.log_meaning.proofs.Ending.{ends_recover}
use Rattle.log_meaning.proofs.Recovering.{neutrals_recover}
use Rattle.crash_recovery.specs.Appending.{HaveRoom}
use Rattle.crash_recovery.specs.Recovery.{RecoversLog}
use Rattle.crash_recovery.proofs.LongerLogs.{longer_is_named, longer_recovers}
use Rattle.txn_log.specs.Own.{OwnChange, is_live}
use Rattle.txn_log.specs.Buffers.{HasAdded, HasGiven}
use Rattle.txn_log.specs.Checkpoints.{AreNeutral, EndParts, end_entry, IsEndOf, MayHaveEnd, NeutralsAreGiven, NeutralsAreRecovered, TriedNeutralsAreRecovered, EndIsGiven, EndIsRecovered, TriedEndIsRecovered}
use Rattle.txn_log.proofs.BufferLaws.{rises, longer_placed}
use Rattle.txn_log.proofs.Recovering.{leaves_all, gives_store}

abbrev Flags : Type 0
Flags = ℕ → Bool

abbrev Owns : Type 0
Owns = ℕ → List OwnChange

-- the first of entries that change nothing change nothing
neutral_front : (front rest : List Entry) → AreNeutral (front ++ rest) → AreNeutral front
neutral_front [] rest all = tt
neutral_front (e ∷ front) rest all = (all.0, neutral_front front rest all.1)

-- a list in front of one of one element is that one, or empty
by_front : (e : Entry) (P : List Entry → Type 0) (front rest : List Entry) → front ++ rest ≡ e ∷ [] → P [] → P (e ∷ []) → P front
by_front e P [] rest parts none all = none
by_front e P (x ∷ []) rest parts none all = subst P (sym (ap (λ (y : Entry). y ∷ []) (cc))) all
by_front e P (x ∷ y ∷ front) rest parts none all = cc

module _ {D : Type 0} (meaning : DiskMeaning D) where
  -- ---- entries that change nothing

  neutral_placed : (buffer : LogBuffer D) (entries : List Entry) → map (λ p. p.1) (placed_by (file_max_of buffer) (end_of buffer) entries) ≡ entries → AreNeutral entries →
      AllByRecursion (λ p. is_neutral p.1 ≡ true) (placed_by (file_max_of buffer) (end_of buffer) entries)
  neutral_placed buffer entries are neutral =
      all_of_map (λ (p : Placed). p.1) (λ e. is_neutral e ≡ true) (placed_by (file_max_of buffer) (end_of buffer) entries) (subst AreNeutral (sym are) neutral)

  neutrals_recovered : (buffer : LogBuffer D) (log : Log) (rows : Rows) (last_txn last_db : ℕ) (is_active : Flags) (own : Owns) (entries : List Entry)
      (first : ℕ) (opening : Store) (found : ℕ) (transactions : List (List Change)) →
      HasGiven meaning buffer log rows last_txn last_db is_active own → AreNeutral entries → HaveRoom (file_max_of buffer) (end_of buffer) entries →
      RecoversLog first opening found transactions log → RecoversLog first opening found transactions (longer buffer entries log)
  neutrals_recovered buffer log rows last_txn last_db is_active own entries first opening found transactions h neutral room is =
      let most : ℕ = file_max_of buffer in
      let end : LogPos = end_of buffer in
      let more : List Placed = placed_by most end entries in
      let long = longer_is_named log end (last_of buffer) most entries is.named h.has.ends room in
      let rise = rises meaning buffer log rows last_txn last_db is_active own entries h long.named.is_log in
      let whole = leaves_all first opening found transactions (placed log) is.recovers in
      longer_recovers first opening found transactions transactions log end (last_of buffer) most entries is h.has.ends room
      (neutrals_recover first opening found transactions (placed log) h.gives.base h.gives.next h.gives.is_open (λ d x. data_at x (rows d)) (is_live last_txn is_active) h.gives.logged more rows
      is.recovers whole.roots whole.redo h.gives.stands rise.rise (neutral_placed buffer entries rise.entries_are neutral) h.gives.listed
      (gives_store log end rows last_txn last_db is_active own first opening found transactions h.gives is.recovers) more [] (append-nil more)).recovers

  -- ---- the end of a checkpoint

  -- the log with it
  ends_it : (buffer : LogBuffer D) (log : Log) (rows : Rows) (last_txn last_db : ℕ) (is_active : Flags) (own : Owns) (first : ℕ) (opening : Store) (found : ℕ) (transactions : List (List Change))
      (p : EndParts) (summary : Option ℕ) (h : HasGiven meaning buffer log rows last_txn last_db is_active own) → RecoversLog first opening found transactions log →
      MayHaveEnd meaning buffer log rows last_txn last_db is_active own h first p summary →
      Ends first opening found transactions (placed log ++ placed_by (file_max_of buffer) (end_of buffer) (end_entry p summary ∷ [])) h.gives.base
      (last_lsn h.gives.next (placed_by (file_max_of buffer) (end_of buffer) (end_entry p summary ∷ []))) h.gives.is_open (λ d x. data_at x (rows d)) (is_live last_txn is_active) h.gives.logged
  ends_it buffer log rows last_txn last_db is_active own first opening found transactions p summary h is may =
      ends_recover first opening found transactions (placed log) h.gives.base h.gives.next _ h.gives.is_open (λ d x. data_at x (rows d)) (is_live last_txn is_active) h.gives.logged
      p.number p.start p.redo p.last_txn p.last_node p.last_db summary p.roots rows is.recovers h.gives.stands may h.gives.listed
      (gives_store log (end_of buffer) rows last_txn last_db is_active own first opening found transactions h.gives is.recovers)

  end_recovered : (buffer : LogBuffer D) (log : Log) (rows : Rows) (last_txn last_db : ℕ) (is_active : Flags) (own : Owns) (first : ℕ) (opening : Store) (found : ℕ) (transactions : List (List Change))
      (p : EndParts) (summary : Option ℕ) (h : HasGiven meaning buffer log rows last_txn last_db is_active own) →
      MayHaveEnd meaning buffer log rows last_txn last_db is_active own h first p summary → HaveRoom (file_max_of buffer) (end_of buffer) (end_entry p summary ∷ []) →
      RecoversLog first opening found transactions log → RecoversLog first opening found transactions (longer buffer (end_entry p summary ∷ []) log)
  end_recovered buffer log rows last_txn last_db is_active own first opening found transactions p summary h may room is =
      longer_recovers first opening found transactions transactions log (end_of buffer) (last_of buffer) (file_max_of buffer) (end_entry p summary ∷ []) is h.has.ends room
      (ends_it buffer log rows last_txn last_db is_active own first opening found transactions p summary h is may).recovers

  pub neutrals_are_given : NeutralsAreGiven meaning
  neutrals_are_given old new log rows last_txn last_db is_active own h a =
      let longer_has : HasLog meaning.observable (now (meaning.history (disk_of new))) new (longer old a.entries log) = a.grew.log log h.has in
      let rise = rises meaning old log rows last_txn last_db is_active own a.entries h longer_has.is_log in
      let more : List Placed = placed_by (file_max_of old) (end_of old) a.entries in
      record {
        has = longer_has;
        gives = record {
          base = h.gives.base;
          next = last_lsn h.gives.next more;
          is_open = h.gives.is_open;
          logged = h.gives.logged;
          stands = subst (λ (l : List Placed). Stands l h.gives.base (last_lsn h.gives.next more) h.gives.is_open (λ d x. data_at x (rows d)) (is_live last_txn is_active) h.gives.logged)
              (sym (longer_placed meaning old log a.entries h.has))
              (neutrals_stand (placed log) h.gives.base h.gives.next h.gives.is_open (λ d x. data_at x (rows d)) (is_live last_txn is_active) h.gives.logged more h.gives.stands rise.rise
              (neutral_placed old a.entries rise.entries_are a.logs));
          own_is = h.gives.own_is;
          none = h.gives.none;
          below = subst (λ (e : LogPos). last_lsn h.gives.next more < pos_lsn e) (sym a.grew.end) rise.below;
          listed = h.gives.listed;
          later = h.gives.later;
          unused = h.gives.unused;
          numbers = h.gives.numbers;
        };
      }

  -- this life of the environment began where it did
  pub neutrals_leave_base : (old new : LogBuffer D) (log : Log) (rows : Rows) (last_txn last_db : ℕ) (is_active : Flags) (own : Owns) (h : HasGiven meaning old log rows last_txn last_db is_active own)
      (a : HasAdded meaning old new AreNeutral) →
      (neutrals_are_given old new log rows last_txn last_db is_active own h a).gives.base ≡ h.gives.base
  unfolding neutrals_are_given
  neutrals_leave_base old new log rows last_txn last_db is_active own h a = refl

  pub neutrals_are_recovered : NeutralsAreRecovered meaning
  neutrals_are_recovered old new log rows last_txn last_db is_active own first opening found transactions h a is =
      neutrals_recovered old log rows last_txn last_db is_active own a.entries first opening found transactions h a.logs a.room is

  pub tried_neutrals_are_recovered : TriedNeutralsAreRecovered meaning
  tried_neutrals_are_recovered old new log rows last_txn last_db is_active own first opening found transactions h f is =
      neutrals_recovered old log rows last_txn last_db is_active own f.front first opening found transactions h (neutral_front f.front f.is_front.0 (subst AreNeutral (sym f.is_front.1) f.logs)) f.room is

  pub end_is_given : EndIsGiven meaning
  end_is_given old new log rows last_txn last_db is_active own first opening found transactions p summary h is may a =
      let longer_has : HasLog meaning.observable (now (meaning.history (disk_of new))) new (longer old a.entries log) = a.grew.log log h.has in
      let rise = rises meaning old log rows last_txn last_db is_active own a.entries h longer_has.is_log in
      let more : List Placed = placed_by (file_max_of old) (end_of old) a.entries in
      let stands : Stands (placed log ++ more) h.gives.base (last_lsn h.gives.next more) h.gives.is_open (λ d x. data_at x (rows d)) (is_live last_txn is_active) h.gives.logged =
      subst (λ (es : List Entry). Stands (placed log ++ placed_by (file_max_of old) (end_of old) es) h.gives.base (last_lsn h.gives.next (placed_by (file_max_of old) (end_of old) es)) h.gives.is_open
      (λ d x. data_at x (rows d)) (is_live last_txn is_active) h.gives.logged) (sym a.logs)
      (ends_it old log rows last_txn last_db is_active own first opening found transactions p summary h is may).stands in
      record {
        has = longer_has;
        gives = record {
          base = h.gives.base;
          next = last_lsn h.gives.next more;
          is_open = h.gives.is_open;
          logged = h.gives.logged;
          stands = subst (λ (l : List Placed). Stands l h.gives.base (last_lsn h.gives.next more) h.gives.is_open (λ d x. data_at x (rows d)) (is_live last_txn is_active) h.gives.logged)
              (sym (longer_placed meaning old log a.entries h.has)) stands;
          own_is = h.gives.own_is;
          none = h.gives.none;
          below = subst (λ (e : LogPos). last_lsn h.gives.next more < pos_lsn e) (sym a.grew.end) rise.below;
          listed = h.gives.listed;
          later = h.gives.later;
          unused = h.gives.unused;
          numbers = h.gives.numbers;
        };
      }

  pub end_leaves_base : (old new : LogBuffer D) (log : Log) (rows : Rows) (last_txn last_db : ℕ) (is_active : Flags) (own : Owns) (first : ℕ) (opening : Store) (found : ℕ)
      (transactions : List (List Change)) (p : EndParts) (summary : Option ℕ) (h : HasGiven meaning old log rows last_txn last_db is_active own) (is : RecoversLog first opening found transactions log)
      (may : MayHaveEnd meaning old log rows last_txn last_db is_active own h first p summary) (a : HasAdded meaning old new (IsEndOf p summary)) →
      (end_is_given old new log rows last_txn last_db is_active own first opening found transactions p summary h is may a).gives.base ≡ h.gives.base
  unfolding end_is_given
  end_leaves_base old new log rows last_txn last_db is_active own first opening found transactions p summary h is may a = refl

  pub end_is_recovered : EndIsRecovered meaning
  end_is_recovered old new log rows last_txn last_db is_active own first opening found transactions p summary h may a is =
      subst (λ (es : List Entry). RecoversLog first opening found transactions (longer old es log)) (sym a.logs)
      (end_recovered old log rows last_txn last_db is_active own first opening found transactions p summary h may (subst (HaveRoom (file_max_of old) (end_of old)) a.logs a.room) is)

  pub tried_end_is_recovered : TriedEndIsRecovered meaning
  tried_end_is_recovered old new log rows last_txn last_db is_active own first opening found transactions p summary h may f is =
      by_front (end_entry p summary) (λ front. HaveRoom (file_max_of old) (end_of old) front → RecoversLog first opening found transactions (longer old front log)) f.front f.is_front.0 (f.is_front.1 ∙ f.logs)
      (λ room. is)
      (λ room. end_recovered old log rows last_txn last_db is_active own first opening found transactions p summary h may room is) f.room
