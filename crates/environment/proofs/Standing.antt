-- Where an environment stands when its log was written out or synced, or the disk failed.
use Rattle.std.proofs.Common.{◌≡◌, ℕ, suc, ◌∙◌, Bool, false, List, Option, None, Some, refl, sym, subst, ◌≤◌}
use Rattle.txn_log.proofs.AtStandingLaws.{same_under}
use Rattle.je_disk.specs.States.{State}
use Rattle.je_order.specs.declared.txn_id.TxnId.{TxnId}
use Rattle.je_lsn.specs.Naming.{last_file}
use Rattle.store_model.specs.declared.answer.Fault.TheVariants.{Disk}
use Rattle.je_answers.specs.Standing.{Standing}
use Rattle.log_file.specs.Log.{Log}
use Rattle.log_buffer.specs.declared.buffer.LogBuffer.{LogBuffer}
use Rattle.log_buffer.specs.declared.log_pos.LogPos.{LogPos}
use Rattle.log_buffer.specs.Buffer.{HasRoom, end_of, file_max_of, has_failed}
use Rattle.log_buffer.specs.Flip.{pos_lsn}
use Rattle.log_buffer.specs.Flip.{end_after_all}
use Rattle.log_buffer.specs.Log.{HasLog}
use Rattle.in_tree.specs.Limits.{HasRoomFor, commit_sizes}
use Rattle.record_tree.specs.Occupied.{AllCells}
use Rattle.sessions.specs.declared.all_sessions.Sessions.{Sessions}
use Rattle.sessions.specs.AtStanding.{AreSessionsAt}
use Rattle.standing_laws.specs.Right.{AreRight}
use Rattle.txn_core.specs.Known.{committed}
use Rattle.txn_log.specs.Gives.{GivesRecordsWith}
use Rattle.engine.specs.declared.kept.Kept.{Kept}
use Rattle.environment.specs.declared.environment.Environment.{Environment}
use Rattle.environment.specs.declared.written.OwnNames.{OwnNames}
use Rattle.environment.specs.Valid.{AreAt, IsValidWith, Lives, active_number, Forest}
use Rattle.environment.specs.Whole.{IsAt}
use Rattle.environment.proofs.Bases.{lives_at}

-- a sync that is under way is no part of what holds of a standing
pub right_begun : (st : Standing) (begun : Option ℕ) → AreRight st → AreRight (record st { begun = begun })
right_begun st begun right = right

pub sessions_begun : (s : Sessions) (st : Standing) (begun : Option ℕ) → AreSessionsAt s st → AreSessionsAt s (record st { begun = begun })
sessions_begun s st begun at = at

-- after a fault no lock counts
pub sessions_faulted : (s : Sessions) (st : Standing) (begun : Option ℕ) → AreSessionsAt s st → AreSessionsAt s (record st { fault = Some Disk; begun = begun })
sessions_faulted s st begun at = record { actives = at.actives; own = at.own; places = at.places; waiting = at.waiting; locks = tt }

module _ {D : Type 0} where
  -- a log buffer that was written out, or whose sync began or ended
  pub record IsLike (observable : Bool) (before after : State) (old new : LogBuffer D) : Type 0 where
    pub logs : (log : Log) → HasLog observable before old log → HasLog observable after new log
    pub end : end_of new ≡ end_of old
    pub max : file_max_of new ≡ file_max_of old
    pub works : has_failed new ≡ false
    pub room : (sizes : List ℕ) → HasRoom old sizes → HasRoom new sizes

  room_like : (observable : Bool) (before after : State) (old new : LogBuffer D) (sizes : List ℕ) → IsLike observable before after old new → HasRoomFor old sizes → HasRoomFor new sizes
  room_like observable before after old new sizes like room = record {
    works = like.works;
    room = like.room sizes room.room;
    files = subst (λ (m : ℕ). (end_after_all m (end_of new) sizes).file ≤ last_file) (sym like.max)
        (subst (λ (e : LogPos). (end_after_all (file_max_of old) e sizes).file ≤ last_file) (sym like.end) room.files);
  }

  -- trees over such a log
  pub valid_like : (observable : Bool) (before after : State) (buffer other : LogBuffer D) (cells : AllCells) (has_tree : ℕ → Bool) (forest : Forest) (since : ℕ) (written : List (TxnId × OwnNames)) (st : Standing) (begun : Option ℕ) →
      IsLike observable before after buffer other → IsValidWith observable before buffer cells has_tree forest since written st →
      IsValidWith observable after other cells has_tree forest since written (record st { begun = begun })
  valid_like observable before after buffer other cells has_tree forest since written st begun like v = record {
    log = v.log;
    has = like.logs v.log v.has;
    works = like.works;
    gives = subst (λ (e : LogPos). GivesRecordsWith v.log e (committed cells) st.last_txn st.last_db (active_number st.actives) st.own) (sym like.end) v.gives;
    recovers = v.recovers;
    makes = record {
      environment = v.makes.environment;
      rising = v.makes.rising;
      unused = v.makes.unused;
      numbers = v.makes.numbers;
      store = v.makes.store;
      named = v.makes.named;
    };
    writes = v.writes;
    may = v.may;
    made = v.made;
    room = λ n is. room_like observable before after buffer other (commit_sizes (suc n)) like (v.room n is);
    names = v.names;
    fits = lives.fits;
    from = lives.from;
    firsts = lives.firsts;
  }
    where
      lives : Lives forest v.log since (pos_lsn (end_of other)) written
          (subst (λ (e : LogPos). GivesRecordsWith v.log e (committed cells) st.last_txn st.last_db (active_number st.actives) st.own) (sym like.end) v.gives).base
      lives =
          subst (Lives forest v.log since (pos_lsn (end_of other)) written)
          (sym (same_under (λ (e : LogPos). GivesRecordsWith v.log e (committed cells) st.last_txn st.last_db (active_number st.actives) st.own) (λ e g. g.base) (sym like.end) v.gives))
          (subst (λ (e : LogPos). Lives forest v.log since (pos_lsn e) written v.gives.base) (sym like.end) (lives_at observable before buffer cells has_tree forest since written st v))

  -- an environment with another buffer, and one whose disk failed
  pub at_like : (most : ℕ) (observable : Bool) (before after : State) (buffer other : LogBuffer D) (cells : AllCells) (has_tree : ℕ → Bool) (forest : Forest) (kept : Kept) (sessions : Sessions) (written : List (TxnId × OwnNames))
      (st : Standing) (begun : Option ℕ) → IsLike observable before after buffer other → AreAt most observable before buffer cells has_tree forest kept sessions written st →
      AreAt most observable after other cells has_tree forest kept sessions written (record st { begun = begun })
  at_like most observable before after buffer other cells has_tree forest kept sessions written st begun like at = record {
    file_max = like.max ∙ at.file_max;
    fault = at.fault;
    last_txn = at.last_txn;
    last_db = at.last_db;
    commits = at.commits;
    totals = at.totals;
    sessions_at = sessions_begun sessions st begun at.sessions_at;
    apart = at.apart;
    checkpoint = at.checkpoint;
    databases = at.databases;
    valid = λ none. valid_like observable before after buffer other cells has_tree forest kept.since written st begun like (at.valid none);
  }

  pub at_failed : (most : ℕ) (observable : Bool) (before after : State) (buffer other : LogBuffer D) (cells later : AllCells) (has_tree later_tree : ℕ → Bool) (forest later_forest : Forest) (kept : Kept) (sessions : Sessions)
      (written later_written : List (TxnId × OwnNames)) (st : Standing) (begun : Option ℕ) → file_max_of other ≡ file_max_of buffer →
      AreAt most observable before buffer cells has_tree forest kept sessions written st →
      AreAt most observable after other later later_tree later_forest (record kept { fault = Some Disk }) sessions later_written (record st { fault = Some Disk; begun = begun })
  at_failed most observable before after buffer other cells later has_tree later_tree forest later_forest kept sessions written later_written st begun max at = record {
    file_max = max ∙ at.file_max;
    fault = refl;
    last_txn = at.last_txn;
    last_db = at.last_db;
    commits = at.commits;
    totals = at.totals;
    sessions_at = sessions_faulted sessions st begun at.sessions_at;
    apart = at.apart;
    checkpoint = at.checkpoint;
    databases = λ none. absurd cc;
    valid = λ none. absurd cc;
  }

  -- the buffer of a valid environment works
  pub works_in : (most : ℕ) (observable : Bool) (state : State) (e : Environment D) (st : Standing) → IsAt most observable state e st → st.fault ≡ None → has_failed e.engine.trees.log ≡ false
  works_in most observable state e st here none = (here.at.valid none).works
