-- Where the redo of a log may begin.
use Rattle.std.proofs.Common.{◌≡◌, ℕ, zero, suc, ◌==◌, ◌≤◌, ◌/◌, ◌^◌, Bool, true, false, cond, List, [], ◌∷◌, ◌++◌, Option, Some, None, map, take, refl, sym, ap, subst, ◌∙◌, unwrap_or, arith}
use Rattle.std.specs.List.{AllByRecursion}
use Rattle.std.proofs.lemmas.Bool.{eqb-true}
use Rattle.std.proofs.Math.Nat.{le_trans}
use Rattle.je_disk.specs.DiskMeaning.{DiskMeaning}
use Rattle.log_entry.specs.Encoding.{size_of}
use Rattle.log_entry.specs.declared.entry.Entry.{Entry}
use Rattle.log_entry.specs.declared.entry.Entry.TheVariants.{FileHeader, Put, Delete, Migrated, Commit, In, Bin, BinDelta, CkptStart, CkptEnd, FileSummary}
use Rattle.log_file.specs.Log.{Log}
use Rattle.log_buffer.specs.declared.log_pos.LogPos.{LogPos}
use Rattle.log_buffer.specs.Buffer.{end_of, file_max_of}
use Rattle.log_buffer.specs.Flip.{placed_at, end_after}
use Rattle.log_buffer.specs.Growth.{log_with_all}
use Rattle.log_buffer.specs.Laws.{placed_by}
use Rattle.log_buffer.specs.Log.{log_with}
use Rattle.log_replay.specs.Wrong.{or_else}
use Rattle.log_trees.specs.Placed.{Placed, placed}
use Rattle.log_meaning.specs.Checkpoint.{Checkpoint, checkpoint_in, last_end, no_checkpoint}
use Rattle.log_meaning.specs.Redo.{Redo, redo_entry, redo_all, pushed, emptied, set_at, unset_at}
use Rattle.log_trees.specs.Changes.{LoggedChange}
use Rattle.je_order.proofs.Lists.{all_push}
use Rattle.log_meaning.specs.Found.{HasFilesFrom}
use Rattle.log_meaning.specs.Recovery.{IsFirstFile, IsRedoLsn}
use Rattle.log_meaning.proofs.RedoLaws.{last_end-push}
use Rattle.txn_log.specs.Checkpoints.{AreNoEnds, BeginsUpTo, EndsFromEnd, EndsFromStays, RedoIsNeeded, WaitsFrom, end_entry}
use Rattle.txn_log.proofs.BufferLaws.{longer_placed}
use Rattle.txn_log.proofs.Recovering.{leaves_all}

-- ---- the last checkpoint

no_else : (a b : Option Checkpoint) → or_else a b ≡ None → (a ≡ None) × (b ≡ None)
no_else None b e = (refl, e)
no_else (Some c) b e = cc

-- the first entries of a log without a checkpoint have none
front_none : (n : ℕ) (es : List Placed) → last_end es ≡ None → last_end (take n es) ≡ None
front_none zero es none = refl
front_none (suc n) [] none = refl
front_none (suc n) (p ∷ es) none =
    let parts = no_else (last_end es) (checkpoint_in p.0 p.1) none in
    ap (λ (o : Option Checkpoint). or_else o (checkpoint_in p.0 p.1)) (front_none n es parts.0) ∙ parts.1

-- entries without an end have no checkpoint, and leave the last one of a log
ends_none : (more : List Placed) → AllByRecursion (λ p. checkpoint_in p.0 p.1 ≡ None) more → last_end more ≡ None
ends_none [] none = refl
ends_none (p ∷ more) none = ap (λ (o : Option Checkpoint). or_else o (checkpoint_in p.0 p.1)) (ends_none more none.1) ∙ none.0

pub last_stays : (es more : List Placed) → AllByRecursion (λ p. checkpoint_in p.0 p.1 ≡ None) more → last_end (es ++ more) ≡ last_end es
last_stays [] more none = ends_none more none
last_stays (p ∷ es) more none = ap (λ (o : Option Checkpoint). or_else o (checkpoint_in p.0 p.1)) (last_stays es more none)

no_ends : (most : ℕ) (end : LogPos) (entries : List Entry) → AreNoEnds entries → AllByRecursion (λ p. checkpoint_in p.0 p.1 ≡ None) (placed_by most end entries)
no_ends most end [] none = tt
no_ends most end (e ∷ entries) none = (none.0 _, no_ends most (end_after most end (size_of e)) entries none.1)

-- ---- the first file

begins_with : (file number : ℕ) (e : Entry) (log : Log) → BeginsUpTo log number → BeginsUpTo (log_with file e log) number
begins_with file number e [] b = absurd b
begins_with file number e (f ∷ log) b = by_test (f.0 == file) refl
  where
    by_test : (test : Bool) → (f.0 == file) ≡ test → BeginsUpTo (cond test ((file, f.1 ++ e ∷ []) ∷ log) (f ∷ log_with file e log)) number
    by_test true same = subst (λ (n : ℕ). n ≤ number) (eqb-true f.0 file same) b
    by_test false same = b

begins_all : (most : ℕ) (end : LogPos) (entries : List Entry) (log : Log) (number : ℕ) → BeginsUpTo log number → BeginsUpTo (log_with_all most end entries log) number
begins_all most end [] log number b = b
begins_all most end (e ∷ entries) log number b =
    begins_all most (end_after most end (size_of e)) entries (log_with (placed_at most end (size_of e)).file e log) number (begins_with (placed_at most end (size_of e)).file number e log b)

further : (log : Log) (a b : ℕ) → a ≤ b → BeginsUpTo log a → BeginsUpTo log b
further [] a b le begins = begins
further (f ∷ log) a b le begins = omega (arith, le, begins)

-- ---- where a redo may begin

div_le : (a b : ℕ) → a ≤ b → a / 2 ^ 32 ≤ b / 2 ^ 32
div_le a b le = omega (arith, le)

first_is : (first : ℕ) (log : Log) (number : ℕ) → IsFirstFile first (map (λ file. file.0) log) → BeginsUpTo log number → first ≤ number
first_is first [] number is b = absurd b
first_is first (f ∷ log) number is b = subst (λ (n : ℕ). n ≤ number) is b

pub redo_is_needed : RedoIsNeeded
redo_is_needed first opening found transactions log base since redo is ends up = by_last (last_end (placed log)) refl
  where
    below : since / 2 ^ 32 ≤ redo / 2 ^ 32
    below = div_le since redo up

    by_last : (o : Option Checkpoint) → last_end (placed log) ≡ o → first ≤ redo / 2 ^ 32
    by_last None none =
        let files : HasFilesFrom first None (map (λ file. file.0) log) = subst (λ (o : Option Checkpoint). HasFilesFrom first o (map (λ file. file.0) log)) (front_none found (placed log) none) is.files in
        le_trans (first_is first log (since / 2 ^ 32) files.0 ends.file) below
    by_last (Some c) some =
        let own : IsRedoLsn first (Some c) = subst (IsRedoLsn first) some (leaves_all first opening found transactions (placed log) is.recovers).redo in
        let last : c.redo ≤ since = subst (λ (o : Option Checkpoint). (unwrap_or o no_checkpoint).redo ≤ since) some ends.redo in
        le_trans own.1 (div_le c.redo redo (le_trans last up))

-- ---- what waits

pushed_from : (from u txn : ℕ) (c : LoggedChange) (pending : ℕ → List LoggedChange) → from ≤ c.written.at → AllByRecursion (λ x. from ≤ x.written.at) (pending u) → AllByRecursion (λ x. from ≤ x.written.at) (pushed txn c pending u)
pushed_from from u txn c pending at all = by_test (txn == u)
  where
    by_test : (test : Bool) → AllByRecursion (λ x. from ≤ x.written.at) (cond test (pending u ++ c ∷ []) (pending u))
    by_test true = all_push (λ (x : LoggedChange). from ≤ x.written.at) (pending u) c all at
    by_test false = all

emptied_from : (from u txn : ℕ) (pending : ℕ → List LoggedChange) → AllByRecursion (λ x. from ≤ x.written.at) (pending u) → AllByRecursion (λ x. from ≤ x.written.at) (emptied txn pending u)
emptied_from from u txn pending all = by_test (txn == u)
  where
    by_test : (test : Bool) → AllByRecursion (λ (x : LoggedChange). from ≤ x.written.at) (cond test [] (pending u))
    by_test true = tt
    by_test false = all

entry_from : (from u at : ℕ) (e : Entry) (redo : Redo) → from ≤ at → AllByRecursion (λ x. from ≤ x.written.at) (redo.pending u) → AllByRecursion (λ x. from ≤ x.written.at) ((redo_entry at e redo).pending u)
entry_from from u at (Put txn db name value) redo le all = pushed_from from u txn.0 (set_at at db name value) redo.pending le all
entry_from from u at (Delete txn db name) redo le all = pushed_from from u txn.0 (unset_at at db name) redo.pending le all
entry_from from u at (Migrated db name value) redo le all = all
entry_from from u at (Commit txn) redo le all = emptied_from from u txn.0 redo.pending all
entry_from from u at (FileHeader version file) redo le all = all
entry_from from u at (In db node level slots) redo le all = all
entry_from from u at (Bin db node slots) redo le all = all
entry_from from u at (BinDelta db node full slots) redo le all = all
entry_from from u at (CkptStart number) redo le all = all
entry_from from u at (CkptEnd number start low txn node db summary roots) redo le all = all
entry_from from u at (FileSummary files) redo le all = all

all_from : (from u : ℕ) (more : List Placed) (redo : Redo) → AllByRecursion (λ p. from ≤ p.0) more → AllByRecursion (λ x. from ≤ x.written.at) (redo.pending u) → AllByRecursion (λ x. from ≤ x.written.at) ((redo_all more redo).pending u)
all_from from u [] redo le all = all
all_from from u (p ∷ more) redo le all = all_from from u more (redo_entry p.0 p.1 redo) le.1 (entry_from from u p.0 p.1 redo le.0 all)

pub waits_from : WaitsFrom
waits_from from u more logged le all = all_from from u more (record { done = []; pending = logged }) le all

module _ {D : Type 0} (meaning : DiskMeaning D) where
  pub ends_from_stays : EndsFromStays meaning
  ends_from_stays old log entries base since has none ends = record {
    life = ends.life;
    redo = subst (λ (o : Option Checkpoint). (unwrap_or o no_checkpoint).redo ≤ since)
        (sym (ap last_end (longer_placed meaning old log entries has) ∙ last_stays (placed log) (placed_by (file_max_of old) (end_of old) entries) (no_ends (file_max_of old) (end_of old) entries none)))
        ends.redo;
    file = begins_all (file_max_of old) (end_of old) entries log (since / 2 ^ 32) ends.file;
  }

  pub ends_from_end : EndsFromEnd meaning
  ends_from_end old log p summary base since has up ends =
      let entries : List Entry = end_entry p summary ∷ [] in
      record {
        life = le_trans ends.life up;
        redo = subst (λ (o : Option Checkpoint). (unwrap_or o no_checkpoint).redo ≤ p.redo)
            (sym (ap last_end (longer_placed meaning old log entries has) ∙ last_end-push (placed log) _)) (omega arith);
        file = begins_all (file_max_of old) (end_of old) entries log (p.redo / 2 ^ 32) (further log (since / 2 ^ 32) (p.redo / 2 ^ 32) (div_le since p.redo up) ends.file);
      }
