-- Each record that a transaction sees has a name that an entry of the log has: so a change of it can be logged.
use Rattle.std.proofs.Common.{◌≡◌, ◌≢◌, ◌∙◌, ℕ, ◌<◌, ◌^◌, ◌==◌, ◌&&◌, nat_le, nat_lt, Bool, true, false, cond, List, [], ◌∷◌, ◌++◌, map, Option, None, Some, is_eq, refl, ap, sym, subst}
use Rattle.std.specs.Option.{option_and_then, option_or}
use Rattle.std.specs.List.{AllByRecursion}
use Rattle.std.proofs.lemmas.Bool.{and_parts, cond_both}
use Rattle.std.proofs.lemmas.Option.{none-some, same_Some}
use Rattle.je_order.specs.declared.name.Name.{Name}
use Rattle.je_order.specs.declared.txn_id.TxnId.{TxnId}
use Rattle.je_order.specs.Order.{name_cmp}
use Rattle.je_order.proofs.Orderings.{equal_from_test, name_exact}
use Rattle.je_order.proofs.Lists.{all_append, all_kept, all_push, all_weaker}
use Rattle.log_entry.specs.declared.entry.Entry.{Entry}
use Rattle.log_entry.specs.declared.entry.Entry.TheVariants.{Put, Delete, Migrated, Commit}
use Rattle.log_entry.specs.declared.root.Root.{Root}
use Rattle.log_entry.specs.Body.{IsEntry}
use Rattle.log_entry.specs.Fields.{IsName}
use Rattle.log_file.specs.Log.{Log, IsLog, AreFileEntries, entries_of}
use Rattle.log_file.proofs.PlacedLaws.{placed_are_entries}
use Rattle.log_buffer.specs.declared.log_pos.LogPos.{LogPos}
use Rattle.log_trees.specs.Placed.{Placed, entry_at, placed}
use Rattle.log_trees.specs.Changes.{LoggedChange, Written, is_of, last_of, unwritten}
use Rattle.log_trees.specs.Images.{NamedLsn}
use Rattle.log_trees.specs.Trees.{data_in, loaded, rows_of_root, rows_of_roots, slots_of_tree}
use Rattle.log_trees.proofs.Staying.{all_flat}
use Rattle.log_meaning.specs.Redo.{Redo, from, nothing_redone, pushed, redo_all, redo_entry, redone, set_at, unset_at}
use Rattle.log_meaning.specs.Checkpoint.{last_checkpoint, restarted}
use Rattle.log_replay.specs.Rows.{Row, Rows, catalog_number, data_at}
use Rattle.log_replay.specs.Logging.{number_named}
use Rattle.log_replay.proofs.ListLaws.{all_of_map, all_to_map, found}
use Rattle.log_replay.proofs.StoreLaws.{row_named}
use Rattle.record_map.specs.declared.write.Write.{Write}
use Rattle.record_map.specs.Cells.{IsRising, value_at}
use Rattle.record_tree.specs.Occupied.{AllCells, Occupied, value_in, write_in}
use Rattle.tree_images.proofs.Neighbours.{own_values}
use Rattle.store_model.specs.declared.isolation.Isolation.{Isolation}
use Rattle.store_model.specs.declared.record_change.RecordChange.{RecordChange}
use Rattle.store_model.specs.Evaluation.{plain_name}
use Rattle.store_model.specs.Needs.{changed_name}
use Rattle.txn_core.specs.Known.{committed, with_row}
use Rattle.txn_core.proofs.ReadingLaws.{committed_at}
use Rattle.txn_log.specs.Gives.{GivesRecordsWith}
use Rattle.txn_log.specs.Own.{OwnChange, change_to, own_by}
use Rattle.txn_log.proofs.OwnLaws.{live_active}
use Rattle.txn_views.specs.Seen.{HasWrites, IsWriteOf, last_own, seen_over, seen_rows, seen_value, sees}
use Rattle.txn_views.proofs.OwnLaws.{if_of, last_cons}

-- ---- names in a log

abbrev AreEntries : List Placed → Type 0
AreEntries es = AllByRecursion (λ p. IsEntry p.1) es

each_entry : (log : Log) → AllByRecursion (λ file. (file.0 < 2 ^ 32) × AreFileEntries file.1) log → AllByRecursion IsEntry (entries_of log)
each_entry [] each = tt
each_entry (file ∷ log) each = all_append IsEntry file.1 (entries_of log) each.0.1.entries (each_entry log each.1)

placed_entries : (log : Log) → IsLog log → AreEntries (placed log)
placed_entries log is = all_of_map (λ (p : Placed). p.1) IsEntry (placed log) (subst (AllByRecursion IsEntry) (sym (placed_are_entries log)) (each_entry log is.each))

-- a change that sets a name is of one that an entry may have
abbrev IsNamed : LoggedChange → Type 0
IsNamed c = (value : List ℕ) → c.written.value ≡ Some value → IsName c.name

same_by : (n m : Name) → is_eq (name_cmp n m) ≡ true → n ≡ m
same_by n m same = name_exact n m (equal_from_test (name_cmp n m) same)

entry_there : (es : List Placed) (at : ℕ) (e : Entry) → AreEntries es → entry_at es at ≡ Some e → IsEntry e
entry_there [] at e all is = absurd (none-some e is)
entry_there (p ∷ es) at e all is = by (p.0 == at) is (entry_there es at e all.1)
  where
    by : (b : Bool) → cond b (Some p.1) (entry_at es at) ≡ Some e → (entry_at es at ≡ Some e → IsEntry e) → IsEntry e
    by true here rest = subst IsEntry (same_Some p.1 e here) all.0
    by false there rest = rest there

-- ---- the trees of a checkpoint

if_named : (b : Bool) (name x : Name) (v value : List ℕ) → (b ≡ true → is_eq (name_cmp name x) ≡ true) → IsName name → cond b (Some v) None ≡ Some value → IsName x
if_named true name x v value same is h = subst IsName (same_by name x (same refl)) is
if_named false name x v value same is h = absurd (none-some value h)

data_named : (d : ℕ) (x : Name) (e : Entry) (value : List ℕ) → IsEntry e → data_in d x e ≡ Some value → IsName x
data_named d x (Put txn db name v) value is h = if_named ((db == d) && is_eq (name_cmp name x)) name x v value (λ b. (and_parts (db == d) (is_eq (name_cmp name x)) b).1) is.2 h
data_named d x (Migrated db name v) value is h = if_named ((db == d) && is_eq (name_cmp name x)) name x v value (λ b. (and_parts (db == d) (is_eq (name_cmp name x)) b).1) is.1 h
data_named d x e value is h = absurd (none-some value h)

loaded_named : (es : List Placed) (d : ℕ) (s : NamedLsn) → AreEntries es → IsNamed (loaded es d s)
loaded_named es d s all value is = by (entry_at es s.1) refl is
  where
    by : (o : Option Entry) → entry_at es s.1 ≡ o → option_and_then (data_in d s.0) o ≡ Some value → IsName s.0
    by None there h = absurd (none-some value h)
    by (Some e) there h = data_named d s.0 e value (entry_there es s.1 e all there) h

all_loaded : (es : List Placed) (d : ℕ) (slots : List NamedLsn) → AreEntries es → AllByRecursion IsNamed (map (loaded es d) slots)
all_loaded es d [] all = tt
all_loaded es d (s ∷ slots) all = (loaded_named es d s all, all_loaded es d slots all)

root_named : (es : List Placed) (end : ℕ) (root : Root) → AreEntries es → AllByRecursion IsNamed (rows_of_root es end root)
root_named es end root all =
    cond_both (nat_lt root.image end) (map (loaded es root.db) (slots_of_tree es root.image)) [] (AllByRecursion IsNamed) (λ e. all_loaded es root.db (slots_of_tree es root.image) all) (λ e. tt)

all_roots : (es : List Placed) (end : ℕ) (roots : List Root) → AreEntries es → AllByRecursion (λ r. AllByRecursion IsNamed (rows_of_root es end r)) roots
all_roots es end [] all = tt
all_roots es end (r ∷ roots) all = (root_named es end r all, all_roots es end roots all)

-- ---- a redo

record AreNamed (redo : Redo) : Type 0 where
  done : AllByRecursion IsNamed redo.done
  pending : (t : ℕ) → AllByRecursion (λ c. IsName c.name) (redo.pending t)

push_named : (txn : ℕ) (c : LoggedChange) (pending : ℕ → List LoggedChange) → IsName c.name → ((t : ℕ) → AllByRecursion (λ e. IsName e.name) (pending t)) →
    (t : ℕ) → AllByRecursion (λ e. IsName e.name) (pushed txn c pending t)
push_named txn c pending is all t =
    cond_both (txn == t) (pending t ++ c ∷ []) (pending t) (AllByRecursion (λ (e : LoggedChange). IsName e.name)) (λ e. all_push (λ (e : LoggedChange). IsName e.name) (pending t) c (all t) is) (λ e. all t)

entry_named : (at : ℕ) (e : Entry) (redo : Redo) → IsEntry e → AreNamed redo → AreNamed (redo_entry at e redo)
entry_named at (Put txn db name value) redo is h = record { done = h.done; pending = push_named txn.0 (set_at at db name value) redo.pending is.2 h.pending }
entry_named at (Delete txn db name) redo is h = record { done = h.done; pending = push_named txn.0 (unset_at at db name) redo.pending is.2 h.pending }
entry_named at (Migrated db name value) redo is h = record { done = all_push IsNamed redo.done (set_at at db name value) h.done (λ v e. is.1); pending = h.pending }
entry_named at (Commit txn) redo is h = record {
  done = all_append IsNamed redo.done (redo.pending txn.0) h.done (all_weaker (λ (c : LoggedChange). IsName c.name) IsNamed (λ c n v e. n) (redo.pending txn.0) (h.pending txn.0));
  pending = λ t. cond_both (txn.0 == t) [] (redo.pending t) (AllByRecursion (λ (c : LoggedChange). IsName c.name)) (λ e. tt) (λ e. h.pending t);
}
entry_named at e redo is h = h

all_named : (es : List Placed) (redo : Redo) → AreEntries es → AreNamed redo → AreNamed (redo_all es redo)
all_named [] redo all h = h
all_named (p ∷ es) redo all h = all_named es (redo_entry p.0 p.1 redo) all.1 (entry_named p.0 p.1 redo all.0 h)

redone_named : (r : ℕ) (es : List Placed) → AreEntries es → AreNamed (redone r es)
redone_named r es all = all_named (from r es) nothing_redone (all_kept (λ (p : Placed). IsEntry p.1) (λ p. nat_le r p.0) es all) (record { done = tt; pending = λ t. tt })

restarted_named : (es : List Placed) → AreEntries es → AreNamed (restarted es)
restarted_named es all =
    let c = last_checkpoint es in
    let redo = redone_named c.redo es all in
    record {
      done = all_append IsNamed (rows_of_roots es c.at c.roots) (redone c.redo es).done (all_flat IsNamed (rows_of_root es c.at) c.roots (all_roots es c.at c.roots all)) redo.done;
      pending = redo.pending;
    }

-- what stands under a name was set there
last_named : (d : ℕ) (x : Name) (cs : List LoggedChange) (w : Written) (value : List ℕ) → AllByRecursion IsNamed cs → ((v : List ℕ) → w.value ≡ Some v → IsName x) → (last_of d x cs w).value ≡ Some value → IsName x
last_named d x [] w value all before is = before value is
last_named d x (c ∷ cs) w value all before is = last_named d x cs (cond (is_of d x c) c.written w) value all.1 (by (is_of d x c) refl) is
  where
    by : (b : Bool) → is_of d x c ≡ b → (v : List ℕ) → (cond b c.written w).value ≡ Some v → IsName x
    by true same v h = subst IsName (same_by c.name x (and_parts (c.db == d) (is_eq (name_cmp c.name x)) same).1) (all.0 v h)
    by false same v h = before v h

-- ---- own changes

abbrev AreNames : List OwnChange → Type 0
AreNames own = AllByRecursion (λ c. IsName (changed_name c.1)) own

own_named : (c : LoggedChange) → IsName c.name → IsName (changed_name (own_by c).1)
own_named c is = by c.written.value
  where
    by : (o : Option (List ℕ)) → IsName (changed_name (change_to c.name o))
    by None = is
    by (Some value) = is

last_own_named : (d : ℕ) (x : Name) (own : List OwnChange) (change : RecordChange) → AreNames own → last_own d x own ≡ Some change → IsName x
last_own_named d x [] change all is = absurd (none-some change is)
last_own_named d x (c ∷ own) change all is = by (last_own d x own) refl (sym (last_cons d x c own) ∙ is) (last_own_named d x own change all.1)
  where
    by_test : (b : Bool) → ((c.0 == d) && is_eq (name_cmp x (changed_name c.1))) ≡ b → cond b (Some c.1) None ≡ Some change → IsName x
    by_test true same h = subst IsName (sym (same_by x (changed_name c.1) (and_parts (c.0 == d) (is_eq (name_cmp x (changed_name c.1))) same).1)) all.0
    by_test false same h = absurd (none-some change h)

    by : (o : Option RecordChange) → last_own d x own ≡ o → option_or o (if_of d x c) ≡ Some change → (last_own d x own ≡ Some change → IsName x) → IsName x
    by None last h rest = by_test ((c.0 == d) && is_eq (name_cmp x (changed_name c.1))) refl h
    by (Some e) last h rest = rest (last ∙ h)

module _ (log : Log) (end : LogPos) (rows : Rows) (last_txn last_db : ℕ) (is_active : ℕ → Bool) (own : ℕ → List OwnChange) (g : GivesRecordsWith log end rows last_txn last_db is_active own) (is : IsLog log) where
  names : AreNamed (restarted (placed log))
  names = restarted_named (placed log) (placed_entries log is)

  -- the records of a database that is there
  committed_named : (db : List ℕ) (x : Name) (value : List ℕ) → number_named rows db ≢ 0 → data_at x (rows (number_named rows db)) ≡ Some value → IsName x
  committed_named db x value has there =
      let row = row_named rows db has in
      let open_ = (found (λ (r : Row). g.is_open (catalog_number r.1) ≡ true) (λ r. is_eq (name_cmp r.0 (plain_name db))) (rows 0) row.0 row.1
      (all_of_map (λ (r : Row). catalog_number r.1) (λ n. g.is_open n ≡ true) (rows 0) g.listed.named)).0 in
      let here = subst (λ (n : ℕ). g.is_open n ≡ true) row.2 open_ in
      last_named (number_named rows db) x (restarted (placed log)).done unwritten value names.done (λ v e. absurd (none-some v e)) (g.stands.same (number_named rows db) x here ∙ there)

  -- and the own changes of transactions under way
  own_are_named : (t : ℕ) → is_active t ≡ true → AreNames (own t)
  own_are_named t active =
      subst AreNames (g.own_is t active) (all_to_map own_by (λ (c : OwnChange). IsName (changed_name c.1)) (g.logged t)
      (all_weaker (λ (c : LoggedChange). IsName c.name) (λ c. IsName (changed_name (own_by c).1)) own_named (g.logged t)
      (subst (AllByRecursion (λ (c : LoggedChange). IsName c.name)) (g.stands.own t (live_active last_txn t is_active active)) (names.pending t))))

-- ---- what is seen

if_seen : (b : Bool) (w : Write) (x : Name) (o : Option (List ℕ)) (value : List ℕ) → ((v : List ℕ) → w.value ≡ Some v → IsName x) → ((v : List ℕ) → o ≡ Some v → IsName x) →
    cond b w.value o ≡ Some value → IsName x
if_seen true w x o value written kept is = written value is
if_seen false w x o value written kept is = kept value is

over_named : (level : Isolation) (txn : TxnId) (x : Name) (o : Option (List ℕ)) (w : Option Write) (value : List ℕ) → ((e : Write) → w ≡ Some e → (v : List ℕ) → e.value ≡ Some v → IsName x) →
    ((v : List ℕ) → o ≡ Some v → IsName x) → seen_over level txn o w ≡ Some value → IsName x
over_named level txn x o None value written kept is = kept value is
over_named level txn x o (Some w) value written kept is = if_seen (sees level txn w.txn) w x o value (written w refl) kept is

write_named : (d : ℕ) (x : Name) (own : ℕ → List OwnChange) (o : Option Write) → ((t : ℕ) → AreNames (own t)) → IsWriteOf d x own o → (w : Write) → o ≡ Some w → (v : List ℕ) → w.value ≡ Some v → IsName x
write_named d x own None all of w is v has = absurd (none-some w is)
write_named d x own (Some e) all of w is v has = last_own_named d x (own e.txn.0) of.change (all e.txn.0) of.last

-- the records that a transaction sees have names, where what is committed and what is written has
rows_named : (level : Isolation) (txn : TxnId) (cells : List (Name × Occupied)) → AllByRecursion (λ e. (v : List ℕ) → seen_value level txn e.1 ≡ Some v → IsName e.0) cells →
    AllByRecursion (λ r. IsName r.0) (seen_rows level txn cells)
rows_named level txn [] all = tt
rows_named level txn (e ∷ cells) all = by (seen_value level txn e.1) refl (rows_named level txn cells all.1)
  where
    by : (o : Option (List ℕ)) → seen_value level txn e.1 ≡ o → AllByRecursion (λ r. IsName r.0) (seen_rows level txn cells) → AllByRecursion (λ r. IsName r.0) (with_row e.0 o (seen_rows level txn cells))
    by None is rest = rest
    by (Some v) is rest = (all.0 v is, rest)

pub seen_named : (log : Log) (end : LogPos) (cells : AllCells) (last_txn last_db : ℕ) (is_active : ℕ → Bool) (own : ℕ → List OwnChange) → GivesRecordsWith log end (committed cells) last_txn last_db is_active own → IsLog log →
    HasWrites cells own → ((t : ℕ) → is_active t ≡ false → own t ≡ []) → (db : List ℕ) (d : ℕ) → number_named (committed cells) db ≡ d → d ≢ 0 → IsRising (cells d) → (level : Isolation) (txn : TxnId) →
    AllByRecursion (λ r. IsName r.0) (seen_rows level txn (cells d))
seen_named log end cells last_txn last_db is_active own g is writes bare db d number above rising level txn =
    rows_named level txn (cells d) (all_weaker (λ (e : Name × Occupied). value_at e.0 (cells d) ≡ Some e.1) (λ e. (v : List ℕ) → seen_value level txn e.1 ≡ Some v → IsName e.0) each (cells d) (own_values (cells d) rising))
  where
    all_own : (t : ℕ) → AreNames (own t)
    all_own t = by (is_active t) refl
      where
        by : (b : Bool) → is_active t ≡ b → AreNames (own t)
        by true active = own_are_named log end (committed cells) last_txn last_db is_active own g is t active
        by false gone = subst AreNames (sym (bare t gone)) tt

    each : (e : Name × Occupied) → value_at e.0 (cells d) ≡ Some e.1 → (v : List ℕ) → seen_value level txn e.1 ≡ Some v → IsName e.0
    each e there v seen =
        over_named level txn e.0 e.1.value e.1.write v
        (write_named d e.0 own e.1.write all_own (subst (IsWriteOf d e.0 own) (ap write_in there) (writes d e.0)))
        (λ u h. committed_named log end (committed cells) last_txn last_db is_active own g is db e.0 u (λ none. above (sym number ∙ none))
        (subst (λ (n : ℕ). data_at e.0 (committed cells n) ≡ Some u) (sym number) (committed_at e.0 (cells d) rising ∙ ap value_in there ∙ h))) seen
