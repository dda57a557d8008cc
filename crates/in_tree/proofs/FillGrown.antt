-- A new database is made and filled: its tree takes its place once all is logged, and the trees fit the longer log.
use Rattle.std.proofs.Common.{◌≡◌, ◌≤◌, ◌<◌, ◌+◌, ◌-◌, ◌==◌, ◌||◌, ◌++◌, ◌∙◌, ℕ, zero, suc, min, map, length, Bool, true, false, cond, List, [], ◌∷◌, Option, None, Some, is_some, Vec, refl, ap, ap₂, sym, subst, inl, inr, ◌⊎◌, arith, is_eq}
use mathlib.Core.Path.{fun_ext}
use Rattle.std.specs.Global.{Global}
use Rattle.std.specs.Prelude.{IfSome}
use Rattle.std.specs.List.{AllByRecursion}
use Rattle.std.specs.Ordering.{nat_cmp}
use Rattle.std.specs.BTreeMap.{get}
use Rattle.std.proofs.lemmas.Bool.{true≢false}
use Rattle.std.proofs.lemmas.List.{append_assoc, length-map, map-append}
use Rattle.std.proofs.lemmas.Option.{same_Some}
use Rattle.je_disk.specs.DiskMeaning.{DiskMeaning}
use Rattle.je_disk.specs.Moments.{now}
use Rattle.je_lsn.specs.Naming.{last_file}
use Rattle.je_order.specs.declared.txn_id.TxnId.{TxnId}
use Rattle.je_order.proofs.Lists.{all_weaker}
use Rattle.log_entry.specs.Encoding.{size_of}
use Rattle.log_entry.specs.declared.entry.Entry.{Entry}
use Rattle.log_file.specs.Log.{Log}
use Rattle.log_buffer.specs.declared.buffer.LogBuffer.{LogBuffer}
use Rattle.log_buffer.specs.declared.log_pos.LogPos.{LogPos}
use Rattle.log_buffer.specs.Buffer.{disk_of, end_of, file_max_of, last_of, IsUnchanged}
use Rattle.log_buffer.specs.Flip.{end_after, end_after_all, pos_lsn}
use Rattle.log_buffer.specs.Growth.{longer}
use Rattle.log_buffer.specs.Laws.{placed_by}
use Rattle.log_buffer.specs.Log.{HasLog}
use Rattle.crash_recovery.proofs.RisingLsns.{appended_rise, logs_lie_below}
use Rattle.log_trees.specs.Laws.{AreBehind}
use Rattle.log_trees.specs.Placed.{Placed, placed}
use Rattle.log_trees.specs.Sound.{at_home}
use Rattle.record_map.proofs.NameLaws.{name_same}
use Rattle.record_tree.specs.declared.tree_change.TreeChange.{TreeChange}
use Rattle.record_tree.specs.Logged.{entry_for, is_made, makes_db, most_entries, LogsChanges}
use Rattle.record_tree.specs.Occupied.{AllCells, AreSame, AreWritten}
use Rattle.tree_nodes.specs.Nodes.{least}
use Rattle.db_tree.specs.declared.slot_room.SlotRoom.{SlotRoom}
use Rattle.db_tree.specs.declared.tree.DbTree.{DbTree}
use Rattle.db_tree.specs.NodeImages.{IsLoggable}
use Rattle.db_tree.specs.Seen.{occupied}
use Rattle.db_tree.specs.Shapes.{made_by, shape_in}
use Rattle.db_tree.specs.Splits.{count_waiting}
use Rattle.db_tree.proofs.SplitLaws.{level_cases}
use Rattle.tree_images.specs.Forest.{AreLogged, FitsDue, ForestDue, ForestFits}
use Rattle.tree_images.specs.Notes.{HasNotes, is_start}
use Rattle.tree_images.specs.TreeSteps.{IsNewTree}
use Rattle.tree_images.proofs.ForestSteps.{forest_step}
use Rattle.tree_images.proofs.LateMarks.{HasNoStart}
use Rattle.in_tree.specs.declared.filled.Filled.{Filled}
use Rattle.in_tree.specs.declared.logged_trees.LogTrees.{LogTrees}
use Rattle.in_tree.specs.Carrying.{Carries, LogFact, carries_then}
use Rattle.in_tree.specs.Filled.{entries_with, first_sizes, root_behind, with_cells, AreAllLoggable, CanFollow, FitsAhead, IsLoggedNew, IsReadyToFill}
use Rattle.in_tree.specs.Filling.{AreFilling}
use Rattle.in_tree.specs.Fitting.{fitting_then, fitting_unchanged}
use Rattle.in_tree.specs.Forest.{Forest, cells_of, cells_seen, is_there, Replaces}
use Rattle.in_tree.specs.Growing.{GrewForest, IsForestDue, TreesGrew, trees_at, none_due}
use Rattle.in_tree.specs.Limits.{one_made, GrewFitting}
use Rattle.in_tree.specs.Observed.{last_node_of, trees_of}
use Rattle.in_tree.specs.Placing.{AreMadeBy, due_one, numbers_of}
use Rattle.in_tree.specs.Waits.{waits_in}
use Rattle.in_tree.proofs.Appending.{more_placed}
use Rattle.in_tree.proofs.Checked.{written_since}
use Rattle.in_tree.proofs.DueLogging.{change_plain, image_plain, is_next}
use Rattle.in_tree.proofs.DueReady.{ready_fits}
use Rattle.in_tree.proofs.FillLogged.{logs_with}
use Rattle.in_tree.proofs.FillReady.{few_rows}
use Rattle.in_tree.proofs.FillShapes.{waits_with}
use Rattle.in_tree.proofs.Forests.{forest_tree, forest_trees, others_away, replaced}
use Rattle.in_tree.proofs.Placings.{few_one, placed_trees, was_shape}
use Rattle.in_tree.proofs.Preparation.{made_is}
use Rattle.in_tree.proofs.Waits.{forest_waits}
use Rattle.in_tree.proofs.Written.{even_sizes, length_more, size_is, written_step}

-- ---- what is logged

-- no checkpoint begins there
abbrev AllPlain : List Entry → Type 0
AllPlain entries = AllByRecursion (λ e. is_start e ≡ false) entries

both_plain : (a b : List Entry) → AllPlain a → AllPlain b → AllPlain (a ++ b)
both_plain [] b first second = second
both_plain (e ∷ a) b first second = (first.0, both_plain a b first.1 second)

rows_plain : (txn : TxnId) (rows : List TreeChange) (images : List (Vec Entry Global)) → AreAllLoggable images → AllPlain (entries_with txn rows images)
rows_plain txn [] images all = tt
rows_plain txn (c ∷ rows) [] all = tt
rows_plain txn (c ∷ rows) (own ∷ images) all =
    both_plain own.items (entry_for txn c.db c.name c.value ∷ entries_with txn rows images) (all_weaker IsLoggable (λ e. is_start e ≡ false) (λ e h. image_plain e h.1) own.items all.0)
    (change_plain txn c.db c.name c.value, rows_plain txn rows images all.1)

none_starts : (m : ℕ) (p : LogPos) (entries : List Entry) → AllPlain entries → HasNoStart (placed_by m p entries)
none_starts m p [] all = tt
none_starts m p (e ∷ entries) all = (all.0, none_starts m (end_after m p (size_of e)) entries all.1)

-- ---- the log

module _ {D : Type 0} (meaning : DiskMeaning D) where
  -- entries that are appended to a log can follow its own
  pub can_follow : (x : LogBuffer D) (entries : List Entry) (log : Log) (base : ℕ) → HasLog meaning.observable (now (meaning.history (disk_of x))) x log → Rattle.log_file.specs.Log.IsLog (longer x entries log) → base ≤ pos_lsn (end_of x) →
      (end_after_all (file_max_of x) (end_of x) (map size_of entries)).file ≤ last_file → CanFollow (placed log) base (file_max_of x) (end_of x) entries
  can_follow x entries log base has long begun files = record {
    behind = all_weaker (λ (p : Placed). p.0 < pos_lsn (end_of x) - 1) (λ p. AreBehind p.0 more) (λ p h. (rises p.0 (omega (arith, h))).0) (placed log) under.below;
    order = (rises 0 (let some = under.some in omega (arith, some))).1;
    begun = by_number base begun;
    files = files;
  }
    where
      more : List Placed
      more = placed_by (file_max_of x) (end_of x) entries

      under : Rattle.crash_recovery.specs.Appending.LiesBelow log (end_of x)
      under = logs_lie_below log (end_of x) (last_of x) has.is_log has.ends

      rises : (next : ℕ) → next < pos_lsn (end_of x) → Rattle.log_meaning.specs.Transactions.RiseBehind next more
      rises next less = (appended_rise log (end_of x) (last_of x) (file_max_of x) entries next has.is_log has.ends long less).rise

      by_number : (n : ℕ) → n ≤ pos_lsn (end_of x) → AllByRecursion (λ (p : Placed). n ≤ p.0) more
      by_number zero le = all_weaker (λ (p : Placed). 0 < p.0) (λ p. 0 ≤ p.0) (λ p h. omega arith) more (rises 0 (let some = under.some in omega (arith, some))).0
      by_number (suc n) le = all_weaker (λ (p : Placed). n < p.0) (λ p. suc n ≤ p.0) (λ p h. omega (arith, h)) more (rises n (omega (arith, le))).0

-- ---- trees

-- the others are of the new database
pub of_rows : (d : ℕ) (rows : List TreeChange) → AllByRecursion (λ r. (r.db ≡ d) × (r.makes ≡ None)) rows → AllByRecursion (λ r. r.db ≡ d) rows
of_rows d rows all = all_weaker _ _ (λ r h. h.0) rows all

none_made : (d e : ℕ) (rows : List TreeChange) → AllByRecursion (λ r. (r.db ≡ d) × (r.makes ≡ None)) rows → is_made e rows ≡ false
none_made d e [] all = refl
none_made d e (r ∷ rows) all = ap₂ (λ (o : Option ℕ) (t : Bool). makes_db e o || t) all.0.1 (none_made d e rows all.1)

made_first : (d e : ℕ) (makes : Option ℕ) (rows : List TreeChange) (there : Bool) → makes ≡ Some d → is_made e rows ≡ false → cond (e == d) true there ≡ ((makes_db e makes || is_made e rows) || there)
made_first d e makes rows there is none =
    made_is e d there ∙ ap (λ (t : Bool). t || there) (sym (or_false (makes_db e (Some d))) ∙ ap₂ (λ (o : Option ℕ) (t : Bool). makes_db e o || t) (sym is) (sym none))
  where
    or_false : (t : Bool) → (t || false) ≡ t
    or_false true = refl
    or_false false = refl

-- one database has other cells where its tree was replaced
cells_replaced : (old new : Forest) (db : ℕ) (tree : DbTree) → Replaces old new db (Some tree) → (d : ℕ) → cells_seen new d ≡ with_cells db (occupied tree.cells) (cells_seen old) d
cells_replaced old new db tree has d = by_number (level_cases d db)
  where
    by_number : (d ≡ db) ⊎ (d ≡ db → ⊥) → cells_seen new d ≡ cond (d == db) (occupied tree.cells) (cells_seen old d)
    by_number (inl is) =
        ap (λ (o : Option DbTree). occupied (cells_of o)) (ap (λ (e : ℕ). get nat_cmp new e) is ∙ replaced old new db (Some tree) has)
        ∙ sym (ap (λ (t : Bool). cond t (occupied tree.cells) (cells_seen old d)) (Rattle.std.proofs.lemmas.Bool.eq-eqb d db is))
    by_number (inr away) =
        ap (λ (o : Option DbTree). occupied (cells_of o)) (others_away old new db (Some tree) has d away)
        ∙ sym (ap (λ (t : Bool). cond t (occupied tree.cells) (cells_seen old d)) (Rattle.std.proofs.lemmas.Bool.ne_eqb d db away))

-- ---- the call

module _ {D : Type 0} (meaning : DiskMeaning D) where
  module _ (txn : TxnId) (c : TreeChange) (rows : List TreeChange) (db owed : ℕ) (room : SlotRoom) (filled : Filled) (old ready new : LogTrees D) (makes : c.makes ≡ Some db) (fills : AreFilling (is_there old.trees.forest) (c ∷ rows))
      (same : IsUnchanged old.log ready.log) (r : IsReadyToFill old ready txn c rows db owed room filled) (logged : IsLoggedNew meaning txn c rows db room filled ready new) where
    abbrev mid : LogTrees D
    mid = r.mid

    -- the database that is made has no tree, and the others are of it
    made : fills.0 ≡ db
    made = same_Some fills.0 db (sym fills.1 ∙ makes)

    absent : is_there old.trees.forest db ≡ false
    absent = subst (λ (d : ℕ). is_there old.trees.forest d ≡ false) made fills.3

    others_of : AllByRecursion (λ (t : TreeChange). (t.db ≡ db) × (t.makes ≡ None)) rows
    others_of = subst (λ (d : ℕ). AllByRecursion (λ (t : TreeChange). (t.db ≡ d) × (t.makes ≡ None)) rows) made fills.4

    apart : db ≡ c.db → ⊥
    apart is = absurd (true≢false (sym fills.2 ∙ ap (is_there old.trees.forest) (sym is) ∙ absent))

    one_is : one_made c.makes ≡ 1
    one_is = ap one_made makes

    -- numbers
    abbrev exact : ℕ
    exact = r.up.is_filled.exact

    exact_is : filled.last ≡ exact
    exact_is = let is = r.up.is_filled.last_is in let ids = r.up.ids in omega (arith, is, ids)

    abbrev root : ℕ
    root = root_behind mid c room

    root_small : root ≤ exact
    root_small = let is = r.up.is_filled.numbers in omega (arith, is)

    root_is : root ≡ min (old.trees.last_node + numbers_of (c ∷ []) (room ∷ [])) 0xffffffffffffffff
    root_is = ap (λ (n : ℕ). min (n + (made_by room + one_made c.makes)) 0xffffffffffffffff) r.last ∙ omega arith

    small : exact ≤ 0x7fffffffffffffff
    small = let is = exact_is in let ids = r.up.ids in omega (arith, is, ids)

    -- the trees with the slot, and with the tree of a new database
    made_by_first : AreMadeBy old.trees.last_node (c ∷ []) (room ∷ []) mid.trees.forest ready.trees.forest
    made_by_first d tree there = by_number (level_cases d db)
      where
        by_number : (d ≡ db) ⊎ (d ≡ db → ⊥) → (get nat_cmp mid.trees.forest d ≡ Some tree)
            ⊎ (((c.makes ≡ Some d) × IsNewTree (min (old.trees.last_node + (made_by room + 1)) 0xffffffffffffffff) tree) ⊎ ⊥)
        by_number (inl is) = inr (inl (
          makes ∙ ap Some (sym is),
          subst (λ (n : ℕ). IsNewTree n tree) (ap₂ (λ (n k : ℕ). min (n + (made_by room + k)) 0xffffffffffffffff) r.last one_is)
              (subst (IsNewTree root) (is_next mid.trees.forest ready.trees.forest db r.up.made.tree tree r.up.made.has (ap (λ (e : ℕ). get nat_cmp ready.trees.forest e) (sym is) ∙ there)) r.up.made.is_new),
        ))
        by_number (inr away) = inl (sym (others_away mid.trees.forest ready.trees.forest db (Some r.up.made.tree) r.up.made.has d away) ∙ there)

    ready_due : (es : List Placed) (base : ℕ) → ForestFits es base old.trees.last_node (trees_at old.trees.forest) → ForestDue es base root (trees_at ready.trees.forest) (λ d. due_one c.db room.images.items d ++ none_due d)
    ready_due es base f =
        ready_fits es base old.trees.fanout old.trees.last_node root (c ∷ []) (room ∷ []) old.trees.forest mid.trees.forest ready.trees.forest (mid.trees.forest, r.fitted, λ d. refl) made_by_first
        (subst (λ (o : Option ℕ). IfSome o (λ b. is_there old.trees.forest b ≡ false)) (sym makes) absent, tt) root_is (let less = root_small in let le = small in omega (arith, less, le)) (tt, tt) f

    -- what was logged
    abbrev first : List Entry
    first = logged.first.0 ++ entry_for txn c.db c.name c.value ∷ []

    abbrev rest : List Entry
    rest = entries_with txn rows filled.images.items

    grew_first : GrewForest meaning ready.log logged.log ready.trees.forest logged.forest (λ d. due_one c.db room.images.items d ++ none_due d) none_due first
    grew_first = logged.first.3 none_due

    kept : GrewFitting meaning old.log ready.log []
    kept = fitting_unchanged meaning old.log ready.log same

    max_is : file_max_of mid.log ≡ file_max_of logged.log
    max_is = ap (λ (l : LogBuffer D). file_max_of l) r.log ∙ sym (grew_first.fitting.grew.max ∙ same.kept.max)

    first_is : map size_of first ≡ first_sizes c room
    first_is = map-append size_of logged.first.0 (entry_for txn c.db c.name c.value ∷ []) ∙ ap₂ (λ (l : List ℕ) (n : ℕ). l ++ n ∷ []) logged.first.2 (size_is txn c)

    end_is : end_after_all (file_max_of mid.log) (end_of mid.log) (first_sizes c room) ≡ end_of logged.log
    end_is =
        ap (λ (l : LogBuffer D). end_after_all (file_max_of l) (end_of l) (first_sizes c room)) r.log
        ∙ sym (
        grew_first.fitting.grew.end
        ∙ ap₂ (λ (m : ℕ) (p : LogPos). end_after_all m p (map size_of first)) same.kept.max same.kept.end
        ∙ ap (end_after_all (file_max_of old.log) (end_of old.log)) first_is
        )

    ahead : FitsAhead (file_max_of logged.log) (end_of logged.log) db root exact rest filled.tree []
    ahead =
        subst (λ (m : ℕ). FitsAhead m (end_of logged.log) db root exact rest filled.tree []) max_is
        (subst (λ (p : LogPos). FitsAhead (file_max_of mid.log) p db root exact rest filled.tree []) end_is (r.up.is_filled.fits db (of_rows db rows others_of)))

    -- the new database's tree is that of a new one while the first change is logged
    blank_there : get nat_cmp logged.forest db ≡ Some r.up.made.tree
    blank_there = logged.others db apart ∙ replaced mid.trees.forest ready.trees.forest db (Some r.up.made.tree) r.up.made.has

    own_home : (es : List Placed) (base : ℕ) (f : ForestFits es base root (trees_at logged.forest)) → at_home f.home db root 0 least
    own_home es base f =
        let one = r.up.made.is_new.root in
        subst (λ (n : ℕ). at_home f.home db n 0 least) one.number_is
        ((f.fits db r.up.made.tree blank_there).imaged.numbers 0 least one.root (one.put least ∙ ap (λ (t : Bool). cond t (Some one.root) None) (ap is_eq (name_same least)))).1

    abbrev Before : LogFact
    Before es base = ForestFits es base old.trees.last_node (trees_at old.trees.forest)

    abbrev After : LogFact
    After es base = ForestFits es base new.trees.last_node (trees_at new.trees.forest)

    rest_carries : Carries meaning logged.log rest (IsForestDue root logged.forest none_due) (λ es base. ForestFits es base new.trees.last_node (trees_at new.trees.forest))
    rest_carries log base has begun f =
        let own = own_home (placed log) base f in
        let more : List Placed = placed_by (file_max_of logged.log) (end_of logged.log) rest in
        let long = logged.rest.grew.log log has in
        let fits = ahead (placed log) base f.home own small (can_follow meaning logged.log rest log base has long.is_log begun logged.rest.fits.room) in
        subst (λ (es : List Placed). ForestFits es base new.trees.last_node (trees_at new.trees.forest)) (sym (more_placed meaning logged.log rest log has))
        (subst (λ (n : ℕ). ForestFits (placed log ++ more) base n (trees_at new.trees.forest)) (sym (logged.last ∙ r.up.last ∙ exact_is))
        (forest_step (placed log) more base root exact db (trees_at logged.forest) (trees_at new.trees.forest) none_due none_due fits.0 f fits.1 root_small
        (λ d away. others_away logged.forest new.trees.forest db (Some filled.tree) logged.has d away) (λ d away. refl)
        (λ t there. subst (λ (u : DbTree). FitsDue (placed log ++ more) base fits.0 exact db u []) (is_next logged.forest new.trees.forest db filled.tree t logged.has there) fits.2.0)
        (λ t there. subst (λ (u : DbTree). AreLogged (placed log ++ more) base db u.cells) (is_next logged.forest new.trees.forest db filled.tree t logged.has there) fits.3)
        (none_starts (file_max_of logged.log) (end_of logged.log) rest (rows_plain txn rows filled.images.items r.up.is_filled.loggable))
        (λ t there. subst (λ (u : DbTree). HasNotes (placed log ++ more) base [] u.levels) (is_next logged.forest new.trees.forest db filled.tree t logged.has there) fits.2.1)).0)

    -- ---- how many nodes wait

    pub waits_few : length (first ++ rest) + waits_in new.trees.forest ≤ waits_in old.trees.forest + most_entries (length (c ∷ rows))
    waits_few =
        let all = length_more first rest in
        let own = length_more logged.first.0 (entry_for txn c.db c.name c.value ∷ []) in
        let images = even_sizes logged.first.0 room.images.items logged.first.2 in
        let placed_few = few_one old.trees.fanout c room old.trees.forest mid.trees.forest r.placed in
        let up = r.up.waits in
        let less = logged.waits in
        let last = forest_waits logged.forest new.trees.forest db (Some filled.tree) logged.has r.up.made.width in
        let quiet = r.up.is_filled.quiet in
        let sizes = sym (length-map rest size_of) ∙ ap (λ (l : List ℕ). length l) r.up.is_filled.sizes in
        let few = few_rows mid.trees.fanout rows r.up.is_filled.low in
        omega (arith, all, own, images, placed_few, up, less, last, quiet, sizes, few)

    -- no more than before
    pub waits_less : waits_in new.trees.forest ≤ waits_in old.trees.forest
    waits_less =
        let slot = forest_waits old.trees.forest mid.trees.forest c.db (Some r.placed.next) r.placed.has r.placed.within in
        let was = ap count_waiting (was_shape old.trees.fanout c room old.trees.forest mid.trees.forest r.placed) in
        let is = ap count_waiting r.placed.placed.shape in
        let first_less = waits_with old.trees.fanout c.name (shape_in r.placed.tree) in
        let up = r.up.waits in
        let less = logged.waits in
        let last = forest_waits logged.forest new.trees.forest db (Some filled.tree) logged.has r.up.made.width in
        let quiet = r.up.is_filled.quiet in
        omega (arith, slot, was, is, first_less, up, less, last, quiet)

    -- ---- the whole

    pub fill_grows : (a : List Entry) × LogsChanges txn (c ∷ rows) a × TreesGrew meaning old.log new.log (last_node_of old) (last_node_of new) (trees_of old) (trees_of new) a
        × (length a + waits_in new.trees.forest ≤ waits_in old.trees.forest + most_entries (length (c ∷ rows)))
    fill_grows = (
      first ++ rest,
      (logged.first.0, rest, logged.first.1, append_assoc logged.first.0 (entry_for txn c.db c.name c.value ∷ []) rest, logs_with txn rows filled.images.items r.up.is_filled.paired r.up.is_filled.loggable),
      record {
        fitting = fitting_then meaning old.log logged.log new.log first rest two logged.rest;
        fits = carries_then meaning old.log logged.log first rest Before (IsForestDue root logged.forest none_due) After two
            (carries_then meaning old.log ready.log [] first Before (IsForestDue root ready.trees.forest (λ d. due_one c.db room.images.items d ++ none_due d)) (IsForestDue root logged.forest none_due) kept
            (λ log base has begun f. ready_due (placed log) base f) (grew_first.fits root))
            rest_carries;
        still = λ none. absurd (let empty = ap (λ (l : List Entry). length l) none in let all = length_more first rest in let own = length_more logged.first.0 (entry_for txn c.db c.name c.value ∷ []) in omega (arith, empty, all, own));
      },
      waits_few,
    )
      where
        two : GrewFitting meaning old.log logged.log first
        two = fitting_then meaning old.log ready.log logged.log [] first kept grew_first.fitting

    pub fill_trees : (d : ℕ) → is_there new.trees.forest d ≡ (is_made d (c ∷ rows) || is_there old.trees.forest d)
    fill_trees d =
        forest_trees logged.forest new.trees.forest db (Some filled.tree) logged.has (sym (ap is_some blank_there)) d
        ∙ logged.trees d
        ∙ forest_tree mid.trees.forest ready.trees.forest db (Some r.up.made.tree) r.up.made.has d
        ∙ ap (λ (t : Bool). cond (d == db) true t) (placed_trees old.trees.fanout (c ∷ []) (room ∷ []) old.trees.forest mid.trees.forest (mid.trees.forest, r.placed, λ e. refl) d)
        ∙ made_first db d c.makes rows (is_there old.trees.forest d) makes (none_made db d rows others_of)

    pub fill_written : AreSame (cells_seen old.trees.forest) (cells_seen ready.trees.forest) → AreWritten txn (c ∷ rows) (cells_seen old.trees.forest) (cells_seen new.trees.forest)
    fill_written seen =
        written_since txn (c ∷ rows) (cells_seen old.trees.forest) (cells_seen ready.trees.forest) (cells_seen new.trees.forest) seen
        (written_step txn c rows (cells_seen ready.trees.forest) (cells_seen logged.forest) (cells_seen new.trees.forest) logged.changed.0 logged.changed.1
        (subst (λ (cells : AllCells). AreWritten txn rows (cells_seen logged.forest) cells) (sym after)
        (subst (λ (cells : AllCells). AreWritten txn rows cells (with_cells db (occupied filled.tree.cells) (cells_seen logged.forest))) before (r.up.is_filled.written db (cells_seen logged.forest) (of_rows db rows others_of)))))
      where
        before : with_cells db [] (cells_seen logged.forest) ≡ cells_seen logged.forest
        before = fun_ext (λ (d : ℕ). by_test d (d == db) refl)
          where
            none : cells_seen logged.forest db ≡ []
            none = ap (λ (o : Option DbTree). occupied (cells_of o)) blank_there ∙ ap occupied r.up.made.is_new.cells

            by_test : (d : ℕ) (t : Bool) → (d == db) ≡ t → cond t [] (cells_seen logged.forest d) ≡ cells_seen logged.forest d
            by_test d true is = sym (ap (cells_seen logged.forest) (Rattle.std.proofs.lemmas.Bool.eqb-true d db is) ∙ none)
            by_test d false is = refl

        after : cells_seen new.trees.forest ≡ with_cells db (occupied filled.tree.cells) (cells_seen logged.forest)
        after = fun_ext (λ (d : ℕ). cells_replaced logged.forest new.trees.forest db filled.tree logged.has d)
