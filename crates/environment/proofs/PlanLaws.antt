-- What a transaction sees of the database that a call is on.
use Rattle.std.proofs.Common.{◌≡◌, ◌≢◌, ◌≤◌, ◌∙◌, ◌⊎◌, inl, inr, ℕ, true, List, [], ◌∷◌, Option, None, Some, IfSome, map, option_map, is_eq, refl, ap, sym, subst, rules}
use Rattle.std.proofs.lemmas.Option.{same_Some}
use Rattle.std.specs.List.{AllByRecursion}
use Rattle.je_order.specs.Order.{name_cmp}
use Rattle.je_order.proofs.Lists.{all_weaker, filter_all_pass}
use Rattle.record_map.specs.Cells.{IsRising}
use Rattle.record_tree.specs.Occupied.{Occupied, is_occupied, occupied_by}
use Rattle.store_model.specs.declared.call.Call.{Call}
use Rattle.store_model.specs.declared.kind.Kind.{Kind}
use Rattle.store_model.specs.declared.kind.Kind.TheVariants.{Plain, Dup}
use Rattle.store_model.specs.Indexes.{Numbered, changed_database}
use Rattle.store_model.specs.declared.record_change.RecordChange.{RecordChange}
use Rattle.store_model.specs.declared.record_change.RecordChange.TheVariants.{Set, Unset}
use Rattle.store_model.specs.declared.store.Database.{Database}
use Rattle.store_model.specs.Evaluation.{plain_name}
use Rattle.je_order.specs.declared.name.Name.{Name}
use Rattle.store_model.specs.Store.{database_of}
use Rattle.je_answers.specs.declared.active.Active.{Active}
use Rattle.je_answers.specs.Standing.{Standing}
use Rattle.je_answers.specs.Views.{Target}
use Rattle.db_catalog.specs.declared.found_db.FoundDb.{FoundDb}
use Rattle.log_replay.specs.Logging.{index_named, kind_named, number_named}
use Rattle.log_replay.specs.Rows.{Row, Rows, are_right, catalog_kind, catalog_number, pair_of}
use Rattle.txn_views.specs.declared.found_target.FoundTarget.{FoundTarget}
use Rattle.index_map.specs.declared.found_index.FoundIndex.{FoundIndex}
use Rattle.index_map.specs.Laws.{db_at, indexes_at, known, over_of}
use Rattle.txn_views.specs.declared.outcome_plan.OutcomePlan.{OutcomePlan}
use Rattle.txn_views.specs.Targets.{AreReadable, AreSeenAs, IsFoundTarget, IsOutcomeIn, IsOutcomePlan, IsReadable, IsSeenAs, IsTargetPlan, changing_at}
use Rattle.txn_views.proofs.PlanLaws.{outcomes_are_models, plans_are_models}
use Rattle.log_replay.proofs.ListLaws.{found}
use Rattle.log_replay.proofs.StoreLaws.{database_of-numbered, environment_parts, primaries_in, row_named}
use Rattle.standing_laws.specs.Right.{AreSound}
use Rattle.in_tree.specs.Forest.{cells_at}
use Rattle.in_tree.specs.declared.logged_trees.LogTrees.{LogTrees}
use Rattle.in_tree.specs.Observed.{cells_of}
use Rattle.txn_core.specs.Known.{committed}
use Rattle.txn_log.specs.Committing.{MakesStore, MayBeCommitted}
use Rattle.txn_views.specs.Laws.{AreCellsOf, AreSeenBy}
use Rattle.txn_views.specs.Seen.{AreOccupied, HasWrites, seen_rows}
use Rattle.log_replay.proofs.ListLaws.{all_of_map}
use Rattle.log_replay.proofs.StoreLaws.{number_of_row}
use Rattle.log_replay.specs.Kept.{MayBeLogged}
use Rattle.log_replay.specs.Rows.{is_right_row}
use Rattle.store_model.specs.Store.{change_in, proper}
use Rattle.engine.proofs.PlannedRows.{apart_named}
use Rattle.txn_views.specs.Seen.{IsProperChange}
use Rattle.environment.proofs.LateLaws.{same_is}
use Rattle.je_disk.specs.DiskMeaning.{DiskMeaning}
use Rattle.je_order.specs.declared.txn_id.TxnId.{TxnId}
use Rattle.store_model.specs.declared.isolation.Isolation.{Isolation}
use Rattle.txn_views.proofs.ViewLaws.{views-are_seen}
use Rattle.environment.specs.declared.call_plan.CallPlan.{CallPlan}
use Rattle.environment.specs.declared.environment.Environment.{Environment}
use Rattle.environment.specs.Writing.{IsValidAt}
use Rattle.environment.specs.Access.{AreThere, IsDbAt, IsFoundFor, IsIndexAt, IsOnDb, IsPlannedFor, IsPrimaryAt}
use Rattle.environment.specs.Beside.{IsTargetBy, as_beside, beside_of, name_in}
use Rattle.environment.specs.Valid.{KnowsDatabases}
use Rattle.environment.proofs.BesideLaws.{db_there, found_target, others_beside}

some_is : {X : Type 0} (x y : X) → Some x ≡ Some y → x ≡ y
some_is x y e = search (rules, e)

-- the names of a tree's cells are occupied
pub are_occupied : {D : Type 0} (trees : LogTrees D) (d : ℕ) → AreOccupied (cells_of trees d)
are_occupied trees d = filter_all_pass (λ (e : Name × Occupied). is_occupied e.1) (map (λ e. (e.0, occupied_by e.1)) (cells_at trees.trees.forest d))

-- the database that a call is on
pub on_db : (st : Standing) (session : ℕ) (call : Call) (db : List ℕ) (f : FoundDb) (at : Option Name) (g : Target) → IsFoundFor st session call db f at g → IsOnDb st db f g
on_db st session call db f at g found = record {
  over = found.over;
  indexes = found.indexes;
  number = found.number;
  kind = found.kind;
  name = found.name;
  is = found.is;
  there = found.there;
  named = found.named;
  above = found.above;
}

-- of two names with one number there is one
same_name : (rows : Rows) (last_db : ℕ) (db other : List ℕ) {st : Standing} → MakesStore rows last_db st → number_named rows db ≢ 0 → number_named rows other ≡ number_named rows db → other ≡ db
same_name rows last_db db other makes has same =
    same_is other db (apart_named rows last_db db other
    (record { environment = environment_parts rows makes.environment; primaries = primaries_in rows makes.environment; rising = makes.rising; unused = makes.unused; numbers = all_of_map number_of_row (λ n. n ≤ last_db) (rows 0) makes.numbers }) has same)

-- a database as the target of a call
abbrev pub lone : Numbered → Target
lone d = record { db = d.0; database = d.1; at = None; over = None; indexes = [] }

module _ (rows : Rows) (st : Standing) (makes : MakesStore rows st.last_db st) (d : Numbered) (at : IsDbAt st d) where
  -- its number is in the catalog
  pub number_is : number_named rows d.1.name ≡ d.0
  number_is = makes.named d.1.name ∙ at.named

  has : number_named rows d.1.name ≢ 0
  has none = at.above (sym number_is ∙ none)

  -- so it is the database that the catalog's records make
  abbrev pub made : Kind → ℕ → Database
  made kind number = record { name = d.1.name; kind = kind; index = index_named rows d.1.name; pairs = map (pair_of kind) (rows number) }

  database_is : d.1 ≡ made (kind_named rows d.1.name) (number_named rows d.1.name)
  database_is = some_is d.1 _ (sym at.is ∙ ap (database_of d.1.name) (sym makes.store) ∙ database_of-numbered rows d.1.name makes.environment has)

  kind_is : d.1.kind ≡ kind_named rows d.1.name
  kind_is = ap (λ (x : Database). x.kind) database_is

  pub pairs_are : map (pair_of d.1.kind) (rows d.0) ≡ d.1.pairs
  pairs_are = ap (λ (k : Kind). map (pair_of k) (rows d.0)) kind_is ∙ ap (λ (n : ℕ). map (pair_of (kind_named rows d.1.name)) (rows n)) (sym number_is) ∙ sym (ap (λ (x : Database). x.pairs) database_is)

  pub rows_are_right : are_right d.1.kind (rows d.0) ≡ true
  rows_are_right =
      let row = row_named rows d.1.name has in
      let right = (found (λ (r : Row). are_right (catalog_kind r.1) (rows (catalog_number r.1)) ≡ true) (λ r. is_eq (name_cmp r.0 (plain_name d.1.name))) (rows 0) row.0 row.1 (environment_parts rows makes.environment).right).0 in
      ap (λ (k : Kind). are_right k (rows d.0)) (kind_is ∙ sym row.3) ∙ ap (λ (n : ℕ). are_right (catalog_kind row.0.1) (rows n)) (sym number_is ∙ sym row.2) ∙ right

  -- an own change of it is one of its kind
  proper_of : (c : ℕ × RecordChange) → MayBeCommitted rows c → c.0 ≡ d.0 → IsProperChange d.1.kind c.1
  proper_of c may here =
      let same : number_named rows may.0 ≡ number_named rows d.1.name = may.1 ∙ here ∙ sym number_is in
      let name : may.0 ≡ d.1.name = same_name rows st.last_db d.1.name may.0 makes has same in
      by_change c.1 (subst (λ (n : List ℕ). MayBeLogged rows 0 (change_in n c.1)) name may.2)
    where
      by_change : (x : RecordChange) → MayBeLogged rows 0 (change_in d.1.name x) → IsProperChange d.1.kind x
      by_change (Set at value) m = ap (λ (k : Kind). is_right_row k (at, value)) kind_is ∙ m.1
      by_change (Unset at) m = ap (λ (k : Kind). proper k at) kind_is ∙ m.1

  pub own_is_proper : (own : List (ℕ × RecordChange)) → AllByRecursion (MayBeCommitted rows) own → AllByRecursion (λ c. c.0 ≡ d.0 → IsProperChange d.1.kind c.1) own
  own_is_proper own may = all_weaker (MayBeCommitted rows) (λ c. c.0 ≡ d.0 → IsProperChange d.1.kind c.1) (λ c m here. proper_of c m here) own may

-- ---- what is found of a target

-- the first of some databases, by what a plan knows of it, and those behind it
abbrev first_number : ℕ → List Numbered → ℕ
first_number n [] = n
first_number n (d ∷ ds) = d.0

abbrev behind : List Numbered → List Numbered
behind [] = []
behind (d ∷ ds) = ds

none_found : (is : List Numbered) (fs : List FoundIndex) → indexes_at fs ≡ map known is → is ≡ [] → fs ≡ []
none_found [] [] e none = refl
none_found [] (f ∷ fs) e none = absurd cc
none_found (i ∷ is) fs e none = absurd cc

-- the database whose records change, by its kind
changing_kind : (g : Target) (f : FoundDb) (o : Option Numbered) (over : Option ℕ) → f.kind ≡ g.database.kind → over_of over ≡ option_map known o → (changing_at over f).kind ≡ (changed_database o (g.db, g.database)).1.kind
changing_kind g f None None kind is = kind
changing_kind g f None (Some n) kind is = absurd cc
changing_kind g f (Some p) None kind is = absurd cc
changing_kind g f (Some p) (Some n) kind is = ap (λ (d : Numbered). d.1.kind) (same_Some (db_at n Plain) (known p) is)

plain_or_none : (g : Target) (f : FoundTarget) → IsFoundTarget g f → ((changed_database g.over (g.db, g.database)).1.kind ≡ Plain) ⊎ (g.indexes ≡ []) → ((changing_at f.over f.db).kind ≡ Plain) ⊎ (f.indexes.now ≡ [])
plain_or_none g f is (inl plain) = inl (changing_kind g f.db g.over f.over is.kind is.over ∙ plain)
plain_or_none g f is (inr none) = inr (none_found g.indexes f.indexes.now is.indexes none)

-- ---- what a transaction sees of the databases of a target

module _ {D : Type 0} (trees : LogTrees D) (st : Standing) (sound : AreSound st) (makes : MakesStore (committed (cells_of trees)) st.last_db st) (writes : HasWrites (cells_of trees) st.own)
    (may : (t : ℕ) → AllByRecursion (MayBeCommitted (committed (cells_of trees))) (st.own t)) (rising : (d : ℕ) → IsRising (cells_of trees d)) where
  -- what a valid environment has of a database
  pub cells_of_db : (d : Numbered) → IsDbAt st d → AreCellsOf st (lone d) (cells_of trees)
  cells_of_db d at = record {
    rising = rising d.0;
    occupied = are_occupied trees d.0;
    right = rows_are_right (committed (cells_of trees)) st makes d at;
    pairs = pairs_are (committed (cells_of trees)) st makes d at;
    writes = writes;
    own_right = λ t. own_is_proper (committed (cells_of trees)) st makes d at (st.own t) (may t);
    own_active = sound.own_active;
  }

  -- what a transaction sees of it
  pub seen_db : (a : Active) (d : Numbered) → IsDbAt st d → AreSeenBy st a (lone d) (cells_of trees)
  seen_db a d at = views-are_seen st a (lone d) (cells_of trees) (cells_of_db d at)

  -- and of that of a call
  pub seen_on : (a : Active) (g : Target) → IsDbAt st (g.db, g.database) → AreSeenBy st a g (cells_of trees)
  seen_on a g at = let seen = seen_db a (g.db, g.database) at in record { right = seen.right; pairs = seen.pairs; names = seen.names }

  seen_as : (a : Active) (d : Numbered) → IsDbAt st d → IsSeenAs st a (cells_of trees) d
  seen_as a d at = let seen = seen_db a d at in (seen.pairs, seen.names)

  -- and of each of a target
  pub all_seen : (a : Active) (g : Target) → AreThere st g → AreSeenAs st a g (cells_of trees)
  all_seen a g there = record {
    db = seen_as a (g.db, g.database) there.own;
    over = by_over g.over there.over;
    indexes = all_weaker (IsIndexAt st) (IsSeenAs st a (cells_of trees)) (λ d is. seen_as a d is.at) g.indexes there.indexes;
  }
    where
      by_over : (o : Option Numbered) → IfSome o (IsPrimaryAt st g) → IfSome o (IsSeenAs st a (cells_of trees))
      by_over None primary = tt
      by_over (Some d) primary = seen_as a d primary.at

  -- each can be read where it is found by its number and kind
  module _ (a : Active) (txn : TxnId) (level : Isolation) (is_txn : a.txn ≡ txn) (is_level : a.level ≡ level) where
    readable_db : (d : Numbered) (number : ℕ) (kind : Kind) → IsDbAt st d → d.0 ≡ number → d.1.kind ≡ kind → IsReadable level txn (cells_of trees) number kind
    readable_db d number kind at is is_kind = record {
      right =
          subst (λ (l : Isolation). are_right kind (seen_rows l txn (cells_of trees number)) ≡ true) is_level
          (subst (λ (t : TxnId). are_right kind (seen_rows a.level t (cells_of trees number)) ≡ true) is_txn
          (subst (λ (n : ℕ). are_right kind (seen_rows a.level a.txn (cells_of trees n)) ≡ true) is
          (subst (λ (k : Kind). are_right k (seen_rows a.level a.txn (cells_of trees d.0)) ≡ true) is_kind (seen_db a d at).right)));
      rising = rising number;
    }

    readable_over : (g : Target) (o : Option Numbered) (over : Option ℕ) → over_of over ≡ option_map known o → IfSome o (IsPrimaryAt st g) → IfSome over (λ number. IsReadable level txn (cells_of trees) number Plain)
    readable_over g None None is at = tt
    readable_over g None (Some n) is at = absurd cc
    readable_over g (Some p) None is at = tt
    readable_over g (Some p) (Some n) is at = readable_db p n Plain at.at (sym (ap (λ (d : Numbered). d.0) (same_Some (db_at n Plain) (known p) is))) at.kind

    readable_indexes : (is : List Numbered) (fs : List FoundIndex) → indexes_at fs ≡ map known is → AllByRecursion (IsIndexAt st) is → AllByRecursion (λ i. IsReadable level txn (cells_of trees) i.number Dup) fs
    readable_indexes [] [] e all = tt
    readable_indexes [] (f ∷ fs) e all = absurd cc
    readable_indexes (i ∷ is) [] e all = tt
    readable_indexes (i ∷ is) (f ∷ fs) e all = (readable_db i f.number Dup all.0.at (sym (ap (first_number 0) e)) all.0.kind, readable_indexes is fs (ap behind e) all.1)

    pub readable_target : (g : Target) (f : FoundTarget) → AreThere st g → IsFoundTarget g f → AreReadable level txn (cells_of trees) f
    readable_target g f there is = record {
      db = readable_db (g.db, g.database) f.db.number f.db.kind there.own (sym is.number) (sym is.kind);
      over = readable_over g g.over f.over is.over there.over;
      indexes = readable_indexes g.indexes f.indexes.now is.indexes there.indexes;
      plain = plain_or_none g f is there.plain;
    }

-- so the plan of a call is the model's
module _ {D : Type 0} (trees : LogTrees D) (txn : TxnId) (level : Isolation) (db : List ℕ) (f : FoundDb) (call : Call) (at : Option Name) (rising : (d : ℕ) → IsRising (cells_of trees d)) where
  -- the databases of a call can be read
  pub readable_by : (meaning : DiskMeaning D) (e : Environment D) → e.engine.trees ≡ trees → (on : FoundTarget) → IsTargetBy e.engine.kept.indexes f on →
      (st : Standing) (a : Active) (g : Target) → IsValidAt meaning e st → KnowsDatabases st e.engine.kept → AreSound st → IsOnDb st db f g → a.txn ≡ txn → a.level ≡ level → AreReadable level txn (cells_of trees) on
  readable_by meaning e same on on_is st a g v knows sound found is_txn is_level =
      let makes = subst (λ (t : LogTrees D). MakesStore (committed (cells_of t)) st.last_db st) same v.makes in
      let writes = subst (λ (t : LogTrees D). HasWrites (cells_of t) st.own) same v.writes in
      let may = subst (λ (t : LogTrees D). (u : ℕ) → AllByRecursion (MayBeCommitted (committed (cells_of t))) (st.own u)) same v.may in
      readable_target trees st sound makes writes may rising a txn level is_txn is_level g on (db_there (committed (cells_of trees)) st makes e.engine.kept knows db f g found)
      (found_target (committed (cells_of trees)) st makes e.engine.kept knows db f g found on on_is)

  pub planned_by : (meaning : DiskMeaning D) (e : Environment D) → e.engine.trees ≡ trees → (on : FoundTarget) → IsTargetBy e.engine.kept.indexes f on →
      (p : CallPlan) → map as_beside p.others ≡ beside_of (name_in e.engine.kept.names) on.over on.indexes.now → IsTargetPlan level txn (cells_of trees) on call at p.target →
      (st : Standing) (a : Active) (g : Target) → IsValidAt meaning e st → KnowsDatabases st e.engine.kept → AreSound st → IsOnDb st db f g → g.at ≡ at → a.txn ≡ txn → a.level ≡ level → IsPlannedFor st a call g p
  planned_by meaning e same on on_is p others plan st a g v knows sound found stands is_txn is_level =
      let makes = subst (λ (t : LogTrees D). MakesStore (committed (cells_of t)) st.last_db st) same v.makes in
      let writes = subst (λ (t : LogTrees D). HasWrites (cells_of t) st.own) same v.writes in
      let may = subst (λ (t : LogTrees D). (u : ℕ) → AllByRecursion (MayBeCommitted (committed (cells_of t))) (st.own u)) same v.may in
      record {
        plan = plans_are_models st a call g (cells_of trees) on p.target (found_target (committed (cells_of trees)) st makes e.engine.kept knows db f g found on on_is)
            (all_seen trees st sound makes writes may rising a g (db_there (committed (cells_of trees)) st makes e.engine.kept knows db f g found))
            (subst (λ (o : Option Name). IsTargetPlan a.level a.txn (cells_of trees) on call o p.target) (sym stands)
            (subst (λ (t : TxnId). IsTargetPlan a.level t (cells_of trees) on call at p.target) (sym is_txn)
            (subst (λ (l : Isolation). IsTargetPlan l txn (cells_of trees) on call at p.target) (sym is_level) plan)));
        beside = others_beside (committed (cells_of trees)) st makes e.engine.kept knows db f g found on on_is p.others others;
      }

  -- and one without locks
  pub outcome_by : (meaning : DiskMeaning D) (e : Environment D) → e.engine.trees ≡ trees → (on : FoundTarget) → IsTargetBy e.engine.kept.indexes f on →
      (p : OutcomePlan) → IsOutcomePlan level txn (cells_of trees) on call p →
      (st : Standing) (a : Active) (g : Target) → IsValidAt meaning e st → KnowsDatabases st e.engine.kept → AreSound st → IsOnDb st db f g → g.at ≡ None → a.txn ≡ txn → a.level ≡ level → IsOutcomeIn st a call g p
  outcome_by meaning e same on on_is p plan st a g v knows sound found stands is_txn is_level =
      let makes = subst (λ (t : LogTrees D). MakesStore (committed (cells_of t)) st.last_db st) same v.makes in
      let writes = subst (λ (t : LogTrees D). HasWrites (cells_of t) st.own) same v.writes in
      let may = subst (λ (t : LogTrees D). (u : ℕ) → AllByRecursion (MayBeCommitted (committed (cells_of t))) (st.own u)) same v.may in
      outcomes_are_models st a call g (cells_of trees) on p (found_target (committed (cells_of trees)) st makes e.engine.kept knows db f g found on on_is)
      (all_seen trees st sound makes writes may rising a g (db_there (committed (cells_of trees)) st makes e.engine.kept knows db f g found)) stands
      (subst (λ (t : TxnId). IsOutcomePlan a.level t (cells_of trees) on call p) (sym is_txn) (subst (λ (l : Isolation). IsOutcomePlan l txn (cells_of trees) on call p) (sym is_level) plan))
