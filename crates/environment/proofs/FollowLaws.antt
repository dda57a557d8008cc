-- A change of the catalog that was logged, or not, is followed by what is known of databases.
use Rattle.db_names.specs.declared.db_names.DbNames.{DbNames}
use Rattle.index_map.specs.declared.index_map.IndexMap.{IndexMap}
use Rattle.environment.proofs.EarlyLaws.{same_buffer, same_reach}
use Rattle.std.proofs.Common.{◌≡◌, ◌≢◌, ◌∙◌, ◌==◌, ◌+◌, ◌<◌, ◌≤◌, ◌^◌, ℕ, Bool, true, false, true≢false, List, ◌∷◌, Option, None, Some, Result, Ok, Err, IfSome, option_map, refl, ap, sym, subst, arith, IsErr}
use mathlib.Core.Path.{fun_ext}
use Rattle.std.specs.declared.alloc.AllocError.{AllocError}
use Rattle.std.proofs.lemmas.Bool.{eqb-true, eqb-false}
use Rattle.je_disk.specs.DiskMeaning.{DiskMeaning}
use Rattle.je_disk.specs.Moments.{now}
use Rattle.store_model.specs.declared.answer.Answer.{Answer}
use Rattle.store_model.specs.declared.answer.Answer.TheVariants.{IdsEnded, DiskFault, LogFull, Logged}
use Rattle.store_model.specs.declared.call.Call.{Call}
use Rattle.store_model.specs.declared.call.Call.TheVariants.{Create, CreateIndex, Remove, Rename, Truncate}
use Rattle.store_model.specs.declared.change.Change.{Change}
use Rattle.store_model.specs.declared.store.Database.{Database}
use Rattle.store_model.specs.declared.store.Store.{Store}
use Rattle.store_model.specs.declared.store.TheConstants.{LAST_DATABASE}
use Rattle.store_model.specs.Evaluation.{evaluation_in}
use Rattle.store_model.specs.Refusals.{made_by}
use Rattle.store_model.specs.Store.{database_of}
use Rattle.db_catalog.specs.Planning.{outcome_unless}
use Rattle.je_answers.specs.Alone.{alone}
use Rattle.je_answers.specs.Refusals.{late_refusal}
use Rattle.je_answers.specs.Standing.{Standing}
use Rattle.log_buffer.specs.Buffer.{disk_of as disk_below}
use Rattle.log_replay.specs.Logging.{number_named}
use Rattle.log_replay.specs.Rows.{Row, Rows}
use Rattle.log_replay.proofs.LoggedLaws.{number-within}
use Rattle.in_tree.specs.Observed.{cells_of}
use Rattle.index_map.specs.Made.{Made, index_by, made_in}
use Rattle.index_map.specs.Map.{HasIndexes}
use Rattle.index_map.proofs.Changes.{alike}
use Rattle.db_names.specs.Names.{HasNames, Names}
use Rattle.txn_core.specs.declared.planned_changes.PlannedChanges.{PlannedChanges}
use Rattle.txn_core.specs.Known.{committed}
use Rattle.txn_core.specs.Planning.{outcome_alone}
use Rattle.engine.specs.declared.engine.Engine.{Engine}
use Rattle.engine.specs.declared.kept.Kept.{Kept}
use Rattle.engine.specs.Contents.{known}
use Rattle.engine.specs.Steps.{LogsChanges}
use Rattle.engine.specs.Whole.{contents_of}
use Rattle.engine.proofs.CallLaws.{sound_at}
use Rattle.environment.specs.declared.environment.Environment.{Environment}
use Rattle.environment.specs.declared.held.Held.{Held}
use Rattle.environment.specs.Calls.{ChangesCatalog}
use Rattle.environment.specs.Catalog.{FollowMaps, FollowsCall, IsHeldFor, IsPlannedAs, changed_number, is_logged, made_gone, made_held, made_logged, names_gone, names_held, names_logged, names_renamed}
use Rattle.environment.specs.Steps.{StandsAt, PerformsAnswer}
use Rattle.environment.specs.Valid.{made_at, name_at, HaveDatabases}
use Rattle.environment.specs.Whole.{limit_found, CanGoOn}
use Rattle.environment.proofs.CatalogEnds.{alone_at}
use Rattle.environment.proofs.CatalogLogged.{one_planned, plain_for}
use Rattle.environment.proofs.CatalogStanding.{alone_of}
use Rattle.environment.proofs.Databases.{made_is, name_is}
use Rattle.environment.proofs.HoldingLaws.{Makes, made_settled, made_undone, names_settled, names_undone}
use Rattle.environment.proofs.KnownChanges.{IsChangeOf, IsPlainFor, free_number}
use Rattle.environment.proofs.LateLaws.{known_as}

-- a database that gets another name has one
abbrev IsNamedFor : Names → (List ℕ → ℕ) → Call → Type 0
IsNamedFor was numbers (Rename db to) = (name : List ℕ) × (was (numbers db) ≡ Some name)
IsNamedFor was numbers call = Unit {0}

renamed_there : (numbers : List ℕ → ℕ) (last_db : ℕ) (number : Option ℕ) (held : Held) (call : Call) (was : Names) → ChangesCatalog call → number ≡ changed_number numbers call → IsHeldFor last_db number call held → IsNamedFor was numbers call →
    IfSome {T = ℕ × List ℕ} held.renamed (λ r. (name : List ℕ) × (names_gone held.gone (names_held last_db call was) r.0 ≡ Some name))
renamed_there numbers last_db number held (Create db kind) was is number_is held_is named =
    subst (λ (h : Held). IfSome {T = ℕ × List ℕ} h.renamed (λ r. (name : List ℕ) × (names_gone h.gone (names_held last_db (Create db kind) was) r.0 ≡ Some name))) (sym held_is) tt
renamed_there numbers last_db number held (CreateIndex db index) was is number_is held_is named =
    subst (λ (h : Held). IfSome {T = ℕ × List ℕ} h.renamed (λ r. (name : List ℕ) × (names_gone h.gone (names_held last_db (CreateIndex db index) was) r.0 ≡ Some name))) (sym held_is) tt
renamed_there numbers last_db number held (Remove db) was is number_is held_is named =
    subst (λ (h : Held). IfSome {T = ℕ × List ℕ} h.renamed (λ r. (name : List ℕ) × (names_gone h.gone (names_held last_db (Remove db) was) r.0 ≡ Some name))) (sym held_is) tt
renamed_there numbers last_db number held (Rename db to) was is number_is held_is named =
    subst (λ (h : Held). IfSome {T = ℕ × List ℕ} h.renamed (λ r. (name : List ℕ) × (names_gone h.gone (names_held last_db (Rename db to) was) r.0 ≡ Some name))) (sym held_is)
    (subst (λ (o : Option ℕ). IfSome {T = ℕ × List ℕ} (option_map (λ (n : ℕ). (n, to)) o) (λ r. (name : List ℕ) × (was r.0 ≡ Some name))) (sym number_is) named)
renamed_there numbers last_db number held (Truncate db) was is number_is held_is named =
    subst (λ (h : Held). IfSome {T = ℕ × List ℕ} h.renamed (λ r. (name : List ℕ) × (names_gone h.gone (names_held last_db (Truncate db) was) r.0 ≡ Some name))) (sym held_is) tt
renamed_there numbers last_db number held call was is number_is held_is named = absurd is

-- what is renamed is there
there_renamed : (late : Option Answer) (store : Store) (db to : List ℕ) (o : Option Database) (change : Change) (more : List Change) → (outcome_unless late (evaluation_in (Rename db to) store o)).changes ≡ change ∷ more → (d : Database) × (o ≡ Some d)
there_renamed (Some refusal) store db to o change more is = absurd cc
there_renamed None store db to None change more is = absurd cc
there_renamed None store db to (Some d) change more is = (d, refl)

-- what makes a database allocates a number
makes_one : (call : Call) (change : Change) (more : List Change) → IsChangeOf call change → Makes call → 1 ≤ made_by (change ∷ more)
makes_one (Create db kind) change more is makes = subst (λ (c : Change). 1 ≤ made_by (c ∷ more)) (sym is) (omega arith)
makes_one (CreateIndex db index) change more is makes = subst (λ (c : Change). 1 ≤ made_by (c ∷ more)) (sym is) (omega arith)
makes_one (Truncate db) change more is makes = subst (λ (c : Change). 1 ≤ made_by (c ∷ more)) (sym is) (omega arith)
makes_one call change more is makes = absurd makes

within_by : (n last_db : ℕ) (b : Bool) → (n == 0) ≡ b → (n ≢ 0 → n ≤ last_db) → n ≤ last_db
within_by n last_db true e le = let is = eqb-true n 0 e in omega (arith, is)
within_by n last_db false e le = le (eqb-false n 0 e)

module _ {D : Type 0} (meaning : DiskMeaning D) where
  module _ (most : ℕ) (e : Environment D) (st : Standing) (session : ℕ) (call : Call) (fills : Bool) (planned : PlannedChanges) (at : StandsAt most meaning e st) (none : st.fault ≡ None) (is : ChangesCatalog call)
      (its : IsPlannedAs (known (contents_of e.engine)) (alone_of st) session call fills planned) (number : Option ℕ) (held : Held) (number_is : number ≡ changed_number (number_named (committed (cells_of e.engine.trees))) call)
      (held_is : IsHeldFor e.engine.kept.last_db number call held) where
    abbrev rows_ : Rows
    rows_ = committed (cells_of e.engine.trees)

    abbrev last_ : ℕ
    last_ = e.engine.kept.last_db

    abbrev was_ : Names
    was_ = name_at st.numbers st.store

    abbrev made_ : Made
    made_ = made_at st.numbers st.store

    numbers_are : number_named rows_ ≡ st.numbers
    numbers_are = fun_ext (at.valid none).makes.named

    number_so : number ≡ changed_number st.numbers call
    number_so = number_is ∙ ap (λ (f : List ℕ → ℕ). changed_number f call) numbers_are

    later : st.last_db < last_ + 1
    later = let same = at.last_db in omega (arith, same)

    pub none_named : was_ (last_ + 1) ≡ None
    none_named = name_is rows_ st.last_db st (at.valid none).makes (last_ + 1) ∙ ap (option_map (λ (r : Row). r.0.key)) (free_number rows_ st.last_db st (at.valid none).makes (last_ + 1) later)

    pub none_made : made_ (last_ + 1) ≡ None
    none_made = made_is rows_ st.last_db st (at.valid none).makes (last_ + 1) ∙ ap index_by (free_number rows_ st.last_db st (at.valid none).makes (last_ + 1) later)

    within : (name : List ℕ) → st.numbers name ≤ last_
    within name =
        subst (λ (f : List ℕ → ℕ). f name ≤ last_) numbers_are
        (within_by (number_named rows_ name) last_ (number_named rows_ name == 0) refl
        (number-within rows_ last_ name (sound_at most meaning.observable (now (meaning.history (disk_below e.engine.trees.log))) e.engine.trees.log (contents_of e.engine) (alone_of st) (alone_at most meaning e st at) none)))

    change_is : IsChangeOf call its.log.change
    change_is = (one_planned (known (contents_of e.engine)) (alone_of st) session call planned is its.log).0

    plain_ : IsPlainFor made_ st.numbers call
    plain_ =
        subst (λ (m : Made). IsPlainFor m st.numbers call) (sym (fun_ext (made_is rows_ st.last_db st (at.valid none).makes)))
        (subst (λ (f : List ℕ → ℕ). IsPlainFor (made_in (rows_ 0)) f call) numbers_are
        (plain_for rows_ st session call its.log.change its.log.more (at.valid none).makes change_is its.log.changes))

    named_ : (c : Call) → ChangesCatalog c → c ≡ call → IsNamedFor was_ st.numbers c
    named_ (Create db kind) changes same = tt
    named_ (CreateIndex db index) changes same = tt
    named_ (Remove db) changes same = tt
    named_ (Truncate db) changes same = tt
    named_ (Rename db to) changes same =
        let d = there_renamed (late_refusal (alone (alone_of st)) session (Rename db to)) st.store db to (database_of db st.store) its.log.change its.log.more
        (ap (λ (x : Call). (outcome_alone (alone_of st) session x).changes) same ∙ its.log.changes) in
        (d.0.name, ap (option_map (λ (x : Database). x.name)) (known_as rows_ st (at.valid none).makes db d.0 d.1).there)
    named_ c changes same = absurd changes

    fits_ : planned.last_db ≤ LAST_DATABASE → Makes call → last_ + 1 < 2 ^ 32
    fits_ low makes =
        let one = makes_one call its.log.change its.log.more change_is makes in
        let is_ = its.log.last_db in
        omega (arith, one, is_, low)

    still : (k : Kept) → ((was : Names) → HasNames was e.engine.kept.names → HasNames (names_gone held.made (names_held last_ call was)) k.names) →
        ((made : Made) → HasIndexes made e.engine.kept.indexes → made (last_ + 1) ≡ None → HasIndexes (made_gone held.made (made_held last_ number call made)) k.indexes) → FollowMaps was_ made_ k
    still k less restored =
        let knows = at.databases none in
        record {
          indexes_are = alike (made_gone held.made (made_held last_ number call made_)) made_ k.indexes (λ m. sym (made_undone last_ number held call made_ is held_is none_made m)) (restored made_ knows.indexes_are none_made);
          names_are = λ m. less was_ knows.names_are m ∙ names_undone last_ number held call was_ is held_is none_named m;
        }

    pub follows_call : (n : Engine D) (owed : ℕ) (result : Result Answer AllocError) (kept : Kept) (done : Bool) → done ≡ is_logged result →
        LogsChanges meaning e.engine.trees.log n.trees.log (contents_of e.engine) (contents_of n) planned (limit_found fills e.engine.trees planned.changes.items owed) result →
        (done ≡ true → (was : Names) → HasNames was e.engine.kept.names → IfSome {T = ℕ × List ℕ} held.renamed (λ r. (name : List ℕ) × (names_gone held.gone (names_held last_ call was) r.0 ≡ Some name)) →
        HasNames (names_renamed held.renamed (names_gone held.gone (names_held last_ call was))) kept.names) →
        (done ≡ true → (made : Made) → HasIndexes made e.engine.kept.indexes → made (last_ + 1) ≡ None → HasIndexes (made_gone held.gone (made_held last_ number call made)) kept.indexes) →
        (done ≡ false → (was : Names) → HasNames was e.engine.kept.names → HasNames (names_gone held.made (names_held last_ call was)) kept.names) →
        (done ≡ false → (made : Made) → HasIndexes made e.engine.kept.indexes → made (last_ + 1) ≡ None → HasIndexes (made_gone held.made (made_held last_ number call made)) kept.indexes) → FollowsCall st call kept result
    follows_call n owed (Ok (Logged commit)) kept done done_is logs names indexes less restored =
        let knows = at.databases none in
        let fits = fits_ logs.2 in
        subst (λ (l : ℕ). FollowMaps (names_logged st.numbers l call was_) (made_logged st.numbers l call made_) kept) at.last_db (record {
          indexes_are = alike (made_gone held.gone (made_held last_ number call made_)) _ kept.indexes (λ m. sym (made_settled st.numbers last_ number held call made_ is number_so held_is fits plain_ m)) (indexes done_is made_ knows.indexes_are none_made);
          names_are = λ m.
              names done_is was_ knows.names_are (renamed_there st.numbers last_ number held call was_ is number_so held_is (named_ call is refl)) m
              ∙ names_settled st.numbers last_ number held call was_ is number_so held_is fits within m;
        })
    follows_call n owed (Ok DiskFault) kept done done_is logs names indexes less restored = tt
    follows_call n owed (Ok LogFull) kept done done_is logs names indexes less restored = still kept (less done_is) (restored done_is)
    follows_call n owed (Ok IdsEnded) kept done done_is logs names indexes less restored = still kept (less done_is) (restored done_is)
    follows_call n owed (Ok answer) kept done done_is logs names indexes less restored = absurd logs
    follows_call n owed (Err error) kept done done_is logs names indexes less restored = still kept (less done_is) (restored done_is)

module _ {D : Type 0} where
  -- an environment with other maps
  abbrev pub with_maps : Environment D → DbNames → IndexMap → Environment D
  with_maps e names indexes = record e { engine = record e.engine { kept = record e.engine.kept { names = names; indexes = indexes } } }

module _ {D : Type 0} (meaning : DiskMeaning D) where
  held_still : (most : ℕ) (e : Environment D) (names : DbNames) (indexes : IndexMap) (st : Standing) → StandsAt most meaning e st → (st.fault ≡ None → HaveDatabases st.numbers st.store indexes names) →
      StandsAt most meaning (with_maps e names indexes) st
  held_still most e names indexes st at knows = record {
    file_max = at.file_max;
    fault = at.fault;
    last_txn = at.last_txn;
    last_db = at.last_db;
    commits = at.commits;
    totals = at.totals;
    sessions_at = at.sessions_at;
    apart = at.apart;
    checkpoint = at.checkpoint;
    databases = knows;
    valid = at.valid;
  }

  -- there was no memory to hold what it changes
  pub not_held : (e : Environment D) (names : DbNames) (indexes : IndexMap) (session : ℕ) (call : Call) (result : Result Answer AllocError) → IsErr result → e.engine.kept.fault ≡ None → CanGoOn e →
      ((was : Names) → HasNames was e.engine.kept.names → was (e.engine.kept.last_db + 1) ≡ None → HasNames was names) →
      ((made : Made) → HasIndexes made e.engine.kept.indexes → made (e.engine.kept.last_db + 1) ≡ None → HasIndexes made indexes) →
      PerformsAnswer meaning e (with_maps e names indexes) session call result
  not_held e names indexes session call (Ok answer) error valid bounds names_are indexes_are = absurd (true≢false (sym error))
  not_held e names indexes session call (Err error) is valid bounds names_are indexes_are = record {
    comes = λ most st line at sound early. record {
      here = held_still most e names indexes st at (λ calm.
          let knows = at.databases calm in
          let v = at.valid calm in
          let rows = committed (cells_of e.engine.trees) in
          let later : st.last_db < e.engine.kept.last_db + 1 = (let same = at.last_db in omega (arith, same)) in
          let free = free_number rows st.last_db st v.makes (e.engine.kept.last_db + 1) later in
          record {
            indexes_are = indexes_are (made_at st.numbers st.store) knows.indexes_are (made_is rows st.last_db st v.makes (e.engine.kept.last_db + 1) ∙ ap index_by free);
            names_are = names_are (name_at st.numbers st.store) knows.names_are (name_is rows st.last_db st v.makes (e.engine.kept.last_db + 1) ∙ ap (option_map (λ (r : Row). r.0.key)) free);
          });
      log = same_buffer e.engine.trees.log;
      near = same_reach e;
    };
    near = same_reach e;
    bounds = bounds;
    cause = record { never_falls = omega arith; fault = tt };
  }
