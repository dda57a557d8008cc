-- What is known of databases behind a change of the catalog.
use Rattle.std.proofs.Common.{◌≡◌, ◌≢◌, ◌∙◌, ◌==◌, ◌+◌, ◌<◌, ◌≤◌, ℕ, Bool, true, false, cond, not, List, [], ◌∷◌, Option, None, Some, filter, option_map, refl, ap, ap₂, sym, subst, is_eq, ⊎_elim, arith}
use mathlib.Core.Path.{fun_ext}
use Rattle.std.specs.List.{AllByRecursion}
use Rattle.std.proofs.lemmas.Bool.{cond-false, cond-true, eqb-true, eqb-false, ne_eqb, not-true}
use Rattle.je_order.specs.Order.{is_same_bytes, name_cmp}
use Rattle.je_order.specs.declared.name.Name.{Name}
use Rattle.je_order.proofs.Lists.{filter_all_pass}
use Rattle.db_catalog.specs.Catalog.{IsKind, IsRecord, db_record_in, record_bytes}
use Rattle.db_catalog.specs.Planning.{index_in_catalog, index_of_catalog, kind_in_catalog}
use Rattle.db_catalog.specs.declared.db_record.DbRecord.{DbRecord}
use Rattle.store_model.specs.declared.call.Call.{Call}
use Rattle.store_model.specs.declared.call.Call.TheVariants.{Create, CreateIndex, Remove as Removes, Rename as Renames, Truncate}
use Rattle.store_model.specs.declared.change.Change.{Change}
use Rattle.store_model.specs.declared.change.Change.TheVariants.{Make, MakeIndex, Remove, Rename, Empty}
use Rattle.store_model.specs.declared.extract.Extract.{Extract}
use Rattle.store_model.specs.declared.extract.Extract.TheVariants.{ByteSlice, Field}
use Rattle.store_model.specs.declared.index.Index.{Index}
use Rattle.store_model.specs.declared.kind.Kind.{Kind}
use Rattle.store_model.specs.declared.kind.Kind.TheVariants.{Plain, Dup}
use Rattle.store_model.specs.Evaluation.{plain_name}
use Rattle.je_answers.specs.Standing.{Standing}
use Rattle.log_replay.specs.Kept.{Fits, MayBeLogged}
use Rattle.log_replay.specs.Logging.{number_named, record_named, row_changes}
use Rattle.log_replay.specs.Rows.{IsRising, Row, RowChange, Rows, catalog_index, catalog_number, index_or_none, number_or_0, row_at, row_numbered, rows_changed, rows_with}
use Rattle.log_replay.proofs.IndexRows.{numbered_named, numbered_new, numbered_with, numbered_without}
use Rattle.log_replay.proofs.ListLaws.{all_of_map, all_weaker, none_found, none_found_in}
use Rattle.log_replay.proofs.LoggedLaws.{empty-is, fits-there, index-is, left-absent, primary_record, record_fits, record_index, record_number, record_there, rename-is, row_of_record}
use Rattle.log_replay.proofs.RowLaws.{rising-changed, set_over_unset}
use Rattle.log_replay.proofs.StoreLaws.{IsCase, IsEnvironment, catalog_cases, environment_parts, no_row_named, number_of_row, row_named}
use Rattle.txn_log.specs.Committing.{MakesStore}
use Rattle.index_map.specs.Made.{Made, index_by, made_in, with_made}
use Rattle.index_map.proofs.Changes.{alike}
use Rattle.db_names.specs.Names.{Names, names_in, with_name}
use Rattle.engine.specs.declared.kept.Kept.{Kept}
use Rattle.environment.specs.Catalog.{FollowMaps, made_logged, names_logged}
use Rattle.environment.specs.Valid.{KnowsDatabases, made_at, name_at}
use Rattle.environment.proofs.Databases.{made_is, name_is}

-- the change that a call of the catalog makes
abbrev pub IsChangeOf : Call → Change → Type 0
IsChangeOf (Create db kind) change = change ≡ Make db kind
IsChangeOf (CreateIndex db index) change = change ≡ MakeIndex db index
IsChangeOf (Removes db) change = change ≡ Remove db
IsChangeOf (Renames db to) change = change ≡ Rename db to
IsChangeOf (Truncate db) change = change ≡ Empty db
IsChangeOf call change = ⊥

-- what is emptied is no index
abbrev pub IsPlainFor : Made → (List ℕ → ℕ) → Call → Type 0
IsPlainFor made numbers (Truncate db) = made (numbers db) ≡ None
IsPlainFor made numbers call = Unit {0}

-- ---- the record of a number in a catalog with a record more, or less

-- one with a number of its own
pub numbered_put : (n : ℕ) (at : Name) (bytes : List ℕ) (catalog : List Row) → IsRising catalog → row_at at catalog ≡ None → row_numbered (catalog_number bytes) catalog ≡ None →
    row_numbered n (rows_with at (Some bytes) catalog) ≡ cond (catalog_number bytes == n) (Some (at, bytes)) (row_numbered n catalog)
numbered_put n at bytes catalog up absent free = by (catalog_number bytes == n) refl
  where
    others : AllByRecursion (λ (r : Row). catalog_number r.1 ≢ catalog_number bytes) catalog
    others =
        all_weaker (λ (r : Row). (catalog_number r.1 == catalog_number bytes) ≡ false) (λ r. catalog_number r.1 ≢ catalog_number bytes) (λ r h. eqb-false (catalog_number r.1) (catalog_number bytes) h) catalog
        (none_found (λ (r : Row). catalog_number r.1 == catalog_number bytes) catalog free)

    by : (b : Bool) → (catalog_number bytes == n) ≡ b → row_numbered n (rows_with at (Some bytes) catalog) ≡ cond b (Some (at, bytes)) (row_numbered n catalog)
    by true e =
        let is : catalog_number bytes ≡ n = eqb-true (catalog_number bytes) n e in
        numbered_new n at bytes catalog is (subst (λ (m : ℕ). AllByRecursion (λ (r : Row). catalog_number r.1 ≢ m) catalog) is others)
    by false e = numbered_with n at bytes catalog up absent (eqb-false (catalog_number bytes) n e)

abbrev others_of : List ℕ → Row → Bool
others_of name r = not (is_eq (name_cmp r.0 (plain_name name)))

-- without the record of a name its number has none
numbered_gone : (name : List ℕ) (row : Row) (catalog : List Row) → AllByRecursion (IsCase name row) catalog → row_numbered (catalog_number row.1) (filter (others_of name) catalog) ≡ None
numbered_gone name row [] cases = refl
numbered_gone name row (r ∷ catalog) cases =
    let number : ℕ = catalog_number row.1 in
    let rest : row_numbered number (filter (others_of name) catalog) ≡ None = numbered_gone name row catalog cases.1 in
    ⊎_elim
    (λ (one : (r ≡ row) × (is_same_bytes r.0.key name ≡ true) × (is_eq (name_cmp r.0 (plain_name name)) ≡ true)).
    ap (row_numbered number) (cond-false (others_of name r) (r ∷ filter (others_of name) catalog) (filter (others_of name) catalog) (ap not one.2)) ∙ rest)
    (λ (two : (catalog_number r.1 ≢ catalog_number row.1) × (is_same_bytes r.0.key name ≡ false) × (is_eq (name_cmp r.0 (plain_name name)) ≡ false)).
    ap (row_numbered number) (cond-true (others_of name r) (r ∷ filter (others_of name) catalog) (filter (others_of name) catalog) (ap not two.2))
    ∙ cond-false (catalog_number r.1 == number) (Some r) (row_numbered number (filter (others_of name) catalog)) (ne_eqb (catalog_number r.1) number two.0) ∙ rest)
    cases.0.1

pub numbered_left : (n : ℕ) (name : List ℕ) (row : Row) (catalog : List Row) → AllByRecursion (IsCase name row) catalog →
    row_numbered n (filter (others_of name) catalog) ≡ cond (catalog_number row.1 == n) None (row_numbered n catalog)
numbered_left n name row catalog cases = by (catalog_number row.1 == n) refl
  where
    by : (b : Bool) → (catalog_number row.1 == n) ≡ b → row_numbered n (filter (others_of name) catalog) ≡ cond b None (row_numbered n catalog)
    by true e = ap (λ (m : ℕ). row_numbered m (filter (others_of name) catalog)) (sym (eqb-true (catalog_number row.1) n e)) ∙ numbered_gone name row catalog cases
    by false e = numbered_without n name row catalog cases (eqb-false (catalog_number row.1) n e)

-- ---- names and indexes of such a catalog

cond_mapped : {X Y : Type 0} (f : X → Y) (b : Bool) (x y : X) → f (cond b x y) ≡ cond b (f x) (f y)
cond_mapped f true x y = refl
cond_mapped f false x y = refl

-- a record with this number and name comes to those of a catalog
pub record IsMore (number : ℕ) (name : List ℕ) (index : Option (ℕ × Extract)) (old new : List Row) : Type 0 where
  pub names : (n : ℕ) → names_in new n ≡ with_name number (Some name) (names_in old) n
  pub made : (n : ℕ) → made_in new n ≡ with_made number index (made_in old) n

pub more_by : (at : Name) (bytes : List ℕ) (old new : List Row) → ((n : ℕ) → row_numbered n new ≡ cond (catalog_number bytes == n) (Some (at, bytes)) (row_numbered n old)) →
    IsMore (catalog_number bytes) at.key (catalog_index bytes) old new
more_by at bytes old new is = record {
  names = λ n. ap (option_map (λ (r : Row). r.0.key)) (is n) ∙ cond_mapped (option_map (λ (r : Row). r.0.key)) (catalog_number bytes == n) (Some (at, bytes)) (row_numbered n old);
  made = λ n. ap index_by (is n) ∙ cond_mapped index_by (catalog_number bytes == n) (Some (at, bytes)) (row_numbered n old);
}

-- the record of a number goes
pub record IsLess (number : ℕ) (old new : List Row) : Type 0 where
  pub names : (n : ℕ) → names_in new n ≡ with_name number None (names_in old) n
  pub made : (n : ℕ) → made_in new n ≡ with_made number None (made_in old) n

pub less_by : (number : ℕ) (old new : List Row) → ((n : ℕ) → row_numbered n new ≡ cond (number == n) None (row_numbered n old)) → IsLess number old new
less_by number old new is = record {
  names = λ n. ap (option_map (λ (r : Row). r.0.key)) (is n) ∙ cond_mapped (option_map (λ (r : Row). r.0.key)) (number == n) None (row_numbered n old);
  made = λ n. ap index_by (is n) ∙ cond_mapped index_by (number == n) None (row_numbered n old);
}

-- ---- a catalog behind a change

-- names and indexes of a catalog follow those of another one, where these are the numbers of names there
pub record AreFollowed (numbers : List ℕ → ℕ) (last_db : ℕ) (call : Call) (old new : List Row) : Type 0 where
  pub names : (n : ℕ) → names_in new n ≡ names_logged numbers last_db call (names_in old) n
  pub made : (n : ℕ) → made_in new n ≡ made_logged numbers last_db call (made_in old) n

same_without : {X : Type 0} (number n : ℕ) (f : ℕ → Option X) → f number ≡ None → cond (number == n) None (f n) ≡ f n
same_without number n f none = by (number == n) refl
  where
    by : (b : Bool) → (number == n) ≡ b → cond b None (f n) ≡ f n
    by true e = sym (ap f (sym (eqb-true number n e)) ∙ none)
    by false e = refl

put_over : {X : Type 0} (number n : ℕ) (x : Option X) (f : ℕ → Option X) → cond (number == n) x (cond (number == n) None (f n)) ≡ cond (number == n) x (f n)
put_over number n x f = by (number == n)
  where
    by : (b : Bool) → cond b x (cond b None (f n)) ≡ cond b x (f n)
    by true = refl
    by false = refl

same_put : {X : Type 0} (number n : ℕ) (x : Option X) (f : ℕ → Option X) → f number ≡ x → cond (number == n) x (f n) ≡ f n
same_put number n x f is = by (number == n) refl
  where
    by : (b : Bool) → (number == n) ≡ b → cond b x (f n) ≡ f n
    by true e = sym is ∙ ap f (eqb-true number n e)
    by false e = refl

index_back : (primary : ℕ) (extract : Extract) → index_of_catalog (index_in_catalog primary extract) ≡ Some (primary, extract)
index_back primary (ByteSlice offset len) = refl
index_back primary (Field number separator) = refl

module _ (rows : Rows) (last_db : ℕ) (st : Standing) (makes : MakesStore rows last_db st) where
  env : IsEnvironment rows
  env = environment_parts rows makes.environment

  up : IsRising (rows 0)
  up = makes.rising 0

  -- a later number than the last one has no record
  pub free_number : (n : ℕ) → last_db < n → row_numbered n (rows 0) ≡ None
  free_number n later =
      none_found_in (λ (r : Row). catalog_number r.1 == n) (rows 0)
      (all_weaker (λ (r : Row). catalog_number r.1 ≤ last_db) (λ r. (catalog_number r.1 == n) ≡ false) (λ r le. ne_eqb (catalog_number r.1) n (λ e. absurd (omega (arith, e, le, later)))) (rows 0)
      (all_of_map number_of_row (λ n. n ≤ last_db) (rows 0) makes.numbers))

  abbrev taken_out : List ℕ → List Row
  taken_out db = filter (others_of db) (rows 0)

  -- a database is made
  make_more : (db : List ℕ) (r : DbRecord) → IsRecord r → r.number ≡ last_db + 1 → number_named rows db ≡ 0 → IsMore (last_db + 1) db (index_of_catalog r.kind) (rows 0) (rows_with (plain_name db) (Some (record_bytes r)) (rows 0))
  make_more db r fits is free =
      let number : catalog_number (record_bytes r) ≡ last_db + 1 = record_number r fits ∙ is in
      let more = more_by (plain_name db) (record_bytes r) (rows 0) (rows_with (plain_name db) (Some (record_bytes r)) (rows 0))
      (λ n. numbered_put n (plain_name db) (record_bytes r) (rows 0) up (no_row_named rows db env free) (free_number (catalog_number (record_bytes r)) (omega (arith, number)))) in
      subst (λ (x : Option (ℕ × Extract)). IsMore (last_db + 1) db x (rows 0) (rows_with (plain_name db) (Some (record_bytes r)) (rows 0))) (record_index r fits)
      (subst (λ (n : ℕ). IsMore n db (catalog_index (record_bytes r)) (rows 0) (rows_with (plain_name db) (Some (record_bytes r)) (rows 0))) number more)

  followed_make : (db : List ℕ) (kind : Kind) → MayBeLogged rows last_db (Make db kind) → AreFollowed (number_named rows) last_db (Create db kind) (rows 0) (rows_changed (row_changes 0 last_db (Make db kind) rows) rows 0)
  followed_make db kind may =
      let more = make_more db (record { number = last_db + 1; kind = kind_in_catalog kind }) (record_fits (last_db + 1) kind may.3) refl may.0 in
      record {
        names = more.names;
        made = λ n.
            more.made n ∙ ap (λ (x : Option (ℕ × Extract)). with_made (last_db + 1) x (made_in (rows 0)) n) (no_index kind)
            ∙ same_without (last_db + 1) n (made_in (rows 0)) (ap index_by (free_number (last_db + 1) (omega arith)));
      }
    where
      no_index : (k : Kind) → index_of_catalog (kind_in_catalog k) ≡ None
      no_index Plain = refl
      no_index Dup = refl

  -- an index is made
  followed_index : (db : List ℕ) (index : Index) → MayBeLogged rows last_db (MakeIndex db index) →
      AreFollowed (number_named rows) last_db (CreateIndex db index) (rows 0) (rows_changed (row_changes 0 last_db (MakeIndex db index) rows) rows 0)
  followed_index db index may =
      let p = primary_record (record_named rows index.primary) may.4 in
      let r : DbRecord = record { number = last_db + 1; kind = index_in_catalog p.0.number index.extract } in
      let number_is : number_named rows index.primary ≡ p.0.number = ap number_or_0 p.1 in
      let fits : IsRecord r = (may.3, subst (λ (n : ℕ). IsKind (index_in_catalog n index.extract)) number_is may.5) in
      let more = make_more db r fits refl may.0 in
      subst (λ (l : List RowChange). AreFollowed (number_named rows) last_db (CreateIndex db index) (rows 0) (rows_changed l rows 0)) (sym (index-is 0 last_db db index rows p.0 p.1)) (record {
        names = more.names;
        made = λ n.
            more.made n
            ∙ ap (λ (x : Option (ℕ × Extract)). with_made (last_db + 1) x (made_in (rows 0)) n) (index_back p.0.number index.extract ∙ ap (λ (m : ℕ). Some (m, index.extract)) (sym number_is));
      })

  -- one is removed
  followed_remove : (db : List ℕ) → MayBeLogged rows last_db (Remove db) → AreFollowed (number_named rows) last_db (Removes db) (rows 0) (rows_changed (row_changes 0 last_db (Remove db) rows) rows 0)
  followed_remove db may =
      let row = row_named rows db may.0 in
      let less = less_by (catalog_number row.0.1) (rows 0) (taken_out db) (λ n. numbered_left n db row.0 (rows 0) (catalog_cases rows db row.0 env up row.1)) in
      let same = subst (λ (n : ℕ). IsLess n (rows 0) (taken_out db)) row.2 less in
      record { names = same.names; made = same.made }

  -- the record of a name, where there is one
  pub record NamedRow (db : List ℕ) (r : DbRecord) : Type 0 where
    pub row : Row
    pub at : row_at (plain_name db) (rows 0) ≡ Some row
    pub is : db_record_in row.1 ≡ Some r
    pub number : catalog_number row.1 ≡ number_named rows db
    pub fits : IsRecord r
    pub less : IsLess (number_named rows db) (rows 0) (taken_out db)
    pub gone : row_numbered (number_named rows db) (taken_out db) ≡ None
    pub made : made_in (rows 0) (number_named rows db) ≡ index_of_catalog r.kind

  named_record : (db : List ℕ) (r : DbRecord) → record_named rows db ≡ Some r → Fits (record_named rows db) → NamedRow db r
  named_record db r is fits =
      let row = row_of_record rows db r is in
      let cases = catalog_cases rows db row.0 env up row.1 in
      let number : catalog_number row.0.1 ≡ number_named rows db = ap number_or_0 (row.2 ∙ sym is) in
      record {
        row = row.0;
        at = row.1;
        is = row.2;
        number = number;
        fits = fits-there (record_named rows db) r is fits;
        less = subst (λ (n : ℕ). IsLess n (rows 0) (taken_out db)) number (less_by (catalog_number row.0.1) (rows 0) (taken_out db) (λ n. numbered_left n db row.0 (rows 0) cases));
        gone = ap (λ (n : ℕ). row_numbered n (taken_out db)) (sym number) ∙ numbered_gone db row.0 (rows 0) cases;
        made = ap (made_in (rows 0)) (sym number) ∙ ap index_by (numbered_named db row.0 (rows 0) cases row.1) ∙ ap index_or_none row.2;
      }

  -- it comes again under another name or number
  put_again : (db to : List ℕ) (r again : DbRecord) (named : NamedRow db r) → IsRecord again → row_at (plain_name to) (taken_out db) ≡ None → row_numbered again.number (taken_out db) ≡ None →
      IsMore again.number to (index_of_catalog again.kind) (taken_out db) (rows_with (plain_name to) (Some (record_bytes again)) (taken_out db))
  put_again db to r again named fits absent free =
      let number : catalog_number (record_bytes again) ≡ again.number = record_number again fits in
      let new : List Row = rows_with (plain_name to) (Some (record_bytes again)) (taken_out db) in
      let more = more_by (plain_name to) (record_bytes again) (taken_out db) new
      (λ n. numbered_put n (plain_name to) (record_bytes again) (taken_out db) (rising-changed (rows 0) (plain_name db) None up) absent (ap (λ (m : ℕ). row_numbered m (taken_out db)) number ∙ free)) in
      subst (λ (x : Option (ℕ × Extract)). IsMore again.number to x (taken_out db) new) (record_index again fits)
      (subst (λ (n : ℕ). IsMore n to (catalog_index (record_bytes again)) (taken_out db) new) number more)

  -- one is renamed
  followed_rename : (db to : List ℕ) → MayBeLogged rows last_db (Rename db to) → AreFollowed (number_named rows) last_db (Renames db to) (rows 0) (rows_changed (row_changes 0 last_db (Rename db to) rows) rows 0)
  followed_rename db to may =
      let there = record_there (record_named rows db) may.0 in
      let r : DbRecord = there.0 in
      let named = named_record db r there.1 may.3 in
      let number : r.number ≡ number_named rows db = sym (ap number_or_0 there.1) in
      let num : ℕ = number_named rows db in
      let free : row_numbered r.number (taken_out db) ≡ None = ap (λ (m : ℕ). row_numbered m (taken_out db)) number ∙ named.gone in
      let put = put_again db to r r named named.fits (left-absent db to (rows 0) (no_row_named rows to env may.1)) free in
      let more = subst (λ (n : ℕ). IsMore n to (index_of_catalog r.kind) (taken_out db) (rows_with (plain_name to) (Some (record_bytes r)) (taken_out db))) number put in
      subst (λ (l : List RowChange). AreFollowed (number_named rows) last_db (Renames db to) (rows 0) (rows_changed l rows 0)) (sym (rename-is 0 last_db db to rows r there.1)) (record {
        names = λ n. more.names n ∙ ap (λ (x : Option (List ℕ)). cond (num == n) (Some to) x) (named.less.names n) ∙ put_over num n (Some to) (names_in (rows 0));
        made = λ n.
            more.made n ∙ ap (λ (x : Option (ℕ × Extract)). cond (num == n) (index_of_catalog r.kind) x) (named.less.made n)
            ∙ put_over num n (index_of_catalog r.kind) (made_in (rows 0)) ∙ same_put num n (index_of_catalog r.kind) (made_in (rows 0)) named.made;
      })

  -- one is emptied, which is no index
  followed_empty : (db : List ℕ) → MayBeLogged rows last_db (Empty db) → made_in (rows 0) (number_named rows db) ≡ None →
      AreFollowed (number_named rows) last_db (Truncate db) (rows 0) (rows_changed (row_changes 0 last_db (Empty db) rows) rows 0)
  followed_empty db may plain =
      let there = record_there (record_named rows db) may.0 in
      let r : DbRecord = there.0 in
      let named = named_record db r there.1 may.2 in
      let again : DbRecord = record { number = last_db + 1; kind = r.kind } in
      let num : ℕ = number_named rows db in
      let none : index_of_catalog r.kind ≡ None = sym named.made ∙ plain in
      let new : made_in (rows 0) (last_db + 1) ≡ None = ap index_by (free_number (last_db + 1) (omega arith)) in
      let left = numbered_left (last_db + 1) db named.row (rows 0) (catalog_cases rows db named.row env up named.at) in
      let free : row_numbered (last_db + 1) (taken_out db) ≡ None = left ∙ ap (cond (catalog_number named.row.1 == last_db + 1) None) (free_number (last_db + 1) (omega arith)) ∙ both_none (catalog_number named.row.1 == last_db + 1) in
      let more = put_again db db r again named (may.1, named.fits.1) (gone_out (rows 0)) free in
      let over = set_over_unset (rows 0) (plain_name db) (record_bytes again) in
      subst (λ (l : List RowChange). AreFollowed (number_named rows) last_db (Truncate db) (rows 0) (rows_changed l rows 0)) (sym (empty-is 0 last_db db rows r there.1))
      (subst (AreFollowed (number_named rows) last_db (Truncate db) (rows 0)) over (record {
        names = λ n. more.names n ∙ ap (λ (x : Option (List ℕ)). cond (last_db + 1 == n) (Some db) x) (named.less.names n);
        made = λ n.
            more.made n
            ∙ ap₂ (λ (x y : Option (ℕ × Extract)). cond (last_db + 1 == n) x y) none (named.less.made n ∙ same_without num n (made_in (rows 0)) plain)
            ∙ same_without (last_db + 1) n (made_in (rows 0)) new;
      }))
    where
      both_none : (b : Bool) → (let o : Option Row = cond b None None in o) ≡ None
      both_none true = refl
      both_none false = refl

      gone_out : (l : List Row) → row_at (plain_name db) (filter (others_of db) l) ≡ None
      gone_out l =
          none_found_in (λ (x : Row). is_eq (name_cmp x.0 (plain_name db))) (filter (others_of db) l)
          (all_weaker (λ (x : Row). others_of db x ≡ true) (λ x. is_eq (name_cmp x.0 (plain_name db)) ≡ false) (λ x h. not-true (is_eq (name_cmp x.0 (plain_name db))) h) (filter (others_of db) l)
          (filter_all_pass (others_of db) l))

  pub followed : (call : Call) (change : Change) → IsChangeOf call change → MayBeLogged rows last_db change → IsPlainFor (made_in (rows 0)) (number_named rows) call →
      AreFollowed (number_named rows) last_db call (rows 0) (rows_changed (row_changes 0 last_db change rows) rows 0)
  followed (Create db kind) change is may plain =
      subst (λ (c : Change). AreFollowed (number_named rows) last_db (Create db kind) (rows 0) (rows_changed (row_changes 0 last_db c rows) rows 0)) (sym is) (followed_make db kind (subst (MayBeLogged rows last_db) is may))
  followed (CreateIndex db index) change is may plain =
      subst (λ (c : Change). AreFollowed (number_named rows) last_db (CreateIndex db index) (rows 0) (rows_changed (row_changes 0 last_db c rows) rows 0)) (sym is) (followed_index db index (subst (MayBeLogged rows last_db) is may))
  followed (Removes db) change is may plain =
      subst (λ (c : Change). AreFollowed (number_named rows) last_db (Removes db) (rows 0) (rows_changed (row_changes 0 last_db c rows) rows 0)) (sym is) (followed_remove db (subst (MayBeLogged rows last_db) is may))
  followed (Renames db to) change is may plain =
      subst (λ (c : Change). AreFollowed (number_named rows) last_db (Renames db to) (rows 0) (rows_changed (row_changes 0 last_db c rows) rows 0)) (sym is) (followed_rename db to (subst (MayBeLogged rows last_db) is may))
  followed (Truncate db) change is may plain =
      subst (λ (c : Change). AreFollowed (number_named rows) last_db (Truncate db) (rows 0) (rows_changed (row_changes 0 last_db c rows) rows 0)) (sym is) (followed_empty db (subst (MayBeLogged rows last_db) is may) plain)
  followed call change is may plain = absurd is

-- so it is of what an environment knows
pub known_after : (rows later : Rows) (last_db later_db : ℕ) (st after : Standing) (call : Call) (kept : Kept) → MakesStore rows last_db st → MakesStore later later_db after →
    AreFollowed (number_named rows) last_db call (rows 0) (later 0) →
    FollowMaps (names_logged st.numbers last_db call (name_at st.numbers st.store)) (made_logged st.numbers last_db call (made_at st.numbers st.store)) kept → KnowsDatabases after kept
known_after rows later last_db later_db st after call kept makes made are follow = record {
  indexes_are =
      alike (made_logged st.numbers last_db call (made_at st.numbers st.store)) (made_at after.numbers after.store) kept.indexes
      (λ n. made_is later later_db after made n ∙ are.made n ∙ ap₂ (λ (f : List ℕ → ℕ) (m : Made). made_logged f last_db call m n) numbers (sym (fun_ext (made_is rows last_db st makes)))) follow.indexes_are;
  names_are = λ n.
      follow.names_are n
      ∙ sym (name_is later later_db after made n ∙ are.names n ∙ ap₂ (λ (f : List ℕ → ℕ) (m : Names). names_logged f last_db call m n) numbers (sym (fun_ext (name_is rows last_db st makes))));
}
  where
    numbers : number_named rows ≡ st.numbers
    numbers = fun_ext makes.named
