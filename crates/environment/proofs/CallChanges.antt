-- The changes of a call that is not refused are changes that it may make, and where there are none it changes no record.
use Rattle.std.proofs.Common.{◌≡◌, ◌≢◌, ◌⊎◌, inl, inr, ◌∙◌, ◌&&◌, ◌==◌, ◌++◌, ◌≤◌, ℕ, Bool, true, false, true≢false, List, [], ◌∷◌, Option, None, Some, IfSome, length, map, flat_map, is_eq, refl, ap, ap₂, sym, subst, arith}
use Rattle.std.specs.List.{AllByRecursion}
use Rattle.std.proofs.lemmas.Bool.{eq-eqb, eqb-true}
use Rattle.std.proofs.lemmas.List.{nil_from_length}
use Rattle.je_order.specs.Order.{name_cmp}
use Rattle.je_order.specs.declared.name.Name.{Name}
use Rattle.je_order.proofs.Lists.{all_append, all_weaker}
use Rattle.node_core.proofs.NameOrder.{itself}
use Rattle.log_replay.proofs.ListLaws.{all_both, all_to_map}
use Rattle.store_model.specs.declared.change.Change.{Change}
use Rattle.store_model.specs.declared.index.Index.{Index}
use Rattle.store_model.specs.declared.kind.Kind.{Kind}
use Rattle.store_model.specs.declared.kind.Kind.TheVariants.{Plain, Dup}
use Rattle.store_model.specs.declared.record_change.RecordChange.{RecordChange}
use Rattle.store_model.specs.declared.record_change.RecordChange.TheVariants.{Set, Unset}
use Rattle.store_model.specs.declared.store.Database.{Database}
use Rattle.store_model.specs.Store.{Pair, named}
use Rattle.store_model.specs.Indexes.{Numbered, all_changes, changed_database, changed_through, changes_in, with_indexes}
use Rattle.store_model.specs.Needs.{changed_name}
use Rattle.je_answers.specs.declared.active.Active.{Active}
use Rattle.je_answers.specs.Standing.{Standing}
use Rattle.je_answers.specs.Views.{Target, changes_in as changes_in_db, changes_named, changes_with, view_in, with_names, with_numbers}
use Rattle.txn_views.specs.Seen.{is_right_change}
use Rattle.environment.specs.Access.{AreNumbersApart, AreThere, HasShortKeys, IsDbAt, IsIndexAt, IsPrimaryAt}
use Rattle.environment.specs.Changing.{AreApartIn, FitsEntry, IsRightIn, MayMake}
use Rattle.environment.proofs.BlockLaws.{AllApart, AreKeysApart, blocks_apart, blocks_of, names_differ, of_blocks}
use Rattle.environment.proofs.ChangeLaws.{Changed}
use Rattle.environment.proofs.IndexKeys.{AreOfOneKey}
use Rattle.environment.proofs.LoggableLaws.{AreLoggable, AreOneEach}

-- ---- in one database

abbrev in_db : ℕ → Database → List RecordChange → List Changed
in_db number d cs = map (λ c. ((number, d), c)) cs

each_right : (st : Standing) (number : ℕ) (d : Database) (cs : List RecordChange) → IsDbAt st (number, d) → AllByRecursion (λ c. is_right_change d.kind c ≡ true) cs → AllByRecursion (IsRightIn st) (in_db number d cs)
each_right st number d [] at right = tt
each_right st number d (c ∷ cs) at right = (record { there = at.there; named = at.named; above = at.above; right = right.0 }, each_right st number d cs at right.1)

each_fits : (number : ℕ) (d : Database) (cs : List RecordChange) → AllByRecursion FitsEntry cs → AllByRecursion (λ (c : Changed). FitsEntry c.1) (in_db number d cs)
each_fits number d [] fits = tt
each_fits number d (c ∷ cs) fits = (fits.0, each_fits number d cs fits.1)

one_apart : (number : ℕ) (d : Database) (c : RecordChange) (cs : List RecordChange) → AllByRecursion (λ e. is_eq (name_cmp (changed_name c) (changed_name e)) ≡ false) cs →
    AllByRecursion (λ (e : ℕ × RecordChange). ((number == e.0) && is_eq (name_cmp (changed_name c) (changed_name e.1))) ≡ false) (with_numbers (in_db number d cs))
one_apart number d c [] other = tt
one_apart number d c (e ∷ cs) other = (
  ap (λ (b : Bool). (number == number) && b) other.0 ∙ ap (λ (b : Bool). b && false) (eq-eqb number number refl),
  one_apart number d c cs other.1,
)

each_apart : (number : ℕ) (d : Database) (cs : List RecordChange) → AreOneEach cs → AreApartIn (with_numbers (in_db number d cs))
each_apart number d [] apart = tt
each_apart number d (c ∷ cs) apart = (one_apart number d c cs apart.0, each_apart number d cs apart.1)

-- ---- in the database that changes go to

-- changes that are right in a database of a kind and can be logged, no two of one name; in a plain one no two of one key
record AreChanges (kind : Kind) (cs : List RecordChange) : Type 0 where
  right : AllByRecursion (λ c. is_right_change kind c ≡ true) cs
  fits : AllByRecursion FitsEntry cs
  names : AreOneEach cs
  keys : kind ≡ Plain → AreKeysApart cs

no_dup : (c : RecordChange) → is_right_change Plain c ≡ true → (changed_name c).dup ≡ []
no_dup (Set at value) is = nil_from_length at.dup (eqb-true (length at.dup) 0 is)
no_dup (Unset at) is = nil_from_length at.dup (eqb-true (length at.dup) 0 is)

-- names that are apart and have no dup have keys that are apart
keys_apart : (x y : Name) → is_eq (name_cmp x y) ≡ false → x.dup ≡ [] → y.dup ≡ [] → x.key ≢ y.key
keys_apart x y apart none_x none_y same =
    true≢false (sym (ap is_eq (itself x)) ∙ ap₂ (λ (k d : List ℕ). is_eq (name_cmp x (record { key = k; dup = d }))) same (none_x ∙ sym none_y) ∙ apart)

plain_keys : (cs : List RecordChange) → AllByRecursion (λ c. is_right_change Plain c ≡ true) cs → AreOneEach cs → AreKeysApart cs
plain_keys [] right names = tt
plain_keys (c ∷ cs) right names = (
  all_both (λ (e : RecordChange). is_right_change Plain e ≡ true) (λ (e : RecordChange). is_eq (name_cmp (changed_name c) (changed_name e)) ≡ false) (λ e. (changed_name c).key ≢ (changed_name e).key)
      (λ e is other. keys_apart (changed_name c) (changed_name e) other (no_dup c right.0) (no_dup e is)) cs right.1 names.0,
  plain_keys cs right.1 names.1,
)

-- those of a database that is no index
own_changes : (kind : Kind) (cs : List RecordChange) → AllByRecursion (λ c. is_right_change kind c ≡ true) cs → AreLoggable cs → AreChanges kind cs
own_changes kind cs right loggable = record {
  right = right;
  fits = loggable.fits;
  names = loggable.apart;
  keys = λ plain. plain_keys cs (subst (λ (k : Kind). AllByRecursion (λ c. is_right_change k c ≡ true) cs) plain right) loggable.apart;
}

through_none : (cs : List RecordChange) → map (changed_through None) cs ≡ cs
through_none [] = refl
through_none (c ∷ cs) = ap (λ (l : List RecordChange). c ∷ l) (through_none cs)

-- those through an index take the primary's records out
name_fits : (c : RecordChange) → FitsEntry c → length (changed_name c).dup ≤ 4096
name_fits (Set at value) fits = fits.0.1
name_fits (Unset at) fits = fits.1

abbrev taken_of : RecordChange → RecordChange
taken_of c = Unset (named (changed_name c).dup [])

taken_right : (kind : Kind) (cs : List RecordChange) → kind ≡ Plain → AllByRecursion (λ c. is_right_change kind c ≡ true) (map taken_of cs)
taken_right kind [] plain = tt
taken_right kind (c ∷ cs) plain = (ap (λ (k : Kind). is_right_change k (taken_of c)) plain, taken_right kind cs plain)

taken_fits : (cs : List RecordChange) → AllByRecursion FitsEntry cs → AllByRecursion FitsEntry (map taken_of cs)
taken_fits [] fits = tt
taken_fits (c ∷ cs) fits = ((name_fits c fits.0, omega arith), taken_fits cs fits.1)

-- names that are apart and of one key have dups that are apart
dups_apart : (x y : Name) → is_eq (name_cmp x y) ≡ false → x.key ≡ y.key → x.dup ≢ y.dup
dups_apart x y apart keys same =
    true≢false (sym (ap is_eq (itself x)) ∙ ap₂ (λ (k d : List ℕ). is_eq (name_cmp x (record { key = k; dup = d }))) keys same ∙ apart)

taken_keys : (key : List ℕ) (cs : List RecordChange) → AllByRecursion (λ c. (changed_name c).key ≡ key) cs → AreOneEach cs → AreKeysApart (map taken_of cs)
taken_keys key [] one names = tt
taken_keys key (c ∷ cs) one names = (
  all_to_map taken_of (λ (e : RecordChange). (changed_name (taken_of c)).key ≢ (changed_name e).key) cs
      (all_both (λ (e : RecordChange). (changed_name e).key ≡ key) (λ (e : RecordChange). is_eq (name_cmp (changed_name c) (changed_name e)) ≡ false) (λ e. (changed_name c).dup ≢ (changed_name e).dup)
      (λ e is other. dups_apart (changed_name c) (changed_name e) other (one.0 ∙ sym is)) cs one.1 names.0),
  taken_keys key cs one.1 names.1,
)

names_by_keys : (cs : List RecordChange) → AreKeysApart cs → AreOneEach cs
names_by_keys [] keys = tt
names_by_keys (c ∷ cs) keys = (
  all_weaker (λ (e : RecordChange). (changed_name c).key ≢ (changed_name e).key) (λ e. is_eq (name_cmp (changed_name c) (changed_name e)) ≡ false)
      (λ e other. names_differ (changed_name c) (changed_name e) (λ same. other (ap (λ (n : Name). n.key) same))) cs keys.0,
  names_by_keys cs keys.1,
)

taken_changes : (kind : Kind) (cs : List RecordChange) → kind ≡ Plain → AreLoggable cs → AreOfOneKey cs → AreChanges kind (map taken_of cs)
taken_changes kind cs plain loggable one =
    let keys : AreKeysApart (map taken_of cs) = taken_keys one.key cs one.each loggable.apart in
    record { right = taken_right kind cs plain; fits = taken_fits cs loggable.fits; names = names_by_keys (map taken_of cs) keys; keys = λ is. keys }

changes_through : (st : Standing) (g : Target) (over : Option Numbered) (d : Numbered) (cs : List RecordChange) → IfSome over (IsPrimaryAt st g) → AllByRecursion (λ c. is_right_change d.1.kind c ≡ true) cs → AreLoggable cs →
    IfSome over (λ p. AreOfOneKey cs) → AreChanges (changed_database over d).1.kind (map (changed_through over) cs)
changes_through st g None d cs primary right loggable one = subst (AreChanges d.1.kind) (sym (through_none cs)) (own_changes d.1.kind cs right loggable)
changes_through st g (Some p) d cs primary right loggable one = taken_changes p.1.kind cs primary.kind loggable one

-- ---- in those of a target

all_blocks : (over : Option Numbered) (d : Numbered) (indexes : List Numbered) (see : Numbered → List Pair) (cs : List RecordChange) →
    all_changes over d indexes see cs ≡ blocks_of (changed_database over d) indexes (see (changed_database over d)) (map (changed_through over) cs)
all_blocks over d indexes see [] = refl
all_blocks over d indexes see (c ∷ cs) =
    ap (λ (l : List Changed). with_indexes (changed_database over d) indexes (see (changed_database over d)) (changed_through over c) ++ l) (all_blocks over d indexes see cs)

blocks_alone : (d : Numbered) (records : List Pair) (cs : List RecordChange) → blocks_of d [] records cs ≡ in_db d.0 d.1 cs
blocks_alone d records [] = refl
blocks_alone d records (c ∷ cs) = ap (λ (l : List Changed). (d, c) ∷ l) (blocks_alone d records cs)

apart_numbers : (cs : List Changed) → AllApart cs → AreApartIn (with_numbers cs)
apart_numbers [] apart = tt
apart_numbers (c ∷ cs) apart = (
  all_to_map (λ (x : Changed). (x.0.0, x.1)) (λ (e : ℕ × RecordChange). ((c.0.0 == e.0) && is_eq (name_cmp (changed_name c.1) (changed_name e.1))) ≡ false) cs apart.0,
  apart_numbers cs apart.1,
)

key_low : (c : RecordChange) → FitsEntry c → length (changed_name c).key ≤ 4096
key_low (Set at value) fits = fits.0.0
key_low (Unset at) fits = fits.0

each_own : (st : Standing) (d : Numbered) (cs : List RecordChange) → IsDbAt st d → AllByRecursion (λ c. is_right_change d.1.kind c ≡ true) cs → AllByRecursion (λ c. IsRightIn st (d, c)) cs
each_own st d cs at right =
    all_weaker (λ (c : RecordChange). is_right_change d.1.kind c ≡ true) (λ c. IsRightIn st (d, c)) (λ c is. record { there = at.there; named = at.named; above = at.above; right = is }) cs right

module _ (st : Standing) (d : Numbered) (indexes : List Numbered) (records : List Pair) (cs : List RecordChange) (at : IsDbAt st d) (are : AreChanges d.1.kind cs) where
  -- without indexes
  make_alone : indexes ≡ [] → MayMake st (blocks_of d indexes records cs)
  make_alone none =
      subst (λ (is : List Numbered). MayMake st (blocks_of d is records cs)) (sym none)
      (subst (MayMake st) (sym (blocks_alone d records cs)) (record {
        right = each_right st d.0 d.1 cs at are.right;
        fits = each_fits d.0 d.1 cs are.fits;
        apart = each_apart d.0 d.1 cs are.names;
      }))

  -- and with indexes
  make_indexed : AllByRecursion (IsIndexAt st) indexes → AreNumbersApart (d ∷ indexes) → d.1.kind ≡ Plain → MayMake st (blocks_of d indexes records cs)
  make_indexed all apart plain =
      let few : AllByRecursion (λ (i : Numbered). IfSome i.1.index (λ j. HasShortKeys j.extract)) indexes =
      all_weaker (IsIndexAt st) (λ (i : Numbered). IfSome i.1.index (λ j. HasShortKeys j.extract)) (λ i is. is.keys) indexes all in
      let low : AllByRecursion (λ (e : RecordChange). length (changed_name e).key ≤ 4096) cs = all_weaker FitsEntry (λ e. length (changed_name e).key ≤ 4096) key_low cs are.fits in
      record {
        right = of_blocks d indexes records apart few (IsIndexAt st) (IsRightIn st)
            (λ i c x is pair. record { there = is.at.there; named = is.at.named; above = is.at.above; right = ap (λ (k : Kind). is_right_change k x) is.kind ∙ pair.right }) all cs low (each_own st d cs at are.right);
        fits = of_blocks d indexes records apart few (IsIndexAt st) (λ (y : Changed). FitsEntry y.1) (λ i c x is pair. pair.fits) all cs low are.fits;
        apart = apart_numbers (blocks_of d indexes records cs) (blocks_apart d indexes records apart few cs low are.names (are.keys plain));
      }

  make_either : AllByRecursion (IsIndexAt st) indexes → AreNumbersApart (d ∷ indexes) → (d.1.kind ≡ Plain) ⊎ (indexes ≡ []) → MayMake st (blocks_of d indexes records cs)
  make_either all apart (inl plain) = make_indexed all apart plain
  make_either all apart (inr none) = make_alone none

primary_at : (st : Standing) (g : Target) (over : Option Numbered) (d : Numbered) → IsDbAt st d → IfSome over (IsPrimaryAt st g) → IsDbAt st (changed_database over d)
primary_at st g None d own primary = own
primary_at st g (Some p) d own primary = primary.at

-- the changes that a call may make, of which those through an index are of one key
pub may_make : (st : Standing) (a : Active) (g : Target) (cs : List RecordChange) → AreThere st g → AllByRecursion (λ c. is_right_change g.database.kind c ≡ true) cs → AreLoggable cs →
    IfSome g.over (λ p. AreOfOneKey cs) → MayMake st (changes_with st a g cs)
may_make st a g cs there right loggable one =
    let d : Numbered = (g.db, g.database) in
    subst (MayMake st) (sym (all_blocks g.over d g.indexes (view_in st a) cs))
    (make_either st (changed_database g.over d) g.indexes (view_in st a (changed_database g.over d)) (map (changed_through g.over) cs) (primary_at st g g.over d there.own there.over)
    (changes_through st g g.over d cs there.over right loggable one) there.indexes there.apart there.plain)

-- where an index does not refuse a call
pub one_key : (st : Standing) (g : Target) (over : Option Numbered) (cs : List RecordChange) → IfSome over (IsPrimaryAt st g) → ((i : Index) → g.database.index ≡ Some i → g.database.kind ≡ Dup → AreOfOneKey cs) →
    IfSome over (λ p. AreOfOneKey cs)
one_key st g None cs primary each = tt
one_key st g (Some p) cs primary each = each primary.index.0 primary.index.1 primary.own

-- ---- their databases

in_one : (st : Standing) (d : Numbered) (cs : List RecordChange) → IsDbAt st d → AllByRecursion (λ (c : Changed). IsDbAt st c.0) (map (λ c. (d, c)) cs)
in_one st d [] at = tt
in_one st d (c ∷ cs) at = (at, in_one st d cs at)

in_indexes : (st : Standing) (indexes : List Numbered) (records : List Pair) (c : RecordChange) → AllByRecursion (IsDbAt st) indexes →
    AllByRecursion (λ (x : Changed). IsDbAt st x.0) (flat_map (λ i. map (λ x. (i, x)) (changes_in i.1.index records c)) indexes)
in_indexes st [] records c all = tt
in_indexes st (i ∷ indexes) records c all =
    all_append (λ (x : Changed). IsDbAt st x.0) (map (λ x. (i, x)) (changes_in i.1.index records c)) (flat_map (λ j. map (λ x. (j, x)) (changes_in j.1.index records c)) indexes)
    (in_one st i (changes_in i.1.index records c) all.0) (in_indexes st indexes records c all.1)

in_all : (st : Standing) (over : Option Numbered) (d : Numbered) (indexes : List Numbered) (see : Numbered → List Pair) (cs : List RecordChange) → IsDbAt st (changed_database over d) → AllByRecursion (IsDbAt st) indexes →
    AllByRecursion (λ (c : Changed). IsDbAt st c.0) (all_changes over d indexes see cs)
in_all st over d indexes see [] own all = tt
in_all st over d indexes see (c ∷ cs) own all =
    all_append (λ (x : Changed). IsDbAt st x.0) (with_indexes (changed_database over d) indexes (see (changed_database over d)) (changed_through over c)) (all_changes over d indexes see cs)
    (own, in_indexes st indexes (see (changed_database over d)) (changed_through over c) all) (in_all st over d indexes see cs own all)

-- each change is in a database of the store
pub all_in : (st : Standing) (a : Active) (g : Target) (cs : List RecordChange) → AreThere st g → AllByRecursion (λ (c : Changed). IsDbAt st c.0) (changes_with st a g cs)
all_in st a g cs there = in_all st g.over (g.db, g.database) g.indexes (view_in st a) cs (primary_at st g g.over (g.db, g.database) there.own there.over) (all_weaker (IsIndexAt st) (IsDbAt st) (λ i is. is.at) g.indexes there.indexes)

-- so by their numbers they are the same changes of the store
pub names_in : (st : Standing) (cs : List Changed) → AllByRecursion (λ (c : Changed). IsDbAt st c.0) cs → changes_named st (with_numbers cs) ≡ with_names cs
names_in st [] all = refl
names_in st (c ∷ cs) all = ap₂ (λ (o : Option Database) (l : List Change). changes_in_db o c.1 ++ l) all.0.there (names_in st cs all.1)

-- ---- none

-- where nothing comes of changes there are none
pub none_changed : (st : Standing) (a : Active) (g : Target) (cs : List RecordChange) → with_numbers (changes_with st a g cs) ≡ [] → cs ≡ []
none_changed st a g [] is = refl
none_changed st a g (c ∷ cs) is = absurd cc

-- and the other way round
pub some_changed : (st : Standing) (a : Active) (g : Target) (cs : List RecordChange) → (with_numbers (changes_with st a g cs) ≡ [] → ⊥) → (cs ≡ [] → ⊥)
some_changed st a g cs some is = some (ap (λ (l : List RecordChange). with_numbers (changes_with st a g l)) is)

-- those with their numbers are some where there are some
pub some_numbers : (cs : List Changed) → (with_numbers cs ≡ [] → ⊥) → (cs ≡ [] → ⊥)
some_numbers cs some is = some (ap with_numbers is)
