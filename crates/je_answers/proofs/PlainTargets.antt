-- What a call is on where the store has no index: it changes, locks and answers there as evaluation says, and nowhere else.
use Rattle.std.proofs.Common.{◌≡◌, ℕ, List, [], ◌∷◌, ◌++◌, Option, None, Some, map, flat_map, refl, ap, ap₂, ◌∙◌, subst}
use Rattle.std.specs.Prelude.{option_map, find, ◌==◌, unwrap_or, option_to_list}
use Rattle.std.proofs.lemmas.List.{append-nil}
use Rattle.std.proofs.lemmas.Option.{none-some, same_Some}
use Rattle.je_order.specs.declared.name.Name.{Name}
use Rattle.store_model.specs.declared.store.Store.{Store}
use Rattle.store_model.specs.declared.store.Database.{Database}
use Rattle.store_model.specs.declared.index.Index.{Index}
use Rattle.store_model.specs.declared.isolation.Isolation.{Isolation}
use Rattle.store_model.specs.declared.call.Call.{Call}
use Rattle.store_model.specs.declared.call.Call.TheVariants.{Put, CPutCur, CPut}
use Rattle.store_model.specs.declared.change.Change.{Change}
use Rattle.store_model.specs.declared.record_change.RecordChange.{RecordChange}
use Rattle.store_model.specs.declared.answer.Answer.{Answer}
use Rattle.store_model.specs.declared.place.Place.{Place}
use Rattle.store_model.specs.declared.need.Need.{Need}
use Rattle.store_model.specs.Store.{Pair, database_of, change_in}
use Rattle.store_model.specs.Records.{Evaluated, evaluation}
use Rattle.store_model.specs.Reads.{seen, passed_to}
use Rattle.store_model.specs.Records.{look_of, early_of, conclude}
use Rattle.store_model.specs.Needs.{Part, part_of, part_needs, ends, needs_unless, needs_of, record_needs, change_needs, write_needs, needs_through}
use Rattle.store_model.specs.Indexes.{HasNoIndex, Numbered, records_name, all_changes, answer_through}
use Rattle.store_model.specs.Refusals.{or_refusal, index_refusal, database_refuses}
use Rattle.store_model.proofs.StoreLaws.{found}
use Rattle.store_model.proofs.NoIndex.{found_no_index, no_indexes_of, no_primary_of}
use Rattle.je_answers.specs.declared.active.Active.{Active}
use Rattle.je_answers.specs.Standing.{Standing, place_at, database_at}
use Rattle.je_answers.specs.Views.{Target, IsPlain, target, named_target, target_at, cursor_target, view_in, view_of, changes_with, with_numbers, with_names, changes_on, changes_at, occupied_in, occupied, answered_with, outcome_of, needs_in, database_among}
use Rattle.je_answers.specs.Refusals.{target_refusal}
use Rattle.je_answers.specs.Events.{lock_target}

-- ---- targets

pub made_plain : (numbers : List ℕ → ℕ) (store : Store) (number : ℕ) (at : Option Name) (d : Database) → HasNoIndex store → d.index ≡ None →
    IsPlain (target numbers store number at d)
made_plain numbers store number at d none is = record {
  index = is;
  over = no_primary_of numbers store d is;
  indexes = no_indexes_of numbers store (records_name d) none;
}

plain_if : (numbers : List ℕ → ℕ) (store : Store) (number : ℕ) (at : Option Name) (o : Option Database) (g : Target) → HasNoIndex store →
    ((d : Database) → o ≡ Some d → d.index ≡ None) → option_map (target numbers store number at) o ≡ Some g → IsPlain g
plain_if numbers store number at None g none each is = absurd (none-some g is)
plain_if numbers store number at (Some d) g none each is =
    subst IsPlain (same_Some (target numbers store number at d) g is) (made_plain numbers store number at d none (each d refl))

named_plain : (st : Standing) (db : List ℕ) (g : Target) → HasNoIndex st.store → named_target st db ≡ Some g → IsPlain g
named_plain st db g none = plain_if st.numbers st.store (st.numbers db) None (database_of db st.store) g none (λ d is. found_no_index db st.store d none is)

at_plain : (st : Standing) (o : Option Place) (g : Target) → HasNoIndex st.store → target_at st o ≡ Some g → IsPlain g
at_plain st None g none is = absurd (none-some g is)
at_plain st (Some place) g none is =
    plain_if st.numbers st.store place.db place.at (database_at place.db st) g none
    (λ d there. found (λ (e : Database). e.index ≡ None) (λ e. st.numbers e.name == place.db) st.store.databases d there none) is

cursor_plain : (st : Standing) (session cursor : ℕ) (g : Target) → HasNoIndex st.store → cursor_target st session cursor ≡ Some g → IsPlain g
cursor_plain st session cursor g none is = at_plain st (place_at cursor (st.places session)) g none is

nothing : (g : Target) → None ≡ Some g → IsPlain g
nothing g is = absurd (none-some g is)

-- ---- changes

pub only_there : (d : Numbered) (see : Numbered → List Pair) (changes : List RecordChange) → all_changes None d [] see changes ≡ map (λ c. (d, c)) changes
only_there d see [] = refl
only_there d see (change ∷ changes) = ap (λ (cs : List (Numbered × RecordChange)). (d, change) ∷ cs) (only_there d see changes)

pub same_all : (over : Option Numbered) (d : Numbered) (indexes : List Numbered) (see : Numbered → List Pair) (changes : List RecordChange) → over ≡ None → indexes ≡ [] →
    all_changes over d indexes see changes ≡ map (λ c. (d, c)) changes
same_all over d indexes see changes o i = ap₂ (λ (x : Option Numbered) (y : List Numbered). all_changes x d y see changes) o i ∙ only_there d see changes

-- what a call changes is in its database
pub plain_changes : (st : Standing) (a : Active) (g : Target) (changes : List RecordChange) → IsPlain g →
    changes_with st a g changes ≡ map (λ c. ((g.db, g.database), c)) changes
plain_changes st a g changes plain = same_all g.over (g.db, g.database) g.indexes (view_in st a) changes plain.over plain.indexes

pub numbers_there : (d : Numbered) (changes : List RecordChange) → with_numbers (map (λ c. (d, c)) changes) ≡ changes_at d.0 changes
numbers_there d [] = refl
numbers_there d (change ∷ changes) = ap (λ (cs : List (ℕ × RecordChange)). (d.0, change) ∷ cs) (numbers_there d changes)

pub plain_numbers : (st : Standing) (a : Active) (g : Target) (changes : List RecordChange) → IsPlain g → with_numbers (changes_with st a g changes) ≡ changes_at g.db changes
plain_numbers st a g changes plain = ap with_numbers (plain_changes st a g changes plain) ∙ numbers_there (g.db, g.database) changes

pub names_there : (g : Target) (changes : List RecordChange) → with_names (map (λ c. ((g.db, g.database), c)) changes) ≡ changes_on g changes
names_there g [] = refl
names_there g (change ∷ changes) = ap (λ (cs : List Change). change_in g.database.name change ∷ cs) (names_there g changes)

pub plain_names : (st : Standing) (a : Active) (g : Target) (changes : List RecordChange) → IsPlain g → with_names (changes_with st a g changes) ≡ changes_on g changes
plain_names st a g changes plain = ap with_names (plain_changes st a g changes plain) ∙ names_there g changes

-- ---- outcomes

pub as_evaluated : (over : Option Numbered) (see : Numbered → List Pair) (e : Evaluated) → over ≡ None → answered_with (answer_through over see e.answer) e ≡ e
as_evaluated over see e is = ap (λ (o : Option Numbered). answered_with (answer_through o see e.answer) e) is

pub plain_outcome : (st : Standing) (a : Active) (call : Call) (g : Target) → IsPlain g → outcome_of st a call g ≡ evaluation g.database.kind call g.at (view_of st a g)
plain_outcome st a call g plain = as_evaluated g.over (view_in st a) (evaluation g.database.kind call g.at (view_of st a g)) plain.over

-- ---- needs

pub no_record_needs : (p : Option Part) (answer : Answer) → record_needs p None answer ≡ []
no_record_needs None answer = refl
no_record_needs (Some p) answer = refl

pub needs_there : (level : Isolation) (d : Numbered) (see : Numbered → List Pair) (occupied_names : Numbered → List Name) (changes : List RecordChange) →
    flat_map (change_needs level see occupied_names) (all_changes None d [] see changes) ≡ flat_map (write_needs level d.0 d.1.kind (see d) (occupied_names d)) changes
needs_there level d see occupied_names [] = refl
needs_there level d see occupied_names (change ∷ changes) =
    ap (λ (ns : List Need). write_needs level d.0 d.1.kind (see d) (occupied_names d) change ++ ns) (needs_there level d see occupied_names changes)

pub through_none : (level : Isolation) (d : Numbered) (see : Numbered → List Pair) (occupied_names : Numbered → List Name) (call : Call) (at : Option Name) →
    needs_through level None d [] see occupied_names call at ≡ needs_of level d.0 d.1.kind call at (see d) (occupied_names d)
through_none level d see occupied_names call at =
    let kind = d.1.kind in
    let pairs = see d in
    let l = look_of kind call at in
    let taken = seen kind l.way l.range pairs in
    let evaluated = conclude kind call at taken in
    let first : List Need = part_needs d.0 (part_of level call) (passed_to kind l.way l.range taken) (ends l.way evaluated.answered taken) (occupied_names d) in
    ap₂ (λ (x y : List Need). needs_unless (early_of kind call at pairs) (first ++ x ++ y)) (no_record_needs (part_of level call) evaluated.answer)
    (needs_there level d see occupied_names evaluated.changes)
    ∙ ap (λ (x : List Need). needs_unless (early_of kind call at pairs) (x ++ flat_map (write_needs level d.0 kind pairs (occupied_names d)) evaluated.changes)) (append-nil first)

pub plain_needs : (st : Standing) (a : Active) (call : Call) (g : Target) → IsPlain g →
    needs_in st a call g ≡ needs_of a.level g.db g.database.kind call g.at (view_of st a g) (occupied st g)
plain_needs st a call g plain =
    ap₂ (λ (x : Option Numbered) (y : List Numbered). needs_through a.level x (g.db, g.database) y (view_in st a) (occupied_in st) call g.at) plain.over plain.indexes
    ∙ through_none a.level (g.db, g.database) (view_in st a) (occupied_in st) call g.at

-- what is waited for is in its database
among_none : (over : Option Numbered) (indexes : List Numbered) (database : Database) (number : ℕ) → over ≡ None → indexes ≡ [] →
    unwrap_or (option_map (λ d. d.1) (find (λ d. d.0 == number) (option_to_list over ++ indexes))) database ≡ database
among_none over indexes database number o i =
    ap₂ (λ (x : Option Numbered) (y : List Numbered). unwrap_or (option_map (λ d. d.1) (find (λ d. d.0 == number) (option_to_list x ++ y))) database) o i

pub plain_lock : (g : Target) (number : ℕ) → IsPlain g → database_among g number ≡ g.database
plain_lock g number plain = among_none g.over g.indexes g.database number plain.over plain.indexes

pub plain_lock_target : (g : Target) (n : Need) → IsPlain g → lock_target g n ≡ record { db = g.database.name; kind = g.database.kind; at = n.at }
plain_lock_target g n plain = ap (λ (d : Database). record { db = d.name; kind = d.kind; at = n.at }) (plain_lock g n.db plain)

-- ---- refusals

pub no_index_refusal : (call : Call) → index_refusal call None ≡ None
no_index_refusal (Put db key value mode) = refl
no_index_refusal (CPutCur cursor value) = refl
no_index_refusal (CPut cursor key value mode) = refl
no_index_refusal call = refl

pub plain_refusal : (call : Call) (g : Target) → IsPlain g → target_refusal call (Some g) ≡ database_refuses g.database.kind call
plain_refusal call g plain =
    ap (λ (o : Option Index). or_refusal (index_refusal call o) (database_refuses g.database.kind call)) plain.index
    ∙ ap (λ (r : Option Answer). or_refusal r (database_refuses g.database.kind call)) (no_index_refusal call)
