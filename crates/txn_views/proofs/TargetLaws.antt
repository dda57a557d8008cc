-- What plans through indexes come to.
use Rattle.std.proofs.Common.{◌≡◌, ◌⊎◌, ℕ, List, [], ◌∷◌, ◌++◌, Bool, true, false, cond, Option, None, Some, IfSome, map, flat_map, option_map, unwrap_or, length, ◌==◌, refl, ap, ap₂, sym, ◌∙◌, subst, ⊎_elim}
use Rattle.std.specs.List.{AllByRecursion}
use Rattle.std.proofs.lemmas.List.{map-append, append_assoc}
use Rattle.std.proofs.lemmas.Bool.{false≢true}
use Rattle.je_order.proofs.Lists.{all_append}
use Rattle.je_order.specs.declared.name.Name.{Name}
use Rattle.je_order.specs.declared.txn_id.TxnId.{TxnId}
use Rattle.record_tree.specs.Occupied.{AllCells}
use Rattle.store_model.specs.declared.kind.Kind.{Kind}
use Rattle.store_model.specs.declared.kind.Kind.TheVariants.{Plain, Dup}
use Rattle.store_model.specs.declared.isolation.Isolation.{Isolation}
use Rattle.store_model.specs.declared.call.Call.{Call}
use Rattle.store_model.specs.declared.need.Need.{Need}
use Rattle.store_model.specs.declared.answer.Answer.{Answer}
use Rattle.store_model.specs.declared.answer.Answer.TheVariants.{NoPosition, KeyEmpty}
use Rattle.store_model.specs.declared.record_change.RecordChange.{RecordChange}
use Rattle.store_model.specs.Store.{Pair, changed_name, data_after}
use Rattle.store_model.specs.Evaluation.{plain_name}
use Rattle.store_model.specs.Records.{Evaluated, place_refusal, empty_if, place_needs, early_of, unless_early, look_of, conclude}
use Rattle.store_model.specs.Reads.{at_name}
use Rattle.store_model.specs.Indexes.{Numbered, changes_in, data_under, with_indexes, changed_through, all_changes}
use Rattle.store_model.specs.Needs.{Part, part_of, record_needs, needs_unless, change_needs, needs_through}
use Rattle.cursor_je.specs.Looks.{seen_by}
use Rattle.cursor_je.specs.Reaches.{read_needs, read_unless}
use Rattle.log_replay.specs.Rows.{Row, are_right, pair_of, row_at, data_at}
use Rattle.log_replay.proofs.RowLaws.{pair_at-rows}
use Rattle.db_catalog.specs.declared.found_db.FoundDb.{FoundDb}
use Rattle.index_map.specs.declared.found_index.FoundIndex.{FoundIndex}
use Rattle.txn_views.specs.declared.found_target.FoundTarget.{FoundTarget}
use Rattle.txn_views.specs.declared.db_change.DbChange.{DbChange}
use Rattle.txn_views.specs.Seen.{seen_rows}
use Rattle.index_map.specs.Laws.{index_at, over_of, indexes_at}
use Rattle.txn_views.specs.Targets.{found_at, seen_in, names_in, IsReadable, changing_at, found_change, found_changes, pairs_in, indexes_with, needs_for, evaluated_at}

-- ---- what comes with a change

-- the data under a key
pub data_here : (key : List ℕ) (rows : List Row) → are_right Plain rows ≡ true → data_at (plain_name key) rows ≡ data_under key (map (pair_of Plain) rows)
data_here key rows right = by (row_at (plain_name key) rows) ∙ sym (ap (option_map (λ (p : Pair). p.1)) (pair_at-rows rows key right))
  where
    by : (o : Option Row) → option_map (λ (r : Row). r.1) o ≡ option_map (λ (p : Pair). p.1) (option_map (pair_of Plain) o)
    by None = refl
    by (Some r) = refl

-- what changes in the indexes, by the data before and after
pub same_pairs : (records : List Pair) (change : RecordChange) (indexes : List FoundIndex) →
    flat_map (pairs_in (changed_name change).key (data_under (changed_name change).key records) (data_after change)) (indexes_at indexes)
    ≡ indexes_with (indexes_at indexes) records change
same_pairs records change [] = refl
same_pairs records change (i ∷ indexes) =
    let first : List (Numbered × RecordChange) = map (λ c. (index_at i, c)) (changes_in (index_at i).1.index records change) in
    ap (λ (l : List (Numbered × RecordChange)). first ++ l) (same_pairs records change indexes)

-- found changes of two lists, one after the other
pub found_both : (xs ys : List (Numbered × RecordChange)) → found_changes (xs ++ ys) ≡ found_changes xs ++ found_changes ys
found_both xs ys = map-append found_change xs ys

-- where a call through an index changes records
pub changing_is : (over : Option ℕ) (db : FoundDb) → unwrap_or (over_of over) (found_at db) ≡ found_at (changing_at over db)
changing_is None db = refl
changing_is (Some number) db = refl

-- ---- what can be read

pub readable_changing : (level : Isolation) (txn : TxnId) (cells : AllCells) (over : Option ℕ) (db : FoundDb) → IsReadable level txn cells db.number db.kind →
    IfSome over (λ number. IsReadable level txn cells number Plain) → IsReadable level txn cells (changing_at over db).number (changing_at over db).kind
readable_changing level txn cells None db own primary = own
readable_changing level txn cells (Some number) db own primary = primary

abbrev pub InReadable : Isolation → TxnId → AllCells → DbChange → Type 0
InReadable level txn cells c = IsReadable level txn cells c.db.number c.db.kind

each_pair : (level : Isolation) (txn : TxnId) (cells : AllCells) (i : FoundIndex) (changes : List RecordChange) → IsReadable level txn cells i.number Dup →
    AllByRecursion (InReadable level txn cells) (found_changes (map (λ c. (index_at i, c)) changes))
each_pair level txn cells i [] h = tt
each_pair level txn cells i (c ∷ changes) h = (h, each_pair level txn cells i changes h)

two_readable : (level : Isolation) (txn : TxnId) (cells : AllCells) (xs ys : List (Numbered × RecordChange)) → AllByRecursion (InReadable level txn cells) (found_changes xs) →
    AllByRecursion (InReadable level txn cells) (found_changes ys) → AllByRecursion (InReadable level txn cells) (found_changes (xs ++ ys))
two_readable level txn cells xs ys first second =
    subst (AllByRecursion (InReadable level txn cells)) (sym (found_both xs ys)) (all_append (InReadable level txn cells) (found_changes xs) (found_changes ys) first second)

all_indexes : (level : Isolation) (txn : TxnId) (cells : AllCells) (indexes : List FoundIndex) (records : List Pair) (change : RecordChange) →
    AllByRecursion (λ (i : FoundIndex). IsReadable level txn cells i.number Dup) indexes →
    AllByRecursion (InReadable level txn cells) (found_changes (indexes_with (indexes_at indexes) records change))
all_indexes level txn cells [] records change h = tt
all_indexes level txn cells (i ∷ indexes) records change h =
    two_readable level txn cells (map (λ c. (index_at i, c)) (changes_in (index_at i).1.index records change)) (indexes_with (indexes_at indexes) records change)
    (each_pair level txn cells i (changes_in (index_at i).1.index records change) h.0) (all_indexes level txn cells indexes records change h.1)

-- all changes of a call are in databases that can be read
pub all_readable : (level : Isolation) (txn : TxnId) (cells : AllCells) (over : Option Numbered) (db : FoundDb) (d : Numbered) (indexes : List FoundIndex) (see : Numbered → List Pair)
    (changes : List RecordChange) → unwrap_or over d ≡ found_at db → IsReadable level txn cells db.number db.kind →
    AllByRecursion (λ (i : FoundIndex). IsReadable level txn cells i.number Dup) indexes →
    AllByRecursion (InReadable level txn cells) (found_changes (all_changes over d (indexes_at indexes) see changes))
all_readable level txn cells over db d indexes see [] is own all = tt
all_readable level txn cells over db d indexes see (c ∷ changes) is own all =
    let records : List Pair = see (unwrap_or over d) in
    two_readable level txn cells (with_indexes (unwrap_or over d) (indexes_at indexes) records (changed_through over c)) (all_changes over d (indexes_at indexes) see changes)
    (subst (λ (n : Numbered). IsReadable level txn cells n.0 n.1.kind) (sym is) own, all_indexes level txn cells indexes records (changed_through over c) all)
    (all_readable level txn cells over db d indexes see changes is own all)

-- ---- needs

pub needs_same : (level : Isolation) (txn : TxnId) (cells : AllCells) (changes : List (Numbered × RecordChange)) →
    flat_map (needs_for level txn cells) (found_changes changes) ≡ flat_map (change_needs level (seen_in level txn cells) (names_in cells)) changes
needs_same level txn cells [] = refl
needs_same level txn cells (c ∷ changes) =
    ap (λ (l : List Need). change_needs level (seen_in level txn cells) (names_in cells) c ++ l) (needs_same level txn cells changes)

-- what the cursor's place answers is no record
none_found : (p : Option Part) (over : Option Numbered) → (record_needs p over NoPosition ≡ []) × (record_needs p over KeyEmpty ≡ [])
none_found None over = (refl, refl)
none_found (Some p) None = (refl, refl)
none_found (Some p) (Some primary) = (refl, refl)

early_none : (kind : Kind) (needs : Bool × Bool) (at : Option Name) (pairs : List Pair) (p : Option Part) (over : Option Numbered) →
    IfSome (place_refusal kind needs at pairs) (λ a. record_needs p over a ≡ [])
early_none kind needs None pairs p over = by needs.0
  where
    by : (b : Bool) → IfSome (cond b (Some NoPosition) None) (λ a. record_needs p over a ≡ [])
    by true = (none_found p over).0
    by false = tt
early_none kind needs (Some n) pairs p over = by needs.1 (at_name kind n pairs)
  where
    by : (b : Bool) (found : List Pair) → IfSome (empty_if b found) (λ a. record_needs p over a ≡ [])
    by true [] = (none_found p over).1
    by true (q ∷ qs) = tt
    by false [] = tt
    by false (q ∷ qs) = tt

joined : (early : Option Answer) (at : Option Name) (e : Evaluated) (r : List Need) (p : Option Part) (over : Option Numbered) (f : List RecordChange → List Need) →
    f [] ≡ [] → IfSome early (λ a. record_needs p over a ≡ []) →
    needs_unless early r ++ record_needs p over (unless_early early at e).answer ++ f (unless_early early at e).changes
    ≡ needs_unless early (r ++ record_needs p over e.answer ++ f e.changes)
joined None at e r p over f none h = refl
joined (Some answer) at e r p over f none h = ap₂ (λ (x y : List Need). [] ++ x ++ y) h none

-- the read's needs, the record's and those of the changes are those of the call
pub needs_joined : (kind : Kind) (call : Call) (at : Option Name) (pairs : List Pair) (e : Evaluated) (r : List Need) (p : Option Part) (over : Option Numbered)
    (f : List RecordChange → List Need) → f [] ≡ [] →
    needs_unless (early_of kind call at pairs) r ++ record_needs p over (unless_early (early_of kind call at pairs) at e).answer ++ f (unless_early (early_of kind call at pairs) at e).changes
    ≡ needs_unless (early_of kind call at pairs) (r ++ record_needs p over e.answer ++ f e.changes)
needs_joined kind call at pairs e r p over f none = joined (early_of kind call at pairs) at e r p over f none (early_none kind (place_needs call) at pairs p over)

-- ---- steps

-- a database whose indexes are some is plain
pub plain_where : (kind : Kind) (indexes : List FoundIndex) → (kind ≡ Plain) ⊎ (indexes ≡ []) → (length indexes == 0) ≡ false → kind ≡ Plain
plain_where kind indexes either some =
    ⊎_elim (λ (h : kind ≡ Plain). h) (λ (h : indexes ≡ []). absurd (false≢true (sym some ∙ ap (λ (l : List FoundIndex). length l == 0) h))) either

-- the change itself, and then its pairs
pub own_and_pairs : (level : Isolation) (txn : TxnId) (cells : AllCells) (db : FoundDb) (indexes : List FoundIndex) (change : RecordChange) (old mid pairs : List DbChange) →
    db.kind ≡ Plain → mid ≡ old ++ found_change (found_at db, change) ∷ [] →
    pairs ≡ found_changes (indexes_with (indexes_at indexes) (map (pair_of Plain) (seen_rows level txn (cells db.number))) change) →
    mid ++ pairs ≡ old ++ found_changes (with_indexes (found_at db) (indexes_at indexes) (seen_in level txn cells (found_at db)) change)
own_and_pairs level txn cells db indexes change old mid pairs plain own those =
    ap₂ (λ (x y : List DbChange). x ++ y) own those
    ∙ append_assoc old (found_change (found_at db, change) ∷ []) (found_changes (indexes_with (indexes_at indexes) (map (pair_of Plain) (seen_rows level txn (cells db.number))) change))
    ∙ ap (λ (k : Kind). old ++ found_change (found_at db, change) ∷ found_changes (indexes_with (indexes_at indexes) (map (pair_of k) (seen_rows level txn (cells db.number))) change)) (sym plain)

-- one change more
pub one_more : (over : Option ℕ) (db at : FoundDb) (indexes : List FoundIndex) (see : Numbered → List Pair) (c through : RecordChange) (changes : List RecordChange) (all new : List DbChange) →
    at ≡ changing_at over db → through ≡ changed_through (over_of over) c →
    new ≡ all ++ found_changes (with_indexes (found_at at) (indexes_at indexes) (see (found_at at)) through) →
    new ++ found_changes (all_changes (over_of over) (found_at db) (indexes_at indexes) see changes)
    ≡ all ++ found_changes (all_changes (over_of over) (found_at db) (indexes_at indexes) see (c ∷ changes))
one_more over db at indexes see c through changes all new there is gives =
    let changing : Numbered = unwrap_or (over_of over) (found_at db) in
    let first : Numbered → RecordChange → List (Numbered × RecordChange) = λ d x. with_indexes d (indexes_at indexes) (see d) x in
    let rest : List (Numbered × RecordChange) = all_changes (over_of over) (found_at db) (indexes_at indexes) see changes in
    let same : found_at at ≡ changing = ap found_at there ∙ sym (changing_is over db) in
    ap (λ (l : List DbChange). l ++ found_changes rest) (gives ∙ ap₂ (λ (d : Numbered) (x : RecordChange). all ++ found_changes (first d x)) same is)
    ∙ append_assoc all (found_changes (first changing (changed_through (over_of over) c))) (found_changes rest)
    ∙ ap (λ (l : List DbChange). all ++ l) (sym (found_both (first changing (changed_through (over_of over) c)) rest))

-- the needs of the plan
pub target_needs : (level : Isolation) (txn : TxnId) (cells : AllCells) (found : FoundTarget) (call : Call) (at : Option Name) (e : Evaluated) (part : Option Part)
    (read both all : List Need) (changes : List DbChange) → e ≡ evaluated_at level txn cells found call at → part ≡ part_of level call →
    read ≡ read_unless level found.db.number found.db.kind call at (seen_in level txn cells (found_at found.db)) (names_in cells (found_at found.db)) →
    both ≡ read ++ record_needs part (over_of found.over) e.answer →
    changes ≡ found_changes (all_changes (over_of found.over) (found_at found.db) (indexes_at found.indexes.now) (seen_in level txn cells) e.changes) →
    all ≡ both ++ flat_map (needs_for level txn cells) changes →
    all ≡ needs_through level (over_of found.over) (found_at found.db) (indexes_at found.indexes.now) (seen_in level txn cells) (names_in cells) call at
target_needs level txn cells found call at e part read both all changes evaluates parts reads adds those is =
    let kind : Kind = found.db.kind in
    let pairs : List Pair = seen_in level txn cells (found_at found.db) in
    let taken : List Pair = seen_by kind (look_of kind call at) pairs in
    let over : Option Numbered = over_of found.over in
    let f : List RecordChange → List Need = λ cs. flat_map (change_needs level (seen_in level txn cells) (names_in cells))
    (all_changes over (found_at found.db) (indexes_at found.indexes.now) (seen_in level txn cells) cs) in
    let unless : List Need = read_unless level found.db.number kind call at pairs (names_in cells (found_at found.db)) in
    is
    ∙ ap₂ (λ (x y : List Need). x ++ y) (adds ∙ ap₂ (λ (x : List Need) (p : Option Part). x ++ record_needs p over e.answer) reads parts)
    (ap (flat_map (needs_for level txn cells)) those
    ∙ needs_same level txn cells (all_changes over (found_at found.db) (indexes_at found.indexes.now) (seen_in level txn cells) e.changes))
    ∙ ap (λ (x : Evaluated). unless ++ record_needs (part_of level call) over x.answer ++ f x.changes) evaluates
    ∙ needs_joined kind call at pairs (conclude kind call at taken)
    (read_needs level found.db.number kind call at (conclude kind call at taken).answered pairs (names_in cells (found_at found.db))) (part_of level call) over f refl
