-- A whole check begins as opening does.
use Rattle.std.proofs.Common.{◌≡◌, ℕ, ◌==◌, ◌/◌, ◌^◌, nat_le, nat_lt, not, ◌++◌, List, [], ◌∷◌, Bool, true, false, Option, None, Some, Result, Ok, Err, map, filter, option_map, refl, sym, ap, ◌∙◌}
use Rattle.std.specs.List.{AllByRecursion, flat_map, list_all}
use Rattle.je_order.specs.declared.name.Name.{Name}
use Rattle.log_file.specs.Log.{log_in}
use Rattle.log_replay.specs.declared.corruption.Corruption.{Corruption}
use Rattle.log_replay.specs.declared.corruption.Corruption.TheVariants.{Tree}
use Rattle.log_replay.specs.Indexed.{wrong_index}
use Rattle.log_replay.specs.Rows.{Row, Rows, are_right, is_right_row, store_of}
use Rattle.log_replay.specs.Reading.{gap_in}
use Rattle.log_replay.specs.Wrong.{or_else, numbered_by, wrong_database, wrong_in, wrong_in_catalog, wrong_record, wrong_under}
use Rattle.log_replay.proofs.WrongLaws.{none_is_environment}
use Rattle.log_trees.specs.Placed.{Placed, placed}
use Rattle.log_trees.specs.Walk.{Walk, and_then}
use Rattle.log_meaning.specs.Redo.{Redo, record_at}
use Rattle.log_meaning.specs.Checkpoint.{Checkpoint, last_checkpoint, last_end}
use Rattle.log_meaning.specs.Meaning.{Meaning, lsn_there, meaning_of, rows_of, wrong_lsn}
use Rattle.log_meaning.specs.Reading.{gap_at, meaning_in, missing, reading_of, redo_corruption, unless, validated, validated_by}
use Rattle.log_meaning.proofs.Listing.{listed_in_order}
use Rattle.check_laws.specs.declared.finding.Finding.{Finding}
use Rattle.check_laws.specs.declared.finding.Finding.TheVariants.{Wrong, Index as WrongIndex}
use Rattle.check_laws.specs.Noting.{unless_found}
use Rattle.check_laws.specs.Trees.{NotedTrees}
use Rattle.check_laws.specs.Parts.{NumberedKind, in_number_order, first_item, gaps_in, put_by_number, wrong_databases, wrongs_in, wrongs_in_catalog}
use Rattle.check_laws.specs.Rest.{catalog_left, rows_left, wrong_indexes}
use Rattle.check_laws.specs.Check.{ChecksBeginAsOpening, as_answered, as_opened, count_of_database, counts_left, database_findings, finding_at, findings_in, gap_finding, gaps_at, index_findings, meaning_checked, record_findings, redo_checked, redo_findings, trees_checked, unless_wrong_index}
use Rattle.check_laws.proofs.TreeChecks.{roots_are_checked}
use Rattle.check_laws.proofs.PartChecks.{parts_begin, gaps_first}
use Rattle.check_laws.proofs.RestLaws.{counts_are, indexes_begin}

-- the place of a record, as the rules of environments have it
abbrev option_of : {A B C : Type 0} → (A → B → Option C) → Type 0
option_of {A} {B} {C} f = C

abbrev Place : Type 0
Place = option_of wrong_under

abbrev tree_finding : ℕ → Finding
tree_finding lsn = Wrong (Tree lsn)

-- ---- lists

first_mapped : {A B : Type 0} (f : A → B) (xs : List A) → first_item (map f xs) ≡ option_map f (first_item xs)
first_mapped f [] = refl
first_mapped f (x ∷ xs) = refl

-- ---- the files from the redo LSN on

gaps_by : (f n : ℕ) (ns : List ℕ) (b : Bool) → (n == f) ≡ b → option_map (λ g. g.0) (first_item (gaps_at f (n ∷ ns))) ≡ gap_at f (n ∷ ns)
gaps_by f n ns true e = rw e (gaps_first f ns)
gaps_by f n ns false e = rw e refl

gaps_at_first : (f : ℕ) (ns : List ℕ) → option_map (λ g. g.0) (first_item (gaps_at f ns)) ≡ gap_at f ns
gaps_at_first f [] = refl
gaps_at_first f (n ∷ ns) = gaps_by f n ns (n == f) refl

abbrev missing_finding : Option ℕ → Option Finding
missing_finding gap = option_map Wrong (missing gap)

found_gap : (gaps : List (ℕ × ℕ)) (gap : Option ℕ) → option_map (λ g. g.0) (first_item gaps) ≡ gap → first_item (map as_answered (map gap_finding gaps)) ≡ missing_finding gap
found_gap [] gap e = ap missing_finding e
found_gap (g ∷ gaps) gap e = ap missing_finding e

redo_by : (files : List ℕ) (c : Checkpoint) (b : Bool) → nat_lt c.redo c.at ≡ b → first_item (map as_answered (redo_findings files (Some c))) ≡ option_map Wrong (redo_corruption files (Some c))
redo_by files c true e =
    rw e (found_gap (gaps_at (c.redo / 2 ^ 32) (filter (λ n. nat_le (c.redo / 2 ^ 32) n) files)) _ (gaps_at_first (c.redo / 2 ^ 32) (filter (λ n. nat_le (c.redo / 2 ^ 32) n) files)))
redo_by files c false e = rw e refl

redo_first : (files : List ℕ) (end : Option Checkpoint) → first_item (map as_answered (redo_findings files end)) ≡ option_map Wrong (redo_corruption files end)
redo_first files None = found_gap (gaps_in files) (gap_in files) (parts_begin.gaps files)
redo_first files (Some c) = redo_by files c (nat_lt c.redo c.at) refl

-- ---- records

-- a database that is not right has a wrong record
right_by : (p : Row → Bool) (x : Row) (xs : List Row) (b : Bool) → p x ≡ b → (filter (λ r. not (p r)) xs ≡ [] → list_all p xs ≡ true) →
    filter (λ r. not (p r)) (x ∷ xs) ≡ [] → list_all p (x ∷ xs) ≡ true
right_by p x xs true e rest none = let left = rw e at none in rw e (rest left)
right_by p x xs false e rest none = let wrong = rw e at none in absurd (cc wrong)

none_right : (p : Row → Bool) (xs : List Row) → filter (λ r. not (p r)) xs ≡ [] → list_all p xs ≡ true
none_right p [] none = refl
none_right p (x ∷ xs) none = right_by p x xs (p x) refl (none_right p xs) none

abbrev is_wrong : Rows → NumberedKind → Bool
is_wrong rows d = not (are_right d.kind (rows d.number))

kept_by : (q : NumberedKind → Bool) (d : NumberedKind) (ds : List NumberedKind) (b : Bool) → q d ≡ b → AllByRecursion (λ e. q e ≡ true) (filter q ds) → AllByRecursion (λ e. q e ≡ true) (filter q (d ∷ ds))
kept_by q d ds true e rest = rw e (e, rest)
kept_by q d ds false e rest = rw e rest

filter_all : (q : NumberedKind → Bool) (ds : List NumberedKind) → AllByRecursion (λ e. q e ≡ true) (filter q ds)
filter_all q [] = tt
filter_all q (d ∷ ds) = kept_by q d ds (q d) refl (filter_all q ds)

put_by_number_by : (q : NumberedKind → Bool) (d e : NumberedKind) (es : List NumberedKind) (b : Bool) → nat_le d.number e.number ≡ b → q d ≡ true → q e ≡ true → AllByRecursion (λ e. q e ≡ true) es →
    AllByRecursion (λ e. q e ≡ true) (put_by_number d es) → AllByRecursion (λ e. q e ≡ true) (put_by_number d (e ∷ es))
put_by_number_by q d e es true h one two rest others = rw h (one, (two, rest))
put_by_number_by q d e es false h one two rest others = rw h (two, others)

put_by_number_all : (q : NumberedKind → Bool) (d : NumberedKind) (es : List NumberedKind) → q d ≡ true → AllByRecursion (λ e. q e ≡ true) es → AllByRecursion (λ e. q e ≡ true) (put_by_number d es)
put_by_number_all q d [] one all = (one, tt)
put_by_number_all q d (e ∷ es) one all = put_by_number_by q d e es (nat_le d.number e.number) refl one all.0 all.1 (put_by_number_all q d es one all.1)

ordered_all : (q : NumberedKind → Bool) (ds : List NumberedKind) → AllByRecursion (λ e. q e ≡ true) ds → AllByRecursion (λ e. q e ≡ true) (in_number_order ds)
ordered_all q [] all = tt
ordered_all q (d ∷ ds) all = put_by_number_all q d (in_number_order ds) all.0 (ordered_all q ds all.1)

-- the records of the first of these databases, which has a wrong one
under_by : (redo : Redo) (d : NumberedKind) (more : List Finding) (wrongs : List Row) → filter (λ r. not (is_right_row d.kind r)) (rows_of redo d.number) ≡ wrongs → is_wrong (rows_of redo) d ≡ true →
    first_item (map (finding_at redo d.number) (map (λ r. r.0) wrongs) ++ more) ≡ option_map tree_finding (option_map (λ x. lsn_there (record_at redo d.number x)) (first_item (map (λ r. r.0) wrongs)))
under_by redo d more [] none wrong =
    let right = none_right (is_right_row d.kind) (rows_of redo d.number) none in
    let bad = rw right at wrong in
    absurd (cc bad)
under_by redo d more (r ∷ wrongs) is wrong = refl

abbrev at_name : ℕ → Name → Place
at_name d name = record { db = d; name = name }

place_of : (redo : Redo) (d : ℕ) (o : Option Name) → option_map tree_finding (option_map (λ x. lsn_there (record_at redo d x)) o)
    ≡ option_map tree_finding (option_map (λ place. lsn_there (record_at redo place.db place.name)) (option_map (at_name d) o))
place_of redo d None = refl
place_of redo d (Some x) = refl

under_first : (redo : Redo) (ds : List NumberedKind) → AllByRecursion (λ d. is_wrong (rows_of redo) d ≡ true) ds →
    first_item (flat_map (λ d. map (finding_at redo d.number) (wrongs_in d.kind (rows_of redo d.number))) ds)
    ≡ option_map tree_finding (option_map (λ place. lsn_there (record_at redo place.db place.name)) (wrong_under (rows_of redo) (first_item ds)))
under_first redo [] all = refl
under_first redo (d ∷ ds) all =
    under_by redo d (flat_map (λ d. map (finding_at redo d.number) (wrongs_in d.kind (rows_of redo d.number))) ds) (filter (λ r. not (is_right_row d.kind r)) (rows_of redo d.number)) refl all.0
    ∙ ap (λ o. option_map tree_finding (option_map (λ x. lsn_there (record_at redo d.number x)) o)) (parts_begin.records d.kind (rows_of redo d.number))
    ∙ place_of redo d.number (wrong_in d.kind (rows_of redo d.number))

-- the catalog first, and then the databases
records_by : (redo : Redo) (names : List Name) → wrongs_in_catalog (rows_of redo 0) [] (rows_of redo 0) ≡ names → wrong_in_catalog (rows_of redo 0) [] (rows_of redo 0) ≡ first_item names →
    first_item (map (finding_at redo 0) names ++ database_findings redo) ≡ option_map tree_finding (wrong_lsn redo)
records_by redo [] none is =
    let kept = parts_begin.kept (rows_of redo 0) [] (rows_of redo 0) none in
    let rows = rows_of redo in
    let ds : List NumberedKind = wrong_databases rows (rows 0) in
    rw (kept, is) (under_first redo ds (ordered_all (is_wrong rows) (filter (is_wrong rows) (map numbered_by (rows 0))) (filter_all (is_wrong rows) (map numbered_by (rows 0))))
    ∙ ap (λ d. option_map tree_finding (option_map (λ place. lsn_there (record_at redo place.db place.name)) (wrong_under rows d))) (parts_begin.databases rows))
records_by redo (x ∷ names) some is = rw is refl

records_first : (redo : Redo) → first_item (record_findings redo) ≡ option_map tree_finding (wrong_lsn redo)
records_first redo =
    records_by redo (wrongs_in_catalog (rows_of redo 0) [] (rows_of redo 0)) refl (sym (parts_begin.catalog (rows_of redo 0) [] (rows_of redo 0)))

told_tree : (o : Option ℕ) → option_map as_answered (option_map tree_finding o) ≡ option_map Wrong (option_map Tree o)
told_tree None = refl
told_tree (Some lsn) = refl

records_told : (redo : Redo) → first_item (map as_answered (record_findings redo)) ≡ option_map Wrong (option_map Tree (wrong_lsn redo))
records_told redo = first_mapped as_answered (record_findings redo) ∙ ap (option_map as_answered) (records_first redo) ∙ told_tree (wrong_lsn redo)

-- where no record is wrong, all are left
none_first : {A : Type 0} (xs : List A) → first_item xs ≡ None → xs ≡ []
none_first [] h = refl
none_first (x ∷ xs) h = absurd (cc h)

unmapped : {A B : Type 0} (f : A → B) (o : Option A) → option_map f o ≡ None → o ≡ None
unmapped f None h = refl
unmapped f (Some x) h = absurd (cc h)

neither : {A : Type 0} (a b : Option A) → or_else a b ≡ None → a ≡ None
neither None b h = refl
neither (Some x) b h = absurd (cc h)

all_left : (rows : Rows) → wrong_record rows ≡ None → catalog_left rows ≡ rows 0
all_left rows none =
    let of : Name → Place = λ name. record { db = 0; name = name } in
    let catalog : wrong_in_catalog (rows 0) [] (rows 0) ≡ None = unmapped of (wrong_in_catalog (rows 0) [] (rows 0)) (neither (option_map of (wrong_in_catalog (rows 0) [] (rows 0))) (wrong_under rows (wrong_database rows)) none) in
    parts_begin.kept (rows 0) [] (rows 0) (none_first (wrongs_in_catalog (rows 0) [] (rows 0)) (parts_begin.catalog (rows 0) [] (rows 0) ∙ catalog))

no_wrong : (redo : Redo) → wrong_lsn redo ≡ None → wrong_record (rows_of redo) ≡ None
no_wrong redo none = unmapped (λ place. lsn_there (record_at redo place.db place.name)) (wrong_record (rows_of redo)) none

indexes_first : (redo : Redo) → wrong_lsn redo ≡ None → first_item (wrong_indexes (rows_left (rows_of redo))) ≡ wrong_index (store_of (rows_of redo))
indexes_first redo none =
    let right = no_wrong redo none in
    indexes_begin (rows_of redo) (all_left (rows_of redo) right) (none_is_environment (rows_of redo) right) (listed_in_order redo.done 0)

-- ---- the whole

abbrev unless_first : Option Finding → Result Meaning Finding → Result Meaning Finding
unless_first None result = result
unless_first (Some finding) result = Err finding

found_or : (meaning : Meaning) (xs ys : List Finding) → unless_found meaning (map as_answered (xs ++ ys)) ≡ unless_first (first_item (map as_answered xs)) (unless_found meaning (map as_answered ys))
found_or meaning [] ys = refl
found_or meaning (x ∷ xs) ys = refl

-- the indexes
indexes_told : (meaning : Meaning) (names : List (List ℕ)) (wrong : Option (List ℕ)) → first_item names ≡ wrong → unless_found meaning (map as_answered (map WrongIndex names)) ≡ unless_wrong_index meaning wrong
indexes_told meaning [] wrong e = ap (unless_wrong_index meaning) e
indexes_told meaning (name ∷ names) wrong e = ap (unless_wrong_index meaning) e

-- the records, and the indexes behind them
validated_as : (es : List Placed) (c : Checkpoint) (walk : Walk) (o : Option ℕ) (rest : Result Meaning Finding) →
    (o ≡ None → rest ≡ unless_wrong_index (meaning_of es c walk) (wrong_index (meaning_of es c walk).store)) →
    unless_first (option_map Wrong (option_map Tree o)) rest ≡ as_opened (validated_by es c walk o)
validated_as es c walk None rest is = is refl
validated_as es c walk (Some lsn) rest is = refl

-- the files from the redo LSN on
unless_by : (o : Option Corruption) (rest : Result Meaning Finding) (result : Result Meaning Corruption) → rest ≡ as_opened result → unless_first (option_map Wrong o) rest ≡ as_opened (unless o result)
unless_by None rest result e = e
unless_by (Some corruption) rest result e = refl

-- the trees
trees_by : (meaning : Meaning) (found : List Corruption) (walk : Walk) (rest : List Finding) (next : Walk → Result Meaning Corruption) → unless_found meaning (map as_answered rest) ≡ as_opened (next walk) →
    unless_found meaning (map as_answered (map Wrong found ++ rest)) ≡ as_opened (and_then (unless_found walk found) next)
trees_by meaning [] walk rest next e = e
trees_by meaning (c ∷ found) walk rest next e = refl

first_is : (files : List ℕ) (es : List Placed) → unless_found (meaning_checked files es) (map as_answered (findings_in files es)) ≡ as_opened (meaning_in files es)
first_is files es =
    let s : NotedTrees = trees_checked files es in
    let c : Checkpoint = last_checkpoint es in
    let redo : Redo = redo_checked files es in
    let meaning : Meaning = meaning_checked files es in
    let indexes : List Finding = index_findings (rows_left (rows_of redo)) in
    let records : unless_found meaning (map as_answered (record_findings redo ++ indexes)) ≡ as_opened (validated es c s.walk) =
    found_or meaning (record_findings redo) indexes ∙ ap (λ o. unless_first o (unless_found meaning (map as_answered indexes))) (records_told redo)
    ∙ validated_as es c s.walk (wrong_lsn redo) (unless_found meaning (map as_answered indexes))
    (λ none. indexes_told meaning (wrong_indexes (rows_left (rows_of redo))) (wrong_index meaning.store) (indexes_first redo none)) in
    let files_too : unless_found meaning (map as_answered (redo_findings files (last_end es) ++ (record_findings redo ++ indexes))) ≡ as_opened (unless (redo_corruption files (last_end es)) (validated es c s.walk)) =
    found_or meaning (redo_findings files (last_end es)) (record_findings redo ++ indexes)
    ∙ ap (λ o. unless_first o (unless_found meaning (map as_answered (record_findings redo ++ indexes)))) (redo_first files (last_end es))
    ∙ unless_by (redo_corruption files (last_end es)) (unless_found meaning (map as_answered (record_findings redo ++ indexes))) (validated es c s.walk) records in
    trees_by meaning s.found s.walk (redo_findings files (last_end es) ++ (record_findings redo ++ indexes)) (λ walk. unless (redo_corruption files (last_end es)) (validated es c walk)) files_too
    ∙ ap (λ r. as_opened (and_then r (λ walk. unless (redo_corruption files (last_end es)) (validated es c walk)))) (roots_are_checked files es c.at c.roots)

-- ---- what was counted

front_none : {A : Type 0} (xs ys : List A) → xs ++ ys ≡ [] → (xs ≡ []) × (ys ≡ [])
front_none [] ys h = (refl, h)
front_none (x ∷ xs) ys h = absurd (cc h)

none_wrong : (redo : Redo) → record_findings redo ≡ [] → wrong_lsn redo ≡ None
none_wrong redo none = unmapped tree_finding (wrong_lsn redo) (sym (records_first redo) ∙ ap (λ (l : List Finding). first_item l) none)

same_meaning : (one meaning : Meaning) (wrong : Option (List ℕ)) → Ok one ≡ unless_wrong_index meaning wrong → one ≡ meaning
same_meaning one meaning None e = cc e
same_meaning one meaning (Some name) e = absurd (cc e)

counted_is : (files : List ℕ) (es : List Placed) (meaning : Meaning) → findings_in files es ≡ [] → meaning_in files es ≡ Ok meaning →
    counts_left (rows_left (rows_of (redo_checked files es))) ≡ map count_of_database meaning.store.databases
counted_is files es meaning none is =
    let redo : Redo = redo_checked files es in
    let behind_trees = front_none (map Wrong (trees_checked files es).found) (redo_findings files (last_end es) ++ (record_findings redo ++ index_findings (rows_left (rows_of redo)))) none in
    let behind_files = front_none (redo_findings files (last_end es)) (record_findings redo ++ index_findings (rows_left (rows_of redo))) behind_trees.1 in
    let records = front_none (record_findings redo) (index_findings (rows_left (rows_of redo))) behind_files.1 in
    let right = no_wrong redo (none_wrong redo records.0) in
    let first : Ok (meaning_checked files es) ≡ unless_wrong_index meaning (wrong_index meaning.store) =
    ap (λ (l : List Finding). unless_found (meaning_checked files es) (map as_answered l)) (sym none) ∙ first_is files es ∙ ap as_opened is in
    let same : meaning_checked files es ≡ meaning = same_meaning (meaning_checked files es) meaning (wrong_index meaning.store) first in
    counts_are (rows_of redo) (all_left (rows_of redo) right) (none_is_environment (rows_of redo) right)
    ∙ ap (λ (m : Meaning). map count_of_database m.store.databases) same

pub checks_begin : ChecksBeginAsOpening
checks_begin held none =
    let files : List ℕ = map (λ file. file.0) held in
    let es : List Placed = placed (log_in held) in
    let reads : reading_of held ≡ meaning_in files es = ap (λ o. unless o (meaning_in files es)) none in
    record {
      first = first_is files es ∙ ap as_opened (sym reads);
      counted = λ meaning found is. counted_is files es meaning found (sym reads ∙ is);
    }
