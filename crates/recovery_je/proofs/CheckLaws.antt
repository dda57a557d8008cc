-- Records without their LSNs, and which of them is wrong.
use Rattle.std.proofs.Common.{◌≡◌, ℕ, not, Bool, true, false, cond, List, [], ◌∷◌, Option, None, Some, Result, Ok, Err, find, map, option_map, is_some, refl, sym, ap, ◌∙◌}
use Rattle.std.specs.Prelude.{◌&&◌, IfOk}
use Rattle.std.proofs.lemmas.Option.{none-some, same_Some}
use Rattle.je_order.specs.declared.name.Name.{Name}
use Rattle.record_tree.specs.Stored.{Stored, AllStored}
use Rattle.store_model.specs.declared.kind.Kind.{Kind}
use Rattle.log_replay.specs.Rows.{Row, is_right_row, are_right, is_environment}
use Rattle.log_replay.specs.Wrong.{wrong_in, wrong_in_catalog, wrong_record, numbered_by, lesser}
use Rattle.log_replay.proofs.WrongLaws.{lesser_of_both, wrong_met, right_met, none_is_environment}
use Rattle.recovery_je.specs.declared.numbered.Numbered.{Numbered}
use Rattle.recovery_je.specs.Checking.{values_of, values_in, lsn_of, numbered_of, Found, as_found, wrong_among, wrong_lsn_of, wrong_lsn_under, wrong_lsn_in}

-- the first record of a database that fails a test of its name and data
first_name : (p : Row → Bool) (records : List (Name × Stored)) →
    option_map (λ (r : Name × Stored). r.0) (find (λ (r : Name × Stored). not (p (r.0, r.1.value))) records) ≡ option_map (λ (r : Row). r.0) (find (λ (r : Row). not (p r)) (values_of records))
first_name p [] = refl
first_name p (r ∷ records) = by_test (p (r.0, r.1.value)) (first_name p records)
  where
    by_test : (b : Bool) →
        option_map (λ (s : Name × Stored). s.0) (find (λ (s : Name × Stored). not (p (s.0, s.1.value))) records) ≡ option_map (λ (s : Row). s.0) (find (λ (s : Row). not (p s)) (values_of records)) →
        option_map (λ (s : Name × Stored). s.0) (cond (not b) (Some r) (find (λ (s : Name × Stored). not (p (s.0, s.1.value))) records))
        ≡ option_map (λ (s : Row). s.0) (cond (not b) (Some (r.0, r.1.value)) (find (λ (s : Row). not (p s)) (values_of records)))
    by_test true rest = rest
    by_test false rest = refl

-- the first record of a database that is wrong in one of its kind
pub wrong_name : (kind : Kind) (records : List (Name × Stored)) →
    option_map (λ (r : Name × Stored). r.0) (find (λ (r : Name × Stored). not (is_right_row kind (r.0, r.1.value))) records) ≡ wrong_in kind (values_of records)
wrong_name kind records = first_name (is_right_row kind) records

-- whether there is one
pub wrong_some : (kind : Kind) (rows : List Row) → is_some (wrong_in kind rows) ≡ not (are_right kind rows)
wrong_some kind [] = refl
wrong_some kind (r ∷ rows) = by_test (is_right_row kind r) (wrong_some kind rows)
  where
    by_test : (b : Bool) → is_some (wrong_in kind rows) ≡ not (are_right kind rows) →
        is_some (option_map (λ (s : Row). s.0) (cond (not b) (Some r) (find (λ (s : Row). not (is_right_row kind s)) rows))) ≡ not (b && are_right kind rows)
    by_test true rest = rest
    by_test false rest = refl

mapped_twice : {A B C : Type 0} (f : B → C) (g : A → B) (o : Option A) → option_map f (option_map g o) ≡ option_map (λ x. f (g x)) o
mapped_twice f g None = refl
mapped_twice f g (Some x) = refl

-- the LSN of the first wrong record of a database
pub under_here : (stored : AllStored) (d : Numbered) → option_map (λ x. lsn_of stored d.number x) (wrong_in d.kind (values_of (stored d.number))) ≡ wrong_lsn_of stored (Some (as_found d))
under_here stored d = sym (mapped_twice _ _ (wrong_in d.kind (values_of (stored d.number))))

pub under_some : (stored : AllStored) (databases : List Found) (d : Numbered) (wrong : Option ℕ) → wrong_among stored databases ≡ Some (as_found d) →
    wrong ≡ option_map (λ x. lsn_of stored d.number x) (wrong_in d.kind (values_of (stored d.number))) → wrong ≡ wrong_lsn_under stored databases
under_some stored databases d wrong is found = found ∙ under_here stored d ∙ ap (wrong_lsn_of stored) (sym is)

pub under_none : (stored : AllStored) (databases : List Found) → wrong_among stored databases ≡ None → None ≡ wrong_lsn_under stored databases
under_none stored databases is = ap (wrong_lsn_of stored) (sym is)

pub mapped_some : {A B : Type 0} (f : A → B) (o : Option A) → is_some (option_map f o) ≡ is_some o
mapped_some f None = refl
mapped_some f (Some x) = refl

-- the databases that the catalog's records name
pub found_in : (rows : List Row) → map as_found (map numbered_of rows) ≡ map numbered_by rows
found_in [] = refl
found_in (r ∷ rows) = ap (λ (l : List Found). numbered_by r ∷ l) (found_in rows)

pub under_named : (stored : AllStored) (rows : List Row) (databases : List Numbered) (wrong : Option ℕ) → databases ≡ map numbered_of rows → wrong ≡ wrong_lsn_under stored (map as_found databases) →
    wrong ≡ wrong_lsn_under stored (map numbered_by rows)
under_named stored rows databases wrong are is = is ∙ ap (λ (l : List Found). wrong_lsn_under stored l) (ap (λ (l : List Numbered). map as_found l) are ∙ found_in rows)

-- where the catalog is right, the first wrong record is one of the databases'
pub wrong_behind : {E : Type 0} (stored : AllStored) (rows named : List (Name × Stored)) (r : Result (Option ℕ) E) → wrong_in_catalog (values_of rows) [] (values_of rows) ≡ None → rows ≡ stored 0 → named ≡ stored 0 →
    IfOk r (λ w. w ≡ wrong_lsn_under stored (map numbered_by (values_of named))) → IfOk r (λ w. w ≡ wrong_lsn_in stored)
wrong_behind stored rows named (Ok w) none are named_are is =
    let here : wrong_in_catalog (values_of (stored 0)) [] (values_of (stored 0)) ≡ None = ap (λ (l : List (Name × Stored)). wrong_in_catalog (values_of l) [] (values_of l)) (sym are) ∙ none in
    let whole : wrong_lsn_under stored (map numbered_by (values_of (stored 0))) ≡ wrong_lsn_in stored = rw here refl in
    is ∙ ap (λ (l : List (Name × Stored)). wrong_lsn_under stored (map numbered_by (values_of l))) named_are ∙ whole
wrong_behind stored rows named (Err e) none are named_are is = tt

-- ---- the search for the least

pub turned : (b c : Bool) → not b ≡ c → b ≡ not c
turned true c h = ap not h
turned false c h = ap not h

-- a database that is wrong was looked at, and one that is right
pub wrong_next : (stored : AllStored) (d m : Numbered) (left rest : List Numbered) (found next : Option Numbered) → left ≡ d ∷ rest → are_right d.kind (values_of (stored d.number)) ≡ false → next ≡ Some m →
    (found ≡ None → m ≡ d) → ((k : Numbered) → found ≡ Some k → Some (as_found m) ≡ lesser (as_found k) (Some (as_found d))) →
    lesser_of_both (option_map as_found next) (wrong_among stored (map as_found rest)) ≡ lesser_of_both (option_map as_found found) (wrong_among stored (map as_found left))
wrong_next stored d m left rest found next parts wrong is none some =
    wrong_met (λ (x : Found). are_right x.kind (values_of (stored x.number))) (as_found d) (as_found m) (map as_found left) (map as_found rest) (option_map as_found found) (option_map as_found next)
    (ap (λ (l : List Numbered). map as_found l) parts) wrong (ap (λ (o : Option Numbered). option_map as_found o) is) (if_none found none) (if_some found some)
  where
    if_none : (o : Option Numbered) → (o ≡ None → m ≡ d) → option_map as_found o ≡ None → as_found m ≡ as_found d
    if_none None h e = ap as_found (h refl)
    if_none (Some k) h e = absurd (none-some (as_found k) (sym e))

    if_some : (o : Option Numbered) → ((k : Numbered) → o ≡ Some k → Some (as_found m) ≡ lesser (as_found k) (Some (as_found d))) →
        (k : Found) → option_map as_found o ≡ Some k → Some (as_found m) ≡ lesser k (Some (as_found d))
    if_some None h k e = absurd (none-some k e)
    if_some (Some j) h k e = h j refl ∙ ap (λ (x : Found). lesser x (Some (as_found d))) (same_Some (as_found j) k e)

pub right_next : (stored : AllStored) (d : Numbered) (left rest : List Numbered) (found next : Option Numbered) → left ≡ d ∷ rest → are_right d.kind (values_of (stored d.number)) ≡ true → next ≡ found →
    lesser_of_both (option_map as_found next) (wrong_among stored (map as_found rest)) ≡ lesser_of_both (option_map as_found found) (wrong_among stored (map as_found left))
right_next stored d left rest found next parts right is =
    right_met (λ (x : Found). are_right x.kind (values_of (stored x.number))) (as_found d) (map as_found left) (map as_found rest) (option_map as_found found) (option_map as_found next)
    (ap (λ (l : List Numbered). map as_found l) parts) right (ap (λ (o : Option Numbered). option_map as_found o) is)

unmapped : {A B : Type 0} (f : A → B) (o : Option A) → option_map f o ≡ None → o ≡ None
unmapped f None h = refl
unmapped f (Some x) h = absurd cc

-- records none of which is wrong are those of an environment
pub right_rows : (stored : AllStored) → wrong_lsn_in stored ≡ None → is_environment (values_in stored) ≡ true
right_rows stored none = none_is_environment (values_in stored) (unmapped (λ place. lsn_of stored place.db place.name) (wrong_record (values_in stored)) none)
