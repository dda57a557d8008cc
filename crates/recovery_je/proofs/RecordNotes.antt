-- Records that break a rule, each noted.
use Rattle.std.proofs.Common.{◌≡◌, ◌<◌, ◌≤◌, ◌+◌, ℕ, Bool, true, false, cond, not, ◌&&◌, nat_le, List, [], ◌∷◌, ◌++◌, length, take, drop, get_or, filter, map, refl, sym, ap, ap₂, subst, ◌∙◌, append_assoc}
use Rattle.std.specs.List.{flat_map, insert}
use Rattle.std.proofs.lemmas.Bool.{and_parts, cond-true, cond-false, le-leb, lt-leb}
use Rattle.std.proofs.lemmas.List.{append-nil, drop_more, map-append}
use Rattle.je_order.specs.Words.{is_word}
use Rattle.je_order.specs.declared.name.Name.{Name}
use Rattle.record_tree.specs.Stored.{Stored, AllStored, values_of}
use Rattle.store_model.specs.declared.kind.Kind.{Kind}
use Rattle.log_replay.specs.Rows.{Row, Rows, are_right, catalog_index, catalog_number, has_primary, is_catalog_row, is_right_row}
use Rattle.log_replay.specs.Wrong.{is_right_behind, numbered_by}
use Rattle.check_laws.specs.declared.finding.Finding.{Finding}
use Rattle.check_laws.specs.Parts.{in_number_order, kept_in_catalog, put_by_number, wrong_databases, wrongs_in, wrongs_in_catalog}
use Rattle.check_laws.specs.Rest.{catalog_left}
use Rattle.recovery_je.specs.declared.numbered.Numbered.{Numbered}
use Rattle.recovery_je.specs.Checking.{Found, as_found, lsn_of, numbered_of, values_in}
use Rattle.recovery_je.specs.RecordChecks.{wrong_among_in_order, wrong_at, wrongs_of_all, wrongs_stored}
use Rattle.recovery_je.proofs.CheckLaws.{found_in}
use Rattle.recovery_je.proofs.FilesRead.{take_more}

-- ---- in order of numbers

-- a database stands behind these, or before the next
pub place_next : (all : List Numbered) (i : ℕ) (d none : Numbered) → i < length all → (get_or all i none).number < d.number →
    put_by_number (as_found d) (map as_found all) ≡ map as_found (take i all) ++ put_by_number (as_found d) (map as_found (drop i all)) →
    put_by_number (as_found d) (map as_found all) ≡ map as_found (take (i + 1) all) ++ put_by_number (as_found d) (map as_found (drop (i + 1) all))
place_next all i d none within lt so_far =
    let x = get_or all i none in
    let rest = map as_found (drop (i + 1) all) in
    so_far
    ∙ ap (λ (l : List Numbered). map as_found (take i all) ++ put_by_number (as_found d) (map as_found l)) (drop_more all i none within)
    ∙ ap (λ (l : List Found). map as_found (take i all) ++ l) (cond-false (nat_le d.number x.number) (as_found d ∷ as_found x ∷ rest) (as_found x ∷ put_by_number (as_found d) rest) (lt-leb d.number x.number lt))
    ∙ sym (append_assoc (map as_found (take i all)) (as_found x ∷ []) (put_by_number (as_found d) rest))
    ∙ ap (λ (l : List Found). l ++ put_by_number (as_found d) rest) (sym (take_more as_found all i none within))

placed_at : (all : List Numbered) (n : ℕ) (d : Numbered) → put_by_number (as_found d) (map as_found all) ≡ map as_found (take n all) ++ put_by_number (as_found d) (map as_found (drop n all)) →
    put_by_number (as_found d) (map as_found (drop n all)) ≡ as_found d ∷ map as_found (drop n all) → map as_found (insert all n d) ≡ put_by_number (as_found d) (map as_found all)
placed_at all n d so_far here = map-append as_found (take n all) (d ∷ drop n all) ∙ ap (λ (l : List Found). map as_found (take n all) ++ l) (sym here) ∙ sym so_far

pub place_found : (all : List Numbered) (i n : ℕ) (d none : Numbered) → i < length all → n ≡ i → d.number ≤ (get_or all i none).number →
    put_by_number (as_found d) (map as_found all) ≡ map as_found (take i all) ++ put_by_number (as_found d) (map as_found (drop i all)) → map as_found (insert all n d) ≡ put_by_number (as_found d) (map as_found all)
place_found all i n d none within is le so_far =
    let x = get_or all i none in
    let rest = map as_found (drop (i + 1) all) in
    let here : put_by_number (as_found d) (map as_found (drop i all)) ≡ as_found d ∷ map as_found (drop i all) =
    subst (λ (l : List Numbered). put_by_number (as_found d) (map as_found l) ≡ as_found d ∷ map as_found l) (sym (drop_more all i none within))
    (cond-true (nat_le d.number x.number) (as_found d ∷ as_found x ∷ rest) (as_found x ∷ put_by_number (as_found d) rest) (le-leb d.number x.number le)) in
    subst (λ (k : ℕ). map as_found (insert all k d) ≡ put_by_number (as_found d) (map as_found all)) (sym is) (placed_at all i d so_far here)

pub place_last : (all : List Numbered) (i n : ℕ) (d : Numbered) → drop i all ≡ [] → n ≡ i →
    put_by_number (as_found d) (map as_found all) ≡ map as_found (take i all) ++ put_by_number (as_found d) (map as_found (drop i all)) → map as_found (insert all n d) ≡ put_by_number (as_found d) (map as_found all)
place_last all i n d none is so_far =
    subst (λ (k : ℕ). map as_found (insert all k d) ≡ put_by_number (as_found d) (map as_found all)) (sym is)
    (placed_at all i d so_far (subst (λ (l : List Numbered). put_by_number (as_found d) (map as_found l) ≡ as_found d ∷ map as_found l) (sym none) refl))

-- those of some databases that are wrong are in order
pub record IsSorted (rows : Rows) (all left wrong : List Numbered) : Type 0 where
  pub done : List Numbered
  pub parts : all ≡ left ++ done
  pub sorted : map as_found wrong ≡ wrong_among_in_order rows (map as_found done)

pub sorted_none : (rows : Rows) (all left wrong : List Numbered) → left ≡ all → wrong ≡ [] → IsSorted rows all left wrong
sorted_none rows all left wrong is none = record { done = []; parts = sym is ∙ sym (append-nil left); sorted = ap (map as_found) none }

one_more : (all before left done : List Numbered) (d : Numbered) → all ≡ before ++ done → before ≡ left ++ d ∷ [] → all ≡ left ++ d ∷ done
one_more all before left done d parts is = parts ∙ ap (λ (l : List Numbered). l ++ done) is ∙ append_assoc left (d ∷ []) done

pub sorted_right : (rows : Rows) (all before left wrong : List Numbered) (d : Numbered) → before ≡ left ++ d ∷ [] → not (are_right d.kind (rows d.number)) ≡ false → IsSorted rows all before wrong → IsSorted rows all left wrong
sorted_right rows all before left wrong d is right so_far = record {
  done = d ∷ so_far.done;
  parts = one_more all before left so_far.done d so_far.parts is;
  sorted =
      let test : Found → Bool = λ e. not (are_right e.kind (rows e.number)) in
      so_far.sorted ∙ ap in_number_order (sym (cond-false (test (as_found d)) (as_found d ∷ filter test (map as_found so_far.done)) (filter test (map as_found so_far.done)) right));
}

pub sorted_wrong : (rows : Rows) (all before left wrong more : List Numbered) (d : Numbered) → before ≡ left ++ d ∷ [] → not (are_right d.kind (rows d.number)) ≡ true → map as_found more ≡ put_by_number (as_found d) (map as_found wrong) →
    IsSorted rows all before wrong → IsSorted rows all left more
sorted_wrong rows all before left wrong more d is bad put so_far = record {
  done = d ∷ so_far.done;
  parts = one_more all before left so_far.done d so_far.parts is;
  sorted =
      let test : Found → Bool = λ e. not (are_right e.kind (rows e.number)) in
      put ∙ ap (put_by_number (as_found d)) so_far.sorted
      ∙ ap in_number_order (sym (cond-true (test (as_found d)) (as_found d ∷ filter test (map as_found so_far.done)) (filter test (map as_found so_far.done)) bad));
}

pub sorted_all : (rows : Rows) (all left wrong : List Numbered) → left ≡ [] → IsSorted rows all left wrong → map as_found wrong ≡ wrong_among_in_order rows (map as_found all)
sorted_all rows all left wrong none so_far =
    so_far.sorted ∙ ap (λ (l : List Numbered). wrong_among_in_order rows (map as_found l)) (sym (so_far.parts ∙ ap (λ (l : List Numbered). l ++ so_far.done) none))

-- ---- a database

-- a record that is right or was noted, and those behind it
pub noted_next : (kind : Kind) (f : Name → Finding) (left rest : List Row) (r : Row) (old new : List Finding) → left ≡ r ∷ rest → new ≡ old ++ cond (is_right_row kind r) [] (f r.0 ∷ []) →
    new ++ map f (wrongs_in kind rest) ≡ old ++ map f (wrongs_in kind left)
noted_next kind f left rest r old new is noted =
    ap (λ (l : List Finding). l ++ map f (wrongs_in kind rest)) noted ∙ by (is_right_row kind r) ∙ ap (λ (l : List Row). old ++ map f (wrongs_in kind l)) (sym is)
  where
    by : (b : Bool) → (old ++ cond b [] (f r.0 ∷ [])) ++ map f (wrongs_in kind rest) ≡ old ++ map f (map (λ (s : Row). s.0) (cond (not b) (r ∷ filter (λ s. not (is_right_row kind s)) rest) (filter (λ s. not (is_right_row kind s)) rest)))
    by true = ap (λ (l : List Finding). l ++ map f (wrongs_in kind rest)) (append-nil old)
    by false = append_assoc old (f r.0 ∷ []) (map f (wrongs_in kind rest))

-- a database whose wrong records were noted, and those behind it
pub database_next : {A : Type 0} (f : A → List Finding) (left rest : List A) (d : A) (old new : List Finding) → left ≡ d ∷ rest → new ≡ old ++ f d → new ++ flat_map f rest ≡ old ++ flat_map f left
database_next f left rest d old new is noted =
    ap (λ (l : List Finding). l ++ flat_map f rest) noted ∙ append_assoc old (f d) (flat_map f rest) ∙ ap (λ (l : List _). old ++ flat_map f l) (sym is)

-- ---- the catalog

-- whether a record of the catalog is left
abbrev pub is_left : List Row → List ℕ → Row → Bool
is_left all before r = is_right_behind before r && has_primary all (catalog_index r.1)

pub wrong_noted : (all : List Row) (before : List ℕ) (f : Name → Finding) (left rest : List Row) (r : Row) (old new : List Finding) → left ≡ r ∷ rest → is_left all before r ≡ false → new ≡ old ++ f r.0 ∷ [] →
    new ++ map f (wrongs_in_catalog all before rest) ≡ old ++ map f (wrongs_in_catalog all before left)
wrong_noted all before f left rest r old new is wrong noted =
    ap (λ (l : List Finding). l ++ map f (wrongs_in_catalog all before rest)) noted
    ∙ append_assoc old (f r.0 ∷ []) (map f (wrongs_in_catalog all before rest))
    ∙ ap (λ (l : List Name). old ++ map f l) (sym (cond-false (is_left all before r) (wrongs_in_catalog all (before ++ catalog_number r.1 ∷ []) rest) (r.0 ∷ wrongs_in_catalog all before rest) wrong))
    ∙ ap (λ (l : List Row). old ++ map f (wrongs_in_catalog all before l)) (sym is)

pub wrong_left : (all : List Row) (before : List ℕ) (left rest : List Row) (r : Row) → left ≡ r ∷ rest → is_left all before r ≡ false → kept_in_catalog all before rest ≡ kept_in_catalog all before left
wrong_left all before left rest r is wrong =
    sym (cond-false (is_left all before r) (r ∷ kept_in_catalog all (before ++ catalog_number r.1 ∷ []) rest) (kept_in_catalog all before rest) wrong) ∙ ap (kept_in_catalog all before) (sym is)

pub right_noted : (all : List Row) (before more : List ℕ) (left rest : List Row) (r : Row) → left ≡ r ∷ rest → is_left all before r ≡ true → more ≡ before ++ catalog_number r.1 ∷ [] →
    wrongs_in_catalog all more rest ≡ wrongs_in_catalog all before left
right_noted all before more left rest r is right more_is =
    ap (λ (l : List ℕ). wrongs_in_catalog all l rest) more_is
    ∙ sym (cond-true (is_left all before r) (wrongs_in_catalog all (before ++ catalog_number r.1 ∷ []) rest) (r.0 ∷ wrongs_in_catalog all before rest) right)
    ∙ ap (wrongs_in_catalog all before) (sym is)

pub right_left : (all : List Row) (before more : List ℕ) (left rest : List Row) (r : Row) (kept new : List Row) → left ≡ r ∷ rest → is_left all before r ≡ true → more ≡ before ++ catalog_number r.1 ∷ [] → new ≡ kept ++ r ∷ [] →
    new ++ kept_in_catalog all more rest ≡ kept ++ kept_in_catalog all before left
right_left all before more left rest r kept new is right more_is new_is =
    ap₂ (λ (l : List Row) (m : List ℕ). l ++ kept_in_catalog all m rest) new_is more_is
    ∙ append_assoc kept (r ∷ []) (kept_in_catalog all (before ++ catalog_number r.1 ∷ []) rest)
    ∙ ap (λ (l : List Row). kept ++ l) (sym (cond-true (is_left all before r) (r ∷ kept_in_catalog all (before ++ catalog_number r.1 ∷ []) rest) (kept_in_catalog all before rest) right))
    ∙ ap (λ (l : List Row). kept ++ kept_in_catalog all before l) (sym is)

-- the key of a record that is left is a name
pub left_word : (all : List Row) (before : List ℕ) (r : Row) → is_left all before r ≡ true → is_word r.0.key ≡ true
left_word all before r h =
    let behind = (and_parts (is_right_behind before r) (has_primary all (catalog_index r.1)) h).0 in
    let both = (and_parts _ _ behind).0 in
    let own : is_catalog_row r ≡ true = (and_parts _ _ both).0 in
    (and_parts _ _ (and_parts _ _ own).0).0

-- the records of a list that is one longer
pub values_push : (records more : List (Name × Stored)) (r : Name × Stored) → more ≡ records ++ r ∷ [] → values_of more ≡ values_of records ++ (r.0, r.1.value) ∷ []
values_push records more r is = ap values_of is ∙ map-append (λ (s : Name × Stored). (s.0, s.1.value)) records (r ∷ [])

-- ---- the whole

pub noted_all : (stored : AllStored) (records left : List (Name × Stored)) (databases wrong : List Numbered) (old mid new : List Finding) → records ≡ stored 0 → values_of left ≡ kept_in_catalog (values_of records) [] (values_of records) →
    databases ≡ map numbered_of (values_of left) → map as_found wrong ≡ wrong_among_in_order (values_in stored) (map as_found databases) →
    mid ≡ old ++ map (wrong_at (lsn_of stored) 0) (wrongs_in_catalog (values_of records) [] (values_of records)) → new ≡ mid ++ wrongs_of_all (lsn_of stored) (values_in stored) (map as_found wrong) →
    new ≡ old ++ wrongs_stored stored
noted_all stored records left databases wrong old mid new are left_are databases_are wrong_are first then_ =
    let catalog : List Finding = map (wrong_at (lsn_of stored) 0) (wrongs_in_catalog (values_of (stored 0)) [] (values_of (stored 0))) in
    let left_in : values_of left ≡ catalog_left (values_in stored) = left_are ∙ ap (λ (l : List (Name × Stored)). kept_in_catalog (values_of l) [] (values_of l)) are in
    let named : map as_found databases ≡ map numbered_by (catalog_left (values_in stored)) = ap (map as_found) databases_are ∙ found_in (values_of left) ∙ ap (map numbered_by) left_in in
    let order : map as_found wrong ≡ wrong_databases (values_in stored) (catalog_left (values_in stored)) = wrong_are ∙ ap (wrong_among_in_order (values_in stored)) named in
    let catalog_is : mid ≡ old ++ catalog = first ∙ ap (λ (l : List (Name × Stored)). old ++ map (wrong_at (lsn_of stored) 0) (wrongs_in_catalog (values_of l) [] (values_of l))) are in
    then_
    ∙ ap₂ (λ (l : List Finding) (m : List Found). l ++ wrongs_of_all (lsn_of stored) (values_in stored) m) catalog_is order
    ∙ append_assoc old catalog (wrongs_of_all (lsn_of stored) (values_in stored) (wrong_databases (values_in stored) (catalog_left (values_in stored))))
