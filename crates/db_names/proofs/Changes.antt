-- Names with one more, or one less.
use Rattle.std.proofs.Common.{◌≡◌, ℕ, ◌<◌, ◌==◌, nat_lt, Less, Equal, Greater, arith, Bool, true, false, cond, List, [], ◌∷◌, ◌++◌, Option, None, Some, is_some, option_map, refl, sym, subst, ap, ◌+◌, ◌∙◌, map}
use Rattle.std.specs.Prelude.{OnOk, Result, Ok, Err, length, get_or, take}
use Rattle.std.specs.declared.alloc.AllocError.{AllocError}
use Rattle.std.proofs.lemmas.List.{map-append, take_more}
use Rattle.record_tree.specs.declared.record_ref.RecordRef.{RecordRef}
use Rattle.record_tree.specs.Stored.{lent}
use Rattle.std.specs.Ordering.{nat_cmp, is_eq}
use Rattle.std.proofs.lemmas.Bool.{ltb-true, eqb-true}
use Rattle.log_replay.specs.Rows.{Row, catalog_number, row_numbered}
use Rattle.db_names.specs.declared.db_names.DbNames.{DbNames}
use Rattle.db_names.specs.Names.{HasNames, Names, names_in, with_name}

-- a number is at the place of itself alone
is_number : (n q : ℕ) → is_eq (nat_cmp n q) ≡ (n == q)
is_number n q = by (nat_lt n q) refl (n == q) refl
  where
    by : (low : Bool) → nat_lt n q ≡ low → (b : Bool) → (n == q) ≡ b → is_eq (cond low Less (cond b Equal Greater)) ≡ b
    by true l true e = let lt : n < q = ltb-true n q l in let eq : n ≡ q = eqb-true n q e in absurd (omega arith)
    by true l false e = refl
    by false l true e = refl
    by false l false e = refl

pub updated : (n : ℕ) (w : Option (List ℕ)) (names : Names) (old new : Names) → ((q : ℕ) → old q ≡ names q) → ((q : ℕ) → new q ≡ cond (is_eq (nat_cmp n q)) w (old q)) → (q : ℕ) → new q ≡ with_name n w names q
updated n w names old new has is q = is q ∙ ap (λ (b : Bool). cond b w (old q)) (is_number n q) ∙ ap (λ (x : Option (List ℕ)). cond (n == q) w x) (has q)

-- a record behind others of a catalog
behind : (n : ℕ) (rows : List Row) (r : Row) (o : Option Row) → row_numbered n rows ≡ o → row_numbered n (rows ++ r ∷ []) ≡ cond (is_some o) o (cond (catalog_number r.1 == n) (Some r) None)
behind n [] r o is = ap (λ (x : Option Row). cond (is_some x) x (cond (catalog_number r.1 == n) (Some r) None)) is
behind n (x ∷ rows) r o is = by (catalog_number x.1 == n) is (behind n rows r o)
  where
    by : (b : Bool) → cond b (Some x) (row_numbered n rows) ≡ o → (row_numbered n rows ≡ o → row_numbered n (rows ++ r ∷ []) ≡ cond (is_some o) o (cond (catalog_number r.1 == n) (Some r) None)) →
        cond b (Some x) (row_numbered n (rows ++ r ∷ [])) ≡ cond (is_some o) o (cond (catalog_number r.1 == n) (Some r) None)
    by true h rest = ap (λ (y : Option Row). cond (is_some y) y (cond (catalog_number r.1 == n) (Some r) None)) h
    by false h rest = rest h

-- it names its number where that one has no name, and else all is as before
pub first_named : (rows : List Row) (r : Row) (n : ℕ) → names_in rows (catalog_number r.1) ≡ None → names_in (rows ++ r ∷ []) n ≡ with_name (catalog_number r.1) (Some r.0.key) (names_in rows) n
first_named rows r n none = by (row_numbered n rows) refl (catalog_number r.1 == n) refl
  where
    by : (o : Option Row) → row_numbered n rows ≡ o → (b : Bool) → (catalog_number r.1 == n) ≡ b → names_in (rows ++ r ∷ []) n ≡ cond b (Some r.0.key) (names_in rows n)
    by None is true e = ap (option_map (λ (x : Row). x.0.key)) (behind n rows r None is ∙ ap (λ (b : Bool). cond b (Some r) None) e)
    by None is false e = ap (option_map (λ (x : Row). x.0.key)) (behind n rows r None is ∙ ap (λ (b : Bool). cond b (Some r) None) e ∙ sym is)
    by (Some x) is true e =
        let here : names_in rows n ≡ None = ap (names_in rows) (sym (eqb-true (catalog_number r.1) n e)) ∙ none in
        absurd (let no : Some x.0.key ≡ None = sym (ap (option_map (λ (y : Row). y.0.key)) is) ∙ here in cc)
    by (Some x) is false e = ap (option_map (λ (y : Row). y.0.key)) (behind n rows r (Some x) is ∙ sym is)

named_before : (rows : List Row) (r : Row) (n : ℕ) (name : List ℕ) → names_in rows (catalog_number r.1) ≡ Some name → names_in (rows ++ r ∷ []) n ≡ names_in rows n
named_before rows r n name some = by (row_numbered n rows) refl (catalog_number r.1 == n) refl
  where
    by : (o : Option Row) → row_numbered n rows ≡ o → (b : Bool) → (catalog_number r.1 == n) ≡ b → names_in (rows ++ r ∷ []) n ≡ names_in rows n
    by None is true e =
        let here : names_in rows n ≡ Some name = ap (names_in rows) (sym (eqb-true (catalog_number r.1) n e)) ∙ some in
        absurd (let no : None ≡ Some name = sym (ap (option_map (λ (y : Row). y.0.key)) is) ∙ here in cc)
    by None is false e = ap (option_map (λ (x : Row). x.0.key)) (behind n rows r None is ∙ ap (λ (b : Bool). cond b (Some r) None) e ∙ sym is)
    by (Some x) is b e = ap (option_map (λ (y : Row). y.0.key)) (behind n rows r (Some x) is ∙ sym is)

mapped_some : {X : Type 0} (f : X → List ℕ) (o : Option X) → is_some (option_map f o) ≡ is_some o
mapped_some f None = refl
mapped_some f (Some x) = refl

-- where the number has a name already, nothing changes
pub named_there : {X : Type 0} (f : X → List ℕ) (o : Option X) (rows : List Row) (r : Row) (n : ℕ) → option_map f o ≡ names_in rows (catalog_number r.1) → is_some o ≡ true → names_in (rows ++ r ∷ []) n ≡ names_in rows n
named_there f o rows r n is some = by (names_in rows (catalog_number r.1)) refl (sym (ap is_some is) ∙ mapped_some f o ∙ some)
  where
    by : (x : Option (List ℕ)) → names_in rows (catalog_number r.1) ≡ x → is_some x ≡ true → names_in (rows ++ r ∷ []) n ≡ names_in rows n
    by None e h = absurd cc
    by (Some name) e h = named_before rows r n name e

no_name : {X : Type 0} (f : X → List ℕ) (o : Option X) (x : Option (List ℕ)) → option_map f o ≡ x → is_some o ≡ false → x ≡ None
no_name f None x is none = sym is
no_name f (Some y) x is none = absurd cc

-- where it has none, the name is put
pub named_new : {X : Type 0} (f : X → List ℕ) (o : Option X) (rows : List Row) (r : Row) (map : DbNames) (result : Result (Unit {0}) AllocError) → option_map f o ≡ names_in rows (catalog_number r.1) → is_some o ≡ false →
    OnOk result (HasNames (with_name (catalog_number r.1) (Some r.0.key) (names_in rows)) map) → OnOk result (HasNames (names_in (rows ++ r ∷ [])) map)
named_new f o rows r map (Ok done) is none has = λ n. has n ∙ sym (first_named rows r n (no_name f o (names_in rows (catalog_number r.1)) is none))
named_new f o rows r map (Err error) is none has = tt

-- the next of some records
pub next_named : (records : List RecordRef) (i : ℕ) (r : RecordRef) (map_ : DbNames) → i < length records → r ≡ get_or records i r →
    HasNames (names_in (lent (take i records) ++ (r.name.now, r.value.now) ∷ [])) map_ → HasNames (names_in (lent (take (i + 1) records))) map_
next_named records i r map_ within is has =
    subst (λ (rows : List Row). HasNames (names_in rows) map_)
    (sym (ap lent (take_more records i r within ∙ ap (λ (y : RecordRef). take i records ++ y ∷ []) (sym is)) ∙ map-append (λ (x : RecordRef). (x.name.now, x.value.now)) (take i records) (r ∷ []))) has
