-- Own changes in a primary and in its index keep up with each other.
use Rattle.std.proofs.Common.{◌≡◌, ◌⊎◌, inl, inr, ℕ, List, [], ◌∷◌, ◌++◌, Bool, true, false, cond, ◌&&◌, Option, None, Some, flat_map, append_assoc, refl, ap, sym, ◌∙◌, subst}
use Rattle.std.specs.List.{AllByRecursion}
use Rattle.std.proofs.lemmas.List.{append-nil}
use Rattle.std.proofs.lemmas.Bool.{cond-true, cond-false}
use Rattle.je_order.specs.Order.{is_same_bytes}
use Rattle.je_order.specs.declared.name.Name.{Name}
use Rattle.je_order.proofs.Lists.{all_append}
use Rattle.store_model.specs.declared.kind.Kind.TheVariants.{Plain, Dup}
use Rattle.store_model.specs.declared.index.Index.{Index}
use Rattle.store_model.specs.declared.record_change.RecordChange.{RecordChange}
use Rattle.store_model.specs.declared.record_change.RecordChange.TheVariants.{Set, Unset}
use Rattle.store_model.specs.Store.{Pair, HasRisingNames, pairs_changed, all_pairs_changed, changed_name, data_after}
use Rattle.store_model.specs.Indexes.{key_of, is_same_key, taken_out, put_in, keys_changed, index_pairs, data_under, changes_in}
use Rattle.store_model.proofs.Rows.{row, rising_changed, all_rising, all_changed-append, same_pairs}
use Rattle.store_model.proofs.IndexLaws.{bytes_are, is_key, pair_if, is_of, row_keys, row_taken, index_row, index_rises, data_changed}
use Rattle.index_laws.specs.Keeping.{HasNoneOf, HasNoPairOf, AreApart, IsUnset, KeepUp, OthersKeepUp, AreSeen, CallsKeepUp, Owns, AllKeepUp}
use Rattle.index_laws.proofs.Cells.{data_alike, data_stays, row_alike, row_stays}

-- ---- another transaction commits

-- what a name finds where an index keeps up
kept_row : (index : Index) (records pairs : List Pair) (own own_pairs : List RecordChange) (n : Name) → HasRisingNames Plain records → KeepUp index records pairs own own_pairs →
    row Dup n (all_pairs_changed Dup own_pairs pairs) ≡ pair_if n (is_of index.extract (data_under n.dup (all_pairs_changed Plain own records)) n)
kept_row index records pairs own own_pairs n up keep =
    ap (row Dup n) keep.same ∙ index_row index.extract (all_pairs_changed Plain own records) n (all_rising Plain own records up)

pub others-keep_up : OthersKeepUp
others-keep_up index records pairs own own_pairs other other_pairs up up_pairs apart keep keep_other = record {
  same = same_pairs Dup (all_pairs_changed Dup own_pairs pairs_then) (index_pairs index.extract (all_pairs_changed Plain own records_then))
      (all_rising Dup own_pairs pairs_then (all_rising Dup other_pairs pairs up_pairs)) (index_rises index.extract (all_pairs_changed Plain own records_then)) each;
  only = keep.only;
}
  where
    records_then : List Pair
    records_then = all_pairs_changed Plain other records

    pairs_then : List Pair
    pairs_then = all_pairs_changed Dup other_pairs pairs

    found : (n : Name) → row Dup n (index_pairs index.extract (all_pairs_changed Plain own records_then)) ≡ pair_if n (is_of index.extract (data_under n.dup (all_pairs_changed Plain own records_then)) n)
    found n = index_row index.extract (all_pairs_changed Plain own records_then) n (all_rising Plain own records_then (all_rising Plain other records up))

    its : (n : Name) → List Pair → Option Pair
    its n l = pair_if n (is_of index.extract (data_under n.dup l) n)

    by : (n : Name) → HasNoneOf n.dup own ⊎ HasNoneOf n.dup other → row Dup n (all_pairs_changed Dup own_pairs pairs_then) ≡ its n (all_pairs_changed Plain own records_then)
    by n (inl none) =
        row_stays own_pairs n pairs_then (keep.only n.dup none)
        ∙ kept_row index records pairs other other_pairs n up keep_other
        ∙ ap (λ (o : Option (List ℕ)). pair_if n (is_of index.extract o n)) (sym (data_stays own n.dup records_then none))
    by n (inr none) =
        row_alike own_pairs n pairs_then pairs (row_stays other_pairs n pairs (keep_other.only n.dup none))
        ∙ kept_row index records pairs own own_pairs n up keep
        ∙ ap (λ (o : Option (List ℕ)). pair_if n (is_of index.extract o n)) (data_alike own n.dup records records_then (sym (data_stays other n.dup records none)))

    each : (n : Name) → row Dup n (all_pairs_changed Dup own_pairs pairs_then) ≡ row Dup n (index_pairs index.extract (all_pairs_changed Plain own records_then))
    each n = by n (apart n.dup) ∙ sym (found n)

-- ---- the own changes of all

rest_keep : (index : Index) (records pairs : List Pair) (o : Owns) (os : List Owns) → HasRisingNames Plain records → HasRisingNames Dup pairs → KeepUp index records pairs o.0 o.1 →
    AllByRecursion (λ other. AreApart other.0 o.0) os → AllByRecursion (λ other. KeepUp index records pairs other.0 other.1) os →
    AllByRecursion (λ other. KeepUp index (all_pairs_changed Plain o.0 records) (all_pairs_changed Dup o.1 pairs) other.0 other.1) os
rest_keep index records pairs o [] up up_pairs keep apart each = tt
rest_keep index records pairs o (other ∷ os) up up_pairs keep apart each = (
  others-keep_up index records pairs other.0 other.1 o.0 o.1 up up_pairs apart.0 each.0 keep,
  rest_keep index records pairs o os up up_pairs keep apart.1 each.1,
)

pub all-keep_up : AllKeepUp
all-keep_up index records pairs [] up up_pairs same each apart = same
all-keep_up index records pairs (o ∷ os) up up_pairs same each apart =
    all_changed-append Dup o.1 (flat_map (λ x. x.1) os) pairs
    ∙ all-keep_up index (all_pairs_changed Plain o.0 records) (all_pairs_changed Dup o.1 pairs) os (all_rising Plain o.0 records up) (all_rising Dup o.1 pairs up_pairs) each.0.same
    (rest_keep index records pairs o os up up_pairs each.0 apart.0 each.1) apart.1
    ∙ ap (index_pairs index.extract) (sym (all_changed-append Plain o.0 (flat_map (λ x. x.0) os) records))

-- ---- a call

-- a record is seen as it is, or it is gone already and is taken out again
abbrev IsSeenOrGone : List Pair → List Pair → RecordChange → Type 0
IsSeenOrGone seen records c = (data_under (changed_name c).key seen ≡ data_under (changed_name c).key records) ⊎ (IsUnset c × (data_under (changed_name c).key records ≡ None))

-- what comes with a change of a record is of its pair
of_pair : (primary_key : List ℕ) (old new : Option (List ℕ)) (key : List ℕ) → is_same_bytes primary_key key ≡ false → HasNoPairOf key (keys_changed primary_key old new)
of_pair primary_key old new key apart = by (is_same_key old new)
  where
    taken : (o : Option (List ℕ)) → HasNoPairOf key (taken_out primary_key o)
    taken None = tt
    taken (Some k) = (apart, tt)

    put : (o : Option (List ℕ)) → HasNoPairOf key (put_in primary_key o)
    put None = tt
    put (Some k) = (apart, tt)

    by : (b : Bool) → HasNoPairOf key (cond b [] (taken_out primary_key old ++ put_in primary_key new))
    by true = tt
    by false = all_append (λ c. is_same_bytes (changed_name c).dup key ≡ false) (taken_out primary_key old) (put_in primary_key new) (taken old) (put new)

-- a pair that is gone is taken out again
row_gone : (primary_key : List ℕ) (old : Option (List ℕ)) (n : Name) (pairs : List Pair) → (is_same_bytes primary_key n.dup ≡ true → row Dup n pairs ≡ None) →
    row Dup n (all_pairs_changed Dup (keys_changed primary_key old None) pairs) ≡ cond (is_same_bytes primary_key n.dup) None (row Dup n pairs)
row_gone primary_key old n pairs gone = by_key old
  where
    its : Bool
    its = is_same_bytes primary_key n.dup

    stays : (b : Bool) → its ≡ b → row Dup n pairs ≡ cond b None (row Dup n pairs)
    stays true e = gone e
    stays false e = refl

    taken : (x b : Bool) → its ≡ b → cond (x && b) None (row Dup n pairs) ≡ cond b None (row Dup n pairs)
    taken true true e = refl
    taken true false e = refl
    taken false true e = gone e
    taken false false e = refl

    by_key : (o : Option (List ℕ)) → row Dup n (all_pairs_changed Dup (keys_changed primary_key o None) pairs) ≡ cond its None (row Dup n pairs)
    by_key None = stays its refl
    by_key (Some key) = row_taken primary_key (Some key) n pairs ∙ taken (is_key (Some key) n.key) its refl

none_of_append : (key : List ℕ) (xs ys : List RecordChange) → HasNoneOf key (xs ++ ys) → HasNoneOf key xs × HasNoneOf key ys
none_of_append key [] ys none = (tt, none)
none_of_append key (x ∷ xs) ys none = let rest = none_of_append key xs ys none.1 in ((none.0, rest.0), rest.1)

-- one change
one_keeps : (index : Index) (records pairs seen : List Pair) (own own_pairs : List RecordChange) (c : RecordChange) → HasRisingNames Plain records → HasRisingNames Dup pairs →
    IsSeenOrGone seen (all_pairs_changed Plain own records) c → KeepUp index records pairs own own_pairs → KeepUp index records pairs (own ++ c ∷ []) (own_pairs ++ changes_in (Some index) seen c)
one_keeps index records pairs seen own own_pairs c up up_pairs as_seen keep = record {
  same = all_changed-append Dup own_pairs changes pairs
      ∙ same_pairs Dup (all_pairs_changed Dup changes before_pairs) (index_pairs index.extract (pairs_changed Plain c before)) (all_rising Dup changes before_pairs (all_rising Dup own_pairs pairs up_pairs))
      (index_rises index.extract (pairs_changed Plain c before)) each
      ∙ ap (index_pairs index.extract) (sym (all_changed-append Plain own (c ∷ []) records));
  only = λ k none. let parts = none_of_append k own (c ∷ []) none in
      all_append (λ x. is_same_bytes (changed_name x).dup k ≡ false) own_pairs changes (keep.only k parts.0)
      (of_pair key (key_of index.extract (data_under key seen)) (key_of index.extract (data_after c)) k parts.1.0);
}
  where
    key : List ℕ
    key = (changed_name c).key

    changes : List RecordChange
    changes = changes_in (Some index) seen c

    before : List Pair
    before = all_pairs_changed Plain own records

    before_pairs : List Pair
    before_pairs = all_pairs_changed Dup own_pairs pairs

    up_before : HasRisingNames Plain before
    up_before = all_rising Plain own records up

    its : Name → Option (List ℕ) → Option Pair
    its n data_ = pair_if n (is_of index.extract data_ n)

    found : (n : Name) → row Dup n before_pairs ≡ its n (data_under n.dup before)
    found n = kept_row index records pairs own own_pairs n up keep

    if_either : (b : Bool) (n : Name) (x y : Option (List ℕ)) → cond b (its n x) (its n y) ≡ its n (cond b x y)
    if_either true n x y = refl
    if_either false n x y = refl

    ends : (n : Name) → cond (is_same_bytes key n.dup) (its n (data_after c)) (row Dup n before_pairs) ≡ row Dup n (index_pairs index.extract (pairs_changed Plain c before))
    ends n =
        ap (cond (is_same_bytes key n.dup) (its n (data_after c))) (found n)
        ∙ if_either (is_same_bytes key n.dup) n (data_after c) (data_under n.dup before)
        ∙ ap (its n) (sym (data_changed c n.dup before))
        ∙ sym (index_row index.extract (pairs_changed Plain c before) n (rising_changed Plain c before up_before))

    no_data : (change : RecordChange) → IsUnset change → data_after change ≡ None
    no_data (Set at value) is = absurd is
    no_data (Unset at) is = refl

    by : (n : Name) → IsSeenOrGone seen before c → row Dup n (all_pairs_changed Dup changes before_pairs) ≡ cond (is_same_bytes key n.dup) (its n (data_after c)) (row Dup n before_pairs)
    by n (inl same) =
        row_keys key (key_of index.extract (data_under key seen)) (key_of index.extract (data_after c)) n before_pairs
        (λ e. found n ∙ ap (λ (k : List ℕ). its n (data_under k before)) (sym (bytes_are key n.dup e)) ∙ ap (its n) (sym same))
    by n (inr gone) =
        let none = no_data c gone.0 in
        ap (λ (o : Option (List ℕ)). row Dup n (all_pairs_changed Dup (keys_changed key (key_of index.extract (data_under key seen)) (key_of index.extract o)) before_pairs)) none
        ∙ row_gone key (key_of index.extract (data_under key seen)) n before_pairs
        (λ e. found n ∙ ap (λ (k : List ℕ). its n (data_under k before)) (sym (bytes_are key n.dup e)) ∙ ap (its n) gone.1)
        ∙ ap (λ (o : Option (List ℕ)). cond (is_same_bytes key n.dup) (its n o) (row Dup n before_pairs)) (sym none)

    each : (n : Name) → row Dup n (all_pairs_changed Dup changes before_pairs) ≡ row Dup n (index_pairs index.extract (pairs_changed Plain c before))
    each n = by n as_seen ∙ ends n

-- after a record was taken out each other is seen as before, and it is gone itself
still_seen : (seen records : List Pair) (c d : RecordChange) → IsUnset c → IsUnset d → IsSeenOrGone seen records d → IsSeenOrGone seen (pairs_changed Plain c records) d
still_seen seen records (Set at value) d is is_d h = absurd is
still_seen seen records (Unset at) d is is_d h = by (is_same_bytes at.key (changed_name d).key) refl h
  where
    by : (b : Bool) → is_same_bytes at.key (changed_name d).key ≡ b → IsSeenOrGone seen records d → IsSeenOrGone seen (pairs_changed Plain (Unset at) records) d
    by true e k = inr (is_d, data_changed (Unset at) (changed_name d).key records ∙ cond-true (is_same_bytes at.key (changed_name d).key) None (data_under (changed_name d).key records) e)
    by false e (inl k) = inl (k ∙ sym (data_changed (Unset at) (changed_name d).key records ∙ cond-false (is_same_bytes at.key (changed_name d).key) None (data_under (changed_name d).key records) e))
    by false e (inr k) = inr (is_d, data_changed (Unset at) (changed_name d).key records ∙ cond-false (is_same_bytes at.key (changed_name d).key) None (data_under (changed_name d).key records) e ∙ k.1)

all_still : (seen records : List Pair) (c : RecordChange) (changes : List RecordChange) → IsUnset c → AllByRecursion IsUnset changes → AllByRecursion (IsSeenOrGone seen records) changes →
    AllByRecursion (IsSeenOrGone seen (pairs_changed Plain c records)) changes
all_still seen records c [] is all h = tt
all_still seen records c (d ∷ changes) is all h = (still_seen seen records c d is all.0 h.0, all_still seen records c changes is all.1 h.1)

unsets_keep : (index : Index) (records pairs seen : List Pair) (own own_pairs changes : List RecordChange) → HasRisingNames Plain records → HasRisingNames Dup pairs → AllByRecursion IsUnset changes →
    AllByRecursion (IsSeenOrGone seen (all_pairs_changed Plain own records)) changes → KeepUp index records pairs own own_pairs →
    KeepUp index records pairs (own ++ changes) (own_pairs ++ flat_map (changes_in (Some index) seen) changes)
unsets_keep index records pairs seen own own_pairs [] up up_pairs all as_seen keep =
    subst (λ (l : List RecordChange). KeepUp index records pairs l (own_pairs ++ [])) (sym (append-nil own)) (subst (KeepUp index records pairs own) (sym (append-nil own_pairs)) keep)
unsets_keep index records pairs seen own own_pairs (c ∷ changes) up up_pairs all as_seen keep =
    let ics = changes_in (Some index) seen c in
    let more = flat_map (changes_in (Some index) seen) changes in
    let first = one_keeps index records pairs seen own own_pairs c up up_pairs as_seen.0 keep in
    let now : AllByRecursion (IsSeenOrGone seen (all_pairs_changed Plain (own ++ c ∷ []) records)) changes =
    subst (λ (l : List Pair). AllByRecursion (IsSeenOrGone seen l) changes) (sym (all_changed-append Plain own (c ∷ []) records))
    (all_still seen (all_pairs_changed Plain own records) c changes all.0 all.1 as_seen.1) in
    subst (λ (l : List RecordChange). KeepUp index records pairs l (own_pairs ++ (ics ++ more))) (append_assoc own (c ∷ []) changes)
    (subst (KeepUp index records pairs ((own ++ c ∷ []) ++ changes)) (append_assoc own_pairs ics more)
    (unsets_keep index records pairs seen (own ++ c ∷ []) (own_pairs ++ ics) changes up up_pairs all.1 now first))

as_it_is : (seen records : List Pair) (changes : List RecordChange) → AreSeen seen records changes → AllByRecursion (IsSeenOrGone seen records) changes
as_it_is seen records [] h = tt
as_it_is seen records (c ∷ changes) h = (inl h.0, as_it_is seen records changes h.1)

pub calls-keep_up : CallsKeepUp
calls-keep_up index records pairs seen own own_pairs [] up up_pairs one as_seen keep = unsets_keep index records pairs seen own own_pairs [] up up_pairs tt tt keep
calls-keep_up index records pairs seen own own_pairs (Set at value ∷ []) up up_pairs one as_seen keep =
    subst (KeepUp index records pairs (own ++ Set at value ∷ [])) (ap (λ (l : List RecordChange). own_pairs ++ l) (sym (append-nil (changes_in (Some index) seen (Set at value)))))
    (one_keeps index records pairs seen own own_pairs (Set at value) up up_pairs (inl as_seen.0) keep)
calls-keep_up index records pairs seen own own_pairs (Set at value ∷ c ∷ changes) up up_pairs one as_seen keep = absurd one.0
calls-keep_up index records pairs seen own own_pairs (Unset at ∷ changes) up up_pairs one as_seen keep =
    unsets_keep index records pairs seen own own_pairs (Unset at ∷ changes) up up_pairs one (as_it_is seen (all_pairs_changed Plain own records) (Unset at ∷ changes) as_seen) keep
