-- Ranges that a transaction's locks shut: each occupied name in it is locked, and so is its upper end, which stays occupied.
use Rattle.std.proofs.Common.{◌≡◌, ◌⊎◌, inl, inr, ℕ, Bool, true, false, not, ◌&&◌, List, [], ◌∷◌, map, filter, find, Option, None, Some, refl, ap, sym, ◌∙◌, subst, ⊎_elim, Ordering, Less, Equal, Greater, is_gt, is_ge}
use Rattle.std.specs.List.{AllByRecursion}
use Rattle.std.proofs.lemmas.Bool.{cases_Bool, both_ways}
use Rattle.je_order.specs.Edges.{Edge, is_below}
use Rattle.je_order.specs.Edges.Edge.{First, At, Behind, End}
use Rattle.je_order.specs.Order.{name_cmp}
use Rattle.je_order.specs.declared.name.Name.{Name}
use Rattle.je_order.proofs.Orderings.{name_exact}
use Rattle.je_order.specs.declared.bound.Bound.{Bound}
use Rattle.je_order.specs.declared.bound.Bound.TheVariants.{At as On, End as AtEnd}
use Rattle.je_order.specs.declared.txn_id.TxnId.{TxnId}
use Rattle.je_order.specs.Transactions.{is_same_txn}
use Rattle.lock_mode.specs.declared.lock_type.LockType.{LockType}
use Rattle.lock_mode.specs.declared.lock_type.LockType.TheVariants.{RangeInsert}
use Rattle.lock_table.specs.declared.record_id.RecordId.{RecordId}
use Rattle.lock_table.specs.Locks.{is_range, is_write}
use Rattle.store_model.specs.declared.kind.Kind.{Kind}
use Rattle.store_model.specs.declared.need.Need.{Need}
use Rattle.store_model.specs.Store.{Pair, name_of}
use Rattle.store_model.specs.Reads.{Way, Range, is_within, range, seen, passed_to, last_of, taken_by}
use Rattle.store_model.specs.Reads.Way.{Lowest, Highest, Each}
use Rattle.store_model.specs.Needs.{Part, need, ends, place_of, first_from, needs_behind, part_needs}
use Rattle.je_answers.specs.Locking.{Queues, record_of}
use Rattle.standing_laws.proofs.Among.{IsAmong, all_at, among_filter, filter_among, among_map, among_first, among_second, found_is}
use Rattle.serial_replay.proofs.Rising.{RisesBy, found_least, none_passes, same_names}
use Rattle.serial_replay.proofs.Locality.{within_behind, within_from}
use Rattle.serial_replay.proofs.EdgeOrder.{at_or_below, less_is_below, less_not_ge, not_ge_less, below_less, not_below_up}
use Rattle.serial_replay.proofs.Holding.{Holds, IsFreeNeed, range_can, conflicts_write, conflicts_insert}
use Rattle.serial_replay.proofs.Occupied.{HasRecord}

-- ---- ranges

-- the names from an edge up to a place, with it
pub record Closed : Type 0 where
  pub from : Edge
  pub top : Bound

abbrev pub is_upto : Bound → Name → Bool
is_upto (On y) x = is_ge (name_cmp y x)
is_upto AtEnd x = true

abbrev pub is_inside : Closed → Name → Bool
is_inside c x = not (is_below c.from x) && is_upto c.top x

abbrev pub place : ℕ → Bound → RecordId
place n b = record { db = n; at = b }

-- the end of a database is always there
abbrev pub IsThere : (Name → Type 0) → Bound → Type 0
IsThere occupied (On y) = occupied y
IsThere occupied AtEnd = Unit {0}

pub record IsShut (at : Queues) (occupied : Name → Type 0) (t : TxnId) (n : ℕ) (c : Closed) : Type 0 where
  pub inside : (x : Name) → occupied x → is_inside c x ≡ true → Holds is_range t (at (place n (On x))).0
  pub top : Holds is_range t (at (place n c.top)).0
  pub stays : IsThere occupied c.top

-- the range of one name alone
abbrev pub only : Name → Closed
only n = record { from = At n; top = On n }

-- ---- tests of two parts

parts : (a b : Bool) → (not a && b) ≡ true → (a ≡ false) × (b ≡ true)
parts true b h = absurd (cc (h))
parts false b h = (refl, h)

joined : (a b : Bool) → a ≡ false → b ≡ true → (not a && b) ≡ true
joined a b h k = cc (h, k)

second_fails : (a b : Bool) → (not a && b) ≡ false → a ≡ false → b ≡ false
second_fails true b h k = absurd (cc (k))
second_fails false b h k = h

-- ---- the range of a read

-- the place of an edge behind a name
abbrev pub edge_top : Edge → Bound
edge_top First = AtEnd
edge_top (At y) = AtEnd
edge_top (Behind y) = On y
edge_top End = AtEnd

-- the upper end of what a read locks: the record that was answered, or the first place behind what was passed
abbrev pub top_of : Bool → Edge → List Name → Bound
top_of true upto names = edge_top upto
top_of false upto names = first_from upto names

abbrev pub closed_by : Range → Bool → List Name → Closed
closed_by r ended names = record { from = r.from; top = top_of ended r.upto names }

-- where the answered record is the end, it is the last name that was passed
pub record IsEndedBy (kind : Kind) (view : List Pair) (r passed : Range) : Type 0 where
  pub last : Pair
  pub there : IsAmong last view
  pub within : is_within r (name_of kind last) ≡ true
  pub is : passed ≡ range r.from (Behind (name_of kind last))

first_taken : (l : List Pair) (p : Pair) (ps : List Pair) → taken_by Lowest l ≡ p ∷ ps → IsAmong p l
first_taken [] p ps e = absurd (cc (e))
first_taken (q ∷ l) p ps e = inl (head e)
  where
    head : q ∷ [] ≡ p ∷ ps → q ≡ p
    head k = cc (k)

-- the first of a range is there, and within it
pub lowest_there : (kind : Kind) (r : Range) (view : List Pair) (p : Pair) (ps : List Pair) → seen kind Lowest r view ≡ p ∷ ps → IsAmong p view × (is_within r (name_of kind p) ≡ true)
lowest_there kind r view p ps e = filter_among (λ (q : Pair). is_within r (name_of kind q)) view p (first_taken (filter (λ q. is_within r (name_of kind q)) view) p ps e)

last_among : (l : List Pair) (p : Pair) → IsAmong p (last_of l) → IsAmong p l
last_among [] p a = a
last_among (q ∷ []) p a = a
last_among (q ∷ x ∷ l) p a = inr (last_among (x ∷ l) p a)

-- what was taken is there, and was passed
pub taken_there : (kind : Kind) (way : Way) (r : Range) (view : List Pair) (p : Pair) (ps : List Pair) → seen kind way r view ≡ p ∷ ps → IsAmong p view × (is_within (passed_to kind way r (p ∷ ps)) (name_of kind p) ≡ true)
taken_there kind Lowest r view p ps e = let k = lowest_there kind r view p ps e in (k.0, within_behind r (name_of kind p) (name_of kind p) k.1 (inl refl))
taken_there kind Highest r view p ps e =
    let test : Pair → Bool = λ q. is_within r (name_of kind q) in
    let f = filter_among test view p (last_among (filter test view) p (subst (IsAmong p) (sym e) (inl refl))) in (f.0, within_from r (name_of kind p) (name_of kind p) f.1 (inl refl))
taken_there kind Each r view p ps e = filter_among (λ (q : Pair). is_within r (name_of kind q)) view p (subst (IsAmong p) (sym e) (inl refl))

pub ended_by : (kind : Kind) (way : Way) (r : Range) (view : List Pair) (answered : Bool) (taken : List Pair) → seen kind way r view ≡ taken → ends way answered taken ≡ true → IsEndedBy kind view r (passed_to kind way r taken)
ended_by kind Lowest r view answered [] e h = absurd (cc (h))
ended_by kind Lowest r view answered (p ∷ ps) e h =
    let f = filter_among (λ (q : Pair). is_within r (name_of kind q)) view p (first_taken (filter (λ q. is_within r (name_of kind q)) view) p ps e) in
    record { last = p; there = f.0; within = f.1; is = refl }
ended_by kind Highest r view answered taken e h = absurd (cc (h))
ended_by kind Each r view answered taken e h = absurd (cc (h))

module _ (kind : Kind) (view : List Pair) (r passed : Range) (ended : Bool) (names : List Name) (is_end : ended ≡ true → IsEndedBy kind view r passed) where
  -- what was passed is inside
  pub covers : (x : Name) → is_within passed x ≡ true → is_inside (closed_by passed ended names) x ≡ true
  covers x h = by ended refl
    where
      p : (is_below passed.from x ≡ false) × (is_below passed.upto x ≡ true)
      p = parts (is_below passed.from x) (is_below passed.upto x) h

      upto : (b : Bool) → ended ≡ b → is_upto (top_of b passed.upto names) x ≡ true
      upto true e = let i = is_end e in
          ap (λ (q : Range). is_upto (edge_top q.upto) x) i.is ∙ (ap (λ (q : Range). is_below q.upto x) (sym i.is) ∙ p.1)
      upto false e = found (find (λ n. not (is_below passed.upto n)) names) refl
        where
          not_true : (b : Bool) → not b ≡ true → b ≡ false
          not_true true k = absurd (cc (k))
          not_true false k = refl

          found : (o : Option Name) → find (λ n. not (is_below passed.upto n)) names ≡ o → is_upto (place_of o) x ≡ true
          found None f = refl
          found (Some y) f = less_is_below x y (below_less passed.upto x y p.1 (not_true (is_below passed.upto y) (found_is (λ n. not (is_below passed.upto n)) names y f).1))

      by : (b : Bool) → ended ≡ b → is_inside (closed_by passed ended names) x ≡ true
      by b e = joined (is_below passed.from x) (is_upto (top_of ended passed.upto names) x) p.0
          (subst (λ (d : Bool). is_upto (top_of d passed.upto names) x ≡ true) (sym e) (upto b e))

  module _ (at : Queues) (t : TxnId) (n : ℕ) (inside behind : LockType) (part : Part) (part_is : part ≡ record { inside = inside; behind = Some behind }) (in_range : is_range inside ≡ true) (behind_range : is_range behind ≡ true)
      (got : AllByRecursion (λ (m : Need). is_range m.asked ≡ true → Holds is_range t (at (record_of m)).0) (part_needs n (Some part) passed ended names)) (occupied : Name → Type 0)
      (listed : (x : Name) → IsAmong x names → occupied x) (has : (x : Name) → occupied x → IsAmong x names) (up : RisesBy (λ m. m) names)
      (seen_there : (x : Name) → HasRecord kind view x → occupied x) where
    all_at_need : (m : Need) → IsAmong m (part_needs n (Some part) passed ended names) → is_range m.asked ≡ true → Holds is_range t (at (record_of m)).0
    all_at_need m a h = all_at (λ (k : Need). is_range k.asked ≡ true → Holds is_range t (at (record_of k)).0) (part_needs n (Some part) passed ended names) m got a h

    -- an occupied name that was passed is locked
    locked : (x : Name) → IsAmong x names → is_within passed x ≡ true → Holds is_range t (at (place n (On x))).0
    locked x a h = all_at_need (need n (On x) part.inside)
        (among_first (map (λ m. need n (On m) part.inside) (filter (is_within passed) names)) (needs_behind n part.behind ended (first_from passed.upto names)) (need n (On x) part.inside)
        (among_map (λ (m : Name). need n (On m) part.inside) (filter (is_within passed) names) x (among_filter (is_within passed) names x a h)))
        (ap (λ (q : Part). is_range q.inside) part_is ∙ in_range)

    -- so is the place behind, where the read did not end at its record
    locked_behind : ended ≡ false → Holds is_range t (at (place n (first_from passed.upto names))).0
    locked_behind e = all_at_need (need n (first_from passed.upto names) behind)
        (among_second (map (λ m. need n (On m) part.inside) (filter (is_within passed) names)) (needs_behind n part.behind ended (first_from passed.upto names)) (need n (first_from passed.upto names) behind)
        (subst (IsAmong (need n (first_from passed.upto names) behind)) (sym (them e)) (inl refl)))
        behind_range
      where
        them : ended ≡ false → needs_behind n part.behind ended (first_from passed.upto names) ≡ need n (first_from passed.upto names) behind ∷ []
        them k = ap (λ (b : Bool). needs_behind n part.behind b (first_from passed.upto names)) k ∙ ap (λ (q : Part). needs_behind n q.behind false (first_from passed.upto names)) part_is

    last_named : (i : IsEndedBy kind view r passed) → IsAmong (name_of kind i.last) names
    last_named i = has (name_of kind i.last) (seen_there (name_of kind i.last) (record { pair = i.last; there = i.there; named = refl }))

    last_within : (i : IsEndedBy kind view r passed) → is_within passed (name_of kind i.last) ≡ true
    last_within i = subst (λ (q : Range). is_within q (name_of kind i.last) ≡ true) (sym i.is)
        (joined (is_below r.from (name_of kind i.last)) (is_below (Behind (name_of kind i.last)) (name_of kind i.last)) (parts (is_below r.from (name_of kind i.last)) (is_below r.upto (name_of kind i.last)) i.within).0
        (ap is_ge (same_names (name_of kind i.last))))

    pub shuts : IsShut at occupied t n (closed_by passed ended names)
    shuts = record { inside = inside_is; top = by_top ended refl; stays = by_stays ended refl }
      where
        inside_is : (x : Name) → occupied x → is_inside (closed_by passed ended names) x ≡ true → Holds is_range t (at (place n (On x))).0
        inside_is x o h = ⊎_elim (λ w. locked x (has x o) w) (λ w. outside w ended refl) (cases_Bool (is_within passed x))
          where
            p : (is_below passed.from x ≡ false) × (is_upto (top_of ended passed.upto names) x ≡ true)
            p = parts (is_below passed.from x) (is_upto (top_of ended passed.upto names) x) h

            outside : is_within passed x ≡ false → (b : Bool) → ended ≡ b → Holds is_range t (at (place n (On x))).0
            outside w true e = let i = is_end e in
                absurd (both_ways (is_within passed x) w (joined (is_below passed.from x) (is_below passed.upto x) p.0
                (ap (λ (q : Range). is_below q.upto x) i.is ∙ (ap (λ (q : Range). is_upto (edge_top q.upto) x) (sym i.is) ∙ subst (λ (b : Bool). is_upto (top_of b passed.upto names) x ≡ true) e p.1))))
            outside w false e = by (find test names) refl
              where
                test : Name → Bool
                test m = not (is_below passed.upto m)

                passes : test x ≡ true
                passes = ap not (second_fails (is_below passed.from x) (is_below passed.upto x) w p.0)

                upto : is_upto (first_from passed.upto names) x ≡ true
                upto = subst (λ (b : Bool). is_upto (top_of b passed.upto names) x ≡ true) e p.1

                by : (f : Option Name) → find test names ≡ f → Holds is_range t (at (place n (On x))).0
                by None f = absurd (none_passes test names x f (has x o) passes)
                by (Some y) f = same (found_least (λ (m : Name). m) test names y x up f (has x o) passes)
                  where
                    behind_it : Holds is_range t (at (place n (On y))).0
                    behind_it = subst (λ (q : Option Name). Holds is_range t (at (place n (place_of q))).0) f (locked_behind e)

                    over : is_ge (name_cmp y x) ≡ true
                    over = subst (λ (q : Option Name). is_upto (place_of q) x ≡ true) f upto

                    same : (y ≡ x) ⊎ (name_cmp y x ≡ Less) → Holds is_range t (at (place n (On x))).0
                    same (inl k) = subst (λ (m : Name). Holds is_range t (at (place n (On m))).0) k behind_it
                    same (inr less) = absurd (both_ways (is_ge (name_cmp y x)) (less_not_ge y x less) over)

        by_top : (b : Bool) → ended ≡ b → Holds is_range t (at (place n (top_of ended passed.upto names))).0
        by_top true e = let i = is_end e in
            subst (λ (b : Bool). Holds is_range t (at (place n (top_of b passed.upto names))).0) (sym e)
            (subst (λ (q : Range). Holds is_range t (at (place n (edge_top q.upto))).0) (sym i.is) (locked (name_of kind i.last) (last_named i) (last_within i)))
        by_top false e = subst (λ (b : Bool). Holds is_range t (at (place n (top_of b passed.upto names))).0) (sym e) (locked_behind e)

        by_stays : (b : Bool) → ended ≡ b → IsThere occupied (top_of ended passed.upto names)
        by_stays true e = let i = is_end e in
            subst (λ (b : Bool). IsThere occupied (top_of b passed.upto names)) (sym e)
            (subst (λ (q : Range). IsThere occupied (edge_top q.upto)) (sym i.is) (listed (name_of kind i.last) (last_named i)))
        by_stays false e = subst (λ (b : Bool). IsThere occupied (top_of b passed.upto names)) (sym e) (found (find (λ m. not (is_below passed.upto m)) names) refl)
          where
            found : (o : Option Name) → find (λ m. not (is_below passed.upto m)) names ≡ o → IsThere occupied (place_of o)
            found None f = tt
            found (Some y) f = listed y (found_is (λ m. not (is_below passed.upto m)) names y f).0

-- ---- one name

only_is : (x y : Name) → is_inside (only x) y ≡ true → x ≡ y
only_is x y h = by (name_cmp x y) refl (parts (is_below (At x) y) (is_upto (On x) y) h)
  where
    by : (o : Ordering) → name_cmp x y ≡ o → (is_gt (name_cmp x y) ≡ false) × (is_ge (name_cmp x y) ≡ true) → x ≡ y
    by Less e p = absurd (both_ways (is_ge (name_cmp x y)) (ap is_ge e) p.1)
    by Equal e p = name_exact x y e
    by Greater e p = absurd (both_ways (is_gt (name_cmp x y)) p.0 (ap is_gt e))

-- an occupied name that is locked is shut
pub only_shut : (at : Queues) (occupied : Name → Type 0) (t : TxnId) (n : ℕ) (x : Name) → occupied x → Holds is_range t (at (place n (On x))).0 → IsShut at occupied t n (only x)
only_shut at occupied t n x o h = record {
  inside = λ y k i. subst (λ (m : Name). Holds is_range t (at (place n (On m))).0) (only_is x y i) h;
  top = h;
  stays = o;
}

-- ---- no name comes into a range

-- what another transaction got where it writes a name: the lock there, and, unless the name is occupied, the leave to come in front of the next
pub record MayWrite (at : Queues) (occupied : Name → Type 0) (names : List Name) (u : TxnId) (n : ℕ) (x : Name) : Type 0 where
  pub asked : LockType
  pub writes : is_write asked ≡ true
  pub free : IsFreeNeed u at (need n (On x) asked)
  pub comes : occupied x ⊎ IsFreeNeed u at (need n (first_from (Behind x) names) RangeInsert)

module _ (at : Queues) (occupied : Name → Type 0) (names : List Name) (listed : (x : Name) → IsAmong x names → occupied x) (has : (x : Name) → occupied x → IsAmong x names) (up : RisesBy (λ m. m) names)
    (t u : TxnId) (apart : is_same_txn t u ≡ false) (n : ℕ) (c : Closed) (shut : IsShut at occupied t n c) (x : Name) (may : MayWrite at occupied names u n x) where
  -- the writer meets no lock of the other at the name
  met : Holds is_range t (at (place n (On x))).0 → ⊥
  met h = may.free t h.mode apart h.held (conflicts_write h.mode may.asked (range_can h.mode h.its) may.writes)

  -- nor in front of the next
  met_next : IsFreeNeed u at (need n (first_from (Behind x) names) RangeInsert) → Holds is_range t (at (place n (first_from (Behind x) names))).0 → ⊥
  met_next free h = free t h.mode apart h.held (conflicts_insert h.mode h.its)

  pub no_phantom : is_inside c x ≡ true → ⊥
  no_phantom h = by may.comes
    where
      p : (is_below c.from x ≡ false) × (is_upto c.top x ≡ true)
      p = parts (is_below c.from x) (is_upto c.top x) h

      test : Name → Bool
      test m = not (is_below (Behind x) m)

      not_true : (b : Bool) → not b ≡ true → b ≡ false
      not_true true k = absurd (cc (k))
      not_true false k = refl

      -- an occupied name behind it, up to the top, is locked
      inside : (y : Name) → occupied y → name_cmp x y ≡ Less → is_upto c.top y ≡ true → Holds is_range t (at (place n (On y))).0
      inside y o less top = shut.inside y o (joined (is_below c.from y) (is_upto c.top y) (not_below_up c.from x y p.0 less) top)

      -- the next occupied name
      at_next : IsFreeNeed u at (need n (first_from (Behind x) names) RangeInsert) → (f : Option Name) → find test names ≡ f → (b : Bound) → c.top ≡ b → ⊥
      at_next free None f AtEnd e = met_next free (subst (λ (q : Bound). Holds is_range t (at (place n q)).0) (e ∙ ap place_of (sym f)) shut.top)
      at_next free None f (On y) e = ends_at (at_or_below x y (subst (λ (q : Bound). is_upto q x ≡ true) e p.1))
        where
          ends_at : (x ≡ y) ⊎ (name_cmp x y ≡ Less) → ⊥
          ends_at (inl k) = met (subst (λ (q : Bound). Holds is_range t (at (place n q)).0) (e ∙ ap (λ (m : Name). On m) (sym k)) shut.top)
          ends_at (inr less) = none_passes test names y f (has y (subst (IsThere occupied) e shut.stays)) (ap not (less_not_ge x y less))
      at_next free (Some z) f b e = met_next free (subst (λ (q : Option Name). Holds is_range t (at (place n (place_of q))).0) (sym f) (held b e))
        where
          k : IsAmong z names × (test z ≡ true)
          k = found_is test names z f

          above : name_cmp x z ≡ Less
          above = not_ge_less x z (not_true (is_below (Behind x) z) k.1)

          held : (q : Bound) → c.top ≡ q → Holds is_range t (at (place n (On z))).0
          held AtEnd d = inside z (listed z k.0) above (subst (λ (q : Bound). is_upto q z ≡ true) (sym d) refl)
          held (On y) d = ends_at (at_or_below x y (subst (λ (q : Bound). is_upto q x ≡ true) d p.1))
            where
              upto_y : (z ≡ y) ⊎ (name_cmp z y ≡ Less) → is_ge (name_cmp y z) ≡ true
              upto_y (inl i) = ap is_ge (ap (name_cmp y) i ∙ same_names y)
              upto_y (inr less) = less_is_below z y less

              ends_at : (x ≡ y) ⊎ (name_cmp x y ≡ Less) → Holds is_range t (at (place n (On z))).0
              ends_at (inl i) = absurd (met (subst (λ (q : Bound). Holds is_range t (at (place n q)).0) (d ∙ ap (λ (m : Name). On m) (sym i)) shut.top))
              ends_at (inr less) = inside z (listed z k.0) above (subst (λ (q : Bound). is_upto q z ≡ true) (sym d)
                  (upto_y (found_least (λ (m : Name). m) test names z y up f (has y (subst (IsThere occupied) d shut.stays)) (ap not (less_not_ge x y less)))))

      by : occupied x ⊎ IsFreeNeed u at (need n (first_from (Behind x) names) RangeInsert) → ⊥
      by (inl o) = met (shut.inside x o h)
      by (inr free) = at_next free (find test names) refl c.top refl
