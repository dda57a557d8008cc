-- Images get the LSNs of children.
use Rattle.std.proofs.Common.{◌≡◌, ◌-◌, ◌<◌, ◌≤◌, ◌+◌, ◌^◌, ◌&&◌, ◌∷◌, [], ℕ, zero, suc, List, Bool, map, take, set, get_or, length, refl, ap, ap₂, sym, subst, ◌∙◌, arith, is_lt}
use Rattle.std.specs.List.{AllByRecursion}
use Rattle.std.proofs.lemmas.List.{length-map}
use Rattle.je_order.specs.Order.{name_cmp}
use Rattle.je_order.specs.declared.name.Name.{Name}
use Rattle.log_entry.specs.Encoding.{size_of}
use Rattle.log_entry.specs.Items.{IsChildSlot, child_before, rises, rises_from}
use Rattle.log_entry.specs.declared.child_slot.ChildSlot.{ChildSlot}
use Rattle.log_entry.specs.declared.entry.Entry.{Entry}
use Rattle.log_entry.specs.declared.entry.Entry.TheVariants.{FileHeader, Put, Delete, Migrated, Commit, In, Bin, BinDelta, CkptStart, CkptEnd, FileSummary}
use Rattle.tree_nodes.specs.Nodes.{NodeRow}
use Rattle.db_tree.specs.NodeImages.{IsLoggable, last_at, finished_slots, finished_below, finished_entry}
use Rattle.db_tree.proofs.ImageSizes.{slots_length}

-- ---- slot by slot

pub finish_begin : (rows : List NodeRow) (level : ℕ) (children : List Name) (slots : List ChildSlot) → slots ≡ finished_slots rows level (take 0 children) slots
finish_begin rows level [] [] = refl
finish_begin rows level [] (s ∷ slots) = refl
finish_begin rows level (c ∷ children) [] = refl
finish_begin rows level (c ∷ children) (s ∷ slots) = refl

get_kept : (rows : List NodeRow) (level : ℕ) (children : List Name) (slots : List ChildSlot) (i : ℕ) (d : ChildSlot) → i < length slots → (get_or (finished_slots rows level (take i children) slots) i d).name ≡ (get_or slots i d).name
get_kept rows level children [] i d within = absurd (omega (arith, within))
get_kept rows level [] (s ∷ slots) zero d within = refl
get_kept rows level (c ∷ children) (s ∷ slots) zero d within = refl
get_kept rows level [] (s ∷ slots) (suc i) d within = refl
get_kept rows level (c ∷ children) (s ∷ slots) (suc i) d within = let less : i < length slots = omega (arith, within) in get_kept rows level children slots i d less

set_next : (rows : List NodeRow) (level : ℕ) (children : List Name) (slots : List ChildSlot) (i : ℕ) (name : Name) (d : ChildSlot) → i < length slots → i < length children →
    set (finished_slots rows level (take i children) slots) i (record { name = (get_or slots i d).name; child = last_at rows level (get_or children i name) }) ≡ finished_slots rows level (take (suc i) children) slots
set_next rows level children [] i name d within more = absurd (omega (arith, within))
set_next rows level [] (s ∷ slots) i name d within more = absurd (omega (arith, more))
set_next rows level (c ∷ children) (s ∷ slots) zero name d within more = ap (λ (l : List ChildSlot). record { name = s.name; child = last_at rows level c } ∷ l) (finish_begin rows level children slots)
set_next rows level (c ∷ children) (s ∷ slots) (suc i) name d within more =
    let less : i < length slots = omega (arith, within) in
    let fewer : i < length children = omega (arith, more) in
    ap (λ (l : List ChildSlot). record { name = s.name; child = last_at rows level c } ∷ l) (set_next rows level children slots i name d less fewer)

-- one slot more
pub finish_next : (rows : List NodeRow) (level : ℕ) (children : List Name) (old slots : List ChildSlot) (i at : ℕ) (low : Name) (other : ChildSlot) → i < length slots → i < length children → low ≡ get_or children i low → at ≡ last_at rows level low →
    slots ≡ finished_slots rows level (take i children) old → length slots ≡ length old →
    set slots i (record { name = (get_or slots i other).name; child = at }) ≡ finished_slots rows level (take (i + 1) children) old
finish_next rows level children old slots i at low other within more is made are height =
    let less : i < length old = omega (arith, within, height) in
    let next : suc i ≡ i + 1 = omega arith in
    ap₂ (λ (l : List ChildSlot) (s : ChildSlot). set l i s) are
    (ap₂ (λ (n : Name) (c : ℕ). record { name = n; child = c }) (ap (λ (l : List ChildSlot). (get_or l i other).name) are ∙ get_kept rows level children old i other less) (made ∙ ap (last_at rows level) is))
    ∙ set_next rows level children old i low other less more
    ∙ ap (λ (n : ℕ). finished_slots rows level (take n children) old) next

pub set_height : (slots : List ChildSlot) (i : ℕ) (s : ChildSlot) → length (set slots i s) ≡ length slots
set_height [] i s = refl
set_height (x ∷ slots) zero s = refl
set_height (x ∷ slots) (suc i) s = ap suc (set_height slots i s)

-- there are no more children
take_past : (children : List Name) (i : ℕ) → length children ≤ i → take i children ≡ children
take_past [] zero past = refl
take_past [] (suc i) past = refl
take_past (c ∷ children) zero past = absurd (omega (arith, past))
take_past (c ∷ children) (suc i) past = let less : length children ≤ i = omega (arith, past) in ap (λ (l : List Name). c ∷ l) (take_past children i less)

pub finish_past : (rows : List NodeRow) (level : ℕ) (children : List Name) (slots : List ChildSlot) (i : ℕ) → length children ≤ i → finished_slots rows level (take i children) slots ≡ finished_slots rows level children slots
finish_past rows level children slots i past = ap (λ (l : List Name). finished_slots rows level l slots) (take_past children i past)

-- there are no more slots
pub finish_all : (rows : List NodeRow) (level : ℕ) (children : List Name) (slots : List ChildSlot) (i : ℕ) → length slots ≤ i → finished_slots rows level (take i children) slots ≡ finished_slots rows level children slots
finish_all rows level [] slots zero past = refl
finish_all rows level [] slots (suc i) past = refl
finish_all rows level (c ∷ children) [] zero past = refl
finish_all rows level (c ∷ children) [] (suc i) past = refl
finish_all rows level (c ∷ children) (s ∷ slots) zero past = absurd (omega (arith, past))
finish_all rows level (c ∷ children) (s ∷ slots) (suc i) past =
    let less : length slots ≤ i = omega (arith, past) in ap (λ (l : List ChildSlot). record { name = s.name; child = last_at rows level c } ∷ l) (finish_all rows level children slots i less)

-- each slot is one that an entry may have
get_all : (slots : List ChildSlot) (i : ℕ) (d : ChildSlot) → i < length slots → AllByRecursion IsChildSlot slots → IsChildSlot (get_or slots i d)
get_all [] i d within all = absurd (omega (arith, within))
get_all (s ∷ slots) zero d within all = all.0
get_all (s ∷ slots) (suc i) d within all = let less : i < length slots = omega (arith, within) in get_all slots i d less all.1

set_all : (slots : List ChildSlot) (i : ℕ) (s : ChildSlot) → IsChildSlot s → AllByRecursion IsChildSlot slots → AllByRecursion IsChildSlot (set slots i s)
set_all [] i s is all = tt
set_all (x ∷ slots) zero s is all = (is, all.1)
set_all (x ∷ slots) (suc i) s is all = (all.0, set_all slots i s is all.1)

pub each_next : (slots : List ChildSlot) (i at : ℕ) (other : ChildSlot) → i < length slots → at < 2 ^ 64 → AllByRecursion IsChildSlot slots → AllByRecursion IsChildSlot (set slots i (record { name = (get_or slots i other).name; child = at }))
each_next slots i at other within less all = set_all slots i (record { name = (get_or slots i other).name; child = at }) ((get_all slots i other within all).0, less) all

-- ---- the entry

pub names_kept : (rows : List NodeRow) (level : ℕ) (children : List Name) (slots : List ChildSlot) → map (λ (s : ChildSlot). s.name) (finished_slots rows level children slots) ≡ map (λ (s : ChildSlot). s.name) slots
names_kept rows level children [] = refl
names_kept rows level [] (s ∷ slots) = refl
names_kept rows level (c ∷ children) (s ∷ slots) = ap (λ (l : List Name). s.name ∷ l) (names_kept rows level children slots)

pub below_kept : (rows : List NodeRow) (level : ℕ) (children : List Name) (slots : List ChildSlot) → map (λ (s : ChildSlot). s.name) (finished_below rows level children slots) ≡ map (λ (s : ChildSlot). s.name) slots
below_kept rows zero children slots = refl
below_kept rows (suc level) children slots = names_kept rows level children slots

pub finished_zero : (rows : List NodeRow) (level : ℕ) (children : List Name) (e : Entry) → level ≡ 0 → e ≡ finished_entry rows level children e
finished_zero rows level children (In db number of_level slots) is = sym (ap (λ (l : ℕ). In db number of_level (finished_below rows l children slots)) is)
finished_zero rows level children (FileHeader version file) is = refl
finished_zero rows level children (Put txn db name value) is = refl
finished_zero rows level children (Delete txn db name) is = refl
finished_zero rows level children (Migrated db name value) is = refl
finished_zero rows level children (Commit txn) is = refl
finished_zero rows level children (Bin db node slots) is = refl
finished_zero rows level children (BinDelta db node full slots) is = refl
finished_zero rows level children (CkptStart number) is = refl
finished_zero rows level children (CkptEnd number start redo last_txn last_node last_db summary roots) is = refl
finished_zero rows level children (FileSummary files) is = refl

pub finished_in : (rows : List NodeRow) (level : ℕ) (children : List Name) (db number of_level : ℕ) (slots new : List ChildSlot) → (level ≡ 0 → ⊥) → new ≡ finished_slots rows (level - 1) children slots →
    In db number of_level new ≡ finished_entry rows level children (In db number of_level slots)
finished_in rows zero children db number of_level slots new other is = absurd (other refl)
finished_in rows (suc level) children db number of_level slots new other is =
    let below : suc level - 1 ≡ level = omega arith in
    ap (In db number of_level) (is ∙ ap (λ (l : ℕ). finished_slots rows l children slots) below)

pub finished_size : (rows : List NodeRow) (level : ℕ) (children : List Name) (e : Entry) → size_of (finished_entry rows level children e) ≡ size_of e
finished_size rows level children (In db number of_level slots) = ap (λ (n : ℕ). 14 + (15 + n)) (slots_length (finished_below rows level children slots) slots (below_kept rows level children slots))
finished_size rows level children (FileHeader version file) = refl
finished_size rows level children (Put txn db name value) = refl
finished_size rows level children (Delete txn db name) = refl
finished_size rows level children (Migrated db name value) = refl
finished_size rows level children (Commit txn) = refl
finished_size rows level children (Bin db node slots) = refl
finished_size rows level children (BinDelta db node full slots) = refl
finished_size rows level children (CkptStart number) = refl
finished_size rows level children (CkptEnd number start redo last_txn last_node last_db summary roots) = refl
finished_size rows level children (FileSummary files) = refl

abbrev name_head : Name → List Name → Name
name_head n [] = n
name_head n (m ∷ ms) = m

abbrev name_tail : List Name → List Name
name_tail [] = []
name_tail (m ∷ ms) = ms

-- slots of the same names rise alike
rise_names : (x y : ChildSlot) (a b : List ChildSlot) → x.name ≡ y.name → map (λ (s : ChildSlot). s.name) a ≡ map (λ (s : ChildSlot). s.name) b → rises_from child_before x a ≡ rises_from child_before y b
rise_names x y [] [] same names = refl
rise_names x y [] (t ∷ b) same names = absurd (omega (arith, ap length names))
rise_names x y (s ∷ a) [] same names = absurd (omega (arith, ap length names))
rise_names x y (s ∷ a) (t ∷ b) same names =
    let heads : s.name ≡ t.name = ap (name_head s.name) names in
    ap₂ (λ (p q : Bool). p && q) (ap₂ (λ (m n : Name). is_lt (name_cmp m n)) same heads) (rise_names s t a b heads (ap name_tail names))

rises_names : (a b : List ChildSlot) → map (λ (s : ChildSlot). s.name) a ≡ map (λ (s : ChildSlot). s.name) b → rises child_before a ≡ rises child_before b
rises_names [] [] names = refl
rises_names [] (t ∷ b) names = absurd (omega (arith, ap length names))
rises_names (s ∷ a) [] names = absurd (omega (arith, ap length names))
rises_names (s ∷ a) (t ∷ b) names = rise_names s t a b (ap (name_head s.name) names) (ap name_tail names)

pub loggable_in : (db number of_level : ℕ) (old new : List ChildSlot) → map (λ (s : ChildSlot). s.name) new ≡ map (λ (s : ChildSlot). s.name) old → (AllByRecursion IsChildSlot old → AllByRecursion IsChildSlot new) →
    IsLoggable (In db number of_level old) → IsLoggable (In db number of_level new)
loggable_in db number of_level old new names each is =
    let few : length new ≡ length old = sym (length-map new (λ (s : ChildSlot). s.name)) ∙ ap length names ∙ length-map old (λ (s : ChildSlot). s.name) in (
      (
        is.0.0,
        is.0.1,
        is.0.2,
        is.0.3,
        subst (λ (n : ℕ). 0 < n) (sym few) is.0.4,
        record {
          each = each is.0.5.each;
          few = subst (λ (n : ℕ). n ≤ 128) (sym few) is.0.5.few;
          rise = rises_names new old names ∙ is.0.5.rise;
        },
      ),
      is.1,
    )
