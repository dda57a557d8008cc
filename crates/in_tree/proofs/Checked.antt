-- What is taken before changes are written, and what holds when they were.
use Rattle.std.proofs.Common.{◌≡◌, ◌≤◌, ◌<◌, ◌+◌, ◌*◌, ◌||◌, ◌==◌, ◌++◌, ◌⊎◌, inl, inr, take, ℕ, List, [], ◌∷◌, Bool, true, false, cond, nat_lt, length, min, Option, None, Some, IfSome, is_some, Result, Ok, Err, OnOk, OnErr, IfOk, IfErr, refl, ap, ap₂, sym, subst, ◌∙◌, arith}
use Rattle.std.specs.Ordering.{nat_cmp}
use Rattle.std.specs.BTreeMap.{get}
use Rattle.std.specs.List.{AllByRecursion}
use Rattle.std.proofs.lemmas.Bool.{true≢false, eqb-true, ltb-true, ltb-false, lt-ltb, le-ltb}
use Rattle.std.proofs.lemmas.List.{take_all}
use Rattle.je_disk.specs.DiskMeaning.{DiskMeaning}
use Rattle.je_order.specs.declared.name.Name.{Name}
use Rattle.je_order.specs.declared.txn_id.TxnId.{TxnId}
use Rattle.log_entry.specs.declared.entry.Entry.{Entry}
use Rattle.log_buffer.specs.declared.buffer.LogBuffer.{LogBuffer}
use Rattle.log_buffer.specs.declared.log_pos.LogPos.{LogPos}
use Rattle.log_buffer.specs.Buffer.{has_failed, HasRoom, IsUnchanged}
use Rattle.log_buffer.specs.Flip.{end_after_all}
use Rattle.log_buffer.proofs.GrowthLaws.{grew_none}
use Rattle.record_map.specs.Cells.{value_at, IsRising}
use Rattle.record_tree.specs.declared.tree_change.TreeChange.{TreeChange}
use Rattle.record_tree.specs.declared.tree_err.TreeErr.{TreeErr}
use Rattle.record_tree.specs.declared.tree_err.TreeErr.TheVariants.{Fault, Full, IdsEnded, Memory}
use Rattle.record_tree.specs.Logged.{is_made, most_entries, makes_db, IsLimit, IsEndOf, LogsChanges, IsFront, last_change}
use Rattle.record_tree.specs.Occupied.{Occupied, AllCells, AreSame, AreWritten, IsWritten, value_in, write_in}
use Rattle.db_tree.specs.declared.tree.DbTree.{DbTree}
use Rattle.db_tree.specs.declared.slot_room.SlotRoom.{SlotRoom}
use Rattle.db_tree.specs.Seen.{occupied}
use Rattle.db_tree.proofs.Seen.{none_rise}
use Rattle.in_tree.specs.Forest.{Forest, IsSameForest, cells_of, cells_at, cells_seen, is_there, HasSameTrees, KeepsCells, HasOne}
use Rattle.in_tree.specs.Limits.{HasRoomFor, end_behind, commit_sizes, sizes_for, numbers_drawn, are_too_high, limit_behind, limit_of, GrewFitting, TriedFitting}
use Rattle.in_tree.specs.Fitting.{fits_none, fitting_unchanged, fitting_then, fitting_tried}
use Rattle.in_tree.specs.Placing.{ArePlaced, placed_sizes, numbers_of}
use Rattle.in_tree.specs.Shapes.{Shapes, shapes_of}
use Rattle.in_tree.proofs.Placings.{sizes_placed, numbers_placed, low_placed, placed_even, placed_same}
use Rattle.in_tree.specs.declared.placed.Placed.{Placed}
use Rattle.in_tree.proofs.Written.{entries_of, logs_all}

-- ---- databases without a tree

pub none_there : (forest : Forest) (d : ℕ) → is_there forest d ≡ false → cells_at forest d ≡ []
none_there forest d none = by_tree (get nat_cmp forest d) none
  where
    by_tree : (o : Option DbTree) → is_some o ≡ false → cells_of o ≡ []
    by_tree None h = refl
    by_tree (Some tree) h = absurd (true≢false h)

pub no_tree : (forest : Forest) (d : ℕ) → is_there forest d ≡ false → get nat_cmp forest d ≡ None
no_tree forest d none = by_tree (get nat_cmp forest d) none
  where
    by_tree : (o : Option DbTree) → is_some o ≡ false → o ≡ None
    by_tree None h = refl
    by_tree (Some tree) h = absurd (true≢false h)

pub rises_none : (forest : Forest) (d : ℕ) → None ≡ get nat_cmp forest d → IsRising (cells_seen forest d)
rises_none forest d none = subst (λ (o : Option DbTree). IsRising (occupied (cells_of o))) none none_rise

-- names rise where a database went
pub dropped_rise : (old new : AllCells) (db : ℕ) → ((d : ℕ) → new d ≡ cond (d == db) [] (old d)) → ((d : ℕ) → IsRising (old d)) → (d : ℕ) → IsRising (new d)
dropped_rise old new db has up d = subst IsRising (sym (has d)) (by_test (d == db))
  where
    by_test : (t : Bool) → IsRising (cond t [] (old d))
    by_test true = none_rise
    by_test false = up d

pub all_none : (forest : Forest) (changes : List TreeChange) → AllByRecursion (λ c. IfSome c.makes (λ d. is_there forest d ≡ false)) changes →
    AllByRecursion (λ c. IfSome c.makes (λ d. cells_at forest d ≡ [])) changes
all_none forest [] all = tt
all_none forest (c ∷ changes) all = (by_made c.makes all.0, all_none forest changes all.1)
  where
    by_made : (o : Option ℕ) → IfSome o (λ d. is_there forest d ≡ false) → IfSome o (λ d. cells_at forest d ≡ [])
    by_made None h = tt
    by_made (Some d) h = none_there forest d h

made_none : (old : Forest) (changes : List TreeChange) (d : ℕ) → AllByRecursion (λ c. IfSome c.makes (λ e. is_there old e ≡ false)) changes → is_made d changes ≡ true → is_there old d ≡ false
made_none old [] d all h = absurd (true≢false (sym h))
made_none old (c ∷ changes) d all h = by_made c.makes all.0 (made_none old changes d all.1) h
  where
    by_made : (o : Option ℕ) → IfSome o (λ e. is_there old e ≡ false) → (is_made d changes ≡ true → is_there old d ≡ false) → (makes_db d o || is_made d changes) ≡ true → is_there old d ≡ false
    by_made None none rest h = rest h
    by_made (Some e) none rest h = by_test (e == d) refl h
      where
        by_test : (t : Bool) → e == d ≡ t → (t || is_made d changes) ≡ true → is_there old d ≡ false
        by_test true is h = subst (λ (n : ℕ). is_there old n ≡ false) (eqb-true e d is) none
        by_test false is h = rest h

-- what was made was taken out again
pub trees_back : (old mid new : Forest) (changes : List TreeChange) → AllByRecursion (λ c. IfSome c.makes (λ e. is_there old e ≡ false)) changes → ((d : ℕ) → is_made d changes ≡ false → get nat_cmp mid d ≡ get nat_cmp old d) →
    ((d : ℕ) → get nat_cmp new d ≡ cond (is_made d changes) None (get nat_cmp mid d)) → IsSameForest old new
trees_back old mid new changes all stay back d = by_test (is_made d changes) refl
  where
    none_is : (o : Option DbTree) → is_some o ≡ false → None ≡ o
    none_is None h = refl
    none_is (Some t) h = absurd (true≢false h)

    by_test : (t : Bool) → is_made d changes ≡ t → get nat_cmp new d ≡ get nat_cmp old d
    by_test true is = back d ∙ ap (λ (t : Bool). cond t None (get nat_cmp mid d)) is ∙ none_is (get nat_cmp old d) (made_none old changes d all is)
    by_test false is = back d ∙ ap (λ (t : Bool). cond t None (get nat_cmp mid d)) is ∙ stay d is

-- what is the same of the same trees
pub same_trees_of : (old new : Forest) → IsSameForest old new → HasSameTrees old new
same_trees_of old new same d = ap (λ (t : Option DbTree). is_some t) (same d)

pub seen_rise : (old new : Forest) → AreSame (cells_seen old) (cells_seen new) → ((d : ℕ) → IsRising (cells_seen old d)) → (d : ℕ) → IsRising (cells_seen new d)
seen_rise old new same up d = subst IsRising (sym (same d)) (up d)

-- a database that changes make has no tree, where it had none before other steps that made none
pub none_still : (old new : Forest) (changes : List TreeChange) → HasSameTrees old new → AllByRecursion (λ c. IfSome c.makes (λ d. is_there old d ≡ false)) changes →
    AllByRecursion (λ c. IfSome c.makes (λ d. is_there new d ≡ false)) changes
none_still old new [] same all = tt
none_still old new (c ∷ changes) same all = (by_made c.makes all.0, none_still old new changes same all.1)
  where
    by_made : (o : Option ℕ) → IfSome o (λ d. is_there old d ≡ false) → IfSome o (λ d. is_there new d ≡ false)
    by_made None h = tt
    by_made (Some d) h = same d ∙ h

pub there_still : (old new : Forest) (changes : List TreeChange) → KeepsCells old new → AllByRecursion (λ c. HasOne old c.db c.name) changes → AllByRecursion (λ c. HasOne new c.db c.name) changes
there_still old new [] keeps all = tt
there_still old new (c ∷ changes) keeps all = (keeps c.db c.name all.0, there_still old new changes keeps all.1)

-- ---- how a call ended

pub if_ok_then : {X Y : Type 0} {P Q : X → Type 0} (r : Result X Y) → ((x : X) → P x → Q x) → IfOk r P → IfOk r Q
if_ok_then (Ok x) f h = f x h
if_ok_then (Err y) f h = tt

pub ends_by : {X P Q : Type 0} (r : Result X TreeErr) (reason : TreeErr) → (P → Q) → OnErr r P → IsEndOf reason r Q
ends_by (Ok x) reason f h = tt
ends_by (Err e) reason f h = λ is. f h

pub ends_never : {X : Type 0} (Q : Type 0) (r : Result X TreeErr) → IfErr r (λ e. e ≡ Fault) → IsEndOf Memory r Q
ends_never Q (Ok x) h = tt
ends_never Q (Err e) h = λ is. absurd (apart (sym h ∙ is))
  where
    is_fault : TreeErr → Type 0
    is_fault Fault = Fault ≡ Fault
    is_fault e = ⊥

    apart : Fault ≡ Memory → ⊥
    apart same = subst is_fault same refl

pub no_limit : {X : Type 0} (r : Result X TreeErr) → IfErr r (λ e. e ≡ Fault) → IfErr r (λ e. IsLimit e → ⊥)
no_limit (Ok x) h = tt
no_limit (Err e) h = λ limit. subst IsLimit h limit

-- ---- what was written

-- what is written stands to the cells before, where those were the same
pub written_since : (txn : TxnId) (changes : List TreeChange) (old mid new : AllCells) → AreSame old mid → AreWritten txn changes mid new → AreWritten txn changes old new
written_since txn changes old mid new same written = record {
  values = λ d x. written.values d x ∙ ap (λ (l : List (Name × Occupied)). value_in (value_at x l)) (same d);
  writes = λ d x. subst (λ (l : List (Name × Occupied)). IsWritten (last_change d x changes) txn (write_in (value_at x l)) (write_in (value_at x (new d)))) (same d) (written.writes d x);
}

module _ {D : Type 0} where
  -- room that was made in a log that is else the same
  pub room_made : (old new : LogBuffer D) (sizes : List ℕ) → IsUnchanged old new → HasRoom new sizes → has_failed old ≡ false → end_behind old sizes ≤ 0xfffffffe → HasRoomFor new sizes
  room_made old new sizes same room works files = record {
    works = same.failed ∙ works;
    room = room;
    files = subst (λ (n : ℕ). n ≤ 0xfffffffe) (sym (ap₂ (λ (m : ℕ) (e : LogPos). (end_after_all m e sizes).file) same.kept.max same.kept.end)) files;
  }

  module _ (meaning : DiskMeaning D) where
    pub grew_since : (txn : TxnId) (changes : List TreeChange) (old mid new : LogBuffer D) (images before between after : ℕ) → IsUnchanged old mid → images + between ≤ before + 129 * length changes → after ≤ between →
        (a : List Entry) × LogsChanges txn changes a × GrewFitting meaning mid new a × (length a ≡ images + length changes) →
        (a : List Entry) × LogsChanges txn changes a × GrewFitting meaning old new a × (length a + after ≤ before + most_entries (length changes))
    grew_since txn changes old mid new images before between after same few less grew = (
      grew.0,
      grew.1,
      fitting_then meaning old mid new [] grew.0 (fitting_unchanged meaning old mid same) grew.2,
      (let count = grew.3 in omega (arith, few, less, count)),
    )

    pub tried_since : (txn : TxnId) (changes : List TreeChange) (old mid new : LogBuffer D) → IsUnchanged old mid →
        (a : List Entry) × (f : List Entry) × LogsChanges txn changes a × IsFront f a × TriedFitting meaning mid new f →
        (a : List Entry) × (f : List Entry) × LogsChanges txn changes a × IsFront f a × TriedFitting meaning old new f
    tried_since txn changes old mid new same tried =
        (tried.0, tried.1, tried.2, tried.3, fitting_tried meaning old mid new [] tried.1 (fitting_unchanged meaning old mid same) tried.4)

-- ---- which limit is met

module _ {D : Type 0} (log : LogBuffer D) (fanout last : ℕ) (changes : List TreeChange) (owed : ℕ) where
  -- that of levels
  pub limit_high : (shapes : Shapes) → has_failed log ≡ false → are_too_high fanout shapes changes ≡ true → limit_of log fanout last shapes changes owed ≡ Some IdsEnded
  limit_high shapes works high =
      let rest : Option TreeErr = limit_behind log (sizes_for fanout shapes changes owed) (last + numbers_drawn fanout shapes changes) in
      ap (λ (t : Bool). cond t None (cond (are_too_high fanout shapes changes) (Some IdsEnded) rest)) works ∙ ap (λ (t : Bool). cond t (Some IdsEnded) rest) high

  -- and those behind the slots of the changes
  pub limit_placed : (rooms : List SlotRoom) (old new : Forest) → has_failed log ≡ false → ArePlaced fanout changes rooms old new →
      limit_of log fanout last (shapes_of old) changes owed ≡ limit_behind log (placed_sizes changes rooms ++ commit_sizes owed) (last + numbers_of changes rooms)
  limit_placed rooms old new works placed =
      let rest : Option TreeErr = limit_behind log (sizes_for fanout (shapes_of old) changes owed) (last + numbers_drawn fanout (shapes_of old) changes) in
      ap (λ (t : Bool). cond t None (cond (are_too_high fanout (shapes_of old) changes) (Some IdsEnded) rest)) works
      ∙ ap (λ (t : Bool). cond t (Some IdsEnded) rest) (low_placed fanout changes rooms old new placed)
      ∙ sym (ap₂ (λ (sizes : List ℕ) (n : ℕ). limit_behind log (sizes ++ commit_sizes owed) (last + n)) (sizes_placed fanout changes rooms old new placed) (numbers_placed fanout changes rooms old new placed))

  pub failed_no_limit : (shapes : Shapes) → has_failed log ≡ true → limit_of log fanout last shapes changes owed ≡ None
  failed_no_limit shapes failed =
      let rest : Option TreeErr = limit_behind log (sizes_for fanout shapes changes owed) (last + numbers_drawn fanout shapes changes) in
      ap (λ (t : Bool). cond t None (cond (are_too_high fanout shapes changes) (Some IdsEnded) rest)) failed

module _ {D : Type 0} (log : LogBuffer D) (sizes : List ℕ) where
  pub none_behind : (last : ℕ) → nat_lt 0xfffffffe (end_behind log sizes) ≡ false → last ≤ 0x7fffffffffffffff → limit_behind log sizes last ≡ None
  none_behind last files ids =
      ap (λ (t : Bool). cond t (Some Full) (cond (nat_lt 0x7fffffffffffffff last) (Some IdsEnded) None)) files ∙ ap (λ (t : Bool). cond t (Some IdsEnded) None) (le-ltb 0x7fffffffffffffff last ids)

  pub full_behind : (last : ℕ) → nat_lt 0xfffffffe (end_behind log sizes) ≡ true → limit_behind log sizes last ≡ Some Full
  full_behind last files = ap (λ (t : Bool). cond t (Some Full) (cond (nat_lt 0x7fffffffffffffff last) (Some IdsEnded) None)) files

  pub ended_behind : (last : ℕ) → nat_lt 0xfffffffe (end_behind log sizes) ≡ false → 0x7fffffffffffffff < last → limit_behind log sizes last ≡ Some IdsEnded
  ended_behind last files ids =
      ap (λ (t : Bool). cond t (Some Full) (cond (nat_lt 0x7fffffffffffffff last) (Some IdsEnded) None)) files ∙ ap (λ (t : Bool). cond t (Some IdsEnded) None) (lt-ltb 0x7fffffffffffffff last ids)

  -- a sum of numbers that is as great as 64 bits allow is beyond the last number as the whole sum is
  pub bounded_behind : (last : ℕ) → limit_behind log sizes (min last 0xffffffffffffffff) ≡ limit_behind log sizes last
  bounded_behind last = ap (λ (t : Bool). cond (nat_lt 0xfffffffe (end_behind log sizes)) (Some Full) (cond t (Some IdsEnded) None)) (same_test (nat_lt 0x7fffffffffffffff last) refl)
    where
      same_test : (t : Bool) → nat_lt 0x7fffffffffffffff last ≡ t → nat_lt 0x7fffffffffffffff (min last 0xffffffffffffffff) ≡ nat_lt 0x7fffffffffffffff last
      same_test true is = lt-ltb 0x7fffffffffffffff (min last 0xffffffffffffffff) (omega (arith, ltb-true 0x7fffffffffffffff last is)) ∙ sym is
      same_test false is = le-ltb 0x7fffffffffffffff (min last 0xffffffffffffffff) (omega (arith, ltb-false 0x7fffffffffffffff last is)) ∙ sym is

module _ {D : Type 0} (log : LogBuffer D) (fanout last : ℕ) (changes : List TreeChange) (owed : ℕ) (slots : Placed) (old new : Forest) where
  pub placed_limit : has_failed log ≡ false → ArePlaced fanout changes slots.rooms.items old new → slots.last ≡ min (last + numbers_of changes slots.rooms.items) 0xffffffffffffffff →
      limit_of log fanout last (shapes_of old) changes owed ≡ limit_behind log (placed_sizes changes slots.rooms.items ++ commit_sizes owed) slots.last
  placed_limit works placed is =
      limit_placed log fanout last changes owed slots.rooms.items old new works placed
      ∙ sym (bounded_behind log (placed_sizes changes slots.rooms.items ++ commit_sizes owed) (last + numbers_of changes slots.rooms.items))
      ∙ ap (limit_behind log (placed_sizes changes slots.rooms.items ++ commit_sizes owed)) (sym is)

  -- no limit was met
  pub limit_none : has_failed log ≡ false → ArePlaced fanout changes slots.rooms.items old new → slots.last ≡ min (last + numbers_of changes slots.rooms.items) 0xffffffffffffffff →
      nat_lt 0xfffffffe (end_behind log (placed_sizes changes slots.rooms.items ++ commit_sizes owed)) ≡ false → slots.last ≤ 0x7fffffffffffffff → limit_of log fanout last (shapes_of old) changes owed ≡ None
  limit_none works placed is files ids = placed_limit works placed is ∙ none_behind log (placed_sizes changes slots.rooms.items ++ commit_sizes owed) slots.last files ids

  -- one was
  pub limit_met : (e : TreeErr) → has_failed log ≡ false → ArePlaced fanout changes slots.rooms.items old new → slots.last ≡ min (last + numbers_of changes slots.rooms.items) 0xffffffffffffffff →
      (e ≡ Full → nat_lt 0xfffffffe (end_behind log (placed_sizes changes slots.rooms.items ++ commit_sizes owed)) ≡ true) →
      (e ≡ IdsEnded → (nat_lt 0xfffffffe (end_behind log (placed_sizes changes slots.rooms.items ++ commit_sizes owed)) ≡ false) × (0x7fffffffffffffff < slots.last)) →
      IsLimit e → limit_of log fanout last (shapes_of old) changes owed ≡ Some e
  limit_met Full works placed is full ended limit = placed_limit works placed is ∙ full_behind log (placed_sizes changes slots.rooms.items ++ commit_sizes owed) slots.last (full refl)
  limit_met IdsEnded works placed is full ended limit =
      let met = ended refl in placed_limit works placed is ∙ ended_behind log (placed_sizes changes slots.rooms.items ++ commit_sizes owed) slots.last met.0 met.1
  limit_met Fault works placed is full ended limit = absurd limit
  limit_met Memory works placed is full ended limit = absurd limit

pub never_fault : (e : TreeErr) → (e ≡ IdsEnded) ⊎ (e ≡ Memory) → e ≡ Fault → ⊥
never_fault e (inl is) fault = apart (sym is ∙ fault)
  where
    apart : IdsEnded ≡ Fault → ⊥
    apart h = cc
never_fault e (inr is) fault = apart (sym is ∙ fault)
  where
    apart : Memory ≡ Fault → ⊥
    apart h = cc

-- all slots are there to be taken back, after steps that left the trees as they were
pub all_back : (fanout : ℕ) (changes : List TreeChange) (rooms slice : List SlotRoom) (old mid new : Forest) → slice ≡ rooms → ArePlaced fanout changes rooms old mid → IsSameForest mid new → ArePlaced fanout (take (length slice) changes) slice old new
all_back fanout changes rooms slice old mid new is placed same =
    subst (λ (rs : List SlotRoom). ArePlaced fanout (take (length rs) changes) rs old new) (sym is)
    (subst (λ (cs : List TreeChange). ArePlaced fanout cs rooms old new) (sym (take_all (length rooms) changes (few (placed_even fanout changes rooms old mid placed)))) (placed_same fanout changes rooms old mid new placed same))
  where
    few : length rooms ≡ length changes → length changes ≤ length rooms
    few h = omega (arith, h)

pub few_then : (images waits less most : ℕ) → images + waits ≤ most → less ≤ waits → images + less ≤ most
few_then images waits less most few down = omega arith

pub few_back : (fanout : ℕ) (changes : List TreeChange) (rooms slice : List SlotRoom) (old mid : Forest) → slice ≡ rooms → ArePlaced fanout changes rooms old mid → length slice ≤ length changes
few_back fanout changes rooms slice old mid is placed = let even = ap (λ (l : List SlotRoom). length l) is in let same = placed_even fanout changes rooms old mid placed in omega (arith, even, same)

-- a buffer that has failed tried to log nothing
pub tried_none : {D : Type 0} (meaning : DiskMeaning D) (log : LogBuffer D) → has_failed log ≡ true → TriedFitting meaning log log []
tried_none meaning log failed =
    let grew = grew_none meaning log in
    record { tried = record { crash = grew.crash; max = grew.max; failed = failed; jobs = grew.jobs }; fits = fits_none log; never_falls = omega arith; rose = λ works. absurd cc }

pub tried_before : {D : Type 0} (meaning : DiskMeaning D) (txn : TxnId) (changes : List TreeChange) (log : LogBuffer D) → has_failed log ≡ true →
    (a : List Entry) × (f : List Entry) × LogsChanges txn changes a × IsFront f a × TriedFitting meaning log log f
tried_before meaning txn changes log failed =
    (entries_of txn changes, [], logs_all txn changes, (entries_of txn changes, refl), tried_none meaning log failed)

pub ends_with : {X P : Type 0} (r : Result X TreeErr) (reason : TreeErr) → IsEndOf reason r P → {Q : Type 0} → (P → Q) → IsEndOf reason r Q
ends_with (Ok x) reason h f = tt
ends_with (Err e) reason h f = λ is. f (h is)

pub ends_any : {X : Type 0} (r : Result X TreeErr) (reason : TreeErr) {Q : Type 0} → Q → IsEndOf reason r Q
ends_any (Ok x) reason h = tt
ends_any (Err e) reason h = λ is. h

pub ok_any : {X Y : Type 0} (r : Result X Y) {Q : Type 0} → Q → OnOk r Q
ok_any (Ok x) h = h
ok_any (Err y) h = tt

pub limit_never : {X : Type 0} (r : Result X TreeErr) (Q : TreeErr → Type 0) → IfErr r (λ e. IsLimit e → ⊥) → IfErr r (λ e. IsLimit e → Q e)
limit_never (Ok x) Q h = tt
limit_never (Err e) Q h = λ limit. absurd (h limit)

-- a number that is another one is not above what that is not above
pub le_of : {a b c : ℕ} → a ≡ b → b ≤ c → a ≤ c
le_of is le = omega (arith, is, le)
