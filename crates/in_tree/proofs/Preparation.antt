-- Trees that are made for the databases of changes, and taken out again.
use Rattle.std.proofs.Common.{◌≡◌, ◌≤◌, ◌<◌, ◌+◌, ◌^◌, ◌==◌, ◌||◌, ◌⊎◌, ◌∙◌, ℕ, min, arith, length, get_or, drop, List, [], ◌∷◌, Bool, true, false, cond, Option, None, Some, IfSome, refl, ap, sym, subst, inl, inr}
use Rattle.std.proofs.Math.Nat.{le_refl, le_trans}
use Rattle.std.specs.Ordering.{is_eq, nat_cmp}
use Rattle.std.specs.BTreeMap.{get}
use Rattle.std.specs.List.{AllByRecursion}
use Rattle.std.proofs.lemmas.Bool.{eq-eqb, ne_eqb, true≢false}
use Rattle.std.proofs.lemmas.List.{drop_all}
use Rattle.std.proofs.lemmas.Option.{same_Some}
use Rattle.db_tree.proofs.Ending.{next_left}
use Rattle.db_tree.specs.declared.tree.DbTree.{DbTree}
use Rattle.record_tree.specs.declared.tree_change.TreeChange.{TreeChange}
use Rattle.record_tree.specs.Logged.{is_made, makes_db}
use Rattle.record_tree.specs.Occupied.{AreSame}
use Rattle.in_tree.specs.Forest.{Forest, cells_at, cells_seen, is_there, KeepsCells}
use Rattle.db_tree.specs.declared.slot_room.SlotRoom.{SlotRoom}
use Rattle.db_tree.specs.Shapes.{made_by}
use Rattle.tree_images.specs.TreeSteps.{IsNewTree}
use Rattle.in_tree.specs.Limits.{one_made}
use Rattle.in_tree.specs.Placing.{IsMadeBy, AreMadeBy}
use Rattle.in_tree.specs.Waits.{waits_in}
use Rattle.in_tree.proofs.Forests.{number_cases}

-- the test of a number, the other way round
pub same_test : (a b : ℕ) → (a == b) ≡ (b == a)
same_test a b = by_number (number_cases a b)
  where
    by_number : (a ≡ b) ⊎ ((b == a ≡ false) × (is_eq (nat_cmp a b) ≡ false)) → (a == b) ≡ (b == a)
    by_number (inl same) = subst (λ (e : ℕ). (a == e) ≡ (e == a)) same refl
    by_number (inr apart) = ne_eqb a b (λ (h : a ≡ b). absurd (true≢false (sym (eq-eqb b a (sym h)) ∙ apart.0))) ∙ sym apart.0

-- ---- making trees

-- some trees were made, and those of the changes that are left are not
pub record MakesLeft (old new : Forest) (changes left : List TreeChange) : Type 0 where
  pub same : AreSame (cells_seen old) (cells_seen new)
  pub none : AllByRecursion (λ c. IfSome c.makes (λ d. cells_at new d ≡ [])) left
  pub made : (d : ℕ) → (is_made d left || is_there new d) ≡ (is_made d changes || is_there old d)
  pub stay : (d : ℕ) → is_made d changes ≡ false → get nat_cmp new d ≡ get nat_cmp old d
  pub within : (d : ℕ) → is_made d changes ≡ false → is_made d left ≡ false
  pub kept : KeepsCells old new
  pub waits : waits_in new ≤ waits_in old

pub makes_begin : (old : Forest) (changes : List TreeChange) → AllByRecursion (λ c. IfSome c.makes (λ d. cells_at old d ≡ [])) changes → MakesLeft old old changes changes
makes_begin old changes none = record { same = λ d. refl; none = none; made = λ d. refl; stay = λ d h. refl; within = λ d h. h; kept = λ d x h. h; waits = le_refl (waits_in old) }

none_stays : (old new : Forest) (changes : List TreeChange) → ((d : ℕ) → cells_at old d ≡ [] → cells_at new d ≡ []) →
    AllByRecursion (λ c. IfSome c.makes (λ d. cells_at old d ≡ [])) changes → AllByRecursion (λ c. IfSome c.makes (λ d. cells_at new d ≡ [])) changes
none_stays old new [] keeps all = tt
none_stays old new (c ∷ changes) keeps all = (by_made c.makes all.0, none_stays old new changes keeps all.1)
  where
    by_made : (o : Option ℕ) → IfSome o (λ d. cells_at old d ≡ []) → IfSome o (λ d. cells_at new d ≡ [])
    by_made None h = tt
    by_made (Some d) h = keeps d h

or_swap : (a b c : Bool) → (b || (a || c)) ≡ ((a || b) || c)
or_swap true true c = refl
or_swap true false c = refl
or_swap false b c = refl

pub or_false_right : (a b : Bool) → (a || b) ≡ false → b ≡ false
or_false_right true b h = absurd (true≢false h)
or_false_right false b h = h

pub or_false_left : (a b : Bool) → (a || b) ≡ false → a ≡ false
or_false_left true b h = absurd (true≢false h)
or_false_left false b h = refl

-- what one change more did, whether memory ran out or not
pub record MadeOne (old new : Forest) (c : TreeChange) : Type 0 where
  pub same : AreSame (cells_seen old) (cells_seen new)
  pub stay : (d : ℕ) → makes_db d c.makes ≡ false → get nat_cmp new d ≡ get nat_cmp old d
  pub none : (d : ℕ) → cells_at old d ≡ [] → cells_at new d ≡ []
  pub kept : KeepsCells old new
  pub waits : waits_in new ≤ waits_in old

pub makes_step : (old mid new : Forest) (changes left : List TreeChange) (c : TreeChange) → MakesLeft old mid changes (c ∷ left) → MadeOne mid new c →
    ((d : ℕ) → is_there new d ≡ (makes_db d c.makes || is_there mid d)) → MakesLeft old new changes left
makes_step old mid new changes left c so_far one made = record {
  same = λ d. one.same d ∙ so_far.same d;
  none = none_stays mid new left one.none so_far.none.1;
  made = λ d. ap (λ (t : Bool). is_made d left || t) (made d) ∙ or_swap (makes_db d c.makes) (is_made d left) (is_there mid d) ∙ so_far.made d;
  stay = λ d h. one.stay d (or_false_left (makes_db d c.makes) (is_made d left) (so_far.within d h)) ∙ so_far.stay d h;
  within = λ d h. or_false_right (makes_db d c.makes) (is_made d left) (so_far.within d h);
  kept = λ d x there. one.kept d x (so_far.kept d x there);
  waits = le_trans one.waits so_far.waits;
}

-- before one more, and behind the last one
pub makes_turn : (old new : Forest) (changes : List TreeChange) (i : ℕ) (c : TreeChange) → i < length changes → c ≡ get_or changes i c → MakesLeft old new changes (drop i changes) → MakesLeft old new changes (c ∷ drop (i + 1) changes)
makes_turn old new changes i c within is so_far = subst (λ (l : List TreeChange). MakesLeft old new changes l) (next_left changes i c within is) so_far

pub makes_end : (old new : Forest) (changes : List TreeChange) (i : ℕ) → length changes ≤ i → MakesLeft old new changes (drop i changes) → (d : ℕ) → is_there new d ≡ (is_made d changes || is_there old d)
makes_end old new changes i all so_far d = (subst (λ (l : List TreeChange). MakesLeft old new changes l) (drop_all i changes all) so_far).made d

-- the trees of some changes were made, whose roots have their numbers; those that are left are not
pub record RootsLeft (first : ℕ) (old now : Forest) (changes left : List TreeChange) (rooms slots : List SlotRoom) (last : ℕ) : Type 0 where
  pub exact : ℕ
  pub last_is : last ≡ min exact 0xffffffffffffffff
  pub paired : length slots ≡ length left
  pub trees : (new : Forest) → AreMadeBy exact left slots now new → AreMadeBy first changes rooms old new

pub roots_begin : (first : ℕ) (old : Forest) (changes : List TreeChange) (rooms : List SlotRoom) → first < 2 ^ 64 → length rooms ≡ length changes → RootsLeft first old old changes changes rooms rooms first
roots_begin first old changes rooms bound paired = record { exact = first; last_is = omega (arith, bound); paired = paired; trees = λ new made. made }

-- one change's tree was made, if it makes one
pub roots_step : (first : ℕ) (old mid now : Forest) (changes left : List TreeChange) (c : TreeChange) (rooms slots : List SlotRoom) (slot : SlotRoom) (last next : ℕ) → RootsLeft first old mid changes (c ∷ left) rooms (slot ∷ slots) last →
    next ≡ min (last + (made_by slot + one_made c.makes)) 0xffffffffffffffff → IfSome c.makes (λ d. (tree : DbTree) × IsNewTree next tree × (get nat_cmp now d ≡ Some tree)) →
    ((d : ℕ) → makes_db d c.makes ≡ false → get nat_cmp now d ≡ get nat_cmp mid d) → RootsLeft first old now changes left rooms slots next
roots_step first old mid now changes left c rooms slots slot last next so_far next_is made stay = record {
  exact = so_far.exact + (made_by slot + one_made c.makes);
  last_is = (let is = so_far.last_is in omega (arith, is, next_is));
  paired = (let even = so_far.paired in omega (arith, even));
  trees = λ new rest. so_far.trees new (λ d tree there. step d tree (rest d tree there));
}
  where
    one : (makes : Option ℕ) → c.makes ≡ makes → IfSome makes (λ d. (tree : DbTree) × IsNewTree next tree × (get nat_cmp now d ≡ Some tree)) → ((d : ℕ) → makes_db d makes ≡ false → get nat_cmp now d ≡ get nat_cmp mid d) →
        (d : ℕ) (tree : DbTree) → get nat_cmp now d ≡ Some tree → (get nat_cmp mid d ≡ Some tree) ⊎ ((c.makes ≡ Some d) × IsNewTree (min (so_far.exact + (made_by slot + 1)) 0xffffffffffffffff) tree)
    one None is made stay d tree there = inl (sym (stay d refl) ∙ there)
    one (Some b) is made stay d tree there = by_number (number_cases b d)
      where
        number : next ≡ min (so_far.exact + (made_by slot + 1)) 0xffffffffffffffff
        number = let last_is = so_far.last_is in let one_is : one_made c.makes ≡ 1 = ap one_made is in omega (arith, last_is, next_is, one_is)

        by_number : (b ≡ d) ⊎ ((d == b ≡ false) × (is_eq (nat_cmp b d) ≡ false)) → (get nat_cmp mid d ≡ Some tree) ⊎ ((c.makes ≡ Some d) × IsNewTree (min (so_far.exact + (made_by slot + 1)) 0xffffffffffffffff) tree)
        by_number (inl same) =
            let tree_is : made.0 ≡ tree = same_Some made.0 tree (sym made.2 ∙ ap (λ (e : ℕ). get nat_cmp now e) same ∙ there) in
            inr (is ∙ ap (λ (e : ℕ). Some e) same, subst (λ (n : ℕ). IsNewTree n tree) number (subst (IsNewTree next) tree_is made.1))
        by_number (inr apart) = inl (sym (stay d (same_test b d ∙ apart.0)) ∙ there)

    joined : (d : ℕ) (tree : DbTree) → (get nat_cmp mid d ≡ Some tree) ⊎ ((c.makes ≡ Some d) × IsNewTree (min (so_far.exact + (made_by slot + 1)) 0xffffffffffffffff) tree) →
        (get nat_cmp mid d ≡ Some tree) ⊎ IsMadeBy so_far.exact (c ∷ left) (slot ∷ slots) d tree
    joined d tree (inl there) = inl there
    joined d tree (inr h) = inr (inl h)

    step : (d : ℕ) (tree : DbTree) → (get nat_cmp now d ≡ Some tree) ⊎ IsMadeBy (so_far.exact + (made_by slot + one_made c.makes)) left slots d tree → (get nat_cmp mid d ≡ Some tree) ⊎ IsMadeBy so_far.exact (c ∷ left) (slot ∷ slots) d tree
    step d tree (inl there) = joined d tree (one c.makes refl made stay d tree there)
    step d tree (inr h) = inr (inr h)

-- each change has its room
pub within_rooms : {i a b : ℕ} → a ≡ b → i < b → i < a
within_rooms is lt = omega (arith, is, lt)

-- before one more, and behind the last one
pub roots_turn : (first : ℕ) (old now : Forest) (changes : List TreeChange) (rooms : List SlotRoom) (i : ℕ) (c : TreeChange) (room : SlotRoom) (last : ℕ) → i < length changes → c ≡ get_or changes i c → i < length rooms → room ≡ get_or rooms i room →
    RootsLeft first old now changes (drop i changes) rooms (drop i rooms) last → RootsLeft first old now changes (c ∷ drop (i + 1) changes) rooms (room ∷ drop (i + 1) rooms) last
roots_turn first old now changes rooms i c room last within is in_rooms room_is so_far =
    subst (λ (l : List TreeChange). RootsLeft first old now changes l rooms (room ∷ drop (i + 1) rooms) last) (next_left changes i c within is)
    (subst (λ (l : List SlotRoom). RootsLeft first old now changes (drop i changes) rooms l last) (next_left rooms i room in_rooms room_is) so_far)

pub roots_end : (first : ℕ) (old now : Forest) (changes : List TreeChange) (rooms : List SlotRoom) (i : ℕ) (last : ℕ) → length changes ≤ i → RootsLeft first old now changes (drop i changes) rooms (drop i rooms) last → AreMadeBy first changes rooms old now
roots_end first old now changes rooms i last all so_far =
    (subst (λ (l : List TreeChange). RootsLeft first old now changes l rooms (drop i rooms) last) (drop_all i changes all) so_far).trees now (λ d tree there. inl there)

pub made_is : (d db : ℕ) (there : Bool) → cond (d == db) true there ≡ (makes_db d (Some db) || there)
made_is d db there = by_test (d == db) ∙ ap (λ (t : Bool). t || there) (same_test d db)
  where
    by_test : (t : Bool) → cond t true there ≡ (t || there)
    by_test true = refl
    by_test false = refl

pub apart_made : (d db : ℕ) → makes_db d (Some db) ≡ false → d == db ≡ false
apart_made d db h = same_test d db ∙ h

pub gone_is : (d db : ℕ) (t : Option DbTree) → cond (d == db) None t ≡ cond (makes_db d (Some db)) None t
gone_is d db t = ap (λ (b : Bool). cond b None t) (same_test d db)

-- ---- taking them out again

-- some trees were taken out, and those that are left were not
pub record DropsLeft (old new : Forest) (changes left : List TreeChange) : Type 0 where
  pub trees : (d : ℕ) → cond (is_made d left) None (get nat_cmp new d) ≡ cond (is_made d changes) None (get nat_cmp old d)

or_gone : (a b : Bool) (t : Option DbTree) → cond b None (cond a None t) ≡ cond (a || b) None t
or_gone true true t = refl
or_gone true false t = refl
or_gone false b t = refl

pub drops_step : (old mid new : Forest) (changes left : List TreeChange) (c : TreeChange) → DropsLeft old mid changes (c ∷ left) →
    ((d : ℕ) → get nat_cmp new d ≡ cond (makes_db d c.makes) None (get nat_cmp mid d)) → DropsLeft old new changes left
drops_step old mid new changes left c so_far gone = record {
  trees = λ d. ap (λ (t : Option DbTree). cond (is_made d left) None t) (gone d) ∙ or_gone (makes_db d c.makes) (is_made d left) (get nat_cmp mid d) ∙ so_far.trees d;
}

pub drops_begin : (old : Forest) (changes : List TreeChange) → DropsLeft old old changes changes
drops_begin old changes = record { trees = λ d. refl }

pub drops_turn : (old new : Forest) (changes : List TreeChange) (i : ℕ) (c : TreeChange) → i < length changes → c ≡ get_or changes i c → DropsLeft old new changes (drop i changes) → DropsLeft old new changes (c ∷ drop (i + 1) changes)
drops_turn old new changes i c within is so_far = subst (λ (l : List TreeChange). DropsLeft old new changes l) (next_left changes i c within is) so_far

pub drops_end : (old new : Forest) (changes : List TreeChange) (i : ℕ) → length changes ≤ i → DropsLeft old new changes (drop i changes) → (d : ℕ) → get nat_cmp new d ≡ cond (is_made d changes) None (get nat_cmp old d)
drops_end old new changes i all so_far d = (subst (λ (l : List TreeChange). DropsLeft old new changes l) (drop_all i changes all) so_far).trees d
