-- Sound images: how they are read, and that they stay.
use Rattle.std.proofs.Common.{◌≡◌, ◌==◌, ◌≤◌, ◌<◌, ◌++◌, ℕ, zero, suc, List, [], ◌∷◌, Bool, true, false, cond, not, Option, None, Some, map, Ordering, Less, Equal, Greater, is_eq, is_lt, refl, ap, sym, subst, ◌∙◌, arith}
use Rattle.std.specs.Prelude.{IfSome, find, length}
use Rattle.std.specs.Option.{option_and_then}
use Rattle.std.specs.Ordering.{is_le, ordering_reverse}
use Rattle.std.specs.List.{AllByRecursion}
use Rattle.std.proofs.lemmas.Bool.{true≢false}
use Rattle.std.proofs.lemmas.Option.{none-some}
use Rattle.std.proofs.Math.Nat.{le_trans}
use Rattle.je_order.specs.Order.{name_cmp}
use Rattle.je_order.specs.declared.name.Name.{Name}
use Rattle.je_order.proofs.Lists.{all_weaker}
use Rattle.node_core.proofs.NameOrder.{turned}
use Rattle.log_entry.specs.declared.child_slot.ChildSlot.{ChildSlot}
use Rattle.log_entry.specs.declared.record_slot.RecordSlot.{RecordSlot}
use Rattle.log_entry.specs.declared.entry.Entry.{Entry}
use Rattle.log_entry.specs.declared.entry.Entry.TheVariants.{In, Bin}
use Rattle.log_trees.specs.Trees.{shows as shows_slot, child_over as child_for, child_behind as child_from, data_of, data_in}
use Rattle.log_trees.specs.Bounds.{is_below, is_within, Child, children}
use Rattle.log_trees.specs.Sound.{Home, IsTreeAt, at_home}
use Rattle.log_trees.proofs.Bounds.{less_over, above_more, within_parts, within_from}
use Rattle.log_trees.specs.Building.{child_shown, NamesRecord}
use Rattle.log_trees.proofs.Building.{bins_are_right, ins_are_right, bins_show, ins_show}
use Rattle.db_tree.specs.Images.{Placed, entry_at, lsn_in, record_in, child_in, child_over, child_behind, shows, IsBin, IsRead}
use Rattle.tree_images.specs.Sound.{IsNumber, IsSoundImage}
use Rattle.tree_images.specs.Laws.{SoundImagesAreTrees, SoundImagesShow, SoundImagesAreRead, SoundImagesStay, AgreesUpTo}

-- ---- right trees

pub images_are_trees : SoundImagesAreTrees
images_are_trees es home last d zero low high at s = bins_are_right es home d s.number s.slots low high at s.image s.entry s.own.1 s.records
images_are_trees es home last d (suc above) low high at s =
    ins_are_right es home d s.number above s.slots low high at s.image s.entry s.own.1
    (all_weaker (λ (c : Child). (c.at < at) × IsSoundImage es home last d above c.low c.high c.at) (λ c. (c.at < at) × IsTreeAt es (at_home home d) d above c.low c.high c.at)
    (λ c h. (h.0, images_are_trees es home last d above c.low c.high c.at h.1)) (children low high (map child_shown s.slots)) s.below)

-- ---- what they show

-- a slot is up to a name where the name is not below it
le_is : (x y : Name) → is_lt (name_cmp x y) ≡ not (is_le (name_cmp y x))
le_is x y = ap is_lt (turned y x (name_cmp y x) refl) ∙ by_order (name_cmp y x)
  where
    by_order : (o : Ordering) → is_lt (ordering_reverse o) ≡ not (is_le o)
    by_order Less = refl
    by_order Equal = refl
    by_order Greater = refl

cond_not : {A : Type 0} (t : Bool) (x y : A) → cond (not t) x y ≡ cond t y x
cond_not true x y = refl
cond_not false x y = refl

-- both find the same child
behind_alike : (x : Name) (child : ℕ) (slots : List ChildSlot) → child_from x child (map child_shown slots) ≡ child_behind x child slots
behind_alike x child [] = refl
behind_alike x child (s ∷ slots) =
    ap (λ (t : Bool). cond t child (child_from x s.child (map child_shown slots))) (le_is x s.name) ∙ cond_not (is_le (name_cmp s.name x)) child (child_from x s.child (map child_shown slots))
    ∙ ap (λ (n : ℕ). cond (is_le (name_cmp s.name x)) n child) (behind_alike x s.child slots)

over_alike : (x : Name) (slots : List ChildSlot) → child_for x (map child_shown slots) ≡ child_over x slots
over_alike x [] = refl
over_alike x (s ∷ slots) = ap (λ (n : ℕ). Some n) (behind_alike x s.child slots)

-- the child that an image shows for a name within its bounds, of what holds of all its children
pub record IsChildOver (Q : Child → Type 0) (x : Name) (child : ℕ) : Type 0 where
  pub found : Child
  pub holds : Q found
  pub at : child ≡ found.at
  pub inside : is_within found.low found.high x ≡ true

-- the name of the first slot does not matter
renamed : (low : Name) (high : Option Name) (s : ChildSlot) (slots : List ChildSlot) → children low high (map child_shown (s ∷ slots)) ≡ children low high ((low, s.child) ∷ map child_shown slots)
renamed low high s [] = refl
renamed low high s (t ∷ slots) = refl

waiting_over : (Q : Child → Type 0) (x low : Name) (high : Option Name) (child : ℕ) (slots : List ChildSlot) → is_within low high x ≡ true → AllByRecursion Q (children low high ((low, child) ∷ map child_shown slots)) →
    IsChildOver Q x (child_behind x child slots)
waiting_over Q x low high child [] inside all = record { found = record { low = low; high = high; at = child }; holds = all.0; at = refl; inside = inside }
waiting_over Q x low high child (t ∷ slots) inside all =
    by_low (is_lt (name_cmp low t.name)) refl all (λ from within h. waiting_over Q x from high t.child slots within h)
  where
    bounds : (is_lt (name_cmp x low) ≡ false) × (is_below x high ≡ true)
    bounds = within_parts low high x inside

    own : (up : Option Name) → Child
    own up = record { low = low; high = up; at = child }

    -- whether the next name is up to this one
    le_from : (b : Bool) → is_lt (name_cmp x t.name) ≡ b → is_le (name_cmp t.name x) ≡ not b
    le_from b is = sym (not_twice (is_le (name_cmp t.name x))) ∙ ap not (sym (le_is x t.name) ∙ is)
      where
        not_twice : (c : Bool) → not (not c) ≡ c
        not_twice true = refl
        not_twice false = refl

    ends : (o : Option Name) → is_below x o ≡ true → is_below t.name o ≡ false → is_lt (name_cmp x t.name) ≡ true
    ends None a b = absurd (true≢false b)
    ends (Some h) a b = ap is_lt (less_over x t.name h a b)

    stays : is_lt (name_cmp x t.name) ≡ true → child ≡ child_behind x child (t ∷ slots)
    stays is = sym (ap (λ (b : Bool). cond b (child_behind x t.child slots) child) (le_from true is))

    goes : is_lt (name_cmp x t.name) ≡ false → child_behind x t.child slots ≡ child_behind x child (t ∷ slots)
    goes is = sym (ap (λ (b : Bool). cond b (child_behind x t.child slots) child) (le_from false is))

    by_name : (b : Bool) → is_lt (name_cmp x t.name) ≡ b → AllByRecursion Q (own (Some t.name) ∷ children t.name high ((t.name, t.child) ∷ map child_shown slots)) →
        ((from : Name) → is_within from high x ≡ true → AllByRecursion Q (children from high ((from, t.child) ∷ map child_shown slots)) → IsChildOver Q x (child_behind x t.child slots)) →
        IsChildOver Q x (child_behind x child (t ∷ slots))
    by_name true is h rest = subst (IsChildOver Q x) (stays is) (record { found = own (Some t.name); holds = h.0; at = refl; inside = within_from low (Some t.name) x bounds.0 is })
    by_name false is h rest = subst (IsChildOver Q x) (goes is) (rest t.name (within_from t.name high x is bounds.1) h.1)

    by_below : (b : Bool) → is_below t.name high ≡ b →
        AllByRecursion Q (cond b (own (Some t.name) ∷ children t.name high ((t.name, t.child) ∷ map child_shown slots)) (own high ∷ [])) →
        ((from : Name) → is_within from high x ≡ true → AllByRecursion Q (children from high ((from, t.child) ∷ map child_shown slots)) → IsChildOver Q x (child_behind x t.child slots)) →
        IsChildOver Q x (child_behind x child (t ∷ slots))
    by_below true is h rest = by_name (is_lt (name_cmp x t.name)) refl h rest
    by_below false is h rest = subst (IsChildOver Q x) (stays (ends high bounds.1 is)) (record { found = own high; holds = h.0; at = refl; inside = inside })

    by_low : (b : Bool) → is_lt (name_cmp low t.name) ≡ b →
        AllByRecursion Q (cond b (cond (is_below t.name high) (own (Some t.name) ∷ children t.name high ((t.name, t.child) ∷ map child_shown slots)) (own high ∷ [])) (children low high (map child_shown (t ∷ slots)))) →
        ((from : Name) → is_within from high x ≡ true → AllByRecursion Q (children from high ((from, t.child) ∷ map child_shown slots)) → IsChildOver Q x (child_behind x t.child slots)) →
        IsChildOver Q x (child_behind x child (t ∷ slots))
    by_low true is h rest = by_below (is_below t.name high) refl h rest
    by_low false is h rest = subst (IsChildOver Q x) (goes (above_more t.name low x is bounds.0)) (rest low inside (subst (AllByRecursion Q) (renamed low high t slots) h))

pub over_child : (Q : Child → Type 0) (x low : Name) (high : Option Name) (slots : List ChildSlot) → 0 < length slots → is_within low high x ≡ true → AllByRecursion Q (children low high (map child_shown slots)) →
    (child : ℕ) × (child_over x slots ≡ Some child) × IsChildOver Q x child
over_child Q x low high [] some inside all = absurd (omega (arith, some))
over_child Q x low high (s ∷ slots) some inside all = (child_behind x s.child slots, refl, waiting_over Q x low high s.child slots inside (subst (AllByRecursion Q) (renamed low high s slots) all))

lsn_of_slot : (o : Option RecordSlot) → option_and_then (λ s. s.lsn) o ≡ lsn_in o
lsn_of_slot None = refl
lsn_of_slot (Some s) = refl

-- the records of a BIN within its bounds stand at lower LSNs
records_lower : (es : Placed) (d at : ℕ) (low : Name) (high : Option Name) (slots : List RecordSlot) → AllByRecursion (λ s. is_within low high s.name ≡ true → NamesRecord es d at s) slots →
    AllByRecursion (λ s. is_within low high s.name ≡ true → IfSome s.lsn (λ lsn. lsn < at)) slots
records_lower es d at low high slots all =
    all_weaker (λ s. is_within low high s.name ≡ true → NamesRecord es d at s) (λ s. is_within low high s.name ≡ true → IfSome s.lsn (λ lsn. lsn < at)) (λ s h e. lower s.lsn s (h e)) slots all
  where
    lower : (o : Option ℕ) (s : RecordSlot) → IfSome o (λ lsn. (lsn < at) × (value : List ℕ) × (data_of es d s.name lsn ≡ Some value)) → IfSome o (λ lsn. lsn < at)
    lower None s h = h
    lower (Some lsn) s h = h.0

pub images_show : SoundImagesShow
images_show es home last d zero low high at x s inside =
    bins_show es d s.number s.slots low high at x s.image s.entry (records_lower es d at low high s.slots s.records) inside
    ∙ lsn_of_slot (find (λ (r : RecordSlot). is_eq (name_cmp x r.name)) s.slots)
    ∙ sym (ap (λ (o : Option Entry). record_in o x) s.image)
images_show es home last d (suc above) low high at x s inside =
    let over = over_child (λ (c : Child). (c.at < at) × IsSoundImage es home last d above c.low c.high c.at) x low high s.slots s.entry.4 inside s.below in
    let is = over.2 in
    ins_show es d s.number above s.slots low high at x s.image s.entry
    (all_weaker (λ (c : Child). (c.at < at) × IsSoundImage es home last d above c.low c.high c.at) (λ c. c.at < at) (λ c h. h.0) (children low high (map child_shown s.slots)) s.below) inside
    ∙ ap (option_and_then (λ c. shows_slot es above c x)) (over_alike x s.slots ∙ over.1)
    ∙ ap (λ (n : ℕ). shows_slot es above n x) is.at
    ∙ images_show es home last d above is.found.low is.found.high is.found.at x is.holds.1 is.inside
    ∙ sym (ap (λ (n : ℕ). shows es above n x) is.at)
    ∙ sym (ap (option_and_then (λ c. shows es above c x)) over.1)
    ∙ sym (ap (λ (o : Option Entry). option_and_then (λ child. shows es above child x) (child_in o x)) s.image)

-- ---- which are read

pub images_are_read : SoundImagesAreRead
images_are_read es home last d zero low high at x s inside = subst IsBin (sym s.image) tt
images_are_read es home last d (suc above) low high at x s inside =
    let over = over_child (λ (c : Child). (c.at < at) × IsSoundImage es home last d above c.low c.high c.at) x low high s.slots s.entry.4 inside s.below in
    let is = over.2 in (
      over.0,
      ap (λ (o : Option Entry). child_in o x) s.image ∙ over.1,
      subst (λ (n : ℕ). IsRead es above n x) (sym is.at) (images_are_read es home last d above is.found.low is.found.high is.found.at x is.holds.1 is.inside),
    )

-- ---- and stay

pub entry_stays : (es more : Placed) (at : ℕ) (e : Entry) → entry_at es at ≡ Some e → entry_at (es ++ more) at ≡ Some e
entry_stays [] more at e h = absurd (none-some e h)
entry_stays (p ∷ es) more at e h = by_test (p.0 == at) (entry_stays es more at e) h
  where
    by_test : (t : Bool) → (entry_at es at ≡ Some e → entry_at (es ++ more) at ≡ Some e) → cond t (Some p.1) (entry_at es at) ≡ Some e → cond t (Some p.1) (entry_at (es ++ more) at) ≡ Some e
    by_test true rest is = is
    by_test false rest is = rest is

pub data_stays : (es more : Placed) (d lsn : ℕ) (x : Name) (value : List ℕ) → data_of es d x lsn ≡ Some value → data_of (es ++ more) d x lsn ≡ Some value
data_stays es more d lsn x value h = by_entry (entry_at es lsn) refl h
  where
    by_entry : (o : Option Entry) → entry_at es lsn ≡ o → option_and_then (data_in d x) o ≡ Some value → option_and_then (data_in d x) (entry_at (es ++ more) lsn) ≡ Some value
    by_entry None is h = absurd (none-some value h)
    by_entry (Some entry) is h = ap (option_and_then (data_in d x)) (entry_stays es more lsn entry is) ∙ h

records_stay : (es more : Placed) (d at : ℕ) (low : Name) (high : Option Name) (slots : List RecordSlot) → AllByRecursion (λ s. is_within low high s.name ≡ true → NamesRecord es d at s) slots →
    AllByRecursion (λ s. is_within low high s.name ≡ true → NamesRecord (es ++ more) d at s) slots
records_stay es more d at low high slots all =
    all_weaker (λ s. is_within low high s.name ≡ true → NamesRecord es d at s) (λ s. is_within low high s.name ≡ true → NamesRecord (es ++ more) d at s) (λ s h e. stay s.lsn s (h e)) slots all
  where
    stay : (o : Option ℕ) (s : RecordSlot) → IfSome o (λ lsn. (lsn < at) × (value : List ℕ) × (data_of es d s.name lsn ≡ Some value)) → IfSome o (λ lsn. (lsn < at) × (value : List ℕ) × (data_of (es ++ more) d s.name lsn ≡ Some value))
    stay None s h = h
    stay (Some lsn) s h = (h.0, h.1, data_stays es more d lsn s.name h.1 h.2)

pub number_stays : (home other : ℕ → Home) (last later d number level : ℕ) (low : Name) → AgreesUpTo last home other → last ≤ later → IsNumber home last d number level low → IsNumber other later d number level low
number_stays home other last later d number level low agrees le h = (le_trans h.0 le, agrees number h.0 ∙ h.1)

pub images_stay : SoundImagesStay
images_stay es more home other last later d zero low high at agrees le s = record {
  number = s.number;
  slots = s.slots;
  image = entry_stays es more at (Bin d s.number s.slots) s.image;
  entry = s.entry;
  own = number_stays home other last later d s.number 0 low agrees le s.own;
  records = records_stay es more d at low high s.slots s.records;
}
images_stay es more home other last later d (suc above) low high at agrees le s = record {
  number = s.number;
  slots = s.slots;
  image = entry_stays es more at (In d s.number (suc (suc above)) s.slots) s.image;
  entry = s.entry;
  own = number_stays home other last later d s.number (suc above) low agrees le s.own;
  below = all_weaker (λ (c : Child). (c.at < at) × IsSoundImage es home last d above c.low c.high c.at) (λ c. (c.at < at) × IsSoundImage (es ++ more) other later d above c.low c.high c.at)
      (λ c h. (h.0, images_stay es more home other last later d above c.low c.high c.at agrees le h.1)) (children low high (map child_shown s.slots)) s.below;
}
