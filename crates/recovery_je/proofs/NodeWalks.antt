-- Reading the tree below an image.
use Rattle.std.proofs.Common.{◌≡◌, ◌<◌, ℕ, zero, suc, ◌==◌, ◌+◌, Bool, true, false, is_lt, cond, List, [], ◌∷◌, ◌++◌, length, drop, get_or, Option, None, Some, Result, Ok, Err, refl, sym, ap, subst, ◌∙◌, arith}
use Rattle.std.specs.Prelude.{◌&&◌, not, IsErrAnd}
use Rattle.std.proofs.lemmas.Bool.{true≢false, cond-true, cond-false}
use Rattle.std.proofs.lemmas.List.{drop_more}
use Rattle.std.proofs.lemmas.List.Elements.{filter-append}
use Rattle.std.specs.List.{list_any, flat_map}
use Rattle.je_order.specs.Order.{name_cmp}
use Rattle.je_order.specs.declared.name.Name.{Name}
use Rattle.node_core.specs.declared.slot.Marked.{Marked}
use Rattle.node_core.specs.declared.slot.Version.{Version}
use Rattle.node_core.specs.declared.slot.Version.TheVariants.{There}
use Rattle.node_log.specs.Slots.{lsn_in}
use Rattle.node_core.specs.declared.node.Node.{Node}
use Rattle.log_replay.specs.declared.corruption.Corruption.{Corruption}
use Rattle.log_replay.specs.declared.corruption.Corruption.TheVariants.{Tree}
use Rattle.log_trees.specs.Placed.{Placed}
use Rattle.log_trees.specs.Images.{NamedLsn, named, slot_shown}
use Rattle.log_trees.specs.Bounds.{is_below, is_within, slots_inside, Child, children}
use Rattle.log_trees.specs.Walk.{Walk, and_then, each, met, read_image, node_standing, read_here, read_node}
use Rattle.recovery_je.specs.declared.read_err.ReadErr.{ReadErr}
use Rattle.recovery_je.specs.declared.read_err.ReadErr.TheVariants.{Memory, Found}
use Rattle.recovery_je.specs.Recovering.{IsFoundBy}
use Rattle.recovery_je.specs.Walking.{GoesOn, HasMet, read_below, waiting, child_ends_at}

-- ---- a node

-- the numbers that were read before count as a set
pub here_same : (files : List ℕ) (es : List Placed) (d level at : ℕ) (a b : List ℕ) → ((m : ℕ) → list_any (λ k. k == m) a ≡ list_any (λ k. k == m) b) →
    read_here files es d level at a ≡ read_here files es d level at b
here_same files es d level at a b same = by_image (read_image files es d at)
  where
    by_image : (r : Result Node Corruption) → and_then r (node_standing level at a) ≡ and_then r (node_standing level at b)
    by_image (Ok n) = ap (λ (seen : Bool). cond ((n.level == level) && not seen) (Ok n) (Err (Tree at))) (same n.number)
    by_image (Err c) = refl

-- an error that is handed on from its reading
pub not_met : (spec same : Result Node Corruption) (walk : Walk) (P : Walk → Type 0) (r : Result Node ReadErr) (e : ReadErr) → IsErrAnd r (λ x. x ≡ e) → IsFoundBy e (λ c. spec ≡ Err c) → same ≡ spec → HasMet same walk P r
not_met spec same walk P (Ok n) e is found equal = absurd is
not_met spec same walk P (Err x) e is found equal = by_error x (subst (λ (y : ReadErr). IsFoundBy y (λ c. spec ≡ Err c)) (sym is) found)
  where
    by_error : (y : ReadErr) → IsFoundBy y (λ c. spec ≡ Err c) → IsFoundBy y (λ c. same ≡ Err c)
    by_error Memory h = tt
    by_error (Found c) h = equal ∙ h

-- a tree is its node, and what its slots name
node_parts : (files : List ℕ) (es : List Placed) (d above : ℕ) (low : Name) (high : Option Name) (at : ℕ) (walk : Walk) →
    read_node files es d above low high at walk ≡ and_then (read_here files es d (above + 1) at walk.seen) (λ n. read_below files es d above low high at n.slots (met n walk))
node_parts files es d zero low high at walk = refl
node_parts files es d (suc above) low high at walk =
    ap (λ (level : ℕ). and_then (read_here files es d level at walk.seen) (λ n. read_below files es d (suc above) low high at n.slots (met n walk))) (one_more above)
  where
    one_more : (n : ℕ) → suc (suc n) ≡ suc n + 1
    one_more n = omega arith

pub node_goes_on : {B : Type 0} (files : List ℕ) (es : List Placed) (d above : ℕ) (low : Name) (high : Option Name) (at : ℕ) (walk : Walk) (n : Node) (slots : List Marked) (P : Walk → Type 0) (r : Result B ReadErr) →
    read_here files es d (above + 1) at walk.seen ≡ Ok n → slots ≡ n.slots → GoesOn (read_below files es d above low high at slots (met n walk)) P r → GoesOn (read_node files es d above low high at walk) P r
node_goes_on files es d above low high at walk n slots P r here is on =
    subst (λ (s : Result Walk Corruption). GoesOn s P r)
    (ap (λ l. read_below files es d above low high at l (met n walk)) is
    ∙ sym (node_parts files es d above low high at walk ∙ ap (λ (h : Result Node Corruption). and_then h (λ m. read_below files es d above low high at m.slots (met m walk))) here)) on

pub node_fails : {B : Type 0} (files : List ℕ) (es : List Placed) (d above : ℕ) (low : Name) (high : Option Name) (at : ℕ) (walk : Walk) (P : Walk → Type 0) (r : Result B ReadErr) (e : ReadErr) →
    IsErrAnd r (λ x. x ≡ e) → IsFoundBy e (λ c. read_here files es d (above + 1) at walk.seen ≡ Err c) → GoesOn (read_node files es d above low high at walk) P r
node_fails files es d above low high at walk P (Ok v) e is found = absurd is
node_fails files es d above low high at walk P (Err x) e is found = by_error x (subst (λ (y : ReadErr). IsFoundBy y (λ c. read_here files es d (above + 1) at walk.seen ≡ Err c)) (sym is) found)
  where
    by_error : (y : ReadErr) → IsFoundBy y (λ c. read_here files es d (above + 1) at walk.seen ≡ Err c) → IsFoundBy y (λ c. read_node files es d above low high at walk ≡ Err c)
    by_error Memory h = tt
    by_error (Found c) h =
        node_parts files es d above low high at walk ∙ ap (λ (s : Result Node Corruption). and_then s (λ m. read_below files es d above low high at m.slots (met m walk))) h

-- ---- children

-- the children that are left: the one that waits, if one does, and those of these slots
abbrev pub children_left : Name → Option Name → Option ℕ → List NamedLsn → List Child
children_left low high None slots = children low high slots
children_left low high (Some at) slots = children low high ((low, at) ∷ slots)

-- the slots that are left of a BIN or an IN, where one of them is next
pub slot_step : (slots : List Marked) (i : ℕ) (m : Marked) → i < length slots → m ≡ get_or slots i m → flat_map slot_shown (drop i slots) ≡ slot_shown m ++ flat_map slot_shown (drop (i + 1) slots)
slot_step slots i m within is = ap (flat_map slot_shown) (drop_more slots i m within ∙ ap (λ (n : Marked). n ∷ drop (i + 1) slots) (sym is))

-- and of those within bounds
pub slot_in_step : (low : Name) (high : Option Name) (slots : List Marked) (i : ℕ) (m : Marked) → i < length slots → m ≡ get_or slots i m →
    slots_inside low high (flat_map slot_shown (drop i slots)) ≡ slots_inside low high (slot_shown m) ++ slots_inside low high (flat_map slot_shown (drop (i + 1) slots))
slot_in_step low high slots i m within is =
    ap (slots_inside low high) (slot_step slots i m within is) ∙ filter-append (λ (s : NamedLsn). is_within low high s.0) (slot_shown m) (flat_map slot_shown (drop (i + 1) slots))

-- a slot within the bounds counts, and no other one
pub named_in : (low : Name) (high : Option Name) (name : Name) (o : Option ℕ) → is_within low high name ≡ true → slots_inside low high (named name o) ≡ named name o
named_in low high name None is = refl
named_in low high name (Some lsn) is = cond-true (is_within low high name) ((name, lsn) ∷ []) [] is

pub named_out : (low : Name) (high : Option Name) (name : Name) (o : Option ℕ) → is_within low high name ≡ false → slots_inside low high (named name o) ≡ []
named_out low high name None is = refl
named_out low high name (Some lsn) is = cond-false (is_within low high name) ((name, lsn) ∷ []) [] is

pub slot_inside : {B : Type 0} (f : NamedLsn → Walk → Result Walk Corruption) (low : Name) (high : Option Name) (name : Name) (o : Option ℕ) (walk : Walk) (P : Walk → Type 0) (r : Result B ReadErr) → is_within low high name ≡ true →
    GoesOn (each f (named name o) walk) P r → GoesOn (each f (slots_inside low high (named name o)) walk) P r
slot_inside f low high name o walk P r is h = subst (λ (l : List NamedLsn). GoesOn (each f l walk) P r) (sym (named_in low high name o is)) h

pub slot_outside : {B : Type 0} (f : NamedLsn → Walk → Result Walk Corruption) (low : Name) (high : Option Name) (name : Name) (o : Option ℕ) (walk : Walk) (P : Walk → Type 0) (v : B) → is_within low high name ≡ false →
    P walk → GoesOn (each f (slots_inside low high (named name o)) walk) P (Ok v)
slot_outside f low high name o walk P v is at = subst (λ (l : List NamedLsn). GoesOn (each f l walk) P (Ok v)) (sym (named_out low high name o is)) (walk, refl, at)

-- the name of the first slot does not matter
first_renamed : (low : Name) (high : Option Name) (name : Name) (child : ℕ) (rest : List NamedLsn) → children low high ((name, child) ∷ rest) ≡ children low high ((low, child) ∷ rest)
first_renamed low high name child [] = refl
first_renamed low high name child (s ∷ rest) = refl

-- the children that are left, where the slot of a child is next: its child takes the place of the one that waits, if that has no name
child_next : (low : Name) (high : Option Name) (pending : Option ℕ) (name : Name) (child : ℕ) (rest : List NamedLsn) → child_ends_at pending low name ≡ false →
    children_left low high pending ((name, child) ∷ rest) ≡ children_left low high (Some child) rest
child_next low high None name child rest is = first_renamed low high name child rest
child_next low high (Some at) name child rest is =
    cond-false (is_lt (name_cmp low name))
    (cond (is_below name high) (record { low = low; high = Some name; at = at } ∷ children name high ((name, child) ∷ rest)) (record { low = low; high = high; at = at } ∷ []))
    (children low high ((name, child) ∷ rest)) is
    ∙ first_renamed low high name child rest

-- the one that waits goes, and its child waits
child_ends : (low : Name) (high : Option Name) (pending : Option ℕ) (name : Name) (child : ℕ) (rest : List NamedLsn) → child_ends_at pending low name ≡ true → is_below name high ≡ true →
    children_left low high pending ((name, child) ∷ rest) ≡ waiting low (Some name) pending ++ children_left name high (Some child) rest
child_ends low high None name child rest ends below = absurd (true≢false (sym ends))
child_ends low high (Some at) name child rest ends below =
    cond-true (is_lt (name_cmp low name))
    (cond (is_below name high) (record { low = low; high = Some name; at = at } ∷ children name high ((name, child) ∷ rest)) (record { low = low; high = high; at = at } ∷ []))
    (children low high ((name, child) ∷ rest)) ends
    ∙ cond-true (is_below name high) (record { low = low; high = Some name; at = at } ∷ children name high ((name, child) ∷ rest)) (record { low = low; high = high; at = at } ∷ []) below

-- the one that waits is the last
child_last : (low : Name) (high : Option Name) (pending : Option ℕ) (name : Name) (child : ℕ) (rest : List NamedLsn) → child_ends_at pending low name ≡ true → is_below name high ≡ false →
    children_left low high pending ((name, child) ∷ rest) ≡ waiting low high pending
child_last low high None name child rest ends below = absurd (true≢false (sym ends))
child_last low high (Some at) name child rest ends below =
    cond-true (is_lt (name_cmp low name))
    (cond (is_below name high) (record { low = low; high = Some name; at = at } ∷ children name high ((name, child) ∷ rest)) (record { low = low; high = high; at = at } ∷ []))
    (children low high ((name, child) ∷ rest)) ends
    ∙ cond-false (is_below name high) (record { low = low; high = Some name; at = at } ∷ children name high ((name, child) ∷ rest)) (record { low = low; high = high; at = at } ∷ []) below

-- the slots that are left, where that of a child is next
left_is : (low : Name) (high : Option Name) (pending : Option ℕ) (slots : List Marked) (i : ℕ) (m : Marked) (child : ℕ) → i < length slots → m ≡ get_or slots i m → m.slot.version ≡ There child →
    children_left low high pending (flat_map slot_shown (drop i slots)) ≡ children_left low high pending ((m.slot.name, child) ∷ flat_map slot_shown (drop (i + 1) slots))
left_is low high pending slots i m child within is at =
    ap (children_left low high pending) (slot_step slots i m within is ∙ ap (λ (v : Version). named m.slot.name (lsn_in v) ++ flat_map slot_shown (drop (i + 1) slots)) at)

pub next_step : (low : Name) (high : Option Name) (pending : Option ℕ) (slots : List Marked) (i : ℕ) (m : Marked) (child : ℕ) → i < length slots → m ≡ get_or slots i m → m.slot.version ≡ There child →
    child_ends_at pending low m.slot.name ≡ false → children_left low high pending (flat_map slot_shown (drop i slots)) ≡ children_left low high (Some child) (flat_map slot_shown (drop (i + 1) slots))
next_step low high pending slots i m child within is at ends =
    left_is low high pending slots i m child within is at ∙ child_next low high pending m.slot.name child (flat_map slot_shown (drop (i + 1) slots)) ends

pub child_step : (low : Name) (high : Option Name) (pending : Option ℕ) (slots : List Marked) (i : ℕ) (m : Marked) (child : ℕ) → i < length slots → m ≡ get_or slots i m → m.slot.version ≡ There child →
    child_ends_at pending low m.slot.name ≡ true → is_below m.slot.name high ≡ true →
    children_left low high pending (flat_map slot_shown (drop i slots)) ≡ waiting low (Some m.slot.name) pending ++ children_left m.slot.name high (Some child) (flat_map slot_shown (drop (i + 1) slots))
child_step low high pending slots i m child within is at ends below =
    left_is low high pending slots i m child within is at ∙ child_ends low high pending m.slot.name child (flat_map slot_shown (drop (i + 1) slots)) ends below

pub last_step : (low : Name) (high : Option Name) (pending : Option ℕ) (slots : List Marked) (i : ℕ) (m : Marked) (child : ℕ) → i < length slots → m ≡ get_or slots i m → m.slot.version ≡ There child →
    child_ends_at pending low m.slot.name ≡ true → is_below m.slot.name high ≡ false → children_left low high pending (flat_map slot_shown (drop i slots)) ≡ waiting low high pending
last_step low high pending slots i m child within is at ends below =
    left_is low high pending slots i m child within is at ∙ child_last low high pending m.slot.name child (flat_map slot_shown (drop (i + 1) slots)) ends below
