-- The records of a tree that was read: they stand where the images below its root show them.
use Rattle.std.proofs.Common.{◌≡◌, ◌<◌, ℕ, zero, suc, Bool, true, false, cond, List, [], ◌∷◌, Option, None, Some, refl, ap, sym, subst, ◌∙◌, is_eq}
use Rattle.std.specs.Prelude.{IfSome, option_map}
use Rattle.std.proofs.lemmas.Option.{none-some, same_Some}
use Rattle.std.specs.List.{AllByRecursion, flat_map}
use Rattle.je_order.specs.Order.{name_cmp}
use Rattle.je_order.specs.declared.name.Name.{Name}
use Rattle.je_order.proofs.Lists.{all_weaker, all_append}
use Rattle.je_order.proofs.Orderings.{equal_from_test}
use Rattle.node_core.proofs.NameOrder.{same}
use Rattle.node_core.specs.declared.slot.Version.{Version}
use Rattle.node_core.specs.declared.slot.Version.TheVariants.{There, Deleted, Unset}
use Rattle.record_map.specs.declared.cell.Cell.{Cell}
use Rattle.record_map.specs.Cells.{value_at}
use Rattle.record_tree.specs.Stored.{Stored, stored_at}
use Rattle.log_trees.specs.Images.{NamedLsn, slots_shown}
use Rattle.log_trees.specs.Trees.{slots_at, found, data_of, written_at, shows as shows_slot}
use Rattle.log_trees.specs.Bounds.{is_within, slots_inside, Child, children}
use Rattle.log_trees.specs.Sound.{IsRecordAt, IsTreeAt}
use Rattle.log_trees.proofs.Shown.{leaf_image, inner_image, shown_is}
use Rattle.log_meaning.specs.ReadNodes.{stored_of}
use Rattle.db_tree.specs.Content.{lsn_under, held_by}
use Rattle.db_tree.specs.Images.{Placed}
use Rattle.db_tree.specs.Stored.{stored_by, stored_under}
use Rattle.tree_images.specs.Fits.{IsRecorded}

-- ---- data

-- a slot names data of its name
abbrev HasData : Placed → ℕ → NamedLsn → Type 0
HasData es d s = (value : List ℕ) × (data_of es d s.0 s.1 ≡ Some value)

all_flat : (f : Name → Option Name → ℕ → List NamedLsn) (P : NamedLsn → Type 0) (cs : List Child) → AllByRecursion (λ (c : Child). AllByRecursion P (f c.low c.high c.at)) cs →
    AllByRecursion P (flat_map (λ (c : Child). f c.low c.high c.at) cs)
all_flat f P [] all = tt
all_flat f P (c ∷ cs) all = all_append P (f c.low c.high c.at) (flat_map (λ (o : Child). f o.low o.high o.at) cs) all.0 (all_flat f P cs all.1)

all_data : (es : Placed) (home : ℕ → ℕ → Name → Type 0) (d k : ℕ) (low : Name) (high : Option Name) (at : ℕ) → IsTreeAt es home d k low high at → AllByRecursion (HasData es d) (slots_at es k low high at)
all_data es home d zero low high at tree =
    subst (AllByRecursion (HasData es d)) (sym (leaf_image es home d low high at tree)) (all_weaker (IsRecordAt es d at) (HasData es d) (λ s h. (h.1, h.2)) (slots_inside low high (slots_shown tree.node)) tree.right)
all_data es home d (suc k) low high at tree =
    subst (λ (l : List Child). AllByRecursion (HasData es d) (flat_map (λ (c : Child). slots_at es k c.low c.high c.at) l)) (sym (inner_image es home d k low high at tree))
    (all_flat (slots_at es k) (HasData es d) (children low high (slots_shown tree.node))
    (all_weaker (λ (c : Child). (c.at < at) × IsTreeAt es home d k c.low c.high c.at) (λ c. AllByRecursion (HasData es d) (slots_at es k c.low c.high c.at)) (λ c h. all_data es home d k c.low c.high c.at h.1)
    (children low high (slots_shown tree.node)) tree.right))

found_data : (es : Placed) (d lsn : ℕ) (x : Name) (slots : List NamedLsn) → AllByRecursion (HasData es d) slots → found x slots ≡ Some lsn → HasData es d (x, lsn)
found_data es d lsn x [] all is = absurd (none-some lsn is)
found_data es d lsn x (s ∷ slots) all is = by_test (is_eq (name_cmp x s.0)) refl is (λ h. found_data es d lsn x slots all.1 h)
  where
    by_test : (b : Bool) → is_eq (name_cmp x s.0) ≡ b → cond b (Some s.1) (found x slots) ≡ Some lsn → (found x slots ≡ Some lsn → HasData es d (x, lsn)) → HasData es d (x, lsn)
    by_test false e h rest = rest h
    by_test true e h rest =
        let names : s.0 ≡ x = sym (same x s.0 (equal_from_test _ e)) in
        let lsns : s.1 ≡ lsn = same_Some s.1 lsn h in
        (all.0.0, sym (ap (λ (y : Name). data_of es d y lsn) names) ∙ sym (ap (data_of es d s.0) lsns) ∙ all.0.1)

-- what a right tree shows of a name has data
pub shown_data : (es : Placed) (home : ℕ → ℕ → Name → Type 0) (d k : ℕ) (low : Name) (high : Option Name) (at lsn : ℕ) (x : Name) → IsTreeAt es home d k low high at → is_within low high x ≡ true → shows_slot es k at x ≡ Some lsn →
    (value : List ℕ) × (data_of es d x lsn ≡ Some value)
shown_data es home d k low high at lsn x tree inside is =
    found_data es d lsn x (slots_at es k low high at) (all_data es home d k low high at tree) (shown_is es home d k x low high at tree inside ∙ is)

-- ---- cells

lsn_stored : (o : Option Cell) → lsn_under o ≡ option_map (λ (s : Stored). s.at) (stored_under o)
lsn_stored None = refl
lsn_stored (Some cell) = by_version cell.version cell.«data»
  where
    by_version : (v : Version) (value : List ℕ) → lsn_under (Some (record cell { version = v; «data» = value })) ≡ option_map (λ (s : Stored). s.at) (stored_by v value)
    by_version (There lsn) value = refl
    by_version Deleted value = refl
    by_version Unset value = refl

-- the LSN of a record that stands where a tree shows it
pub held_is : (es : Placed) (d : ℕ) (x : Name) (cells : List (Name × Cell)) (o : Option ℕ) → stored_under (value_at x cells) ≡ stored_of (written_at es d x o) → ((lsn : ℕ) → o ≡ Some lsn → (value : List ℕ) × (data_of es d x lsn ≡ Some value)) →
    held_by cells x ≡ o
held_is es d x cells o is data_is = lsn_stored (value_at x cells) ∙ ap (option_map (λ (s : Stored). s.at)) is ∙ by_lsn o data_is
  where
    by_lsn : (o : Option ℕ) → ((lsn : ℕ) → o ≡ Some lsn → (value : List ℕ) × (data_of es d x lsn ≡ Some value)) → option_map (λ (s : Stored). s.at) (stored_of (written_at es d x o)) ≡ o
    by_lsn None h = refl
    by_lsn (Some lsn) h = ap (λ (v : Option (List ℕ)). option_map (λ (s : Stored). s.at) (stored_at lsn v)) (h lsn refl).1

-- a cell without a change, whose record stands where a tree shows it
pub recorded_is : (es : Placed) (d : ℕ) (x : Name) (cell : Cell) (o : Option ℕ) → stored_under (Some cell) ≡ stored_of (written_at es d x o) → cell.write ≡ None → IsRecorded es d x cell
recorded_is es d x cell o is quiet = record {
  committed = λ lsn at. by_lsn o lsn (sym (ap (λ (v : Version). stored_by v cell.«data») at) ∙ is);
  written = subst (λ w. IfSome w (λ w. IfSome w.value.value (λ v. data_of es d x w.value.at ≡ Some v))) (sym quiet) tt;
}
  where
    by_data : (lsn there : ℕ) (v : Option (List ℕ)) → Some (record { at = lsn; value = cell.«data» }) ≡ stored_at there v → (there ≡ lsn) × (v ≡ Some cell.«data»)
    by_data lsn there None h = absurd (none-some _ (sym h))
    by_data lsn there (Some value) h =
        let e = same_Some (record { at = lsn; value = cell.«data» }) (record { at = there; value = value }) h in
        (sym (ap (λ (s : Stored). s.at) e), sym (ap (λ (s : Stored). Some s.value) e))

    by_lsn : (o : Option ℕ) (lsn : ℕ) → Some (record { at = lsn; value = cell.«data» }) ≡ stored_of (written_at es d x o) → data_of es d x lsn ≡ Some cell.«data»
    by_lsn None lsn h = absurd (none-some _ (sym h))
    by_lsn (Some there) lsn h = let both = by_data lsn there (data_of es d x there) h in sym (ap (data_of es d x) both.0) ∙ both.1
