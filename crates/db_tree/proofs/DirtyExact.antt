-- BINs are dirty exactly where they have not their last images' content.
use Rattle.std.proofs.Common.{◌≡◌, ◌⊎◌, ◌&&◌, ◌||◌, not, ℕ, Bool, true, false, cond, List, [], ◌∷◌, Option, None, Some, is_some, filter, refl, ap, sym, subst, ◌∙◌, inl, inr, is_eq}
use Rattle.std.specs.List.{list_all}
use Rattle.std.specs.Map.{keys_of}
use Rattle.std.proofs.lemmas.Bool.{true≢false}
use Rattle.std.proofs.lemmas.List.Kept.{IsStrictlySortedBy-filter}
use Rattle.std.proofs.lemmas.Option.{same_Some}
use Rattle.std.specs.List.Sorted.{IsStrictlySortedBy}
use Rattle.je_order.specs.Order.{name_cmp}
use Rattle.je_order.specs.Edges.{is_between}
use Rattle.je_order.specs.Edges.Edge.{At}
use Rattle.je_order.specs.declared.name.Name.{Name}
use Rattle.record_map.specs.declared.cell.Cell.{Cell}
use Rattle.record_map.specs.Cells.{value_at, between_edges, upper_edge, IsRising}
use Rattle.record_map.proofs.NameLaws.{name_same, same_or_other, other_stays, same_gets}
use Rattle.tree_nodes.specs.declared.node.Node.{Node}
use Rattle.tree_nodes.specs.Nodes.{NodeRow, IsOver, earlier, is_dirty, low_behind, marked, without_mark}
use Rattle.tree_nodes.specs.Levels.{row_of, AreParts, HasMarkedAt}
use Rattle.tree_nodes.proofs.LowLaws.{keys_passed, low_after_is}
use Rattle.tree_nodes.specs.Lows.{low_after, lows_of}
use Rattle.tree_nodes.proofs.RisingLists.{same_lists}
use Rattle.db_tree.specs.declared.node_at.NodeAt.{NodeAt}
use Rattle.db_tree.specs.Dirty.{AreExact, HasSettled, are_as_shown, is_as_imaged}
use Rattle.record_map.specs.Cells.{is_as_shown}
use Rattle.db_tree.proofs.Contents.{passed_found}
use Rattle.db_tree.proofs.Over.{over_once}
use Rattle.db_tree.proofs.Records.{marked_over, over_marked}
use Rattle.db_tree.proofs.WaitLaws.{keys_at}
use Rattle.db_tree.proofs.Within.{over_within}

-- ---- cells of a BIN

pub passed_none : {V : Type 0} (p : Name → Bool) (row : List (Name × V)) (x : Name) → p x ≡ false → value_at x (filter (λ e. p e.0) row) ≡ None
passed_none p [] x h = refl
passed_none {V} p (e ∷ row) x h = by_test (p e.0) refl (passed_none p row x h) (same_or_other x e.0)
  where
    by_test : (t : Bool) → p e.0 ≡ t → value_at x (filter (λ (f : Name × V). p f.0) row) ≡ None → (x ≡ e.0) ⊎ (is_eq (name_cmp x e.0) ≡ false) →
        value_at x (cond t (e ∷ filter (λ (f : Name × V). p f.0) row) (filter (λ (f : Name × V). p f.0) row)) ≡ None
    by_test false is rest side = rest
    by_test true is rest (inl same) = absurd (true≢false (sym is ∙ sym (ap p same) ∙ h))
    by_test true is rest (inr apart) = other_stays x e.0 (Some e.1) (value_at x (filter (λ (f : Name × V). p f.0) row)) apart ∙ rest

pub passed_rises : {V : Type 0} (p : Name → Bool) (row : List (Name × V)) → IsRising row → IsRising (filter (λ e. p e.0) row)
passed_rises p row up = subst (IsStrictlySortedBy name_cmp) (sym (keys_passed p row)) (IsStrictlySortedBy-filter name_cmp p (keys_of row) up)

-- those that pass a test are the same where the one name that changed does not
passed_same : (p : Name → Bool) (old new : List (Name × Cell)) (name : Name) → IsRising old → IsRising new → ((x : Name) → is_eq (name_cmp name x) ≡ false → value_at x new ≡ value_at x old) → p name ≡ false →
    filter (λ e. p e.0) new ≡ filter (λ e. p e.0) old
passed_same p old new name up_old up_new others out =
    same_lists (filter (λ e. p e.0) new) (filter (λ e. p e.0) old) (passed_rises p new up_new) (passed_rises p old up_old) (λ x. by_test x (p x) refl (same_or_other name x))
  where
    by_test : (x : Name) (t : Bool) → p x ≡ t → (name ≡ x) ⊎ (is_eq (name_cmp name x) ≡ false) → value_at x (filter (λ (e : Name × Cell). p e.0) new) ≡ value_at x (filter (λ (e : Name × Cell). p e.0) old)
    by_test x false is side = passed_none p new x is ∙ sym (passed_none p old x is)
    by_test x true is (inl same) = absurd (true≢false (sym is ∙ sym (ap p same) ∙ out))
    by_test x true is (inr apart) = passed_found p new x is ∙ others x apart ∙ sym (passed_found p old x is)

pub behind_same : (old new : List NodeRow) (low : Name) → lows_of new ≡ lows_of old → low_behind low (row_of new 0) ≡ low_behind low (row_of old 0)
behind_same old new low same = low_after_is low (row_of new 0) ∙ ap (low_after low) (keys_at new old 0 same) ∙ sym (low_after_is low (row_of old 0))

-- ---- a BIN that settles

dirty_marked : (forced last : Bool) → ((forced || not last) || true) ≡ true
dirty_marked true last = refl
dirty_marked false true = refl
dirty_marked false false = refl

marked_dirty : (n : Node) (from : ℕ) → n.from ≡ Some from → is_dirty n ≡ true
marked_dirty n from is = ap (λ (o : Option ℕ). (n.forced || not (is_some n.last)) || is_some o) is ∙ dirty_marked n.forced (is_some n.last)

clean : (forced last shown : Bool) → (not forced && (last && shown)) ≡ true → ((forced || not last) || false) ≡ false
clean true last shown is = absurd (true≢false (sym is))
clean false false shown is = absurd (true≢false (sym is))
clean false true shown is = refl

pub settled_exact : (mid new : List NodeRow) (cells : List (Name × Cell)) (x : Name) (from : ℕ) (s : HasSettled cells mid new x) → s.e.1.from ≡ Some from → lows_of new ≡ lows_of mid → (n : Node) → value_at s.e.0 (row_of new 0) ≡ Some n →
    is_dirty n ≡ not (is_as_imaged (row_of new 0) cells (s.e.0, n))
settled_exact mid new cells x from s is same n there = by_test (is_as_imaged (row_of mid 0) cells s.e) refl
  where
    by_test : (t : Bool) → is_as_imaged (row_of mid 0) cells s.e ≡ t → is_dirty n ≡ not (is_as_imaged (row_of new 0) cells (s.e.0, n))
    by_test true imaged =
        let node : n ≡ without_mark s.e.1 = same_Some n (without_mark s.e.1) (sym there ∙ (s.cleared imaged).here s.e.0 ∙ same_gets s.e.0 (Some (without_mark s.e.1)) (value_at s.e.0 (row_of mid 0))) in
        ap is_dirty node ∙ clean s.e.1.forced (is_some s.e.1.last) (are_as_shown s.e.1.last s.e.0 (row_of mid 0) cells) imaged
        ∙ sym (ap not (ap (λ (k : Node). is_as_imaged (row_of new 0) cells (s.e.0, k)) node
        ∙ ap (λ (h : Option Name). not s.e.1.forced && (is_some s.e.1.last && list_all (λ e. is_as_shown s.e.1.last e.1) (between_edges (At s.e.0) (upper_edge h) cells))) (behind_same mid new s.e.0 same) ∙ imaged))
    by_test false away =
        let rows : new ≡ mid = s.kept away in
        let node : n ≡ s.e.1 = same_Some n s.e.1 (sym there ∙ ap (λ (r : List NodeRow). value_at s.e.0 (row_of r 0)) rows ∙ s.over.there) in
        marked_dirty n from (ap (λ (k : Node). k.from) node ∙ is)
        ∙ sym (ap not (ap (λ (k : Node). is_as_imaged (row_of new 0) cells (s.e.0, k)) node ∙ ap (λ (r : List NodeRow). is_as_imaged (row_of r 0) cells s.e) rows ∙ away))

-- ---- a BIN that stays

pub stays_exact : (old new : List NodeRow) (was now : List (Name × Cell)) (name low : Name) (e : Name × Node) (n : Node) → AreParts old → IsRising was → IsRising now → lows_of new ≡ lows_of old → IsOver (row_of old 0) name e → (e.0 ≡ low → ⊥) →
    ((x : Name) → is_eq (name_cmp name x) ≡ false → value_at x now ≡ value_at x was) → value_at low (row_of old 0) ≡ Some n → is_as_imaged (row_of new 0) now (low, n) ≡ is_as_imaged (row_of old 0) was (low, n)
stays_exact old new was now name low e n parts up_was up_now same over apart others there =
    ap (λ (h : Option Name). not n.forced && (is_some n.last && list_all (λ c. is_as_shown n.last c.1) (between_edges (At low) (upper_edge h) now))) (behind_same old new low same)
    ∙ ap (λ (cells : List (Name × Cell)). not n.forced && (is_some n.last && list_all (λ c. is_as_shown n.last c.1) cells))
    (passed_same (is_between (At low) (upper_edge (low_behind low (row_of old 0)))) was now name up_was up_now others (outside (is_between (At low) (upper_edge (low_behind low (row_of old 0))) name) refl))
  where
    outside : (t : Bool) → is_between (At low) (upper_edge (low_behind low (row_of old 0))) name ≡ t → t ≡ false
    outside false is = refl
    outside true is = absurd (apart (over_once (row_of old 0) name e (low, n) over (over_within (row_of old 0) name low n (parts.rising 0) there is)))

settled_elsewhere : (mid new : List NodeRow) (cells : List (Name × Cell)) (x low : Name) → (s : HasSettled cells mid new x) → is_eq (name_cmp s.e.0 low) ≡ false → value_at low (row_of new 0) ≡ value_at low (row_of mid 0)
settled_elsewhere mid new cells x low s apart = by_test (is_as_imaged (row_of mid 0) cells s.e) refl
  where
    by_test : (t : Bool) → is_as_imaged (row_of mid 0) cells s.e ≡ t → value_at low (row_of new 0) ≡ value_at low (row_of mid 0)
    by_test true is = (s.cleared is).here low ∙ other_stays s.e.0 low (Some (without_mark s.e.1)) (value_at low (row_of mid 0)) apart
    by_test false is = ap (λ (r : List NodeRow). value_at low (row_of r 0)) (s.kept is)

-- a name's change is committed
pub commit_exact : (due : List NodeAt) (old mid new : List NodeRow) (was now : List (Name × Cell)) (name : Name) (from : ℕ) → AreParts old → IsRising was → IsRising now → lows_of mid ≡ lows_of old → lows_of new ≡ lows_of mid →
    HasMarkedAt old mid 0 name from → HasSettled now mid new name → ((x : Name) → is_eq (name_cmp name x) ≡ false → value_at x now ≡ value_at x was) → AreExact due old was → AreExact due new now
commit_exact due old mid new was now name from parts up_was up_now first next m s others exact low n there out = by_low (same_or_other s.e.0 low)
  where
    names : s.e.0 ≡ m.e.0
    names = over_once (row_of mid 0) name s.e (m.e.0, marked from m.e.1) s.over (marked_over old mid 0 name from m)

    by_low : (s.e.0 ≡ low) ⊎ (is_eq (name_cmp s.e.0 low) ≡ false) → is_dirty n ≡ not (is_as_imaged (row_of new 0) now (low, n))
    by_low (inl same) =
        subst (λ (y : Name). is_dirty n ≡ not (is_as_imaged (row_of new 0) now (y, n))) same
        (settled_exact mid new now name (earlier m.e.1.from from) s (ap (λ (k : Node). k.from) (over_marked old mid 0 name from s.e m s.over)) next n (ap (λ (y : Name). value_at y (row_of new 0)) same ∙ there))
    by_low (inr apart) =
        let apart_old : is_eq (name_cmp m.e.0 low) ≡ false = subst (λ (y : Name). is_eq (name_cmp y low) ≡ false) names apart in
        let there_old : value_at low (row_of old 0) ≡ Some n =
        sym (settled_elsewhere mid new now name low s apart ∙ m.put.here low ∙ other_stays m.e.0 low (Some (marked from m.e.1)) (value_at low (row_of old 0)) apart_old) ∙ there in
        exact low n there_old out
        ∙ sym (ap not (stays_exact old new was now name low m.e n parts up_was up_now (next ∙ first) m.over (λ is. true≢false (sym (subst (λ (y : Name). is_eq (name_cmp m.e.0 y) ≡ true) is (ap is_eq (name_same m.e.0))) ∙ apart_old)) others there_old))
