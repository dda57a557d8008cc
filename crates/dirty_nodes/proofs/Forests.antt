-- The trees of all databases, one after another.
use Rattle.std.proofs.Common.{◌≡◌, ◌≤◌, ◌<◌, ◌⊎◌, Ordering, Less, Equal, Greater, inl, inr, ◌++◌, ℕ, Bool, true, false, cond, List, [], ◌∷◌, Option, None, Some, append_assoc, arith, is_eq, refl, sym, ap, ap₂, subst, ◌∙◌}
use Rattle.std.specs.List.{All, AllByRecursion}
use Rattle.std.specs.Ordering.{nat_cmp}
use Rattle.std.specs.BTreeMap.{BTreeMap, get, is_at}
use Rattle.std.specs.Map.{lookup}
use Rattle.std.proofs.lemmas.List.{append-nil}
use Rattle.std.proofs.lemmas.List.Elements.{All-contains, Contains-append_right}
use Rattle.std.proofs.lemmas.Bool.{true≢false}
use Rattle.std.proofs.lemmas.Cmp.{ranked}
use Rattle.std.specs.Ordering.{MatchOrdering}
use Rattle.je_order.proofs.Lists.{all_push, all_weaker}
use Rattle.record_map.specs.Cells.{IsRising}
use Rattle.db_tree.specs.declared.tree.DbTree.{DbTree}
use Rattle.tree_nodes.specs.Levels.{AreParts}
use Rattle.dirty_nodes.specs.Marks.{AllFrom, AllSince, IsMark, IsMarkOr}
use Rattle.dirty_nodes.specs.Forest.{IsMarkOrIn}
use Rattle.tree_nodes.proofs.MarkLaws.{marked_less}

abbrev Entries : Type 0
Entries = List (ℕ × DbTree)

-- what holds of each database's tree, for all but those that are left
pub record IsDone (Q : ℕ × DbTree → Type 0) (entries rest : Entries) : Type 0 where
  pub done : Entries
  pub is : entries ≡ done ++ rest
  pub all : AllByRecursion Q done

abbrev pub all_since_in : ℕ → ℕ × DbTree → Type 0
all_since_in since e = AllSince since e.1.levels

abbrev pub all_from_in : ℕ → ℕ × DbTree → Type 0
all_from_in least e = AllFrom least e.1.levels × AreParts e.1.levels × IsRising e.1.cells

pub done_next : (P Q : ℕ × DbTree → Type 0) (entries rest next : Entries) (e : ℕ × DbTree) → ((x : ℕ × DbTree) → P x → Q x) → rest ≡ e ∷ next → Q e → IsDone P entries rest → IsDone Q entries next
done_next P Q entries rest next e weaker is own d = record {
  done = d.done ++ e ∷ [];
  is = d.is ∙ ap (λ (l : Entries). d.done ++ l) is ∙ sym (append_assoc d.done (e ∷ []) next);
  all = all_push Q d.done e (all_weaker P Q weaker d.done d.all) own;
}

pub done_all : (Q : ℕ × DbTree → Type 0) (entries : Entries) → IsDone Q entries [] → AllByRecursion Q entries
done_all Q entries d = subst (AllByRecursion Q) (sym (d.is ∙ append-nil d.done)) d.all

pub done_none : (Q : ℕ × DbTree → Type 0) (entries : Entries) → IsDone Q entries entries
done_none Q entries = record { done = []; is = refl; all = tt }

pub done_ended : (Q : ℕ × DbTree → Type 0) (entries rest : Entries) → rest ≡ [] → IsDone Q entries rest → AllByRecursion Q entries
done_ended Q entries rest ended d = done_all Q entries (subst (IsDone Q entries) ended d)

tree_or : DbTree → Option DbTree → DbTree
tree_or t None = t
tree_or t (Some u) = u

some_same : (a b : DbTree) → Some a ≡ Some b → a ≡ b
unfolding tree_or
some_same a b is = ap (tree_or a) is

pub nat_itself : (a : ℕ) → nat_cmp a a ≡ Equal
nat_itself a = by_order (nat_cmp a a) (ranked a a (nat_cmp a a) refl)
  where
    by_order : (o : Ordering) → MatchOrdering o (a < a) (a ≡ a) (a < a) → o ≡ Equal
    by_order Less m = absurd (omega (arith, m))
    by_order Equal m = refl
    by_order Greater m = absurd (omega (arith, m))

pub nat_same : (a b : ℕ) → is_eq (nat_cmp a b) ≡ true → a ≡ b
nat_same a b same = by_order (nat_cmp a b) same (ranked a b (nat_cmp a b) refl)
  where
    by_order : (o : Ordering) → is_eq o ≡ true → MatchOrdering o (a < b) (a ≡ b) (b < a) → a ≡ b
    by_order Less h m = absurd (true≢false (sym h))
    by_order Equal h m = m
    by_order Greater h m = absurd (true≢false (sym h))

-- what holds of each entry of a map holds of each tree that it gives
each_in : (Q : ℕ × DbTree → Type 0) (es : Entries) (d : ℕ) (tree : DbTree) → AllByRecursion Q es → lookup (is_at (nat_cmp d)) es ≡ Some tree → Q (d, tree)
each_in Q [] d tree all found = cc
each_in Q (e ∷ es) d tree all found = by_test (is_eq (nat_cmp d e.0)) refl found (each_in Q es d tree all.1)
  where
    by_test : (b : Bool) → is_eq (nat_cmp d e.0) ≡ b → cond b (Some e.1) (lookup (is_at (nat_cmp d)) es) ≡ Some tree → (lookup (is_at (nat_cmp d)) es ≡ Some tree → Q (d, tree)) → Q (d, tree)
    by_test true same is rest = subst (λ (x : ℕ × DbTree). Q x) (ap₂ (λ (n : ℕ) (t : DbTree). (n, t)) (sym (nat_same d e.0 same)) (some_same e.1 tree is)) all.0
    by_test false other is rest = rest is

pub each_get : (Q : ℕ × DbTree → Type 0) (forest : BTreeMap ℕ DbTree) → AllByRecursion Q forest.entries → (d : ℕ) (tree : DbTree) → get nat_cmp forest d ≡ Some tree → Q (d, tree)
each_get Q forest all d tree found = each_in Q forest.entries d tree all found

pub from_less : (a b : ℕ) → b ≤ a → (x : ℕ × DbTree) → all_from_in a x → all_from_in b x
from_less a b le x all = (λ level low n there. marked_less n.from a b le (all.0 level low n there), all.1, all.2)

-- a mark of the tree of one of the entries
pub record IsMarkAmong (entries : Entries) (lsn : ℕ) : Type 0 where
  pub entry : ℕ × DbTree
  pub before : Entries
  pub after : Entries
  pub there : entries ≡ before ++ entry ∷ after
  pub mark : IsMark entry.1.levels lsn

abbrev pub IsMarkOrAmong : ℕ → Entries → ℕ → Type 0
IsMarkOrAmong bound entries lsn = (lsn ≡ bound) ⊎ IsMarkAmong entries lsn

all_middle : (P : ℕ × DbTree → Type 0) (before after : Entries) (e : ℕ × DbTree) → All P (before ++ e ∷ after) → P e
all_middle P before after e all = All-contains P (before ++ e ∷ after) e all (Contains-append_right before (e ∷ after) e (0, (omega arith), refl))

-- where a map gives each of its entries, it gives that tree
pub mark_found : (forest : BTreeMap ℕ DbTree) (bound lsn : ℕ) → All (λ e. get nat_cmp forest e.0 ≡ Some e.1) forest.entries → IsMarkOrAmong bound forest.entries lsn → IsMarkOrIn bound forest lsn
mark_found forest bound lsn all (inl same) = inl same
mark_found forest bound lsn all (inr m) = inr (record {
  db = m.entry.0;
  tree = m.entry.1;
  there = all_middle (λ e. get nat_cmp forest e.0 ≡ Some e.1) m.before m.after m.entry (subst (All (λ e. get nat_cmp forest e.0 ≡ Some e.1)) m.there all);
  mark = m.mark;
})

-- a mark of one of the trees
pub mark_in : (entries : Entries) (bound least next : ℕ) (Q : ℕ × DbTree → Type 0) (rest more : Entries) (e : ℕ × DbTree) → IsDone Q entries rest → rest ≡ e ∷ more → IsMarkOr least e.1.levels next →
    IsMarkOrAmong bound entries least → IsMarkOrAmong bound entries next
mark_in entries bound least next Q rest more e d is (inl same) upto = subst (IsMarkOrAmong bound entries) (sym same) upto
mark_in entries bound least next Q rest more e d is (inr mark) upto =
    inr (record { entry = e; before = d.done; after = more; there = d.is ∙ ap (λ (l : Entries). d.done ++ l) is; mark = mark })

pub done_start : (Q : ℕ × DbTree → Type 0) (entries rest : Entries) → rest ≡ entries → IsDone Q entries rest
done_start Q entries rest is = subst (IsDone Q entries) (sym is) (done_none Q entries)
