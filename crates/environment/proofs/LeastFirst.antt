-- The least first LSN: the walk along the map.
use Rattle.std.proofs.Common.{◌≡◌, ◌⊎◌, inl, inr, ⊎_elim, ℕ, ◌≤◌, Bool, true, false, cond, List, [], ◌∷◌, Option, None, Some, IfSome, is_eq, ap, sym, ◌∙◌, subst, refl, arith}
use Rattle.std.specs.Prelude.{◌≢◌}
use Rattle.std.specs.Ordering.{nat_cmp}
use Rattle.std.proofs.lemmas.Option.{none-some, same_Some}
use Rattle.je_order.specs.declared.txn_id.TxnId.{TxnId}
use Rattle.lock_table.specs.Table.{at_txn}
use Rattle.record_tree.specs.declared.tree_name.TreeName.{TreeName}
use Rattle.environment.specs.declared.written.OwnNames.{OwnNames}
use Rattle.environment.specs.Turning.{IsAtMost, IsFirstOf, IsLeastWith}

abbrev Entries : Type 0
Entries = List (TxnId × OwnNames)

-- a transaction that has names has this first LSN
abbrev pub HasFirst : Entries → ℕ → Type 0
HasFirst entries lsn = (t : TxnId) × (own : OwnNames) × (at_txn t entries ≡ Some own) × (own.names.items ≢ []) × (own.first ≡ lsn)

-- the least LSN so far is one of the map's, and above none of the map's but those to come
pub record IsLeastSoFar (all rest : Entries) (least : Option ℕ) : Type 0 where
  pub some : IfSome least (HasFirst all)
  pub each : (t : TxnId) (own : OwnNames) → at_txn t all ≡ Some own → own.names.items ≢ [] → IsAtMost least own.first ⊎ (at_txn t rest ≡ Some own)

pub least_begins : (all rest : Entries) → rest ≡ all → IsLeastSoFar all rest None
least_begins all rest is = record { some = tt; each = λ t own h named. inr (ap (at_txn t) is ∙ h) }

-- one transaction more
pub least_step : (all left rest : Entries) (t : TxnId) (own : OwnNames) (least next : Option ℕ) → left ≡ (t, own) ∷ rest → at_txn t all ≡ Some own → IsLeastWith own.names.items own.first least next → IsLeastSoFar all left least →
    IsLeastSoFar all rest next
least_step all left rest t own least next is found with_own k = by_names own.names.items refl with_own
  where
    -- of a transaction that is not this one, or of this one
    past : (u : TxnId) (its : OwnNames) (b : Bool) → cond b (Some own) (at_txn u rest) ≡ Some its → (own ≡ its) ⊎ (at_txn u rest ≡ Some its)
    past u its true h = inl (same_Some own its h)
    past u its false h = inr h

    which : (u : TxnId) (its : OwnNames) → at_txn u left ≡ Some its → (own ≡ its) ⊎ (at_txn u rest ≡ Some its)
    which u its b = past u its (is_eq (nat_cmp u.0 t.0)) (sym (ap (at_txn u) is) ∙ b)

    below : (o : Option ℕ) (lsn first : ℕ) → IsAtMost o first → IfSome o (λ l. lsn ≤ l) → lsn ≤ first
    below None lsn first most low = absurd most
    below (Some l) lsn first most low = omega (arith, most, low)

    by_names : (names : List TreeName) → own.names.items ≡ names → IsLeastWith names own.first least next → IsLeastSoFar all rest next
    by_names [] none same = subst (IsLeastSoFar all rest) (sym same) (record {
      some = k.some;
      each = λ u its h named. ⊎_elim (λ a. inl a) (λ b. ⊎_elim (λ e. absurd (named (subst (λ (w : OwnNames). w.names.items ≡ []) e none))) (λ r. inr r) (which u its b)) (k.each u its h named);
    })
    by_names (name ∷ names) is_named least_is = subst (IsLeastSoFar all rest) (sym least_is.1) (record {
      some = ⊎_elim (λ e. (t, own, found, (λ none. absurd (not_none (sym is_named ∙ none))), sym e)) (λ e. subst (λ (o : Option ℕ). IfSome o (HasFirst all)) e k.some) least_is.4;
      each = λ u its h named. ⊎_elim (λ a. inl (below least least_is.0 its.first a least_is.3))
          (λ b. ⊎_elim (λ e. inl (subst (λ (w : OwnNames). least_is.0 ≤ w.first) e least_is.2)) (λ r. inr r) (which u its b)) (k.each u its h named);
    })
      where
        not_none : name ∷ names ≡ [] → ⊥
        not_none h = absurd cc

-- all were seen
pub least_all : (all rest : Entries) (least : Option ℕ) → rest ≡ [] → IsLeastSoFar all rest least → IsFirstOf all least
least_all all rest least is k = record {
  least = λ t own h named. ⊎_elim (λ a. a) (λ b. absurd (none-some own (sym (ap (at_txn t) is) ∙ b))) (k.each t own h named);
  some = k.some;
}
