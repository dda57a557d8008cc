-- Whose the names are that a transaction wrote, and of how many of some changes the names have no record.
use Rattle.std.proofs.Common.{◌≡◌, ◌≢◌, ◌⊎◌, inl, inr, ℕ, ◌==◌, ◌&&◌, ◌+◌, ◌∙◌, Bool, true, false, true≢false, cond, List, [], ◌∷◌, Option, None, Some, IsSome, is_some, is_eq, count_by, refl, ap, ap₂, sym, subst, arith}
use Rattle.std.specs.List.{AllByRecursion}
use Rattle.std.specs.Option.{option_map_or, option_or}
use Rattle.std.proofs.lemmas.Bool.{eq-eqb}
use Rattle.std.proofs.lemmas.Bool.Decides.{eqb_tells}
use Rattle.std.proofs.lemmas.List.Sums.{sum_by-cons}
use Rattle.je_order.specs.declared.name.Name.{Name}
use Rattle.je_order.specs.declared.txn_id.TxnId.{TxnId}
use Rattle.je_order.proofs.Lists.{all_weaker}
use Rattle.store_model.specs.declared.isolation.Isolation.TheVariants.{RepeatableRead}
use Rattle.store_model.specs.declared.record_change.RecordChange.{RecordChange}
use Rattle.store_model.specs.Needs.{changed_name}
use Rattle.record_map.specs.declared.write.Write.{Write}
use Rattle.record_map.specs.Cells.{value_at}
use Rattle.record_map.proofs.NameLaws.{name_same}
use Rattle.record_tree.specs.Occupied.{AllCells, AreFewNew, IsFreeFor, Occupied, write_in}
use Rattle.record_tree.specs.declared.tree_change.TreeChange.{TreeChange}
use Rattle.record_tree.specs.declared.tree_name.TreeName.{TreeName}
use Rattle.log_replay.specs.Rows.{Rows}
use Rattle.standing_laws.specs.Right.{txn_id}
use Rattle.txn_views.specs.Laws.{own_names}
use Rattle.txn_views.specs.Seen.{HasWrites, IsWriteOf, last_own, seen_value}
use Rattle.txn_views.proofs.OwnLaws.{if_of, last_cons}
use Rattle.environment.specs.declared.written.OwnNames.{OwnNames}
use Rattle.environment.specs.Writing.{has_record}
use Rattle.environment.specs.Written.{AreNamesOf, names_at}

-- ---- names that are own

first_or : (a b : Option RecordChange) → is_some b ≡ true → is_some (option_or a b) ≡ true
first_or None b some = some
first_or (Some a) b some = refl

or_first : (a b : Option RecordChange) → is_some a ≡ true → is_some (option_or a b) ≡ true
or_first None b some = absurd (true≢false (sym some))
or_first (Some a) b some = refl

-- each change has its name, so this has a last one
each_last : (all own : List (ℕ × RecordChange)) → ((d : ℕ) (x : Name) → is_some (last_own d x own) ≡ true → is_some (last_own d x all) ≡ true) →
    AllByRecursion (λ (n : TreeName). is_some (last_own n.db n.name all) ≡ true) (own_names own)
each_last all [] among = tt
each_last all (c ∷ own) among = (
  among c.0 (changed_name c.1) (ap is_some (last_cons c.0 (changed_name c.1) c own) ∙ first_or (last_own c.0 (changed_name c.1) own) (if_of c.0 (changed_name c.1) c) here),
  each_last all own (λ d x some. among d x (ap is_some (last_cons d x c own) ∙ or_first (last_own d x own) (if_of d x c) some)),
)
  where
    here : is_some (if_of c.0 (changed_name c.1) c) ≡ true
    here = ap₂ (λ (s t : Bool). is_some (cond (s && t) (Some c.1) None)) (eq-eqb c.0 c.0 refl) (ap is_eq (name_same (changed_name c.1)))

-- a name of which a transaction has a change has no change of another one
last_free : (d : ℕ) (x : Name) (own : ℕ → List (ℕ × RecordChange)) (txn : TxnId) (o : Option Write) → is_some (last_own d x (own txn.0)) ≡ true → IsWriteOf d x own o → IsFreeFor txn o
last_free d x own txn None some is = tt
last_free d x own txn (Some w) some is = by (eqb_tells txn.0 w.txn.0)
  where
    by : ((txn.0 == w.txn.0) ≡ true) × (txn.0 ≡ w.txn.0) ⊎ ((txn.0 == w.txn.0) ≡ false) × (txn.0 ≢ w.txn.0) → w.txn ≡ txn
    by (inl same) = ap txn_id (sym same.1)
    by (inr other) = absurd (true≢false (sym some ∙ ap is_some (is.others txn.0 other.1)))

-- the names that a transaction wrote have no changes of others
pub own_free : (cells : AllCells) (own : ℕ → List (ℕ × RecordChange)) (rows : Rows) (entries : List (TxnId × OwnNames)) (txn : TxnId) → HasWrites cells own → AreNamesOf entries own rows →
    AllByRecursion (λ n. IsFreeFor txn (write_in (value_at n.name (cells n.db)))) (names_at txn entries)
own_free cells own rows entries txn writes names =
    subst (AllByRecursion (λ (n : TreeName). IsFreeFor txn (write_in (value_at n.name (cells n.db))))) (sym (names.names txn.0))
    (all_weaker (λ (n : TreeName). is_some (last_own n.db n.name (own txn.0)) ≡ true) (λ (n : TreeName). IsFreeFor txn (write_in (value_at n.name (cells n.db))))
    (λ n some. last_free n.db n.name own txn (write_in (value_at n.name (cells n.db))) some (writes n.db n.name)) (own_names (own txn.0)) (each_last (own txn.0) (own txn.0) (λ d x some. some)))

-- ---- few changes of new names

module _ (txn : TxnId) (cells : AllCells) where
  has_name : (c : TreeChange) → has_record txn cells c ≡ true → IsSome (value_at c.name (cells c.db))
  has_name c has = by (value_at c.name (cells c.db)) has
    where
      by : (o : Option Occupied) → option_map_or (λ (p : Occupied). is_some (seen_value RepeatableRead txn p)) o false ≡ true → IsSome o
      by None is = absurd (true≢false (sym is))
      by (Some p) is = refl

  count_cons : (c : TreeChange) (cs : List TreeChange) → count_by (has_record txn cells) (c ∷ cs) ≡ cond (has_record txn cells c) 1 0 + count_by (has_record txn cells) cs
  count_cons c cs = sum_by-cons (λ (e : TreeChange). cond (has_record txn cells e) 1 0) c cs

  -- so many of some changes count, and those that are left; and where those have few new names all have
  abbrev pub IsCounted : ℕ → List TreeChange → List TreeChange → Type 0
  IsCounted count rest all = (count + count_by (has_record txn cells) rest ≡ count_by (has_record txn cells) all) × (AreFewNew cells rest → AreFewNew cells all)

  -- one more of a name that has a record
  pub counts_had : (count : ℕ) (c : TreeChange) (later rest all : List TreeChange) → rest ≡ c ∷ later → has_record txn cells c ≡ true → IsCounted count rest all → IsCounted (count + 1) later all
  counts_had count c later rest all is has counted =
      let before = counted.0 in
      let cons = ap (count_by (has_record txn cells)) is ∙ count_cons c later ∙ ap (λ (b : Bool). cond b 1 0 + count_by (has_record txn cells) later) has in
      (omega (arith, before, cons), λ few. counted.1 (subst (AreFewNew cells) (sym is) (each later, few)))
    where
      each : (es : List TreeChange) → AllByRecursion (λ (e : TreeChange). c.db ≡ e.db → IsSome (value_at c.name (cells c.db)) ⊎ IsSome (value_at e.name (cells e.db))) es
      each [] = tt
      each (e ∷ es) = ((λ same. inl (has_name c has)), each es)

  -- one more of a name that has none, while those behind it in its database have
  pub counts_new : (count : ℕ) (c : TreeChange) (later rest all : List TreeChange) → rest ≡ c ∷ later → has_record txn cells c ≡ false →
      AllByRecursion (λ (e : TreeChange). c.db ≡ e.db → has_record txn cells e ≡ true) later → IsCounted count rest all → IsCounted count later all
  counts_new count c later rest all is none have counted =
      let before = counted.0 in
      let cons = ap (count_by (has_record txn cells)) is ∙ count_cons c later ∙ ap (λ (b : Bool). cond b 1 0 + count_by (has_record txn cells) later) none in (
        omega (arith, before, cons),
        λ few. counted.1 (subst (AreFewNew cells) (sym is) (
          all_weaker (λ (e : TreeChange). c.db ≡ e.db → has_record txn cells e ≡ true) (λ (e : TreeChange). c.db ≡ e.db → IsSome (value_at c.name (cells c.db)) ⊎ IsSome (value_at e.name (cells e.db)))
              (λ e some same. inr (has_name e (some same))) later have,
          few,
        )),
      )
