-- What is known of databases follows a change of the catalog: what was held for it is settled.
use Rattle.std.proofs.Common.{◌≡◌, ◌≢◌, ◌∙◌, ◌==◌, ◌+◌, ◌<◌, ◌≤◌, ◌^◌, ℕ, Bool, true, false, cond, nat_lt, List, Option, None, Some, option_map, refl, ap, ap₂, sym, arith}
use Rattle.std.specs.Option.{option_map_or}
use Rattle.std.proofs.lemmas.Bool.{eqb-true, lt-ltb, ne_eqb}
use Rattle.store_model.specs.declared.call.Call.{Call}
use Rattle.store_model.specs.declared.call.Call.TheVariants.{Create, CreateIndex, Remove, Rename, Truncate}
use Rattle.index_map.specs.Made.{Made, with_made}
use Rattle.db_names.specs.Names.{Names, with_name}
use Rattle.environment.specs.declared.held.Held.{Held}
use Rattle.environment.specs.Calls.{ChangesCatalog}
use Rattle.environment.proofs.KnownChanges.{IsPlainFor}
use Rattle.environment.specs.Catalog.{IsHeldFor, changed_number, indexed_next, made_gone, made_held, made_logged, named_next, names_gone, names_held, names_logged, names_renamed, next_db}

-- ---- numbers

numbered : (last_db : ℕ) → last_db + 1 < 2 ^ 32 → next_db last_db ≡ Some (last_db + 1)
numbered last_db fits = ap (λ (b : Bool). cond b (Some (last_db + 1)) None) (lt-ltb (last_db + 1) (2 ^ 32) fits)

same_name : (number n : ℕ) (o : Option (List ℕ)) (was : Names) → was number ≡ None → with_name number None (with_name number o was) n ≡ was n
same_name number n o was none = by (number == n) refl
  where
    by : (b : Bool) → (number == n) ≡ b → cond b None (cond b o (was n)) ≡ was n
    by true e = sym none ∙ ap was (eqb-true number n e)
    by false e = refl

same_index : {X : Type 0} (number n : ℕ) (o : Option X) (made : ℕ → Option X) → made number ≡ None → cond (number == n) None (cond (number == n) o (made n)) ≡ made n
same_index number n o made none = by (number == n) refl
  where
    by : (b : Bool) → (number == n) ≡ b → cond b None (cond b o (made n)) ≡ made n
    by true e = sym none ∙ ap made (eqb-true number n e)
    by false e = refl

none_index : {X : Type 0} (number n : ℕ) (made : ℕ → Option X) → made number ≡ None → cond (number == n) None (made n) ≡ made n
none_index number n made none = by (number == n) refl
  where
    by : (b : Bool) → (number == n) ≡ b → cond b None (made n) ≡ made n
    by true e = sym none ∙ ap made (eqb-true number n e)
    by false e = refl

-- a name is put and another number's taken away, in whatever order
either_way : (a b n : ℕ) (o : Option (List ℕ)) (was : Names) → a ≢ b → with_name a None (with_name b o was) n ≡ with_name b o (with_name a None was) n
either_way a b n o was other = by (a == n) refl
  where
    by : (t : Bool) → (a == n) ≡ t → cond t None (cond (b == n) o (was n)) ≡ cond (b == n) o (cond t None (was n))
    by true e = sym (ap (λ (t : Bool). cond t o None) (ne_eqb b n (λ is. other (eqb-true a n e ∙ sym is))))
    by false e = refl

-- ---- a change that was logged

-- it makes a database
abbrev pub Makes : Call → Type 0
Makes (Create db kind) = Unit {0}
Makes (CreateIndex db index) = Unit {0}
Makes (Truncate db) = Unit {0}
Makes call = ⊥

module _ (numbers : List ℕ → ℕ) (last_db : ℕ) (number : Option ℕ) (held : Held) where
  pub names_settled : (call : Call) (was : Names) → ChangesCatalog call → number ≡ changed_number numbers call → IsHeldFor last_db number call held → (Makes call → last_db + 1 < 2 ^ 32) → ((name : List ℕ) → numbers name ≤ last_db) →
      (n : ℕ) → names_renamed held.renamed (names_gone held.gone (names_held last_db call was)) n ≡ names_logged numbers last_db call was n
  names_settled (Create db kind) was is number_is held_is fits within n =
      ap (λ (h : Held). names_renamed h.renamed (names_gone h.gone (named_next last_db db was)) n) held_is
      ∙ ap (λ (o : Option ℕ). option_map_or (λ (m : ℕ). with_name m (Some db) was) o was n) (numbered last_db (fits tt))
  names_settled (CreateIndex db index) was is number_is held_is fits within n =
      ap (λ (h : Held). names_renamed h.renamed (names_gone h.gone (named_next last_db db was)) n) held_is
      ∙ ap (λ (o : Option ℕ). option_map_or (λ (m : ℕ). with_name m (Some db) was) o was n) (numbered last_db (fits tt))
  names_settled (Remove db) was is number_is held_is fits within n =
      ap (λ (h : Held). names_renamed h.renamed (names_gone h.gone was) n) held_is ∙ ap (λ (o : Option ℕ). names_gone o was n) number_is
  names_settled (Rename db to) was is number_is held_is fits within n =
      ap (λ (h : Held). names_renamed h.renamed (names_gone h.gone was) n) held_is ∙ ap (λ (o : Option ℕ). names_renamed (option_map (λ (m : ℕ). (m, to)) o) was n) number_is
  names_settled (Truncate db) was is number_is held_is fits within n =
      ap (λ (h : Held). names_renamed h.renamed (names_gone h.gone (named_next last_db db was)) n) held_is
      ∙ ap₂ (λ (a b : Option ℕ). names_gone a (option_map_or (λ (m : ℕ). with_name m (Some db) was) b was) n) number_is (numbered last_db (fits tt))
      ∙ either_way (numbers db) (last_db + 1) n (Some db) was (λ e. let low = within db in absurd (omega (arith, low, e)))
  names_settled call was is number_is held_is fits within n = absurd is

  pub made_settled : (call : Call) (made : Made) → ChangesCatalog call → number ≡ changed_number numbers call → IsHeldFor last_db number call held → (Makes call → last_db + 1 < 2 ^ 32) → IsPlainFor made numbers call →
      (n : ℕ) → made_gone held.gone (made_held last_db number call made) n ≡ made_logged numbers last_db call made n
  made_settled (Create db kind) made is number_is held_is fits plain n = ap (λ (h : Held). made_gone h.gone made n) held_is
  made_settled (CreateIndex db index) made is number_is held_is fits plain n =
      ap (λ (h : Held). made_gone h.gone (indexed_next last_db number index.extract made) n) held_is
      ∙ ap₂ (λ (a b : Option ℕ). option_map_or (λ (m : ℕ). option_map_or (λ (p : ℕ). with_made m (Some (p, index.extract)) made) a made) b made n) number_is (numbered last_db (fits tt))
  made_settled (Remove db) made is number_is held_is fits plain n = ap (λ (h : Held). made_gone h.gone made n) held_is ∙ ap (λ (o : Option ℕ). made_gone o made n) number_is
  made_settled (Rename db to) made is number_is held_is fits plain n = ap (λ (h : Held). made_gone h.gone made n) held_is
  made_settled (Truncate db) made is number_is held_is fits plain n =
      ap (λ (h : Held). made_gone h.gone made n) held_is ∙ ap (λ (o : Option ℕ). made_gone o made n) number_is ∙ none_index (numbers db) n made plain
  made_settled call made is number_is held_is fits plain n = absurd is

-- ---- one that was not

pub gone_again : (made : Option ℕ) (last_db : ℕ) (db : List ℕ) (was : Names) (n : ℕ) → made ≡ next_db last_db → was (last_db + 1) ≡ None → names_gone made (named_next last_db db was) n ≡ was n
gone_again made last_db db was n is none = ap (λ (o : Option ℕ). names_gone o (named_next last_db db was) n) is ∙ by (nat_lt (last_db + 1) (2 ^ 32))
  where
    by : (b : Bool) → names_gone (cond b (Some (last_db + 1)) None) (option_map_or (λ (m : ℕ). with_name m (Some db) was) (cond b (Some (last_db + 1)) None) was) n ≡ was n
    by true = same_name (last_db + 1) n (Some db) was none
    by false = refl

made_again : (last_db : ℕ) (made : Made) (n : ℕ) → made (last_db + 1) ≡ None → made_gone (next_db last_db) made n ≡ made n
made_again last_db made n none = by (nat_lt (last_db + 1) (2 ^ 32))
  where
    by : (b : Bool) → made_gone (cond b (Some (last_db + 1)) None) made n ≡ made n
    by true = none_index (last_db + 1) n made none
    by false = refl

pub names_undone : (last_db : ℕ) (number : Option ℕ) (held : Held) (call : Call) (was : Names) → ChangesCatalog call → IsHeldFor last_db number call held → was (last_db + 1) ≡ None →
    (n : ℕ) → names_gone held.made (names_held last_db call was) n ≡ was n
names_undone last_db number held (Create db kind) was is held_is none n = gone_again held.made last_db db was n (ap (λ (h : Held). h.made) held_is) none
names_undone last_db number held (CreateIndex db index) was is held_is none n = gone_again held.made last_db db was n (ap (λ (h : Held). h.made) held_is) none
names_undone last_db number held (Remove db) was is held_is none n = ap (λ (h : Held). names_gone h.made was n) held_is
names_undone last_db number held (Rename db to) was is held_is none n = ap (λ (h : Held). names_gone h.made was n) held_is
names_undone last_db number held (Truncate db) was is held_is none n = gone_again held.made last_db db was n (ap (λ (h : Held). h.made) held_is) none
names_undone last_db number held call was is held_is none n = absurd is

pub made_undone : (last_db : ℕ) (number : Option ℕ) (held : Held) (call : Call) (made : Made) → ChangesCatalog call → IsHeldFor last_db number call held → made (last_db + 1) ≡ None →
    (n : ℕ) → made_gone held.made (made_held last_db number call made) n ≡ made n
made_undone last_db number held (Create db kind) made is held_is none n = ap (λ (h : Held). made_gone h.made made n) held_is ∙ made_again last_db made n none
made_undone last_db number held (CreateIndex db index) made is held_is none n =
    ap (λ (h : Held). made_gone h.made (indexed_next last_db number index.extract made) n) held_is ∙ by (nat_lt (last_db + 1) (2 ^ 32)) number
  where
    by : (b : Bool) (primary : Option ℕ) → made_gone (cond b (Some (last_db + 1)) None) (option_map_or (λ (m : ℕ). option_map_or (λ (p : ℕ). with_made m (Some (p, index.extract)) made) primary made) (cond b (Some (last_db + 1)) None) made) n ≡ made n
    by true None = none_index (last_db + 1) n made none
    by true (Some p) = same_index (last_db + 1) n (Some (p, index.extract)) made none
    by false primary = refl
made_undone last_db number held (Remove db) made is held_is none n = ap (λ (h : Held). made_gone h.made made n) held_is
made_undone last_db number held (Rename db to) made is held_is none n = ap (λ (h : Held). made_gone h.made made n) held_is
made_undone last_db number held (Truncate db) made is held_is none n = ap (λ (h : Held). made_gone h.made made n) held_is ∙ made_again last_db made n none
made_undone last_db number held call made is held_is none n = absurd is
