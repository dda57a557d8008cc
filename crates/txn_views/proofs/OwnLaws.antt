-- The last own change of a name among own changes.
use Rattle.std.proofs.Common.{◌≡◌, ◌≢◌, ◌⊎◌, inl, inr, ℕ, ◌==◌, List, [], ◌∷◌, ◌++◌, Bool, true, false, cond, ◌&&◌, ◌||◌, Option, None, Some, option_map, is_some, find, reverse, refl, ap, ap₂, sym, ◌∙◌, is_eq}
use Rattle.std.specs.Option.{option_or}
use Rattle.std.proofs.lemmas.Bool.{eq-eqb}
use Rattle.std.proofs.lemmas.Bool.Decides.{eqb_tells}
use Rattle.std.proofs.lemmas.List.{reverse-append}
use Rattle.std.proofs.lemmas.List.Folds.{find-append}
use Rattle.std.proofs.lemmas.Option.{none-some}
use Rattle.je_order.specs.Order.{name_cmp}
use Rattle.je_order.specs.declared.name.Name.{Name}
use Rattle.store_model.specs.declared.record_change.RecordChange.{RecordChange}
use Rattle.store_model.specs.Needs.{changed_name}
use Rattle.je_answers.specs.Views.{of_db}
use Rattle.record_map.specs.declared.write.Write.{Write}
use Rattle.record_tree.specs.Occupied.{is_among}
use Rattle.log_replay.proofs.MapRows.{flips_equal}
use Rattle.txn_views.specs.Seen.{last_own, IsWriteOf}
use Rattle.txn_views.specs.Laws.{own_with, own_names, NoneIsLast}

-- ---- one change in front

-- whether an own change is of a name
abbrev pub is_of : ℕ → Name → ℕ × RecordChange → Bool
is_of d x c = (c.0 == d) && is_eq (name_cmp x (changed_name c.1))

-- a change, where it is of the name
abbrev pub if_of : ℕ → Name → ℕ × RecordChange → Option RecordChange
if_of d x c = cond (is_of d x c) (Some c.1) None

mapped_or : {X Y : Type 0} (f : X → Y) (a b : Option X) → option_map f (option_or a b) ≡ option_or (option_map f a) (option_map f b)
mapped_or f None b = refl
mapped_or f (Some a) b = refl

pub last_append : (d : ℕ) (x : Name) (a b : List (ℕ × RecordChange)) → last_own d x (a ++ b) ≡ option_or (last_own d x b) (last_own d x a)
last_append d x a b =
    ap (λ (l : List (ℕ × RecordChange)). option_map (λ (c : ℕ × RecordChange). c.1) (find (is_of d x) l)) (reverse-append a b)
    ∙ ap (option_map (λ (c : ℕ × RecordChange). c.1)) (find-append (is_of d x) (reverse b) (reverse a))
    ∙ mapped_or (λ (c : ℕ × RecordChange). c.1) (find (is_of d x) (reverse b)) (find (is_of d x) (reverse a))

one_last : (d : ℕ) (x : Name) (c : ℕ × RecordChange) → last_own d x (c ∷ []) ≡ if_of d x c
one_last d x c = by (is_of d x c)
  where
    by : (b : Bool) → option_map (λ (c : ℕ × RecordChange). c.1) (cond b (Some c) None) ≡ cond b (Some c.1) None
    by true = refl
    by false = refl

-- the last change of a name is the last one of the rest, or else the first one
pub last_cons : (d : ℕ) (x : Name) (c : ℕ × RecordChange) (cs : List (ℕ × RecordChange)) → last_own d x (c ∷ cs) ≡ option_or (last_own d x cs) (if_of d x c)
last_cons d x c cs = last_append d x (c ∷ []) cs ∙ ap (option_or (last_own d x cs)) (one_last d x c)

-- ---- none, and one of some

-- where there is no change of a database, there is none of a name of it
pub none_in : (d : ℕ) (x : Name) (own : List (ℕ × RecordChange)) → of_db d own ≡ [] → last_own d x own ≡ None
none_in d x [] none = refl
none_in d x (c ∷ cs) none = last_cons d x c cs ∙ by (c.0 == d) refl none (none_in d x cs)
  where
    by : (b : Bool) → (c.0 == d) ≡ b → cond b (c.1 ∷ of_db d cs) (of_db d cs) ≡ [] → (of_db d cs ≡ [] → last_own d x cs ≡ None) → option_or (last_own d x cs) (if_of d x c) ≡ None
    by true e h rest = absurd cc
    by false e h rest = ap₂ option_or (rest h) (ap (λ (t : Bool). cond (t && is_eq (name_cmp x (changed_name c.1))) (Some c.1) None) e)

-- a name is among those of own changes where one is of it
pub among : (d : ℕ) (x : Name) (own : List (ℕ × RecordChange)) → is_among d x (own_names own) ≡ is_some (last_own d x own)
among d x [] = refl
among d x (c ∷ cs) =
    ap₂ (λ (s t : Bool). ((c.0 == d) && s) || t) (flips_equal x (changed_name c.1) (name_cmp x (changed_name c.1)) refl) (among d x cs)
    ∙ by (is_of d x c) (last_own d x cs) ∙ ap is_some (sym (last_cons d x c cs))
  where
    by : (b : Bool) (o : Option RecordChange) → (b || is_some o) ≡ is_some (option_or o (cond b (Some c.1) None))
    by true None = refl
    by true (Some y) = refl
    by false None = refl
    by false (Some y) = refl

-- ---- the change that a name has

-- own changes that have the same last change of a name
pub writes_same : (d : ℕ) (x : Name) (own new : ℕ → List (ℕ × RecordChange)) (o : Option Write) → ((t : ℕ) → last_own d x (new t) ≡ last_own d x (own t)) →
    IsWriteOf d x own o → IsWriteOf d x new o
writes_same d x own new None same h = λ t. same t ∙ h t
writes_same d x own new (Some w) same h = record {
  change = h.change;
  last = same w.txn.0 ∙ h.last;
  value = h.value;
  others = λ t apart. same t ∙ h.others t apart;
}

-- who has a change of a name alone has one
pub only_one : (d : ℕ) (x : Name) (own : ℕ → List (ℕ × RecordChange)) (o : Option Write) (t u : ℕ) (c : RecordChange) → IsWriteOf d x own o → last_own d x (own t) ≡ Some c → (u ≡ t → ⊥) →
    last_own d x (own u) ≡ None
only_one d x own None t u c h has apart = h u
only_one d x own (Some w) t u c h has apart = by (eqb_tells t w.txn.0)
  where
    by : ((t == w.txn.0) ≡ true) × (t ≡ w.txn.0) ⊎ ((t == w.txn.0) ≡ false) × (t ≢ w.txn.0) → last_own d x (own u) ≡ None
    by (inl same) = h.others u (λ e. apart (e ∙ sym same.1))
    by (inr other) = absurd (none-some c (sym (h.others t other.1) ∙ has))

-- ---- own changes of which those of one transaction are others

pub own_here : (t : ℕ) (changes : List (ℕ × RecordChange)) (own : ℕ → List (ℕ × RecordChange)) → own_with t changes own t ≡ changes
own_here t changes own = ap (λ (b : Bool). cond b changes (own t)) (eq-eqb t t refl)

pub own_there : (t u : ℕ) (changes : List (ℕ × RecordChange)) (own : ℕ → List (ℕ × RecordChange)) → (u == t) ≡ false → own_with t changes own u ≡ own u
own_there t u changes own apart = ap (λ (b : Bool). cond b changes (own u)) apart

-- the last change of a name, where that of the one is known
pub last_with : (d : ℕ) (x : Name) (t u : ℕ) (changes : List (ℕ × RecordChange)) (own : ℕ → List (ℕ × RecordChange)) (o : Option RecordChange) →
    (u ≡ t → last_own d x changes ≡ o) → ((u ≡ t → ⊥) → last_own d x (own u) ≡ o) → last_own d x (own_with t changes own u) ≡ o
last_with d x t u changes own o here there = by (eqb_tells u t)
  where
    by : ((u == t) ≡ true) × (u ≡ t) ⊎ ((u == t) ≡ false) × (u ≢ t) → last_own d x (own_with t changes own u) ≡ o
    by (inl same) = ap (λ (b : Bool). last_own d x (cond b changes (own u))) same.0 ∙ here same.1
    by (inr other) = ap (λ (b : Bool). last_own d x (cond b changes (own u))) other.0 ∙ there other.1

-- where none of some own changes is of a name, there is no last one of it
pub none-is_last : NoneIsLast
none-is_last d x [] all = refl
none-is_last d x (c ∷ own) all = last_cons d x c own ∙ ap₂ option_or (none-is_last d x own all.1) (ap (λ (b : Bool). cond b (Some c.1) None) all.0)
