-- A change of the catalog where others are under way: it comes to what it comes to where nobody is.
use Rattle.std.proofs.Common.{◌≡◌, ℕ, List, [], ◌∷◌, Option, None, Some, refl, ap, sym, ◌⊎◌, inl, inr}
use Rattle.std.proofs.lemmas.Option.{none-some}
use Rattle.je_order.specs.declared.txn_id.TxnId.{TxnId}
use Rattle.store_model.specs.declared.answer.Answer.{Answer}
use Rattle.store_model.specs.declared.answer.Answer.TheVariants.{DatabaseInUse}
use Rattle.store_model.specs.declared.call.Call.{Call}
use Rattle.store_model.specs.declared.call.Call.TheVariants.{Create, CreateIndex, Remove, Rename, Truncate}
use Rattle.store_model.specs.declared.change.Change.{Change}
use Rattle.store_model.specs.Evaluation.{Outcome, evaluation}
use Rattle.store_model.specs.Refusals.{or_refusal}
use Rattle.je_answers.specs.declared.active.Active.{Active}
use Rattle.je_answers.specs.After.{Fate, after_catalog, after_evaluated, drawn_by, fate_of}
use Rattle.je_answers.specs.After.Fate.{Succeeds, IsRefused, Faults}
use Rattle.je_answers.specs.Alone.{Alone, IsEvaluatedAlone, alone, drawn_alone, evaluated_alone, fate_alone}
use Rattle.je_answers.specs.Events.{AreChanged, IsEvaluated}
use Rattle.je_answers.specs.Locking.{IsAwaited, IsLeastUser}
use Rattle.je_answers.specs.Refusals.{early_refusal, late_refusal, name_refusal, number_refusal, target_refusal, there_refusal, txn_refusal}
use Rattle.je_answers.specs.Standing.{Standing, active_of}
use Rattle.txn_core.specs.Planning.{IsCatalogCall}
use Rattle.environment.specs.Calls.{ChangesCatalog}
use Rattle.environment.specs.Catalog.{IsFreeToChange, IsUsedBy}
use Rattle.environment.proofs.EarlyLaws.{not_early}

-- the standing without those that are under way
abbrev pub alone_of : Standing → Alone
alone_of st = record {
  store = st.store;
  numbers = st.numbers;
  last_txn = st.last_txn;
  last_db = st.last_db;
  commits = st.commits;
  begun = st.begun;
  fault = st.fault;
  in_checkpoint = st.in_checkpoint;
}

-- and with them
abbrev pub with_alone : Alone → Standing → Standing
with_alone q st = record st {
  store = q.store;
  numbers = q.numbers;
  last_txn = q.last_txn;
  last_db = q.last_db;
  commits = q.commits;
  begun = q.begun;
  fault = q.fault;
  in_checkpoint = q.in_checkpoint;
}

-- ---- it is a call on the catalog

pub catalog_call : (call : Call) → ChangesCatalog call → IsCatalogCall call
catalog_call (Create db kind) is = tt
catalog_call (CreateIndex db index) is = tt
catalog_call (Remove db) is = tt
catalog_call (Rename db to) is = tt
catalog_call (Truncate db) is = tt
catalog_call call is = absurd is

-- ---- no transaction changes the catalog

outside_by : (call : Call) (o : Option Active) → ChangesCatalog call → txn_refusal call o ≡ None → o ≡ None
outside_by call None is none = refl
outside_by (Create db kind) (Some a) is none = absurd (none-some _ (sym none))
outside_by (CreateIndex db index) (Some a) is none = absurd (none-some _ (sym none))
outside_by (Remove db) (Some a) is none = absurd (none-some _ (sym none))
outside_by (Rename db to) (Some a) is none = absurd (none-some _ (sym none))
outside_by (Truncate db) (Some a) is none = absurd (none-some _ (sym none))
outside_by call (Some a) is none = absurd is

pub outside : (st : Standing) (session : ℕ) (call : Call) → ChangesCatalog call → early_refusal st session call ≡ None → active_of session st.actives ≡ None
outside st session call is early = outside_by call (active_of session st.actives) is (not_early st session call early).txn

-- ---- it is refused alike

pub late_alike : (st : Standing) (session : ℕ) (call : Call) → ChangesCatalog call → active_of session st.actives ≡ None → late_refusal st session call ≡ late_refusal (alone (alone_of st)) session call
late_alike st session (Create db kind) is none = ap (λ (o : Option Active). or_refusal (number_refusal st.last_txn o)
    (or_refusal (there_refusal st session (Create db kind)) (or_refusal (name_refusal st session (Create db kind)) (target_refusal (Create db kind) None)))) none
late_alike st session (CreateIndex db index) is none = ap (λ (o : Option Active). or_refusal (number_refusal st.last_txn o)
    (or_refusal (there_refusal st session (CreateIndex db index)) (or_refusal (name_refusal st session (CreateIndex db index)) (target_refusal (CreateIndex db index) None)))) none
late_alike st session (Remove db) is none = ap (λ (o : Option Active). or_refusal (number_refusal st.last_txn o)
    (or_refusal (there_refusal st session (Remove db)) (or_refusal (name_refusal st session (Remove db)) (target_refusal (Remove db) None)))) none
late_alike st session (Rename db to) is none = ap (λ (o : Option Active). or_refusal (number_refusal st.last_txn o)
    (or_refusal (there_refusal st session (Rename db to)) (or_refusal (name_refusal st session (Rename db to)) (target_refusal (Rename db to) None)))) none
late_alike st session (Truncate db) is none = ap (λ (o : Option Active). or_refusal (number_refusal st.last_txn o)
    (or_refusal (there_refusal st session (Truncate db)) (or_refusal (name_refusal st session (Truncate db)) (target_refusal (Truncate db) None)))) none
late_alike st session call is none = absurd is

-- ---- its answer

changed_alike : (changes : List Change) (o : Outcome) (limit : Option Answer) (st : Standing) (answer : Answer) → AreChanged changes o limit (alone (alone_of st)) answer → AreChanged changes o limit st answer
changed_alike [] o limit st answer may = may
changed_alike (change ∷ changes) o limit st answer may = may

pub answers_alike : (late limit : Option Answer) (st : Standing) (session line : ℕ) (call : Call) (answer : Answer) → ChangesCatalog call → (late ≡ None → IsFreeToChange st call) →
    IsEvaluatedAlone late limit (alone_of st) session call answer → IsEvaluated late limit st session line call answer []
answers_alike (Some refusal) limit st session line call answer is free may = (may, refl)
answers_alike None limit st session line (Create db kind) answer is free may = (may, refl)
answers_alike None limit st session line (CreateIndex db index) answer is free may =
    (inl (free refl, changed_alike (evaluation (CreateIndex db index) st.store).changes (evaluation (CreateIndex db index) st.store) limit st answer may), refl)
answers_alike None limit st session line (Remove db) answer is free may =
    (inl (free refl, changed_alike (evaluation (Remove db) st.store).changes (evaluation (Remove db) st.store) limit st answer may), refl)
answers_alike None limit st session line (Rename db to) answer is free may =
    (inl (free refl, changed_alike (evaluation (Rename db to) st.store).changes (evaluation (Rename db to) st.store) limit st answer may), refl)
answers_alike None limit st session line (Truncate db) answer is free may =
    (inl (free refl, changed_alike (evaluation (Truncate db) st.store).changes (evaluation (Truncate db) st.store) limit st answer may), refl)
answers_alike None limit st session line call answer is free may = absurd is

used_by : (st : Standing) (db : ℕ) (t : TxnId) → IsLeastUser st db t ⊎ IsAwaited st db t →
    ((u : TxnId) × IsLeastUser st db u × (DatabaseInUse t ≡ DatabaseInUse u)) ⊎ ((u : TxnId) × IsAwaited st db u × (DatabaseInUse t ≡ DatabaseInUse u))
used_by st db t (inl least) = inl (t, least, refl)
used_by st db t (inr awaited) = inr (t, awaited, refl)

pub in_use_answers : (limit : Option Answer) (st : Standing) (session line : ℕ) (call : Call) (t : TxnId) → ChangesCatalog call → IsUsedBy st call t →
    IsEvaluated None limit st session line call (DatabaseInUse t) []
in_use_answers limit st session line (Create db kind) t is used = absurd used
in_use_answers limit st session line (CreateIndex db index) t is used = (inr (used_by st (st.numbers index.primary) t used), refl)
in_use_answers limit st session line (Remove db) t is used = (inr (used_by st (st.numbers db) t used), refl)
in_use_answers limit st session line (Rename db to) t is used = (inr (used_by st (st.numbers db) t used), refl)
in_use_answers limit st session line (Truncate db) t is used = (inr (used_by st (st.numbers db) t used), refl)
in_use_answers limit st session line call t is used = absurd is

-- ---- where it leaves the environment

catalog_alike : (fate : Fate) (changes : List Change) (o : Option Active) (st : Standing) → o ≡ None → after_catalog fate changes o st ≡ with_alone (fate_alone fate changes (alone_of st)) st
catalog_alike Succeeds [] o st none = ap (λ (x : Option Active). after_catalog Succeeds [] x st) none
catalog_alike Succeeds (change ∷ changes) o st none = ap (λ (x : Option Active). after_catalog Succeeds (change ∷ changes) x st) none
catalog_alike IsRefused changes o st none = ap (λ (x : Option Active). after_catalog IsRefused changes x st) none
catalog_alike Faults changes o st none = refl

pub leaves_alike : (late : Option Answer) (st : Standing) (session line : ℕ) (call : Call) (answer : Answer) → ChangesCatalog call → active_of session st.actives ≡ None →
    after_evaluated late st session line call answer [] ≡ with_alone (evaluated_alone late call (alone_of st) session answer) st
leaves_alike (Some refusal) st session line call answer is none = ap (λ (o : Option Active). drawn_by o st) none
leaves_alike None st session line (Create db kind) answer is none = catalog_alike (fate_of answer) (evaluation (Create db kind) st.store).changes (active_of session st.actives) st none
leaves_alike None st session line (CreateIndex db index) answer is none = catalog_alike (fate_of answer) (evaluation (CreateIndex db index) st.store).changes (active_of session st.actives) st none
leaves_alike None st session line (Remove db) answer is none = catalog_alike (fate_of answer) (evaluation (Remove db) st.store).changes (active_of session st.actives) st none
leaves_alike None st session line (Rename db to) answer is none = catalog_alike (fate_of answer) (evaluation (Rename db to) st.store).changes (active_of session st.actives) st none
leaves_alike None st session line (Truncate db) answer is none = catalog_alike (fate_of answer) (evaluation (Truncate db) st.store).changes (active_of session st.actives) st none
leaves_alike None st session line call answer is none = absurd is

-- a used database leaves it as a refusal does
pub in_use_leaves : (st : Standing) (session line : ℕ) (call : Call) (t : TxnId) → ChangesCatalog call → active_of session st.actives ≡ None →
    after_evaluated None st session line call (DatabaseInUse t) [] ≡ with_alone (drawn_alone (alone_of st)) st
in_use_leaves st session line (Create db kind) t is none = leaves_alike None st session line (Create db kind) (DatabaseInUse t) is none
in_use_leaves st session line (CreateIndex db index) t is none = leaves_alike None st session line (CreateIndex db index) (DatabaseInUse t) is none
in_use_leaves st session line (Remove db) t is none = leaves_alike None st session line (Remove db) (DatabaseInUse t) is none
in_use_leaves st session line (Rename db to) t is none = leaves_alike None st session line (Rename db to) (DatabaseInUse t) is none
in_use_leaves st session line (Truncate db) t is none = leaves_alike None st session line (Truncate db) (DatabaseInUse t) is none
in_use_leaves st session line call t is none = absurd is
