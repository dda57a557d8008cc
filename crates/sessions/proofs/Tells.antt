-- Victims that are told and marked, with copies of their cycles.
use Rattle.std.proofs.Common.{◌≡◌, ℕ, ◌<◌, ◌≤◌, ◌+◌, ◌==◌, Bool, true, false, cond, List, [], ◌∷◌, ◌++◌, length, map, reverse, Some, None, Option, Result, Ok, Err, IsOk, is_ok, Vec, vec_capacity, refl, ap, ap₂, sym, ◌∙◌, subst, ⊎_elim, append_assoc, suc, arith}
use Rattle.std.specs.List.{find, AllByRecursion}
use Rattle.std.specs.Option.{option_map}
use Rattle.std.specs.declared.alloc.Global.{Global}
use Rattle.std.proofs.lemmas.Bool.{cases_Bool, cond-true, cond-false}
use Rattle.std.proofs.lemmas.List.{reverse-append, length-append}
use Rattle.je_order.specs.declared.txn_id.TxnId.{TxnId}
use Rattle.je_order.specs.Transactions.{is_same_txn}
use Rattle.store_model.specs.declared.victim.Victim.{Victim}
use Rattle.je_answers.specs.declared.active.Active.{Active}
use Rattle.je_answers.specs.declared.wait.Wait.{Wait}
use Rattle.je_answers.specs.Events.{told_in, cycle_of}
use Rattle.je_answers.specs.After.{marked, marked_by}
use Rattle.active_txns.specs.Marks.{HaveOwnSessions}
use Rattle.standing_laws.proofs.Marks.{marked_own, same_session}
use Rattle.sessions.specs.Spares.{IsSpare, HasSpare, IsShort}

abbrev pub Told : Type 0
Told = TxnId × List TxnId

-- ---- buffers

all_each : {X : Type 0} (P Q : X → Type 0) → ((x : X) → P x → Q x) → (xs : List X) → AllByRecursion P xs → AllByRecursion Q xs
all_each P Q f [] h = tt
all_each P Q f (x ∷ xs) h = (f x h.0, all_each P Q f xs h.1)

all_append : {X : Type 0} (P : X → Type 0) (xs ys : List X) → AllByRecursion P xs → AllByRecursion P ys → AllByRecursion P (xs ++ ys)
all_append P [] ys h k = k
all_append P (x ∷ xs) ys h k = (h.0, all_append P xs ys h.1 k)

all_front : {X : Type 0} (P : X → Type 0) (xs ys : List X) → AllByRecursion P (xs ++ ys) → AllByRecursion P xs
all_front P [] ys h = tt
all_front P (x ∷ xs) ys h = (h.0, all_front P xs ys h.1)

all_last : {X : Type 0} (P : X → Type 0) (xs : List X) (y : X) → AllByRecursion P (xs ++ y ∷ []) → P y
all_last P [] y h = h.0
all_last P (x ∷ xs) y h = all_last P xs y h.1

le_trans : (a b c : ℕ) → a ≤ b → b ≤ c → a ≤ c
le_trans a b c h k = omega arith

pub less_spare : (n size count : ℕ) (bs : List (Vec TxnId Global)) → n ≤ size → HasSpare size count bs → HasSpare n count bs
less_spare n size count bs within h = record { each = all_each (IsSpare size) (IsSpare n) (λ b k. (k.0, le_trans n size (vec_capacity b) within k.1)) bs h.each; enough = h.enough }

pub fewer_spare : (size n count : ℕ) (bs : List (Vec TxnId Global)) → n ≤ count → HasSpare size count bs → HasSpare size n bs
fewer_spare size n count bs within h = record { each = h.each; enough = le_trans n count (length bs) within h.enough }

pub spare_begins : (size : ℕ) (b : Vec TxnId Global) (bs cs : List (Vec TxnId Global)) → bs ≡ [] → cs ≡ bs ++ b ∷ [] → b.items ≡ [] → size ≤ vec_capacity b → HasSpare size 1 cs
spare_begins size b bs cs none is empty within = subst (HasSpare size 1) (sym (is ∙ ap (λ l. l ++ b ∷ []) none)) (record { each = ((empty, within), tt); enough = omega arith })

pub spare_more : (size count : ℕ) (b : Vec TxnId Global) (bs cs : List (Vec TxnId Global)) → cs ≡ bs ++ b ∷ [] → b.items ≡ [] → size ≤ vec_capacity b → HasSpare size count bs → HasSpare size (count + 1) cs
spare_more size count b bs cs is empty within h = subst (HasSpare size (count + 1)) (sym is) (record {
  each = all_append (IsSpare size) bs (b ∷ []) h.each ((empty, within), tt);
  enough = let k = length-append bs (b ∷ []) in let m = h.enough in omega (arith, k, m);
})

-- ---- cycles

pub cycle_short : (size : ℕ) (t : TxnId) (vs : List Told) (cycle : List TxnId) → Some cycle ≡ cycle_of t vs → AllByRecursion (IsShort size) vs → length cycle ≤ size
cycle_short size t [] cycle is h = absurd (cc (is))
cycle_short size t (v ∷ vs) cycle is h = ⊎_elim
    (λ e. let k : Some cycle ≡ Some v.1 = is ∙ ap (option_map (λ (x : Told). x.1)) (cond-true (is_same_txn t v.0) (Some v) (find (λ (x : Told). is_same_txn t x.0) vs) e) in
    let same : cycle ≡ v.1 = cc in subst (λ (l : List TxnId). length l ≤ size) (sym same) h.0)
    (λ e. cycle_short size t vs cycle (is ∙ ap (option_map (λ (x : Told). x.1)) (cond-false (is_same_txn t v.0) (Some v) (find (λ (x : Told). is_same_txn t x.0) vs) e)) h.1)
    (cases_Bool (is_same_txn t v.0))

-- ---- marks

mark_more : (v : Victim) (o : Option Victim) (a : Active) (b : Bool) → marked_by (cond b (Some v) None) (marked_by o a) ≡ marked_by (cond b (Some v) o) a
mark_more v None a true = refl
mark_more v None a false = refl
mark_more v (Some w) a true = refl
mark_more v (Some w) a false = refl

pub marked_more : (v : Victim) (vs : List Victim) (as_ : List Active) → marked (v ∷ []) (marked vs as_) ≡ marked (v ∷ vs) as_
marked_more v vs [] = refl
marked_more v vs (a ∷ as_) = ap₂ (λ (x : Active) (l : List Active). x ∷ l)
    (ap (λ n. marked_by (cond (v.session == n) (Some v) None) (marked_by (find (λ (w : Victim). w.session == a.session) vs) a)) (same_session (find (λ (w : Victim). w.session == a.session) vs) a)
    ∙ mark_more v (find (λ (w : Victim). w.session == a.session) vs) a (v.session == a.session))
    (marked_more v vs as_)

pub marked_none : (as_ : List Active) → as_ ≡ marked [] as_
marked_none [] = refl
marked_none (a ∷ as_) = ap (λ l. a ∷ l) (marked_none as_)

-- ---- the walk

-- some were told, the last first
pub record IsTelling (waiting : List Wait) (all left : List Told) (size : ℕ) (old now : List Active) (told : List Victim) (cap : ℕ) (buffers : List (Vec TxnId Global)) : Type 0 where
  pub spoken : List Told
  pub split : all ≡ left ++ spoken
  pub reversed : reverse told ≡ map (told_in waiting) spoken
  pub marks : now ≡ marked (map (told_in waiting) spoken) old
  pub own : HaveOwnSessions now
  pub spare : HasSpare size (length left) buffers
  pub short : AllByRecursion (IsShort size) left
  pub room : length left + length told ≤ cap

pub telling_begins : (waiting : List Wait) (all : List Told) (size : ℕ) (old : List Active) (told : List Victim) (cap : ℕ) (buffers : List (Vec TxnId Global))
    → told ≡ [] → HaveOwnSessions old → HasSpare size (length all) buffers → AllByRecursion (IsShort size) all → length all ≤ cap → IsTelling waiting all all size old old told cap buffers
telling_begins waiting all size old told cap buffers none own spare short room = record {
  spoken = [];
  split = sym (append_none all);
  reversed = ap reverse none;
  marks = marked_none old;
  own = own;
  spare = spare;
  short = short;
  room = let k = ap (λ (l : List Victim). length l) none in omega (arith, room, k);
}
  where
    append_none : (xs : List Told) → xs ++ [] ≡ xs
    append_none [] = refl
    append_none (x ∷ xs) = ap (λ l. x ∷ l) (append_none xs)

last_length : {X : Type 0} (xs : List X) (y : X) → length (xs ++ y ∷ []) ≡ suc (length xs)
last_length [] y = refl
last_length (x ∷ xs) y = ap suc (last_length xs y)

pub telling_victim : (waiting : List Wait) (all left rest : List Told) (v : Told) (size : ℕ) (old now : List Active) (told : List Victim) (cap : ℕ) (buffers : List (Vec TxnId Global))
    → left ≡ rest ++ v ∷ [] → IsTelling waiting all left size old now told cap buffers → HasSpare (length v.1) 1 buffers
telling_victim waiting all left rest v size old now told cap buffers is t = less_spare (length v.1) size 1 buffers (all_last (IsShort size) rest v (subst (AllByRecursion (IsShort size)) is t.short))
    (fewer_spare size 1 (length left) buffers (let k = ap (λ (l : List Told). length l) is in let m = last_length rest v in omega (arith, k, m)) t.spare)

pub telling_room : (waiting : List Wait) (all left rest : List Told) (v : Told) (size : ℕ) (old now : List Active) (told : List Victim) (cap : ℕ) (buffers : List (Vec TxnId Global))
    → left ≡ rest ++ v ∷ [] → IsTelling waiting all left size old now told cap buffers → length told < cap
telling_room waiting all left rest v size old now told cap buffers is t = let k = ap (λ (l : List Told). length l) is in let m = last_length rest v in let r = t.room in omega (arith, k, m, r)

pub telling_goes_on : (waiting : List Wait) (all left rest : List Told) (v : Told) (size : ℕ) (old now next : List Active) (told more : List Victim) (cap room : ℕ) (buffers fewer : List (Vec TxnId Global))
    → left ≡ rest ++ v ∷ [] → more ≡ told ++ told_in waiting v ∷ [] → cap ≤ room → next ≡ marked (told_in waiting v ∷ []) now → ((n count : ℕ) → HasSpare n (suc count) buffers → HasSpare n count fewer)
    → IsTelling waiting all left size old now told cap buffers → IsTelling waiting all rest size old next more room fewer
telling_goes_on waiting all left rest v size old now next told more cap room buffers fewer is put grown mark left_ t = record {
  spoken = v ∷ t.spoken;
  split = t.split ∙ (ap (λ l. l ++ t.spoken) is ∙ append_assoc rest (v ∷ []) t.spoken);
  reversed = ap reverse put ∙ (reverse-append told (told_in waiting v ∷ []) ∙ ap (λ l. told_in waiting v ∷ l) t.reversed);
  marks = mark ∙ (ap (marked (told_in waiting v ∷ [])) t.marks ∙ marked_more (told_in waiting v) (map (told_in waiting) t.spoken) old);
  own = subst HaveOwnSessions (sym mark) (marked_own (told_in waiting v ∷ []) now t.own);
  spare = left_ size (length rest) (subst (λ n. HasSpare size n buffers) (ap (λ (l : List Told). length l) is ∙ last_length rest v) t.spare);
  short = all_front (IsShort size) rest (v ∷ []) (subst (AllByRecursion (IsShort size)) is t.short);
  room = let k = ap (λ (l : List Told). length l) is in let m = last_length rest v in let r = t.room in let p = ap (λ (l : List Victim). length l) put in let q = last_length told (told_in waiting v) in omega (arith, k, m, r, p, q, grown);
}

pub telling_ends : (waiting : List Wait) (all left : List Told) (size : ℕ) (old now : List Active) (told : List Victim) (cap : ℕ) (buffers : List (Vec TxnId Global))
    → left ≡ [] → IsTelling waiting all left size old now told cap buffers → (reverse told ≡ map (told_in waiting) all) × (now ≡ marked (map (told_in waiting) all) old)
telling_ends waiting all left size old now told cap buffers is t =
    let same = t.split ∙ ap (λ l. l ++ t.spoken) is in
    (t.reversed ∙ ap (map (told_in waiting)) (sym same), t.marks ∙ ap (λ l. marked (map (told_in waiting) l) old) (sym same))

-- ---- around it

pub put_in : {X E : Type 0} (r : Result (Unit {0}) E) (a b new : List X) → new ≡ cond (is_ok r) a b → IsOk r → new ≡ a
put_in (Ok u) a b new is ok = is
put_in (Err e) a b new is ok = absurd (cc (ok))

pub left_spare : (size n : ℕ) (old new : List (Vec TxnId Global)) → n ≤ size → HasSpare size (size + 1) old → ((m count : ℕ) → HasSpare m (suc count) old → HasSpare m count new) → HasSpare size n new
left_spare size n old new within h less = fewer_spare size n size new within (less size size (record { each = h.each; enough = let k = h.enough in omega (arith, k) }))
