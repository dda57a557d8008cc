-- A field that is read is the field that was written, and what was written is read again, whatever follows it.
use Rattle.std.proofs.Common.{◌≡◌, ℕ, zero, suc, ◌+◌, ◌^◌, ◌<◌, ◌≤◌, Bool, true, false, cond, eqb, leb, List, [], ◌∷◌, ◌++◌, length, Option, Some, None, Result, Ok, Err, refl, sym, ap, subst, ◌∙◌, append_assoc, arith}
use Rattle.std.specs.Prelude.{◌&&◌, IfSome, IfOk}
use Rattle.std.specs.Result.{result_ok}
use Rattle.std.specs.Int.{Width, w16, w32, w64, to_be_bytes}
use Rattle.std.specs.List.{AllByRecursion, flat_map}
use Rattle.std.proofs.lemmas.Bool.{eqb-true, leb-true, le-leb, lt-leb}
use Rattle.std.proofs.lemmas.List.{append-nil, length-append}
use Rattle.je_order.specs.declared.name.Name.{Name}
use Rattle.je_bytes.specs.Reading.{AreBytes, byte_in, number_in, bytes_in, IsReadAsWritten}
use Rattle.je_bytes.proofs.Fields.{Takes, Takes-then, two_bytes, four_bytes, eight_bytes, number_in-takes, number_in-again, bytes_in-takes, bytes_in-again}
use Rattle.log_entry.specs.declared.child_slot.ChildSlot.{ChildSlot}
use Rattle.log_entry.specs.declared.record_slot.RecordSlot.{RecordSlot}
use Rattle.log_entry.specs.declared.root.Root.{Root}
use Rattle.log_entry.specs.declared.file_usage.FileUsage.{FileUsage}
use Rattle.je_order.specs.Options.{◌>>=◌}
use Rattle.je_order.proofs.Options.{bind_some}
use Rattle.log_entry.specs.Fields.{IsName, string, name_bytes, string_in, name_in, version_bytes, version_in, optional_bytes, optional_in}
use Rattle.log_entry.specs.Items.{rises, AreRising, items_in, rising_in, counted_bytes, counted_in, IsChildSlot, child_slot_bytes, child_slot_in, IsRecordSlot, record_slot_bytes, record_slot_in, IsRoot, root_bytes, root_in, IsFileUsage, file_usage_bytes, file_usage_in}

-- a test that held
pub test_held : {A : Type 0} (b : Bool) (o : Option A) (y : A) → cond b o None ≡ Some y → (b ≡ true) × (o ≡ Some y)
test_held true o y e = (refl, e)
test_held false o y e = absurd cc

pub some_is : {A : Type 0} (x y : A) → (let o : Option A = Some x in o) ≡ Some y → x ≡ y
some_is x y e = cc

pub bind_is : {A B : Type 0} (o : Option A) (f : A → Option B) (x : A) → o ≡ Some x → (o >>= f) ≡ f x
bind_is o f x e = ap (λ (read : Option _). read >>= f) e

-- ---- fields

-- what is read is what was written of the values that fit, and a value that fits is read again
pub record IsField {A : Type 0} (Fits : A → Type 0) (text : A → List ℕ) (field_in : List ℕ → Option (A × List ℕ)) : Type 0 where
  pub takes : (bytes : List ℕ) (a : A) (rest : List ℕ) → AreBytes bytes → field_in bytes ≡ Some (a, rest) → Takes bytes (text a) rest × Fits a
  pub again : (a : A) (rest : List ℕ) → Fits a → field_in (text a ++ rest) ≡ Some (a, rest)

-- a field was read, and then what is read after it
pub record Stepped {A B : Type 0} (Fits : A → Type 0) (text : A → List ℕ) (bytes : List ℕ) (f : A × List ℕ → Option B) (y : B) : Type 0 where
  pub value : A
  pub rest : List ℕ
  pub takes : Takes bytes (text value) rest
  pub fits : Fits value
  pub next : f (value, rest) ≡ Some y

pub step : {A B : Type 0} {Fits : A → Type 0} {text : A → List ℕ} {field_in : List ℕ → Option (A × List ℕ)} → IsField Fits text field_in
    → (bytes : List ℕ) (f : A × List ℕ → Option B) (y : B) → AreBytes bytes → (field_in bytes >>= f) ≡ Some y → Stepped Fits text bytes f y
step {A} {B} {Fits} {text} {field_in} is bytes f y are e =
    let b = bind_some (field_in bytes) f y e in
    let t = is.takes bytes b.0.0 b.0.1 are b.1 in
    record { value = b.0.0; rest = b.0.1; takes = t.0; fits = t.1; next = b.2 }

pub step_again : {A B : Type 0} {Fits : A → Type 0} {text : A → List ℕ} {field_in : List ℕ → Option (A × List ℕ)} → IsField Fits text field_in
    → (a : A) (rest : List ℕ) (f : A × List ℕ → Option B) → Fits a → (field_in (text a ++ rest) >>= f) ≡ f (a, rest)
step_again {A} {B} {Fits} {text} {field_in} is a rest f fits = bind_is (field_in (text a ++ rest)) f (a, rest) (is.again a rest fits)

-- the bytes are the text and what the rest is
pub and_then : {bytes text rest others : List ℕ} → Takes bytes text rest → rest ≡ others → bytes ≡ text ++ others
and_then {bytes} {text} {rest} {others} t is = t.parts ∙ ap (λ (r : List ℕ). text ++ r) is

pub ends : {bytes text rest : List ℕ} → Takes bytes text rest → rest ≡ [] → bytes ≡ text
ends {bytes} {text} {rest} t is = and_then t is ∙ append-nil text

-- the last field is read again where nothing follows it
pub last_again : {A : Type 0} {Fits : A → Type 0} {text : A → List ℕ} {field_in : List ℕ → Option (A × List ℕ)} → IsField Fits text field_in
    → (a : A) → Fits a → field_in (text a) ≡ Some (a, [])
last_again {A} {Fits} {text} {field_in} is a fits = ap field_in (sym (append-nil (text a))) ∙ is.again a [] fits

-- ---- numbers

number : (w : Width) (limit : ℕ) → IsReadAsWritten w limit → IsField (λ (n : ℕ). n < limit) (to_be_bytes w) (number_in w)
number w limit wide = record {
  takes = λ bytes n rest are e. number_in-takes w limit wide bytes n rest are e;
  again = λ n rest lt. number_in-again w limit wide n rest lt;
}

pub two : IsField (λ (n : ℕ). n < 2 ^ 16) (to_be_bytes w16) (number_in w16)
two = number w16 (2 ^ 16) two_bytes

pub four : IsField (λ (n : ℕ). n < 2 ^ 32) (to_be_bytes w32) (number_in w32)
four = number w32 (2 ^ 32) four_bytes

pub eight : IsField (λ (n : ℕ). n < 2 ^ 64) (to_be_bytes w64) (number_in w64)
eight = number w64 (2 ^ 64) eight_bytes

byte_in-takes : (bytes : List ℕ) (n : ℕ) (rest : List ℕ) → AreBytes bytes → byte_in bytes ≡ Some (n, rest) → Takes bytes (n ∷ []) rest × (n < 2 ^ 8)
byte_in-takes [] n rest are e = absurd cc
byte_in-takes (b ∷ bytes) n rest are e =
    subst (λ (p : ℕ × List ℕ). Takes (b ∷ bytes) (p.0 ∷ []) p.1 × (p.0 < 2 ^ 8)) (some_is (b, bytes) (n, rest) e)
    (record { parts = refl; rest_fits = λ i. are (suc i) }, are 0)

pub byte : IsField (λ (n : ℕ). n < 2 ^ 8) (λ n. n ∷ []) byte_in
byte = record { takes = byte_in-takes; again = λ n rest lt. refl }

-- ---- strings and names

string_in-takes : (bytes text rest : List ℕ) → AreBytes bytes → string_in bytes ≡ Some (text, rest) → Takes bytes (string text) rest × (length text ≤ 4096)
unfolding string_in
string_in-takes bytes text rest are e =
    let n = step two bytes _ (text, rest) are e in
    let g = test_held (leb n.value 4096) (bytes_in n.value n.rest) (text, rest) n.next in
    let r = bytes_in-takes n.value n.rest text rest n.takes.rest_fits g.1 in
    let both = Takes-then bytes (to_be_bytes w16 n.value) n.rest text rest n.takes r.0 in
    let small : n.value ≤ 4096 = leb-true _ _ g.0 in
    (subst (λ (k : ℕ). Takes bytes (to_be_bytes w16 k ++ text) rest) (sym r.1) both, omega (arith, r.1))

string_in-again : (text rest : List ℕ) → length text ≤ 4096 → string_in (string text ++ rest) ≡ Some (text, rest)
unfolding string_in
string_in-again text rest le =
    rw (number_in-again w16 (2 ^ 16) two_bytes (length text) (text ++ rest) (omega arith), le-leb _ _ le, bytes_in-again text rest) refl

-- a string whose length is too great
pub string_in-long : {E : Type 0} (bytes rest : List ℕ) (len : ℕ) (read : Result ℕ E) → result_ok read ≡ Some len → IfOk read (λ n. number_in w16 bytes ≡ Some (n, rest)) → 4096 < len → string_in bytes ≡ None
unfolding string_in
string_in-long bytes rest len (Ok n) is next long =
    let same : n ≡ len = some_is n len is in
    bind_is (number_in w16 bytes) (λ (l : ℕ × List ℕ). cond (leb l.0 4096) (bytes_in l.0 l.1) None) (n, rest) next ∙ ap (λ (t : Bool). cond t (bytes_in n rest) None) (lt-leb n 4096 (omega (arith, same)))
string_in-long bytes rest len (Err e) is next long = absurd cc

a_string : IsField (λ (text : List ℕ). length text ≤ 4096) string string_in
a_string = record { takes = string_in-takes; again = string_in-again }

name_in-takes : (bytes : List ℕ) (name : Name) (rest : List ℕ) → AreBytes bytes → name_in bytes ≡ Some (name, rest) → Takes bytes (name_bytes name) rest × IsName name
unfolding name_in
name_in-takes bytes name rest are e =
    let key = step a_string bytes _ (name, rest) are e in
    let dup = step a_string key.rest _ (name, rest) key.takes.rest_fits key.next in
    let made : Name × List ℕ = (record { key = key.value; dup = dup.value }, dup.rest) in
    subst (λ (x : Name × List ℕ). Takes bytes (name_bytes x.0) x.1 × IsName x.0) (some_is made (name, rest) dup.next)
    (Takes-then bytes (string key.value) key.rest (string dup.value) dup.rest key.takes dup.takes, (key.fits, dup.fits))

name_in-again : (name : Name) (rest : List ℕ) → IsName name → name_in (name_bytes name ++ rest) ≡ Some (name, rest)
unfolding name_in
name_in-again name rest is =
    rw (append_assoc (string name.key) (string name.dup) rest, string_in-again name.key (string name.dup ++ rest) is.0, string_in-again name.dup rest is.1) refl

pub a_name : IsField IsName name_bytes name_in
a_name = record { takes = name_in-takes; again = name_in-again }

-- ---- LSNs that may be missing

abbrev IsVersion : Option ℕ → Type 0
IsVersion version = IfSome version (λ lsn. lsn < 2 ^ 64)

and_true : (a b : Bool) → (a && b) ≡ true → (a ≡ true) × (b ≡ true)
and_true true b e = (refl, e)
and_true false b e = absurd cc

abbrev versioned : Option ℕ → List ℕ → Option (Option ℕ × List ℕ)
versioned version rest = Some (version, rest)

version_by : (bytes : List ℕ) (state lsn : ℕ) (rest last : List ℕ) (version : Option ℕ) → Takes bytes (state ∷ to_be_bytes w64 lsn) rest → lsn < 2 ^ 64
    → (there gone : Bool) → eqb state 0 ≡ there → (eqb state 1 && eqb lsn 0) ≡ gone → cond there (versioned (Some lsn) rest) (cond gone (versioned None rest) None) ≡ versioned version last
    → Takes bytes (version_bytes version) last × IsVersion version
version_by bytes state lsn rest last version t lt true gone is_there is_gone e =
    subst (λ (p : Option ℕ × List ℕ). Takes bytes (version_bytes p.0) p.1 × IsVersion p.0) (some_is (Some lsn, rest) (version, last) e)
    (subst (λ (k : ℕ). Takes bytes (k ∷ to_be_bytes w64 lsn) rest) (eqb-true _ _ is_there) t, lt)
version_by bytes state lsn rest last version t lt false true is_there is_gone e =
    let both = and_true (eqb state 1) (eqb lsn 0) is_gone in
    subst (λ (p : Option ℕ × List ℕ). Takes bytes (version_bytes p.0) p.1 × IsVersion p.0) (some_is (None, rest) (version, last) e)
    (subst (λ (n : ℕ). Takes bytes (1 ∷ to_be_bytes w64 n) rest) (eqb-true _ _ both.1) (subst (λ (k : ℕ). Takes bytes (k ∷ to_be_bytes w64 lsn) rest) (eqb-true _ _ both.0) t), tt)
version_by bytes state lsn rest last version t lt false false is_there is_gone e = absurd cc

version_in-takes : (bytes : List ℕ) (version : Option ℕ) (rest : List ℕ) → AreBytes bytes → version_in bytes ≡ Some (version, rest) → Takes bytes (version_bytes version) rest × IsVersion version
unfolding version_in
version_in-takes bytes version rest are e =
    let a = step byte bytes _ (version, rest) are e in
    let b = step eight a.rest _ (version, rest) a.takes.rest_fits a.next in
    version_by bytes a.value b.value b.rest rest version (Takes-then bytes (a.value ∷ []) a.rest (to_be_bytes w64 b.value) b.rest a.takes b.takes) b.fits
    (eqb a.value 0) (eqb a.value 1 && eqb b.value 0) refl refl b.next

version_in-again : (version : Option ℕ) (rest : List ℕ) → IsVersion version → version_in (version_bytes version ++ rest) ≡ Some (version, rest)
unfolding version_in
version_in-again (Some lsn) rest lt =
    bind_is (number_in w64 (to_be_bytes w64 lsn ++ rest)) (λ read. Some (Some read.0, read.1)) (lsn, rest) (eight.again lsn rest lt)
version_in-again None rest is =
    bind_is (number_in w64 (to_be_bytes w64 0 ++ rest)) (λ read. cond (eqb read.0 0) (Some (None, read.1)) None) (0, rest) (eight.again 0 rest (omega arith))

pub a_version : IsField IsVersion version_bytes version_in
a_version = record { takes = version_in-takes; again = version_in-again }

abbrev pub IsOptional : Option ℕ → Type 0
IsOptional found = IfSome found (λ lsn. (0 < lsn) × (lsn < 2 ^ 64))

positive : (n : ℕ) → eqb n 0 ≡ false → 0 < n
positive zero e = absurd cc
positive (suc n) e = omega arith

optional_by : (bytes : List ℕ) (lsn : ℕ) (rest last : List ℕ) (found : Option ℕ) → Takes bytes (to_be_bytes w64 lsn) rest → lsn < 2 ^ 64
    → (none : Bool) → eqb lsn 0 ≡ none → (let o : Option (Option ℕ × List ℕ) = Some (cond none None (Some lsn), rest) in o) ≡ Some (found, last) → Takes bytes (optional_bytes found) last × IsOptional found
optional_by bytes lsn rest last found t lt true is e =
    subst (λ (p : Option ℕ × List ℕ). Takes bytes (optional_bytes p.0) p.1 × IsOptional p.0) (some_is (None, rest) (found, last) e)
    (subst (λ (n : ℕ). Takes bytes (to_be_bytes w64 n) rest) (eqb-true _ _ is) t, tt)
optional_by bytes lsn rest last found t lt false is e =
    subst (λ (p : Option ℕ × List ℕ). Takes bytes (optional_bytes p.0) p.1 × IsOptional p.0) (some_is (Some lsn, rest) (found, last) e)
    (t, (positive lsn is, lt))

optional_in-takes : (bytes : List ℕ) (found : Option ℕ) (rest : List ℕ) → AreBytes bytes → optional_in bytes ≡ Some (found, rest) → Takes bytes (optional_bytes found) rest × IsOptional found
unfolding optional_in
optional_in-takes bytes found rest are e =
    let a = step eight bytes _ (found, rest) are e in
    optional_by bytes a.value a.rest rest found a.takes a.fits (eqb a.value 0) refl a.next

not_zero : (n : ℕ) → 0 < n → eqb n 0 ≡ false
not_zero n lt =
    elim (eqb n 0) as (λ b. eqb n 0 ≡ b → b ≡ false) [ true ↦ λ e. (let zero_is : n ≡ 0 = eqb-true n 0 e in absurd (omega arith)) | false ↦ λ e. refl ] refl

optional_in-again : (found : Option ℕ) (rest : List ℕ) → IsOptional found → optional_in (optional_bytes found ++ rest) ≡ Some (found, rest)
unfolding optional_in
optional_in-again (Some lsn) rest is =
    bind_is (number_in w64 (to_be_bytes w64 lsn ++ rest)) (λ read. Some (cond (eqb read.0 0) None (Some read.0), read.1)) (lsn, rest) (eight.again lsn rest is.1)
    ∙ ap (λ (b : Bool). Some (cond b None (Some lsn), rest)) (not_zero lsn is.0)
optional_in-again None rest is =
    bind_is (number_in w64 (to_be_bytes w64 0 ++ rest)) (λ read. Some (cond (eqb read.0 0) None (Some read.0), read.1)) (0, rest) (eight.again 0 rest (omega arith))

pub an_optional : IsField IsOptional optional_bytes optional_in
an_optional = record { takes = optional_in-takes; again = optional_in-again }

-- ---- lists

items_in-takes : {A : Type 0} {Fits : A → Type 0} {text : A → List ℕ} {field_in : List ℕ → Option (A × List ℕ)} → IsField Fits text field_in
    → (n : ℕ) (bytes : List ℕ) (xs : List A) (rest : List ℕ) → AreBytes bytes → items_in field_in n bytes ≡ Some (xs, rest)
    → Takes bytes (flat_map text xs) rest × AllByRecursion Fits xs × (length xs ≡ n)
unfolding items_in
items_in-takes {A} {Fits} {text} {field_in} is zero bytes xs rest are e =
    subst (λ (p : List A × List ℕ). Takes bytes (flat_map text p.0) p.1 × AllByRecursion Fits p.0 × (length p.0 ≡ 0)) (some_is ([], bytes) (xs, rest) e)
    (record { parts = refl; rest_fits = are }, tt, refl)
items_in-takes {A} {Fits} {text} {field_in} is (suc n) bytes xs rest are e =
    let a = step is bytes _ (xs, rest) are e in
    let b = bind_some (items_in field_in n a.rest) _ (xs, rest) a.next in
    let more = items_in-takes is n a.rest b.0.0 b.0.1 a.takes.rest_fits b.1 in
    subst (λ (p : List A × List ℕ). Takes bytes (flat_map text p.0) p.1 × AllByRecursion Fits p.0 × (length p.0 ≡ suc n)) (some_is (a.value ∷ b.0.0, b.0.1) (xs, rest) b.2)
    (Takes-then bytes (text a.value) a.rest (flat_map text b.0.0) b.0.1 a.takes more.0, (a.fits, more.1), ap suc more.2)

items_in-again : {A : Type 0} {Fits : A → Type 0} {text : A → List ℕ} {field_in : List ℕ → Option (A × List ℕ)} → IsField Fits text field_in
    → (xs : List A) (rest : List ℕ) → AllByRecursion Fits xs → items_in field_in (length xs) (flat_map text xs ++ rest) ≡ Some (xs, rest)
unfolding items_in
items_in-again {A} {Fits} {text} {field_in} is [] rest are = refl
items_in-again {A} {Fits} {text} {field_in} is (x ∷ xs) rest are =
    ap (items_in field_in (suc (length xs))) (append_assoc (text x) (flat_map text xs) rest)
    ∙ step_again is x (flat_map text xs ++ rest) (λ item. items_in field_in (length xs) item.1 >>= λ items. Some (item.0 ∷ items.0, items.1)) are.0
    ∙ ap (λ (o : Option (List A × List ℕ)). o >>= λ items. Some (x ∷ items.0, items.1)) (items_in-again is xs rest are.1)

rising_in-takes : {A : Type 0} {Fits : A → Type 0} {text : A → List ℕ} {field_in : List ℕ → Option (A × List ℕ)} → IsField Fits text field_in
    → (before : A → A → Bool) (most n : ℕ) (bytes : List ℕ) (xs : List A) (rest : List ℕ) → AreBytes bytes → rising_in field_in before most n bytes ≡ Some (xs, rest)
    → Takes bytes (flat_map text xs) rest × AreRising Fits before most xs × (length xs ≡ n)
unfolding rising_in
rising_in-takes {A} {Fits} {text} {field_in} is before most n bytes xs rest are e =
    let a = test_held (leb n most) _ (xs, rest) e in
    let b = bind_some (items_in field_in n bytes) _ (xs, rest) a.1 in
    let c = test_held (rises before b.0.0) _ (xs, rest) b.2 in
    let read = items_in-takes is n bytes b.0.0 b.0.1 are b.1 in
    let few : n ≤ most = leb-true _ _ a.0 in
    let rise : AreRising Fits before most b.0.0 = record { each = read.1; few = omega (arith, few, read.2); rise = c.0 } in
    subst (λ (p : List A × List ℕ). Takes bytes (flat_map text p.0) p.1 × AreRising Fits before most p.0 × (length p.0 ≡ n)) (some_is b.0 (xs, rest) c.1)
    (read.0, rise, read.2)

rising_in-again : {A : Type 0} {Fits : A → Type 0} {text : A → List ℕ} {field_in : List ℕ → Option (A × List ℕ)} → IsField Fits text field_in
    → (before : A → A → Bool) (most : ℕ) (xs : List A) (rest : List ℕ) → AreRising Fits before most xs → rising_in field_in before most (length xs) (flat_map text xs ++ rest) ≡ Some (xs, rest)
unfolding rising_in
rising_in-again {A} {Fits} {text} {field_in} is before most xs rest are =
    let read = items_in field_in (length xs) (flat_map text xs ++ rest) in
    ap (λ (b : Bool). cond b (read >>= λ items. cond (rises before items.0) (Some items) None) None) (le-leb _ _ are.few)
    ∙ bind_is read (λ items. cond (rises before items.0) (Some items) None) (xs, rest) (items_in-again is xs rest are.each)
    ∙ ap (λ (b : Bool). cond b (let o : Option (List A × List ℕ) = Some (xs, rest) in o) None) are.rise

counted_in-takes : {A : Type 0} {Fits : A → Type 0} {text : A → List ℕ} {field_in : List ℕ → Option (A × List ℕ)} → IsField Fits text field_in
    → (w : Width) (limit : ℕ) → IsReadAsWritten w limit → (before : A → A → Bool) (most : ℕ) (bytes : List ℕ) (xs : List A) (rest : List ℕ) → AreBytes bytes
    → counted_in w field_in before most bytes ≡ Some (xs, rest) → Takes bytes (counted_bytes w text xs) rest × AreRising Fits before most xs
unfolding counted_in
counted_in-takes {A} {Fits} {text} {field_in} is w limit wide before most bytes xs rest are e =
    let a = step (number w limit wide) bytes _ (xs, rest) are e in
    let read = rising_in-takes is before most a.value a.rest xs rest a.takes.rest_fits a.next in
    let count = subst (λ (k : ℕ). Takes bytes (to_be_bytes w k) a.rest) (sym read.2) a.takes in
    (Takes-then bytes (to_be_bytes w (length xs)) a.rest (flat_map text xs) rest count read.0, read.1)

counted_in-again : {A : Type 0} {Fits : A → Type 0} {text : A → List ℕ} {field_in : List ℕ → Option (A × List ℕ)} → IsField Fits text field_in
    → (w : Width) (limit : ℕ) → IsReadAsWritten w limit → (before : A → A → Bool) (most : ℕ) → most < limit → (xs : List A) (rest : List ℕ) → AreRising Fits before most xs
    → counted_in w field_in before most (counted_bytes w text xs ++ rest) ≡ Some (xs, rest)
unfolding counted_in
counted_in-again {A} {Fits} {text} {field_in} is w limit wide before most below xs rest are =
    let few : length xs ≤ most = are.few in
    ap (counted_in w field_in before most) (append_assoc (to_be_bytes w (length xs)) (flat_map text xs) rest)
    ∙ step_again (number w limit wide) (length xs) (flat_map text xs ++ rest) (λ count. rising_in field_in before most count.0 count.1) (omega (arith, few, below))
    ∙ rising_in-again is before most xs rest are

pub counted : {A : Type 0} {Fits : A → Type 0} {text : A → List ℕ} {field_in : List ℕ → Option (A × List ℕ)} → IsField Fits text field_in
    → (w : Width) (limit : ℕ) → IsReadAsWritten w limit → (before : A → A → Bool) (most : ℕ) → most < limit → IsField (AreRising Fits before most) (counted_bytes w text) (counted_in w field_in before most)
counted is w limit wide before most below = record {
  takes = λ bytes xs rest are e. counted_in-takes is w limit wide before most bytes xs rest are e;
  again = λ xs rest are. counted_in-again is w limit wide before most below xs rest are;
}

-- ---- items

child_slot_in-takes : (bytes : List ℕ) (slot : ChildSlot) (rest : List ℕ) → AreBytes bytes → child_slot_in bytes ≡ Some (slot, rest) → Takes bytes (child_slot_bytes slot) rest × IsChildSlot slot
unfolding child_slot_in
child_slot_in-takes bytes slot rest are e =
    let a = step a_name bytes _ (slot, rest) are e in
    let b = step eight a.rest _ (slot, rest) a.takes.rest_fits a.next in
    subst (λ (p : ChildSlot × List ℕ). Takes bytes (child_slot_bytes p.0) p.1 × IsChildSlot p.0) (some_is (record { name = a.value; child = b.value }, b.rest) (slot, rest) b.next)
    (Takes-then bytes (name_bytes a.value) a.rest (to_be_bytes w64 b.value) b.rest a.takes b.takes, (a.fits, b.fits))

child_slot_in-again : (slot : ChildSlot) (rest : List ℕ) → IsChildSlot slot → child_slot_in (child_slot_bytes slot ++ rest) ≡ Some (slot, rest)
unfolding child_slot_in
child_slot_in-again slot rest is =
    ap child_slot_in (append_assoc (name_bytes slot.name) (to_be_bytes w64 slot.child) rest)
    ∙ step_again a_name slot.name (to_be_bytes w64 slot.child ++ rest) (λ name. number_in w64 name.1 >>= λ child. Some (record { name = name.0; child = child.0 }, child.1)) is.0
    ∙ step_again eight slot.child rest (λ child. Some (record { name = slot.name; child = child.0 }, child.1)) is.1

pub a_child : IsField IsChildSlot child_slot_bytes child_slot_in
a_child = record { takes = child_slot_in-takes; again = child_slot_in-again }

record_slot_in-takes : (bytes : List ℕ) (slot : RecordSlot) (rest : List ℕ) → AreBytes bytes → record_slot_in bytes ≡ Some (slot, rest) → Takes bytes (record_slot_bytes slot) rest × IsRecordSlot slot
unfolding record_slot_in
record_slot_in-takes bytes slot rest are e =
    let a = step a_name bytes _ (slot, rest) are e in
    let b = step a_version a.rest _ (slot, rest) a.takes.rest_fits a.next in
    subst (λ (p : RecordSlot × List ℕ). Takes bytes (record_slot_bytes p.0) p.1 × IsRecordSlot p.0) (some_is (record { name = a.value; lsn = b.value }, b.rest) (slot, rest) b.next)
    (Takes-then bytes (name_bytes a.value) a.rest (version_bytes b.value) b.rest a.takes b.takes, (a.fits, b.fits))

record_slot_in-again : (slot : RecordSlot) (rest : List ℕ) → IsRecordSlot slot → record_slot_in (record_slot_bytes slot ++ rest) ≡ Some (slot, rest)
unfolding record_slot_in
record_slot_in-again slot rest is =
    ap record_slot_in (append_assoc (name_bytes slot.name) (version_bytes slot.lsn) rest)
    ∙ step_again a_name slot.name (version_bytes slot.lsn ++ rest) (λ name. version_in name.1 >>= λ version. Some (record { name = name.0; lsn = version.0 }, version.1)) is.0
    ∙ step_again a_version slot.lsn rest (λ version. Some (record { name = slot.name; lsn = version.0 }, version.1)) is.1

pub a_record : IsField IsRecordSlot record_slot_bytes record_slot_in
a_record = record { takes = record_slot_in-takes; again = record_slot_in-again }

root_in-takes : (bytes : List ℕ) (root : Root) (rest : List ℕ) → AreBytes bytes → root_in bytes ≡ Some (root, rest) → Takes bytes (root_bytes root) rest × IsRoot root
unfolding root_in
root_in-takes bytes root rest are e =
    let a = step four bytes _ (root, rest) are e in
    let b = step eight a.rest _ (root, rest) a.takes.rest_fits a.next in
    subst (λ (p : Root × List ℕ). Takes bytes (root_bytes p.0) p.1 × IsRoot p.0) (some_is (record { db = a.value; image = b.value }, b.rest) (root, rest) b.next)
    (Takes-then bytes (to_be_bytes w32 a.value) a.rest (to_be_bytes w64 b.value) b.rest a.takes b.takes, (a.fits, b.fits))

root_in-again : (root : Root) (rest : List ℕ) → IsRoot root → root_in (root_bytes root ++ rest) ≡ Some (root, rest)
unfolding root_in
root_in-again root rest is =
    step_again four root.db (to_be_bytes w64 root.image ++ rest) (λ db. number_in w64 db.1 >>= λ image. Some (record { db = db.0; image = image.0 }, image.1)) is.0
    ∙ step_again eight root.image rest (λ image. Some (record { db = root.db; image = image.0 }, image.1)) is.1

pub a_root : IsField IsRoot root_bytes root_in
a_root = record { takes = root_in-takes; again = root_in-again }

file_usage_in-takes : (bytes : List ℕ) (usage : FileUsage) (rest : List ℕ) → AreBytes bytes → file_usage_in bytes ≡ Some (usage, rest) → Takes bytes (file_usage_bytes usage) rest × IsFileUsage usage
unfolding file_usage_in
file_usage_in-takes bytes usage rest are e =
    let a = step four bytes _ (usage, rest) are e in
    let b = step eight a.rest _ (usage, rest) a.takes.rest_fits a.next in
    let c = step eight b.rest _ (usage, rest) b.takes.rest_fits b.next in
    let both = Takes-then a.rest (to_be_bytes w64 b.value) b.rest (to_be_bytes w64 c.value) c.rest b.takes c.takes in
    subst (λ (p : FileUsage × List ℕ). Takes bytes (file_usage_bytes p.0) p.1 × IsFileUsage p.0)
    (some_is (record { file = record { 0 = a.value }; total = b.value; live = c.value }, c.rest) (usage, rest) c.next)
    (Takes-then bytes (to_be_bytes w32 a.value) a.rest (to_be_bytes w64 b.value ++ to_be_bytes w64 c.value) c.rest a.takes both, (a.fits, b.fits, c.fits))

file_usage_in-again : (usage : FileUsage) (rest : List ℕ) → IsFileUsage usage → file_usage_in (file_usage_bytes usage ++ rest) ≡ Some (usage, rest)
unfolding file_usage_in
file_usage_in-again usage rest is =
    step_again four usage.file.0 (to_be_bytes w64 usage.total ++ (to_be_bytes w64 usage.live ++ rest))
    (λ file. number_in w64 file.1 >>= λ total. number_in w64 total.1 >>= λ live. Some (record { file = record { 0 = file.0 }; total = total.0; live = live.0 }, live.1)) is.0
    ∙ step_again eight usage.total (to_be_bytes w64 usage.live ++ rest)
    (λ total. number_in w64 total.1 >>= λ live. Some (record { file = usage.file; total = total.0; live = live.0 }, live.1)) is.1
    ∙ step_again eight usage.live rest (λ live. Some (record { file = usage.file; total = usage.total; live = live.0 }, live.1)) is.2

pub a_usage : IsField IsFileUsage file_usage_bytes file_usage_in
a_usage = record { takes = file_usage_in-takes; again = file_usage_in-again }

-- ---- how long they are

pub length_optional : (found : Option ℕ) → length (optional_bytes found) ≡ 8
length_optional (Some lsn) = refl
length_optional None = refl

pub length_version : (version : Option ℕ) → length (version_bytes version) ≡ 9
length_version (Some lsn) = refl
length_version None = refl

pub length_name : (name : Name) → length (name_bytes name) ≡ 4 + length name.key + length name.dup
length_name name = omega (arith, length-append (string name.key) (string name.dup))

pub length_child : (slot : ChildSlot) → length (child_slot_bytes slot) ≡ 12 + length slot.name.key + length slot.name.dup
length_child slot = omega (arith, length-append (name_bytes slot.name) (to_be_bytes w64 slot.child), length_name slot.name)

pub length_record : (slot : RecordSlot) → length (record_slot_bytes slot) ≡ 13 + length slot.name.key + length slot.name.dup
length_record slot = omega (arith, length-append (name_bytes slot.name) (version_bytes slot.lsn), length_name slot.name, length_version slot.lsn)
