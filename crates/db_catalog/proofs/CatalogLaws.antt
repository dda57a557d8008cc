-- A catalog record that is read is the record that was written, and what was written is read again.
use Rattle.std.proofs.Common.{◌≡◌, ℕ, suc, ◌^◌, ◌<◌, Bool, true, false, cond, eqb, nat_le, nat_lt, ◌&&◌, List, [], ◌∷◌, ◌++◌, length, Option, Some, None, refl, sym, ap, subst, ◌∙◌, arith}
use Rattle.std.specs.Prelude.{IfSome}
use Rattle.std.specs.Int.{w32, to_be_bytes}
use Rattle.std.proofs.lemmas.Bool.{and_parts, and_from, eqb-true, leb-true, le-leb, ltb-true, lt-ltb}
use Rattle.std.proofs.lemmas.List.{append-nil, nil_from_length}
use Rattle.je_order.specs.Options.{◌>>=◌}
use Rattle.je_order.proofs.Options.{bind_some}
use Rattle.je_bytes.specs.Reading.{AreBytes, byte_in, number_in}
use Rattle.je_bytes.proofs.Fields.{Takes, four_bytes, number_in-takes, number_in-again}
use Rattle.db_catalog.specs.declared.db_record.DbRecord.{DbRecord}
use Rattle.db_catalog.specs.declared.db_kind.DbKind.{DbKind}
use Rattle.db_catalog.specs.declared.db_kind.DbKind.TheVariants.{Plain, Dup, SliceIndex, FieldIndex}
use Rattle.store_model.specs.Making.{IsSlice}
use Rattle.db_catalog.specs.Catalog.{IsKind, IsRecord, kind_bytes, record_bytes, is_slice, ended, slice_in, field_in, kind_in, db_record_in}

-- ---- steps of reading

-- a step on a value
bind_is : {A B : Type 0} (o : Option A) (f : A → Option B) (x : A) → o ≡ Some x → (o >>= f) ≡ f x
bind_is o f x e = ap (λ (read : Option _). read >>= f) e

-- a test that held
test_held : {A : Type 0} (b : Bool) (o : Option A) (y : A) → cond b o None ≡ Some y → (b ≡ true) × (o ≡ Some y)
test_held true o y e = (refl, e)
test_held false o y e = absurd cc

some_is : {A : Type 0} (x y : A) → (let o : Option A = Some x in o) ≡ Some y → x ≡ y
some_is x y e = cc

byte_in-takes : (bytes : List ℕ) (b : ℕ) (rest : List ℕ) → AreBytes bytes → byte_in bytes ≡ Some (b, rest) → Takes bytes (b ∷ []) rest × (b < 2 ^ 8)
byte_in-takes [] b rest are e = absurd cc
byte_in-takes (x ∷ xs) b rest are e =
    let whole : Takes (x ∷ xs) (x ∷ []) xs × (x < 2 ^ 8) = (record { parts = refl; rest_fits = λ i. are (suc i) }, are 0) in
    subst (λ (p : ℕ × List ℕ). Takes (x ∷ xs) (p.0 ∷ []) p.1 × (p.0 < 2 ^ 8)) (some_is (x, xs) (b, rest) e) whole

-- a kind with nothing behind it
ended-takes : (k : DbKind) (rest : List ℕ) (got : DbKind) → ended k rest ≡ Some got → (rest ≡ []) × (k ≡ got)
ended-takes k rest got e =
    let t = test_held (eqb (length rest) 0) (Some k) got e in
    (nil_from_length rest (eqb-true _ _ t.0), some_is k got t.1)

-- ---- slices

slice_within : (offset len : ℕ) → is_slice offset len ≡ true → IsSlice offset len
slice_within offset len h =
    let p = and_parts (nat_le offset 65535 && nat_lt 0 len) (nat_le len 4096) h in
    let q = and_parts (nat_le offset 65535) (nat_lt 0 len) p.0 in
    let some : 0 < len = ltb-true 0 len q.1 in
    (leb-true offset 65535 q.0, omega arith, leb-true len 4096 p.1)

slice_passes : (offset len : ℕ) → IsSlice offset len → is_slice offset len ≡ true
slice_passes offset len h =
    and_from (nat_le offset 65535 && nat_lt 0 len) (nat_le len 4096)
    (and_from (nat_le offset 65535) (nat_lt 0 len) (le-leb offset 65535 h.0) (lt-ltb 0 len (omega (arith, h.1)))) (le-leb len 4096 h.2)

-- ---- what is read

-- the byte and the bytes behind it are this kind's
record IsKindOf (byte : ℕ) (rest : List ℕ) (k : DbKind) : Type 0 where
  fits : IsKind k
  is : byte ∷ rest ≡ kind_bytes k

slice_in-takes : (bytes : List ℕ) (k : DbKind) → AreBytes bytes → slice_in bytes ≡ Some k → IsKindOf 2 bytes k
unfolding slice_in
slice_in-takes bytes k are read =
    let a = bind_some (number_in w32 bytes) (λ primary. number_in w32 primary.1 >>= λ offset. number_in w32 offset.1 >>= λ len. cond (is_slice offset.0 len.0) (ended (SliceIndex primary.0 offset.0 len.0) len.1) None) k read in
    let b = bind_some (number_in w32 a.0.1) (λ offset. number_in w32 offset.1 >>= λ len. cond (is_slice offset.0 len.0) (ended (SliceIndex a.0.0 offset.0 len.0) len.1) None) k a.2 in
    let c = bind_some (number_in w32 b.0.1) (λ len. cond (is_slice b.0.0 len.0) (ended (SliceIndex a.0.0 b.0.0 len.0) len.1) None) k b.2 in
    let g = test_held (is_slice b.0.0 c.0.0) (ended (SliceIndex a.0.0 b.0.0 c.0.0) c.0.1) k c.2 in
    let h = ended-takes (SliceIndex a.0.0 b.0.0 c.0.0) c.0.1 k g.1 in
    let t0 = number_in-takes w32 (2 ^ 32) four_bytes bytes a.0.0 a.0.1 are a.1 in
    let t1 = number_in-takes w32 (2 ^ 32) four_bytes a.0.1 b.0.0 b.0.1 t0.0.rest_fits b.1 in
    let t2 = number_in-takes w32 (2 ^ 32) four_bytes b.0.1 c.0.0 c.0.1 t1.0.rest_fits c.1 in
    let fields : bytes ≡ to_be_bytes w32 a.0.0 ++ (to_be_bytes w32 b.0.0 ++ to_be_bytes w32 c.0.0) =
    t0.0.parts ∙ ap (λ (r : List ℕ). to_be_bytes w32 a.0.0 ++ r) (t1.0.parts ∙ ap (λ (r : List ℕ). to_be_bytes w32 b.0.0 ++ r)
    (t2.0.parts ∙ ap (λ (r : List ℕ). to_be_bytes w32 c.0.0 ++ r) h.0 ∙ append-nil (to_be_bytes w32 c.0.0))) in
    subst (IsKindOf 2 bytes) h.1 (record { fits = (t0.1, slice_within b.0.0 c.0.0 g.0); is = ap (λ (r : List ℕ). 2 ∷ r) fields })

field_in-takes : (bytes : List ℕ) (k : DbKind) → AreBytes bytes → field_in bytes ≡ Some k → IsKindOf 3 bytes k
unfolding field_in
field_in-takes bytes k are read =
    let a = bind_some (number_in w32 bytes) (λ primary. number_in w32 primary.1 >>= λ number. byte_in number.1 >>= λ separator. ended (FieldIndex primary.0 number.0 separator.0) separator.1) k read in
    let b = bind_some (number_in w32 a.0.1) (λ number. byte_in number.1 >>= λ separator. ended (FieldIndex a.0.0 number.0 separator.0) separator.1) k a.2 in
    let c = bind_some (byte_in b.0.1) (λ separator. ended (FieldIndex a.0.0 b.0.0 separator.0) separator.1) k b.2 in
    let h = ended-takes (FieldIndex a.0.0 b.0.0 c.0.0) c.0.1 k c.2 in
    let t0 = number_in-takes w32 (2 ^ 32) four_bytes bytes a.0.0 a.0.1 are a.1 in
    let t1 = number_in-takes w32 (2 ^ 32) four_bytes a.0.1 b.0.0 b.0.1 t0.0.rest_fits b.1 in
    let t2 = byte_in-takes b.0.1 c.0.0 c.0.1 t1.0.rest_fits c.1 in
    let fields : bytes ≡ to_be_bytes w32 a.0.0 ++ (to_be_bytes w32 b.0.0 ++ c.0.0 ∷ []) =
    t0.0.parts ∙ ap (λ (r : List ℕ). to_be_bytes w32 a.0.0 ++ r) (t1.0.parts ∙ ap (λ (r : List ℕ). to_be_bytes w32 b.0.0 ++ r)
    (t2.0.parts ∙ ap (λ (r : List ℕ). c.0.0 ∷ r) h.0)) in
    subst (IsKindOf 3 bytes) h.1 (record { fits = (t0.1, t1.1, t2.1); is = ap (λ (r : List ℕ). 3 ∷ r) fields })

ended_kind : (byte : ℕ) (k : DbKind) (bytes : List ℕ) (got : DbKind) → IsKind k → byte ∷ [] ≡ kind_bytes k → ended k bytes ≡ Some got → IsKindOf byte bytes got
ended_kind byte k bytes got fits is read =
    let h = ended-takes k bytes got read in
    subst (IsKindOf byte bytes) h.1 (record { fits = fits; is = ap (λ (r : List ℕ). byte ∷ r) h.0 ∙ is })

by_kind : (kind n : ℕ) (bytes : List ℕ) (k : DbKind) (one other : Option DbKind) → (one ≡ Some k → IsKindOf n bytes k) → (other ≡ Some k → IsKindOf kind bytes k)
    → cond (eqb kind n) one other ≡ Some k → IsKindOf kind bytes k
by_kind kind n bytes k one other h next read =
    let P : Bool → Type 0 = λ b. eqb kind n ≡ b → cond b one other ≡ Some k → IsKindOf kind bytes k in
    (elim (eqb kind n) as P [
      | true ↦ λ same found. subst (λ (x : ℕ). IsKindOf x bytes k) (sym (eqb-true _ _ same)) (h found)
      | false ↦ λ _ found. next found
    ]) refl read

kind_in-takes : (kind : ℕ) (bytes : List ℕ) (k : DbKind) → AreBytes bytes → kind_in kind bytes ≡ Some k → IsKindOf kind bytes k
unfolding kind_in
kind_in-takes kind bytes k are read =
    by_kind kind 0 bytes k (ended Plain bytes) _ (λ found. ended_kind 0 Plain bytes k tt refl found)
    (by_kind kind 1 bytes k (ended Dup bytes) _ (λ found. ended_kind 1 Dup bytes k tt refl found)
    (by_kind kind 2 bytes k (slice_in bytes) _ (λ found. slice_in-takes bytes k are found)
    (by_kind kind 3 bytes k (field_in bytes) None (λ found. field_in-takes bytes k are found)
    (λ found. absurd cc)))) read

abbrev with_kind : ℕ → DbKind → DbRecord
with_kind number kind = record { number = number; kind = kind }

-- what is read as a record is that record's bytes
pub db_record_in-takes : (bytes : List ℕ) (r : DbRecord) → AreBytes bytes → db_record_in bytes ≡ Some r → IsRecord r × (bytes ≡ record_bytes r)
unfolding db_record_in
db_record_in-takes bytes r are read =
    let a = bind_some (number_in w32 bytes) (λ number. byte_in number.1 >>= λ first. kind_in first.0 first.1 >>= λ kind. Some (with_kind number.0 kind)) r read in
    let b = bind_some (byte_in a.0.1) (λ first. kind_in first.0 first.1 >>= λ kind. Some (with_kind a.0.0 kind)) r a.2 in
    let c = bind_some (kind_in b.0.0 b.0.1) (λ kind. Some (with_kind a.0.0 kind)) r b.2 in
    let t0 = number_in-takes w32 (2 ^ 32) four_bytes bytes a.0.0 a.0.1 are a.1 in
    let t1 = byte_in-takes a.0.1 b.0.0 b.0.1 t0.0.rest_fits b.1 in
    let t2 = kind_in-takes b.0.0 b.0.1 c.0 t1.0.rest_fits c.1 in
    let whole : bytes ≡ record_bytes (with_kind a.0.0 c.0) = t0.0.parts ∙ ap (λ (x : List ℕ). to_be_bytes w32 a.0.0 ++ x) (t1.0.parts ∙ t2.is) in
    subst (λ (x : DbRecord). IsRecord x × (bytes ≡ record_bytes x)) (some_is (with_kind a.0.0 c.0) r c.2) ((t0.1, t2.fits), whole)

-- ---- what was written

slice_in-again : (primary offset len : ℕ) → primary < 2 ^ 32 → IsSlice offset len → slice_in (to_be_bytes w32 primary ++ (to_be_bytes w32 offset ++ to_be_bytes w32 len)) ≡ Some (SliceIndex primary offset len)
unfolding slice_in
slice_in-again primary offset len is_primary within =
    bind_is (number_in w32 (to_be_bytes w32 primary ++ (to_be_bytes w32 offset ++ to_be_bytes w32 len)))
    (λ primary. number_in w32 primary.1 >>= λ offset. number_in w32 offset.1 >>= λ len. cond (is_slice offset.0 len.0) (ended (SliceIndex primary.0 offset.0 len.0) len.1) None)
    (primary, to_be_bytes w32 offset ++ to_be_bytes w32 len) (number_in-again w32 (2 ^ 32) four_bytes primary (to_be_bytes w32 offset ++ to_be_bytes w32 len) is_primary)
    ∙ bind_is (number_in w32 (to_be_bytes w32 offset ++ to_be_bytes w32 len))
    (λ offset. number_in w32 offset.1 >>= λ len. cond (is_slice offset.0 len.0) (ended (SliceIndex primary offset.0 len.0) len.1) None)
    (offset, to_be_bytes w32 len) (number_in-again w32 (2 ^ 32) four_bytes offset (to_be_bytes w32 len) (omega (arith, within.0)))
    ∙ bind_is (number_in w32 (to_be_bytes w32 len))
    (λ len. cond (is_slice offset len.0) (ended (SliceIndex primary offset len.0) len.1) None)
    (len, []) (number_in-again w32 (2 ^ 32) four_bytes len [] (omega (arith, within.2)))
    ∙ ap (λ (b : Bool). cond b (Some (SliceIndex primary offset len)) None) (slice_passes offset len within)

field_in-again : (primary number separator : ℕ) → primary < 2 ^ 32 → number < 2 ^ 32 → field_in (to_be_bytes w32 primary ++ (to_be_bytes w32 number ++ separator ∷ [])) ≡ Some (FieldIndex primary number separator)
unfolding field_in
field_in-again primary number separator is_primary is_number =
    bind_is (number_in w32 (to_be_bytes w32 primary ++ (to_be_bytes w32 number ++ separator ∷ [])))
    (λ primary. number_in w32 primary.1 >>= λ number. byte_in number.1 >>= λ separator. ended (FieldIndex primary.0 number.0 separator.0) separator.1)
    (primary, to_be_bytes w32 number ++ separator ∷ []) (number_in-again w32 (2 ^ 32) four_bytes primary (to_be_bytes w32 number ++ separator ∷ []) is_primary)
    ∙ bind_is (number_in w32 (to_be_bytes w32 number ++ separator ∷ []))
    (λ number. byte_in number.1 >>= λ separator. ended (FieldIndex primary number.0 separator.0) separator.1)
    (number, separator ∷ []) (number_in-again w32 (2 ^ 32) four_bytes number (separator ∷ []) is_number)

-- a kind's bytes, read behind a number
kind_again : (number : ℕ) (k : DbKind) → IsKind k → (byte_in (kind_bytes k) >>= λ first. kind_in first.0 first.1 >>= λ kind. Some (with_kind number kind)) ≡ Some (with_kind number k)
unfolding kind_in
kind_again number Plain is = refl
kind_again number Dup is = refl
kind_again number (SliceIndex primary offset len) is =
    bind_is (slice_in (to_be_bytes w32 primary ++ (to_be_bytes w32 offset ++ to_be_bytes w32 len))) (λ kind. Some (with_kind number kind)) (SliceIndex primary offset len)
    (slice_in-again primary offset len is.0 is.1)
kind_again number (FieldIndex primary field separator) is =
    bind_is (field_in (to_be_bytes w32 primary ++ (to_be_bytes w32 field ++ separator ∷ []))) (λ kind. Some (with_kind number kind)) (FieldIndex primary field separator)
    (field_in-again primary field separator is.0 is.1)

-- a record's bytes are read as that record
pub db_record_in-again : (r : DbRecord) → IsRecord r → db_record_in (record_bytes r) ≡ Some r
unfolding db_record_in
db_record_in-again r is =
    bind_is (number_in w32 (record_bytes r)) (λ number. byte_in number.1 >>= λ first. kind_in first.0 first.1 >>= λ kind. Some (with_kind number.0 kind)) (r.number, kind_bytes r.kind)
    (number_in-again w32 (2 ^ 32) four_bytes r.number (kind_bytes r.kind) is.0)
    ∙ kind_again r.number r.kind is.1

-- ---- what a reader of bytes answers

pub found_if : (result : Option DbRecord) (bytes : List ℕ) → AreBytes bytes → result ≡ db_record_in bytes → IfSome result (λ r. IsRecord r × (bytes ≡ record_bytes r))
found_if None bytes are is = tt
found_if (Some r) bytes are is = db_record_in-takes bytes r are (sym is)

pub only : (result : Option DbRecord) (bytes : List ℕ) (r : DbRecord) → result ≡ db_record_in bytes → IsRecord r → bytes ≡ record_bytes r → result ≡ Some r
only result bytes r is fits same = is ∙ ap db_record_in same ∙ db_record_in-again r fits
