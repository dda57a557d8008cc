-- The keys of an index that the catalog has are within the limit of keys.
use Rattle.std.proofs.Common.{◌≡◌, ◌≤◌, ℕ, Bool, true, false, cond, eqb, nat_le, nat_lt, ◌&&◌, List, length, Option, Some, None, IfSome, refl, sym, subst}
use Rattle.std.specs.Int.{w32}
use Rattle.std.proofs.lemmas.Bool.{and_parts, leb-true}
use Rattle.je_order.specs.Options.{◌>>=◌}
use Rattle.je_order.proofs.Options.{bind_some}
use Rattle.je_bytes.specs.Reading.{byte_in, number_in}
use Rattle.db_catalog.specs.declared.db_record.DbRecord.{DbRecord}
use Rattle.db_catalog.specs.declared.db_kind.DbKind.{DbKind}
use Rattle.db_catalog.specs.declared.db_kind.DbKind.TheVariants.{Plain, Dup, SliceIndex, FieldIndex}
use Rattle.db_catalog.specs.Catalog.{is_slice, ended, slice_in, field_in, kind_in, db_record_in}
use Rattle.log_replay.specs.Rows.{catalog_index, index_or_none}
use Rattle.environment.specs.Access.{HasShortKeys}

-- a kind whose keys are
abbrev IsShort : DbKind → Type 0
IsShort (SliceIndex primary offset len) = len ≤ 4096
IsShort kind = Unit {0}

-- a test that held
test_held : {A : Type 0} (b : Bool) (o : Option A) (y : A) → cond b o None ≡ Some y → (b ≡ true) × (o ≡ Some y)
test_held true o y e = (refl, e)
test_held false o y e = absurd cc

some_is : {A : Type 0} (x y : A) → (let o : Option A = Some x in o) ≡ Some y → x ≡ y
some_is x y e = cc

ended_short : (k got : DbKind) (rest : List ℕ) → IsShort k → ended k rest ≡ Some got → IsShort got
ended_short k got rest short read = subst IsShort (some_is k got (test_held (eqb (length rest) 0) (Some k) got read).1) short

slice_short : (bytes : List ℕ) (k : DbKind) → slice_in bytes ≡ Some k → IsShort k
unfolding slice_in
slice_short bytes k read =
    let a = bind_some (number_in w32 bytes) (λ primary. number_in w32 primary.1 >>= λ offset. number_in w32 offset.1 >>= λ len. cond (is_slice offset.0 len.0) (ended (SliceIndex primary.0 offset.0 len.0) len.1) None) k read in
    let b = bind_some (number_in w32 a.0.1) (λ offset. number_in w32 offset.1 >>= λ len. cond (is_slice offset.0 len.0) (ended (SliceIndex a.0.0 offset.0 len.0) len.1) None) k a.2 in
    let c = bind_some (number_in w32 b.0.1) (λ len. cond (is_slice b.0.0 len.0) (ended (SliceIndex a.0.0 b.0.0 len.0) len.1) None) k b.2 in
    let g = test_held (is_slice b.0.0 c.0.0) (ended (SliceIndex a.0.0 b.0.0 c.0.0) c.0.1) k c.2 in
    let few : c.0.0 ≤ 4096 = leb-true c.0.0 4096 (and_parts (nat_le b.0.0 65535 && nat_lt 0 c.0.0) (nat_le c.0.0 4096) g.0).1 in
    ended_short (SliceIndex a.0.0 b.0.0 c.0.0) k c.0.1 few g.1

field_short : (bytes : List ℕ) (k : DbKind) → field_in bytes ≡ Some k → IsShort k
unfolding field_in
field_short bytes k read =
    let a = bind_some (number_in w32 bytes) (λ primary. number_in w32 primary.1 >>= λ number. byte_in number.1 >>= λ separator. ended (FieldIndex primary.0 number.0 separator.0) separator.1) k read in
    let b = bind_some (number_in w32 a.0.1) (λ number. byte_in number.1 >>= λ separator. ended (FieldIndex a.0.0 number.0 separator.0) separator.1) k a.2 in
    let c = bind_some (byte_in b.0.1) (λ separator. ended (FieldIndex a.0.0 b.0.0 separator.0) separator.1) k b.2 in
    ended_short (FieldIndex a.0.0 b.0.0 c.0.0) k c.0.1 tt c.2

by_test : (b : Bool) (one other : Option DbKind) (k : DbKind) → (one ≡ Some k → IsShort k) → (other ≡ Some k → IsShort k) → cond b one other ≡ Some k → IsShort k
by_test true one other k first next read = first read
by_test false one other k first next read = next read

kind_short : (kind : ℕ) (bytes : List ℕ) (k : DbKind) → kind_in kind bytes ≡ Some k → IsShort k
unfolding kind_in
kind_short kind bytes k read =
    by_test (eqb kind 0) (ended Plain bytes) _ k (λ found. ended_short Plain k bytes tt found)
    (λ rest. by_test (eqb kind 1) (ended Dup bytes) _ k (λ found. ended_short Dup k bytes tt found)
    (λ more. by_test (eqb kind 2) (slice_in bytes) _ k (λ found. slice_short bytes k found)
    (λ last. by_test (eqb kind 3) (field_in bytes) None k (λ found. field_short bytes k found) (λ found. absurd cc) last) more) rest) read

record_short : (bytes : List ℕ) (r : DbRecord) → db_record_in bytes ≡ Some r → IsShort r.kind
unfolding db_record_in
record_short bytes r read =
    let make : ℕ → DbKind → DbRecord = λ n k. record { number = n; kind = k } in
    let a = bind_some (number_in w32 bytes) (λ number. byte_in number.1 >>= λ first. kind_in first.0 first.1 >>= λ kind. Some (make number.0 kind)) r read in
    let b = bind_some (byte_in a.0.1) (λ first. kind_in first.0 first.1 >>= λ kind. Some (make a.0.0 kind)) r a.2 in
    let c = bind_some (kind_in b.0.0 b.0.1) (λ kind. Some (make a.0.0 kind)) r b.2 in
    subst (λ (x : DbRecord). IsShort x.kind) (some_is (make a.0.0 c.0) r c.2) (kind_short b.0.0 b.0.1 c.0 c.1)

-- those of the index that a catalog's record makes
pub short_keys : (bytes : List ℕ) → IfSome (catalog_index bytes) (λ m. HasShortKeys m.1)
short_keys bytes = by (db_record_in bytes) refl
  where
    by_kind : (number : ℕ) (k : DbKind) → IsShort k → IfSome (let o : Option DbRecord = Some (record { number = number; kind = k }) in index_or_none o) (λ m. HasShortKeys m.1)
    by_kind number Plain short = tt
    by_kind number Dup short = tt
    by_kind number (SliceIndex primary offset len) short = short
    by_kind number (FieldIndex primary field separator) short = tt

    by : (o : Option DbRecord) → db_record_in bytes ≡ o → IfSome (index_or_none (db_record_in bytes)) (λ m. HasShortKeys m.1)
    by None e = subst (λ (o : Option DbRecord). IfSome (index_or_none o) (λ m. HasShortKeys m.1)) (sym e) tt
    by (Some r) e = subst (λ (o : Option DbRecord). IfSome (index_or_none o) (λ m. HasShortKeys m.1)) (sym e) (by_kind r.number r.kind (record_short bytes r e))
