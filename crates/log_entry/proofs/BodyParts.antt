-- The bodies whose last fields are read at once.
use Rattle.std.proofs.Common.{◌≡◌, ℕ, ◌≤◌, Bool, true, false, cond, eqb, leb, List, [], length, Option, Some, None, refl, sym, ap, ◌∙◌, arith}
use Rattle.std.specs.Prelude.{option_map}
use Rattle.std.specs.Int.{w16, w32, w64}
use Rattle.std.proofs.lemmas.Bool.{eqb-false}
use Rattle.je_order.specs.declared.name.Name.{Name}
use Rattle.je_bytes.specs.Reading.{byte_in, number_in}
use Rattle.log_entry.specs.declared.child_slot.ChildSlot.{ChildSlot}
use Rattle.log_entry.specs.declared.entry.Entry.TheVariants.{Put, Migrated, In}
use Rattle.je_order.specs.Options.{◌>>=◌}
use Rattle.log_entry.specs.Fields.{name_in}
use Rattle.log_entry.specs.Items.{counted_in, child_before, child_slot_in}
use Rattle.log_entry.specs.Body.{alone, record_in, put_in, migrated_in, internal_in}
use Rattle.log_entry.proofs.BodyLaws.{reads_on, whole_read, internal_again}

-- ---- records

test_map : {A B : Type 0} (t : Bool) (f : A → B) (a : A) → option_map f (cond t (Some a) None) ≡ cond t (Some (f a)) None
test_map true f a = refl
test_map false f a = refl

record_map : {B : Type 0} (next : Option (Name × List ℕ)) (f : Name → List ℕ → B)
    → option_map (λ (r : Name × List ℕ). f r.0 r.1) (next >>= λ name. cond (leb (length name.1) 65536) (Some (name.0, name.1)) None) ≡ (next >>= λ name. cond (leb (length name.1) 65536) (Some (f name.0 name.1)) None)
record_map None f = refl
record_map (Some name) f = test_map (leb (length name.1) 65536) (λ (r : Name × List ℕ). f r.0 r.1) (name.0, name.1)

found_record : {B : Type 0} (bytes : List ℕ) (f : Name → List ℕ → B) (read found : Option (Name × List ℕ)) → read ≡ found → read ≡ record_in bytes
    → option_map (λ (r : Name × List ℕ). f r.0 r.1) found ≡ (name_in bytes >>= λ name. cond (leb (length name.1) 65536) (Some (f name.0 name.1)) None)
unfolding record_in
found_record bytes f read found is are = ap (option_map (λ (r : Name × List ℕ). f r.0 r.1)) (sym is ∙ are) ∙ record_map (name_in bytes) f

pub put_is : (bytes b0 b1 b2 : List ℕ) (txn db : ℕ) (read found : Option (Name × List ℕ)) → b0 ≡ bytes → number_in w64 b0 ≡ Some (txn, b1) → number_in w32 b1 ≡ Some (db, b2)
    → read ≡ record_in b2 → read ≡ found → option_map (λ (r : Name × List ℕ). Put (record { 0 = txn }) db r.0 r.1) found ≡ put_in bytes
unfolding put_in
put_is bytes b0 b1 b2 txn db read found e e0 e1 are is =
    found_record b2 (Put (record { 0 = txn }) db) read found is are
    ∙ sym (reads_on (number_in w64 b0) _ (txn, b1) _ e0 (reads_on (number_in w32 b1) _ (db, b2) _ e1 refl)) ∙ ap put_in e

pub migrated_is : (bytes b0 b1 : List ℕ) (db : ℕ) (read found : Option (Name × List ℕ)) → b0 ≡ bytes → number_in w32 b0 ≡ Some (db, b1) → read ≡ record_in b1 → read ≡ found
    → option_map (λ (r : Name × List ℕ). Migrated db r.0 r.1) found ≡ migrated_in bytes
unfolding migrated_in
migrated_is bytes b0 b1 db read found e e0 are is =
    found_record b1 (Migrated db) read found is are ∙ sym (reads_on (number_in w32 b0) _ (db, b1) _ e0 refl) ∙ ap migrated_in e

-- ---- nodes

-- what was read with nothing behind it
alone_is : {A : Type 0} (next : Option (A × List ℕ)) (a : A) → alone next ≡ Some a → next ≡ Some (a, [])
alone_is None a e = absurd cc
alone_is {A} (Some read) a e =
    let w = whole_read read.0 read.1 a e in
    ap (λ (x : A). let made : Option (A × List ℕ) = Some (x, read.1) in made) w.1 ∙ ap (λ (l : List ℕ). let made : Option (A × List ℕ) = Some (a, l) in made) w.0

pub internal_is : (bytes b0 b1 b2 b3 : List ℕ) (db node level : ℕ) (found : Option (List ChildSlot)) (slots : List ChildSlot) → b0 ≡ bytes → number_in w32 b0 ≡ Some (db, b1) → number_in w64 b1 ≡ Some (node, b2)
    → byte_in b2 ≡ Some (level, b3) → found ≡ alone (counted_in w16 child_slot_in child_before 128 b3) → found ≡ Some slots → 2 ≤ level → level ≤ 64 → eqb (length slots) 0 ≡ false → Some (In db node level slots) ≡ internal_in bytes
internal_is bytes b0 b1 b2 b3 db node level found slots e e0 e1 e2 are is low high some =
    sym (internal_again b0 b1 b2 b3 db node level slots e0 e1 e2 (alone_is _ slots (sym are ∙ is)) low high (omega (arith, eqb-false (length slots) 0 some))) ∙ ap internal_in e
