-- A body that is read is the body that was written, and what was written is read again.
use Rattle.std.proofs.Common.{◌≡◌, ℕ, ◌*◌, ◌^◌, ◌<◌, ◌≤◌, Bool, true, false, cond, eqb, leb, ltb, List, [], ◌∷◌, ◌++◌, length, Option, Some, None, refl, sym, ap, subst, ◌∙◌, arith}
use Rattle.std.specs.Int.{w16, w32, w64, to_be_bytes}
use Rattle.std.specs.List.{AllByRecursion, flat_map}
use Rattle.std.proofs.lemmas.Bool.{eqb-true, leb-true, le-leb, ltb-true, lt-ltb}
use Rattle.std.proofs.lemmas.List.{nil_from_length, length-append}
use Rattle.je_order.specs.declared.name.Name.{Name}
use Rattle.je_order.specs.declared.txn_id.TxnId.{TxnId}
use Rattle.je_bytes.specs.Reading.{AreBytes, byte_in, number_in}
use Rattle.je_bytes.proofs.Fields.{Takes, two_bytes, four_bytes}
use Rattle.log_entry.specs.declared.child_slot.ChildSlot.{ChildSlot}
use Rattle.log_entry.specs.declared.record_slot.RecordSlot.{RecordSlot}
use Rattle.log_entry.specs.declared.root.Root.{Root}
use Rattle.log_entry.specs.declared.file_usage.FileUsage.{FileUsage}
use Rattle.log_entry.specs.declared.entry.Entry.{Entry}
use Rattle.log_entry.specs.declared.entry.Entry.TheVariants.{FileHeader, Put, Delete, Migrated, Commit, In, Bin, BinDelta, CkptStart, CkptEnd, FileSummary}
use Rattle.je_order.specs.Options.{◌>>=◌}
use Rattle.log_entry.specs.Fields.{name_bytes, name_in, optional_bytes, optional_in}
use Rattle.log_entry.specs.Items.{AreRising, counted_bytes, counted_in, IsChildSlot, child_before, child_slot_bytes, child_slot_in, IsRecordSlot, record_before, record_slot_bytes, record_slot_in, IsRoot, root_before, root_bytes, root_in, IsFileUsage, file_before, file_usage_bytes, file_usage_in}
use Rattle.log_entry.specs.Body.{IsEntry, kind_of, magic, body_of, body_size_of, whole, file_header_in, put_in, delete_in, migrated_in, commit_in, internal_in, bin_in, delta_in, ckpt_start_in, ckpt_end_in, file_summary_in, entry_in}
use Rattle.log_entry.proofs.FieldLaws.{test_held, some_is, bind_is, IsField, step, and_then, ends, last_again, four, eight, byte, a_name, an_optional, IsOptional, counted, a_child, a_record, a_root, a_usage, length_optional, length_child, length_record}

-- ---- fields that are lists

children : IsField (AreRising IsChildSlot child_before 128) (counted_bytes w16 child_slot_bytes) (counted_in w16 child_slot_in child_before 128)
children = counted a_child w16 (2 ^ 16) two_bytes child_before 128 (omega arith)

records : IsField (AreRising IsRecordSlot record_before 128) (counted_bytes w16 record_slot_bytes) (counted_in w16 record_slot_in record_before 128)
records = counted a_record w16 (2 ^ 16) two_bytes record_before 128 (omega arith)

roots : IsField (AreRising IsRoot root_before 65535) (counted_bytes w16 root_bytes) (counted_in w16 root_in root_before 65535)
roots = counted a_root w16 (2 ^ 16) two_bytes root_before 65535 (omega arith)

usages : IsField (AreRising IsFileUsage file_before 1000000) (counted_bytes w32 file_usage_bytes) (counted_in w32 file_usage_in file_before 1000000)
usages = counted a_usage w32 (2 ^ 32) four_bytes file_before 1000000 (omega arith)

-- ---- bodies that are read

-- the bytes are this entry's body
pub record IsBody (kind : ℕ) (bytes : List ℕ) (e : Entry) : Type 0 where
  pub entry : IsEntry e
  pub kind_is : kind ≡ kind_of e
  pub is : bytes ≡ body_of e

pub whole_read : {A : Type 0} (a : A) (rest : List ℕ) (y : A) → whole (a, rest) ≡ Some y → (rest ≡ []) × (a ≡ y)
whole_read a rest y e =
    let g = test_held (eqb (length rest) 0) (Some a) y e in
    (nil_from_length rest (eqb-true _ _ g.0), some_is a y g.1)

file_header_in-takes : (bytes : List ℕ) (e : Entry) → AreBytes bytes → file_header_in bytes ≡ Some e → IsBody 1 bytes e
unfolding file_header_in
file_header_in-takes bytes e are read =
    let a = step four bytes _ e are read in
    let b = step four a.rest _ e a.takes.rest_fits a.next in
    let c = step four b.rest _ e b.takes.rest_fits b.next in
    let g = test_held (eqb a.value magic) _ e c.next in
    let w = whole_read (FileHeader b.value c.value) c.rest e g.1 in
    let is_magic : a.value ≡ magic = eqb-true _ _ g.0 in
    let body = and_then a.takes (and_then b.takes (ends c.takes w.0)) ∙ ap (λ (k : ℕ). to_be_bytes w32 k ++ (to_be_bytes w32 b.value ++ to_be_bytes w32 c.value)) is_magic in
    subst (IsBody 1 bytes) w.1 (record { entry = (b.fits, c.fits); kind_is = refl; is = body })

put_in-takes : (bytes : List ℕ) (e : Entry) → AreBytes bytes → put_in bytes ≡ Some e → IsBody 2 bytes e
unfolding put_in
put_in-takes bytes e are read =
    let a = step eight bytes _ e are read in
    let b = step four a.rest _ e a.takes.rest_fits a.next in
    let c = step a_name b.rest _ e b.takes.rest_fits b.next in
    let made : Entry = Put (record { 0 = a.value }) b.value c.value c.rest in
    let g = test_held (leb (length c.rest) 65536) (Some made) e c.next in
    let body = and_then a.takes (and_then b.takes c.takes.parts) in
    subst (IsBody 2 bytes) (some_is made e g.1) (record { entry = (a.fits, b.fits, c.fits, leb-true _ _ g.0); kind_is = refl; is = body })

delete_in-takes : (bytes : List ℕ) (e : Entry) → AreBytes bytes → delete_in bytes ≡ Some e → IsBody 3 bytes e
unfolding delete_in
delete_in-takes bytes e are read =
    let a = step eight bytes _ e are read in
    let b = step four a.rest _ e a.takes.rest_fits a.next in
    let c = step a_name b.rest _ e b.takes.rest_fits b.next in
    let w = whole_read (Delete (record { 0 = a.value }) b.value c.value) c.rest e c.next in
    let body = and_then a.takes (and_then b.takes (ends c.takes w.0)) in
    subst (IsBody 3 bytes) w.1 (record { entry = (a.fits, b.fits, c.fits); kind_is = refl; is = body })

migrated_in-takes : (bytes : List ℕ) (e : Entry) → AreBytes bytes → migrated_in bytes ≡ Some e → IsBody 4 bytes e
unfolding migrated_in
migrated_in-takes bytes e are read =
    let a = step four bytes _ e are read in
    let b = step a_name a.rest _ e a.takes.rest_fits a.next in
    let made : Entry = Migrated a.value b.value b.rest in
    let g = test_held (leb (length b.rest) 65536) (Some made) e b.next in
    let body = and_then a.takes b.takes.parts in
    subst (IsBody 4 bytes) (some_is made e g.1) (record { entry = (a.fits, b.fits, leb-true _ _ g.0); kind_is = refl; is = body })

commit_in-takes : (bytes : List ℕ) (e : Entry) → AreBytes bytes → commit_in bytes ≡ Some e → IsBody 5 bytes e
unfolding commit_in
commit_in-takes bytes e are read =
    let a = step eight bytes _ e are read in
    let w = whole_read (Commit (record { 0 = a.value })) a.rest e a.next in
    subst (IsBody 5 bytes) w.1 (record { entry = a.fits; kind_is = refl; is = ends a.takes w.0 })

internal_in-takes : (bytes : List ℕ) (e : Entry) → AreBytes bytes → internal_in bytes ≡ Some e → IsBody 7 bytes e
unfolding internal_in
internal_in-takes bytes e are read =
    let a = step four bytes _ e are read in
    let b = step eight a.rest _ e a.takes.rest_fits a.next in
    let c = step byte b.rest _ e b.takes.rest_fits b.next in
    let d = step children c.rest _ e c.takes.rest_fits c.next in
    let low = test_held (leb 2 c.value) _ e d.next in
    let high = test_held (leb c.value 64) _ e low.1 in
    let some = test_held (ltb 0 (length d.value)) _ e high.1 in
    let w = whole_read (In a.value b.value c.value d.value) d.rest e some.1 in
    let body = and_then a.takes (and_then b.takes (and_then c.takes (ends d.takes w.0))) in
    subst (IsBody 7 bytes) w.1 (record { entry = (a.fits, b.fits, leb-true _ _ low.0, leb-true _ _ high.0, ltb-true _ _ some.0, d.fits); kind_is = refl; is = body })

bin_in-takes : (bytes : List ℕ) (e : Entry) → AreBytes bytes → bin_in bytes ≡ Some e → IsBody 8 bytes e
unfolding bin_in
bin_in-takes bytes e are read =
    let a = step four bytes _ e are read in
    let b = step eight a.rest _ e a.takes.rest_fits a.next in
    let c = step records b.rest _ e b.takes.rest_fits b.next in
    let w = whole_read (Bin a.value b.value c.value) c.rest e c.next in
    let body = and_then a.takes (and_then b.takes (ends c.takes w.0)) in
    subst (IsBody 8 bytes) w.1 (record { entry = (a.fits, b.fits, c.fits); kind_is = refl; is = body })

delta_in-takes : (bytes : List ℕ) (e : Entry) → AreBytes bytes → delta_in bytes ≡ Some e → IsBody 9 bytes e
unfolding delta_in
delta_in-takes bytes e are read =
    let a = step four bytes _ e are read in
    let b = step eight a.rest _ e a.takes.rest_fits a.next in
    let c = step eight b.rest _ e b.takes.rest_fits b.next in
    let d = step records c.rest _ e c.takes.rest_fits c.next in
    let w = whole_read (BinDelta a.value b.value c.value d.value) d.rest e d.next in
    let body = and_then a.takes (and_then b.takes (and_then c.takes (ends d.takes w.0))) in
    subst (IsBody 9 bytes) w.1 (record { entry = (a.fits, b.fits, c.fits, d.fits); kind_is = refl; is = body })

ckpt_start_in-takes : (bytes : List ℕ) (e : Entry) → AreBytes bytes → ckpt_start_in bytes ≡ Some e → IsBody 10 bytes e
unfolding ckpt_start_in
ckpt_start_in-takes bytes e are read =
    let a = step eight bytes _ e are read in
    let w = whole_read (CkptStart a.value) a.rest e a.next in
    subst (IsBody 10 bytes) w.1 (record { entry = a.fits; kind_is = refl; is = ends a.takes w.0 })

-- the end of a checkpoint's end: the summary and the roots
abbrev tail_read : ℕ → ℕ → ℕ → ℕ → ℕ → ℕ → List ℕ → Option Entry
tail_read number start redo txn node db bytes =
    optional_in bytes >>= λ summary. counted_in w16 root_in root_before 65535 summary.1 >>= λ held. whole (CkptEnd number start redo (record { 0 = txn }) node db summary.0 held.0, held.1)

record HasTail (bytes : List ℕ) (number start redo txn node db : ℕ) (e : Entry) : Type 0 where
  summary : Option ℕ
  held : List Root
  summary_fits : IsOptional summary
  held_fits : AreRising IsRoot root_before 65535 held
  parts : bytes ≡ optional_bytes summary ++ counted_bytes w16 root_bytes held
  made : CkptEnd number start redo (record { 0 = txn }) node db summary held ≡ e

tail_taken : (bytes : List ℕ) (number start redo txn node db : ℕ) (e : Entry) → AreBytes bytes → tail_read number start redo txn node db bytes ≡ Some e → HasTail bytes number start redo txn node db e
tail_taken bytes number start redo txn node db e are read =
    let a = step an_optional bytes _ e are read in
    let b = step roots a.rest _ e a.takes.rest_fits a.next in
    let w = whole_read (CkptEnd number start redo (record { 0 = txn }) node db a.value b.value) b.rest e b.next in
    record { summary = a.value; held = b.value; summary_fits = a.fits; held_fits = b.fits; parts = and_then a.takes (ends b.takes w.0); made = w.1 }

-- before it the numbers that were allocated last
abbrev last_read : ℕ → ℕ → ℕ → List ℕ → Option Entry
last_read number start redo bytes =
    number_in w64 bytes >>= λ txn. number_in w64 txn.1 >>= λ node. number_in w32 node.1 >>= λ db. tail_read number start redo txn.0 node.0 db.0 db.1

record HasLast (bytes : List ℕ) (number start redo : ℕ) (e : Entry) : Type 0 where
  txn : ℕ
  node : ℕ
  db : ℕ
  behind : List ℕ
  txn_fits : txn < 2 ^ 64
  node_fits : node < 2 ^ 64
  db_fits : db < 2 ^ 32
  parts : bytes ≡ to_be_bytes w64 txn ++ (to_be_bytes w64 node ++ (to_be_bytes w32 db ++ behind))
  tail : HasTail behind number start redo txn node db e

last_taken : (bytes : List ℕ) (number start redo : ℕ) (e : Entry) → AreBytes bytes → last_read number start redo bytes ≡ Some e → HasLast bytes number start redo e
last_taken bytes number start redo e are read =
    let a = step eight bytes _ e are read in
    let b = step eight a.rest _ e a.takes.rest_fits a.next in
    let c = step four b.rest _ e b.takes.rest_fits b.next in
    record {
      txn = a.value;
      node = b.value;
      db = c.value;
      behind = c.rest;
      txn_fits = a.fits;
      node_fits = b.fits;
      db_fits = c.fits;
      parts = and_then a.takes (and_then b.takes c.takes.parts);
      tail = tail_taken c.rest number start redo a.value b.value c.value e c.takes.rest_fits c.next;
    }

ckpt_end_is : (bytes one more behind : List ℕ) (number start redo : ℕ) (e : Entry) → Takes bytes (to_be_bytes w64 number) one → Takes one (to_be_bytes w64 start) more → Takes more (to_be_bytes w64 redo) behind
    → number < 2 ^ 64 → start < 2 ^ 64 → redo < 2 ^ 64 → HasLast behind number start redo e → IsBody 11 bytes e
ckpt_end_is bytes one more behind number start redo e a b c is_number is_start is_redo last =
    let tail = last.tail in
    let made : Entry = CkptEnd number start redo (record { 0 = last.txn }) last.node last.db tail.summary tail.held in
    let ending : behind ≡ to_be_bytes w64 last.txn ++ (to_be_bytes w64 last.node ++ (to_be_bytes w32 last.db ++ (optional_bytes tail.summary ++ counted_bytes w16 root_bytes tail.held))) =
    last.parts ∙ ap (λ (r : List ℕ). to_be_bytes w64 last.txn ++ (to_be_bytes w64 last.node ++ (to_be_bytes w32 last.db ++ r))) tail.parts in
    subst (IsBody 11 bytes) tail.made (record {
      entry = (is_number, is_start, is_redo, last.txn_fits, last.node_fits, last.db_fits, tail.summary_fits, tail.held_fits);
      kind_is = refl;
      is = and_then a (and_then b (and_then c ending));
    })

ckpt_end_in-takes : (bytes : List ℕ) (e : Entry) → AreBytes bytes → ckpt_end_in bytes ≡ Some e → IsBody 11 bytes e
unfolding ckpt_end_in
ckpt_end_in-takes bytes e are read =
    let a = step eight bytes _ e are read in
    let b = step eight a.rest _ e a.takes.rest_fits a.next in
    let c = step eight b.rest _ e b.takes.rest_fits b.next in
    ckpt_end_is bytes a.rest b.rest c.rest a.value b.value c.value e a.takes b.takes c.takes a.fits b.fits c.fits (last_taken c.rest a.value b.value c.value e c.takes.rest_fits c.next)

file_summary_in-takes : (bytes : List ℕ) (e : Entry) → AreBytes bytes → file_summary_in bytes ≡ Some e → IsBody 12 bytes e
unfolding file_summary_in
file_summary_in-takes bytes e are read =
    let a = step usages bytes _ e are read in
    let w = whole_read (FileSummary a.value) a.rest e a.next in
    subst (IsBody 12 bytes) w.1 (record { entry = a.fits; kind_is = refl; is = ends a.takes w.0 })

by_kind : (kind n : ℕ) (bytes : List ℕ) (e : Entry) (one other : Option Entry) → (one ≡ Some e → IsBody n bytes e) → (other ≡ Some e → IsBody kind bytes e)
    → cond (eqb kind n) one other ≡ Some e → IsBody kind bytes e
by_kind kind n bytes e one other h k read =
    let P : Bool → Type 0 = λ b. eqb kind n ≡ b → cond b one other ≡ Some e → IsBody kind bytes e in
    (elim (eqb kind n) as P [ true ↦ λ same found. subst (λ (m : ℕ). IsBody m bytes e) (sym (eqb-true _ _ same)) (h found) | false ↦ λ _ found. k found ]) refl read

-- what is read as an entry's body is that
pub entry_in-takes : (kind : ℕ) (bytes : List ℕ) (e : Entry) → AreBytes bytes → entry_in kind bytes ≡ Some e → IsBody kind bytes e
unfolding entry_in
entry_in-takes kind bytes e are read =
    by_kind kind 1 bytes e (file_header_in bytes) _ (file_header_in-takes bytes e are)
    (by_kind kind 2 bytes e (put_in bytes) _ (put_in-takes bytes e are)
    (by_kind kind 3 bytes e (delete_in bytes) _ (delete_in-takes bytes e are)
    (by_kind kind 4 bytes e (migrated_in bytes) _ (migrated_in-takes bytes e are)
    (by_kind kind 5 bytes e (commit_in bytes) _ (commit_in-takes bytes e are)
    (by_kind kind 7 bytes e (internal_in bytes) _ (internal_in-takes bytes e are)
    (by_kind kind 8 bytes e (bin_in bytes) _ (bin_in-takes bytes e are)
    (by_kind kind 9 bytes e (delta_in bytes) _ (delta_in-takes bytes e are)
    (by_kind kind 10 bytes e (ckpt_start_in bytes) _ (ckpt_start_in-takes bytes e are)
    (by_kind kind 11 bytes e (ckpt_end_in bytes) _ (ckpt_end_in-takes bytes e are)
    (by_kind kind 12 bytes e (file_summary_in bytes) None (file_summary_in-takes bytes e are) (λ found. absurd cc))))))))))) read

-- ---- bodies that were written

-- a field is read again, and then what is read after it
pub reads_on : {A B : Type 0} (o : Option A) (f : A → Option B) (x : A) (y : Option B) → o ≡ Some x → f x ≡ y → (o >>= f) ≡ y
reads_on o f x y is after = bind_is o f x is ∙ after

file_header_again : (bytes one more : List ℕ) (version file : ℕ) → number_in w32 bytes ≡ Some (magic, one) → number_in w32 one ≡ Some (version, more) → number_in w32 more ≡ Some (file, [])
    → file_header_in bytes ≡ Some (FileHeader version file)
unfolding file_header_in
file_header_again bytes one more version file a b c =
    reads_on (number_in w32 bytes) _ (magic, one) _ a (reads_on (number_in w32 one) _ (version, more) _ b (reads_on (number_in w32 more) _ (file, []) _ c refl))

put_again : (bytes one more value : List ℕ) (txn db : ℕ) (name : Name) → number_in w64 bytes ≡ Some (txn, one) → number_in w32 one ≡ Some (db, more) → name_in more ≡ Some (name, value) → length value ≤ 65536
    → put_in bytes ≡ Some (Put (record { 0 = txn }) db name value)
unfolding put_in
put_again bytes one more value txn db name a b c le =
    reads_on (number_in w64 bytes) _ (txn, one) _ a (reads_on (number_in w32 one) _ (db, more) _ b (reads_on (name_in more) _ (name, value) _ c
    (ap (λ (t : Bool). cond t (Some (Put (record { 0 = txn }) db name value)) None) (le-leb (length value) 65536 le))))

delete_again : (bytes one more : List ℕ) (txn db : ℕ) (name : Name) → number_in w64 bytes ≡ Some (txn, one) → number_in w32 one ≡ Some (db, more) → name_in more ≡ Some (name, [])
    → delete_in bytes ≡ Some (Delete (record { 0 = txn }) db name)
unfolding delete_in
delete_again bytes one more txn db name a b c =
    reads_on (number_in w64 bytes) _ (txn, one) _ a (reads_on (number_in w32 one) _ (db, more) _ b (reads_on (name_in more) _ (name, []) _ c refl))

migrated_again : (bytes one value : List ℕ) (db : ℕ) (name : Name) → number_in w32 bytes ≡ Some (db, one) → name_in one ≡ Some (name, value) → length value ≤ 65536 → migrated_in bytes ≡ Some (Migrated db name value)
unfolding migrated_in
migrated_again bytes one value db name a b le =
    reads_on (number_in w32 bytes) _ (db, one) _ a (reads_on (name_in one) _ (name, value) _ b
    (ap (λ (t : Bool). cond t (Some (Migrated db name value)) None) (le-leb (length value) 65536 le)))

commit_again : (bytes : List ℕ) (txn : ℕ) → number_in w64 bytes ≡ Some (txn, []) → commit_in bytes ≡ Some (Commit (record { 0 = txn }))
unfolding commit_in
commit_again bytes txn a = reads_on (number_in w64 bytes) _ (txn, []) _ a refl

-- three tests that hold
all_held : {A : Type 0} (p q r : Bool) (o : Option A) → p ≡ true → q ≡ true → r ≡ true → cond p (cond q (cond r o None) None) None ≡ o
all_held p q r o is_p is_q is_r = rw (is_p, is_q, is_r) refl

pub internal_again : (bytes one more rest : List ℕ) (db node level : ℕ) (slots : List ChildSlot) → number_in w32 bytes ≡ Some (db, one) → number_in w64 one ≡ Some (node, more) → byte_in more ≡ Some (level, rest)
    → counted_in w16 child_slot_in child_before 128 rest ≡ Some (slots, []) → 2 ≤ level → level ≤ 64 → 0 < length slots → internal_in bytes ≡ Some (In db node level slots)
unfolding internal_in
internal_again bytes one more rest db node level slots a b c d low high some =
    reads_on (number_in w32 bytes) _ (db, one) _ a
    (reads_on (number_in w64 one) _ (node, more) _ b
    (reads_on (byte_in more) _ (level, rest) _ c
    (reads_on (counted_in w16 child_slot_in child_before 128 rest) _ (slots, []) _ d
    (all_held (leb 2 level) (leb level 64) (ltb 0 (length slots)) (Some (In db node level slots)) (le-leb _ _ low) (le-leb _ _ high) (lt-ltb _ _ some)))))

bin_again : (bytes one more : List ℕ) (db node : ℕ) (slots : List RecordSlot) → number_in w32 bytes ≡ Some (db, one) → number_in w64 one ≡ Some (node, more)
    → counted_in w16 record_slot_in record_before 128 more ≡ Some (slots, []) → bin_in bytes ≡ Some (Bin db node slots)
unfolding bin_in
bin_again bytes one more db node slots a b c =
    reads_on (number_in w32 bytes) _ (db, one) _ a (reads_on (number_in w64 one) _ (node, more) _ b (reads_on (counted_in w16 record_slot_in record_before 128 more) _ (slots, []) _ c refl))

delta_again : (bytes one more rest : List ℕ) (db node full : ℕ) (slots : List RecordSlot) → number_in w32 bytes ≡ Some (db, one) → number_in w64 one ≡ Some (node, more) → number_in w64 more ≡ Some (full, rest)
    → counted_in w16 record_slot_in record_before 128 rest ≡ Some (slots, []) → delta_in bytes ≡ Some (BinDelta db node full slots)
unfolding delta_in
delta_again bytes one more rest db node full slots a b c d =
    reads_on (number_in w32 bytes) _ (db, one) _ a (reads_on (number_in w64 one) _ (node, more) _ b (reads_on (number_in w64 more) _ (full, rest) _ c
    (reads_on (counted_in w16 record_slot_in record_before 128 rest) _ (slots, []) _ d refl)))

ckpt_start_again : (bytes : List ℕ) (number : ℕ) → number_in w64 bytes ≡ Some (number, []) → ckpt_start_in bytes ≡ Some (CkptStart number)
unfolding ckpt_start_in
ckpt_start_again bytes number a = reads_on (number_in w64 bytes) _ (number, []) _ a refl

ckpt_end_again : (b0 b1 b2 b3 b4 b5 b6 b7 : List ℕ) (number start redo last_txn last_node last_db : ℕ) (summary : Option ℕ) (held : List Root)
    → number_in w64 b0 ≡ Some (number, b1) → number_in w64 b1 ≡ Some (start, b2) → number_in w64 b2 ≡ Some (redo, b3) → number_in w64 b3 ≡ Some (last_txn, b4) → number_in w64 b4 ≡ Some (last_node, b5)
    → number_in w32 b5 ≡ Some (last_db, b6) → optional_in b6 ≡ Some (summary, b7) → counted_in w16 root_in root_before 65535 b7 ≡ Some (held, [])
    → ckpt_end_in b0 ≡ Some (CkptEnd number start redo (record { 0 = last_txn }) last_node last_db summary held)
unfolding ckpt_end_in
ckpt_end_again b0 b1 b2 b3 b4 b5 b6 b7 number start redo last_txn last_node last_db summary held e0 e1 e2 e3 e4 e5 e6 e7 =
    reads_on (number_in w64 b0) _ (number, b1) _ e0
    (reads_on (number_in w64 b1) _ (start, b2) _ e1
    (reads_on (number_in w64 b2) _ (redo, b3) _ e2
    (reads_on (number_in w64 b3) _ (last_txn, b4) _ e3
    (reads_on (number_in w64 b4) _ (last_node, b5) _ e4
    (reads_on (number_in w32 b5) _ (last_db, b6) _ e5
    (reads_on (optional_in b6) _ (summary, b7) _ e6
    (reads_on (counted_in w16 root_in root_before 65535 b7) _ (held, []) _ e7 refl)))))))

file_summary_again : (bytes : List ℕ) (files : List FileUsage) → counted_in w32 file_usage_in file_before 1000000 bytes ≡ Some (files, []) → file_summary_in bytes ≡ Some (FileSummary files)
unfolding file_summary_in
file_summary_again bytes files a = reads_on (counted_in w32 file_usage_in file_before 1000000 bytes) _ (files, []) _ a refl

-- an entry's body is read as that entry
pub entry_in-again : (e : Entry) → IsEntry e → entry_in (kind_of e) (body_of e) ≡ Some e
unfolding entry_in
entry_in-again (FileHeader version file) is =
    let behind = to_be_bytes w32 version ++ to_be_bytes w32 file in
    file_header_again (to_be_bytes w32 magic ++ behind) behind (to_be_bytes w32 file) version file (four.again magic behind (omega arith)) (four.again version (to_be_bytes w32 file) is.0) (last_again four file is.1)
entry_in-again (Put txn db name value) is =
    let named = name_bytes name ++ value in
    let behind = to_be_bytes w32 db ++ named in
    put_again (to_be_bytes w64 txn.0 ++ behind) behind named value txn.0 db name (eight.again txn.0 behind is.0) (four.again db named is.1) (a_name.again name value is.2) is.3
entry_in-again (Delete txn db name) is =
    let behind = to_be_bytes w32 db ++ name_bytes name in
    delete_again (to_be_bytes w64 txn.0 ++ behind) behind (name_bytes name) txn.0 db name (eight.again txn.0 behind is.0) (four.again db (name_bytes name) is.1) (last_again a_name name is.2)
entry_in-again (Migrated db name value) is =
    let named = name_bytes name ++ value in
    migrated_again (to_be_bytes w32 db ++ named) named value db name (four.again db named is.0) (a_name.again name value is.1) is.2
entry_in-again (Commit txn) is = commit_again (to_be_bytes w64 txn.0) txn.0 (last_again eight txn.0 is)
entry_in-again (In db node level slots) is =
    let listed = counted_bytes w16 child_slot_bytes slots in
    let behind = to_be_bytes w64 node ++ (level ∷ listed) in
    internal_again (to_be_bytes w32 db ++ behind) behind (level ∷ listed) listed db node level slots (four.again db behind is.0) (eight.again node (level ∷ listed) is.1) refl (last_again children slots is.5) is.2 is.3 is.4
entry_in-again (Bin db node slots) is =
    let listed = counted_bytes w16 record_slot_bytes slots in
    let behind = to_be_bytes w64 node ++ listed in
    bin_again (to_be_bytes w32 db ++ behind) behind listed db node slots (four.again db behind is.0) (eight.again node listed is.1) (last_again records slots is.2)
entry_in-again (BinDelta db node full slots) is =
    let listed = counted_bytes w16 record_slot_bytes slots in
    let more = to_be_bytes w64 full ++ listed in
    let behind = to_be_bytes w64 node ++ more in
    delta_again (to_be_bytes w32 db ++ behind) behind more listed db node full slots (four.again db behind is.0) (eight.again node more is.1) (eight.again full listed is.2) (last_again records slots is.3)
entry_in-again (CkptStart number) is = ckpt_start_again (to_be_bytes w64 number) number (last_again eight number is)
entry_in-again (CkptEnd number start redo last_txn last_node last_db summary held) is =
    let b7 = counted_bytes w16 root_bytes held in
    let b6 = optional_bytes summary ++ b7 in
    let b5 = to_be_bytes w32 last_db ++ b6 in
    let b4 = to_be_bytes w64 last_node ++ b5 in
    let b3 = to_be_bytes w64 last_txn.0 ++ b4 in
    let b2 = to_be_bytes w64 redo ++ b3 in
    let b1 = to_be_bytes w64 start ++ b2 in
    ckpt_end_again (to_be_bytes w64 number ++ b1) b1 b2 b3 b4 b5 b6 b7 number start redo last_txn.0 last_node last_db summary held
    (eight.again number b1 is.0) (eight.again start b2 is.1) (eight.again redo b3 is.2) (eight.again last_txn.0 b4 is.3) (eight.again last_node b5 is.4) (four.again last_db b6 is.5)
    (an_optional.again summary b7 is.6) (last_again roots held is.7)
entry_in-again (FileSummary files) is = file_summary_again (counted_bytes w32 file_usage_bytes files) files (last_again usages files is)

-- ---- how long bodies are

-- a body has as many bytes as its size says
pub length-body_of : (e : Entry) → length (body_of e) ≡ body_size_of e
length-body_of (FileHeader version file) = refl
length-body_of (Put txn db name value) = simp (length-append) (omega arith)
length-body_of (Delete txn db name) = simp (length-append) (omega arith)
length-body_of (Migrated db name value) = simp (length-append) (omega arith)
length-body_of (Commit txn) = refl
length-body_of (In db node level slots) = omega arith
length-body_of (Bin db node slots) = omega arith
length-body_of (BinDelta db node full slots) = omega arith
length-body_of (CkptStart number) = refl
length-body_of (CkptEnd number start redo last_txn last_node last_db summary held) =
    omega (arith, length-append (optional_bytes summary) (counted_bytes w16 root_bytes held), length_optional summary)
length-body_of (FileSummary files) = omega arith

-- items of at most so many bytes each
length-items : {A : Type 0} {Fits : A → Type 0} (text : A → List ℕ) (k : ℕ) → ((x : A) → Fits x → length (text x) ≤ k) → (xs : List A) → AllByRecursion Fits xs → length (flat_map text xs) ≤ k * length xs
length-items text k each [] all = omega arith
length-items {A} {Fits} text k each (x ∷ xs) all = omega (arith, length-append (text x) (flat_map text xs), each x all.0, length-items text k each xs all.1)

child_within : (slot : ChildSlot) → IsChildSlot slot → length (child_slot_bytes slot) ≤ 8204
child_within slot is = omega (arith, is.0.0, is.0.1, length_child slot)

record_within : (slot : RecordSlot) → IsRecordSlot slot → length (record_slot_bytes slot) ≤ 8205
record_within slot is = omega (arith, is.0.0, is.0.1, length_record slot)

pub children_small : (slots : List ChildSlot) → AreRising IsChildSlot child_before 128 slots → length (flat_map child_slot_bytes slots) ≤ 1050112
children_small slots is = omega (arith, length-items child_slot_bytes 8204 child_within slots is.each, is.few)

pub records_small : (slots : List RecordSlot) → AreRising IsRecordSlot record_before 128 slots → length (flat_map record_slot_bytes slots) ≤ 1050240
records_small slots is = omega (arith, length-items record_slot_bytes 8205 record_within slots is.each, is.few)

pub roots_small : (held : List Root) → AreRising IsRoot root_before 65535 held → length (flat_map root_bytes held) ≤ 786420
roots_small held is = omega (arith, length-items {Fits = IsRoot} root_bytes 12 (λ root _. omega arith) held is.each, is.few)

pub usages_small : (files : List FileUsage) → AreRising IsFileUsage file_before 1000000 files → length (flat_map file_usage_bytes files) ≤ 20000000
usages_small files is = omega (arith, length-items {Fits = IsFileUsage} file_usage_bytes 20 (λ usage _. omega arith) files is.each, is.few)

-- a body's length fits its field
pub body_small : (e : Entry) → IsEntry e → body_size_of e ≤ 20000004
body_small (FileHeader version file) is = omega arith
body_small (Put txn db name value) is = omega (arith, is.2.0, is.2.1, is.3)
body_small (Delete txn db name) is = omega (arith, is.2.0, is.2.1)
body_small (Migrated db name value) is = omega (arith, is.1.0, is.1.1, is.2)
body_small (Commit txn) is = omega arith
body_small (In db node level slots) is = omega (arith, children_small slots is.5)
body_small (Bin db node slots) is = omega (arith, records_small slots is.2)
body_small (BinDelta db node full slots) is = omega (arith, records_small slots is.3)
body_small (CkptStart number) is = omega arith
body_small (CkptEnd number start redo last_txn last_node last_db summary held) is = omega (arith, roots_small held is.7)
body_small (FileSummary files) is = omega (arith, usages_small files is)

-- the lists of an entry, by what it is
pub in_small : (e : Entry) (db node level : ℕ) (slots held : List ChildSlot) → IsEntry e → e ≡ In db node level slots → held ≡ slots → length (flat_map child_slot_bytes held) ≤ 1050112
in_small e db node level slots held fits is same = omega (arith, children_small slots (subst IsEntry is fits).5, ap (λ (l : List ChildSlot). length (flat_map child_slot_bytes l)) same)

pub bin_small : (e : Entry) (db node : ℕ) (slots held : List RecordSlot) → IsEntry e → e ≡ Bin db node slots → held ≡ slots → length (flat_map record_slot_bytes held) ≤ 1050240
bin_small e db node slots held fits is same = omega (arith, records_small slots (subst IsEntry is fits).2, ap (λ (l : List RecordSlot). length (flat_map record_slot_bytes l)) same)

pub delta_small : (e : Entry) (db node full : ℕ) (slots held : List RecordSlot) → IsEntry e → e ≡ BinDelta db node full slots → held ≡ slots → length (flat_map record_slot_bytes held) ≤ 1050240
delta_small e db node full slots held fits is same = omega (arith, records_small slots (subst IsEntry is fits).3, ap (λ (l : List RecordSlot). length (flat_map record_slot_bytes l)) same)

pub end_small : (e : Entry) (number start redo : ℕ) (last_txn : TxnId) (last_node last_db : ℕ) (summary : Option ℕ) (slots held : List Root) → IsEntry e
    → e ≡ CkptEnd number start redo last_txn last_node last_db summary slots → held ≡ slots → length (flat_map root_bytes held) ≤ 786420
end_small e number start redo last_txn last_node last_db summary slots held fits is same =
    omega (arith, roots_small slots (subst IsEntry is fits).7, ap (λ (l : List Root). length (flat_map root_bytes l)) same)

pub summary_small : (e : Entry) (slots held : List FileUsage) → IsEntry e → e ≡ FileSummary slots → held ≡ slots → length (flat_map file_usage_bytes held) ≤ 20000000
summary_small e slots held fits is same = omega (arith, usages_small slots (subst IsEntry is fits), ap (λ (l : List FileUsage). length (flat_map file_usage_bytes l)) same)
