use Rattle.std.proofs.Common.{◌≡◌, ◌∙◌, ◌+◌, ◌*◌, ◌^◌, ℕ, List, None, Some, ap, sym, subst}
use Rattle.log_trees.specs.Placed.{Placed, entry_at}
use Rattle.recovery_je.specs.LogRead.{HasEntryAt, entries_in, AreStanding, HasOffset}
use Rattle.recovery_je.proofs.EntryPlaces.{order_in}
use Rattle.recovery_je.proofs.file_entries.FileEntries.entry.Goals as goal

pub returns-then-not-has_offset : goal.returns-then-not-has_offset
returns-then-not-has_offset c =
    let f = c.self.inside.number.0 in
    let bytes = c.self.inside.bytes.items in
    let es = entries_in f bytes in
    let standing = subst (λ (l : List ℕ). AreStanding f bytes l es) (sym c.as_slice.ensures.value) c.self.invariant in
    let absent = subst (HasOffset f bytes es c.args.at) c.if-not-has_offset.true (c.has_offset.ensures f bytes es (order_in f bytes) standing) in
    subst (λ (s : ℕ × List Placed). None ≡ entry_at s.1 (s.0 * 2 ^ 32 + c.args.at)) c.self.view_is (sym absent)

pub decode_found-requires : goal.decode_found-requires
decode_found-requires c =
    let f = c.self.inside.number.0 in
    let bytes = c.self.inside.bytes.items in
    let es = entries_in f bytes in
    let standing = subst (λ (l : List ℕ). AreStanding f bytes l es) (sym c.as_slice.ensures.value) c.self.invariant in
    let has = subst (HasOffset f bytes es c.args.at) c.if-not-has_offset.false (c.has_offset.ensures f bytes es (order_in f bytes) standing) in
    (has.0, subst (λ (l : List ℕ). HasEntryAt l c.args.at has.0) (sym c.deref.ensures.value) has.1)

pub returns : goal.returns
returns c =
    let f = c.self.inside.number.0 in
    let bytes = c.self.inside.bytes.items in
    let es = entries_in f bytes in
    let standing = subst (λ (l : List ℕ). AreStanding f bytes l es) (sym c.as_slice.ensures.value) c.self.invariant in
    let has = subst (HasOffset f bytes es c.args.at) c.if-not-has_offset.false (c.has_offset.ensures f bytes es (order_in f bytes) standing) in
    let here = subst (λ (l : List ℕ). HasEntryAt l c.args.at has.0) (sym c.deref.ensures.value) has.1 in
    subst (λ (s : ℕ × List Placed). Some c.in_ok-decode_found.field-0 ≡ entry_at s.1 (s.0 * 2 ^ 32 + c.args.at)) c.self.view_is (ap Some (c.in_ok-decode_found.ensures has.0 here) ∙ sym has.2)
