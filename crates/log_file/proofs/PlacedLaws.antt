-- The entries of a log with their LSNs.
use Rattle.std.proofs.Common.{◌≡◌, ℕ, ◌+◌, ◌*◌, ◌^◌, ◌<◌, ◌≤◌, List, [], ◌∷◌, ◌++◌, map, refl, sym, ap, ◌∙◌, arith, append_assoc, nat_cmp}
use Rattle.std.specs.declared.cmp.Ordering.TheVariants.{Less}
use Rattle.std.proofs.lemmas.Bool.Decides.{nat_tests}
use Rattle.std.proofs.lemmas.List.{append-nil, map-append}
use Rattle.std.proofs.lemmas.Map.Keys.{sorted_from_strictly_increasing}
use Rattle.std.specs.List.{AllByRecursion}
use Rattle.std.specs.List.Sorted.{IsStrictlySortedBy}
use Rattle.log_entry.specs.declared.entry.Entry.{Entry}
use Rattle.log_entry.specs.Encoding.{size_of}
use Rattle.log_file.specs.Scan.{sizes_of}
use Rattle.log_file.specs.Log.{Log, AreFileEntries}
use Rattle.log_file.proofs.ListLaws.{all_weaker, all_append}
use Rattle.log_file.specs.Placed.{lsn_at, Placed, placed_from, placed, AreInOrder, PlacedAreEntries, PlacedGoLast, PlacedGoOn, FrontsArePlaced, PlacedAreInOrder}

-- an entry of file f at an offset
abbrev at_offset : ℕ → ℕ → Entry → Placed
at_offset f at entry = (lsn_at f at, entry)

-- ---- one entry more

pub placed-append : (a b : Log) → placed (a ++ b) ≡ placed a ++ placed b
placed-append [] b = refl
placed-append (file ∷ a) b =
    ap (λ (l : List Placed). placed_from file.0 26 file.1 ++ l) (placed-append a b) ∙ sym (append_assoc (placed_from file.0 26 file.1) (placed a) (placed b))

placed_from-push : (f at : ℕ) (entries : List Entry) (entry : Entry) → placed_from f at (entries ++ entry ∷ []) ≡ placed_from f at entries ++ at_offset f (at + sizes_of entries) entry ∷ []
placed_from-push f at [] entry = let same : at ≡ at + 0 = omega arith in ap (λ (n : ℕ). at_offset f n entry ∷ []) same
placed_from-push f at (x ∷ entries) entry =
    let same : at + size_of x + sizes_of entries ≡ at + (size_of x + sizes_of entries) = omega arith in
    ap (λ (l : List Placed). at_offset f at x ∷ l)
    (placed_from-push f (at + size_of x) entries entry ∙ ap (λ (n : ℕ). placed_from f (at + size_of x) entries ++ at_offset f n entry ∷ []) same)

placed-one : (before : Log) (f : ℕ) (entries : List Entry) → placed (before ++ (f, entries) ∷ []) ≡ placed before ++ placed_from f 26 entries
placed-one before f entries = placed-append before ((f, entries) ∷ []) ∙ ap (λ (l : List Placed). placed before ++ l) (append-nil (placed_from f 26 entries))

pub placed_go_last : PlacedGoLast
placed_go_last before f entries entry =
    placed-one before f (entries ++ entry ∷ [])
    ∙ ap (λ (l : List Placed). placed before ++ l) (placed_from-push f 26 entries entry)
    ∙ sym (append_assoc (placed before) (placed_from f 26 entries) (at_offset f (26 + sizes_of entries) entry ∷ []))
    ∙ ap (λ (l : List Placed). l ++ at_offset f (26 + sizes_of entries) entry ∷ []) (sym (placed-one before f entries))

pub placed_go_on : PlacedGoOn
placed_go_on before f entry = placed-append before ((f, entry ∷ []) ∷ [])

placed_from-append : (f at : ℕ) (a b : List Entry) → placed_from f at (a ++ b) ≡ placed_from f at a ++ placed_from f (at + sizes_of a) b
placed_from-append f at [] b = let same : at ≡ at + 0 = omega arith in ap (λ (n : ℕ). placed_from f n b) same
placed_from-append f at (x ∷ a) b =
    let same : at + size_of x + sizes_of a ≡ at + (size_of x + sizes_of a) = omega arith in
    ap (λ (l : List Placed). at_offset f at x ∷ l)
    (placed_from-append f (at + size_of x) a b ∙ ap (λ (n : ℕ). placed_from f (at + size_of x) a ++ placed_from f n b) same)

pub fronts_are_placed : FrontsArePlaced
fronts_are_placed log front is = record {
  rest = placed_from is.file (26 + sizes_of is.entries) is.more ++ placed is.later;
  are =
      ap placed is.log_is
      ∙ placed-append is.before ((is.file, is.entries ++ is.more) ∷ is.later)
      ∙ ap (λ (l : List Placed). placed is.before ++ (l ++ placed is.later)) (placed_from-append is.file 26 is.entries is.more)
      ∙ ap (λ (l : List Placed). placed is.before ++ l)
      (append_assoc (placed_from is.file 26 is.entries) (placed_from is.file (26 + sizes_of is.entries) is.more) (placed is.later))
      ∙ sym (append_assoc (placed is.before) (placed_from is.file 26 is.entries) (placed_from is.file (26 + sizes_of is.entries) is.more ++ placed is.later))
      ∙ ap (λ (l : List Placed). l ++ (placed_from is.file (26 + sizes_of is.entries) is.more ++ placed is.later))
      (sym (ap placed is.front_is ∙ placed-one is.before is.file is.entries));
}

-- ---- without their LSNs

entries-placed_from : (f at : ℕ) (entries : List Entry) → map (λ p. p.1) (placed_from f at entries) ≡ entries
entries-placed_from f at [] = refl
entries-placed_from f at (entry ∷ entries) = ap (λ (l : List Entry). entry ∷ l) (entries-placed_from f (at + size_of entry) entries)

pub placed_are_entries : PlacedAreEntries
placed_are_entries [] = refl
placed_are_entries (file ∷ log) =
    map-append (λ (p : Placed). p.1) (placed_from file.0 26 file.1) (placed log)
    ∙ ap (λ (l : List Entry). l ++ map (λ (p : Placed). p.1) (placed log)) (entries-placed_from file.0 26 file.1)
    ∙ ap (λ (l : List Entry). file.1 ++ l) (placed_are_entries log)

-- ---- order

-- entries of one file lie between the LSNs where the first begins and the last ends
within_file : (f at : ℕ) (entries : List Entry) → AllByRecursion (λ p. (f * 2 ^ 32 + at ≤ p.0) × (p.0 < f * 2 ^ 32 + (at + sizes_of entries))) (placed_from f at entries)
within_file f at [] = tt
within_file f at (entry ∷ entries) = (
  (omega arith, omega arith),
  all_weaker (λ (p : Placed). (f * 2 ^ 32 + (at + size_of entry) ≤ p.0) × (p.0 < f * 2 ^ 32 + (at + size_of entry + sizes_of entries)))
      (λ p. (f * 2 ^ 32 + at ≤ p.0) × (p.0 < f * 2 ^ 32 + (at + (size_of entry + sizes_of entries))))
      (λ p h. (omega (arith, h.0), omega (arith, h.1))) (placed_from f (at + size_of entry) entries) (within_file f (at + size_of entry) entries),
)

order_in_file : (f at : ℕ) (entries : List Entry) → AreInOrder (placed_from f at entries)
order_in_file f at [] = tt
order_in_file f at (entry ∷ entries) = (
  all_weaker (λ (p : Placed). (f * 2 ^ 32 + (at + size_of entry) ≤ p.0) × (p.0 < f * 2 ^ 32 + (at + size_of entry + sizes_of entries))) (λ p. lsn_at f at < p.0)
      (λ p h. omega (arith, h.0)) (placed_from f (at + size_of entry) entries) (within_file f (at + size_of entry) entries),
  order_in_file f (at + size_of entry) entries,
)

order-append : (bound : ℕ) (a b : List Placed) → AreInOrder a → AreInOrder b → AllByRecursion (λ p. p.0 < bound) a → AllByRecursion (λ p. bound ≤ p.0) b → AreInOrder (a ++ b)
order-append bound [] b in_a in_b low high = in_b
order-append bound (p ∷ a) b in_a in_b low high = (
  all_append (λ (q : Placed). p.0 < q.0) a b in_a.0 (all_weaker (λ (q : Placed). bound ≤ q.0) (λ q. p.0 < q.0) (λ q h. omega (arith, low.0)) b high),
  order-append bound a b in_a.1 in_b low.1 high,
)

-- all files are above a number
above_files : (f : ℕ) (log : Log) → AllByRecursion (λ n. nat_cmp f n ≡ Less) (map (λ file. file.0) log) → AllByRecursion (λ (p : Placed). (f + 1) * 2 ^ 32 ≤ p.0) (placed log)
above_files f [] all = tt
above_files f (file ∷ log) all =
    let more : f < file.0 = grind (arith, nat_tests, all.0) in
    all_append (λ (p : Placed). (f + 1) * 2 ^ 32 ≤ p.0) (placed_from file.0 26 file.1) (placed log)
    (all_weaker (λ (p : Placed). (file.0 * 2 ^ 32 + 26 ≤ p.0) × (p.0 < file.0 * 2 ^ 32 + (26 + sizes_of file.1))) (λ p. (f + 1) * 2 ^ 32 ≤ p.0)
    (λ p h. omega (arith, h.0)) (placed_from file.0 26 file.1) (within_file file.0 26 file.1))
    (above_files f log all.1)

order_of : (log : Log) → IsStrictlySortedBy nat_cmp (map (λ file. file.0) log) → AllByRecursion (λ file. (file.0 < 2 ^ 32) × AreFileEntries file.1) log → AreInOrder (placed log)
unfolding IsStrictlySortedBy
order_of [] up each = tt
order_of (file ∷ log) up each =
    let ends : 26 + sizes_of file.1 < 2 ^ 32 = each.0.1.ends in
    order-append ((file.0 + 1) * 2 ^ 32) (placed_from file.0 26 file.1) (placed log) (order_in_file file.0 26 file.1) (order_of log up.1 each.1)
    (all_weaker (λ (p : Placed). (file.0 * 2 ^ 32 + 26 ≤ p.0) × (p.0 < file.0 * 2 ^ 32 + (26 + sizes_of file.1))) (λ p. p.0 < (file.0 + 1) * 2 ^ 32)
    (λ p h. omega (arith, h.1, ends)) (placed_from file.0 26 file.1) (within_file file.0 26 file.1))
    (above_files file.0 log up.0)

pub placed_are_in_order : PlacedAreInOrder
placed_are_in_order log is = order_of log (sorted_from_strictly_increasing _ is.rising) is.each
