-- A scan that is under way, from entry to entry.
use Rattle.std.proofs.Common.{◌≡◌, ℕ, ◌+◌, ◌≤◌, ◌^◌, ◌==◌, ◌&&◌, true, false, cond, List, [], ◌∷◌, ◌++◌, length, drop, refl, sym, ap, ap₂, subst, ◌∙◌, append_assoc, arith, nat_lt, Bool, Option, Some, None, length-drop, ◌<◌}
use Rattle.std.specs.Prelude.{SomeIff}
use Rattle.std.proofs.lemmas.Bool.{eqb-true, eq-eqb, lt-ltb, le-ltb}
use Rattle.std.proofs.lemmas.Option.{none-some, same_Some}
use Rattle.std.proofs.lemmas.List.{append-nil, drop-drop}
use Rattle.log_entry.specs.declared.entry.Entry.{Entry}
use Rattle.log_entry.specs.declared.decoder.Decoded.TheVariants.{Whole, Torn as NotWhole}
use Rattle.log_entry.specs.declared.decoder.Torn.{Torn}
use Rattle.log_entry.specs.Encoding.{size_of}
use Rattle.log_entry.specs.declared.decoder.Decoded.{Decoded}
use Rattle.log_entry.specs.Reading.{decoded, IsFound}
use Rattle.log_entry.specs.Prefix.{Prefix, prefix_on, last_from}
use Rattle.log_entry.proofs.ReadingLaws.{decoded-long}
use Rattle.log_entry.proofs.PrefixLaws.{prefix_on-whole, prefix_on-torn, prefix_on-other}
use Rattle.log_file.specs.declared.valid_prefix.ValidPrefix.{ValidPrefix}
use Rattle.log_file.specs.declared.scanning.Next.{Next}
use Rattle.log_file.specs.Scan.{may_follow, front, entries_behind, prefix_with}
use Rattle.log_file.specs.Scanning.{prefix_at, end_in_prefix, IsNext, IsPrefixEnd, IsScanned}
use Rattle.log_file.proofs.EncodedLaws.{sizes-append, last-append}

-- ---- what comes next in a valid prefix

-- no whole entry
pub torn_ends : (bytes : List ℕ) (at last : ℕ) (torn : Torn) → decoded (drop at bytes) ≡ NotWhole torn → IsPrefixEnd bytes at last
torn_ends bytes at last torn is = ap (λ (r : Prefix). front at r.entries) (prefix_on-torn last at (drop at bytes) torn is)

-- an entry that names another one before it
parted_ends : (bytes : List ℕ) (at last : ℕ) (entry : Entry) (prev len : ℕ) → decoded (drop at bytes) ≡ Whole entry prev len → (prev == last) ≡ false → IsPrefixEnd bytes at last
parted_ends bytes at last entry prev len is other = ap (λ (r : Prefix). front at r.entries) (prefix_on-other last at (drop at bytes) entry prev len is other)

-- the entries from a whole entry on
pub whole_at : (bytes : List ℕ) (at last : ℕ) (entry : Entry) (len : ℕ) → decoded (drop at bytes) ≡ Whole entry last len → len ≡ size_of entry →
    prefix_at bytes at last ≡ cond (may_follow entry && nat_lt (at + size_of entry) (2 ^ 32)) (entry ∷ prefix_at bytes (at + size_of entry) at) []
whole_at bytes at last entry len is size =
    let far : drop len (drop at bytes) ≡ drop (at + size_of entry) bytes = drop-drop len at bytes ∙ ap (λ (n : ℕ). drop (at + n) bytes) size in
    ap (λ (r : Prefix). front at r.entries) (prefix_on-whole last at (drop at bytes) entry len is)
    ∙ ap (λ (n : ℕ). front at (entry ∷ (prefix_on at (at + n) (drop len (drop at bytes))).entries)) size
    ∙ ap (λ (x : List ℕ). front at (entry ∷ (prefix_on at (at + size_of entry) x).entries)) far

-- an entry that may not follow, or that ends past the limit
unfit_ends : (bytes : List ℕ) (at last : ℕ) (entry : Entry) (len : ℕ) → decoded (drop at bytes) ≡ Whole entry last len → len ≡ size_of entry →
    (may_follow entry && nat_lt (at + size_of entry) (2 ^ 32)) ≡ false → IsPrefixEnd bytes at last
unfit_ends bytes at last entry len is size unfit = whole_at bytes at last entry len is size ∙ rw unfit refl

-- an entry that fits
fit_goes_on : (bytes : List ℕ) (at last : ℕ) (entry : Entry) (len : ℕ) → at ≤ length bytes → decoded (drop at bytes) ≡ Whole entry last len → len ≡ size_of entry →
    (may_follow entry && nat_lt (at + size_of entry) (2 ^ 32)) ≡ true → IsNext bytes at last (record { entry = entry; end = at + size_of entry })
fit_goes_on bytes at last entry len inside is size fit =
    let long = decoded-long (drop at bytes) entry last len is in
    record {
      goes_on = whole_at bytes at last entry len is size ∙ rw fit refl;
      end = refl;
      after = omega arith;
      within = omega (arith, long.1, size, length-drop at bytes, inside);
    }

-- the valid prefix ends before an entry that it does not go on with
pub whole_ends : (bytes : List ℕ) (at last : ℕ) (entry : Entry) (prev len : ℕ) → decoded (drop at bytes) ≡ Whole entry prev len → len ≡ size_of entry →
    None ≡ end_in_prefix entry prev at last → IsPrefixEnd bytes at last
whole_ends bytes at last entry prev len is size none = by_case (prev == last) (may_follow entry && nat_lt (at + size_of entry) (2 ^ 32)) refl refl none
  where
    by_case : (a b : Bool) → (prev == last) ≡ a → (may_follow entry && nat_lt (at + size_of entry) (2 ^ 32)) ≡ b →
        None ≡ cond (a && b) (Some (at + size_of entry)) None → IsPrefixEnd bytes at last
    by_case false b other fit h = parted_ends bytes at last entry prev len is other
    by_case true false same fit h =
        unfit_ends bytes at last entry len (is ∙ ap (λ (p : ℕ). Whole entry p len) (eqb-true prev last same)) size fit
    by_case true true same fit h = absurd (none-some (at + size_of entry) h)

-- the valid prefix goes on with an entry
pub whole_goes_on : (bytes : List ℕ) (at last : ℕ) (entry : Entry) (prev len end : ℕ) → at ≤ length bytes → decoded (drop at bytes) ≡ Whole entry prev len → len ≡ size_of entry →
    Some end ≡ end_in_prefix entry prev at last → IsNext bytes at last (record { entry = entry; end = end })
whole_goes_on bytes at last entry prev len end inside is size some = by_case (prev == last) (may_follow entry && nat_lt (at + size_of entry) (2 ^ 32)) refl refl some
  where
    by_case : (a b : Bool) → (prev == last) ≡ a → (may_follow entry && nat_lt (at + size_of entry) (2 ^ 32)) ≡ b →
        Some end ≡ cond (a && b) (Some (at + size_of entry)) None → IsNext bytes at last (record { entry = entry; end = end })
    by_case false b other fit h = absurd (none-some end (sym h))
    by_case true false same fit h = absurd (none-some end (sym h))
    by_case true true same fit h =
        subst (λ (n : ℕ). IsNext bytes at last (record { entry = entry; end = n })) (sym (same_Some end (at + size_of entry) h))
        (fit_goes_on bytes at last entry len inside (is ∙ ap (λ (p : ℕ). Whole entry p len) (eqb-true prev last same)) size fit)

-- where an entry ends that the valid prefix goes on with, by a sum that has to be below 2^32
sum_is : (sum : Option ℕ) (end : ℕ) → SomeIff sum (end < 2 ^ 32) end → sum ≡ cond (nat_lt end (2 ^ 32)) (Some end) None
sum_is None end past = ap (λ (b : Bool). cond b (Some end) None) (sym (le-ltb end (2 ^ 32) (omega (arith, past))))
sum_is (Some n) end is = ap (λ (k : ℕ). let o : Option ℕ = Some k in o) is.1 ∙ ap (λ (b : Bool). cond b (Some end) None) (sym (lt-ltb end (2 ^ 32) is.0))

pub end_is : (entry : Entry) (prev at last size : ℕ) (follows : Bool) (sum : Option ℕ) → prev ≡ last → follows ≡ may_follow entry → follows ≡ true → size ≡ size_of entry →
    SomeIff sum (at + size < 2 ^ 32) (at + size) → sum ≡ end_in_prefix entry prev at last
end_is entry prev at last size follows sum same is may size_is ends =
    sum_is sum (at + size) ends
    ∙ ap (λ (n : ℕ). cond (nat_lt (at + n) (2 ^ 32)) (Some (at + n)) None) size_is
    ∙ ap₂ (λ (a : Bool) (b : Bool). cond (a && (b && nat_lt (at + size_of entry) (2 ^ 32))) (Some (at + size_of entry)) None) (sym (eq-eqb prev last same)) (sym may ∙ is)

-- ---- the entries read so far

pub begins : (bytes : List ℕ) → 26 ≤ length bytes → IsScanned bytes [] 26 0
begins bytes long = record { prefix = refl; last_is = refl; at_is = refl; within = long }

pub reads_on : (bytes : List ℕ) (entries : List Entry) (at last : ℕ) (next : Next) → IsScanned bytes entries at last → IsNext bytes at last next →
    IsScanned bytes (entries ++ next.entry ∷ []) next.end at
reads_on bytes entries at last next so_far is = record {
  prefix = append_assoc entries (next.entry ∷ []) (prefix_at bytes next.end at) ∙ ap (λ (l : List Entry). entries ++ l) (sym is.goes_on) ∙ so_far.prefix;
  last_is = so_far.at_is ∙ sym (last-append 0 26 entries next.entry);
  at_is = is.end ∙ ap (λ (n : ℕ). n + size_of next.entry) so_far.at_is ∙ omega (arith, sizes-append entries (next.entry ∷ []));
  within = is.within;
}

all_read : (bytes : List ℕ) (entries : List Entry) (at last : ℕ) → IsScanned bytes entries at last → IsPrefixEnd bytes at last → entries ≡ entries_behind bytes
all_read bytes entries at last so_far is = sym (append-nil entries) ∙ ap (λ (l : List Entry). entries ++ l) (sym is) ∙ so_far.prefix

-- the valid prefix, once all of it was read
pub read_prefix : (bytes : List ℕ) (entries : List Entry) (at last : ℕ) → IsScanned bytes entries at last → IsPrefixEnd bytes at last →
    (let prefix : ValidPrefix = record { entries = entries; last = last; end = at } in prefix) ≡ prefix_with (entries_behind bytes)
read_prefix bytes entries at last so_far is =
    let at_last : ℕ → ValidPrefix = λ n. record { entries = entries; last = n; end = at } in
    let ends : ℕ → ValidPrefix = λ n. record { entries = entries; last = last_from 0 26 entries; end = n } in
    ap at_last so_far.last_is ∙ ap ends so_far.at_is ∙ ap prefix_with (all_read bytes entries at last so_far is)

-- what a whole entry that was found says of its bytes
pub whole_size : (bytes : List ℕ) (d : Decoded) (entry : Entry) (prev len : ℕ) → IsFound bytes d → d ≡ Whole entry prev len → len ≡ size_of entry
whole_size bytes d entry prev len found is = (subst (IsFound bytes) is found).2
