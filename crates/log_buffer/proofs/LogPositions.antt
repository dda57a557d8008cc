-- Where an entry goes.
use Rattle.std.specs.List.{AllByRecursion}
use Rattle.std.proofs.lemmas.List.{drop_more}
use Rattle.std.proofs.Common.{◌≡◌, ◌≢◌, ℕ, suc, ◌+◌, ◌<◌, ◌≤◌, ◌^◌, ◌==◌, ◌||◌, Bool, true, false, List, [], ◌∷◌, length, drop, get_or, refl, ap, arith, ◌⊎◌, inl, inr}
use Rattle.std.specs.Prelude.{if◌then◌else◌, nat_le}
use Rattle.std.proofs.lemmas.Bool.Decides.{nat_tests}
use Rattle.std.proofs.lemmas.Bool.{eqb-true}
use Rattle.log_buffer.specs.Laws.{AreBounded, AppendsJoin}
use Rattle.log_buffer.specs.declared.log_pos.LogPos.{LogPos}
use Rattle.log_buffer.specs.Flip.{goes_in, next_file, placed_at, behind, end_after, end_after_all, header_size}

-- an entry stands at the end of the log or behind the next file's header
pub record IsPlaced (file_max : ℕ) (end : LogPos) (size : ℕ) (at : LogPos) : Type 0 where
  pub same : at.file ≡ end.file → (at ≡ end) × (goes_in file_max end.offset size ≡ true)
  pub next : at.file ≢ end.file → at ≡ next_file end
  pub after : end.file ≤ at.file

placed_by : (file_max : ℕ) (end : LogPos) (size : ℕ) (b : Bool) → goes_in file_max end.offset size ≡ b → IsPlaced file_max end size (if b then end else next_file end)
placed_by file_max end size true is = record { same = λ e. (refl, is); next = λ apart. absurd (apart refl); after = omega arith }
placed_by file_max end size false is = record { same = λ e. absurd (omega (arith, e)); next = λ apart. refl; after = omega arith }

pub is_placed : (file_max : ℕ) (end : LogPos) (size : ℕ) → IsPlaced file_max end size (placed_at file_max end size)
is_placed file_max end size = placed_by file_max end size (goes_in file_max end.offset size) refl

-- what goes into a file ends below 2^32
pub fits_in : (file_max offset size : ℕ) → file_max ≤ 2 ^ 30 → size < 2 ^ 31 → goes_in file_max offset size ≡ true → offset + size < 2 ^ 32
fits_in file_max offset size max small goes = grind (arith, nat_tests)

-- the file never falls
pub all_after : (file_max : ℕ) (end : LogPos) (sizes : List ℕ) → end.file ≤ (end_after_all file_max end sizes).file
all_after file_max end [] = omega arith
all_after file_max end (size ∷ sizes) =
    let first = (is_placed file_max end size).after in
    let rest = all_after file_max (end_after file_max end size) sizes in
    omega arith

-- entries of which one passes a file pass it together
pub passes : (file_max : ℕ) (end at : LogPos) (sizes : List ℕ) (i : ℕ) → i < length sizes → at ≡ placed_at file_max end (get_or sizes i 0)
    → at.file ≤ (end_after_all file_max end (drop i sizes)).file
passes file_max end at sizes i lt is =
    let more = ap (λ (s : List ℕ). (end_after_all file_max end s).file) (drop_more sizes i 0 lt) in
    let after = all_after file_max (end_after file_max end (get_or sizes i 0)) (drop (i + 1) sizes) in
    let file = ap (λ (p : LogPos). p.file) is in
    omega (arith, more, file)

-- what is so of each number is so of all
pub all_at_most : (xs : List ℕ) (m : ℕ) → ((k : ℕ) → k < length xs → get_or xs k 0 ≤ m) → AllByRecursion (λ n. n ≤ m) xs
all_at_most [] m each = tt
all_at_most (x ∷ xs) m each = (each 0 (omega arith), all_at_most xs m (λ k lt. each (suc k) (omega arith)))

bounded_by : (file_max : ℕ) (end : LogPos) (size : ℕ) (a b : Bool) → nat_le (end.offset + size) file_max ≡ a → (end.offset == header_size) ≡ b
    → ((behind (if a || b then end else next_file end) size).offset ≤ file_max) ⊎ ((if a || b then end else next_file end).offset ≡ header_size)
bounded_by file_max end size true b fits alone = inl (grind (arith, nat_tests))
bounded_by file_max end size false true fits alone = inr (eqb-true _ _ alone)
bounded_by file_max end size false false fits alone = inr refl

pub are_bounded : AreBounded
are_bounded file_max end size = bounded_by file_max end size (nat_le (end.offset + size) file_max) (end.offset == header_size) refl refl

pub appends_join : AppendsJoin
appends_join file_max end [] b = refl
appends_join file_max end (size ∷ a) b = appends_join file_max (end_after file_max end size) a b
