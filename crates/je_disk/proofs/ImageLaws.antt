-- What the files read as stays one of the images.
use Rattle.std.proofs.Common.{◌≡◌, ◌≤◌, ◌==◌, if◌then◌else◌, ℕ, Bool, true, false, List, [], ◌++◌, Option, Some, None, length, length-append, take, max, refl, sym, ap, ◌∙◌, arith}
use Rattle.std.proofs.lemmas.List.{take-append-le, length-take}
use Rattle.std.proofs.Math.ListN.{drop_of_length-le, take-append-drop}
use Rattle.std.proofs.lemmas.List.{append-nil}
use Rattle.std.proofs.lemmas.Grind.{div_ceil_times}
use Rattle.je_disk.specs.States.{Files, CrashState, put_at, with_crash_state, begun, grown, extension, extended, synced_crash_state, job_crash_state}
use Rattle.je_disk.specs.Images.{Leaves, IsFileImage, AreFileImages}

-- a file and its crash state were changed
pub image_put : (crash_states : ℕ → CrashState) (files : Files) (f : ℕ) (file : Option (List ℕ)) (change : CrashState → CrashState) → AreFileImages crash_states files → IsFileImage (change (crash_states f)) file
    → AreFileImages (with_crash_state f change crash_states) (put_at files f file)
image_put crash_states files f file change are here g = by_case (g == f) where
  by_case : (b : Bool) → IsFileImage (if b then change (crash_states f) else crash_states g) (if b then file else files g)
  by_case true = here
  by_case false = are g

pub leaves_long : (crash_state : CrashState) (bytes : List ℕ) → Leaves crash_state bytes → length crash_state.stable ≤ length bytes
leaves_long crash_state bytes leaves = let len = length-take (length crash_state.stable) bytes in let front = ap length leaves.front in omega (arith, len, front)

-- there is room for a file's bytes
pub extended_le : (len : ℕ) → len ≤ extended len
extended_le len = (div_ceil_times len extension (omega arith)).0

within_room : (some all before room : ℕ) → some ≤ all → all ≤ room → some ≤ max before room
within_room some all before room less fits = omega (arith, less, fits)

-- a file that has grown by the first of some bytes, with room for all of them
pub image_grown : (crash_state : CrashState) (there part bytes : List ℕ) → length part ≤ length bytes → Leaves crash_state there → Leaves (grown (length (there ++ bytes)) crash_state) (there ++ part)
image_grown crash_state there part bytes less leaves = record {
  allowed = refl;
  front = let long : length crash_state.stable ≤ length there = leaves_long crash_state there leaves in take-append-le (length crash_state.stable) there part long ∙ leaves.front;
  within = within_room (length (there ++ part)) (length (there ++ bytes)) crash_state.max_len (extended (length (there ++ bytes)))
      (let some = length-append there part in let all = length-append there bytes in omega (arith, some, all, less)) (extended_le (length (there ++ bytes)));
}

pub image_begun : (crash_state : CrashState) (part bytes : List ℕ) → length part ≤ length bytes → Leaves (grown (length bytes) (begun crash_state)) part
image_begun crash_state part bytes less = record {
  allowed = refl;
  front = refl;
  within = within_room (length part) (length bytes) crash_state.max_len (extended (length bytes)) less (extended_le (length bytes));
}

pub image_made : (crash_state : CrashState) → Leaves (begun crash_state) []
image_made crash_state = record { allowed = refl; front = refl; within = omega arith }

take_whole : (xs : List ℕ) → take (length xs) xs ≡ xs
take_whole xs =
    sym (append-nil (take (length xs) xs)) ∙ ap (λ (ys : List ℕ). take (length xs) xs ++ ys) (sym (drop_of_length-le xs (omega arith))) ∙ take-append-drop (length xs) xs

pub image_synced : (file : Option (List ℕ)) → IsFileImage (synced_crash_state file) file
image_synced None = refl
image_synced (Some bytes) = record { allowed = refl; front = take_whole bytes; within = omega arith }

-- what a file reads as stays one of the images when a sync job has ended
pub image_job : (file : Option (List ℕ)) (crash_state : CrashState) → IsFileImage crash_state file → IsFileImage (job_crash_state file crash_state) file
image_job None crash_state image = refl
image_job (Some bytes) crash_state leaves = record { allowed = refl; front = take_whole bytes; within = leaves.within }

-- bytes that are as long as the stable ones at most are the stable ones
pub stable_is : (crash_state : CrashState) (bytes : List ℕ) → Leaves crash_state bytes → crash_state.max_len ≡ length crash_state.stable → bytes ≡ crash_state.stable
stable_is crash_state bytes leaves max_len =
    let long = leaves_long crash_state bytes leaves in
    let within = leaves.within in
    let same : length bytes ≡ length crash_state.stable = omega (arith, long, within, max_len) in
    sym (take_whole bytes) ∙ ap (λ (n : ℕ). take n bytes) same ∙ leaves.front
