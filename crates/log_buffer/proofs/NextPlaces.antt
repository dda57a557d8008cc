-- Where entries go that are to be appended.
use Rattle.std.proofs.Common.{◌≡◌, ◌≤◌, ◌∙◌, ℕ, List, [], ◌∷◌, ◌++◌, ap, ap₂, sym, subst, arith}
use Rattle.je_lsn.specs.Naming.{last_file}
use Rattle.log_buffer.specs.declared.log_pos.LogPos.{LogPos}
use Rattle.log_buffer.specs.declared.next_place.NextPlace.{NextPlace}
use Rattle.log_buffer.specs.Flip.{end_after, end_after_all, placed_at, pos_lsn}
use Rattle.log_buffer.specs.NextPlaces.{IsBehind, IsTakenAt}
use Rattle.log_buffer.proofs.LogPositions.{all_after, appends_join}

-- entries that pass no last file with another one pass none without it
pub within : (file_max : ℕ) (end : LogPos) (sizes : List ℕ) (size : ℕ) → (end_after_all file_max end (sizes ++ size ∷ [])).file ≤ last_file → (end_after_all file_max end sizes).file ≤ last_file
within file_max end sizes size le =
    let joined = ap (λ (p : LogPos). p.file) (appends_join file_max end sizes (size ∷ [])) in
    let up = all_after file_max (end_after_all file_max end sizes) (size ∷ []) in
    omega (arith, joined, up, le)

pub taken_at : (file_max : ℕ) (end : LogPos) (sizes : List ℕ) (size at : ℕ) (old : NextPlace) → IsBehind file_max end sizes old → (old.end.file ≤ last_file → at ≡ pos_lsn (placed_at old.file_max old.end size)) →
    IsTakenAt file_max end sizes size at
taken_at file_max end sizes size at old is local le =
    let here = is.here (within file_max end sizes size le) in
    let file = ap (λ (p : LogPos). p.file) here in
    let low = within file_max end sizes size le in
    local (omega (arith, file, low)) ∙ ap₂ (λ (m : ℕ) (p : LogPos). pos_lsn (placed_at m p size)) is.max here

pub taken_behind : (file_max : ℕ) (end : LogPos) (sizes : List ℕ) (size : ℕ) (old new : NextPlace) → IsBehind file_max end sizes old → new.file_max ≡ old.file_max →
    (old.end.file ≤ last_file → new.end ≡ end_after old.file_max old.end size) → IsBehind file_max end (sizes ++ size ∷ []) new
taken_behind file_max end sizes size old new is max local = record {
  max = max ∙ is.max;
  here = λ le.
      let here = is.here (within file_max end sizes size le) in
      let file = ap (λ (p : LogPos). p.file) here in
      let low = within file_max end sizes size le in
      local (omega (arith, file, low)) ∙ ap₂ (λ (m : ℕ) (p : LogPos). end_after m p size) is.max here ∙ sym (appends_join file_max end sizes (size ∷ []));
}
