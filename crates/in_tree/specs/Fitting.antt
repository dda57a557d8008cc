-- Entries that fit a log: none, and those of one call and then of another.
use Rattle.std.proofs.Common.{◌≡◌, ◌≤◌, ◌∙◌, ℕ, List, [], ◌∷◌, ◌++◌, Result, Err, map, refl, ap, ap₂, sym, subst}
use Rattle.std.proofs.Math.Nat.{le_refl, le_trans}
use Rattle.std.proofs.lemmas.List.{map-append}
use Rattle.std.specs.List.{AllByRecursion}
use Rattle.je_disk.specs.DiskMeaning.{DiskMeaning}
use Rattle.log_entry.specs.Encoding.{size_of}
use Rattle.log_entry.specs.declared.entry.Entry.{Entry}
use Rattle.log_buffer.specs.declared.buffer.LogBuffer.{LogBuffer}
use Rattle.log_buffer.specs.declared.log_pos.LogPos.{LogPos}
use Rattle.log_buffer.specs.Buffer.{disk_of, end_of, file_max_of, IsUnchanged}
use Rattle.log_buffer.specs.Flip.{end_after_all}
use Rattle.log_buffer.specs.Growth.{Grew}
use Rattle.log_buffer.proofs.GrowthLaws.{grew_none, grew_unchanged, grew_then, tried_then}
use Rattle.log_buffer.proofs.LogPositions.{appends_join}
use Rattle.log_buffer.proofs.UnchangedBuffer.{unwritten_same}
use Rattle.log_buffer.proofs.FaultCauses.{rose_then}
use Rattle.je_order.specs.Counts.{HasRisen}
use Rattle.in_tree.specs.Limits.{FitsLog, GrewFitting, TriedFitting}

all_both : (P : Entry → Type 0) (a b : List Entry) → AllByRecursion P a → AllByRecursion P b → AllByRecursion P (a ++ b)
all_both P [] b first second = second
all_both P (e ∷ a) b first second = (first.0, all_both P a b first.1 second)

-- where there are no entries of two parts, neither has any
pub none_both : (a b : List Entry) → a ++ b ≡ [] → (a ≡ []) × (b ≡ [])
none_both [] b e = (refl, e)
none_both (x ∷ a) b e = cc

-- a count that rose later rose
rose_later : (before mid after : ℕ) → before ≤ mid → mid ≤ after → HasRisen mid after → HasRisen before after
rose_later before mid after low high rose = let failed : Result (Unit {0}) (Unit {0}) = Err tt in rose_then failed before mid after low high rose

module _ {D : Type 0} where
  -- a buffer is itself
  pub unchanged_itself : (x : LogBuffer D) → IsUnchanged x x
  unchanged_itself x = record { kept = unwritten_same x; disk = refl; failed = refl }

  unchanged_then : (x y z : LogBuffer D) → IsUnchanged x y → IsUnchanged y z → IsUnchanged x z
  unchanged_then x y z first next = record {
    kept = record {
      end = next.kept.end ∙ first.kept.end;
      last = next.kept.last ∙ first.kept.last;
      first = next.kept.first ∙ first.kept.first;
      written = next.kept.written ∙ first.kept.written;
      flushed_len = next.kept.flushed_len ∙ first.kept.flushed_len;
      max = next.kept.max ∙ first.kept.max;
      unwritten = λ f. next.kept.unwritten f ∙ first.kept.unwritten f;
      room = λ sizes room. next.kept.room sizes (first.kept.room sizes room);
    };
    disk = next.disk ∙ first.disk;
    failed = next.failed ∙ first.failed;
  }

  -- no entries fit each log
  pub fits_none : (log : LogBuffer D) → FitsLog log []
  fits_none log = record { entries_are = tt; room = log.last_file }

  module _ (meaning : DiskMeaning D) where
    -- entries that fit a log, and behind them those that fit the log with them
    fits_then : (x y : LogBuffer D) (a b : List Entry) → GrewFitting meaning x y a → FitsLog y b → FitsLog x (a ++ b)
    fits_then x y a b first second = record {
      entries_are = all_both _ a b first.fits.entries_are second.entries_are;
      room = subst (λ (n : ℕ). n ≤ 0xfffffffe) (same first.grew) second.room;
    }
      where
        same : Grew meaning x y a → (end_after_all (file_max_of y) (end_of y) (map size_of b)).file ≡ (end_after_all (file_max_of x) (end_of x) (map size_of (a ++ b))).file
        same grew =
            ap (λ (p : LogPos). p.file)
            (ap₂ (λ (m : ℕ) (p : LogPos). end_after_all m p (map size_of b)) grew.max grew.end
            ∙ sym (appends_join (file_max_of x) (end_of x) (map size_of a) (map size_of b))
            ∙ ap (end_after_all (file_max_of x) (end_of x)) (sym (map-append size_of a b)))

    pub fitting_unchanged : (x y : LogBuffer D) → IsUnchanged x y → GrewFitting meaning x y []
    fitting_unchanged x y same = record {
      grew = grew_unchanged meaning x y same;
      fits = fits_none x;
      none = λ e. same;
      never_falls = subst (λ (n : ℕ). meaning.faults (disk_of x) ≤ n) (sym (ap meaning.faults same.disk)) (le_refl (meaning.faults (disk_of x)));
    }

    pub fitting_none : (x : LogBuffer D) → GrewFitting meaning x x []
    fitting_none x = record { grew = grew_none meaning x; fits = fits_none x; none = λ e. unchanged_itself x; never_falls = le_refl (meaning.faults (disk_of x)) }

    pub fitting_then : (x y z : LogBuffer D) (a b : List Entry) → GrewFitting meaning x y a → GrewFitting meaning y z b →
        GrewFitting meaning x z (a ++ b)
    fitting_then x y z a b first second = record {
      grew = grew_then meaning x y z a b first.grew second.grew;
      fits = fits_then x y a b first second.fits;
      none = λ e. (let parts = none_both a b e in unchanged_then x y z (first.none parts.0) (second.none parts.1));
      never_falls = le_trans first.never_falls second.never_falls;
    }

    pub fitting_tried : (x y z : LogBuffer D) (a b : List Entry) → GrewFitting meaning x y a → TriedFitting meaning y z b →
        TriedFitting meaning x z (a ++ b)
    fitting_tried x y z a b first second = record {
      tried = tried_then meaning x y z a b first.grew second.tried;
      fits = fits_then x y a b first second.fits;
      never_falls = le_trans first.never_falls second.never_falls;
      rose = λ works. rose_later (meaning.faults (disk_of x)) (meaning.faults (disk_of y)) (meaning.faults (disk_of z)) first.never_falls second.never_falls (second.rose (first.grew.failed ∙ works));
    }
