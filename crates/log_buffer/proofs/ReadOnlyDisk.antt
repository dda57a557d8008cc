-- Disks that were only read.
use Rattle.std.proofs.Common.{◌≡◌, refl, ◌∙◌}
use Rattle.je_disk.specs.DiskMeaning.{DiskMeaning}
use Rattle.je_disk.specs.Moments.{now}
use Rattle.je_disk.proofs.MomentLaws.{passes_none, passes_then, passes_weaken}
use Rattle.log_buffer.specs.Reads.{IsOnlyRead}

module _ {D : Type 0} where
  pub read_none : (meaning : DiskMeaning D) (d : D) → IsOnlyRead meaning d d
  read_none meaning d = record {
    same = λ observed. refl;
    moments = λ observed. passes_none (meaning.history d) (λ s. s ≡ now (meaning.history d));
    syncs = refl;
    reads = refl;
    file = refl;
  }

  pub read_then : (meaning : DiskMeaning D) (a b c : D)
      → IsOnlyRead meaning a b → IsOnlyRead meaning b c → IsOnlyRead meaning a c
  read_then meaning a b c first next = record {
    same = λ observed. next.same observed ∙ first.same observed;
    moments = λ observed. passes_then (meaning.history a) (meaning.history b) (meaning.history c) (λ s. s ≡ now (meaning.history a)) (first.moments observed)
        (passes_weaken (meaning.history b) (meaning.history c) (λ s. s ≡ now (meaning.history b)) (λ s. s ≡ now (meaning.history a)) (λ s is. is ∙ first.same observed) (next.moments observed));
    syncs = next.syncs ∙ first.syncs;
    reads = next.reads ∙ first.reads;
    file = next.file ∙ first.file;
  }
