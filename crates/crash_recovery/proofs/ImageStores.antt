-- Which stores the images of a disk mean.
use Rattle.std.proofs.Common.{ℕ, ◌≤◌, List, [], ◌++◌, length, sym, ap, ◌∙◌, arith}
use Rattle.std.proofs.lemmas.List.{take-append-le, length-append}
use Rattle.je_disk.specs.States.{Files}
use Rattle.je_disk.specs.Moments.{now}
use Rattle.je_disk.proofs.MomentLaws.{passes_weaken}
use Rattle.store_model.specs.declared.change.Change.{Change}
use Rattle.store_model.specs.declared.store.Store.{Store}
use Rattle.store_model.specs.Store.{store_after}
use Rattle.log_file.specs.Log.{Log}
use Rattle.log_buffer.specs.Chance.{NoChanceMatch}
use Rattle.log_buffer.specs.Crash.{HoldLogged, HoldPrefixes, IsKeptSince}
use Rattle.log_buffer.proofs.CrashImages.{kept_is_left}
use Rattle.log_buffer.proofs.ChanceMatches.{own_chance, prefixes_logged}
use Rattle.log_trees.specs.Placed.{placed}
use Rattle.log_meaning.specs.Recovery.{IsRecovered, commits_in}
use Rattle.log_meaning.proofs.NeededFiles.{needed_files_recover}
use Rattle.crash_recovery.specs.Recovery.{IsImageRecovered, IsStateRecovered}
use Rattle.crash_recovery.specs.Laws.{ImagesRecover, KeptImagesRecover, StatesRecover, ThroughRecovers, WiderIsRecovered, WrittenRecover}
use Rattle.crash_recovery.proofs.ImageReading.{images_hold_first, written_left}

pub images_recover : ImagesRecover
images_recover first opening base least transactions log image is from left =
    let holds = images_hold_first log least image is.named left in
    record {
      held = holds.held;
      are = holds.are;
      recovered = needed_files_recover first opening base least transactions log holds.held is.files is.recovers from holds.first;
    }

pub kept_images_recover : KeptImagesRecover
kept_images_recover first opening base least transactions log state is from keeps read image files chance =
    images_recover first opening base least transactions log image is from (kept_is_left log [] least state image is.named.is_log keeps read files chance)

-- what the disk reads is an image in which no checksum matches by chance
read_chance : (log : Log) (reads : Files) → HoldPrefixes log reads → NoChanceMatch (HoldLogged log) reads reads
read_chance log reads prefixes = own_chance (HoldLogged log) reads (λ f. prefixes_logged log reads f prefixes)

pub states_recover : StatesRecover
states_recover first opening base least transactions log state is from kept =
    let images = kept_images_recover first opening base least transactions log state is from kept.keeps kept.read in
    record { read = images state.reads kept.read (read_chance log state.reads kept.prefixes); images = images }

pub written_recover : WrittenRecover
written_recover first opening base least written transactions log state is from kept h =
    images_recover first opening base written transactions log state.reads is from
    (written_left log least written state.reads
    (kept_is_left log [] least state state.reads is.named.is_log kept.keeps kept.read kept.read (read_chance log state.reads kept.prefixes)) h)

pub through_recovers : ThroughRecovers
through_recovers first opening base least transactions log old new is from through =
    passes_weaken old new (IsKeptSince log [] least (now old).reads) (IsStateRecovered log opening (commits_in base least (placed log)) transactions)
    (λ s k. states_recover first opening base least transactions log s is from k.kept) through

-- ---- fewer transactions that are sure, and more that may be there

wider_files : (opening : Store) (least fewer : ℕ) (transactions more : List (List Change)) (held : List (ℕ × List ℕ)) → IsRecovered opening least transactions held → fewer ≤ least →
    IsRecovered opening fewer (transactions ++ more) held
wider_files opening least fewer transactions more held is le = record {
  meaning = is.meaning;
  reads = is.reads;
  count = is.count;
  at_least = let enough : least ≤ is.count = is.at_least in omega (arith, le, enough);
  within = let low : is.count ≤ length transactions = is.within in omega (arith, low, length-append transactions more);
  store = is.store ∙ ap (store_after opening) (sym (take-append-le is.count transactions more is.within));
}

pub wider_image : (opening : Store) (least fewer : ℕ) (transactions more : List (List Change)) (image : Files) → IsImageRecovered opening least transactions image → fewer ≤ least →
    IsImageRecovered opening fewer (transactions ++ more) image
wider_image opening least fewer transactions more image is le =
    record { held = is.held; are = is.are; recovered = wider_files opening least fewer transactions more is.held is.recovered le }

pub wider_is_recovered : WiderIsRecovered
wider_is_recovered log opening least fewer transactions more state is le = record {
  read = wider_image opening least fewer transactions more state.reads is.read le;
  images = λ image files chance. wider_image opening least fewer transactions more image (is.images image files chance) le;
}
