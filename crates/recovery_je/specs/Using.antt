-- How much of a log is live, by trees that were read from it.
use Rattle.std.specs.Prelude.{◌≡◌, ◌==◌, ◌||◌, nat_lt, ℕ, Bool, false, List, Option, None, Some, Ok, map, filter}
use Rattle.std.specs.List.{flat_map}
use Rattle.je_order.specs.declared.name.Name.{Name}
use Rattle.record_map.specs.Cells.{value_at}
use Rattle.record_tree.specs.Stored.{Stored, AllStored}
use Rattle.log_entry.specs.declared.root.Root.{Root}
use Rattle.log_trees.specs.Placed.{Placed}
use Rattle.log_trees.specs.Bounds.{Child}
use Rattle.log_meaning.specs.Meaning.{Meaning}
use Rattle.log_meaning.specs.Reading.{reading_of}
use Rattle.file_use.specs.declared.file_use.FileUse.{FileUse}
use Rattle.file_use.specs.declared.log_use.LogUse.{LogUse}
use Rattle.file_use.specs.Images.{images_below}
use Rattle.file_use.specs.Live.{images_in_use, is_one_of, live_in}
use Rattle.file_use.specs.Use.{use_of}
use Rattle.recovery_je.specs.declared.file_len.FileLen.{FileLen}

-- ---- images

-- numbers were put to others
abbrev pub HasAdded : List ℕ → List ℕ → List ℕ → Type 0
HasAdded added old new = (m : ℕ) → is_one_of new m ≡ (is_one_of added m || is_one_of old m)

-- the images of the trees of these children of an image at an LSN, `above` levels above the BINs
abbrev pub images_of_children : List Placed → ℕ → ℕ → List Child → List ℕ
images_of_children es above at cs = flat_map (λ c. images_below es above c.low c.high c.at) (filter (λ c. nat_lt c.at at) cs)

-- the numbers of images that the trees of roots reach whose databases have trees
abbrev pub AreInUse : (ℕ → Bool) → List Placed → List Root → List ℕ → Type 0
AreInUse has es roots images = (m : ℕ) → is_one_of images m ≡ is_one_of (images_in_use has es roots) m

-- ---- records

-- whether a record was written at this LSN
abbrev pub is_stored_at : ℕ → Option Stored → Bool
is_stored_at lsn None = false
is_stored_at lsn (Some stored) = stored.at == lsn

abbrev pub is_stored_from : AllStored → ℕ → Name → ℕ → Bool
is_stored_from stored d x lsn = is_stored_at lsn (value_at x (stored d))

-- ---- files

-- the use of files of so many bytes, by which records and images are needed
abbrev pub uses_by : (ℕ → Name → ℕ → Bool) → (ℕ → Bool) → List Placed → List FileLen → List FileUse
uses_by has_record has_image es lens = map (λ l. record { file = l.number; total = l.len; live = live_in has_record has_image es l.number.0 }) lens

-- files mean something, and this is their use
abbrev pub IsUseOf : LogUse → List (ℕ × List ℕ) → Type 0
IsUseOf used held = (meaning : Meaning) × (reading_of held ≡ Ok meaning) × (used ≡ use_of meaning held)
