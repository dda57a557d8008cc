-- What holds of each name's newest committed change while the log grows.
use Rattle.std.specs.Prelude.{◌≡◌, ◌≤◌, ◌<◌, ℕ, Bool, true, false, List, [], ◌∷◌, ◌++◌, Option}
use Rattle.std.specs.List.{AllByRecursion}
use Rattle.je_order.specs.declared.name.Name.{Name}
use Rattle.je_order.specs.declared.txn_id.TxnId.{TxnId}
use Rattle.log_entry.specs.declared.entry.Entry.{Entry}
use Rattle.log_entry.specs.declared.entry.Entry.TheVariants.{Commit, Migrated}
use Rattle.log_trees.specs.Changes.{LoggedChange, is_of}
use Rattle.log_meaning.specs.Stands.{Stands}
use Rattle.db_tree.specs.Images.{Placed}
use Rattle.tree_images.specs.Roots.{newest_at}

-- whether an entry commits changes
abbrev pub commits_changes : Entry → Bool
commits_changes (Commit txn) = true
commits_changes (Migrated db name value) = true
commits_changes entry = false

-- entries that commit nothing leave it
abbrev pub NewestStays : Type 0
NewestStays = (es : Placed) (base at : ℕ) (entry : Entry) (d : ℕ) (x : Name) → base ≤ at → commits_changes entry ≡ false → newest_at base (es ++ (at, entry) ∷ []) d x ≡ newest_at base es d x

-- a Commit of an active transaction brings no older one, and none of its changes is newer
pub record IsNewest (es longer : Placed) (base d : ℕ) (x : Name) (changes : List LoggedChange) : Type 0 where
  pub rises : newest_at base es d x ≤ newest_at base longer d x
  pub own : AllByRecursion (λ c. is_of d x c ≡ true → c.written.at ≤ newest_at base longer d x) changes

abbrev pub CommitsAreNewest : Type 0
CommitsAreNewest = (es : Placed) (base next at : ℕ) (is_open : ℕ → Bool) (rows : ℕ → Name → Option (List ℕ)) (is_live : ℕ → Bool) (logged : ℕ → List LoggedChange) (t : TxnId) (d : ℕ) (x : Name) →
    Stands es base next is_open rows is_live logged → next < at → is_live t.0 ≡ true → IsNewest es (es ++ (at, Commit t) ∷ []) base d x (logged t.0)
