-- What a log is while an environment works on it: read again from its last checkpoint, or from any LSN of this life on over what stood
-- before, it gives the environment's records, and each active transaction's changes wait.
use Rattle.std.specs.Prelude.{◌≡◌, ◌≢◌, ◌⊎◌, ◌≤◌, ◌<◌, ℕ, nat_le, if◌then◌else◌, Bool, true, false, List, [], ◌∷◌, Option}
use Rattle.std.specs.List.{AllByRecursion, list_any}
use Rattle.je_order.specs.declared.name.Name.{Name}
use Rattle.log_trees.specs.Placed.{Placed}
use Rattle.log_trees.specs.Changes.{Written, LoggedChange, is_of, last_of, changes_from}
use Rattle.log_meaning.specs.Redo.{redone, record_at, newest}
use Rattle.log_meaning.specs.Checkpoint.{last_checkpoint, restarted}

-- the first, where it was written at an LSN or behind it, else the second
abbrev pub pick : ℕ → Written → Written → Written
pick r written start = if nat_le r written.at then written else start

-- the changes of a name stand at rising LSNs, behind what stood there before
abbrev pub Rises : ℕ → Name → Written → List LoggedChange → Type 0
Rises d x written [] = Unit {0}
Rises d x written (c ∷ changes) = (is_of d x c ≡ true → written.at < c.written.at) × Rises d x (if is_of d x c then c.written else written) changes

-- whether changes have one of a name
abbrev pub has : ℕ → Name → List LoggedChange → Bool
has d x changes = list_any (is_of d x) changes

-- `es`: the log's entries. `base`: an LSN above those that were found when the environment was opened, and not above later ones. `next`: no
-- entry stands behind it. `is_open`: the catalog, its databases, and numbers that were not allocated. `rows`: the data of each name.
-- `is_live`: the active transactions, and numbers that were not allocated. `logged`: what each of these has logged
pub record Stands (es : List Placed) (base next : ℕ) (is_open : ℕ → Bool) (rows : ℕ → Name → Option (List ℕ)) (is_live : ℕ → Bool) (logged : ℕ → List LoggedChange) : Type 0 where
  pub begun : base ≤ next
  pub reach : ((last_checkpoint es).at ≤ next) × ((last_checkpoint es).redo ≤ next)
  pub past : (d : ℕ) (x : Name) → (newest base es d x).at ≤ next
  pub past_own : (t : ℕ) → is_live t ≡ true → AllByRecursion (λ c. (base ≤ c.written.at) × (c.written.at ≤ next)) (logged t)
  -- read again, the log gives the records, and the active transactions' changes
  pub same : (d : ℕ) (x : Name) → is_open d ≡ true → (record_at (restarted es) d x).value ≡ rows d x
  pub own : (t : ℕ) → is_live t ≡ true → (restarted es).pending t ≡ logged t
  -- redone from any later LSN on, each name is as it was last written, if that is behind the LSN
  pub redo : (r : ℕ) → base ≤ r → (d : ℕ) (x : Name) (start : Written) → last_of d x (redone r es).done start ≡ pick r (newest base es d x) start
  pub tied : (d : ℕ) (x : Name) → is_open d ≡ true → base ≤ (newest base es d x).at → (newest base es d x).value ≡ rows d x
  pub later : (r : ℕ) → base ≤ r → (t : ℕ) → is_live t ≡ true → (redone r es).pending t ≡ changes_from r (logged t)
  -- what an active transaction has changed, nobody else has changed since
  pub alone : (t : ℕ) → is_live t ≡ true → (d : ℕ) (x : Name) → Rises d x (newest base es d x) (logged t)
  pub apart : (t u : ℕ) → is_live t ≡ true → is_live u ≡ true → t ≢ u → (d : ℕ) (x : Name) → (has d x (logged t) ≡ false) ⊎ (has d x (logged u) ≡ false)

-- where the trees of a checkpoint's roots lack what an environment has, that was committed at the redo LSN or behind it
abbrev pub Covered : List Placed → ℕ → (ℕ → Bool) → (ℕ → Name → Option (List ℕ)) → (ℕ → Name → Written) → ℕ → Type 0
Covered es base is_open rows start redo = (d : ℕ) (x : Name) → is_open d ≡ true → ((start d x).value ≡ rows d x) ⊎ (redo ≤ (newest base es d x).at)
