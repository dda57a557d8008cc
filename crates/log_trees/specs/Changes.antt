-- Changes of records with the LSNs at which they were logged, and what they leave under a name.
use Rattle.std.specs.Prelude.{ℕ, ◌==◌, ◌&&◌, nat_le, if◌then◌else◌, List, [], ◌∷◌, Option, None, Bool, filter}
use Rattle.std.specs.Ordering.{is_eq}
use Rattle.je_order.specs.Order.{name_cmp}
use Rattle.je_order.specs.declared.name.Name.{Name}
use Rattle.log_replay.specs.Rows.{Rows, rows_with}

-- what stands under a name: its data, None where there is no record, and the LSN of its last change
pub record Written : Type 0 where
  pub at : ℕ
  pub value : Option (List ℕ)

-- a name that was never changed
abbrev pub unwritten : Written
unwritten = record { at = 0; value = None }

-- a change of a record: the database's number, the name, and what stands there from then on
pub record LoggedChange : Type 0 where
  pub db : ℕ
  pub name : Name
  pub written : Written

-- whether a change is of this database and name
abbrev pub is_of : ℕ → Name → LoggedChange → Bool
is_of d x change = (change.db == d) && is_eq (name_cmp change.name x)

-- what stands under a name after changes, in order
abbrev pub last_of : ℕ → Name → List LoggedChange → Written → Written
last_of d x [] written = written
last_of d x (change ∷ changes) written = last_of d x changes (if is_of d x change then change.written else written)

-- the changes that were logged at an LSN or behind it
abbrev pub changes_from : ℕ → List LoggedChange → List LoggedChange
changes_from r changes = filter (λ c. nat_le r c.written.at) changes

-- the records of each database after changes, in order
abbrev pub rows_after : List LoggedChange → Rows → Rows
rows_after [] rows = rows
rows_after (change ∷ changes) rows = rows_after changes (λ d. if d == change.db then rows_with change.name change.written.value (rows d) else rows d)
