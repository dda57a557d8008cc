-- Reading trees.
use Rattle.std.specs.Prelude.{◌≡◌, ◌==◌, ℕ, zero, suc, Bool, false, List, [], ◌∷◌, Option, None, Some, Result, Ok, Err}
use Rattle.std.specs.List.{list_any, flat_map}
use Rattle.std.specs.Ordering.{is_lt}
use Rattle.je_order.specs.Order.{name_cmp}
use Rattle.je_order.specs.declared.name.Name.{Name}
use Rattle.node_core.specs.declared.slot.Marked.{Marked}
use Rattle.node_core.specs.declared.node.Node.{Node}
use Rattle.record_tree.specs.Stored.{AllStored}
use Rattle.log_trees.specs.Placed.{Placed}
use Rattle.log_trees.specs.Images.{slot_shown}
use Rattle.log_trees.specs.Bounds.{slots_inside, Child, children}
use Rattle.log_trees.specs.Walk.{Walk, each, met, read_record, read_child, read_node}
use Rattle.log_meaning.specs.Meaning.{most, db_given}
use Rattle.log_replay.specs.declared.corruption.Corruption.{Corruption}
use Rattle.recovery_je.specs.declared.read_err.ReadErr.{ReadErr}
use Rattle.recovery_je.specs.Recovering.{IsFoundBy, HoldsChanges}

-- a call answers as a definition does, if memory and numbers do not run out
abbrev pub Answers : {A : Type 0} → Result A Corruption → Result A ReadErr → Type 0
Answers spec (Ok x) = spec ≡ Ok x
Answers spec (Err e) = IsFoundBy e (λ corruption. spec ≡ Err corruption)

-- the trees, the nodes' numbers and the greatest numbers are those of a walk
pub record IsWalking (stored : AllStored) (seen : List ℕ) (node db : ℕ) (walk : Walk) : Type 0 where
  pub seen_is : (m : ℕ) → list_any (λ k. k == m) seen ≡ list_any (λ k. k == m) walk.seen
  pub node_is : node ≡ most (λ n. n) walk.seen
  pub db_is : db ≡ most db_given walk.rows
  pub records : HoldsChanges walk.rows stored

-- a reading goes on as a definition does, if memory and numbers do not run out
abbrev pub GoesOn : {A : Type 0} → Result Walk Corruption → (Walk → Type 0) → Result A ReadErr → Type 0
GoesOn spec P (Ok x) = (walk : Walk) × (spec ≡ Ok walk) × P walk
GoesOn spec P (Err e) = IsFoundBy e (λ corruption. spec ≡ Err corruption)

-- a node was read and put, or its reading fails as the definition does
abbrev pub HasMet : Result Node Corruption → Walk → (Walk → Type 0) → Result Node ReadErr → Type 0
HasMet spec walk P (Ok n) = (spec ≡ Ok n) × P (met n walk)
HasMet spec walk P (Err e) = IsFoundBy e (λ corruption. spec ≡ Err corruption)

-- ---- what stands below a node

-- the records of a BIN's slots, or the trees of the children that an IN's slots name
abbrev pub read_below : List ℕ → List Placed → ℕ → ℕ → Name → Option Name → ℕ → List Marked → Walk → Result Walk Corruption
read_below files es d zero low high at slots = each (read_record files es d at) (slots_inside low high (flat_map slot_shown slots))
read_below files es d (suc above) low high at slots = each (read_child files (read_node files es d above) at) (children low high (flat_map slot_shown slots))

-- a child is read when the next one's name is known: the one that waits, if one does, with these bounds
abbrev pub waiting : Name → Option Name → Option ℕ → List Child
waiting low high None = []
waiting low high (Some at) = record { low = low; high = high; at = at } ∷ []

-- whether the names of the child that waits, if one does, end at the next slot's name: it is above the lower bound
abbrev pub child_ends_at : Option ℕ → Name → Name → Bool
child_ends_at None low name = false
child_ends_at (Some at) low name = is_lt (name_cmp low name)

-- ---- roots

-- the level of a node that was read
abbrev pub level_read : Result Node Corruption → Result ℕ Corruption
level_read (Ok n) = Ok n.level
level_read (Err corruption) = Err corruption
