-- What a checkpoint that began in this life of the environment keeps of the nodes of a tree that fits its log.
use Rattle.std.specs.Prelude.{◌≡◌, ◌==◌, ◌&&◌, ◌||◌, ℕ, suc, nat_le, nat_lt, Bool, true, false, List, Some, IfSome, length, map}
use Rattle.std.specs.List.{list_any}
use Rattle.je_order.specs.declared.name.Name.{Name}
use Rattle.log_entry.specs.declared.entry.Entry.{Entry}
use Rattle.log_entry.specs.declared.entry.Entry.TheVariants.{Put, Delete, Commit, CkptStart}
use Rattle.record_map.specs.Cells.{value_at}
use Rattle.tree_nodes.specs.declared.node.Node.{Node}
use Rattle.tree_nodes.specs.Nodes.{NodeRow, IsOver}
use Rattle.tree_nodes.specs.Levels.{row_of}
use Rattle.db_tree.specs.declared.node_at.NodeAt.{NodeAt}
use Rattle.db_tree.specs.declared.node_image.NodeImage.{NodeImage}
use Rattle.db_tree.specs.Images.{Placed}
use Rattle.db_tree.specs.NodeImages.{node_of}
use Rattle.db_tree.specs.Waiting.{is_among}

-- ---- the log

abbrev pub is_start : Entry → Bool
is_start (CkptStart number) = true
is_start entry = false

-- a checkpoint began at an LSN, in this life of the environment, which begins at `base`
abbrev pub has_begun : Placed → ℕ → ℕ → Bool
has_begun es base start = nat_le base start && list_any (λ p. (p.0 == start) && is_start p.1) es

-- an entry is a change of a transaction
abbrev pub is_change_by : ℕ → Entry → Bool
is_change_by t (Put txn db name value) = txn.0 == t
is_change_by t (Delete txn db name) = txn.0 == t
is_change_by t entry = false

-- a transaction logged a change up to an LSN, in this life
abbrev pub has_changed : Placed → ℕ → ℕ → ℕ → Bool
has_changed es base t lsn = list_any (λ p. nat_le base p.0 && nat_le p.0 lsn && is_change_by t p.1) es

-- an entry is the Commit of a transaction that logged a change up to an LSN
abbrev pub commits_from : Placed → ℕ → ℕ → Entry → Bool
commits_from es base lsn (Commit txn) = has_changed es base txn.0 lsn
commits_from es base lsn entry = false

-- an LSN is not before the beginning of a checkpoint, nor before all changes of the transactions that committed behind it
abbrev pub is_late : Placed → ℕ → ℕ → ℕ → Bool
is_late es base start lsn = nat_le start lsn || list_any (λ p. nat_lt start p.0 && commits_from es base lsn p.1) es

-- ---- the nodes

-- each node that is not noted has no mark, or one that passes a test of the node's level and low; and the node above a noted one is noted
pub record NotesHold (passes : ℕ → Name → ℕ → Bool) (rows : List NodeRow) : Type 0 where
  pub marks : (level : ℕ) (low : Name) (n : Node) → value_at low (row_of rows level) ≡ Some n → n.noted ≡ false → IfSome n.from (λ lsn. passes level low lsn ≡ true)
  pub above : (level : ℕ) (x : Name) (e c : Name × Node) → IsOver (row_of rows (suc level)) x e → IsOver (row_of rows level) x c → c.1.noted ≡ true → e.1.noted ≡ true

-- the topmost node is still to be logged
abbrev pub is_root_due : List NodeAt → List NodeRow → ℕ → Name → Bool
is_root_due due rows level low = is_among due level low && (suc level == length rows)

-- a mark is late, or that of a new root whose image is still to be logged
abbrev pub may_stay : Placed → ℕ → ℕ → List NodeAt → List NodeRow → ℕ → Name → ℕ → Bool
may_stay es base start due rows level low lsn = is_root_due due rows level low || is_late es base start lsn

-- so it is with the marks of a tree's nodes that are not noted, for each checkpoint that began
abbrev pub HasNotes : Placed → ℕ → List NodeImage → List NodeRow → Type 0
HasNotes es base images rows = (start : ℕ) → has_begun es base start ≡ true → NotesHold (may_stay es base start (map node_of images) rows) rows
