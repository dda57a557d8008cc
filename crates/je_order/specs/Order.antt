-- The order of keys (Getting Started Guide, "Database Records"), and of record names above it.
use Rattle.std.specs.Prelude.{ℕ, List, Bool}
use Rattle.std.specs.Ordering.{nat_cmp, ordering_then, is_eq}
use Rattle.std.specs.Cmp.Lexicographic.{slice_cmp}
use Rattle.std.specs.declared.cmp.Ordering.{Ordering}
use Rattle.je_order.specs.declared.name.Name.{Name}

-- byte order: bytes are compared as unsigned numbers from the left, and a proper prefix comes first
abbrev pub bytes_cmp : List ℕ → List ℕ → Ordering
bytes_cmp a b = slice_cmp nat_cmp a b

-- name order: by key, then by dup
abbrev pub name_cmp : Name → Name → Ordering
name_cmp a b = ordering_then (bytes_cmp a.key b.key) (bytes_cmp a.dup b.dup)

-- whether two byte strings are the same
abbrev pub is_same_bytes : List ℕ → List ℕ → Bool
is_same_bytes a b = is_eq (bytes_cmp a b)
