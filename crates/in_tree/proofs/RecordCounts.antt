-- The records of cells are the occupied names with committed data.
use Rattle.std.proofs.Common.{◌≡◌, ℕ, ◌+◌, List, [], ◌∷◌, ◌++◌, Bool, cond, Option, None, Some, is_some, count_by, length, refl, arith}
use Rattle.std.proofs.lemmas.List.Sums.{sum_by-cons}
use Rattle.je_order.specs.declared.name.Name.{Name}
use Rattle.node_core.specs.declared.slot.Version.{Version}
use Rattle.node_core.specs.declared.slot.Version.TheVariants.{There, Deleted, Unset}
use Rattle.record_map.specs.declared.cell.Cell.{Cell}
use Rattle.record_map.specs.declared.write.Write.{Write}
use Rattle.record_tree.specs.Occupied.{Occupied, committed_value, is_occupied, occupied_by}
use Rattle.record_tree.specs.Stored.{Stored}
use Rattle.db_tree.specs.Seen.{occupied}
use Rattle.db_tree.specs.Stored.{stored_by, stored_in, with_name}
use Rattle.in_tree.specs.Forest.{Forest, cells_at, cells_seen}
use Rattle.in_tree.specs.Stored.{stored_of}

-- whether a name has committed data
abbrev has_data : Name × Occupied → Bool
has_data e = is_some e.1.value

one_more : (e : Name × Occupied) (names : List (Name × Occupied)) → count_by has_data (e ∷ names) ≡ cond (has_data e) 1 0 + count_by has_data names
one_more e names = sum_by-cons (λ x. cond (has_data x) 1 0) e names

counted_first : (x : Name) (version : Version) (value : List ℕ) (write : Option Write) (records : List (Name × Stored)) (names : List (Name × Occupied))
    → length records ≡ count_by has_data names
    → length (with_name x (stored_by version value) ++ records) ≡ count_by has_data (cond (is_occupied (record { value = committed_value version value; write = write })) ((x, record { value = committed_value version value; write = write }) ∷ names) names)
counted_first x (There at) value write records names same = let all = one_more (x, record { value = Some value; write = write }) names in omega (arith, same, all)
counted_first x Deleted value None records names same = same
counted_first x Deleted value (Some write) records names same = let all = one_more (x, record { value = None; write = Some write }) names in omega (arith, same, all)
counted_first x Unset value None records names same = same
counted_first x Unset value (Some write) records names same = let all = one_more (x, record { value = None; write = Some write }) names in omega (arith, same, all)

counted_seen : (cells : List (Name × Cell)) → length (stored_in cells) ≡ count_by has_data (occupied cells)
counted_seen [] = refl
counted_seen (e ∷ cells) = counted_first e.0 e.1.version e.1.«data» (occupied_by e.1).write (stored_in cells) (occupied cells) (counted_seen cells)

pub counted_at : (forest : Forest) (db : ℕ) → length (stored_of forest db) ≡ count_by (λ (e : Name × Occupied). is_some e.1.value) (cells_seen forest db)
counted_at forest db = counted_seen (cells_at forest db)
