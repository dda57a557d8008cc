-- How names and data are held in memory, and the order of names.
use Rattle.std.specs.Prelude.{◌≡◌, ◌≤◌, ℕ, List, [], take}
use Rattle.std.specs.Cmp.{IsTotalOrder, on_total, then_total}
use Rattle.std.specs.Cmp.Lexicographic.{nat_list_cmp_total}
use Rattle.je_order.specs.Held.{padded_to}
use Rattle.je_order.specs.Order.{name_cmp}
use Rattle.je_order.specs.declared.name.Name.{Name}
use Rattle.record_map.specs.declared.held_name.HeldName.{HeldName}
use Rattle.record_map.specs.declared.held_name.HeldName.TheVariants.{Short, Long}
use Rattle.record_map.specs.declared.held_data.HeldData.{HeldData}
use Rattle.record_map.specs.declared.held_data.HeldData.TheVariants.{Near, Far}

-- the name that is held
abbrev pub name_held : HeldName → Name
name_held (Short len bytes) = record { key = take len bytes; dup = [] }
name_held (Long head name) = name.value

-- that what is held beside a name is of its key
abbrev pub IsHeld : HeldName → Type 0
IsHeld (Short len bytes) = (bytes ≡ padded_to 22 (take len bytes)) × (len ≤ 22)
IsHeld (Long head name) = head ≡ padded_to 15 name.value.key

-- the data that is held
abbrev pub data_held : HeldData → List ℕ
data_held (Near len bytes) = take len bytes
data_held (Far octets) = octets

-- how many bytes are near
abbrev pub near_len : HeldData → ℕ
near_len (Near len bytes) = len
near_len (Far octets) = 0

-- of any two names one comes first, or they are equal
pub names_are_ordered : IsTotalOrder name_cmp
names_are_ordered = then_total (on_total (λ (name : Name). name.key) nat_list_cmp_total) (on_total (λ (name : Name). name.dup) nat_list_cmp_total)
