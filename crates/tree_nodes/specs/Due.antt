-- The numbers of due nodes by their places, and how the least of them is found.
use Rattle.std.specs.Prelude.{◌≡◌, ◌≤◌, ◌+◌, ◌*◌, ℕ, nat_lt, List, Option, None, Some, is_some, length, option_map, set, slice_index_or, if◌then◌else◌}
use Rattle.std.specs.List.{count_by}
use Rattle.je_order.specs.declared.name.Name.{Name}
use Rattle.record_map.specs.Cells.{value_at}
use Rattle.tree_nodes.specs.declared.node.Node.{Node}
use Rattle.tree_nodes.specs.Nodes.{ArePlaces, is_due, node_at}

-- ---- numbers by places

-- the number at a place; none behind the last
abbrev pub number_in : List (Option ℕ) → ℕ → Option ℕ
number_in numbers place = slice_index_or numbers place None

-- the lesser of two numbers with their places, where there are both
abbrev pub lesser : Option (ℕ × ℕ) → Option (ℕ × ℕ) → Option (ℕ × ℕ)
lesser None b = b
lesser (Some a) None = Some a
lesser (Some a) (Some b) = if nat_lt b.0 a.0 then Some b else Some a

-- what is found for a place; nothing behind the last
abbrev pub least_found : List (Option (ℕ × ℕ)) → ℕ → Option (ℕ × ℕ)
least_found least place = slice_index_or least place None

-- the number of a place, with the place
abbrev pub own_number : List (Option ℕ) → ℕ → Option (ℕ × ℕ)
own_number numbers place = option_map (λ n. (n, place)) (number_in numbers place)

-- the least of a place's number and of what is found for the two places below it
abbrev pub least_at : List (Option ℕ) → List (Option (ℕ × ℕ)) → ℕ → Option (ℕ × ℕ)
least_at numbers least place = lesser (own_number numbers place) (lesser (least_found least (2 * place + 1)) (least_found least (2 * place + 2)))

-- for each place that is found
pub record AreLeast (numbers : List (Option ℕ)) (least : List (Option (ℕ × ℕ))) : Type 0 where
  pub size : length least ≡ length numbers
  pub each : (i : ℕ) → least_found least i ≡ least_at numbers least i

-- for each place but one
pub record AreLeastBut (but : ℕ) (numbers : List (Option ℕ)) (least : List (Option (ℕ × ℕ))) : Type 0 where
  pub size : length least ≡ length numbers
  pub each : (i : ℕ) → (i ≡ but → ⊥) → least_found least i ≡ least_at numbers least i

-- a number is the least one
pub record IsLeastNumber (numbers : List (Option ℕ)) (place : ℕ) : Type 0 where
  pub number : ℕ
  pub there : number_in numbers place ≡ Some number
  pub upto : (i m : ℕ) → number_in numbers i ≡ Some m → number ≤ m

-- the place of the least one, if there is one
abbrev pub IsLeastOf : List (Option ℕ) → Option ℕ → Type 0
IsLeastOf numbers None = (i : ℕ) → number_in numbers i ≡ None
IsLeastOf numbers (Some place) = IsLeastNumber numbers place

-- how many numbers there are
abbrev pub count_numbers : List (Option ℕ) → ℕ
count_numbers numbers = count_by is_some numbers

-- the least ones are found for all places, and there are so many numbers
pub record AreLeastKept (numbers : List (Option ℕ)) (least : List (Option (ℕ × ℕ))) (count : ℕ) : Type 0 where
  pub found : AreLeast numbers least
  pub counted : count ≡ count_numbers numbers

-- ---- the due nodes of a level

-- the low of the node at a place; none where no low has the place
abbrev pub name_in : List (Option Name) → ℕ → Option Name
name_in names place = slice_index_or names place None

-- the number of a node that some low has, if it is due
abbrev pub due_number : Option Name → Node → Option ℕ
due_number None n = None
due_number (Some low) n = if is_due n then Some n.number else None

-- lows stand at their places, and each place has the number of its node where that is due
pub record AreDueKept (lows : List (Name × ℕ)) (nodes : List Node) (names : List (Option Name)) (due : List (Option ℕ)) : Type 0 where
  pub places : ArePlaces lows nodes
  pub count : length names ≡ length nodes
  pub covers : length nodes ≤ length due
  pub named : (x : Name) (i : ℕ) → value_at x lows ≡ Some i → name_in names i ≡ Some x
  pub here : (x : Name) (i : ℕ) → name_in names i ≡ Some x → value_at x lows ≡ Some i
  pub numbers : (i : ℕ) → number_in due i ≡ due_number (name_in names i) (node_at nodes i)

-- a list without what stands at a place, if there is one
abbrev pub without : {A : Type 0} → Option ℕ → List (Option A) → List (Option A)
without None xs = xs
without (Some place) xs = set xs place None
