-- What it means that two values compare as equal.
use Rattle.std.specs.Prelude.{ℕ, ◌≡◌, List}
use Rattle.std.specs.declared.cmp.Ordering.TheVariants.{Equal}
use Rattle.je_order.specs.Order.{bytes_cmp, name_cmp}
use Rattle.je_order.specs.declared.name.Name.{Name}

-- byte strings that compare as equal are the same, and so are names
abbrev pub SameWhereEqual : Type 0
SameWhereEqual = ((a b : List ℕ) → bytes_cmp a b ≡ Equal → a ≡ b) × ((m n : Name) → name_cmp m n ≡ Equal → m ≡ n)
