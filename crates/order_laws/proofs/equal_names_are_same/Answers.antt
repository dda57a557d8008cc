use Rattle.std.proofs.Common.{ℕ, List, ap}
use Rattle.std.proofs.lemmas.Map.Lookups.{exact_bytes, exact_pairs}
use Rattle.std.specs.Ordering.{nat_cmp}
use Rattle.std.specs.Cmp.Lexicographic.{slice_cmp}
use Rattle.je_order.specs.declared.name.Name.{Name}
use Rattle.order_laws.proofs.equal_names_are_same.Goals as goal

pub returns : goal.returns
returns c =
    let make : List ℕ × List ℕ → Name = λ p. record { key = p.0; dup = p.1 } in (
      exact_bytes,
      λ m n h. ap make (exact_pairs (slice_cmp nat_cmp) (slice_cmp nat_cmp) exact_bytes exact_bytes (m.key, m.dup) (n.key, n.dup) h),
    )
