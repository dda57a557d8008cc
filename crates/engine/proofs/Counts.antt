-- Counts that rose.
use Rattle.std.proofs.Common.{◌≡◌, ℕ, ◌-◌, ◌^◌, ◌<◌, ◌≤◌, inl, inr, ⊎_elim, arith}
use Rattle.std.proofs.lemmas.Bool.{cases_lt}
use Rattle.je_order.specs.Counts.{HasRisen}

-- a count that rose before a later moment, or after an earlier one, rose
pub rose_later : (before mid after : ℕ) → HasRisen before mid → mid ≤ after → HasRisen before after
rose_later before mid after (inl less) later = inl (omega arith)
rose_later before mid after (inr full) later = inr full

pub rose_earlier : (before mid after : ℕ) → before ≤ mid → HasRisen mid after → mid ≤ after → HasRisen before after
rose_earlier before mid after earlier (inl less) later = inl (omega arith)
rose_earlier before mid after earlier (inr full) later = up_to_full before mid after earlier full later where
  up_to_full : (before mid after : ℕ) → before ≤ mid → mid ≡ 2 ^ 64 - 1 → mid ≤ after → HasRisen before after
  up_to_full before mid after earlier full later =
      ⊎_elim (λ (e : before < mid). inl (omega arith)) (λ (e : mid ≤ before). (let is : before ≡ 2 ^ 64 - 1 = omega arith in inr is)) (cases_lt before mid)
