-- How the moments of several calls join.
use Rattle.std.proofs.Common.{◌≡◌, ◌≤◌, ◌<◌, ℕ, ◌⊎◌, refl, ◌∙◌, subst, sym, inl, inr, arith}
use Rattle.std.proofs.lemmas.Bool.{cases_order}
use Rattle.je_disk.specs.States.{State}
use Rattle.je_disk.specs.Moments.{History, Passes}

-- no time went by
pub passes_none : (h : History) (P : State → Type 0) → Passes h h P
passes_none h P = record { later = omega arith; keeps = λ k _. refl; each = λ k after within. absurd (omega arith) }

-- what is so of each new moment, and more
pub passes_weaken : (old new : History) (P Q : State → Type 0) → ((s : State) → P s → Q s) → Passes old new P → Passes old new Q
passes_weaken old new P Q goes p = record { later = p.later; keeps = p.keeps; each = λ k after within. goes (new.state_at k) (p.each k after within) }

-- one call after another
pub passes_then : (a b c : History) (P : State → Type 0) → Passes a b P → Passes b c P → Passes a c P
passes_then a b c P first second = record {
  later = let f = first.later in let s = second.later in omega arith;
  keeps = λ k within. second.keeps k (earlier k within first.later) ∙ first.keeps k within;
  each = λ k after within. each_of k after within (cases_order k b.moment);
} where
  earlier : (k : ℕ) → k ≤ a.moment → a.moment ≤ b.moment → k ≤ b.moment
  earlier k one two = omega arith

  first_half : (k : ℕ) → a.moment < k → k ≤ b.moment → P (c.state_at k)
  first_half k after early = subst P (sym (second.keeps k early)) (first.each k after early)

  each_of : (k : ℕ) → a.moment < k → k ≤ c.moment → (k ≡ b.moment) ⊎ ((k < b.moment) ⊎ (b.moment < k)) → P (c.state_at k)
  each_of k after within (inl is) = first_half k after (omega arith)
  each_of k after within (inr (inl early)) = first_half k after (omega arith)
  each_of k after within (inr (inr late)) = second.each k late within
