use Rattle.std.proofs.Common.{◌≡◌, ◌∙◌, ℕ, List, length, take, length-take, arith, ap₂}
use Rattle.je_order.specs.Order.{bytes_cmp}
use Rattle.je_order.proofs.SpelledLaws.{spelled_cmp}
use Rattle.je_order.proofs.order.cmp_word.Goals as goal

pub returns : goal.returns
returns c =
    let x : List ℕ = take 8 c.split_at.result.1.now in
    let y : List ℕ = take 8 c.split_at-2.result.1.now in
    let same : length x ≡ length y =
    omega (arith, c.requires, c.split_at.ensures.back_len, c.split_at-2.ensures.back_len, length-take 8 c.split_at.result.1.now, length-take 8 c.split_at-2.result.1.now) in
    c.cmp.ensures
    ∙ spelled_cmp x y c.word.result c.word-2.result same c.word.ensures c.word-2.ensures
    ∙ ap₂ (λ (a b : List ℕ). bytes_cmp (take 8 a) (take 8 b)) c.split_at.ensures.back c.split_at-2.ensures.back
