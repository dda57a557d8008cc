use Rattle.std.proofs.Common.{rules}
use Rattle.std.specs.Ordering.{is_lt}
use Rattle.std.proofs.lemmas.List.Sorted.{answers_always, ranks_by}
use Rattle.je_order.specs.Order.{name_cmp}
use Rattle.store_model.proofs.StoreLaws.{names_total}
use Rattle.secondary.specs.declared.key_pair.KeyPair.{KeyPair}
use Rattle.secondary.specs.Pairs.{name_in, pair_in}
use Rattle.secondary.proofs.PairLaws.{sorted_pairs}
use Rattle.secondary.proofs.pairs.sort_pairs.Goals as goal

pub returns : goal.returns
returns c =
    λ extract records up are.
    sorted_pairs pair_in extract records c.args.pairs.now.items c.sort_unstable_by.new.self.items up are c.sort_unstable_by.ensures.permutation
    (c.sort_unstable_by.ensures.sorted (λ (x y : KeyPair). is_lt (name_cmp (name_in x) (name_in y))) (ranks_by names_total name_in) (answers_always _ _ _ (λ f a r g h. search rules)))
