use Rattle.je_order.proofs.order.cmp_name.Goals as goal

pub returns : goal.returns
returns c = cc
