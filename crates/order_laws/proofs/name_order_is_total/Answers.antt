use Rattle.std.proofs.lemmas.Cmp.{nat_list_cmp_total, on_total, then_total}
use Rattle.je_order.specs.declared.name.Name.{Name}
use Rattle.order_laws.proofs.name_order_is_total.Goals as goal

pub returns : goal.returns
returns c = then_total (on_total (λ (n : Name). n.key) nat_list_cmp_total) (on_total (λ (n : Name). n.dup) nat_list_cmp_total)
