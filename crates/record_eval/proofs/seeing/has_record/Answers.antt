use Rattle.std.proofs.Common.{◌∙◌, is_eq}
use Rattle.je_order.specs.Order.{name_cmp}
use Rattle.store_model.specs.Store.{Pair, name_of}
use Rattle.record_eval.proofs.Taken.{any_is_there}
use Rattle.record_eval.proofs.seeing.has_record.Goals as goal

pub returns : goal.returns
returns c = c.has_named.ensures ∙ any_is_there (λ (p : Pair). is_eq (name_cmp (name_of c.args.kind p) c.args.name.now)) c.args.pairs.now
