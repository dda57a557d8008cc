use Rattle.std.proofs.Common.{◌≡◌, ◌∙◌, Bool, Some, None, sym, subst}
use Rattle.store_model.specs.declared.answer.Answer.TheVariants.{KeyEmpty}
use Rattle.store_model.specs.Reads.{at_name}
use Rattle.store_model.specs.Records.{empty_if}
use Rattle.record_eval.proofs.Taken.{record_there, record_gone}
use Rattle.record_eval.proofs.records.empty_if.Goals as goal

pub returns-then-has_record : goal.returns-then-has_record
returns-then-has_record c =
    subst (λ (b : Bool). None ≡ empty_if b (at_name c.args.kind c.args.n.now c.args.pairs.now)) (sym c.if-not-needed.false)
    (record_there (at_name c.args.kind c.args.n.now c.args.pairs.now) (sym c.has_record.ensures ∙ c.if-has_record.true))

pub returns : goal.returns
returns c =
    subst (λ (b : Bool). Some KeyEmpty ≡ empty_if b (at_name c.args.kind c.args.n.now c.args.pairs.now)) (sym c.if-not-needed.false)
    (record_gone (at_name c.args.kind c.args.n.now c.args.pairs.now) (sym c.has_record.ensures ∙ c.if-has_record.false))
