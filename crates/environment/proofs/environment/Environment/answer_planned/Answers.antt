use Rattle.std.proofs.Common.{◌≡◌, ◌∙◌, ℕ, Option, ap, subst}
use Rattle.store_model.specs.declared.answer.Answer.TheVariants.{ReadOnlyIndex}
use Rattle.store_model.specs.Evaluation.{answers}
use Rattle.je_answers.specs.Standing.{Standing}
use Rattle.je_order.specs.declared.txn_id.TxnId.{TxnId}
use Rattle.standing_laws.specs.Right.{AreSound}
use Rattle.environment.specs.Catalog.{IsUsedBy, IsUserBefore}
use Rattle.environment.specs.Steps.{StandsAt}
use Rattle.environment.proofs.CatalogEnds.{answered_performs, none_performs}
use Rattle.environment.proofs.CatalogLogged.{used_answers}
use Rattle.environment.proofs.environment.Environment.answer_planned.Goals as goal

pub returns-in-Ok-Some : goal.returns-in-Ok-Some
returns-in-Ok-Some g c =
    let e = c.args.self.now in
    let told : (most : ℕ) (st : Standing) → StandsAt most g.D.Disk.meaning e st → AreSound st → (c.args.answer ≡ ReadOnlyIndex) × IsUsedBy st c.args.call.now c.in-Ok-Some.txn =
    λ most st at sound. subst (λ (o : Option TxnId). IsUserBefore st c.args.call.now c.args.answer o) c.in-Ok-Some.field-0-is (c.in-Ok-Some.ensures most st at sound) in
    record {
      performs = used_answers g.D.Disk.meaning e c.args.session c.args.call.now c.in-Ok-Some.txn c.requires.call c.requires.below
          c.requires.valid c.requires.bounds
          (λ p s has. c.requires.plan p s has ∙ ap answers (told c.requires.here.0 c.requires.here.1 c.requires.here.2 c.requires.here.3).0)
          (λ most st at sound. (told most st at sound).1);
    }

pub returns-in-Ok-None : goal.returns-in-Ok-None
returns-in-Ok-None g c =
    let e = c.args.self.now in
    record {
      performs = answered_performs g.D.Disk.meaning e c.args.session c.args.call.now c.args.answer c.requires.call c.requires.below
          c.requires.valid c.requires.bounds c.requires.plan
          (λ most st at sound. subst (λ (o : Option TxnId). IsUserBefore st c.args.call.now c.args.answer o) c.in-Ok-None.field-0-is (c.in-Ok-None.ensures most st at sound)) c.requires.here;
    }

pub returns-in-Err : goal.returns-in-Err
returns-in-Err g c = record {
  performs = none_performs g.D.Disk.meaning c.args.self.now c.args.session c.args.call.now c.in-Err.error c.requires.bounds;
}
