use Rattle.std.proofs.Common.{Option, subst}
use Rattle.je_order.specs.declared.txn_id.TxnId.{TxnId}
use Rattle.environment.specs.Catalog.{IsUserOf}
use Rattle.environment.proofs.CatalogLogged.{used_performs}
use Rattle.environment.proofs.environment.Environment.change_by_user.Goals as goal

pub returns-in-Some : goal.returns-in-Some
returns-in-Some g c =
    let e = c.args.self.now in
    record {
      performs = used_performs g.D.Disk.meaning e c.args.session c.args.call.now c.in-Some.txn c.args.fills c.args.changes c.requires.call c.requires.below
          c.requires.valid c.requires.bounds c.requires.plan (λ most st at sound. subst (λ (o : Option TxnId). IsUserOf st c.args.call.now o) c.in-Some.is (c.requires.user most st at sound));
    }

pub log_change-requires-clause-free : goal.log_change-requires-clause-free
log_change-requires-clause-free g c = λ most st at sound. subst (λ (o : Option TxnId). IsUserOf st c.args.call.now o) c.in-None.is (c.requires.user most st at sound)

pub returns-in-None : goal.returns-in-None
returns-in-None g c = record { performs = c.log_change.ensures.performs }
