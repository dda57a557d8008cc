use Rattle.std.proofs.Common.{ℕ, List, Option, ap, subst, option_map}
use Rattle.jalibsuk.specs.Seen.{Seen}
use Rattle.store_model.specs.declared.call.Call.TheVariants.{Delete}
use Rattle.jalibsuk.specs.Told.{deleted_in}
use Rattle.jalibsuk.specs.Named.{name_of_handle}
use Rattle.jalibsuk.specs.Methods.{Calls}
use Rattle.jalibsuk.proofs.env.Env.delete.Goals as goal

pub returns : goal.returns
returns g c = record {
  calls = subst (λ (s : Seen g.row.D.Denot). Calls g.D.Disk.meaning deleted_in s.environment c.give.new.environment c.args.txn.now.session (option_map (λ n. Delete n c.args.key.now) (name_of_handle c.args.db.number s.names)) c.deleted_of.result) c.self.view_is
      (subst (λ (l : List (Option (List ℕ))). Calls g.D.Disk.meaning deleted_in c.self.inside.environment c.give.new.environment c.args.txn.now.session (option_map (λ n. Delete n c.args.key.now) (name_of_handle c.args.db.number l)) c.deleted_of.result) c.as_slice.ensures.value
      (c.give.result, c.give.ensures.gives _ c.delete-call.ensures, c.deleted_of.ensures));
  names = ap (λ (s : Seen g.row.D.Denot). s.names) c.self.view_is;
}
