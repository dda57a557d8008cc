use Rattle.std.proofs.Common.{ℕ, List, Option, ap, subst, true, option_map}
use Rattle.jalibsuk.specs.Seen.{Seen}
use Rattle.store_model.specs.declared.call.Call.TheVariants.{Get}
use Rattle.jalibsuk.specs.Told.{record_told}
use Rattle.jalibsuk.specs.Named.{name_of_handle}
use Rattle.jalibsuk.specs.Methods.{Calls}
use Rattle.jalibsuk.proofs.env.Env.get_for_update.Goals as goal

pub returns : goal.returns
returns g c = record {
  calls = subst (λ (s : Seen g.row.D.Denot). Calls g.D.Disk.meaning record_told s.environment c.give.new.environment c.args.txn.now.session (option_map (λ n. Get n c.args.key.now true) (name_of_handle c.args.db.number s.names)) c.found_of.result) c.self.view_is
      (subst (λ (l : List (Option (List ℕ))). Calls g.D.Disk.meaning record_told c.self.inside.environment c.give.new.environment c.args.txn.now.session (option_map (λ n. Get n c.args.key.now true) (name_of_handle c.args.db.number l)) c.found_of.result) c.as_slice.ensures.value
      (c.give.result, c.give.ensures.gives _ c.get-call.ensures, c.found_of.ensures));
  names = ap (λ (s : Seen g.row.D.Denot). s.names) c.self.view_is;
}
