use Rattle.std.proofs.Common.{ℕ, List, Option, ap, subst, option_map}
use Rattle.jalibsuk.specs.Seen.{Seen}
use Rattle.store_model.specs.declared.call.Call.TheVariants.{Put}
use Rattle.store_model.specs.declared.put_mode.PutMode.TheVariants.{Overwrite}
use Rattle.jalibsuk.specs.Told.{done_in}
use Rattle.jalibsuk.specs.Named.{name_of_handle}
use Rattle.jalibsuk.specs.Methods.{CallsNow}
use Rattle.jalibsuk.proofs.env.Env.put_now.Goals as goal

pub returns : goal.returns
returns g c = record {
  calls = subst (λ (s : Seen g.row.D.Denot). CallsNow g.D.Disk.meaning done_in s.environment c.give_now.new.environment (option_map (λ n. Put n c.args.key.now c.args.«data».now Overwrite) (name_of_handle c.args.db.number s.names)) c.done_of.result) c.self.view_is
      (subst (λ (l : List (Option (List ℕ))). CallsNow g.D.Disk.meaning done_in c.self.inside.environment c.give_now.new.environment (option_map (λ n. Put n c.args.key.now c.args.«data».now Overwrite) (name_of_handle c.args.db.number l)) c.done_of.result) c.as_slice.ensures.value
      (c.give_now.result, c.give_now.ensures.gives _ c.put-call.ensures, c.done_of.ensures));
  names = ap (λ (s : Seen g.row.D.Denot). s.names) c.self.view_is;
}
