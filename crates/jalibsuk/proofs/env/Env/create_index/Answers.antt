use Rattle.std.proofs.Common.{Some, subst}
use Rattle.store_model.specs.declared.call.Call.TheVariants.{CreateIndex}
use Rattle.jalibsuk.specs.Seen.{Seen}
use Rattle.jalibsuk.specs.Told.{done_in}
use Rattle.jalibsuk.specs.Methods.{CallsNow}
use Rattle.jalibsuk.proofs.env.Env.create_index.Goals as goal

pub returns-clause-calls : goal.returns-clause-calls
returns-clause-calls g c = λ is is_primary within. subst (λ (s : Seen g.row.D.Denot). CallsNow g.D.Disk.meaning done_in s.environment c.give_now.new.environment (Some (CreateIndex c.args.name.now (record { primary = c.args.primary.now; extract = c.args.extract }))) c.done_of.result)
    c.self.view_is (c.give_now.result, c.give_now.ensures.gives _ c.create_index-call.ensures, c.done_of.ensures)
