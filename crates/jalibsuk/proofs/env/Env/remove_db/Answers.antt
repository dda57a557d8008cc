use Rattle.std.proofs.Common.{Err, Some, inl, inr, refl, subst}
use Rattle.store_model.specs.declared.call.Call.TheVariants.{Remove}
use Rattle.jalibsuk.specs.declared.error.Error.TheVariants.{Memory}
use Rattle.jalibsuk.specs.Seen.{Seen}
use Rattle.jalibsuk.specs.Told.{done_in}
use Rattle.jalibsuk.specs.Methods.{CallsNow}
use Rattle.jalibsuk.proofs.env.Env.remove_db.Goals as goal

-- without memory for the new names nothing is called
pub returns-in_default-clause-calls : goal.returns-in_default-clause-calls
returns-in_default-clause-calls g c = λ is. (Err Memory, (_, Err Memory, inl (Memory, inr refl, refl, refl), (refl, refl)), refl)

pub returns-clause-calls : goal.returns-clause-calls
returns-clause-calls g c = λ is.
    subst (λ (s : Seen g.row.D.Denot). CallsNow g.D.Disk.meaning done_in s.environment c.give_renaming.new.environment (Some (Remove c.args.name.now)) c.give_renaming.result) c.self.view_is
    (c.give_renaming.ensures.calls _ c.remove-call.ensures)
