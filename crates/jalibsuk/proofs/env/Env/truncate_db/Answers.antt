use Rattle.std.proofs.Common.{◌∙◌, Some, ap, subst, sym, true≢false}
use Rattle.store_model.specs.declared.call.Call.TheVariants.{Truncate}
use Rattle.jalibsuk.specs.Seen.{Seen}
use Rattle.jalibsuk.specs.Told.{done_in}
use Rattle.jalibsuk.specs.Methods.{CallsNow}
use Rattle.jalibsuk.proofs.env.Env.truncate_db.Goals as goal

pub returns : goal.returns
returns g c = record {
  bad = λ is. absurd (true≢false (sym c.if-not-is_word.false ∙ c.is_word.ensures ∙ is));
  calls = λ is. subst (λ (s : Seen g.row.D.Denot). CallsNow g.D.Disk.meaning done_in s.environment c.give_now.new.environment (Some (Truncate c.args.name.now)) c.done_of.result)
      c.self.view_is (c.give_now.result, c.give_now.ensures.gives _ c.truncate-call.ensures, c.done_of.ensures);
  names = ap (λ (s : Seen g.row.D.Denot). s.names) c.self.view_is;
}
