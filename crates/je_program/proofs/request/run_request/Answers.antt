use Rattle.std.proofs.Common.{refl, sym, ap}
use Rattle.std.specs.Prelude.{Some}
use Rattle.je_program.proofs.request.run_request.Goals as goal

pub returns-clause-is : goal.returns-clause-is
returns-clause-is g c =
    let p = c.in_ok-plan.ensures in
    record {
      runs = refl;
      file_max = ap (λ n. Some n) (sym c.config_of.ensures.file_max);
      config_is = c.config_of.ensures.is;
      read = (c.in_ok-plan.plan, p.read);
      are = λ opening. (c.in_ok-plan.plan, p.read, refl);
      each = p.lines;
      text_is = λ w. refl;
    }
