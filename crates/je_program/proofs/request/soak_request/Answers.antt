use Rattle.std.proofs.Common.{◌∙◌, refl, sym, ap}
use Rattle.std.specs.Prelude.{Some}
use Rattle.std.specs.List.{list_all}
use Rattle.script_text.specs.Grammar.{is_line}
use Rattle.je_program.proofs.SoakLaws.{soak_lines}
use Rattle.je_program.proofs.request.soak_request.Goals as goal

pub returns-clause-is : goal.returns-clause-is
returns-clause-is c = λ left.
    let plan_is = c.in_ok-plan.ensures in
    record {
      runs = refl;
      file_max = ap (λ n. Some n) (sym c.config_of.ensures.file_max);
      config_is = c.config_of.ensures.is;
      read = refl;
      are = λ opening. plan_is;
      each = ap (list_all is_line) plan_is ∙ soak_lines c.args.seed;
      text_is = λ w. refl;
    }
