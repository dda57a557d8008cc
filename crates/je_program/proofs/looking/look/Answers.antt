use Rattle.std.proofs.Common.{sym, ◌∙◌}
use Rattle.std.proofs.lemmas.Bool.{eqb-false}
use Rattle.je_disk.specs.Moments.{now}
use Rattle.je_program.proofs.DumpLaws.{listed_some}
use Rattle.je_program.proofs.looking.look.Goals as goal

pub returns-in-Ok-clause-look : goal.returns-in-Ok-clause-look
returns-in-Ok-clause-look g c = λ observed. listed_some (now (g.D.Disk.meaning.history c.args.disk.now)).reads c.in-Ok.files.items
    (λ none. eqb-false _ 0 (sym c.is_empty.ensures ∙ c.if-is_empty.false) (c.in-Ok.files.ok.0 ∙ none)) (c.in-Ok.ensures.listed observed)
