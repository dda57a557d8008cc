use Rattle.std.proofs.Common.{◌∙◌, refl}
use Rattle.je_program.proofs.PlaceLaws.{place_known}
use Rattle.je_program.proofs.loading.place_for.Goals as goal

pub returns-then-keeps_otherwise : goal.returns-then-keeps_otherwise
returns-then-keeps_otherwise c = λ rows database is.
    let p = place_known c.args.dup c.args.databases rows database c.args.found c.in-Some.found c.keeps_otherwise.result c.in-Some.is c.if-found.false c.keeps_otherwise.ensures is in
    (p.0, p.1 ∙ c.if-keeps_otherwise.true, refl)

pub returns : goal.returns
returns c = λ rows database is.
    let p = place_known c.args.dup c.args.databases rows database c.args.found c.in-Some.found c.keeps_otherwise.result c.in-Some.is c.if-found.false c.keeps_otherwise.ensures is in
    (p.0, p.1 ∙ c.if-keeps_otherwise.false, p.2)
