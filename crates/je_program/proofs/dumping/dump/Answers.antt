use Rattle.std.proofs.Common.{◌≡◌, Some, ap, subst, true}
use Rattle.je_disk.specs.Moments.{now}
use Rattle.je_disk.specs.States.{State}
use Rattle.log_printer.specs.Reading.{HasNoFile}
use Rattle.command_line.specs.declared.command.Command.TheVariants.{Dump}
use Rattle.je_program.proofs.RestingLaws.{dump_opens_only, later_comes, look_comes}
use Rattle.je_program.proofs.dumping.dump.Goals as goal

pub returns-in-Some : goal.returns-in-Some
returns-in-Some g c = λ left before after later.
    let u = c.unopened.ensures in
    look_comes g.D.Disk.meaning (Some (Dump c.args.db.now c.args.printed)) (dump_opens_only c.args.db.now c.args.printed) left before after later c.args.disk c.unopened.result c.in-Some.cause c.look.new.disk c.in-Some.ensures.look
    c.in-Some.ensures.untouched c.in-Some.ensures.never_falls u.cause u.opened u.disk u.journal u.opening

pub returns-in-None : goal.returns-in-None
returns-in-None g c = λ left before after later.
    let meaning = g.D.Disk.meaning in
    let there : g.D.Disk.meaning.observable ≡ true → HasNoFile (now (meaning.history c.look.new.disk)).reads → ⊥ = λ observed none.
    c.in-None.ensures.look observed (subst HasNoFile (ap (λ (s : State). s.reads) (c.in-None.ensures.untouched observed).same) none) in
    later_comes g.D.Disk.meaning (Some (Dump c.args.db.now c.args.printed)) (dump_opens_only c.args.db.now c.args.printed) left before after later c.args.disk c.look.new.disk c.dump_opened.result.run c.dump_opened.result.text
    c.in-None.ensures.untouched c.in-None.ensures.never_falls (c.dump_opened.ensures left before after later there)
