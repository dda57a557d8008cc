use Rattle.std.proofs.Common.{refl, subst}
use Rattle.je_answers.specs.Views.{needs_in}
use Rattle.environment.specs.declared.wrote.Wrote.TheVariants.{Full, NoNumbers, Failed}
use Rattle.environment.specs.Again.{HasWrittenAgain}
use Rattle.environment.proofs.AgainEnds.{failed_again, full_again, numbers_again, pushed_again}
use Rattle.environment.proofs.environment.Environment.end_again.Goals as goal

pub settle_again-requires : goal.settle_again-requires
settle_again-requires g c =
    let r = c.requires.written in
    record { written = (r.0, r.1, r.2, r.3, r.4, r.5, subst (HasWrittenAgain g.D.Disk.meaning r.1 r.0 c.args.self.now r.2 c.args.session c.args.txn c.args.level r.3 r.4 r.5 c.args.all) c.in-Done.is r.6) }

pub returns-in-Done-clause-comes : goal.returns-in-Done-clause-comes
returns-in-Done-clause-comes g c before most line st a asked t w moves =
    c.settle_again.ensures.comes before most line st a asked t (subst (HasWrittenAgain g.D.Disk.meaning most before c.args.self.now st c.args.session c.args.txn c.args.level a asked t c.args.all) c.in-Done.is w) moves

pub returns-in-Full-clause-comes : goal.returns-in-Full-clause-comes
returns-in-Full-clause-comes g c before most line st a asked t w moves =
    let full = subst (HasWrittenAgain g.D.Disk.meaning most before c.args.self.now st c.args.session c.args.txn c.args.level a asked t c.args.all) c.in-Full.is w in
    let pushed = pushed_again g.D.Disk.meaning most before c.args.self.now st c.args.session c.args.txn c.args.level a asked t c.args.all Full full c.args.self.now.sessions refl in
    full_again g.D.Disk.meaning most before c.args.self.now st c.args.session c.args.txn c.args.level a asked t c.args.all c.abandon.new.self c.take_back.new.sessions line c.told.result full (c.take_back.ensures a (needs_in st a asked t) full.pushed.more st full.its_txn full.its_level pushed) c.abandon.ensures c.told.ensures.answer c.told.ensures.victims

pub returns-in-NoNumbers-clause-comes : goal.returns-in-NoNumbers-clause-comes
returns-in-NoNumbers-clause-comes g c before most line st a asked t w moves =
    let none = subst (HasWrittenAgain g.D.Disk.meaning most before c.args.self.now st c.args.session c.args.txn c.args.level a asked t c.args.all) c.in-NoNumbers.is w in
    let pushed = pushed_again g.D.Disk.meaning most before c.args.self.now st c.args.session c.args.txn c.args.level a asked t c.args.all NoNumbers none c.args.self.now.sessions refl in
    numbers_again g.D.Disk.meaning most before c.args.self.now st c.args.session c.args.txn c.args.level a asked t c.args.all c.abandon-in-NoNumbers.new.self c.take_back-in-NoNumbers.new.sessions line c.told-in-NoNumbers.result none (c.take_back-in-NoNumbers.ensures a (needs_in st a asked t) none.pushed.more st none.its_txn none.its_level pushed) c.abandon-in-NoNumbers.ensures c.told-in-NoNumbers.ensures.answer c.told-in-NoNumbers.ensures.victims

pub returns-in-Failed-clause-comes : goal.returns-in-Failed-clause-comes
returns-in-Failed-clause-comes g c before most line st a asked t w moves =
    let failed = subst (HasWrittenAgain g.D.Disk.meaning most before c.args.self.now st c.args.session c.args.txn c.args.level a asked t c.args.all) c.in-Failed.is w in
    let pushed = pushed_again g.D.Disk.meaning most before c.args.self.now st c.args.session c.args.txn c.args.level a asked t c.args.all Failed failed c.args.self.now.sessions refl in
    failed_again g.D.Disk.meaning most before c.args.self.now st c.args.session c.args.txn c.args.level a asked t c.args.all c.undo_own.new.sessions line c.told-in-Failed.result failed (c.undo_own.ensures a (needs_in st a asked t) failed.pushed.more st failed.its_txn pushed) c.told-in-Failed.ensures.answer c.told-in-Failed.ensures.victims
