use Rattle.std.proofs.Common.{◌∙◌, sym, subst}
use Rattle.in_tree.specs.Observed.{cells_of}
use Rattle.txn_core.specs.Known.{committed}
use Rattle.environment.specs.Valid.{made_at}
use Rattle.environment.proofs.EarlyLaws.{IsCalmRefusal}
use Rattle.environment.proofs.LateLaws.{late_number, late_absent, late_refuses, late_found, calm_in, may_wait}
use Rattle.environment.proofs.environment.Environment.late.Goals as goal

pub returns-then-lacks_number : goal.returns-then-lacks_number
returns-then-lacks_number g c = λ most st here.
    let v = here.valid (sym here.fault ∙ c.requires.valid) in
    late_number (committed (cells_of c.args.self.now.engine.trees)) st v.makes c.args.session c.args.call.now c.args.db.now c.requires.call (sym (c.lacks_number.ensures most st here) ∙ c.if-lacks_number.true)

pub returns-in_default : goal.returns-in_default
returns-in_default g c = λ most st here.
    let v = here.valid (sym here.fault ∙ c.requires.valid) in
    late_absent (committed (cells_of c.args.self.now.engine.trees)) st v.makes c.args.session c.args.call.now c.args.db.now c.requires.call (sym (c.lacks_number.ensures most st here) ∙ c.if-lacks_number.false)
    c.in_ok-found.field-0 c.in_ok-found.ensures.seen c.in_default.is

pub returns-in-Some-refusal_in : goal.returns-in-Some-refusal_in
returns-in-Some-refusal_in g c = λ most st here.
    let none = sym here.fault ∙ c.requires.valid in
    let v = here.valid none in
    let made = made_at st.numbers st.store in
    let refuses = sym (c.refusal_in.ensures made (here.databases none).indexes_are) ∙ c.in-Some-refusal_in.is in
    late_refuses (committed (cells_of c.args.self.now.engine.trees)) st v.makes c.args.session c.args.call.now c.args.db.now c.requires.call (sym (c.lacks_number.ensures most st here) ∙ c.if-lacks_number.false)
    c.in_ok-found.field-0 c.in-Some.found c.in_ok-found.ensures.seen c.in-Some.is c.in_ok-found.ensures.exact c.in-Some-refusal_in.answer refuses
    (subst IsCalmRefusal refuses (calm_in made c.in-Some.found c.args.call.now (may_wait c.args.call.now c.args.db.now c.requires.call)))

pub returns-in-None : goal.returns-in-None
returns-in-None g c = λ most st here.
    let none = sym here.fault ∙ c.requires.valid in
    let v = here.valid none in
    late_found (committed (cells_of c.args.self.now.engine.trees)) st v.makes c.args.session c.args.call.now c.args.db.now c.requires.call (sym (c.lacks_number.ensures most st here) ∙ c.if-lacks_number.false)
    c.in_ok-found.field-0 c.in-Some.found c.in_ok-found.ensures.exact c.in_ok-found.ensures.seen c.in-Some.is
    (sym (c.refusal_in.ensures (made_at st.numbers st.store) (here.databases none).indexes_are) ∙ c.in-None.is)
