use Rattle.std.proofs.Common.{◌∙◌, sym, subst}
use Rattle.in_tree.specs.Observed.{cells_of}
use Rattle.txn_core.specs.Known.{committed}
use Rattle.db_catalog.specs.declared.found_db.FoundDb.{FoundDb}
use Rattle.environment.specs.Valid.{made_at}
use Rattle.environment.proofs.EarlyLaws.{IsCalmRefusal}
use Rattle.environment.proofs.LateLaws.{calm_in, may_wait_at}
use Rattle.environment.proofs.SpotLaws.{spot_closed, spot_ended, spot_refused, spot_stands}
use Rattle.environment.proofs.environment.Environment.late_at.Goals as goal

pub returns-then-lacks_number : goal.returns-then-lacks_number
returns-then-lacks_number g c = λ most st here sound.
    let v = here.valid (sym here.fault ∙ c.requires.valid) in
    spot_ended (committed (cells_of c.args.self.now.engine.trees)) st v.makes c.args.session c.args.cursor c.args.call.now c.requires.call (sym (c.lacks_number.ensures most st here) ∙ c.if-lacks_number.true)

pub returns-in-None : goal.returns-in-None
returns-in-None g c = λ most st here sound.
    let v = here.valid (sym here.fault ∙ c.requires.valid) in
    spot_closed (committed (cells_of c.args.self.now.engine.trees)) st v.makes c.args.session c.args.cursor c.args.call.now c.requires.call (sym (c.lacks_number.ensures most st here) ∙ c.if-lacks_number.false)
    (sym (c.in-None.ensures.place st here.sessions_at))

pub returns-in-Some-refusal_in : goal.returns-in-Some-refusal_in
returns-in-Some-refusal_in g c = λ most st here sound.
    let none = sym here.fault ∙ c.requires.valid in
    let v = here.valid none in
    let made = made_at st.numbers st.store in
    let spot : FoundDb = record { number = c.in-Some.opened.now.place.db; kind = c.in-Some.opened.now.kind } in
    let refuses = sym (c.refusal_in.ensures made (here.databases none).indexes_are) ∙ c.in-Some-refusal_in.is in
    spot_refused (committed (cells_of c.args.self.now.engine.trees)) st v.makes c.args.session c.args.cursor c.args.call.now c.requires.call c.in-Some.opened.now (c.in-Some.ensures.place st here.sessions_at)
    (c.in-Some.ensures.under st here.sessions_at) (sym (c.lacks_number.ensures most st here) ∙ c.if-lacks_number.false) c.in-Some-refusal_in.answer refuses
    (subst IsCalmRefusal refuses (calm_in made spot c.args.call.now (may_wait_at c.args.call.now c.args.cursor c.requires.call)))

pub returns-in_ok-spot_of-in-None-refusal_in : goal.returns-in_ok-spot_of-in-None-refusal_in
returns-in_ok-spot_of-in-None-refusal_in g c = λ most st here sound.
    let none = sym here.fault ∙ c.requires.valid in
    let v = here.valid none in
    spot_stands (committed (cells_of c.args.self.now.engine.trees)) st v.makes c.args.session c.args.cursor c.args.call.now c.requires.call c.in-Some.opened.now (c.in-Some.ensures.place st here.sessions_at)
    (c.in-Some.ensures.under st here.sessions_at) (sym (c.lacks_number.ensures most st here) ∙ c.if-lacks_number.false) sound
    (sym (c.refusal_in.ensures (made_at st.numbers st.store) (here.databases none).indexes_are) ∙ c.in-None-refusal_in.is) c.in_ok-spot_of-in-None-refusal_in.field-0 c.in_ok-spot_of-in-None-refusal_in.ensures
