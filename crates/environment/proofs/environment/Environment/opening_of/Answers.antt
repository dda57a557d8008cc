use Rattle.std.proofs.Common.{◌∙◌, sym}
use Rattle.in_tree.specs.Observed.{cells_of}
use Rattle.txn_core.specs.Known.{committed}
use Rattle.environment.proofs.CursorLaws.{open_absent, open_taken, open_opens, place_found, none_found}
use Rattle.environment.proofs.LateLaws.{absent_by}
use Rattle.environment.proofs.environment.Environment.opening_of.Goals as goal

pub returns-in_default : goal.returns-in_default
returns-in_default g c = λ most st at early.
    let v = at.valid (sym at.fault ∙ c.requires.valid) in
    open_absent st c.args.session c.args.cursor c.args.db.now early (absent_by (committed (cells_of c.args.self.now.engine.trees)) st v.makes c.args.db.now c.in_ok-found.field-0 c.in_ok-found.ensures.seen c.in_default.is)

pub returns-then-is_some : goal.returns-then-is_some
returns-then-is_some g c = λ most st at early.
    let v = at.valid (sym at.fault ∙ c.requires.valid) in
    open_taken st c.args.session c.args.cursor c.args.db.now early (committed (cells_of c.args.self.now.engine.trees)) v.makes c.in_ok-found.field-0 c.in-Some.found c.in_ok-found.ensures.exact c.in_ok-found.ensures.seen c.in-Some.is
    (place_found c.cursor.result _ _ (c.cursor.ensures.place st at.sessions_at) c.is_some.ensures ∙ c.if-is_some.true)

pub returns : goal.returns
returns g c = λ most st at early.
    let v = at.valid (sym at.fault ∙ c.requires.valid) in
    open_opens st c.args.session c.args.cursor c.args.db.now early (committed (cells_of c.args.self.now.engine.trees)) v.makes c.in_ok-found.field-0 c.in-Some.found c.in_ok-found.ensures.exact c.in_ok-found.ensures.seen c.in-Some.is
    c.in_ok-name.name c.in_ok-name.ensures
    (none_found _ (place_found c.cursor.result _ _ (c.cursor.ensures.place st at.sessions_at) c.is_some.ensures ∙ c.if-is_some.false))
