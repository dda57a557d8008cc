use Rattle.store_model.specs.declared.call.Call.TheVariants.{Open}
use Rattle.environment.proofs.environment.Environment.open_cursor.Goals as goal

pub open_unless-requires-clause-here : goal.open_unless-requires-clause-here
open_unless-requires-clause-here g c =
    (Open c.args.cursor c.args.db.now, c.requires.here.0, c.requires.here.1, c.requires.here.2, c.in_ok-to_open.ensures c.requires.here.0 c.requires.here.1 c.requires.here.2 c.requires.here.4)

pub returns : goal.returns
returns g c = record {
  performs = record {
    comes = λ most st line at sound early. c.open_unless.ensures.comes (Open c.args.cursor c.args.db.now) most st line at (c.in_ok-to_open.ensures most st at early);
    near = c.open_unless.ensures.near;
    bounds = c.open_unless.ensures.bounds;
    cause = c.open_unless.ensures.cause;
  };
}
