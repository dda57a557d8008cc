use Rattle.std.proofs.Common.{◌<◌, length, arith}
use Rattle.record_map.proofs.RunLaws.{bound_read, no_run, none_counts, raised_runs, run_counts, run_found}
use Rattle.record_map.proofs.runs.Runs.count_name.Goals as goal

pub returns-in-None-clause-more : goal.returns-in-None-clause-more
returns-in-None-clause-more c = λ cells cell runs.
    none_counts c.args.self.now.lows.entries c.args.self.now.bounds.items cells c.args.name.now cell
    (no_run c.args.self.now.lows.entries c.args.name.now c.place_over.result c.in-None.is c.place_over.ensures) runs

pub returns-in-Some-checked_add-clause-same : goal.returns-in-Some-checked_add-clause-same
returns-in-Some-checked_add-clause-same c = λ cells runs.
    let lows = c.args.self.now.lows.entries in
    let bounds = c.args.self.now.bounds.items in
    let place = c.in-Some.place in
    let run = run_found lows c.args.name.now place c.place_over.result c.in-Some.is c.place_over.ensures in
    let inside : place < length bounds = c.requires run.low place run.there in
    raised_runs lows bounds place c.in-Some-checked_add.more cells inside
    (omega (arith, bound_read bounds place c.index.result.now inside c.index.ensures, c.in-Some-checked_add.ensures)) runs

pub returns-in-Some-checked_add-clause-more : goal.returns-in-Some-checked_add-clause-more
returns-in-Some-checked_add-clause-more c = λ cells cell runs.
    let lows = c.args.self.now.lows.entries in
    let bounds = c.args.self.now.bounds.items in
    let place = c.in-Some.place in
    let run = run_found lows c.args.name.now place c.place_over.result c.in-Some.is c.place_over.ensures in
    let inside : place < length bounds = c.requires run.low place run.there in
    run_counts lows bounds place c.in-Some-checked_add.more cells c.args.name.now cell inside
    (omega (arith, bound_read bounds place c.index.result.now inside c.index.ensures, c.in-Some-checked_add.ensures)) run runs
