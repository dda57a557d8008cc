use Rattle.std.proofs.Common.{ap, subst, ◌∙◌, List}
use Rattle.std.specs.List.{list_all}
use Rattle.script_text.specs.Grammar.{is_line}
use Rattle.store_model.specs.declared.plan.ScriptLine.{ScriptLine}
use Rattle.script_run.proofs.LoadRuns.{load_of}
use Rattle.script_run.specs.Pauses.{HasLinesUntil}
use Rattle.script_run.specs.declared.pause.Pause.TheVariants.{AtRefusal}
use Rattle.je_program.proofs.LoadLaws.{all_given, loads_are_lines, none_loaded, rests_so, runs_so}
use Rattle.je_program.proofs.loading.give_lines.Goals as goal

pub run_until-requires-clause-lines : goal.run_until-requires-clause-lines
run_until-requires-clause-lines g c =
    ap (list_all is_line) c.in-Ok.ensures ∙ loads_are_lines c.args.make c.args.db.now c.args.no_overwrite c.args.dump

pub returns-in-Ok-clause-run : goal.returns-in-Ok-clause-run
returns-in-Ok-clause-run g c = λ old before opening p start.
    let r = c.run_until in
    runs_so g.D.Disk.meaning old before opening p c.args.environment r.result start (r.ensures.goes_on p start.begins) (r.ensures.calm p start.begins) (r.ensures.ended p start.begins) (r.ensures.ends p start.begins)
    r.ensures.given.given.none_stopped

pub returns-in-Ok-clause-load : goal.returns-in-Ok-clause-load
returns-in-Ok-clause-load g c = λ old before opening p start.
    let r = c.run_until in
    let under = r.ensures.goes_on p start.begins in
    load_of c.args.make c.args.db.now c.args.no_overwrite c.args.dump start.starts.alone_at p.st under.running.limits r.result start.starts.st_is under.running.answers (r.ensures.ends p start.begins)
    (subst (λ (l : List ScriptLine). HasLinesUntil (AtRefusal c.args.no_overwrite) r.result l) c.in-Ok.ensures r.ensures.given)

pub returns-in-Ok-clause-all : goal.returns-in-Ok-clause-all
returns-in-Ok-clause-all g c = λ memory none. all_given c.args.no_overwrite c.run_until.result c.in-Ok.lines.items c.run_until.ensures.given memory none ∙ c.in-Ok.ensures

pub returns-in-Err-clause-run : goal.returns-in-Err-clause-run
returns-in-Err-clause-run g c = λ old before opening p start.
    let a = c.at_rest in
    rests_so g.D.Disk.meaning old before opening p c.args.environment a.result start a.ensures.environment a.ensures.journal a.ensures.stopped

pub returns-in-Err-clause-load : goal.returns-in-Err-clause-load
returns-in-Err-clause-load g c = λ old before opening p start.
    none_loaded c.args.make c.args.db.now c.args.no_overwrite c.args.dump p.st start.starts.alone_at c.at_rest.result.recorded.journal.items start.starts.st_is c.at_rest.ensures.journal
