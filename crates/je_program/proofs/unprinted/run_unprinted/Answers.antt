use Rattle.std.proofs.Common.{map, string_bytes, sym, subst, true≢false, ◌∙◌, Option, Some, List, ℕ}
use Rattle.je_disk.specs.Moments.{now}
use Rattle.command_line.specs.declared.command.Command.{Command}
use Rattle.command_line.specs.declared.command.Command.TheVariants.{Dump, PrintLog, Stat, Verify}
use Rattle.command_line.specs.Arguments.{command_in}
use Rattle.je_program.specs.Program.{IsNoRequest}
use Rattle.je_program.specs.Request.{IsLife, IsRequestOf}
use Rattle.je_program.specs.Unprinted.{ComesTo, work_of}
use Rattle.je_program.proofs.CommandLaws.{after_input, life_all, life_ends, life_found, life_front, life_gives, life_has, life_is_no_reading, life_may, life_names_none, life_needs_none, life_none, life_opens, life_placed, life_runs, life_stored, none_comes, past_reading, print_comes}
use Rattle.je_program.proofs.VerifyLaws.{verify_comes}
use Rattle.je_program.proofs.unprinted.run_unprinted.Goals as goal

pub returns-in-Ok-Life-clause-comes : goal.returns-in-Ok-Life-clause-comes
returns-in-Ok-Life-clause-comes g c =
    let command = command_in (map string_bytes c.args.args.now) in
    let p = c.run_plan.ensures in
    let r = c.run_plan.result in
    let left = g.S.Source.left c.args.input.now in
    let rest = g.S.Source.left c.read_request.new.input in
    let life : IsLife command left rest c.in-Ok-Life.config c.in-Ok-Life.plan.lines c.in-Ok-Life.text = subst (IsRequestOf command left rest) c.in-Ok-Life.field-0-is c.in-Ok-Life.ensures.is in
    let faults = g.S.Source.faults in
    let opens_it = life_opens command life.runs in
    let journal = r.journal.items in
    record {
      may = life_may command r.cause life.runs p.causes;
      stopped = past_reading left (faults c.args.input.now) (faults c.read_request.new.input) r.cause p.causes;
      read = λ after other. life.read;
      given = λ opened. record {
        lines = c.in-Ok-Life.plan.lines;
        are = life.are r.opening;
        all = λ gave. p.lines opened (life_all command r.cause life.runs gave);
        front = life_front command c.in-Ok-Life.plan.lines journal r.cause life.runs (record { each = p.front opened; steps = p.front_steps opened });
        none = λ other. absurd (true≢false (sym (life_gives command life.runs) ∙ other));
      };
      untouched = λ before. absurd (true≢false (sym before ∙ after_input r.cause p.causes));
      runs = life_runs command r.cause r.opened opens_it p.runs;
      run = λ opened. (let ran = p.run opened in (c.in-Ok-Life.config.file_max, ran.0, life.file_max, ran.1, life_stored command left rest r.opening ran.0 journal r.cause life.runs));
      unopened = p.unopened;
      unreadable = λ corruption is observed. life_found command (now (g.D.Disk.meaning.history c.args.disk)).reads corruption opens_it (p.unreadable corruption is observed);
      sound = λ is. life_is_no_reading command opens_it is;
      wrong_index = p.wrong_index;
      ids_ended = p.ids_ended;
      no_environment = λ is. life_none r.cause p.causes is;
      some_file = λ needs. life_needs_none command life.runs needs;
      no_database = λ is. life_names_none r.cause p.causes is;
      has_database = λ is. life_has command r.opening life.runs;
      placed = λ opened. life_placed command left rest r.opening r.cause life.runs;
      ends = λ opened other. life_ends r.journal.items r.cause p.causes (p.ends opened other);
      caused = p.caused;
      left_alone = p.left_alone;
      reads_only = λ closed. absurd (true≢false (sym opens_it ∙ closed));
      crash_unopened = p.crash_unopened;
      text_is = life.text_is (work_of g.D.Disk.meaning.observable (now (g.D.Disk.meaning.history c.args.disk)).reads (now (g.D.Disk.meaning.history r.disk)).reads r);
      source = c.in-Ok-Life.ensures.never_falls;
    }

pub returns-in-Ok-PrintLog-clause-comes : goal.returns-in-Ok-PrintLog-clause-comes
returns-in-Ok-PrintLog-clause-comes g c =
    let is = subst (IsRequestOf (command_in (map string_bytes c.args.args.now)) (g.S.Source.left c.args.input.now) (g.S.Source.left c.read_request.new.input)) c.in-Ok-PrintLog.field-0-is c.in-Ok-PrintLog.ensures.is in
    let p = c.print_log.ensures in
    let r = c.print_log.result.run in
    let text = c.print_log.result.text in
    let left = g.S.Source.left c.args.input.now in
    let faults = g.S.Source.faults in
    subst (λ (k : Option Command). ComesTo k g.D.Disk.meaning left (g.S.Source.left c.read_request.new.input) (faults c.args.input.now) (faults c.read_request.new.input) c.args.disk r text) (sym is.0)
    (subst (λ (o : Option (List ℕ)). ComesTo (Some PrintLog) g.D.Disk.meaning left o (faults c.args.input.now) (faults c.read_request.new.input) c.args.disk r text) (sym is.1)
    (print_comes g.D.Disk.meaning left (faults c.args.input.now) (faults c.read_request.new.input) c.args.disk r text c.in-Ok-PrintLog.ensures.never_falls p.cause p.printed p.opened p.journal p.opening p.untouched p.never_falls))

pub returns-in-Ok-Verify-clause-comes : goal.returns-in-Ok-Verify-clause-comes
returns-in-Ok-Verify-clause-comes g c =
    let is = subst (IsRequestOf (command_in (map string_bytes c.args.args.now)) (g.S.Source.left c.args.input.now) (g.S.Source.left c.read_request.new.input)) c.in-Ok-Verify.field-0-is c.in-Ok-Verify.ensures.is in
    let p = c.verify.ensures in
    let r = c.verify.result.run in
    let text = c.verify.result.text in
    let left = g.S.Source.left c.args.input.now in
    let faults = g.S.Source.faults in
    subst (λ (k : Option Command). ComesTo k g.D.Disk.meaning left (g.S.Source.left c.read_request.new.input) (faults c.args.input.now) (faults c.read_request.new.input) c.args.disk r text) (sym is.0)
    (subst (λ (o : Option (List ℕ)). ComesTo (Some Verify) g.D.Disk.meaning left o (faults c.args.input.now) (faults c.read_request.new.input) c.args.disk r text) (sym is.1)
    (verify_comes g.D.Disk.meaning left (faults c.args.input.now) (faults c.read_request.new.input) c.args.disk r text c.in-Ok-Verify.ensures.never_falls p.cause p.verified p.opened p.journal p.opening p.untouched p.never_falls))

pub returns-in-Ok-Stat-clause-comes : goal.returns-in-Ok-Stat-clause-comes
returns-in-Ok-Stat-clause-comes g c =
    let is = subst (IsRequestOf (command_in (map string_bytes c.args.args.now)) (g.S.Source.left c.args.input.now) (g.S.Source.left c.read_request.new.input)) c.in-Ok-Stat.field-0-is c.in-Ok-Stat.ensures.is in
    let r = c.stat.result.run in
    let text = c.stat.result.text in
    let left = g.S.Source.left c.args.input.now in
    let faults = g.S.Source.faults in
    subst (λ (k : Option Command). ComesTo k g.D.Disk.meaning left (g.S.Source.left c.read_request.new.input) (faults c.args.input.now) (faults c.read_request.new.input) c.args.disk r text) (sym is.0)
    (subst (λ (o : Option (List ℕ)). ComesTo (Some Stat) g.D.Disk.meaning left o (faults c.args.input.now) (faults c.read_request.new.input) c.args.disk r text) (sym is.1)
    (c.stat.ensures left (faults c.args.input.now) (faults c.read_request.new.input) c.in-Ok-Stat.ensures.never_falls))

pub returns-in-Ok-Dump-clause-comes : goal.returns-in-Ok-Dump-clause-comes
returns-in-Ok-Dump-clause-comes g c =
    let is = subst (IsRequestOf (command_in (map string_bytes c.args.args.now)) (g.S.Source.left c.args.input.now) (g.S.Source.left c.read_request.new.input)) c.in-Ok-Dump.field-0-is c.in-Ok-Dump.ensures.is in
    let r = c.dump.result.run in
    let text = c.dump.result.text in
    let left = g.S.Source.left c.args.input.now in
    let faults = g.S.Source.faults in
    subst (λ (k : Option Command). ComesTo k g.D.Disk.meaning left (g.S.Source.left c.read_request.new.input) (faults c.args.input.now) (faults c.read_request.new.input) c.args.disk r text) (sym is.0)
    (subst (λ (o : Option (List ℕ)). ComesTo (Some (Dump c.in-Ok-Dump.db c.in-Ok-Dump.printed)) g.D.Disk.meaning left o (faults c.args.input.now) (faults c.read_request.new.input) c.args.disk r text) (sym is.1)
    (c.dump.ensures left (faults c.args.input.now) (faults c.read_request.new.input) c.in-Ok-Dump.ensures.never_falls))

pub returns-in-Ok-Load-clause-comes : goal.returns-in-Ok-Load-clause-comes
returns-in-Ok-Load-clause-comes g c =
    let left = g.S.Source.left c.args.input.now in
    let rest = g.S.Source.left c.read_request.new.input in
    let is = subst (IsRequestOf (command_in (map string_bytes c.args.args.now)) left rest) c.in-Ok-Load.field-0-is c.in-Ok-Load.ensures.is in
    let faults = g.S.Source.faults in
    subst (λ (k : Option Command). ComesTo k g.D.Disk.meaning left rest (faults c.args.input.now) (faults c.read_request.new.input) c.args.disk c.load.result.run c.load.result.text) (sym is.0)
    (c.load.ensures left rest (faults c.args.input.now) (faults c.read_request.new.input) c.in-Ok-Load.ensures.never_falls is.1)

pub returns-in-Err-clause-comes : goal.returns-in-Err-clause-comes
returns-in-Err-clause-comes g c =
    let command = command_in (map string_bytes c.args.args.now) in
    let e = c.in-Err.ensures in
    let u = c.unopened.ensures in
    let left = g.S.Source.left c.args.input.now in
    let faults = g.S.Source.faults in
    none_comes g.D.Disk.meaning command left (g.S.Source.left c.read_request.new.input) (faults c.args.input.now) (faults c.read_request.new.input) c.args.disk c.unopened.result
    (subst (IsNoRequest command left (faults c.args.input.now) (faults c.read_request.new.input)) (sym u.cause) e.none) e.never_falls u.opened u.disk u.journal u.opening
