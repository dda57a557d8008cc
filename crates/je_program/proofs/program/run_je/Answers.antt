use Rattle.std.proofs.Common.{◌∙◌, sym, map, string_bytes, subst}
use Rattle.command_line.specs.Arguments.{command_in}
use Rattle.command_line.proofs.ValueLaws.{command_named}
use Rattle.je_program.specs.Untouched.{LeavesUnreadable}
use Rattle.je_program.proofs.CommandLaws.{came_bad, came_bad_dump, came_checked, came_findings, came_found, came_nothing, came_stopped, came_too_long, came_unparsed, came_usage, came_well, came_wrong}
use Rattle.je_program.proofs.program.run_je.Goals as goal

pub returns-clause-usage : goal.returns-clause-usage
returns-clause-usage g c = λ usage. (let args = map string_bytes c.args.args.now in sym (command_named args) ∙ came_usage (command_in args) c.run_unprinted-run.ensures.comes usage)

pub returns-clause-usage_found : goal.returns-clause-usage_found
returns-clause-usage_found g c = λ wrong. (let args = map string_bytes c.args.args.now in came_unparsed (command_in args) c.run_unprinted-run.ensures.comes (command_named args ∙ wrong))

pub returns-clause-causes : goal.returns-clause-causes
returns-clause-causes g c = c.run_unprinted-run.ensures.comes.may

pub returns-clause-too_long_found : goal.returns-clause-too_long_found
returns-clause-too_long_found g c = came_too_long (command_in (map string_bytes c.args.args.now)) c.run_unprinted-run.ensures.comes

pub returns-clause-bad_line_found : goal.returns-clause-bad_line_found
returns-clause-bad_line_found g c = came_bad (command_in (map string_bytes c.args.args.now)) c.run_unprinted-run.ensures.comes

pub returns-clause-bad_dump_found : goal.returns-clause-bad_dump_found
returns-clause-bad_dump_found g c = came_bad_dump (command_in (map string_bytes c.args.args.now)) c.run_unprinted-run.ensures.comes

pub returns-clause-unreadable_untouched : goal.returns-clause-unreadable_untouched
returns-clause-unreadable_untouched g c = λ corruption is observed.
    let a = c.run_unprinted-run in
    subst (λ why. LeavesUnreadable why (g.D.Disk.meaning.history c.args.disk) (g.D.Disk.meaning.history a.result.run.disk)) is (a.ensures.comes.left_alone observed)

pub returns-clause-wrong_index_untouched : goal.returns-clause-wrong_index_untouched
returns-clause-wrong_index_untouched g c = λ name is observed.
    let a = c.run_unprinted-run in
    subst (λ why. LeavesUnreadable why (g.D.Disk.meaning.history c.args.disk) (g.D.Disk.meaning.history a.result.run.disk)) is (a.ensures.comes.left_alone observed)

pub returns-clause-complete : goal.returns-clause-complete
returns-clause-complete g c = came_well (command_in (map string_bytes c.args.args.now)) c.run_unprinted-run.ensures.comes

pub returns-clause-unreadable_found : goal.returns-clause-unreadable_found
returns-clause-unreadable_found g c = came_found (command_in (map string_bytes c.args.args.now)) c.run_unprinted-run.ensures.comes

pub returns-clause-wrong_index_found : goal.returns-clause-wrong_index_found
returns-clause-wrong_index_found g c = came_wrong (command_in (map string_bytes c.args.args.now)) c.run_unprinted-run.ensures.comes

pub returns-clause-findings : goal.returns-clause-findings
returns-clause-findings g c = came_checked (command_in (map string_bytes c.args.args.now)) c.run_unprinted-run.ensures.comes

pub returns-clause-findings_found : goal.returns-clause-findings_found
returns-clause-findings_found g c = came_findings (command_in (map string_bytes c.args.args.now)) c.run_unprinted-run.ensures.comes

pub returns-clause-no_environment_found : goal.returns-clause-no_environment_found
returns-clause-no_environment_found g c = came_nothing (command_in (map string_bytes c.args.args.now)) c.run_unprinted-run.ensures.comes

pub returns-clause-written : goal.returns-clause-written
returns-clause-written g c = (_, c.run_unprinted-run.ensures.comes.text_is, rw c.deref.ensures.value at c.write_output-status.ensures.written)

pub returns-clause-ids_ended : goal.returns-clause-ids_ended
returns-clause-ids_ended g c = c.run_unprinted-run.ensures.comes.ids_ended

pub returns-clause-untouched : goal.returns-clause-untouched
returns-clause-untouched g c = c.run_unprinted-run.ensures.comes.untouched

pub returns-clause-read_whole : goal.returns-clause-read_whole
returns-clause-read_whole g c = c.run_unprinted-run.ensures.comes.read

pub returns-clause-unread : goal.returns-clause-unread
returns-clause-unread g c = c.run_unprinted-run.ensures.unread

pub returns-clause-runs : goal.returns-clause-runs
returns-clause-runs g c = c.run_unprinted-run.ensures.comes.runs

pub returns-clause-given : goal.returns-clause-given
returns-clause-given g c = c.run_unprinted-run.ensures.comes.given

pub returns-clause-run : goal.returns-clause-run
returns-clause-run g c = c.run_unprinted-run.ensures.comes.run

pub returns-clause-unopened : goal.returns-clause-unopened
returns-clause-unopened g c = c.run_unprinted-run.ensures.comes.unopened

pub returns-clause-ends : goal.returns-clause-ends
returns-clause-ends g c = c.run_unprinted-run.ensures.comes.ends

pub returns-clause-crash_unopened : goal.returns-clause-crash_unopened
returns-clause-crash_unopened g c = c.run_unprinted-run.ensures.comes.crash_unopened

pub returns-clause-unreadable : goal.returns-clause-unreadable
returns-clause-unreadable g c = c.run_unprinted-run.ensures.comes.unreadable

pub returns-clause-wrong_index : goal.returns-clause-wrong_index
returns-clause-wrong_index g c = c.run_unprinted-run.ensures.comes.wrong_index

pub returns-clause-no_environment : goal.returns-clause-no_environment
returns-clause-no_environment g c = c.run_unprinted-run.ensures.comes.no_environment

pub returns-clause-no_database : goal.returns-clause-no_database
returns-clause-no_database g c = c.run_unprinted-run.ensures.comes.no_database

pub returns-clause-placed : goal.returns-clause-placed
returns-clause-placed g c = c.run_unprinted-run.ensures.comes.placed

pub returns-clause-has_database : goal.returns-clause-has_database
returns-clause-has_database g c = c.run_unprinted-run.ensures.comes.has_database

pub returns-clause-no_environment_untouched : goal.returns-clause-no_environment_untouched
returns-clause-no_environment_untouched g c = λ is observed.
    let a = c.run_unprinted-run in
    subst (λ why. LeavesUnreadable why (g.D.Disk.meaning.history c.args.disk) (g.D.Disk.meaning.history a.result.run.disk)) is (a.ensures.comes.left_alone observed)

pub returns-clause-reads_only : goal.returns-clause-reads_only
returns-clause-reads_only g c = c.run_unprinted-run.ensures.comes.reads_only

pub returns-clause-input_failed : goal.returns-clause-input_failed
returns-clause-input_failed g c = λ is. came_stopped c.run_unprinted-run.ensures.comes is

pub returns-clause-input_too_long : goal.returns-clause-input_too_long
returns-clause-input_too_long g c = λ is. came_stopped c.run_unprinted-run.ensures.comes is

pub returns-clause-bad_script : goal.returns-clause-bad_script
returns-clause-bad_script g c = λ line is. came_stopped c.run_unprinted-run.ensures.comes is

pub returns-clause-bad_dump : goal.returns-clause-bad_dump
returns-clause-bad_dump g c = λ line is. came_stopped c.run_unprinted-run.ensures.comes is

pub returns-clause-disk_faults : goal.returns-clause-disk_faults
returns-clause-disk_faults g c = c.run_unprinted-run.ensures.comes.caused.never_falls

pub returns-clause-disk_failed : goal.returns-clause-disk_failed
returns-clause-disk_failed g c = c.run_unprinted-run.ensures.comes.caused.failed

pub returns-clause-faults : goal.returns-clause-faults
returns-clause-faults g c = c.run_unprinted-run.ensures.comes.caused.fault

pub returns-clause-input_faults : goal.returns-clause-input_faults
returns-clause-input_faults g c = c.run_unprinted-run.ensures.comes.source

pub returns-clause-output_faults : goal.returns-clause-output_faults
returns-clause-output_faults g c = c.write_output-status.ensures.never_falls
