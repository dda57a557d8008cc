use Rattle.std.proofs.Common.{◌≡◌, ◌∙◌, ap, ap₂, true, codes}
use Rattle.std.proofs.lemmas.Result.{IfOk-weaker}
use Rattle.clap.specs.Simple.{App, app_of, app_of_fields, new_app, on_top, with_subcommand}
use Rattle.clap.specs.declared.builder.command.Command.{Command}
use Rattle.clap.specs.declared.builder.command.Command.TheViews.{out-Command}
use Rattle.command_line.specs.Arguments.{dump_command, load_command, printlog_command, run_command, soak_command, verify_command}
use Rattle.command_line.proofs.arguments.jedb_command.Goals as goal

unnamed : (old new : Command) → out-Command new ≡ record (out-Command old) { no_binary_name = true } → app_of new ≡ on_top (λ s. record s { no_binary_name = true }) (app_of old)
unnamed old new e = ap app_of_fields e

wanting : (old new : Command) → out-Command new ≡ record (out-Command old) { subcommand_required = true } → app_of new ≡ on_top (λ s. record s { subcommand_required = true }) (app_of old)
wanting old new e = ap app_of_fields e

abbrev top : App
top = on_top (λ s. record s { no_binary_name = true; subcommand_required = true }) (new_app (codes "jedb"))

pub returns : goal.returns
returns c =
    let top_is : app_of c.subcommand_required-jedb.result ≡ top
    = wanting c.no_binary_name.result c.subcommand_required-jedb.result c.subcommand_required-jedb.ensures
    ∙ ap (on_top (λ s. record s { subcommand_required = true })) (unnamed c.new.result c.no_binary_name.result c.no_binary_name.ensures)
    ∙ ap (on_top (λ s. record s { no_binary_name = true; subcommand_required = true })) c.new.ensures.app in
    let first : app_of c.in_ok-subcommand.field-0 ≡ with_subcommand top run_command.top = c.in_ok-subcommand.ensures.shape c.in_ok-run_command.ensures.local ∙ ap₂ with_subcommand top_is (ap (λ (a : App). a.top) c.in_ok-run_command.ensures.app) in
    let second : app_of c.in_ok-subcommand-2.field-0 ≡ with_subcommand (with_subcommand top run_command.top) soak_command.top =
    c.in_ok-subcommand-2.ensures.shape c.in_ok-soak_command.ensures.local ∙ ap₂ with_subcommand first (ap (λ (a : App). a.top) c.in_ok-soak_command.ensures.app) in
    let third : app_of c.in_ok-subcommand-3.field-0 ≡ with_subcommand (with_subcommand (with_subcommand top run_command.top) soak_command.top) printlog_command.top =
    c.in_ok-subcommand-3.ensures.shape c.in_ok-folder_command.ensures.local ∙ ap₂ with_subcommand second (ap (λ (a : App). a.top) c.in_ok-folder_command.ensures.app) in
    let fourth : app_of c.in_ok-subcommand-4.field-0 ≡ with_subcommand (with_subcommand (with_subcommand (with_subcommand top run_command.top) soak_command.top) printlog_command.top) dump_command.top =
    c.in_ok-subcommand-4.ensures.shape c.in_ok-dump_command.ensures.local ∙ ap₂ with_subcommand third (ap (λ (a : App). a.top) c.in_ok-dump_command.ensures.app) in
    let fifth : app_of c.in_ok-subcommand-5.field-0 ≡ with_subcommand (with_subcommand (with_subcommand (with_subcommand (with_subcommand top run_command.top) soak_command.top) printlog_command.top) dump_command.top) load_command.top =
    c.in_ok-subcommand-5.ensures.shape c.in_ok-load_command.ensures.local ∙ ap₂ with_subcommand fourth (ap (λ (a : App). a.top) c.in_ok-load_command.ensures.app) in
    let sixth : app_of c.in_ok-subcommand-6.field-0 ≡ with_subcommand (with_subcommand (with_subcommand (with_subcommand (with_subcommand (with_subcommand top run_command.top) soak_command.top) printlog_command.top) dump_command.top) load_command.top) verify_command.top =
    c.in_ok-subcommand-6.ensures.shape c.in_ok-folder_command-2.ensures.local ∙ ap₂ with_subcommand fifth (ap (λ (a : App). a.top) c.in_ok-folder_command-2.ensures.app) in
    IfOk-weaker c.subcommand-7.result _ _ (λ made h. h.shape c.in_ok-folder_command-3.ensures.local ∙ ap₂ with_subcommand sixth (ap (λ (a : App). a.top) c.in_ok-folder_command-3.ensures.app)) c.subcommand-7.ensures
