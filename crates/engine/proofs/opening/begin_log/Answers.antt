use Rattle.std.proofs.Common.{rules, ℕ, [], ◌∷◌, ◌++◌, None, ◌<◌, ◌^◌, IfOk, length, ap, sym, subst}
use Rattle.je_disk.specs.Moments.{now}
use Rattle.log_file.specs.Log.{Log, IsLog, entries_of}
use Rattle.log_buffer.specs.Buffer.{first_of}
use Rattle.log_buffer.specs.Crash.{Holds}
use Rattle.log_buffer.specs.Log.{HasLog}
use Rattle.log_replay.specs.declared.last_file.LastFile.{LastFile}
use Rattle.std.specs.declared.option.Option.{Option}
use Rattle.engine.specs.Opening.{StartsLog}
use Rattle.engine.proofs.OpenedLaws.{entries_begun}
use Rattle.engine.proofs.OpeningLaws.{first_log, resumes_at, some_end}
use Rattle.engine.proofs.opening.begin_log.Goals as goal

pub returns-in_default-clause-log : goal.returns-in_default-clause-log
returns-in_default-clause-log g c = λ log starts.
    let state = now (g.D.Disk.meaning.history c.args.disk) in
    let begins = subst (λ (t : Option LastFile). StartsLog g.D.Disk.meaning.observable state.reads t log) c.in_default.is starts in
    subst (λ (l : Log). IfOk c.create.result (λ buffer. HasLog g.D.Disk.meaning.observable state buffer l)) (sym begins.0) (c.create.ensures.log [] first_log begins.1)

pub returns-clause-log : goal.returns-clause-log
returns-clause-log g c = λ log starts.
    let state = now (g.D.Disk.meaning.history c.args.disk) in
    let last = c.in-Some.last in
    let begins = subst (λ (t : Option LastFile). StartsLog g.D.Disk.meaning.observable state.reads t log) c.in-Some.is starts in
    let small : last.end < 2 ^ 32 = search rules in
    let some = some_end last.end c.if-last-eq0.false in
    let ends = resumes_at log last c.new-end.result c.new-end.ensures small some begins.1 in
    c.resume.ensures.log log begins.0 ends (begins.2 some)

pub returns-in_default-clause-holds : goal.returns-in_default-clause-holds
returns-in_default-clause-holds g c = λ observed log starts crash_states.
    let state = now (g.D.Disk.meaning.history c.args.disk) in
    let begins = subst (λ (t : Option LastFile). StartsLog g.D.Disk.meaning.observable state.reads t log) c.in_default.is starts in
    subst (λ (l : Log). IfOk c.create.result (λ buffer. Holds l [] (length (entries_of l)) None (first_of buffer) state)) (sym begins.0) (c.create.ensures.holds observed [] first_log begins.1 crash_states)

pub returns-then-last-eq0-clause-holds : goal.returns-then-last-eq0-clause-holds
returns-then-last-eq0-clause-holds g c = λ observed log starts crash_states.
    let state = now (g.D.Disk.meaning.history c.args.disk) in
    let last = c.in-Some.last in
    let begins = subst (λ (t : Option LastFile). StartsLog g.D.Disk.meaning.observable state.reads t log) c.in-Some.is starts in
    let begun = begins.3 c.if-last-eq0.true in
    let is_log = subst (λ (l : Log). IsLog l) begun.1 begins.0 in
    subst (λ (l : Log). IfOk c.create-then-last-eq0.result (λ buffer. Holds l [] (length (entries_of l)) None (first_of buffer) state)) (sym begun.1)
    (subst (λ (n : ℕ). IfOk c.create-then-last-eq0.result (λ buffer. Holds (begun.0 ++ (last.file.0, []) ∷ []) [] n None (first_of buffer) state)) (sym (ap length (entries_begun begun.0 last.file.0)))
    (c.create-then-last-eq0.ensures.holds observed begun.0 is_log begun.2 crash_states))

pub returns-clause-holds : goal.returns-clause-holds
returns-clause-holds g c = λ observed log starts crash_states.
    let state = now (g.D.Disk.meaning.history c.args.disk) in
    let last = c.in-Some.last in
    let begins = subst (λ (t : Option LastFile). StartsLog g.D.Disk.meaning.observable state.reads t log) c.in-Some.is starts in
    let small : last.end < 2 ^ 32 = search rules in
    let some = some_end last.end c.if-last-eq0.false in
    let ends = resumes_at log last c.new-end.result c.new-end.ensures small some begins.1 in
    c.resume.ensures.holds observed log begins.0 ends (begins.2 some) crash_states

pub returns-then-last-eq0-clause-log : goal.returns-then-last-eq0-clause-log
returns-then-last-eq0-clause-log g c = λ log starts.
    let state = now (g.D.Disk.meaning.history c.args.disk) in
    let last = c.in-Some.last in
    let begins = subst (λ (t : Option LastFile). StartsLog g.D.Disk.meaning.observable state.reads t log) c.in-Some.is starts in
    let begun = begins.3 c.if-last-eq0.true in
    let is_log = subst (λ (l : Log). IsLog l) begun.1 begins.0 in
    subst (λ (l : Log). IfOk c.create-then-last-eq0.result (λ buffer. HasLog g.D.Disk.meaning.observable state buffer l)) (sym begun.1) (c.create-then-last-eq0.ensures.log begun.0 is_log begun.2)
