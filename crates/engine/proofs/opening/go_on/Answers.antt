use Rattle.std.proofs.Common.{◌≡◌, ◌∙◌, Bool, true, refl, ap, sym, subst}
use Rattle.je_disk.specs.Moments.{History, now}
use Rattle.je_disk.specs.States.{Files}
use Rattle.log_buffer.specs.Buffer.{disk_of}
use Rattle.crash_recovery.specs.Opening.{found_log}
use Rattle.db_names.specs.declared.db_names.DbNames.{DbNames}
use Rattle.db_names.specs.Names.{HasNames, names_in}
use Rattle.index_map.specs.declared.index_map.IndexMap.{IndexMap}
use Rattle.index_map.specs.Made.{made_in}
use Rattle.index_map.specs.Map.{HasIndexes}
use Rattle.record_tree.specs.Stored.{values_of}
use Rattle.in_tree.specs.Whole.{stored_within}
use Rattle.engine.specs.Crash.{KeepsEntry}
use Rattle.engine.specs.Opening.{HasTornTailCut, StartsLog, WasRead}
use Rattle.engine.proofs.EntryLaws.{entry_none, entry_settled}
use Rattle.engine.proofs.ObservedLaws.{of_observed}
use Rattle.engine.proofs.OpenedLaws.{bound_found, engine_keeps, engine_names, engine_opened, engine_opened_safely, files_read, fit_read, more_left, no_numbers, on_ok_not_err}
use Rattle.engine.proofs.OpeningLaws.{starts_log}
use Rattle.engine.proofs.opening.go_on.Goals as goal

pub returns-in-Ok-begin_log-clause-opened : goal.returns-in-Ok-begin_log-clause-opened
returns-in-Ok-begin_log-clause-opened g c = λ reads w same.
    let meaning = g.D.Disk.meaning in
    let read = c.args.read in
    let state = now (meaning.history c.settle.new.disk) in
    let engine = c.begin.result.engine in
    let settles : meaning.observable ≡ true → HasTornTailCut reads state.reads read.tail = λ t.
    subst (λ (f : Files). HasTornTailCut f state.reads read.tail) (same t)
    (on_ok_not_err c.settle.result (HasTornTailCut (now (meaning.history c.args.disk)).reads state.reads read.tail) (sym c.is_err.ensures.value ∙ c.if-is_err.false) (c.settle.ensures.settled t)) in
    let starts = starts_log meaning.observable reads state.reads w.held read.tail (files_read meaning.observable reads read w) w.are settles in
    engine_opened c.args.file_max meaning.observable reads state (now (meaning.history (disk_of engine.trees.log))) read w c.in-Some.last_node c.in-Ok-begin_log.log engine c.begin.result.opening
    (ap (λ d. now (meaning.history d)) (ap disk_of c.begin.ensures.begun.log_is ∙ c.in-Ok-begin_log.ensures.disk)) c.begin.ensures.opening
    (record { has = c.in-Ok-begin_log.ensures.log (found_log 0 w.held) starts; end = c.in-Ok-begin_log.ensures.end; file_max = c.in-Ok-begin_log.ensures.file_max; works = c.in-Ok-begin_log.ensures.works })
    c.begin.ensures.begun (bound_found read c.in-Some.last_node (fit_read read (more_left read.trees c.last_node.result c.last_node.ensures c.if-last_node-ge-LAST_NODE.false)) c.requires.waits c.in-Some.ensures)

pub returns-in-Ok-begin_log-clause-crash : goal.returns-in-Ok-begin_log-clause-crash
returns-in-Ok-begin_log-clause-crash g c = λ observed reads w_ same.
    let meaning = g.D.Disk.meaning in
    let read = c.args.read in
    let state = now (meaning.history c.settle.new.disk) in
    let engine = c.begin.result.engine in
    let w : WasRead true reads read = subst (λ (t : Bool). WasRead t reads read) observed w_ in
    let log = found_log 0 w.held in
    let settles : HasTornTailCut reads state.reads read.tail =
    subst (λ (f : Files). HasTornTailCut f state.reads read.tail) same
    (on_ok_not_err c.settle.result (HasTornTailCut (now (meaning.history c.args.disk)).reads state.reads read.tail) (sym c.is_err.ensures.value ∙ c.if-is_err.false) (c.settle.ensures.settled observed)) in
    let stable = on_ok_not_err c.settle.result _ (sym c.is_err.ensures.value ∙ c.if-is_err.false) (c.settle.ensures.stable observed) in
    let starts : StartsLog meaning.observable state.reads read.tail log =
    subst (λ (t : Bool). StartsLog t state.reads read.tail log) (sym observed) (starts_log true reads state.reads w.held read.tail (files_read true reads read w) w.are (λ t. settles)) in
    engine_opened_safely c.args.file_max reads (meaning.history c.settle.new.disk) (meaning.history (disk_of engine.trees.log)) read w c.in-Some.last_node c.in-Ok-begin_log.log engine c.begin.result.opening
    (ap (λ d. meaning.history d) (ap disk_of c.begin.ensures.begun.log_is ∙ c.in-Ok-begin_log.ensures.disk)) c.begin.ensures.opening
    (record { has = of_observed meaning.observable state c.in-Ok-begin_log.log log observed (c.in-Ok-begin_log.ensures.log log starts); end = c.in-Ok-begin_log.ensures.end; file_max = c.in-Ok-begin_log.ensures.file_max; works = c.in-Ok-begin_log.ensures.works })
    c.begin.ensures.begun (bound_found read c.in-Some.last_node (fit_read read (more_left read.trees c.last_node.result c.last_node.ensures c.if-last_node-ge-LAST_NODE.false)) c.requires.waits c.in-Some.ensures) stable (c.in-Ok-begin_log.ensures.holds observed log starts stable)

pub returns-in-Ok-begin_log-clause-entry : goal.returns-in-Ok-begin_log-clause-entry
returns-in-Ok-begin_log-clause-entry g c = λ observed reads w_ same.
    let meaning = g.D.Disk.meaning in
    let read = c.args.read in
    let w : WasRead true reads read = subst (λ (t : Bool). WasRead t reads read) observed w_ in
    subst (λ (h : History). KeepsEntry (meaning.history c.args.disk) h) (ap (λ d. meaning.history d) (sym (ap disk_of c.begin.ensures.begun.log_is ∙ c.in-Ok-begin_log.ensures.disk)))
    (entry_settled (meaning.history c.args.disk) (meaning.history c.settle.new.disk) reads w.held read.tail (files_read true reads read w) (w.are refl) same (c.settle.ensures.moments observed))

pub returns-then-is_err-clause-stopped_entry : goal.returns-then-is_err-clause-stopped_entry
returns-then-is_err-clause-stopped_entry g c = λ observed reads w_ same.
    let meaning = g.D.Disk.meaning in
    let read = c.args.read in
    let w : WasRead true reads read = subst (λ (t : Bool). WasRead t reads read) observed w_ in
    entry_settled (meaning.history c.args.disk) (meaning.history c.settle.new.disk) reads w.held read.tail (files_read true reads read w) (w.are refl) same (c.settle.ensures.moments observed)

pub returns-in-Err-clause-stopped_entry : goal.returns-in-Err-clause-stopped_entry
returns-in-Err-clause-stopped_entry g c = λ observed reads w_ same.
    let meaning = g.D.Disk.meaning in
    let read = c.args.read in
    let w : WasRead true reads read = subst (λ (t : Bool). WasRead t reads read) observed w_ in
    subst (λ (h : History). KeepsEntry (meaning.history c.args.disk) h) (ap (λ d. meaning.history d) (sym c.in-Err.ensures.handed_back))
    (entry_settled (meaning.history c.args.disk) (meaning.history c.settle.new.disk) reads w.held read.tail (files_read true reads read w) (w.are refl) same (c.settle.ensures.moments observed))

pub returns-in_default-clause-stopped_entry : goal.returns-in_default-clause-stopped_entry
returns-in_default-clause-stopped_entry g c = λ observed reads w same. entry_none (g.D.Disk.meaning.history c.args.disk)

pub returns-then-last_node-ge-LAST_NODE-clause-stopped_entry : goal.returns-then-last_node-ge-LAST_NODE-clause-stopped_entry
returns-then-last_node-ge-LAST_NODE-clause-stopped_entry g c = λ observed reads w same. entry_none (g.D.Disk.meaning.history c.args.disk)

pub returns-in_default-clause-stopped : goal.returns-in_default-clause-stopped
returns-in_default-clause-stopped g c = λ reads w observed. no_numbers reads c.args.read (subst (λ (t : Bool). WasRead t reads c.args.read) observed w) c.in_default.ensures

pub returns-in-Ok-begin_log-clause-indexes : goal.returns-in-Ok-begin_log-clause-indexes
returns-in-Ok-begin_log-clause-indexes g c = λ reads w same.
    let meaning = g.D.Disk.meaning in
    let read = c.args.read in
    let state = now (meaning.history c.settle.new.disk) in
    let engine = c.begin.result.engine in
    let settles : meaning.observable ≡ true → HasTornTailCut reads state.reads read.tail = λ t.
    subst (λ (f : Files). HasTornTailCut f state.reads read.tail) (same t)
    (on_ok_not_err c.settle.result (HasTornTailCut (now (meaning.history c.args.disk)).reads state.reads read.tail) (sym c.is_err.ensures.value ∙ c.if-is_err.false) (c.settle.ensures.settled t)) in
    let starts = starts_log meaning.observable reads state.reads w.held read.tail (files_read meaning.observable reads read w) w.are settles in
    engine_keeps c.args.file_max meaning.observable reads state read w c.in-Some.last_node c.in-Ok-begin_log.log engine
    (record { has = c.in-Ok-begin_log.ensures.log (found_log 0 w.held) starts; end = c.in-Ok-begin_log.ensures.end; file_max = c.in-Ok-begin_log.ensures.file_max; works = c.in-Ok-begin_log.ensures.works })
    c.begin.ensures.begun (bound_found read c.in-Some.last_node (fit_read read (more_left read.trees c.last_node.result c.last_node.ensures c.if-last_node-ge-LAST_NODE.false)) c.requires.waits c.in-Some.ensures)
    (λ distinct. subst (λ (m : IndexMap). HasIndexes (made_in (values_of (stored_within read.trees 0))) m) (sym c.begin.ensures.indexes) (c.in-Ok.ensures distinct))

pub returns-in-Ok-begin_log-clause-names : goal.returns-in-Ok-begin_log-clause-names
returns-in-Ok-begin_log-clause-names g c = engine_names c.args.read c.in-Some.last_node c.in-Ok-begin_log.log c.begin.result.engine c.begin.ensures.begun
    (subst (λ (m : DbNames). HasNames (names_in (values_of (stored_within c.args.read.trees 0))) m) (sym c.begin.ensures.names) c.in-Ok-read.ensures)

pub returns-in_default-read-clause-stopped_entry : goal.returns-in_default-read-clause-stopped_entry
returns-in_default-read-clause-stopped_entry g c = λ observed reads w same. entry_none (g.D.Disk.meaning.history c.args.disk)

pub returns-in_default-read-2-clause-stopped_entry : goal.returns-in_default-read-2-clause-stopped_entry
returns-in_default-read-2-clause-stopped_entry g c = λ observed reads w same. entry_none (g.D.Disk.meaning.history c.args.disk)
