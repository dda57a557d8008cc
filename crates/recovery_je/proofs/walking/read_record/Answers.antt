use Rattle.std.proofs.Common.{◌<◌, ◌∙◌, map, ap, sym, subst, Result, Err, arith}
use Rattle.std.specs.Prelude.{nat_lt}
use Rattle.std.proofs.lemmas.Bool.{cond-true, lt-ltb}
use Rattle.je_lsn.specs.declared.file_no.FileNo.{FileNo}
use Rattle.log_replay.specs.declared.corruption.Corruption.{Corruption}
use Rattle.log_trees.specs.Placed.{entry_at}
use Rattle.log_trees.specs.Walk.{Walk, record_by, nowhere}
use Rattle.recovery_je.specs.Walking.{IsWalking, GoesOn}
use Rattle.recovery_je.proofs.walking.read_record.Goals as goal

pub returns-in-Some-clause-walk : goal.returns-in-Some-clause-walk
returns-in-Some-clause-walk g c walk at =
    let files = map (λ (f : FileNo). f.0) c.args.files.now in
    let es = c.args.entries.now in
    let after = c.put_given-put.new.walking in
    let low = c.as_u64.ensures in
    let high = c.as_u64-2.ensures in
    let below = c.if-as_u64.false in
    let lt : c.args.lsn < c.args.at = omega (arith, low, high, below) in
    subst (λ (r : Result Walk Corruption). GoesOn r (IsWalking (g.T.Loads.stored after.trees) after.seen.keys after.node after.db) c.put_given-put.result)
    (ap (record_by files c.args.d (c.args.name.now, c.args.lsn) walk) (sym c.in-Some.is ∙ c.in_ok-entry.ensures)
    ∙ sym (cond-true (nat_lt c.args.lsn c.args.at) (record_by files c.args.d (c.args.name.now, c.args.lsn) walk (entry_at es c.args.lsn)) (Err (nowhere files c.args.lsn)) (lt-ltb c.args.lsn c.args.at lt)))
    (c.put_given-put.ensures.walk files walk at)
