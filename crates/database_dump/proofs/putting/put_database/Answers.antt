use Rattle.std.proofs.Common.{Bool, ap, map}
use Rattle.log_replay.specs.Rows.{pair_of}
use Rattle.txn_core.specs.Known.{committed}
use Rattle.in_tree.specs.Whole.{seen_in}
use Rattle.dump_text.specs.Text.{dump_text}
use Rattle.text_out.proofs.BufferedText.{adds_same, adds_then}
use Rattle.database_dump.proofs.putting.put_database.Goals as goal

pub returns : goal.returns
returns g c =
    let pairs = map (pair_of c.args.kind) (committed (seen_in c.args.records.now) c.args.db) in
    adds_same (dump_text c.args.printed c.is_dup.result pairs) _ (ap (λ (dup : Bool). dump_text c.args.printed dup pairs) c.is_dup.ensures) (adds_then (adds_then c.put_header.ensures c.put_records.ensures) c.put_end.ensures)
