use Rattle.std.proofs.Common.{◌≡◌, ℕ, ap₂, sym, subst}
use Rattle.std.specs.Prelude.{IfOk}
use Rattle.log_entry.specs.declared.entry.Entry.{Entry}
use Rattle.log_entry.specs.Body.{IsEntry}
use Rattle.log_trees.specs.Placed.{Placed}
use Rattle.file_use.specs.Live.{is_one_of, live_size}
use Rattle.recovery_je.specs.Using.{is_stored_from}
use Rattle.recovery_je.proofs.live_entries.live_size_at.Goals as goal

pub live_size-requires : goal.live_size-requires
live_size-requires g c = subst IsEntry (sym (c.in_ok-entry.ensures c.requires.0 c.requires.1)) c.requires.2

pub returns : goal.returns
returns g c e has =
    subst (λ (p : Placed). IfOk c.live_size.result (λ size. size ≡ live_size (is_stored_from (g.T.Loads.stored c.args.trees.now)) (is_one_of c.args.images.now.keys) p))
    (ap₂ (λ (n : ℕ) (k : Entry). let p : Placed = (n, k) in p) c.new.ensures (c.in_ok-entry.ensures e has)) c.live_size.ensures
