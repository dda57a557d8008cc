use Rattle.std.proofs.Common.{◌≡◌, ℕ, List, length, sym, subst, drop, take, arith}
use Rattle.je_disk.specs.Moments.{now}
use Rattle.je_disk.specs.States.{content}
use Rattle.log_buffer.specs.Log.{Encodes}
use Rattle.log_buffer.proofs.EntryReads.{encodes_size, encodes_taken, not_whole}
use Rattle.log_buffer.proofs.fetching.entry_into.Goals as goal

pub returns-then-not-branch-clause-found : goal.returns-then-not-branch-clause-found
returns-then-not-branch-clause-found g c =
    λ entry observed is encodes.
    let size = encodes_size (drop c.args.at (content (now (g.D.Disk.meaning.history c.args.disk.now)).reads c.args.f.0)) entry encodes in
    absurd (not_whole c.in_ok-fill.field-0 _ _ (c.in_ok-fill.ensures.whole observed) c.if-not-branch.true (omega (arith, is)))

pub returns-clause-found : goal.returns-clause-found
returns-clause-found g c =
    λ entry observed is encodes.
    let bytes = drop c.args.at (content (now (g.D.Disk.meaning.history c.args.disk.now)).reads c.args.f.0) in
    let filled : c.fill.new.into ≡ take (length c.args.piece.now) bytes = c.in_ok-fill.ensures.bytes observed c.if-not-branch.false in
    c.in_ok-found.ensures entry (subst (λ (x : List ℕ). Encodes x entry) (sym filled) (encodes_taken bytes (length c.args.piece.now) entry is encodes))
