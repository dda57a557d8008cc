use Rattle.std.proofs.Common.{ℕ, ◌+◌, ◌≤◌, ap, Some, Option, drop, sym, subst, ◌∙◌, arith}
use Rattle.je_disk.specs.Moments.{now}
use Rattle.je_disk.specs.States.{content}
use Rattle.log_entry.proofs.BodyLaws.{body_small}
use Rattle.log_buffer.proofs.EntryReads.{encodes_size, head_len, not_whole}
use Rattle.log_buffer.proofs.fetching.size_at.Goals as goal

pub returns-then-not-branch-clause-found : goal.returns-then-not-branch-clause-found
returns-then-not-branch-clause-found g c =
    λ entry observed encodes.
    let size = encodes_size (drop c.args.at (content (now (g.D.Disk.meaning.history c.args.disk.now)).reads c.args.f.0)) entry encodes in
    absurd (not_whole c.in_ok-fill.field-0 14 _ (c.in_ok-fill.ensures.whole observed) c.if-not-branch.true (omega arith))

pub returns-clause-found : goal.returns-clause-found
returns-clause-found g c =
    λ entry observed encodes.
    let len = head_len (drop c.args.at (content (now (g.D.Disk.meaning.history c.args.disk.now)).reads c.args.f.0)) c.fill.new.into entry (c.in_ok-fill.ensures.bytes observed c.if-not-branch.false) encodes in
    let most = body_small entry encodes.is_entry in
    c.size_by.ensures.within (subst (λ (n : ℕ). n ≤ 20000004) (sym len) most) ∙ ap (λ (n : ℕ). let o : Option ℕ = Some (14 + n) in o) len
