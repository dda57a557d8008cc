use Rattle.std.proofs.Common.{◌<◌, ◌∙◌, ℕ, Bool, true, false, cond, refl, ap, sym, subst, arith}
use Rattle.je_lsn.specs.Naming.{last_file}
use Rattle.log_buffer.specs.declared.log_pos.LogPos.{LogPos}
use Rattle.log_buffer.specs.Flip.{goes_in, next_file, placed_at}
use Rattle.log_buffer.proofs.buffer.LogBuffer.next_pos.Goals as goal

-- an offset stays below a bound that no header reaches
placed_below : (bound max : ℕ) (end : LogPos) (size : ℕ) → 26 < bound → end.offset < bound → (placed_at max end size).offset < bound
placed_below bound max end size head low = by_case (goes_in max end.offset size)
  where
    by_case : (b : Bool) → (cond b end (next_file end)).offset < bound
    by_case true = low
    by_case false = head

pub returns-then-pos-gt-LAST_FILE-clause-full : goal.returns-then-pos-gt-LAST_FILE-clause-full
returns-then-pos-gt-LAST_FILE-clause-full g c =
    let old = c.args.self.now in
    let at = c.placed-pos.ensures ∙ ap (λ (p : LogPos). placed_at old.file_max p c.args.size) c.pos.ensures.end in
    λ works. (λ is. subst (λ (p : LogPos). last_file < p.file) at c.if-pos-gt-LAST_FILE.true, λ past. refl)

pub returns-clause-offset : goal.returns-clause-offset
returns-clause-offset g c =
    subst (λ (p : LogPos). p.offset < 4294967296) (sym c.placed-pos.ensures)
    (placed_below 4294967296 c.args.self.now.file_max c.pos.result c.args.size (omega arith) c.pos.ensures.bound)
