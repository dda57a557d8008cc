use Rattle.std.proofs.Common.{◌≡◌, ◌≤◌, ℕ, [], ◌∷◌, le_of_eq, arith, ap, sym, subst, ◌∙◌}
use Rattle.je_lsn.specs.Naming.{last_file}
use Rattle.log_entry.specs.Encoding.{size_of}
use Rattle.log_entry.specs.Parts.{entry_by}
use Rattle.log_buffer.specs.declared.log_pos.LogPos.{LogPos}
use Rattle.log_buffer.specs.Flip.{placed_at, pos_lsn}
use Rattle.log_buffer.specs.Buffer.{end_of, file_max_of}
use Rattle.log_buffer.proofs.GrowthLaws.{grew_then, tried_then, tried_failed}
use Rattle.log_buffer.proofs.FaultCauses.{cause_done, cause_memory, cause_refused, cause_err, err_is, fault_handed, not_full, not_memory}
use Rattle.log_buffer.proofs.buffer.LogBuffer.append_ref.Goals as goal

pub returns-clause-grew : goal.returns-clause-grew
returns-clause-grew g c = grew_then g.D.Disk.meaning _ _ _ (entry_by c.args.entry.now ∷ []) [] c.in_ok-put.ensures.grew c.in_ok-write_long.ensures.grew

pub returns-in_err-write_long-clause-tried : goal.returns-in_err-write_long-clause-tried
returns-in_err-write_long-clause-tried g c = λ fault. tried_then g.D.Disk.meaning _ _ _ (entry_by c.args.entry.now ∷ []) [] c.in_ok-put.ensures.grew c.in_err-write_long.ensures.tried

pub returns-in_err-put-clause-tried : goal.returns-in_err-put-clause-tried
returns-in_err-put-clause-tried g c = λ fault. absurd (let memory = err_is _ _ c.from_residual-in_err-put.ensures.1 in cc)

pub returns-in_err-pos-clause-tried : goal.returns-in_err-pos-clause-tried
returns-in_err-pos-clause-tried g c =
    let faults = g.D.Disk.meaning.faults c.args.self.now.disk in
    λ fault. tried_failed g.D.Disk.meaning c.args.self.now (entry_by c.args.entry.now ∷ []) ((cause_refused _ faults c.next_pos.result _ _ c.in_err-pos.was (err_is _ _ c.from_residual.ensures.1) c.next_pos.ensures.fault).failed.1 fault)

pub returns-clause-cause : goal.returns-clause-cause
returns-clause-cause g c =
    let same = ap (λ (d : g.row.D.Denot). g.D.Disk.meaning.faults d) c.put.ensures.disk in
    cause_done _ _ _ _ _ _ c.write_long.result _ _ c.in_ok-write_long.was c.put.ensures.failed same (c.write_long.ensures.cause (c.put.ensures.failed ∙ c.in_ok-pos.ensures.works))

pub returns-in_err-pos-clause-cause : goal.returns-in_err-pos-clause-cause
returns-in_err-pos-clause-cause g c = cause_refused _ _ c.next_pos.result _ _ c.in_err-pos.was (err_is _ _ c.from_residual.ensures.1) c.next_pos.ensures.fault

pub returns-in_err-put-clause-cause : goal.returns-in_err-put-clause-cause
returns-in_err-put-clause-cause g c =
    let works = c.in_ok-pos.ensures.works in
    let same = ap (λ (d : g.row.D.Denot). g.D.Disk.meaning.faults d) c.put.ensures.disk in
    cause_memory _ _ _ _ _ works (c.put.ensures.failed ∙ works) (le_of_eq (sym same)) (err_is _ _ c.from_residual-in_err-put.ensures.1)

pub returns-in_err-write_long-clause-cause : goal.returns-in_err-write_long-clause-cause
returns-in_err-write_long-clause-cause g c =
    let same = ap (λ (d : g.row.D.Denot). g.D.Disk.meaning.faults d) c.put.ensures.disk in
    cause_err _ _ _ _ _ _ c.write_long.result _ _ c.in_err-write_long.was (err_is _ _ c.from_residual-in_err-write_long.ensures.1) c.put.ensures.failed same (c.write_long.ensures.cause (c.put.ensures.failed ∙ c.in_ok-pos.ensures.works))

pub returns-in_err-write_long-clause-full : goal.returns-in_err-write_long-clause-full
returns-in_err-write_long-clause-full g c =
    let old = c.args.self.now in
    let e = (entry_by c.args.entry.now) in
    let at : c.in_ok-pos.pos ≡ placed_at (file_max_of old) (end_of old) (size_of e) =
    c.in_ok-pos.ensures.pos ∙ ap (λ (n : ℕ). placed_at old.file_max (end_of old) n) c.ref_size-size.ensures.value in
    let low = subst (λ (p : LogPos). p.file ≤ last_file) at c.in_ok-pos.ensures.file in
    let fault = fault_handed c.write_long.result _ c.from_residual-in_err-write_long.result c.write_long.ensures.by_fault c.in_err-write_long.was (err_is _ _ c.from_residual-in_err-write_long.ensures.1) in
    λ works. (λ is. not_full _ _ fault is, λ past. absurd (omega (arith, low, past)))

pub returns-in_err-write_long-clause-full_unchanged : goal.returns-in_err-write_long-clause-full_unchanged
returns-in_err-write_long-clause-full_unchanged g c = not_full _ _ (fault_handed c.write_long.result _ c.from_residual-in_err-write_long.result c.write_long.ensures.by_fault c.in_err-write_long.was (err_is _ _ c.from_residual-in_err-write_long.ensures.1))

pub returns-in_err-write_long-clause-memory_unchanged : goal.returns-in_err-write_long-clause-memory_unchanged
returns-in_err-write_long-clause-memory_unchanged g c = not_memory _ _ (fault_handed c.write_long.result _ c.from_residual-in_err-write_long.result c.write_long.ensures.by_fault c.in_err-write_long.was (err_is _ _ c.from_residual-in_err-write_long.ensures.1))

pub returns-in_err-write_long-clause-has_room : goal.returns-in_err-write_long-clause-has_room
returns-in_err-write_long-clause-has_room g c = λ sizes room. not_memory _ _ (fault_handed c.write_long.result _ c.from_residual-in_err-write_long.result c.write_long.ensures.by_fault c.in_err-write_long.was (err_is _ _ c.from_residual-in_err-write_long.ensures.1))

pub returns-clause-room : goal.returns-clause-room
returns-clause-room g c = λ sizes room. c.in_ok-write_long.ensures.room sizes (c.in_ok-put.ensures.room sizes room)

pub returns-clause-full : goal.returns-clause-full
returns-clause-full g c =
    let old = c.args.self.now in
    let e = (entry_by c.args.entry.now) in
    let at : c.in_ok-pos.pos ≡ placed_at (file_max_of old) (end_of old) (size_of e) =
    c.in_ok-pos.ensures.pos ∙ ap (λ (n : ℕ). placed_at old.file_max (end_of old) n) c.ref_size-size.ensures.value in
    let low = subst (λ (p : LogPos). p.file ≤ last_file) at c.in_ok-pos.ensures.file in
    λ works. (λ is. absurd cc, λ past. absurd (omega (arith, low, past)))

pub returns-clause-at : goal.returns-clause-at
returns-clause-at g c =
    let old = c.args.self.now in
    let e = (entry_by c.args.entry.now) in
    let at : c.in_ok-pos.pos ≡ placed_at (file_max_of old) (end_of old) (size_of e) =
    c.in_ok-pos.ensures.pos ∙ ap (λ (n : ℕ). placed_at old.file_max (end_of old) n) c.ref_size-size.ensures.value in
    c.new.ensures ∙ ap pos_lsn at
