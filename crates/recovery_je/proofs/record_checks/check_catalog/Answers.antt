use Rattle.std.proofs.Common.{◌≡◌, true, List, ℕ, ◌∷◌, ◌++◌, ◌+◌, map, drop, ap, sym, subst, ◌∙◌}
use Rattle.std.specs.Prelude.{IsTrue}
use Rattle.std.specs.List.{AllByRecursion}
use Rattle.je_order.specs.Words.{is_word}
use Rattle.je_order.specs.declared.name.Name.{Name}
use Rattle.je_order.proofs.Lists.{all_push}
use Rattle.record_tree.specs.Stored.{Stored, values_of}
use Rattle.log_replay.specs.Rows.{Row}
use Rattle.recovery_je.specs.Checking.{lsn_of}
use Rattle.recovery_je.specs.RecordChecks.{wrong_at}
use Rattle.recovery_je.proofs.PutLaws.{next_left}
use Rattle.recovery_je.proofs.RecordNotes.{is_left, right_noted, right_left, left_word, values_push}
use Rattle.recovery_je.proofs.record_checks.check_catalog.Goals as goal

pub loop-record-preserved : goal.loop-record-preserved
loop-record-preserved g c =
    let records = c.args.records.now in
    let all = values_of records in
    let i = c.loop-record.record-index in
    let s = c.record-item.result in
    let r : Row = (s.0, s.1.value) in
    let before = c.loop-record.before.items in
    let more = c.keep_record.new.before.items in
    let is : values_of (drop i records) ≡ r ∷ values_of (drop (i + 1) records) = ap values_of (next_left records i s c.loop-record-test.true c.record-item.is) in
    let right : is_left all before r ≡ true = ap (λ (l : List ℕ). is_left all l r) (sym c.deref.ensures.value) ∙ sym c.is_kept.ensures ∙ c.if-not-is_kept.false in
    let kept = c.in_ok-keep_record.ensures in
    record {
      noted = ap (λ l. c.loop-record.findings ++ map (wrong_at (lsn_of (g.T.Loads.stored c.args.trees.now)) 0) l) (right_noted all before more (values_of (drop i records)) (values_of (drop (i + 1) records)) r is right kept.before)
          ∙ c.loop-record.invariant.noted;
      kept = right_left all before more (values_of (drop i records)) (values_of (drop (i + 1) records)) r (values_of c.loop-record.left.items) (values_of c.keep_record.new.left.items) is right kept.before
          (values_push c.loop-record.left.items c.keep_record.new.left.items s kept.left)
          ∙ c.loop-record.invariant.kept;
      words = subst (AllByRecursion (λ (x : Name × Stored). IsTrue (is_word x.0.key))) (sym kept.left)
          (all_push (λ (x : Name × Stored). IsTrue (is_word x.0.key)) c.loop-record.left.items s c.loop-record.invariant.words (left_word all before r right));
    }
