-- What a step of maintenance comes to, by what the checkpointer says.
use Rattle.std.proofs.Common.{◌≡◌, ℕ, true, Option, None, Some, is_some, Result, Ok, Err, OnOk, refl, ap, sym, ◌∙◌, subst}
use Rattle.std.specs.declared.alloc.AllocError.{AllocError}
use Rattle.je_disk.specs.DiskMeaning.{DiskMeaning}
use Rattle.store_model.specs.declared.answer.Answer.{Answer}
use Rattle.record_tree.specs.declared.tree_err.TreeErr.{TreeErr}
use Rattle.record_tree.specs.declared.tree_err.TreeErr.TheVariants.{Fault, Full, IdsEnded, Memory}
use Rattle.in_tree.specs.declared.logged_trees.LogTrees.{LogTrees}
use Rattle.in_tree.specs.Observed.{last_node_of}
use Rattle.in_tree.proofs.MarksLeft.{marks_are_late}
use Rattle.checkpointer.specs.declared.checkpointer.Checkpointer.{Checkpointer}
use Rattle.checkpointer.specs.declared.ended.Ended.{Ended}
use Rattle.checkpointer.specs.declared.ended.Ended.TheVariants.{Done as Logged, Left}
use Rattle.checkpointer.specs.declared.finish.Finish.{Finish}
use Rattle.checkpointer.specs.declared.under_way.UnderWay.{UnderWay}
use Rattle.engine.specs.declared.kept.Kept.{Kept}
use Rattle.environment.specs.declared.environment.Environment.{Environment}
use Rattle.environment.specs.Turning.{FinishesBy, FinishesTo, FinishesTrees, FlushesTo, FlushesTrees, IsAnswerTo, IsFinishOf, IsFirstOf, ended_answer, ended_since, fault_by, flushed_answer}

-- nothing else is that an end was logged
left_not : (n : ℕ) (redo : ℕ) → ◌≡◌ {A = Result Ended TreeErr} (Ok (Left n)) (Ok (Logged redo)) → ⊥
left_not n redo e = cc

err_not : (error : TreeErr) (redo : ℕ) → ◌≡◌ {A = Result Ended TreeErr} (Err error) (Ok (Logged redo)) → ⊥
err_not error redo e = cc

module _ {D : Type 0} where
  module _ (meaning : DiskMeaning D) where
    -- what an environment is whose step was not logged
    pub record IsNotLogged (old new : Environment D) (error : TreeErr) (result : Result Answer AllocError) : Type 0 where
      pub answer : IsAnswerTo error result
      pub fault : new.engine.kept.fault ≡ fault_by error old.engine.kept.fault
      pub since : new.engine.kept.since ≡ old.engine.kept.since
      pub under_way : is_some new.engine.kept.checkpoints.under_way ≡ is_some old.engine.kept.checkpoints.under_way

    -- where memory ran out
    none_ok : (P : Result Answer AllocError → Type 0) (result : Result Answer AllocError) → OnOk result ⊥ → ((error : AllocError) → P (Err error)) → P result
    none_ok P (Ok answer) none each = absurd none
    none_ok P (Err error) none each = each error

    pub not_flushed : (owed : ℕ) (old new : Environment D) (error : TreeErr) (result : Result Answer AllocError) → IsNotLogged old new error result → is_some old.engine.kept.checkpoints.under_way ≡ true →
        FlushesTrees meaning owed old.engine.trees new.engine.trees (Err error) → FlushesTo meaning owed old new result
    not_flushed owed old new Fault result is some flushes =
        subst (FlushesTo meaning owed old new) (sym is.answer) ((some, flushes), record { fault = is.fault; under_way = is.under_way })
    not_flushed owed old new Full result is some flushes =
        subst (FlushesTo meaning owed old new) (sym is.answer) ((some, flushes), record { fault = is.fault; since = is.since; under_way = is.under_way })
    not_flushed owed old new IdsEnded result is some flushes = absurd flushes
    not_flushed owed old new Memory result is some flushes =
        none_ok (FlushesTo meaning owed old new) result is.answer (λ error. (flushes, record { fault = is.fault; since = is.since; under_way = is.under_way }))

    pub not_finished : (owed : ℕ) (old new : Environment D) (f : Finish) (w : UnderWay) (error : TreeErr) (result : Result Answer AllocError) → IsNotLogged old new error result → IsFinishOf old owed f →
        old.engine.kept.checkpoints.under_way ≡ Some w → FinishesTrees meaning f w old.engine.trees new.engine.trees (Err error) →
        FinishesTo meaning owed old new result
    not_finished owed old new f w Fault result is is_finish some finishes =
        subst (FinishesTo meaning owed old new) (sym is.answer)
        (record { finish = f; checkpoint = w; is_finish = is_finish; is_under_way = some; finishes = finishes }, record { fault = is.fault; under_way = is.under_way })
    not_finished owed old new f w Full result is is_finish some finishes =
        subst (FinishesTo meaning owed old new) (sym is.answer)
        (record { finish = f; checkpoint = w; is_finish = is_finish; is_under_way = some; finishes = finishes }, record { fault = is.fault; since = is.since; under_way = is.under_way })
    not_finished owed old new f w IdsEnded result is is_finish some finishes = absurd finishes
    not_finished owed old new f w Memory result is is_finish some finishes =
        none_ok (FinishesTo meaning owed old new) result is.answer (λ error. (finishes, record { fault = is.fault; since = is.since; under_way = is.under_way }))

    -- ---- with other trees and checkpoints

    abbrev pub with_trees : Environment D → LogTrees D → Kept → Environment D
    with_trees e trees kept = record e { engine = record e.engine { trees = trees; kept = kept } }

    abbrev pub with_checkpoints : Kept → Checkpointer → Kept
    with_checkpoints kept checkpoints = record kept { checkpoints = checkpoints }

    -- a checkpoint that is under way is one
    by_checkpoint : (P : Type 0) (o : Option UnderWay) → is_some o ≡ true → ((w : UnderWay) → o ≡ Some w → P) → P
    by_checkpoint P None some each = absurd cc
    by_checkpoint P (Some w) some each = each w refl

    -- ---- a flush

    module _ (old : Environment D) (trees : LogTrees D) (owed owes : ℕ) (result : Result (Option ℕ) TreeErr) (some : is_some old.engine.kept.checkpoints.under_way ≡ true) (same : owed ≡ owes)
        (flushes : FlushesTrees meaning owed old.engine.trees trees result) where
      flushes_as : (came : Result (Option ℕ) TreeErr) → result ≡ came → FlushesTrees meaning owes old.engine.trees trees came
      flushes_as came is =
          subst (λ (r : Result (Option ℕ) TreeErr). FlushesTrees meaning owes old.engine.trees trees r) is
          (subst (λ (n : ℕ). FlushesTrees meaning n old.engine.trees trees result) same flushes)

      pub flush_ok : (node : Option ℕ) (answer : Answer) → result ≡ Ok node → answer ≡ flushed_answer node →
          FlushesTo meaning owes old (with_trees old trees old.engine.kept) (Ok answer)
      flush_ok (Some node) answer is answers =
          subst (λ (a : Answer). FlushesTo meaning owes old (with_trees old trees old.engine.kept) (Ok a)) (sym answers)
          ((some, flushes_as (Ok (Some node)) is), record { fault = refl; since = refl; under_way = refl })
      flush_ok None answer is answers =
          subst (λ (a : Answer). FlushesTo meaning owes old (with_trees old trees old.engine.kept) (Ok a)) (sym answers)
          ((some, flushes_as (Ok None) is), record { fault = refl; since = refl; under_way = refl })

      pub flush_err : (error : TreeErr) (answer : Result Answer AllocError) (kept : Kept) → result ≡ Err error → IsAnswerTo error answer → kept ≡ record old.engine.kept { fault = fault_by error old.engine.kept.fault } →
          FlushesTo meaning owes old (with_trees old trees kept) answer
      flush_err error answer kept is answers kept_is =
          not_flushed owes old (with_trees old trees kept) error answer
          (record {
            answer = answers;
            fault = ap (λ (k : Kept). k.fault) kept_is;
            since = ap (λ (k : Kept). k.since) kept_is;
            under_way = ap (λ (k : Kept). is_some k.checkpoints.under_way) kept_is;
          }) some (flushes_as (Err error) is)

    -- ---- an end

    pub is_finish : (old : Environment D) (f : Finish) (first : Option ℕ) (owed owes : ℕ) → f ≡ record { since = old.engine.kept.since; first = first; last_txn = old.engine.kept.last_txn; last_db = old.engine.kept.last_db; owed = owed } →
        IsFirstOf old.written.by_txn.entries first → owed ≡ owes → IsFinishOf old owes f
    is_finish old f first owed owes is least same = record {
      since = ap (λ (x : Finish). x.since) is;
      first = subst (IsFirstOf old.written.by_txn.entries) (sym (ap (λ (x : Finish). x.first) is)) least;
      last_txn = ap (λ (x : Finish). x.last_txn) is;
      last_db = ap (λ (x : Finish). x.last_db) is;
      owed_is = ap (λ (x : Finish). x.owed) is ∙ same;
    }

    module _ (old : Environment D) (trees : LogTrees D) (checkpoints : Checkpointer) (f : Finish) (owes : ℕ) (result : Result Ended TreeErr) (some : is_some old.engine.kept.checkpoints.under_way ≡ true) (is_f : IsFinishOf old owes f)
        (finishes : (w : UnderWay) → old.engine.kept.checkpoints.under_way ≡ Some w → FinishesTrees meaning f w old.engine.trees trees result)
        (done : (redo : ℕ) → result ≡ Ok (Logged redo) → checkpoints.under_way ≡ None)
        (stays : ((redo : ℕ) → result ≡ Ok (Logged redo) → ⊥) → checkpoints.under_way ≡ old.engine.kept.checkpoints.under_way) where
      finishes_as : (came : Result Ended TreeErr) → result ≡ came → (w : UnderWay) → old.engine.kept.checkpoints.under_way ≡ Some w →
          FinishesTrees meaning f w old.engine.trees trees came
      finishes_as came is w its = subst (λ (r : Result Ended TreeErr). FinishesTrees meaning f w old.engine.trees trees r) is (finishes w its)

      finish_by : (kept : Kept) (came : Result Ended TreeErr) → result ≡ came → FinishesBy meaning owes old (with_trees old trees kept) came
      finish_by kept came is =
          by_checkpoint (FinishesBy meaning owes old (with_trees old trees kept) came) old.engine.kept.checkpoints.under_way some
          (λ w its. record { finish = f; checkpoint = w; is_finish = is_f; is_under_way = its; finishes = finishes_as came is w its })

      pub finish_ok : (ended : Ended) (answer : Answer) (kept : Kept) → result ≡ Ok ended → answer ≡ ended_answer ended →
          kept ≡ record (with_checkpoints old.engine.kept checkpoints) { since = ended_since ended old.engine.kept.since } →
          FinishesTo meaning owes old (with_trees old trees kept) (Ok answer)
      finish_ok (Logged redo) answer kept is answers kept_is =
          subst (λ (a : Answer). FinishesTo meaning owes old (with_trees old trees kept) (Ok a)) (sym answers)
          (record {
            redo = redo;
            by = finish_by kept (Ok (Logged redo)) is;
            late = λ es base start lsn fits begun mark.
                marks_are_late old.engine.trees.trees.forest es base (last_node_of old.engine.trees) lsn start fits (finish_by kept (Ok (Logged redo)) is).finishes.0 mark begun;
            since = ap (λ (k : Kept). k.since) kept_is;
            fault = ap (λ (k : Kept). k.fault) kept_is;
            ended = ap (λ (k : Kept). is_some k.checkpoints.under_way) kept_is ∙ ap (λ (o : Option UnderWay). is_some o) (done redo is);
          })
      finish_ok (Left count) answer kept is answers kept_is =
          subst (λ (a : Answer). FinishesTo meaning owes old (with_trees old trees kept) (Ok a)) (sym answers) (
            finish_by kept (Ok (Left count)) is,
            record {
              fault = ap (λ (k : Kept). k.fault) kept_is;
              since = ap (λ (k : Kept). k.since) kept_is;
              under_way = ap (λ (k : Kept). is_some k.checkpoints.under_way) kept_is ∙ ap (λ (o : Option UnderWay). is_some o) (stays (λ redo e. left_not count redo (sym is ∙ e)));
            },
          )

      pub finish_err : (error : TreeErr) (answer : Result Answer AllocError) (kept : Kept) → result ≡ Err error → IsAnswerTo error answer →
          kept ≡ record (with_checkpoints old.engine.kept checkpoints) { fault = fault_by error old.engine.kept.fault } →
          FinishesTo meaning owes old (with_trees old trees kept) answer
      finish_err error answer kept is answers kept_is =
          by_checkpoint (FinishesTo meaning owes old (with_trees old trees kept) answer) old.engine.kept.checkpoints.under_way some
          (λ w its. not_finished owes old (with_trees old trees kept) f w error answer
          (record {
            answer = answers;
            fault = ap (λ (k : Kept). k.fault) kept_is;
            since = ap (λ (k : Kept). k.since) kept_is;
            under_way = ap (λ (k : Kept). is_some k.checkpoints.under_way) kept_is ∙ ap (λ (o : Option UnderWay). is_some o) (stays (λ redo e. err_not error redo (sym is ∙ e)));
          }) is_f its (finishes_as (Err error) is w its))
