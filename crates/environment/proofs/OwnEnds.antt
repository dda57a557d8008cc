-- Where an environment stands once a call of a transaction that changes something has ended.
use Rattle.std.proofs.Common.{◌≡◌, ◌≢◌, ◌∙◌, ◌⊎◌, inl, inr, ℕ, ◌≤◌, ◌<◌, ◌+◌, ◌*◌, ◌^◌, ◌==◌, Bool, true, false, true≢false, cond, ◌||◌, List, [], ◌∷◌, ◌++◌, filter, length, map, Option, None, Some, Result, Ok, Err, refl, ap, sym, subst, arith}
use Rattle.std.specs.Prelude.{IfOk, is_some}
use Rattle.std.specs.List.{AllByRecursion}
use Rattle.std.specs.declared.alloc.AllocError.{AllocError}
use Rattle.std.proofs.lemmas.Bool.{cond-true, eq-eqb}
use Rattle.std.proofs.lemmas.Bool.Decides.{eqb_tells}
use Rattle.std.proofs.lemmas.List.{length-map}
use Rattle.je_disk.specs.DiskMeaning.{DiskMeaning}
use Rattle.je_disk.specs.Moments.{now}
use Rattle.je_order.specs.Counts.{HasRisen}
use Rattle.je_order.specs.declared.txn_id.TxnId.{TxnId}
use Rattle.log_entry.specs.Body.{IsEntry}
use Rattle.record_tree.specs.Logged.{entry_for, is_made, most_entries}
use Rattle.record_tree.specs.declared.tree_change.TreeChange.{TreeChange}
use Rattle.record_tree.specs.declared.tree_name.TreeName.{TreeName}
use Rattle.record_map.specs.Cells.{IsRising as CellsRise}
use Rattle.store_model.specs.declared.answer.Answer.{Answer}
use Rattle.store_model.specs.declared.answer.Answer.TheVariants.{Logged, LogFull, IdsEnded, DiskFault}
use Rattle.store_model.specs.declared.answer.Fault.TheVariants.{Disk}
use Rattle.store_model.specs.declared.call.Call.{Call}
use Rattle.store_model.specs.declared.change.Change.{Change}
use Rattle.store_model.specs.declared.need.Need.{Need}
use Rattle.store_model.specs.declared.record_change.RecordChange.{RecordChange}
use Rattle.store_model.specs.declared.victim.Victim.{Victim}
use Rattle.log_entry.specs.Fields.{IsName}
use Rattle.log_replay.specs.Rows.{Row}
use Rattle.store_model.specs.Records.{Evaluated, evaluation}
use Rattle.store_model.specs.Refusals.{made_by}
use Rattle.store_model.specs.Store.{Pair, change_in}
use Rattle.je_answers.specs.declared.active.Active.{Active}
use Rattle.je_answers.specs.Standing.{Standing, with_at}
use Rattle.je_answers.specs.Views.{Target, changes_with, needs_in, outcome_of, view_of, with_names, with_numbers}
use Rattle.je_answers.proofs.SameViews.{answered_changes}
use Rattle.je_order.specs.declared.name.Name.{Name}
use Rattle.je_answers.specs.Locking.{all_got}
use Rattle.je_answers.specs.Events.{IsDone, IsLogged, due, log_limit}
use Rattle.je_answers.specs.After.{Fate, after_changes, after_fate, answered, closed, fate_of, faulted, moved, with_locks, with_outcome}
use Rattle.je_answers.specs.After.Fate.{IsRefused, Succeeds}
use Rattle.je_answers.specs.Journal.{changes_closed, is_disk_fault, tried}
use Rattle.log_buffer.specs.Buffer.{IsUnchanged, disk_of as disk_below, end_of, file_max_of, has_failed}
use Rattle.log_replay.specs.Logging.{all_row_changes}
use Rattle.in_tree.specs.Observed.{cells_of, has_tree_of, waits_of}
use Rattle.txn_core.specs.Known.{committed}
use Rattle.txn_core.specs.Planning.{makes_index, row_by}
use Rattle.txn_log.specs.Own.{tree_of}
use Rattle.txn_views.specs.Laws.{AreSeenBy}
use Rattle.txn_views.specs.Seen.{is_right_change, seen_rows}
use Rattle.txn_views.proofs.RightLaws.{changes-are_right}
use Rattle.txn_locks.specs.Taking.{state_of}
use Rattle.active_txns.specs.Own.{has_changes}
use Rattle.active_txns.specs.declared.own_counts.OwnCounts.{OwnCounts}
use Rattle.active_txns.specs.Own.{AreCounted, counted}
use Rattle.sessions.specs.declared.all_sessions.Sessions.{Sessions}
use Rattle.sessions.specs.AtStanding.{AreSessionsAt, owing, with_own}
use Rattle.sessions.specs.Taking.{HasTaken}
use Rattle.standing_laws.specs.Right.{AreNumbered}
use Rattle.standing_laws.proofs.Writers.{writers-are_free}
use Rattle.engine.specs.declared.engine.Engine.{Engine}
use Rattle.engine.specs.declared.kept.Kept.{Kept}
use Rattle.engine.specs.Limits.{IsWithin, limit_by, most_logged, numbers_for, reach_after}
use Rattle.engine.specs.Whole.{end_file as end_below}
use Rattle.engine.proofs.CalmAnswers.{IsCalm, faultless, unnumbered}
use Rattle.environment.specs.declared.environment.Environment.{Environment}
use Rattle.environment.specs.declared.outcome.Outcome.{Outcome}
use Rattle.environment.specs.declared.written.Written.{Written}
use Rattle.environment.specs.declared.wrote.Wrote.{Wrote}
use Rattle.environment.specs.declared.wrote.Wrote.TheVariants.{Done, Full, NoNumbers, Failed}
use Rattle.environment.specs.Access.{AccessesTo, HasAccessed, IsTakenUp}
use Rattle.environment.specs.Calls.{HasCause}
use Rattle.environment.specs.Changing.{MayMake}
use Rattle.environment.specs.Limits.{owing_with}
use Rattle.environment.specs.OwnEnds.{AreEndedBy, HasPushed, HasPushedAndLogged, WritesUp, after_wrote, answer_for}
use Rattle.store_model.specs.Refusals.{index_refusal}
use Rattle.environment.proofs.CallChanges.{may_make, one_key, some_changed, some_numbers}
use Rattle.environment.proofs.IndexKeys.{index_key}
use Rattle.environment.proofs.ChangeLaws.{Changed, entries_are}
use Rattle.environment.specs.Steps.{HasNotCome, HasStepped, IsCallStep, StandsAt}
use Rattle.environment.specs.Valid.{active_number, owed_by, fitting, KnowsDatabases}
use Rattle.environment.specs.Whole.{CanGoOn, HasLimit, limit_found, reach_of}
use Rattle.environment.specs.Writing.{IsLeft, IsValidAt, MayWrite, WritesAll, WritesOwn}
use Rattle.environment.proofs.Answering.{owed_is, owed_with}
use Rattle.environment.proofs.CatalogValid.{low}
use Rattle.environment.proofs.CommitLaws.{is_under_way}
use Rattle.environment.proofs.EarlyLaws.{same_buffer, told_so}
use Rattle.environment.proofs.FinishLaws.{Evaluates, Takes, in_sessions, same_own, valid_elsewhere}
use Rattle.environment.proofs.RecordAnswers.{calm_outcome, well_outcome}
use Rattle.environment.proofs.SeenNames.{seen_named}
use Rattle.environment.proofs.LoggableLaws.{own_loggable}
use Rattle.environment.proofs.PlanLaws.{number_is, seen_on}

abbrev Own : Type 0
Own = List (ℕ × RecordChange)

-- a standing in which a call's cursor moved and its transaction has more own changes
abbrev pub with_changes : Active → Call → Option Name → Own → Standing → Standing
with_changes a call place own st = record st {
  own = with_at a.txn.0 (st.own a.txn.0 ++ own) st.own;
  places = with_at a.session (moved call place (st.places a.session)) st.places;
}

-- where a call leaves a standing, by what became of its changes
abbrev pub standing_by : Standing → Active → Call → Target → Option Name → List Changed → Wrote → Standing
standing_by st a call g place cs Done = with_changes a call place (with_numbers cs) (answered a call g st)
standing_by st a call g place cs Full = answered a call g st
standing_by st a call g place cs NoNumbers = answered a call g st
standing_by st a call g place cs Failed = faulted st

-- ---- how many Commits are owed

abbrev count_own : (ℕ → Own) → List Active → ℕ
count_own own as_ = length (filter (λ b. has_changes (own b.txn.0)) as_)

abbrev pushed : ℕ → Own → (ℕ → Own) → ℕ → Own
pushed n more own = with_at n (own n ++ more) own

has_more : (l more : Own) → more ≢ [] → has_changes (l ++ more) ≡ true
has_more [] [] some = absurd (some refl)
has_more [] (c ∷ more) some = refl
has_more (c ∷ l) more some = refl

others_same : (n : ℕ) (more : Own) (own : ℕ → Own) (m : ℕ) → (m ≢ n) → pushed n more own m ≡ own m
others_same n more own m other = by (eqb_tells m n)
  where
    by : ((m == n) ≡ true) × (m ≡ n) ⊎ ((m == n) ≡ false) × (m ≢ n) → pushed n more own m ≡ own m
    by (inl same) = absurd (other same.1)
    by (inr k) = ap (λ (b : Bool). cond b (own n ++ more) (own m)) k.0

count_past : (n : ℕ) (more : Own) (own : ℕ → Own) (as_ : List Active) → AllByRecursion (λ b. n < b.txn.0) as_ → count_own (pushed n more own) as_ ≡ count_own own as_
count_past n more own [] all = refl
count_past n more own (b ∷ as_) all =
    ap (λ (l : Own). length (cond (has_changes l) (b ∷ later) later)) same ∙ step (has_changes (own b.txn.0)) (count_past n more own as_ all.1)
  where
    later : List Active
    later = filter (λ c. has_changes (pushed n more own c.txn.0)) as_

    before : List Active
    before = filter (λ c. has_changes (own c.txn.0)) as_

    same : pushed n more own b.txn.0 ≡ own b.txn.0
    same = others_same n more own b.txn.0 (λ e. let less = all.0 in absurd (omega (arith, less, e)))

    step : (t : Bool) → length later ≡ length before → length (cond t (b ∷ later) later) ≡ length (cond t (b ∷ before) before)
    step true rest = omega (arith, rest)
    step false rest = rest

count_pushed : (n last : ℕ) (more : Own) (own : ℕ → Own) (as_ : List Active) → more ≢ [] → AreNumbered last as_ → active_number as_ n ≡ true →
    count_own (pushed n more own) as_ ≡ cond (has_changes (own n)) (count_own own as_) (count_own own as_ + 1)
count_pushed n last more own [] some numbers is = absurd (true≢false (sym is))
count_pushed n last more own (b ∷ as_) some numbers is = by (eqb_tells n b.txn.0) (count_pushed n last more own as_ some numbers.2)
  where
    later : List Active
    later = filter (λ c. has_changes (pushed n more own c.txn.0)) as_

    before : List Active
    before = filter (λ c. has_changes (own c.txn.0)) as_

    all_later : ℕ
    all_later = count_own (pushed n more own) (b ∷ as_)

    all_before : ℕ
    all_before = count_own own (b ∷ as_)

    by_has : (h : Bool) → all_later ≡ length later + 1 → length later ≡ length before → all_before ≡ length (cond h (b ∷ before) before) → all_later ≡ cond h all_before (all_before + 1)
    by_has true k past e = omega (arith, k, past, e)
    by_has false k past e = omega (arith, k, past, e)

    by_both : (p h : Bool) → all_before ≡ length (cond p (b ∷ before) before) → all_later ≡ length (cond p (b ∷ later) later) → length later ≡ cond h (length before) (length before + 1) →
        all_later ≡ cond h all_before (all_before + 1)
    by_both true true e k rest = omega (arith, k, rest, e)
    by_both true false e k rest = omega (arith, k, rest, e)
    by_both false true e k rest = omega (arith, k, rest, e)
    by_both false false e k rest = omega (arith, k, rest, e)

    by : ((n == b.txn.0) ≡ true) × (n ≡ b.txn.0) ⊎ ((n == b.txn.0) ≡ false) × (n ≢ b.txn.0) →
        (active_number as_ n ≡ true → length later ≡ cond (has_changes (own n)) (length before) (length before + 1)) → all_later ≡ cond (has_changes (own n)) all_before (all_before + 1)
    by (inl same) rest =
        let first : has_changes (pushed n more own b.txn.0) ≡ true = ap (λ (m : ℕ). has_changes (pushed n more own m)) (sym same.1)
        ∙ ap (λ (t : Bool). has_changes (cond t (own n ++ more) (own n))) (eq-eqb n n refl) ∙ has_more (own n) more some in
        let k : all_later ≡ length (b ∷ later) = ap length (cond-true (has_changes (pushed n more own b.txn.0)) (b ∷ later) later first) in
        by_has (has_changes (own n)) (omega (arith, k))
        (count_past n more own as_ (subst (λ (m : ℕ). AllByRecursion (λ c. m < c.txn.0) as_) (sym same.1) numbers.1))
        (ap (λ (m : ℕ). length (cond (has_changes (own m)) (b ∷ before) before)) (sym same.1))
    by (inr other) rest =
        by_both (has_changes (own b.txn.0)) (has_changes (own n)) refl
        (ap (λ (l : Own). length (cond (has_changes l) (b ∷ later) later)) (others_same n more own b.txn.0 (λ e. other.1 (sym e))))
        (rest (sym (ap (λ (t : Bool). t || active_number as_ n) other.0) ∙ is))

pub owing_pushed : (st : Standing) (a : Active) (own : Own) → own ≢ [] → AreNumbered st.last_txn st.actives → active_number st.actives a.txn.0 ≡ true →
    owing (with_own a.txn.0 own st) ≡ owing_with (Some a) st
owing_pushed st a own some numbers is = count_pushed a.txn.0 st.last_txn own st.own st.actives some numbers is

-- ---- how far it reaches

near_grown : (o n : Bool) (fo fn po pn x y : ℕ) → o ≡ false → n ≡ false → cond n 0 fn ≤ cond o 0 fo + x → pn ≤ po + 1 → x + 1 ≤ y → cond n 0 (fn + pn) ≤ cond o 0 (fo + po) + y
near_grown true n fo fn po pn x y works still h p more = absurd (true≢false works)
near_grown false true fo fn po pn x y works still h p more = absurd (true≢false still)
near_grown false false fo fn po pn x y works still h p more = omega (arith, h, p, more)

near_left : (o n : Bool) (fo fn po pn : ℕ) → n ≡ o → cond n 0 fn ≡ cond o 0 fo → pn ≡ po → cond n 0 (fn + pn) ≤ cond o 0 (fo + po)
near_left true true fo fn po pn still h p = omega arith
near_left false false fo fn po pn still h p = omega (arith, h, p)
near_left true false fo fn po pn still h p = absurd (true≢false (sym still))
near_left false true fo fn po pn still h p = absurd (true≢false still)

near_failed : (n : Bool) (x y : ℕ) → n ≡ true → cond n 0 x ≤ y
near_failed true x y is = omega arith
near_failed false x y is = absurd (true≢false (sym is))

-- ---- the environment before

-- so many changes log so many entries at most
room_for : (cs : List Changed) → cs ≢ [] → most_entries (length cs) + 1 ≤ most_logged (with_names cs)
room_for [] some = absurd (some refl)
room_for (c ∷ cs) some = let k = length-map cs (λ x. change_in x.0.1.name x.1) in omega (arith, k)

module _ {D : Type 0} (meaning : DiskMeaning D) where
  limit_moves : (e before : Environment D) (owed : ℕ) (changes : List Change) (limit : Option Answer) → e.engine ≡ before.engine → HasLimit e owed changes limit → HasLimit before owed changes limit
  limit_moves e before owed [] limit same has = has
  limit_moves e before owed (c ∷ changes) limit same has = record {
    planned = has.planned;
    rows = subst (λ (x : Engine D). map (row_by 0) has.planned ≡ all_row_changes 0 x.kept.last_db (c ∷ changes) (committed (cells_of x.trees))) same has.rows;
    makes = subst (λ (x : Engine D). x.kept.last_db + made_by (c ∷ changes) < 2 ^ 32 → (d : ℕ) → is_made d has.planned ≡ true → x.kept.last_db < d) same has.makes;
    is = subst (λ (x : Engine D). limit ≡ limit_by (limit_found (makes_index (c ∷ changes)) x.trees has.planned owed) x.kept.last_node (length has.planned)) same has.is;
  }

  left_moves : (e before new : Environment D) → e.engine ≡ before.engine → IsLeft e new → IsLeft before new
  left_moves e before new same left = record {
    log = subst (λ (x : Engine D). IsUnchanged x.trees.log new.engine.trees.log) same left.log;
    kept = left.kept ∙ ap (λ (x : Engine D). x.kept) same;
    end = left.end ∙ ap (λ (x : Engine D). end_below x.trees) same;
  }

  abbrev Writes : Environment D → Environment D → Standing → ℕ → List Changed → ℕ → Result Wrote AllocError → Type 0
  Writes = WritesOwn meaning

  pub writes_move : (e before new : Environment D) (st : Standing) (n : ℕ) (cs : List Changed) (owed : ℕ) (result : Result Wrote AllocError) → e.engine ≡ before.engine →
      Writes e new st n cs owed result → Writes before new st n cs owed result
  writes_move e before new st n cs owed (Ok Done) same w = (
    w.0,
    subst (λ (x : Engine D). Rattle.environment.specs.Steps.HasLoggedCall meaning x new.engine.trees.log (with_names cs ∷ []) [] (Rattle.standing_laws.specs.Right.txn_id n)) same w.1,
    limit_moves e before owed (with_names cs) None same w.2,
    w.3 ∙ ap (λ (x : Engine D). file_max_of x.trees.log) same,
    w.4 ∙ ap (λ (x : Engine D). record x.kept { last_node = x.kept.last_node + numbers_for (length cs) }) same,
    subst (λ (x : Engine D). end_below new.engine.trees ≤ end_below x.trees + most_entries (length cs)) same w.5,
  )
  writes_move e before new st n cs owed (Ok Full) same w = (w.0, left_moves e before new same w.1, limit_moves e before owed (with_names cs) (Some LogFull) same w.2)
  writes_move e before new st n cs owed (Ok NoNumbers) same w = (w.0, left_moves e before new same w.1, limit_moves e before owed (with_names cs) (Some IdsEnded) same w.2)
  writes_move e before new st n cs owed (Ok Failed) same w = (
    subst (λ (x : Engine D). Rattle.environment.specs.Steps.HasFailedWith meaning x.trees.log new.engine.trees.log []) same w.0,
    limit_moves e before owed (with_names cs) None same w.1,
    w.2 ∙ ap (λ (x : Engine D). file_max_of x.trees.log) same,
    w.3 ∙ ap (λ (x : Engine D). record x.kept { fault = Some Disk }) same,
    w.4,
  )
  writes_move e before new st n cs owed (Err error) same w = (w.0, left_moves e before new same w.1)

  -- ---- each end

  -- some changes are tried where they are logged, and none where they are refused
  tried_names : (cs : List Changed) → cs ≢ [] → tried (with_names cs) Succeeds ≡ with_names cs ∷ []
  tried_names [] some = absurd (some refl)
  tried_names (c ∷ cs) some = refl

  tried_none : (l : List Change) → tried l IsRefused ≡ []
  tried_none [] = refl
  tried_none (c ∷ l) = refl

  module _ (most : ℕ) (before mid : Environment D) (s : Sessions) (st : Standing) (a : Active) (call : Call) (g : Target) (due_ : Answer) (place : Option Name) (cs : List Changed) (filled : cs ≢ [])
      (here : StandsAt most meaning before st) (none : st.fault ≡ None) where
    abbrev needs_ : List Need
    needs_ = needs_in st a call g

    abbrev own_ : Standing
    own_ = with_own a.txn.0 (with_numbers cs) st

    abbrev new_ : Environment D
    new_ = in_sessions s mid

    -- where it ends so
    abbrev Step : Standing → Answer → Type 0
    Step after answer =
        HasStepped meaning most before new_ (owing_with (Some a) st) (with_names cs) [] (λ limit. IsLogged (log_limit limit) due_ answer) after answer

    count_ : length (with_names cs) ≡ length cs
    count_ = length-map cs (λ c. change_in c.0.1.name c.1)

    logged_room : most_entries (length cs) + 1 ≤ most_logged (with_names cs)
    logged_room = room_for cs filled

    node_room : numbers_for (length cs) ≤ numbers_for (length (with_names cs) * 2)
    node_room = let k = count_ in omega (arith, k)

    -- its changes are logged
    abbrev OwnDone : Standing
    OwnDone = with_changes a call place (with_numbers cs) (answered a call g st)

    done_here : Writes before mid st a.txn.0 cs (owing own_) (Ok Done) → AreEndedBy Done s a call place needs_ (with_numbers cs) st → StandsAt most meaning new_ OwnDone
    done_here w stands = record {
      file_max = w.3 ∙ here.file_max;
      fault = ap (λ (k : Kept). k.fault) w.4 ∙ here.fault;
      last_txn = ap (λ (k : Kept). k.last_txn) w.4 ∙ here.last_txn;
      last_db = ap (λ (k : Kept). k.last_db) w.4 ∙ here.last_db;
      commits = ap (λ (k : Kept). k.commits) w.4 ∙ here.commits;
      totals = ap (λ (k : Kept). k.totals) w.4 ∙ here.totals;
      sessions_at = stands;
      apart = here.apart;
      checkpoint = ap (λ (k : Kept). is_some k.checkpoints.under_way) w.4 ∙ here.checkpoint;
      databases = λ calm. subst (KnowsDatabases st) (sym w.4) (here.databases calm);
      valid = λ calm. valid_elsewhere meaning.observable (now (meaning.history (disk_below mid.engine.trees.log))) mid.engine.trees.log (cells_of mid.engine.trees) (has_tree_of mid.engine.trees) (fitting mid.engine.trees) mid.engine.kept.since mid.written.by_txn.entries own_ own_.own
          OwnDone.places OwnDone.locks refl w.0;
    }

    done_near : Writes before mid st a.txn.0 cs (owing own_) (Ok Done) → AreSessionsAt s OwnDone → owing own_ ≡ owing_with (Some a) st → IsWithin (reach_of new_) (reach_after (reach_of before) (with_names cs))
    done_near w stands owes = record {
      file = near_grown (has_failed before.engine.trees.log) (has_failed mid.engine.trees.log) ((end_of before.engine.trees.log).file + waits_of before.engine.trees) ((end_of mid.engine.trees.log).file + waits_of mid.engine.trees)
          (owed_by before.sessions) (owed_by s) (most_entries (length cs)) (most_logged (with_names cs)) (here.valid none).works w.0.works w.5
          (let new_owed : owed_by s ≡ owing own_ = owed_is s OwnDone stands in let old_owed = owed_is before.sessions st here.sessions_at in let less = owed_with (Some a) st in omega (arith, new_owed, old_owed, less, owes))
          logged_room;
      node = let k = ap (λ (k : Kept). k.last_node) w.4 in let room = node_room in omega (arith, k, room);
    }

    done : Writes before mid st a.txn.0 cs (owing own_) (Ok Done) → AreEndedBy Done s a call place needs_ (with_numbers cs) st → owing own_ ≡ owing_with (Some a) st → IsCalm due_ → fate_of due_ ≡ Succeeds → Step OwnDone due_
    done w stands owes calm well = record {
      limit = None;
      has_limit = subst (λ (owed : ℕ). HasLimit before owed (with_names cs) None) owes w.2;
      answers = inl refl;
      here = done_here w stands;
      numbered = unnumbered due_ st.commits calm;
      fault = none ∙ ap (λ (b : Bool). cond b (Some Disk) None) (sym (faultless due_ calm));
      logged = subst (λ (b : Bool). IsCallStep meaning b before.engine mid.engine.trees.log (tried (with_names cs) (fate_of due_)) []) (sym (faultless due_ calm))
          (subst (λ (l : List (List Change)). IsCallStep meaning false before.engine mid.engine.trees.log l []) (sym (ap (tried (with_names cs)) well ∙ tried_names cs filled))
          (inr (a.txn, w.1)));
      near = done_near w (done_here w stands).sessions_at owes;
    }

    -- they are refused
    abbrev OwnRefused : Standing
    OwnRefused = answered a call g st

    left_here : (locks : _) → IsValidAt meaning mid st → IsLeft before mid → AreSessionsAt s (record st { locks = locks }) → StandsAt most meaning new_ (record st { locks = locks })
    left_here locks valid left stands = record {
      file_max = left.log.kept.max ∙ here.file_max;
      fault = ap (λ (k : Kept). k.fault) left.kept ∙ here.fault;
      last_txn = ap (λ (k : Kept). k.last_txn) left.kept ∙ here.last_txn;
      last_db = ap (λ (k : Kept). k.last_db) left.kept ∙ here.last_db;
      commits = ap (λ (k : Kept). k.commits) left.kept ∙ here.commits;
      totals = ap (λ (k : Kept). k.totals) left.kept ∙ here.totals;
      sessions_at = stands;
      apart = here.apart;
      checkpoint = ap (λ (k : Kept). is_some k.checkpoints.under_way) left.kept ∙ here.checkpoint;
      databases = λ calm. subst (KnowsDatabases st) (sym left.kept) (here.databases calm);
      valid = λ calm. valid_elsewhere meaning.observable (now (meaning.history (disk_below mid.engine.trees.log))) mid.engine.trees.log (cells_of mid.engine.trees) (has_tree_of mid.engine.trees) (fitting mid.engine.trees) mid.engine.kept.since mid.written.by_txn.entries st st.own
          st.places locks refl valid;
    }

    left_near : (locks : _) → IsLeft before mid → AreSessionsAt s (record st { locks = locks }) → IsWithin (reach_of new_) (reach_of before)
    left_near locks left stands = record {
      file = near_left (has_failed before.engine.trees.log) (has_failed mid.engine.trees.log) ((end_of before.engine.trees.log).file + waits_of before.engine.trees) ((end_of mid.engine.trees.log).file + waits_of mid.engine.trees)
          (owed_by before.sessions) (owed_by s) left.log.failed left.end (owed_is s (record st { locks = locks }) stands ∙ sym (owed_is before.sessions st here.sessions_at));
      node = let k = ap (λ (k : Kept). k.last_node) left.kept in omega (arith, k);
    }

    refused : (refusal : Answer) → IsCalm refusal → fate_of refusal ≡ IsRefused → IsLogged (log_limit (Some refusal)) due_ refusal → IsValidAt meaning mid st → IsLeft before mid → HasLimit before (owing own_) (with_names cs) (Some refusal) →
        AreSessionsAt s (with_locks a (all_got a.txn needs_ st.locks.at) st) → owing own_ ≡ owing_with (Some a) st → Step OwnRefused refusal
    refused refusal calm fate is valid left has stands owes =
        let within = left_near OwnRefused.locks left stands in
        let file = within.file in
        let node = within.node in
        record {
          limit = Some refusal;
          has_limit = subst (λ (owed : ℕ). HasLimit before owed (with_names cs) (Some refusal)) owes has;
          answers = is;
          here = left_here OwnRefused.locks valid left stands;
          numbered = unnumbered refusal st.commits calm;
          fault = none ∙ ap (λ (b : Bool). cond b (Some Disk) None) (sym (faultless refusal calm));
          logged = subst (λ (b : Bool). IsCallStep meaning b before.engine mid.engine.trees.log (tried (with_names cs) (fate_of refusal)) []) (sym (faultless refusal calm))
              (inl (left.log, refl, ap (tried (with_names cs)) fate ∙ tried_none (with_names cs)));
          near = record { file = omega (arith, file); node = omega (arith, node) };
        }

    -- the disk failed
    failed : Writes before mid st a.txn.0 cs (owing own_) (Ok Failed) → AreSessionsAt s st → owing own_ ≡ owing_with (Some a) st → Step (faulted st) DiskFault
    failed w stands owes = record {
      limit = None;
      has_limit = subst (λ (owed : ℕ). HasLimit before owed (with_names cs) None) owes w.1;
      answers = inr refl;
      here = record {
        file_max = w.2 ∙ here.file_max;
        fault = ap (λ (k : Kept). k.fault) w.3;
        last_txn = ap (λ (k : Kept). k.last_txn) w.3 ∙ here.last_txn;
        last_db = ap (λ (k : Kept). k.last_db) w.3 ∙ here.last_db;
        commits = ap (λ (k : Kept). k.commits) w.3 ∙ here.commits;
        totals = ap (λ (k : Kept). k.totals) w.3 ∙ here.totals;
        sessions_at = record { actives = stands.actives; own = stands.own; places = stands.places; waiting = stands.waiting; locks = tt };
        apart = here.apart;
        checkpoint = ap (λ (k : Kept). is_some k.checkpoints.under_way) w.3 ∙ here.checkpoint;
        databases = λ calm. absurd cc;
        valid = λ calm. absurd cc;
      };
      numbered = tt;
      fault = refl;
      logged = w.0;
      near = record {
        file = near_failed (has_failed mid.engine.trees.log) ((end_of mid.engine.trees.log).file + waits_of mid.engine.trees + owed_by s) _ w.0.tried.failed;
        node = let k = ap (λ (k : Kept). k.last_node) w.3 in omega (arith, k);
      };
    }

    -- each of them
    written_by : (wrote : Wrote) → Writes before mid st a.txn.0 cs (owing own_) (Ok wrote) → AreEndedBy wrote s a call place needs_ (with_numbers cs) st → owing own_ ≡ owing_with (Some a) st → IsCalm due_ → fate_of due_ ≡ Succeeds →
        Step (standing_by st a call g place cs wrote) (answer_for wrote due_)
    written_by Done w stands owes calm well = done w stands owes calm well
    written_by Full w stands owes calm well = refused LogFull refl refl refl w.0 w.1 w.2 stands owes
    written_by NoNumbers w stands owes calm well = refused IdsEnded refl refl refl w.0 w.1 w.2 stands owes
    written_by Failed w stands owes calm well = failed w stands owes

  -- so it is where the call then stands
  after_is : (st : Standing) (a : Active) (call : Call) (g : Target) (wrote : Wrote) → standing_by st a call g (outcome_of st a call g).place (changes_with st a g (outcome_of st a call g).changes) wrote ≡ after_wrote wrote st a call g (outcome_of st a call g)
  after_is st a call g Done =
      ap (λ (l : List Changed). with_changes a call (outcome_of st a call g).place (with_numbers l) (answered a call g st)) (sym (answered_changes st a call g (outcome_of st a call g).changes))
  after_is st a call g Full = refl
  after_is st a call g NoNumbers = refl
  after_is st a call g Failed = refl

  -- ---- the call of a transaction of more calls

  abbrev TakesUp : ℕ → Environment D → Environment D → Standing → Active → ℕ → Call → Target → Answer → Option Need → Type 0
  TakesUp most old new st a line call g answer need = Takes meaning most old new st a line call g answer need

  -- a call that changes something, by what its answer says
  pub evaluates_some : (most : ℕ) (old new : Environment D) (st : Standing) (a : Active) (call : Call) (g : Target) (answer : Answer) (auto : Bool) (ev : Evaluated) (l : List RecordChange) → ev.changes ≡ l → (l ≡ [] → ⊥) →
      HasStepped meaning most old new (owing_with (Some a) st) (with_names (changes_with st a g ev.changes)) (changes_closed auto (with_names (changes_with st a g ev.changes)))
      (λ limit. IsLogged (log_limit limit) (due st a ev) answer × (◌≡◌ {A = List Victim} [] [])) (after_fate (fate_of answer) st st a call g ev) answer →
      Evaluates meaning most old new st a call g answer auto ev
  evaluates_some most old new st a call g answer auto ev [] has some h = absurd (some refl)
  evaluates_some most old new st a call g answer auto ev (c ∷ l) has some h =
      subst (λ (m : List RecordChange). HasStepped meaning most old new (owing_with (Some a) st) (with_names (changes_with st a g ev.changes)) (changes_closed auto (with_names (changes_with st a g ev.changes)))
      (λ limit. IsDone m limit st a ev answer × (◌≡◌ {A = List Victim} [] [])) (after_changes m st st a call g ev answer) answer) (sym has) h

  module _ (most : ℕ) (before new : Environment D) (st : Standing) (a : Active) (call : Call) (g : Target) (ev : Evaluated) where
    abbrev names_ : List Change
    names_ = with_names (changes_with st a g ev.changes)

    -- by whether it is one call's
    abbrev Autos : (Bool → Standing) → Answer → Bool → Type 0
    Autos after answer auto =
        HasStepped meaning most before new (owing_with (Some a) st) names_ (changes_closed auto names_)
        (λ limit. IsLogged (log_limit limit) (cond auto (Logged (st.commits + 1)) ev.answer) answer × (◌≡◌ {A = List Victim} [] [])) (after auto) answer

    abbrev Fated : Fate → Answer → Type 0
    Fated fate answer =
        HasStepped meaning most before new (owing_with (Some a) st) names_ (changes_closed a.is_auto names_)
        (λ limit. IsLogged (log_limit limit) (cond a.is_auto (Logged (st.commits + 1)) ev.answer) answer × (◌≡◌ {A = List Victim} [] [])) (after_fate fate st st a call g ev) answer

    abbrev Up : Wrote → Type 0
    Up wrote =
        HasStepped meaning most before new (owing_with (Some a) st) names_ [] (λ limit. IsLogged (log_limit limit) ev.answer (answer_for wrote ev.answer))
        (after_wrote wrote st a call g ev) (answer_for wrote ev.answer)

    not_auto : (after : Bool → Standing) (answer : Answer) →
        HasStepped meaning most before new (owing_with (Some a) st) names_ [] (λ limit. IsLogged (log_limit limit) ev.answer answer) (after false) answer → Autos after answer false
    not_auto after answer h = record {
      limit = h.limit;
      has_limit = h.has_limit;
      answers = (h.answers, refl);
      here = h.here;
      numbered = h.numbered;
      fault = h.fault;
      logged = h.logged;
      near = h.near;
    }

    fated : (wrote : Wrote) → Up wrote → fate_of ev.answer ≡ Succeeds → a.is_auto ≡ false → Fated (fate_of (answer_for wrote ev.answer)) (answer_for wrote ev.answer)
    fated Done h well auto =
        let after : Bool → Standing = λ b. closed b a names_ (with_outcome a call g ev (answered a call g st)) in
        subst (λ (f : Fate). Fated f ev.answer) (sym well) (subst (Autos after ev.answer) (sym auto) (not_auto after ev.answer h))
    fated Full h well auto = let after : Bool → Standing = λ b. closed b a [] (answered a call g st) in subst (Autos after LogFull) (sym auto) (not_auto after LogFull h)
    fated NoNumbers h well auto = let after : Bool → Standing = λ b. closed b a [] (answered a call g st) in subst (Autos after IdsEnded) (sym auto) (not_auto after IdsEnded h)
    fated Failed h well auto = let after : Bool → Standing = λ b. faulted st in subst (Autos after DiskFault) (sym auto) (not_auto after DiskFault h)

    evaluates : (wrote : Wrote) → (ev.changes ≡ [] → ⊥) → Up wrote → fate_of ev.answer ≡ Succeeds → a.is_auto ≡ false →
        Evaluates meaning most before new st a call g (answer_for wrote ev.answer) a.is_auto ev
    evaluates wrote some h well auto = evaluates_some most before new st a call g (answer_for wrote ev.answer) a.is_auto ev ev.changes refl some (fated wrote h well auto)

  -- ---- before it is logged

  module _ (before e : Environment D) (most session : ℕ) (st : Standing) (a : Active) (call : Call) (g : Target) (answer : Answer) (changes : Own)
      (up : IsTakenUp meaning most before e st session a call g answer changes) where
    abbrev outcome_ : Evaluated
    outcome_ = outcome_of st a call g

    abbrev cs_ : List Changed
    cs_ = changes_with st a g outcome_.changes

    pub is_active_ : active_number st.actives a.txn.0 ≡ true
    is_active_ = is_under_way session a st.actives up.its

    pub valid_now : IsValidAt meaning e st
    valid_now =
        subst (λ (w : Written). IsValidAt meaning (record { engine = e.engine; sessions = e.sessions; written = w }) st) (sym up.written)
        (subst (λ (x : Engine D). IsValidAt meaning (record { engine = x; sessions = e.sessions; written = before.written }) st) (sym up.engine) (up.here.valid up.valid))

    pub last_txn_now : e.engine.kept.last_txn ≡ st.last_txn
    last_txn_now = ap (λ (x : Engine D). x.kept.last_txn) up.engine ∙ up.here.last_txn

    pub last_db_now : e.engine.kept.last_db ≡ st.last_db
    last_db_now = ap (λ (x : Engine D). x.kept.last_db) up.engine ∙ up.here.last_db

    seen_now : ((d : ℕ) → CellsRise (cells_of e.engine.trees d)) → AreSeenBy st a g (cells_of e.engine.trees)
    seen_now rising = seen_on e.engine.trees st up.sound valid_now.makes valid_now.writes valid_now.may rising a g up.on.own

    named_now : ((d : ℕ) → CellsRise (cells_of e.engine.trees d)) → AllByRecursion (λ (r : Row). IsName r.0) (seen_rows a.level a.txn (cells_of e.engine.trees g.db))
    named_now rising =
        seen_named valid_now.log (end_of e.engine.trees.log) (cells_of e.engine.trees) st.last_txn st.last_db (active_number st.actives) st.own valid_now.gives valid_now.has.is_log valid_now.writes up.sound.own_active
        g.database.name g.db (number_is (committed (cells_of e.engine.trees)) st valid_now.makes (g.db, g.database) up.on.own) up.on.own.above (rising g.db) a.level a.txn

    makes_now : ((d : ℕ) → CellsRise (cells_of e.engine.trees d)) → MayMake st cs_
    makes_now rising =
        let its = seen_now rising in
        may_make st a g outcome_.changes up.on
        (subst (λ (p : List Pair). AllByRecursion (λ c. is_right_change g.database.kind c ≡ true) (evaluation g.database.kind call g.at p).changes) its.pairs
        (changes-are_right g.database.kind call g.at (seen_rows a.level a.txn (cells_of e.engine.trees g.db)) up.plain its.right))
        (own_loggable st a call g (cells_of e.engine.trees) its (rising g.db) (named_now rising) up.records up.plain)
        (one_key st g g.over outcome_.changes up.on.over
        (λ i is dup. index_key g.database.kind call g.at (view_of st a g) i dup up.records (ap (index_refusal call) (sym is) ∙ up.writes)))

    some_now : changes ≢ [] → with_numbers cs_ ≢ []
    some_now some is = some (up.changes_are ∙ is)

    pub may_write : ((d : ℕ) → CellsRise (cells_of e.engine.trees d)) → changes ≢ [] → MayWrite st a.txn.0 cs_
    may_write rising some = record {
      some = some_numbers cs_ (some_now some);
      drawn = low st.last_txn a.txn.0 st.actives up.sound.numbers is_active_;
      each = (makes_now rising).right;
      free = writers-are_free st a call g up.sound up.taken.free;
      apart = (makes_now rising).apart;
    }

    pub entries_now : ((d : ℕ) → CellsRise (cells_of e.engine.trees d)) → (txn : TxnId) → txn.0 < 2 ^ 64 → e.engine.kept.last_db < 2 ^ 32 →
        AllByRecursion (λ (c : TreeChange). IsEntry (entry_for txn c.db c.name c.value)) (map tree_of (with_numbers cs_))
    entries_now rising txn low_ few_ =
        entries_are (committed (cells_of e.engine.trees)) st.last_db st valid_now.makes txn cs_ low_ (let same = last_db_now in omega (arith, same, few_)) (makes_now rising).right (makes_now rising).fits

    -- ---- what it comes to

    pub owes_now : changes ≢ [] → owing (with_own a.txn.0 (with_numbers cs_) st) ≡ owing_with (Some a) st
    owes_now some = owing_pushed st a (with_numbers cs_) (some_now some) up.sound.numbers is_active_

    -- it was written, whose transaction goes on
    pub steps_up : (mid : Environment D) (s : Sessions) (wrote : Wrote) → changes ≢ [] → (p : HasPushedAndLogged meaning e mid a (needs_in st a call g) st cs_ (Ok wrote)) →
        AreEndedBy wrote s a call outcome_.place (needs_in st a call g) p.more st →
        HasStepped meaning most before (in_sessions s mid) (owing_with (Some a) st) (with_names cs_) [] (λ limit. IsLogged (log_limit limit) outcome_.answer (answer_for wrote outcome_.answer))
        (standing_by st a call g outcome_.place cs_ wrote) (answer_for wrote outcome_.answer)
    steps_up mid s wrote some p stands =
        written_by most before mid s st a call g outcome_.answer outcome_.place cs_ (some_numbers cs_ (some_now some)) up.here up.valid wrote
        (writes_move e before mid st a.txn.0 cs_ (owing (with_own a.txn.0 (with_numbers cs_) st)) (Ok wrote) up.engine p.writes)
        (subst (λ (l : Own). AreEndedBy wrote s a call outcome_.place (needs_in st a call g) l st) p.is stands) (owes_now some) (calm_outcome st a call g up.records) (well_outcome st a call g up.records)

    pub writes_up : (mid : Environment D) (s : Sessions) (wrote : Wrote) → changes ≢ [] → (p : HasPushedAndLogged meaning e mid a (needs_in st a call g) st cs_ (Ok wrote)) →
        AreEndedBy wrote s a call outcome_.place (needs_in st a call g) p.more st → WritesUp meaning most before (in_sessions s mid) st a call g wrote
    writes_up mid s wrote some p stands =
        subst (λ (after : Standing). HasStepped meaning most before (in_sessions s mid) (owing_with (Some a) st) (with_names cs_) []
        (λ limit. IsLogged (log_limit limit) outcome_.answer (answer_for wrote outcome_.answer)) after (answer_for wrote outcome_.answer)) (after_is st a call g wrote) (steps_up mid s wrote some p stands)

    pub some_evaluated : changes ≢ [] → (outcome_.changes ≡ [] → ⊥)
    some_evaluated some = some_changed st a g outcome_.changes (some_now some)

    pub ends : (new : Environment D) (line : ℕ) (wrote : Wrote) (o : Outcome) → changes ≢ [] → a.is_auto ≡ false → WritesUp meaning most before new st a call g wrote →
        o.answer ≡ answer_for wrote answer → o.victims ≡ [] → AccessesTo meaning most before new st a line call g (Ok o)
    ends new line wrote o some auto h told alone =
        told_so (HasAccessed meaning most before new st a line call g) o (answer_for wrote outcome_.answer) (told ∙ ap (answer_for wrote) up.answer_is) alone
        (subst (TakesUp most before new st a line call g (answer_for wrote outcome_.answer)) (sym up.taken.free)
        (evaluates most before new st a call g outcome_ wrote (some_evaluated some) h (well_outcome st a call g up.records) auto))

    pub not_ends : (mid : Environment D) (s : Sessions) (error : AllocError) → HasPushedAndLogged meaning e mid a (needs_in st a call g) st cs_ (Err error) → AreSessionsAt s st →
        HasNotCome meaning most before (in_sessions s mid) st
    not_ends mid s error p stands =
        let w = writes_move e before mid st a.txn.0 cs_ (owing (with_own a.txn.0 (with_numbers cs_) st)) (Err error) up.engine p.writes in
        record {
          here = record {
            file_max = w.1.log.kept.max ∙ up.here.file_max;
            fault = ap (λ (k : Kept). k.fault) w.1.kept ∙ up.here.fault;
            last_txn = ap (λ (k : Kept). k.last_txn) w.1.kept ∙ up.here.last_txn;
            last_db = ap (λ (k : Kept). k.last_db) w.1.kept ∙ up.here.last_db;
            commits = ap (λ (k : Kept). k.commits) w.1.kept ∙ up.here.commits;
            totals = ap (λ (k : Kept). k.totals) w.1.kept ∙ up.here.totals;
            sessions_at = stands;
            apart = up.here.apart;
            checkpoint = ap (λ (k : Kept). is_some k.checkpoints.under_way) w.1.kept ∙ up.here.checkpoint;
            databases = λ calm. subst (KnowsDatabases st) (sym w.1.kept) (up.here.databases calm);
            valid = λ calm. w.0;
          };
          log = w.1.log;
          near = record {
            file = near_left (has_failed before.engine.trees.log) (has_failed mid.engine.trees.log) ((end_of before.engine.trees.log).file + waits_of before.engine.trees) ((end_of mid.engine.trees.log).file + waits_of mid.engine.trees)
                (owed_by before.sessions) (owed_by s) w.1.log.failed w.1.end (owed_is s st stands ∙ sym (owed_is before.sessions st up.here.sessions_at));
            node = let k = ap (λ (k : Kept). k.last_node) w.1.kept in omega (arith, k);
          };
        }

    pub cause_by : (wrote : Wrote) (o : Outcome) (was is : ℕ) → o.answer ≡ answer_for wrote answer → was ≤ is → (wrote ≡ Failed → HasRisen was is) → HasCause was is (Ok o)
    cause_by wrote o was is told never rose = record { never_falls = never; fault = λ fault. by wrote (sym fault ∙ told) rose }
      where
        calm : IsCalm answer
        calm = subst IsCalm (sym up.answer_is) (calm_outcome st a call g up.records)

        by : (w : Wrote) → DiskFault ≡ answer_for w answer → (w ≡ Failed → HasRisen was is) → HasRisen was is
        by Done e h = absurd (true≢false (ap is_disk_fault e ∙ faultless answer calm))
        by Full e h = absurd cc
        by NoNumbers e h = absurd cc
        by Failed e h = h refl

  -- the numbers leave room still
  pub goes_on : (e mid : Environment D) (st : Standing) (n : ℕ) (cs : List Changed) (owed : ℕ) (result : Result Wrote AllocError) → CanGoOn e → Writes e mid st n cs owed result → CanGoOn mid
  goes_on e mid st n cs owed (Ok Done) can w = by_kept (ap (λ (k : Kept). k.commits) w.4) (ap (λ (k : Kept). k.last_txn) w.4) can
    where
      by_kept : mid.engine.kept.commits ≡ e.engine.kept.commits → mid.engine.kept.last_txn ≡ e.engine.kept.last_txn → CanGoOn e → CanGoOn mid
      by_kept c l h = omega (arith, c, l, h)
  goes_on e mid st n cs owed (Ok Full) can w = subst (λ (k : Kept). k.commits ≤ k.last_txn) (sym w.1.kept) can
  goes_on e mid st n cs owed (Ok NoNumbers) can w = subst (λ (k : Kept). k.commits ≤ k.last_txn) (sym w.1.kept) can
  goes_on e mid st n cs owed (Ok Failed) can w = by_kept (ap (λ (k : Kept). k.commits) w.3) (ap (λ (k : Kept). k.last_txn) w.3) can
    where
      by_kept : mid.engine.kept.commits ≡ e.engine.kept.commits → mid.engine.kept.last_txn ≡ e.engine.kept.last_txn → CanGoOn e → CanGoOn mid
      by_kept c l h = omega (arith, c, l, h)
  goes_on e mid st n cs owed (Err error) can w = subst (λ (k : Kept). k.commits ≤ k.last_txn) (sym w.1.kept) can

  -- where a call has its locks the sessions stand somewhere
  pub stands_taken : (s : Sessions) (a : Active) (needs : List Need) (st : Standing) → HasTaken s true a needs st → AreSessionsAt s (record st { fault = None; locks = state_of s.locks.locks })
  stands_taken s a needs st taken = record { actives = taken.actives; own = taken.own; places = taken.places; waiting = taken.waiting; locks = refl }

  pub rose_by : (old new : Environment D) (txn : TxnId) (changes : List TreeChange) (names : List TreeName) (owed : ℕ) (result : Result Wrote AllocError) → has_failed old.engine.trees.log ≡ false →
      WritesAll meaning old new txn changes names owed result →
      IfOk result (λ wrote. wrote ≡ Failed → HasRisen (meaning.faults (disk_below old.engine.trees.log)) (meaning.faults (disk_below new.engine.trees.log)))
  rose_by old new txn changes names owed (Ok Done) works w = λ is. absurd cc
  rose_by old new txn changes names owed (Ok Full) works w = λ is. absurd cc
  rose_by old new txn changes names owed (Ok NoNumbers) works w = λ is. absurd cc
  rose_by old new txn changes names owed (Ok Failed) works w = λ is. w.0.tried.rose works
  rose_by old new txn changes names owed (Err error) works w = tt

  -- what a call got with changes that are its transaction's own, where these are logged or not
  pub logged_then : (old mid new : Environment D) (a : Active) (txn : TxnId) (needs : List Need) (st : Standing) (cs : List Changed) (result : Result Wrote AllocError) → a.txn ≡ txn → mid.engine ≡ old.engine →
      new.sessions ≡ mid.sessions → HasTaken mid.sessions true a needs (with_own txn.0 (with_numbers cs) st) →
      Writes mid new st txn.0 cs (owing (with_own txn.0 (with_numbers cs) st)) result → HasPushedAndLogged meaning old new a needs st cs result
  logged_then old mid new a txn needs st cs result is same sessions taken writes = record {
    more = with_numbers cs;
    taken = subst (λ (s : Sessions). HasTaken s true a needs (with_own a.txn.0 (with_numbers cs) st)) (sym sessions)
        (subst (λ (t : TxnId). HasTaken mid.sessions true a needs (with_own t.0 (with_numbers cs) st)) (sym is) taken);
    is = if_ok result;
    writes = writes_move mid old new st a.txn.0 cs (owing (with_own a.txn.0 (with_numbers cs) st)) result same
        (subst (λ (t : TxnId). Writes mid new st t.0 cs (owing (with_own t.0 (with_numbers cs) st)) result) (sym is) writes);
  }
    where
      if_ok : (r : Result Wrote AllocError) → IfOk r (λ wrote. with_numbers cs ≡ with_numbers cs)
      if_ok (Ok wrote) = refl
      if_ok (Err error) = tt

  pub none_pushed : (old : Environment D) (s : Sessions) (a : Active) (needs : List Need) (st : Standing) (cs : List Changed) (error : AllocError) → IsValidAt meaning old st → HasTaken s true a needs st →
      HasPushedAndLogged meaning old (in_sessions s old) a needs st cs (Err error)
  none_pushed old s a needs st cs error valid taken = record {
    more = [];
    taken = record {
      actives = taken.actives;
      own = subst (AreCounted s.txns.own.entries) (same_own a.txn.0 st.own) taken.own;
      places = taken.places;
      waiting = taken.waiting;
      free = taken.free;
      locks = taken.locks;
      told = taken.told;
      got = taken.got;
      reads = taken.reads;
    };
    is = tt;
    writes = (valid, record { log = same_buffer old.engine.trees.log; kept = refl; end = refl });
  }

  -- how much it had changed before
  pub has_pushed : (s : Sessions) (a : Active) (txn : TxnId) (needs : List Need) (more : Own) (counts : OwnCounts) (st : Standing) → a.txn ≡ txn → counts ≡ counted (st.own txn.0) → HasTaken s true a needs (with_own a.txn.0 more st) →
      HasPushed s a needs txn.0 more counts st
  has_pushed s a txn needs more counts st is counts_are taken = record { counts_are = counts_are; taken = subst (λ (t : TxnId). HasTaken s true a needs (with_own t.0 more st)) is taken }
