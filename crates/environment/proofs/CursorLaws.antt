-- Calls that open and close cursors.
use Rattle.std.proofs.Common.{◌≡◌, ◌∙◌, ℕ, ◌==◌, Bool, true, false, true≢false, cond, not, filter, inl, List, [], ◌∷◌, ◌++◌, Option, None, Some, is_some, Ok, refl, ap, sym, subst, arith}
use Rattle.std.proofs.Common.{Bor}
use Rattle.std.specs.Option.{option_copied, option_map, IfSome}
use Rattle.je_disk.specs.DiskMeaning.{DiskMeaning}
use Rattle.store_model.specs.declared.place.Place.{Place}
use Rattle.store_model.specs.declared.store.Database.{Database}
use Rattle.store_model.specs.declared.change.Change.{Change}
use Rattle.store_model.specs.declared.answer.Answer.{Answer}
use Rattle.store_model.specs.declared.answer.Answer.TheVariants.{Done, IdsEnded, NoCursor, NoDatabase, NameTaken, DiskFault}
use Rattle.store_model.specs.declared.call.Call.{Call}
use Rattle.store_model.specs.declared.call.Call.TheVariants.{Open, Close, Dup}
use Rattle.store_model.specs.Store.{database_of}
use Rattle.store_model.specs.Refusals.{access_refusal, or_refusal, taken_refusal}
use Rattle.je_answers.specs.declared.active.Active.{Active}
use Rattle.je_answers.specs.Standing.{Standing, active_of, place_at, with_at}
use Rattle.je_answers.specs.Refusals.{cursor_refusal, early_refusal, late_refusal, number_refusal, txn_refusal}
use Rattle.je_answers.specs.Events.{IsEvaluated, IsPerformed}
use Rattle.je_answers.specs.After.{after_evaluated, after_performed, drawn_by, fate_of, opened, opened_at}
use Rattle.je_answers.specs.Journal.{changes_evaluated, changes_performed, is_disk_fault, tried}
use Rattle.open_cursors.specs.declared.open_cursor.OpenCursor.{OpenCursor}
use Rattle.open_cursors.specs.Under.{IsUnderIn}
use Rattle.sessions.specs.declared.all_sessions.Sessions.{Sessions}
use Rattle.sessions.specs.AtStanding.{AreSessionsAt, with_places}
use Rattle.log_buffer.specs.Buffer.{IsUnchanged}
use Rattle.log_replay.specs.Rows.{Rows, store_of}
use Rattle.log_replay.specs.Logging.{record_named}
use Rattle.db_catalog.specs.declared.found_db.FoundDb.{FoundDb}
use Rattle.db_catalog.specs.Planning.{IsFoundAs, found_in}
use Rattle.txn_log.specs.Committing.{MakesStore}
use Rattle.engine.specs.Limits.{IsWithin}
use Rattle.engine.specs.Steps.{HasStepCause}
use Rattle.engine.proofs.CalmAnswers.{IsCalm, faultless}
use Rattle.environment.specs.declared.environment.Environment.{Environment}
use Rattle.environment.specs.declared.to_open.ToOpen.TheVariants.{Refused, Opens}
use Rattle.environment.specs.Cursors.{OpensOrCloses, IsOpening, IsToOpen}
use Rattle.environment.specs.Limits.{owing_after, written_evaluated, written_performed}
use Rattle.environment.specs.Steps.{HasCome, HasNotCome, HasStepped, PerformsAnswer, StandsAt}
use Rattle.environment.specs.Whole.{CanGoOn, HasLimit, disk_of, reach_of}
use Rattle.environment.proofs.Answering.{owed_is, within_more}
use Rattle.environment.proofs.BeginLaws.{sessions_same}
use Rattle.environment.proofs.EarlyLaws.{not_early, same_buffer}
use Rattle.environment.proofs.EndingLaws.{near_owed}
use Rattle.environment.proofs.FinishLaws.{elsewhere_at, in_sessions}
use Rattle.environment.proofs.LateLaws.{IsThere, number_by, number_ended, number_is_none, there_by}
use Rattle.environment.proofs.RefusedLaws.{refused_late}

-- what is told of what is there
pub some_told : {X : Type 0} (P : X → Type 0) (o : Option X) (x : X) → o ≡ Some x → IfSome o P → P x
some_told {X} P o x is told = subst (λ (y : Option X). IfSome y P) is told

-- ---- what refuses a cursor on a database

inside_number : (last : ℕ) (o : Option Active) (cursor : ℕ) (db : List ℕ) → txn_refusal (Open cursor db) o ≡ None → number_refusal last o ≡ None
inside_number last None cursor db is = absurd cc
inside_number last (Some a) cursor db is = refl

module _ (st : Standing) (session cursor : ℕ) (db : List ℕ) (early : early_refusal st session (Open cursor db) ≡ None) where
  late_open : (d : Option Database) (taken : Bool) → database_of db st.store ≡ d → is_some (place_at cursor (st.places session)) ≡ taken →
      late_refusal st session (Open cursor db) ≡ or_refusal (access_refusal (is_some d)) (or_refusal (taken_refusal taken) None)
  late_open d taken is e =
      ap (λ (n : Option Answer). or_refusal n (or_refusal (access_refusal (is_some (database_of db st.store))) (or_refusal (taken_refusal (is_some (place_at cursor (st.places session)))) None)))
      (inside_number st.last_txn (active_of session st.actives) cursor db (not_early st session (Open cursor db) early).txn)
      ∙ ap (λ (o : Option Database). or_refusal (access_refusal (is_some o)) (or_refusal (taken_refusal (is_some (place_at cursor (st.places session)))) None)) is
      ∙ ap (λ (b : Bool). or_refusal (access_refusal (is_some d)) (or_refusal (taken_refusal b) None)) e

  pub open_absent : database_of db st.store ≡ None → IsToOpen st session (Open cursor db) (Refused NoDatabase)
  open_absent none = (late_open None (is_some (place_at cursor (st.places session))) none refl, refl)

  module _ (rows : Rows) (makes : MakesStore rows st.last_db st) (found : Option FoundDb) (f : FoundDb) (exact : found ≡ found_in (record_named rows db)) (as_ : IsFoundAs (database_of db (store_of rows)) found) (there : found ≡ Some f) where
    d_ : IsThere rows st makes db f
    d_ = there_by rows st makes db found f as_ there

    pub open_taken : is_some (place_at cursor (st.places session)) ≡ true → IsToOpen st session (Open cursor db) (Refused NameTaken)
    open_taken taken = (late_open (Some d_.database) true d_.is taken, refl)

    pub open_opens : (name : List ℕ) → name ≡ db → place_at cursor (st.places session) ≡ None →
        IsToOpen st session (Open cursor db) (Opens (record { session = session; place = record { cursor = cursor; db = f.number; at = None }; name = name; kind = f.kind }))
    open_opens name same free =
        let number : st.numbers db ≡ f.number = number_by rows st makes db found f exact there in
        record {
          is = tt;
          late = late_open (Some d_.database) false d_.is (ap is_some free);
          its = refl;
          free = free;
          under = subst (λ (n : List ℕ). IsUnderIn st.store st.numbers f.number n f.kind) (sym same) (record { database = d_.database; its = d_.is; kind_is = d_.kind; number_is = number });
          leaves = λ line. ap (λ (n : ℕ). opened cursor n None session st) number;
        }

-- ---- what refuses another cursor where one stands

find_place : (o : Option (Bor OpenCursor)) (p : Option Place) → option_map (λ (c : OpenCursor). c.place) (option_copied o) ≡ p → is_some o ≡ is_some p
find_place None p is = ap is_some is
find_place (Some c) p is = ap is_some is

pub place_found : (o : Option (Bor OpenCursor)) (p : Option Place) (b : Bool) → option_map (λ (c : OpenCursor). c.place) (option_copied o) ≡ p → b ≡ is_some o → is_some p ≡ b
place_found o p b is e = sym (find_place o p is) ∙ sym e

pub none_found : (p : Option Place) → is_some p ≡ false → p ≡ None
none_found None is = refl
none_found (Some p) is = absurd (true≢false is)

abbrev copy_to : ℕ → Place → Place
copy_to to p = record { cursor = to; db = p.db; at = p.at }

pub record IsCopied (p : Option Place) (to : ℕ) (copy : Place) : Type 0 where
  pub place : Place
  pub its : p ≡ Some place
  pub is : copy ≡ copy_to to place

copied_some : (p : Option Place) (to : ℕ) (copy : Place) → Some copy ≡ option_map (copy_to to) p → IsCopied p to copy
copied_some None to copy is = absurd cc
copied_some (Some q) to copy is = record { place = q; its = refl; is = let e = is in cc }

copied_none : (p : Option Place) (to : ℕ) → None ≡ option_map (copy_to to) p → p ≡ None
copied_none None to is = refl
copied_none (Some q) to is = absurd cc

module _ (st : Standing) (session : ℕ) where
  number_ : Option Answer
  number_ = number_refusal st.last_txn (active_of session st.actives)

  module _ (cursor to : ℕ) where
    late_dup : (n : Option Answer) (p : Option Place) (taken : Bool) → number_refusal st.last_txn (active_of session st.actives) ≡ n → place_at cursor (st.places session) ≡ p → is_some (place_at to (st.places session)) ≡ taken →
        late_refusal st session (Dup cursor to) ≡ or_refusal n (or_refusal (cond (is_some p) None (Some NoCursor)) (or_refusal (taken_refusal taken) None))
    late_dup n p taken en ep et =
        ap (λ (x : Option Answer). or_refusal x (or_refusal (cursor_refusal cursor (st.places session)) (or_refusal (taken_refusal (is_some (place_at to (st.places session)))) None))) en
        ∙ ap (λ (x : Option Place). or_refusal n (or_refusal (cond (is_some x) None (Some NoCursor)) (or_refusal (taken_refusal (is_some (place_at to (st.places session)))) None))) ep
        ∙ ap (λ (b : Bool). or_refusal n (or_refusal (cond (is_some p) None (Some NoCursor)) (or_refusal (taken_refusal b) None))) et

    pub dup_ended : is_some (number_refusal st.last_txn (active_of session st.actives)) ≡ true → IsToOpen st session (Dup cursor to) (Refused IdsEnded)
    dup_ended ended = (late_dup (Some IdsEnded) (place_at cursor (st.places session)) (is_some (place_at to (st.places session))) (number_ended st.last_txn (active_of session st.actives) ended) refl refl, refl)

    module _ (left : is_some (number_refusal st.last_txn (active_of session st.actives)) ≡ false) (copy : Option OpenCursor)
        (places : option_map (λ (c : OpenCursor). c.place) copy ≡ option_map (copy_to to) (place_at cursor (st.places session))) where
      none_ : number_refusal st.last_txn (active_of session st.actives) ≡ None
      none_ = number_is_none (number_refusal st.last_txn (active_of session st.actives)) left

      pub dup_absent : copy ≡ None → IsToOpen st session (Dup cursor to) (Refused NoCursor)
      dup_absent absent =
          let gone = copied_none (place_at cursor (st.places session)) to (sym (ap (option_map (λ (c : OpenCursor). c.place)) absent) ∙ places) in
          (late_dup None None (is_some (place_at to (st.places session))) none_ gone refl, refl)

      its_ : (c : OpenCursor) → copy ≡ Some c → IsCopied (place_at cursor (st.places session)) to c.place
      its_ c is = copied_some (place_at cursor (st.places session)) to c.place (sym (ap (option_map (λ (x : OpenCursor). x.place)) is) ∙ places)

      pub dup_taken : (c : OpenCursor) → copy ≡ Some c → is_some (place_at to (st.places session)) ≡ true → IsToOpen st session (Dup cursor to) (Refused NameTaken)
      dup_taken c is taken = let p = its_ c is in (late_dup None (Some p.place) true none_ p.its taken, refl)

      pub dup_opens : (c : OpenCursor) → copy ≡ Some c → c.session ≡ session → IsUnderIn st.store st.numbers c.place.db c.name c.kind → is_some (place_at to (st.places session)) ≡ false →
          IsToOpen st session (Dup cursor to) (Opens c)
      dup_opens c is its under free =
          let p = its_ c is in
          record {
            is = tt;
            late = late_dup None (Some p.place) false none_ p.its free;
            its = its;
            free = subst (λ (n : ℕ). place_at n (st.places session) ≡ None) (sym (ap (λ (x : Place). x.cursor) p.is)) (none_found (place_at to (st.places session)) free);
            under = under;
            leaves = λ line. ap (λ (o : Option Place). opened_at o to session st) p.its ∙ ap (λ (x : Place). with_places session (st.places session ++ x ∷ []) st) (sym p.is);
          }

  -- ---- what refuses to close a cursor

  module _ (cursor : ℕ) where
    late_close : (n : Option Answer) (p : Option Place) → number_refusal st.last_txn (active_of session st.actives) ≡ n → place_at cursor (st.places session) ≡ p →
        late_refusal st session (Close cursor) ≡ or_refusal n (or_refusal (cond (is_some p) None (Some NoCursor)) None)
    late_close n p en ep =
        ap (λ (x : Option Answer). or_refusal x (or_refusal (cursor_refusal cursor (st.places session)) None)) en
        ∙ ap (λ (x : Option Place). or_refusal n (or_refusal (cond (is_some x) None (Some NoCursor)) None)) ep

    pub close_ended : is_some (number_refusal st.last_txn (active_of session st.actives)) ≡ true → Some IdsEnded ≡ late_refusal st session (Close cursor)
    close_ended ended = sym (late_close (Some IdsEnded) (place_at cursor (st.places session)) (number_ended st.last_txn (active_of session st.actives) ended) refl)

    pub close_absent : is_some (number_refusal st.last_txn (active_of session st.actives)) ≡ false → (o : Option (Bor OpenCursor)) → option_map (λ (c : OpenCursor). c.place) (option_copied o) ≡ place_at cursor (st.places session) → o ≡ None →
        Some NoCursor ≡ late_refusal st session (Close cursor)
    close_absent left o is none = sym (late_close None None (number_is_none _ left) (sym is ∙ ap (λ (x : Option (Bor OpenCursor)). option_map (λ (c : OpenCursor). c.place) (option_copied x)) none))

    pub close_closes : is_some (number_refusal st.last_txn (active_of session st.actives)) ≡ false → (o : Option (Bor OpenCursor)) (c : Bor OpenCursor) → option_map (λ (c : OpenCursor). c.place) (option_copied o) ≡ place_at cursor (st.places session) →
        o ≡ Some c → None ≡ late_refusal st session (Close cursor)
    close_closes left o c is there = sym (late_close None (Some c.now.place) (number_is_none _ left) (sym is ∙ ap (λ (x : Option (Bor OpenCursor)). option_map (λ (c : OpenCursor). c.place) (option_copied x)) there))

-- ---- cursors are others

performs_done : (call : Call) (limit : Option Answer) (st : Standing) (session line : ℕ) → OpensOrCloses call → IsPerformed call limit st session line Done []
performs_done (Open cursor db) limit st session line is = (refl, refl)
performs_done (Close cursor) limit st session line is = (refl, refl)
performs_done (Dup cursor to) limit st session line is = (refl, refl)
performs_done call limit st session line is = absurd is

writes_none : (call : Call) (st : Standing) (session : ℕ) → OpensOrCloses call → written_performed call st session ≡ []
writes_none (Open cursor db) st session is = refl
writes_none (Close cursor) st session is = refl
writes_none (Dup cursor to) st session is = refl
writes_none call st session is = absurd is

commits_none : (call : Call) (st : Standing) (session : ℕ) → OpensOrCloses call → changes_performed call st session ≡ []
commits_none (Open cursor db) st session is = refl
commits_none (Close cursor) st session is = refl
commits_none (Dup cursor to) st session is = refl
commits_none call st session is = absurd is

pub never_done : Done ≡ DiskFault → ⊥
never_done is = absurd cc

module _ {D : Type 0} (meaning : DiskMeaning D) where
  -- with other cursors it stands there
  placed_at : (most : ℕ) (e : Environment D) (s : Sessions) (st : Standing) (session : ℕ) (others : List Place) → AreSessionsAt s (with_places session others st) → StandsAt most meaning e st →
      StandsAt most meaning (in_sessions s e) (with_places session others st)
  placed_at most e s st session others stands at = elsewhere_at most meaning e s st st.own (with_at session others st.places) st.locks refl stands at

  -- and reaches as far
  pub near_placed : (e : Environment D) (s : Sessions) (st : Standing) (session : ℕ) (others : List Place) → AreSessionsAt e.sessions st → AreSessionsAt s (with_places session others st) → IsWithin (reach_of (in_sessions s e)) (reach_of e)
  near_placed e s st session others at stands = near_owed e s (owed_is s (with_places session others st) stands ∙ sym (owed_is e.sessions st at))

  pub cursors_come : (most : ℕ) (e : Environment D) (s : Sessions) (st : Standing) (session line : ℕ) (call : Call) (others : List Place) → OpensOrCloses call → late_refusal st session call ≡ None →
      after_performed call st session line Done [] ≡ with_places session others st → AreSessionsAt s (with_places session others st) → st.fault ≡ None → StandsAt most meaning e st →
      HasCome meaning most e (in_sessions s e) st session line call Done []
  cursors_come most e s st session line call others is late leaves stands none at = subst Come (sym late) (record {
    limit = None;
    has_limit = subst (λ (cs : List Change). HasLimit e (owing_after st session) cs None) (sym (writes_none call st session is)) refl;
    answers = performs_done call None st session line is;
    here = subst (StandsAt most meaning (in_sessions s e)) (sym leaves) (placed_at most e s st session others stands at);
    numbered = tt;
    fault = ap (λ (x : Standing). x.fault) leaves ∙ none;
    logged = inl (same_buffer e.engine.trees.log, ap (λ (cs : List Change). tried cs (fate_of Done)) (commits_none call st session is), ap (λ (cs : List Change). tried cs (fate_of Done)) (writes_none call st session is));
    near = within_more e (in_sessions s e) (written_performed call st session) (near_placed e s st session others at.sessions_at stands);
  })
    where
      Come : Option Answer → Type 0
      Come late = HasStepped meaning most e (in_sessions s e) (owing_after st session) (written_evaluated late st session call) (changes_evaluated late st session call)
          (λ limit. IsEvaluated late limit st session line call Done []) (after_evaluated late st session line call Done []) Done

  -- a refusal alone
  pub refusal_comes : (most : ℕ) (old new : Environment D) (st : Standing) (session line : ℕ) (call : Call) (answer : Answer) → StandsAt most meaning new (drawn_by (active_of session st.actives) st) → st.fault ≡ None →
      IsUnchanged old.engine.trees.log new.engine.trees.log → IsWithin (reach_of new) (reach_of old) → late_refusal st session call ≡ Some answer → IsCalm answer →
      HasCome meaning most old new st session line call answer []
  refusal_comes most old new st session line call answer here none same near late calm =
      refused_late meaning most old new st session line call answer (record { answer = answer; victims = [] }) here none same near late calm refl refl

  -- a cursor more
  pub opened_comes : (most : ℕ) (e : Environment D) (s : Sessions) (st : Standing) (session line : ℕ) (call : Call) (c : OpenCursor) → IsOpening st session call c →
      (place_at c.place.cursor (st.places c.session) ≡ None → IsUnderIn st.store st.numbers c.place.db c.name c.kind → AreSessionsAt s (with_places c.session (st.places c.session ++ c.place ∷ []) st)) → st.fault ≡ None →
      StandsAt most meaning e st → HasCome meaning most e (in_sessions s e) st session line call Done []
  opened_comes most e s st session line call c o stands none at =
      cursors_come most e s st session line call (st.places session ++ c.place ∷ []) o.is o.late (o.leaves line)
      (subst (λ (n : ℕ). AreSessionsAt s (with_places n (st.places n ++ c.place ∷ []) st)) o.its
      (stands (subst (λ (n : ℕ). place_at c.place.cursor (st.places n) ≡ None) (sym o.its) o.free) o.under)) none at

  -- there was no memory
  pub not_opened : (most : ℕ) (e : Environment D) (s : Sessions) (st : Standing) → AreSessionsAt s st → StandsAt most meaning e st → HasNotCome meaning most e (in_sessions s e) st
  not_opened most e s st stands at = record {
    here = sessions_same most meaning e s st stands at;
    log = same_buffer e.engine.trees.log;
    near = near_owed e s (owed_is s st stands ∙ sym (owed_is e.sessions st at.sessions_at));
  }

-- a calm answer is no fault of the disk
pub calm_step : (before after : ℕ) (answer : Answer) → IsCalm answer → after ≡ before → HasStepCause before after (Ok answer)
calm_step before after answer calm same = record {
  never_falls = omega (arith, same);
  fault = λ fault. absurd (true≢false (ap is_disk_fault (sym fault) ∙ faultless answer calm));
}

module _ {D : Type 0} (meaning : DiskMeaning D) where
  -- a refusal, wherever the model stands
  pub refusal_performs : (old new : Environment D) (session : ℕ) (call : Call) (answer : Answer) → IsCalm answer → ((most : ℕ) (st : Standing) → StandsAt most meaning old st → late_refusal st session call ≡ Some answer) →
      old.engine.kept.fault ≡ None → ((most : ℕ) (st : Standing) → StandsAt most meaning old st → StandsAt most meaning new (drawn_by (active_of session st.actives) st)) →
      IsUnchanged old.engine.trees.log new.engine.trees.log → IsWithin (reach_of new) (reach_of old) → CanGoOn new → meaning.faults (disk_of new) ≡ meaning.faults (disk_of old) →
      PerformsAnswer meaning old new session call (Ok answer)
  refusal_performs old new session call answer calm late valid here same near bounds disk = record {
    comes = λ most st line at sound early.
        refusal_comes meaning most old new st session line call answer (here most st at) (sym at.fault ∙ valid) same near (late most st at) calm;
    near = tt;
    bounds = bounds;
    cause = calm_step (meaning.faults (disk_of old)) (meaning.faults (disk_of new)) answer calm disk;
  }

  -- a cursor that is closed
  pub close_performs : (e : Environment D) (s : Sessions) (session cursor : ℕ) → ((most : ℕ) (st : Standing) → StandsAt most meaning e st → late_refusal st session (Close cursor) ≡ None) → e.engine.kept.fault ≡ None →
      ((st : Standing) → AreSessionsAt e.sessions st → AreSessionsAt s (with_places session (filter (λ p. not (p.cursor == cursor)) (st.places session)) st)) → CanGoOn e →
      PerformsAnswer meaning e (in_sessions s e) session (Close cursor) (Ok Done)
  close_performs e s session cursor late valid stands bounds = record {
    comes = λ most st line at sound early.
        cursors_come meaning most e s st session line (Close cursor) (filter (λ p. not (p.cursor == cursor)) (st.places session)) tt (late most st at) refl (stands st at.sessions_at) (sym at.fault ∙ valid) at;
    near = tt;
    bounds = bounds;
    cause = record { never_falls = omega arith; fault = λ done. absurd (never_done done) };
  }
