-- A log that an environment works on, one entry longer.
use Rattle.std.proofs.Common.{◌≡◌, ℕ, ◌<◌, ◌≤◌, ◌==◌, nat_le, Bool, true, false, cond, List, [], ◌∷◌, ◌++◌, Option, None, Some, unwrap_or, refl, sym, ap, subst, ◌∙◌, arith, ◌⊎◌, inl, inr}
use Rattle.std.specs.Prelude.{◌≢◌, ◌||◌}
use Rattle.std.proofs.lemmas.Bool.{true≢false, and_parts, leb-true, le-leb, lt-leb, eqb-true, eqb-false, cond-false, cases_lt}
use Rattle.std.proofs.lemmas.Option.{none-some, same_Some}
use Rattle.std.proofs.lemmas.List.{append-nil}
use Rattle.std.proofs.lemmas.List.Elements.{filter-append}
use Rattle.std.specs.List.{AllByRecursion}
use Rattle.je_order.specs.declared.name.Name.{Name}
use Rattle.node_core.proofs.NameOrder.{same as same_name}
use Rattle.je_order.proofs.Orderings.{equal_from_test}
use Rattle.log_entry.specs.declared.entry.Entry.{Entry}
use Rattle.log_entry.specs.declared.entry.Entry.TheVariants.{Put, Delete, Commit, In, Bin, BinDelta, CkptStart, CkptEnd, FileSummary}
use Rattle.log_replay.specs.Wrong.{or_else}
use Rattle.je_order.proofs.Lists.{all_weaker, all_append}
use Rattle.log_trees.specs.Placed.{Placed}
use Rattle.log_trees.specs.Changes.{Written, unwritten, LoggedChange, is_of, last_of, changes_from}
use Rattle.log_trees.specs.Trees.{rows_of_roots}
use Rattle.log_trees.proofs.Staying.{roots_stay}
use Rattle.log_trees.proofs.Rooted.{last_of-append}
use Rattle.log_meaning.specs.Redo.{Redo, nothing_redone, pushed, emptied, set_at, unset_at, redo_entry, redone, record_at, newest}
use Rattle.log_meaning.specs.Checkpoint.{Checkpoint, no_checkpoint, checkpoint_in, last_end, last_checkpoint, behind, restarted_from, restarted}
use Rattle.log_meaning.specs.Stands.{pick, Rises, has, Stands}
use Rattle.log_meaning.specs.Growth.{is_neutral, StandsNeutral, IsFreeFor, StandsPut, StandsDelete, StandsCommit, StandsEnd, StandsFewer, StandsOpen}
use Rattle.log_meaning.proofs.RedoLaws.{redone-in, redone-out, redone-none, last_end-push, last_checkpoint-push, restarted-push}
use Rattle.log_meaning.proofs.Lasts.{last-holds, last-unchanged, last-value, last-tied, rises-none, rises-push, redo_changes, all_from, none_from}

-- the sets of what an environment has
abbrev Flags : Type 0
Flags = ℕ → Bool

abbrev Data : Type 0
Data = ℕ → Name → Option (List ℕ)

abbrev Own : Type 0
Own = ℕ → List LoggedChange

-- ---- what the longer log reaches back to

reach-push : (es : List Placed) (next : ℕ) (p : Placed) → checkpoint_in p.0 p.1 ≡ None → next < p.0 → ((last_checkpoint es).at ≤ next) × ((last_checkpoint es).redo ≤ next) →
    ((last_checkpoint (es ++ p ∷ [])).at ≤ p.0) × ((last_checkpoint (es ++ p ∷ [])).redo ≤ p.0)
reach-push es next p none lt reach =
    let at = reach.0 in let redo = reach.1 in
    subst (λ (c : Checkpoint). (c.at ≤ p.0) × (c.redo ≤ p.0)) (sym (last_checkpoint-push es p none)) (omega (arith, at, lt), omega (arith, redo, lt))

restarted-on : (es : List Placed) (next : ℕ) (p : Placed) → checkpoint_in p.0 p.1 ≡ None → next < p.0 → ((last_checkpoint es).at ≤ next) × ((last_checkpoint es).redo ≤ next) →
    restarted (es ++ p ∷ []) ≡ redo_entry p.0 p.1 (restarted es)
restarted-on es next p none lt reach =
    let at = reach.0 in let redo = reach.1 in
    restarted-push es p none (omega (arith, at, lt)) (omega (arith, redo, lt))

-- ---- an entry that changes nothing

-- an entry that a redo passes over
record IsPassed (at : ℕ) (entry : Entry) : Type 0 where
  over : (redo : Redo) → redo_entry at entry redo ≡ redo
  no_end : checkpoint_in at entry ≡ None

neutral_passed : (at : ℕ) (entry : Entry) → is_neutral entry ≡ true → IsPassed at entry
neutral_passed at (In db node level slots) h = record { over = λ redo. refl; no_end = refl }
neutral_passed at (Bin db node slots) h = record { over = λ redo. refl; no_end = refl }
neutral_passed at (BinDelta db node full slots) h = record { over = λ redo. refl; no_end = refl }
neutral_passed at (CkptStart number) h = record { over = λ redo. refl; no_end = refl }
neutral_passed at (FileSummary files) h = record { over = λ redo. refl; no_end = refl }
neutral_passed at entry h = absurd (true≢false (sym h))

redone-passed : (r : ℕ) (es : List Placed) (p : Placed) → ((redo : Redo) → redo_entry p.0 p.1 redo ≡ redo) → redone r (es ++ p ∷ []) ≡ redone r es
redone-passed r es p over = by_order (cases_lt p.0 r)
  where
    by_order : (p.0 < r) ⊎ (r ≤ p.0) → redone r (es ++ p ∷ []) ≡ redone r es
    by_order (inl lt) = redone-out r es p lt
    by_order (inr le) = redone-in r es p le ∙ over (redone r es)

own-later : (base next at : ℕ) (cs : List LoggedChange) → next < at → AllByRecursion (λ c. (base ≤ c.written.at) × (c.written.at ≤ next)) cs →
    AllByRecursion (λ c. (base ≤ c.written.at) × (c.written.at ≤ at)) cs
own-later base next at cs lt all =
    all_weaker (λ (c : LoggedChange). (base ≤ c.written.at) × (c.written.at ≤ next)) (λ c. (base ≤ c.written.at) × (c.written.at ≤ at))
    (λ c h. (h.0, omega (arith, h.1, lt))) cs all

-- what concerns the redo of a log where a passed entry is one more
stands-passed : (es : List Placed) (base next at : ℕ) (is_open : Flags) (rows : Data) (is_live : Flags) (logged : Own) (entry : Entry) →
    Stands es base next is_open rows is_live logged → next < at → ((redo : Redo) → redo_entry at entry redo ≡ redo) →
    ((last_checkpoint (es ++ (at, entry) ∷ [])).at ≤ at) × ((last_checkpoint (es ++ (at, entry) ∷ [])).redo ≤ at) →
    ((d : ℕ) (x : Name) → is_open d ≡ true → (record_at (restarted (es ++ (at, entry) ∷ [])) d x).value ≡ rows d x) →
    ((t : ℕ) → is_live t ≡ true → (restarted (es ++ (at, entry) ∷ [])).pending t ≡ logged t) →
    Stands (es ++ (at, entry) ∷ []) base at is_open rows is_live logged
stands-passed es base next at is_open rows is_live logged entry s lt over reach same own =
    let p : Placed = (at, entry) in
    let still : (r : ℕ) → redone r (es ++ p ∷ []) ≡ redone r es = λ r. redone-passed r es p over in
    let newest_is : (d : ℕ) (x : Name) → newest base (es ++ p ∷ []) d x ≡ newest base es d x = λ d x. ap (λ (r : Redo). record_at r d x) (still base) in
    record {
      begun = let b = s.begun in omega (arith, b, lt);
      reach = reach;
      past = λ d x. let low = s.past d x in subst (λ (w : Written). w.at ≤ at) (sym (newest_is d x)) (omega (arith, low, lt));
      past_own = λ t live. own-later base next at (logged t) lt (s.past_own t live);
      same = same;
      own = own;
      redo = λ r le d x start.
          ap (λ (k : Redo). last_of d x k.done start) (still r) ∙ s.redo r le d x start ∙ ap (λ (w : Written). pick r w start) (sym (newest_is d x));
      tied = λ d x open_. subst (λ (w : Written). base ≤ w.at → w.value ≡ rows d x) (sym (newest_is d x)) (s.tied d x open_);
      later = λ r le t live. ap (λ (k : Redo). k.pending t) (still r) ∙ s.later r le t live;
      alone = λ t live d x. subst (λ (w : Written). Rises d x w (logged t)) (sym (newest_is d x)) (s.alone t live d x);
      apart = s.apart;
    }

pub stands_neutral : StandsNeutral
stands_neutral es base next at is_open rows is_live logged entry s lt neutral =
    let p : Placed = (at, entry) in
    let passed = neutral_passed at entry neutral in
    let again : restarted (es ++ p ∷ []) ≡ restarted es = restarted-on es next p passed.no_end lt s.reach ∙ passed.over (restarted es) in
    stands-passed es base next at is_open rows is_live logged entry s lt passed.over (reach-push es next p passed.no_end lt s.reach)
    (λ d x open_. ap (λ (r : Redo). (record_at r d x).value) again ∙ s.same d x open_)
    (λ t live. ap (λ (r : Redo). r.pending t) again ∙ s.own t live)

-- ---- a change

-- an entry by which one more change of a transaction waits
record IsChange (at : ℕ) (entry : Entry) (t : ℕ) (c : LoggedChange) : Type 0 where
  done : (redo : Redo) → (redo_entry at entry redo).done ≡ redo.done
  pending : (redo : Redo) → (redo_entry at entry redo).pending ≡ pushed t c redo.pending
  no_end : checkpoint_in at entry ≡ None

-- two are the same where a change of one name is one of another, so what is free of the one is free of the other
free_same : (d : ℕ) (x : Name) (c : LoggedChange) (cs : List LoggedChange) → is_of d x c ≡ true → has c.db c.name cs ≡ false → has d x cs ≡ false
free_same d x c cs of none =
    let both = and_parts (c.db == d) _ of in
    let db : c.db ≡ d = eqb-true c.db d both.0 in
    let name : c.name ≡ x = same_name c.name x (equal_from_test _ both.1) in
    subst (λ (y : Name). has d y cs ≡ false) name (subst (λ (e : ℕ). has e c.name cs ≡ false) db none)

has-push : (d : ℕ) (x : Name) (cs : List LoggedChange) (c : LoggedChange) → is_of d x c ≡ false → has d x cs ≡ false → has d x (cs ++ c ∷ []) ≡ false
has-push d x [] c other none = ap (λ (b : Bool). b || false) other
has-push d x (e ∷ cs) c other none = by_test (is_of d x e) none (has-push d x cs c other)
  where
    by_test : (b : Bool) → (b || has d x cs) ≡ false → (has d x cs ≡ false → has d x (cs ++ c ∷ []) ≡ false) → (b || has d x (cs ++ c ∷ [])) ≡ false
    by_test true h rest = h
    by_test false h rest = rest h

stands_change : (es : List Placed) (base next at : ℕ) (is_open : Flags) (rows : Data) (is_live : Flags) (logged : Own) (entry : Entry) (t : ℕ) (c : LoggedChange) →
    Stands es base next is_open rows is_live logged → next < at → is_live t ≡ true → IsFreeFor is_live logged t c.db c.name → c.written.at ≡ at → IsChange at entry t c →
    Stands (es ++ (at, entry) ∷ []) base at is_open rows is_live (pushed t c logged)
stands_change es base next at is_open rows is_live logged entry t c s lt t_live free c_at is =
    let p : Placed = (at, entry) in
    let again : restarted (es ++ p ∷ []) ≡ redo_entry at entry (restarted es) = restarted-on es next p is.no_end lt s.reach in
    let begun = s.begun in
    record {
      begun = omega (arith, begun, lt);
      reach = reach-push es next p is.no_end lt s.reach;
      past = λ d x. let low = s.past d x in subst (λ (w : Written). w.at ≤ at) (sym (newest_is d x)) (omega (arith, low, lt));
      past_own = λ u live. past_own u (t == u) (own-later base next at (logged u) lt (s.past_own u live));
      same = λ d x open_. ap (λ (l : List LoggedChange). (last_of d x l unwritten).value) (ap (λ (r : Redo). r.done) again ∙ is.done (restarted es)) ∙ s.same d x open_;
      own = λ u live.
          ap (λ (r : Redo). r.pending u) again ∙ ap (λ (f : Own). f u) (is.pending (restarted es))
          ∙ ap (λ (l : List LoggedChange). cond (t == u) (l ++ c ∷ []) l) (s.own u live);
      redo = λ r le d x start. ap (λ (l : List LoggedChange). last_of d x l start) (done_is r) ∙ s.redo r le d x start ∙ ap (λ (w : Written). pick r w start) (sym (newest_is d x));
      tied = λ d x open_. subst (λ (w : Written). base ≤ w.at → w.value ≡ rows d x) (sym (newest_is d x)) (s.tied d x open_);
      later = λ r le u live. later r u (cases_lt at r) (s.later r le u live);
      alone = λ u live d x. subst (λ (w : Written). Rises d x w (pushed t c logged u)) (sym (newest_is d x)) (alone d x u (t == u) (s.alone u live d x)
          (last-holds (λ (w : Written). w.at ≤ next) d x (logged u) (newest base es d x) (s.past d x)
          (all_weaker (λ (e : LoggedChange). (base ≤ e.written.at) × (e.written.at ≤ next)) (λ e. e.written.at ≤ next) (λ e h. h.1) (logged u) (s.past_own u live))));
      apart = λ u v u_live v_live other d x. apart u v d x (t == u) (t == v) refl refl u_live v_live other (s.apart u v u_live v_live other d x);
    }
  where
    done_is : (r : ℕ) → (redone r (es ++ (at, entry) ∷ [])).done ≡ (redone r es).done
    done_is r = by_order (cases_lt at r)
      where
        by_order : (at < r) ⊎ (r ≤ at) → (redone r (es ++ (at, entry) ∷ [])).done ≡ (redone r es).done
        by_order (inl less) = ap (λ (k : Redo). k.done) (redone-out r es (at, entry) less)
        by_order (inr le) = ap (λ (k : Redo). k.done) (redone-in r es (at, entry) le) ∙ is.done (redone r es)

    newest_is : (d : ℕ) (x : Name) → newest base (es ++ (at, entry) ∷ []) d x ≡ newest base es d x
    newest_is d x = ap (λ (l : List LoggedChange). last_of d x l unwritten) (done_is base)

    past_own : (u : ℕ) (b : Bool) → AllByRecursion (λ (e : LoggedChange). (base ≤ e.written.at) × (e.written.at ≤ at)) (logged u) →
        AllByRecursion (λ (e : LoggedChange). (base ≤ e.written.at) × (e.written.at ≤ at)) (cond b (logged u ++ c ∷ []) (logged u))
    past_own u true all =
        let begun = s.begun in
        all_append (λ (e : LoggedChange). (base ≤ e.written.at) × (e.written.at ≤ at)) (logged u) (c ∷ []) all ((omega (arith, c_at, begun, lt), omega (arith, c_at)), tt)
    past_own u false all = all

    later : (r u : ℕ) → (at < r) ⊎ (r ≤ at) → (redone r es).pending u ≡ changes_from r (logged u) →
        (redone r (es ++ (at, entry) ∷ [])).pending u ≡ changes_from r (pushed t c logged u)
    later r u (inl less) was = ap (λ (k : Redo). k.pending u) (redone-out r es (at, entry) less) ∙ was ∙ by_test (t == u)
      where
        by_test : (b : Bool) → changes_from r (logged u) ≡ changes_from r (cond b (logged u ++ c ∷ []) (logged u))
        by_test true =
            let none : changes_from r (c ∷ []) ≡ [] = none_from r (c ∷ []) (omega (arith, c_at, less), tt) in
            sym (append-nil (changes_from r (logged u))) ∙ ap (λ (l : List LoggedChange). changes_from r (logged u) ++ l) (sym none)
            ∙ sym (filter-append (λ (e : LoggedChange). nat_le r e.written.at) (logged u) (c ∷ []))
        by_test false = refl
    later r u (inr le) was =
        ap (λ (k : Redo). k.pending u) (redone-in r es (at, entry) le) ∙ ap (λ (f : Own). f u) (is.pending (redone r es))
        ∙ ap (λ (l : List LoggedChange). cond (t == u) (l ++ c ∷ []) l) was ∙ by_test (t == u)
      where
        by_test : (b : Bool) → cond b (changes_from r (logged u) ++ c ∷ []) (changes_from r (logged u)) ≡ changes_from r (cond b (logged u ++ c ∷ []) (logged u))
        by_test true =
            let one : changes_from r (c ∷ []) ≡ c ∷ [] = all_from r (c ∷ []) (omega (arith, c_at, le), tt) in
            ap (λ (l : List LoggedChange). changes_from r (logged u) ++ l) (sym one) ∙ sym (filter-append (λ (e : LoggedChange). nat_le r e.written.at) (logged u) (c ∷ []))
        by_test false = refl

    alone : (d : ℕ) (x : Name) (u : ℕ) (b : Bool) → Rises d x (newest base es d x) (logged u) → (last_of d x (logged u) (newest base es d x)).at ≤ next →
        Rises d x (newest base es d x) (cond b (logged u ++ c ∷ []) (logged u))
    alone d x u true up low = rises-push d x (newest base es d x) (logged u) c up (omega (arith, low, lt, c_at))
    alone d x u false up low = up

    -- of the transaction with the change, and another one
    with_other : (u v d : ℕ) (x : Name) → t ≡ u → is_live v ≡ true → u ≢ v → (b : Bool) → is_of d x c ≡ b → (has d x (logged u) ≡ false) ⊎ (has d x (logged v) ≡ false) →
        (has d x (logged u ++ c ∷ []) ≡ false) ⊎ (has d x (logged v) ≡ false)
    with_other u v d x at_u v_live other true of was = inr (free_same d x c (logged v) of (free v v_live (λ e. other (sym at_u ∙ sym e))))
    with_other u v d x at_u v_live other false of (inl none) = inl (has-push d x (logged u) c of none)
    with_other u v d x at_u v_live other false of (inr none) = inr none

    turned : {A B : Type 0} → A ⊎ B → B ⊎ A
    turned (inl a) = inr a
    turned (inr b) = inl b

    apart : (u v d : ℕ) (x : Name) (a b : Bool) → (t == u) ≡ a → (t == v) ≡ b → is_live u ≡ true → is_live v ≡ true → u ≢ v →
        (has d x (logged u) ≡ false) ⊎ (has d x (logged v) ≡ false) →
        (has d x (cond a (logged u ++ c ∷ []) (logged u)) ≡ false) ⊎ (has d x (cond b (logged v ++ c ∷ []) (logged v)) ≡ false)
    apart u v d x true true at_u at_v u_live v_live other was = absurd (other (sym (eqb-true t u at_u) ∙ eqb-true t v at_v))
    apart u v d x true false at_u at_v u_live v_live other was = with_other u v d x (eqb-true t u at_u) v_live other (is_of d x c) refl was
    apart u v d x false true at_u at_v u_live v_live other was = turned (with_other v u d x (eqb-true t v at_v) u_live (λ e. other (sym e)) (is_of d x c) refl (turned was))
    apart u v d x false false at_u at_v u_live v_live other was = was

pub stands_put : StandsPut
stands_put es base next at is_open rows is_live logged t db name value s lt live free =
    stands_change es base next at is_open rows is_live logged (Put t db name value) t.0 (set_at at db name value) s lt live free refl
    (record { done = λ redo. refl; pending = λ redo. refl; no_end = refl })

pub stands_delete : StandsDelete
stands_delete es base next at is_open rows is_live logged t db name s lt live free =
    stands_change es base next at is_open rows is_live logged (Delete t db name) t.0 (unset_at at db name) s lt live free refl
    (record { done = λ redo. refl; pending = λ redo. refl; no_end = refl })

-- ---- a commit

pub stands_commit : StandsCommit
stands_commit es base next at is_open fewer rows after is_live logged t s lt t_live smaller after_is =
    let p : Placed = (at, Commit t) in
    let again : restarted (es ++ p ∷ []) ≡ redo_entry at (Commit t) (restarted es) = restarted-on es next p refl lt s.reach in
    let begun = s.begun in
    record {
      begun = omega (arith, begun, lt);
      reach = reach-push es next p refl lt s.reach;
      past = λ d x. let low = newest_low d x in subst (λ (w : Written). w.at ≤ at) (sym (newest_is d x)) (omega (arith, low, lt));
      past_own = λ u live. past_own u (t.0 == u) (own-later base next at (logged u) lt (s.past_own u live));
      same = λ d x open_.
          ap (λ (r : Redo). (record_at r d x).value) again
          ∙ ap (λ (w : Written). w.value) (last_of-append d x (restarted es).done ((restarted es).pending t.0) unwritten)
          ∙ ap (λ (l : List LoggedChange). (last_of d x l (record_at (restarted es) d x)).value) (s.own t.0 t_live)
          ∙ last-value d x (logged t.0) (record_at (restarted es) d x) (stood (rows d x)) (s.same d x (smaller d open_))
          ∙ sym (after_is d x open_);
      own = λ u live. ap (λ (r : Redo). r.pending u) again ∙ ap (λ (l : List LoggedChange). cond (t.0 == u) [] l) (s.own u live);
      redo = λ r le d x start. redo r le d x start (cases_lt at r);
      tied = λ d x open_. subst (λ (w : Written). base ≤ w.at → w.value ≡ after d x) (sym (newest_is d x))
          (λ high. last-tied d x base (logged t.0) (newest base es d x) (stood (rows d x)) (s.tied d x (smaller d open_)) high ∙ sym (after_is d x open_));
      later = λ r le u live. later r u live le (cases_lt at r);
      alone = λ u live d x. subst (λ (w : Written). Rises d x w (emptied t.0 logged u)) (sym (newest_is d x)) (alone d x u live (t.0 == u) refl);
      apart = λ u v u_live v_live other d x. apart u v d x (t.0 == u) (t.0 == v) (s.apart u v u_live v_live other d x);
    }
  where
    stood : Option (List ℕ) → Written
    stood v = record { at = 0; value = v }

    own_low : (u : ℕ) → is_live u ≡ true → AllByRecursion (λ (e : LoggedChange). e.written.at ≤ next) (logged u)
    own_low u live = all_weaker (λ (e : LoggedChange). (base ≤ e.written.at) × (e.written.at ≤ next)) (λ e. e.written.at ≤ next) (λ e h. h.1) (logged u) (s.past_own u live)

    -- from the beginning of this life on the transaction's changes are all there
    own_whole : changes_from base (logged t.0) ≡ logged t.0
    own_whole = all_from base (logged t.0)
        (all_weaker (λ (e : LoggedChange). (base ≤ e.written.at) × (e.written.at ≤ next)) (λ e. base ≤ e.written.at) (λ e h. h.0) (logged t.0) (s.past_own t.0 t_live))

    newest_is : (d : ℕ) (x : Name) → newest base (es ++ (at, Commit t) ∷ []) d x ≡ last_of d x (logged t.0) (newest base es d x)
    newest_is d x =
        let begun = s.begun in
        ap (λ (r : Redo). record_at r d x) (redone-in base es (at, Commit t) (omega (arith, begun, lt)))
        ∙ last_of-append d x (redone base es).done ((redone base es).pending t.0) unwritten
        ∙ ap (λ (l : List LoggedChange). last_of d x l (newest base es d x)) (s.later base (omega arith) t.0 t_live ∙ own_whole)

    newest_low : (d : ℕ) (x : Name) → (last_of d x (logged t.0) (newest base es d x)).at ≤ next
    newest_low d x = last-holds (λ (w : Written). w.at ≤ next) d x (logged t.0) (newest base es d x) (s.past d x) (own_low t.0 t_live)

    past_own : (u : ℕ) (b : Bool) → AllByRecursion (λ (e : LoggedChange). (base ≤ e.written.at) × (e.written.at ≤ at)) (logged u) →
        AllByRecursion (λ (e : LoggedChange). (base ≤ e.written.at) × (e.written.at ≤ at)) (cond b [] (logged u))
    past_own u true all = tt
    past_own u false all = all

    redo : (r : ℕ) → base ≤ r → (d : ℕ) (x : Name) (start : Written) → (at < r) ⊎ (r ≤ at) →
        last_of d x (redone r (es ++ (at, Commit t) ∷ [])).done start ≡ pick r (newest base (es ++ (at, Commit t) ∷ []) d x) start
    redo r le d x start order = by_order order ∙ ap (λ (w : Written). pick r w start) (sym (newest_is d x))
      where
        from_here : last_of d x (changes_from r (logged t.0)) (pick r (newest base es d x) start) ≡ pick r (last_of d x (logged t.0) (newest base es d x)) start
        from_here = redo_changes d x r (logged t.0) (newest base es d x) start (pick r (newest base es d x) start) (s.alone t.0 t_live d x) refl

        by_order : (at < r) ⊎ (r ≤ at) → last_of d x (redone r (es ++ (at, Commit t) ∷ [])).done start ≡ pick r (last_of d x (logged t.0) (newest base es d x)) start
        by_order (inl less) =
            let none : changes_from r (logged t.0) ≡ [] = none_from r (logged t.0)
            (all_weaker (λ (e : LoggedChange). e.written.at ≤ next) (λ e. e.written.at < r) (λ e h. omega (arith, h, lt, less)) (logged t.0) (own_low t.0 t_live)) in
            ap (λ (k : Redo). last_of d x k.done start) (redone-out r es (at, Commit t) less)
            ∙ s.redo r le d x start
            ∙ ap (λ (l : List LoggedChange). last_of d x l (pick r (newest base es d x) start)) (sym none)
            ∙ from_here
        by_order (inr high) =
            ap (λ (k : Redo). last_of d x k.done start) (redone-in r es (at, Commit t) high)
            ∙ last_of-append d x (redone r es).done ((redone r es).pending t.0) start
            ∙ ap (λ (l : List LoggedChange). last_of d x l (last_of d x (redone r es).done start)) (s.later r le t.0 t_live)
            ∙ ap (last_of d x (changes_from r (logged t.0))) (s.redo r le d x start)
            ∙ from_here

    later : (r u : ℕ) → is_live u ≡ true → base ≤ r → (at < r) ⊎ (r ≤ at) → (redone r (es ++ (at, Commit t) ∷ [])).pending u ≡ changes_from r (emptied t.0 logged u)
    later r u live le (inl less) =
        ap (λ (k : Redo). k.pending u) (redone-out r es (at, Commit t) less) ∙ s.later r le u live ∙ none ∙ sym (none_left (t.0 == u))
      where
        none : changes_from r (logged u) ≡ []
        none = none_from r (logged u)
            (all_weaker (λ (e : LoggedChange). e.written.at ≤ next) (λ e. e.written.at < r) (λ e h. omega (arith, h, lt, less)) (logged u) (own_low u live))

        none_left : (b : Bool) → changes_from r (cond b [] (logged u)) ≡ []
        none_left true = refl
        none_left false = none
    later r u live le (inr high) =
        ap (λ (k : Redo). k.pending u) (redone-in r es (at, Commit t) high) ∙ ap (λ (l : List LoggedChange). cond (t.0 == u) [] l) (s.later r le u live) ∙ by_test (t.0 == u)
      where
        by_test : (b : Bool) → cond b [] (changes_from r (logged u)) ≡ changes_from r (cond b [] (logged u))
        by_test true = refl
        by_test false = refl

    alone : (d : ℕ) (x : Name) (u : ℕ) → is_live u ≡ true → (b : Bool) → (t.0 == u) ≡ b → Rises d x (last_of d x (logged t.0) (newest base es d x)) (cond b [] (logged u))
    alone d x u live true is = tt
    alone d x u live false is = by_apart (s.apart t.0 u t_live live (eqb-false t.0 u is) d x)
      where
        by_apart : (has d x (logged t.0) ≡ false) ⊎ (has d x (logged u) ≡ false) → Rises d x (last_of d x (logged t.0) (newest base es d x)) (logged u)
        by_apart (inl none) = subst (λ (w : Written). Rises d x w (logged u)) (sym (last-unchanged d x (logged t.0) (newest base es d x) none)) (s.alone u live d x)
        by_apart (inr none) = rises-none d x (last_of d x (logged t.0) (newest base es d x)) (logged u) none

    apart : (u v d : ℕ) (x : Name) (a b : Bool) → (has d x (logged u) ≡ false) ⊎ (has d x (logged v) ≡ false) →
        (has d x (cond a [] (logged u)) ≡ false) ⊎ (has d x (cond b [] (logged v)) ≡ false)
    apart u v d x true b was = inl refl
    apart u v d x false true was = inr refl
    apart u v d x false false was = was

-- ---- a checkpoint's end

pub stands_end : StandsEnd
stands_end es base next at is_open rows is_live logged number start redo last_txn last_node last_db summary roots s lt low high covered own_high =
    stands-passed es base next at is_open rows is_live logged (CkptEnd number start redo last_txn last_node last_db summary roots) s lt (λ r. refl) reach same own
  where
    ended : Checkpoint
    ended = record { at = at; number = number; redo = redo; last_txn = last_txn.0; last_node = last_node; last_db = last_db; roots = roots }

    is_last : last_checkpoint (es ++ (at, CkptEnd number start redo last_txn last_node last_db summary roots) ∷ []) ≡ ended
    is_last = ap (λ (o : Option Checkpoint). unwrap_or o no_checkpoint) (last_end-push es (at, CkptEnd number start redo last_txn last_node last_db summary roots))

    again : restarted (es ++ (at, CkptEnd number start redo last_txn last_node last_db summary roots) ∷ []) ≡ behind (rows_of_roots es at roots) (redone redo es)
    again =
        ap (restarted_from (es ++ (at, CkptEnd number start redo last_txn last_node last_db summary roots) ∷ [])) is_last
        ∙ ap (λ (l : List LoggedChange). behind l (redone redo (es ++ (at, CkptEnd number start redo last_txn last_node last_db summary roots) ∷ []))) (roots_stay es ((at, CkptEnd number start redo last_txn last_node last_db summary roots) ∷ []) at roots (omega arith, tt))
        ∙ ap (behind (rows_of_roots es at roots)) (redone-passed redo es (at, CkptEnd number start redo last_txn last_node last_db summary roots) (λ r. refl))

    reach : ((last_checkpoint (es ++ (at, CkptEnd number start redo last_txn last_node last_db summary roots) ∷ [])).at ≤ at) × ((last_checkpoint (es ++ (at, CkptEnd number start redo last_txn last_node last_db summary roots) ∷ [])).redo ≤ at)
    reach = subst (λ (k : Checkpoint). (k.at ≤ at) × (k.redo ≤ at)) (sym is_last) (omega arith, omega (arith, high, lt))

    by_covered : (d : ℕ) (x : Name) → is_open d ≡ true → (b : Bool) → nat_le redo (newest base es d x).at ≡ b →
        ((last_of d x (rows_of_roots es at roots) unwritten).value ≡ rows d x) ⊎ (redo ≤ (newest base es d x).at) →
        (cond b (newest base es d x) (last_of d x (rows_of_roots es at roots) unwritten)).value ≡ rows d x
    by_covered d x open_ true is c = let le : redo ≤ (newest base es d x).at = leb-true redo (newest base es d x).at is in s.tied d x open_ (omega (arith, le, low))
    by_covered d x open_ false is (inl right) = right
    by_covered d x open_ false is (inr le) = absurd (true≢false (sym (le-leb redo (newest base es d x).at le) ∙ is))

    same : (d : ℕ) (x : Name) → is_open d ≡ true → (record_at (restarted (es ++ (at, CkptEnd number start redo last_txn last_node last_db summary roots) ∷ [])) d x).value ≡ rows d x
    same d x open_ =
        ap (λ (r : Redo). (record_at r d x).value) again
        ∙ ap (λ (w : Written). w.value) (last_of-append d x (rows_of_roots es at roots) (redone redo es).done unwritten)
        ∙ ap (λ (w : Written). w.value) (s.redo redo low d x (last_of d x (rows_of_roots es at roots) unwritten))
        ∙ by_covered d x open_ (nat_le redo (newest base es d x).at) refl (covered d x open_)

    own : (t : ℕ) → is_live t ≡ true → (restarted (es ++ (at, CkptEnd number start redo last_txn last_node last_db summary roots) ∷ [])).pending t ≡ logged t
    own t live = ap (λ (r : Redo). r.pending t) again ∙ s.later redo low t live ∙ all_from redo (logged t) (own_high t live)

-- ---- fewer transactions and databases

pub stands_fewer : StandsFewer
stands_fewer es base next is_open fewer_open rows is_live fewer_live logged s opens lives = record {
  begun = s.begun;
  reach = s.reach;
  past = s.past;
  past_own = λ t live. s.past_own t (lives t live);
  same = λ d x open_. s.same d x (opens d open_);
  own = λ t live. s.own t (lives t live);
  redo = s.redo;
  tied = λ d x open_. s.tied d x (opens d open_);
  later = λ r le t live. s.later r le t (lives t live);
  alone = λ t live. s.alone t (lives t live);
  apart = λ t u t_live u_live. s.apart t u (lives t t_live) (lives u u_live);
}

-- ---- a log that was found

at_entry : (at : ℕ) (entry : Entry) (c : Checkpoint) → checkpoint_in at entry ≡ Some c → c.at ≡ at
at_entry at (CkptEnd number start redo last_txn last_node last_db summary roots) c h =
    let made : Checkpoint = record { at = at; number = number; redo = redo; last_txn = last_txn.0; last_node = last_node; last_db = last_db; roots = roots } in
    sym (ap (λ (k : Checkpoint). k.at) (same_Some made c h))
at_entry at entry c h = absurd (none-some c h)

pub end_below : (es : List Placed) (base : ℕ) (c : Checkpoint) → AllByRecursion (λ p. p.0 < base) es → last_end es ≡ Some c → c.at < base
end_below [] base c all is = absurd (none-some c is)
end_below (p ∷ es) base c all is = by_end (last_end es) refl is (end_below es base c all.1)
  where
    by_end : (o : Option Checkpoint) → last_end es ≡ o → or_else o (checkpoint_in p.0 p.1) ≡ Some c → (last_end es ≡ Some c → c.at < base) → c.at < base
    by_end None made h rest = let at : c.at ≡ p.0 = at_entry p.0 p.1 c h in omega (arith, at, all.0)
    by_end (Some e) made h rest = rest (made ∙ h)

last_below : (es : List Placed) (base : ℕ) → AllByRecursion (λ p. p.0 < base) es → (last_checkpoint es).at ≤ base
last_below es base all = by_end (last_end es) refl
  where
    by_end : (o : Option Checkpoint) → last_end es ≡ o → (unwrap_or o no_checkpoint).at ≤ base
    by_end None is = omega arith
    by_end (Some c) is = let low = end_below es base c all is in omega (arith, low)

pub stands_open : StandsOpen
stands_open es base is_open rows is_live some below redo_low same own =
    let nothing : (r : ℕ) → base ≤ r → redone r es ≡ nothing_redone = λ r le.
    redone-none r es (all_weaker (λ (p : Placed). p.0 < base) (λ p. p.0 < r) (λ p h. omega (arith, h, le)) es below) in
    let newest_is : (d : ℕ) (x : Name) → newest base es d x ≡ unwritten = λ d x. ap (λ (r : Redo). record_at r d x) (nothing base (omega arith)) in
    record {
      begun = omega arith;
      reach = (last_below es base below, redo_low);
      past = λ d x. subst (λ (w : Written). w.at ≤ base) (sym (newest_is d x)) (omega arith);
      past_own = λ t live. tt;
      same = same;
      own = own;
      redo = λ r le d x start.
          ap (λ (k : Redo). last_of d x k.done start) (nothing r le) ∙ sym (picked r le start) ∙ ap (λ (w : Written). pick r w start) (sym (newest_is d x));
      tied = λ d x open_ high. let none : (newest base es d x).at ≡ 0 = ap (λ (w : Written). w.at) (newest_is d x) in absurd (omega (arith, none, high, some));
      later = λ r le t live. ap (λ (k : Redo). k.pending t) (nothing r le);
      alone = λ t live d x. tt;
      apart = λ t u t_live u_live other d x. inl refl;
    }
  where
    picked : (r : ℕ) → base ≤ r → (start : Written) → pick r unwritten start ≡ start
    picked r le start = cond-false (nat_le r 0) unwritten start (lt-leb r 0 (omega (arith, le, some)))
