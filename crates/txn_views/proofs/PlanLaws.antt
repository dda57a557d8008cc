-- A plan is what its call comes to in a standing.
use Rattle.std.proofs.Common.{◌≡◌, ℕ, List, [], ◌∷◌, ◌++◌, Option, None, Some, IfSome, map, flat_map, option_map, unwrap_or, refl, ap, ap₂, sym, ◌∙◌, subst}
use mathlib.Core.Path.{fun_ext}
use Rattle.std.specs.List.{AllByRecursion}
use Rattle.std.specs.Map.{keys_of}
use Rattle.je_order.proofs.Lists.{all_weaker}
use Rattle.je_order.specs.declared.name.Name.{Name}
use Rattle.store_model.specs.declared.kind.Kind.{Kind}
use Rattle.store_model.specs.declared.index.Index.{Index}
use Rattle.store_model.specs.declared.isolation.Isolation.{Isolation}
use Rattle.store_model.specs.declared.call.Call.{Call}
use Rattle.store_model.specs.declared.need.Need.{Need}
use Rattle.store_model.specs.declared.answer.Answer.{Answer}
use Rattle.store_model.specs.declared.answer.Answer.TheVariants.{Rec, IndexRec}
use Rattle.store_model.specs.declared.record_change.RecordChange.{RecordChange}
use Rattle.store_model.specs.Store.{Pair}
use Rattle.store_model.specs.Reads.{seen, passed_to}
use Rattle.store_model.specs.Records.{Evaluated, evaluation, look_of, early_of, conclude}
use Rattle.store_model.specs.Indexes.{Numbered, changes_in, data_under, with_indexes, changed_through, all_changes, answer_through}
use Rattle.store_model.specs.Needs.{Part, part_of, part_needs, ends, needs_unless, record_needs, write_needs, change_needs}
use Rattle.je_answers.specs.declared.active.Active.{Active}
use Rattle.je_answers.specs.Standing.{Standing}
use Rattle.je_answers.specs.Views.{Target, changes_with, needs_in, outcome_of, view_in, occupied_in, with_numbers}
use Rattle.log_replay.specs.Rows.{pair_of}
use Rattle.txn_views.specs.Seen.{seen_rows}
use Rattle.index_map.specs.Laws.{over_of, indexes_at, known}
use Rattle.record_tree.specs.Occupied.{AllCells}
use Rattle.txn_views.specs.declared.found_target.FoundTarget.{FoundTarget}
use Rattle.txn_views.specs.declared.outcome_plan.OutcomePlan.{OutcomePlan}
use Rattle.txn_views.specs.declared.target_plan.TargetPlan.{TargetPlan}
use Rattle.txn_views.specs.Targets.{AreSeenAs, IsFoundTarget, IsOutcomeIn, IsOutcomePlan, IsPlanIn, IsTargetPlan, OutcomesAreModels, PlansAreModels, found_at, seen_in, names_in, found_changes, IsSeenAs, with_found_numbers}

-- two databases, of which one is what a plan knows, in two views
record Same (see see' : Numbered → List Pair) (occ occ' : Numbered → List Name) (d e : Numbered) : Type 0 where
  number : d.0 ≡ e.0
  kind : d.1.kind ≡ e.1.kind
  seen : see d ≡ see' e
  names : occ d ≡ occ' e

-- changes in such databases, one by one
abbrev AllSame : (see see' : Numbered → List Pair) (names names' : Numbered → List Name) → List (Numbered × RecordChange) → List (Numbered × RecordChange) → Type 0
AllSame see see' names names' [] [] = Unit {0}
AllSame see see' names names' (c ∷ cs) (e ∷ es) = Same see see' names names' c.0 e.0 × (c.1 ≡ e.1) × AllSame see see' names names' cs es
AllSame see see' names names' cs es = ⊥

both_same : (see see' : Numbered → List Pair) (names names' : Numbered → List Name) (cs es ds fs : List (Numbered × RecordChange)) → AllSame see see' names names' cs es →
    AllSame see see' names names' ds fs → AllSame see see' names names' (cs ++ ds) (es ++ fs)
both_same see see' names names' [] [] ds fs first second = second
both_same see see' names names' [] (e ∷ es) ds fs first second = absurd first
both_same see see' names names' (c ∷ cs) [] ds fs first second = absurd first
both_same see see' names names' (c ∷ cs) (e ∷ es) ds fs first second = (first.0, first.1, both_same see see' names names' cs es ds fs first.2 second)

each_same : (see see' : Numbered → List Pair) (names names' : Numbered → List Name) (d e : Numbered) (cs : List RecordChange) → Same see see' names names' d e →
    AllSame see see' names names' (map (λ c. (d, c)) cs) (map (λ c. (e, c)) cs)
each_same see see' names names' d e [] same = tt
each_same see see' names names' d e (c ∷ cs) same = (same, refl, each_same see see' names names' d e cs same)

-- what changes in an index hangs on the key that it has
same_pairs_in : (o : Option Index) (records : List Pair) (c : RecordChange) → changes_in (option_map (λ i. record { primary = []; extract = i.extract }) o) records c ≡ changes_in o records c
same_pairs_in None records c = refl
same_pairs_in (Some i) records c = refl

indexes_same : (see see' : Numbered → List Pair) (names names' : Numbered → List Name) (indexes : List Numbered) (records : List Pair) (c : RecordChange) →
    AllByRecursion (λ i. Same see see' names names' (known i) i) indexes →
    AllSame see see' names names' (flat_map (λ i. map (λ c. (i, c)) (changes_in i.1.index records c)) (map known indexes))
    (flat_map (λ i. map (λ c. (i, c)) (changes_in i.1.index records c)) indexes)
indexes_same see see' names names' [] records c all = tt
indexes_same see see' names names' (i ∷ indexes) records c all =
    let rest : List Numbered → List (Numbered × RecordChange) = λ is. flat_map (λ j. map (λ x. (j, x)) (changes_in j.1.index records c)) is in
    both_same see see' names names' (map (λ x. (known i, x)) (changes_in (known i).1.index records c)) (map (λ x. (i, x)) (changes_in i.1.index records c)) (rest (map known indexes)) (rest indexes)
    (subst (λ (l : List RecordChange). AllSame see see' names names' (map (λ x. (known i, x)) l) (map (λ x. (i, x)) (changes_in i.1.index records c))) (sym (same_pairs_in i.1.index records c))
    (each_same see see' names names' (known i) i (changes_in i.1.index records c) all.0))
    (indexes_same see see' names names' indexes records c all.1)

-- a change through an index
through_same : (over : Option Numbered) (c : RecordChange) → changed_through (option_map known over) c ≡ changed_through over c
through_same None c = refl
through_same (Some primary) c = refl

changing_same : (see see' : Numbered → List Pair) (names names' : Numbered → List Name) (over : Option Numbered) (d e : Numbered) → Same see see' names names' d e →
    IfSome over (λ p. Same see see' names names' (known p) p) → Same see see' names names' (unwrap_or (option_map known over) d) (unwrap_or over e)
changing_same see see' names names' None d e own primary = own
changing_same see see' names names' (Some p) d e own primary = primary

-- all changes
changes_same : (see see' : Numbered → List Pair) (names names' : Numbered → List Name) (over : Option Numbered) (d e : Numbered) (indexes : List Numbered) (cs : List RecordChange) →
    Same see see' names names' (unwrap_or (option_map known over) d) (unwrap_or over e) → AllByRecursion (λ i. Same see see' names names' (known i) i) indexes →
    AllSame see see' names names' (all_changes (option_map known over) d (map known indexes) see cs) (all_changes over e indexes see' cs)
changes_same see see' names names' over d e indexes [] own all = tt
changes_same see see' names names' over d e indexes (c ∷ cs) own all =
    let x : Numbered = unwrap_or (option_map known over) d in
    let y : Numbered = unwrap_or over e in
    let pairs : List Pair → RecordChange → List (Numbered × RecordChange) = λ records b. flat_map (λ i. map (λ k. (i, k)) (changes_in i.1.index records b)) indexes in
    both_same see see' names names' (with_indexes x (map known indexes) (see x) (changed_through (option_map known over) c)) (with_indexes y indexes (see' y) (changed_through over c))
    (all_changes (option_map known over) d (map known indexes) see cs) (all_changes over e indexes see' cs) (
      own,
      through_same over c,
      subst (λ (l : List (Numbered × RecordChange)). AllSame see see' names names'
          (flat_map (λ i. map (λ k. (i, k)) (changes_in i.1.index (see x) (changed_through (option_map known over) c))) (map known indexes)) l)
          (ap₂ pairs own.seen (through_same over c))
          (indexes_same see see' names names' indexes (see x) (changed_through (option_map known over) c) all),
    )
    (changes_same see see' names names' over d e indexes cs own all)

-- what such changes come to
numbers_same : (see see' : Numbered → List Pair) (names names' : Numbered → List Name) (cs es : List (Numbered × RecordChange)) → AllSame see see' names names' cs es →
    with_found_numbers (found_changes cs) ≡ with_numbers es
numbers_same see see' names names' [] [] same = refl
numbers_same see see' names names' [] (e ∷ es) same = absurd same
numbers_same see see' names names' (c ∷ cs) [] same = absurd same
numbers_same see see' names names' (c ∷ cs) (e ∷ es) same =
    let make : ℕ → RecordChange → List (ℕ × RecordChange) → List (ℕ × RecordChange) = λ n x l. (n, x) ∷ l in
    ap₂ (λ (n : ℕ) (x : RecordChange). make n x (with_found_numbers (found_changes cs))) same.0.number same.1
    ∙ ap (λ (l : List (ℕ × RecordChange)). make e.0.0 e.1 l) (numbers_same see see' names names' cs es same.2)

needs_same : (level : Isolation) (see see' : Numbered → List Pair) (names names' : Numbered → List Name) (cs es : List (Numbered × RecordChange)) → AllSame see see' names names' cs es →
    flat_map (change_needs level see names) cs ≡ flat_map (change_needs level see' names') es
needs_same level see see' names names' [] [] same = refl
needs_same level see see' names names' [] (e ∷ es) same = absurd same
needs_same level see see' names names' (c ∷ cs) [] same = absurd same
needs_same level see see' names names' (c ∷ cs) (e ∷ es) same =
    ap₂ (λ (n : ℕ) (k : Kind). write_needs level n k (see c.0) (names c.0) c.1 ++ flat_map (change_needs level see names) cs) same.0.number same.0.kind
    ∙ ap₂ (λ (ps : List Pair) (ns : List Name). write_needs level e.0.0 e.0.1.kind ps ns c.1 ++ flat_map (change_needs level see names) cs) same.0.seen same.0.names
    ∙ ap₂ (λ (x : RecordChange) (l : List Need). write_needs level e.0.0 e.0.1.kind (see' e.0) (names' e.0) x ++ l) same.1 (needs_same level see see' names names' cs es same.2)

-- the record that is read by an index
record_same : (p : Option Part) (over : Option Numbered) (answer : Answer) → record_needs p (option_map known over) answer ≡ record_needs p over answer
record_same None over answer = refl
record_same (Some p) None answer = refl
record_same (Some p) (Some primary) (Rec key value) = refl
record_same (Some p) (Some primary) answer = refl

answer_same : (see see' : Numbered → List Pair) (over : Option Numbered) (answer : Answer) → IfSome over (λ p. see (known p) ≡ see' p) →
    answer_through (option_map known over) see answer ≡ answer_through over see' answer
answer_same see see' None answer h = refl
answer_same see see' (Some primary) (Rec key value) h = ap (λ (ps : List Pair). IndexRec key value (unwrap_or (data_under value ps) [])) h
answer_same see see' (Some primary) answer h = refl

-- needs by what they hang on
abbrev needs_by : Isolation → Call → Option Name → Kind → ℕ → List Pair → List Name → (Answer → List Need) → (List RecordChange → List Need) → List Need
needs_by level call at kind number pairs names record_ changes =
    let l = look_of kind call at in
    let taken = seen kind l.way l.range pairs in
    let evaluated = conclude kind call at taken in
    needs_unless (early_of kind call at pairs) (
    part_needs number (part_of level call) (passed_to kind l.way l.range taken) (ends l.way evaluated.answered taken) names
    ++ record_ evaluated.answer
    ++ changes evaluated.changes
    )

-- ---- the plan

if_weaker : {X : Type 0} (P Q : X → Type 0) (o : Option X) → ((x : X) → P x → Q x) → IfSome o P → IfSome o Q
if_weaker P Q None step h = tt
if_weaker P Q (Some x) step h = step x h

module _ (st : Standing) (a : Active) (call : Call) (g : Target) (cells : AllCells) (found : FoundTarget) (is : IsFoundTarget g found) (sees : AreSeenAs st a g cells) where
  abbrev see : Numbered → List Pair
  see = seen_in a.level a.txn cells

  abbrev see' : Numbered → List Pair
  see' = view_in st a

  abbrev names : Numbered → List Name
  names = names_in cells

  abbrev names' : Numbered → List Name
  names' = occupied_in st

  abbrev d : Numbered
  d = found_at found.db

  abbrev e : Numbered
  e = (g.db, g.database)

  abbrev SameIn : Numbered → Numbered → Type 0
  SameIn = Same see see' names names'

  same : (q : Numbered) → IsSeenAs st a cells q → SameIn (known q) q
  same q h = record { number = refl; kind = refl; seen = h.0; names = h.1 }

  own : SameIn d e
  own = record {
    number = is.number;
    kind = is.kind;
    seen = ap₂ (λ (n : ℕ) (k : Kind). map (pair_of k) (seen_rows a.level a.txn (cells n))) is.number is.kind ∙ sees.db.0;
    names = ap (λ (n : ℕ). keys_of (cells n)) is.number ∙ sees.db.1;
  }

  over : IfSome g.over (λ q. SameIn (known q) q)
  over = if_weaker (IsSeenAs st a cells) (λ q. SameIn (known q) q) g.over same sees.over

  indexes : AllByRecursion (λ i. SameIn (known i) i) g.indexes
  indexes = all_weaker (IsSeenAs st a cells) (λ i. SameIn (known i) i) same g.indexes sees.indexes

  abbrev evaluated : Evaluated
  evaluated = evaluation g.database.kind call g.at (see' e)

  evaluates : evaluation found.db.kind call g.at (see d) ≡ evaluated
  evaluates = ap₂ (λ (k : Kind) (ps : List Pair). evaluation k call g.at ps) is.kind own.seen

  abbrev here : List RecordChange → List (Numbered × RecordChange)
  here cs = all_changes (over_of found.over) d (indexes_at found.indexes.now) see cs

  abbrev there : List RecordChange → List (Numbered × RecordChange)
  there cs = all_changes g.over e g.indexes see' cs

  alike : (cs : List RecordChange) → AllSame see see' names names' (here cs) (there cs)
  alike cs =
      subst (λ (l : List (Numbered × RecordChange)). AllSame see see' names names' l (there cs))
      (ap₂ (λ (o : Option Numbered) (l : List Numbered). all_changes o d l see cs) (sym is.over) (sym is.indexes))
      (changes_same see see' names names' g.over d e g.indexes cs (changing_same see see' names names' g.over d e own over) indexes)

  -- its answer and its changes
  answers : (answer : Answer) → answer ≡ answer_through (over_of found.over) see (evaluation found.db.kind call g.at (see d)).answer → answer ≡ (outcome_of st a call g).answer
  answers answer plan =
      plan ∙ ap (λ (x : Evaluated). answer_through (over_of found.over) see x.answer) evaluates
      ∙ ap (λ (o : Option Numbered). answer_through o see evaluated.answer) is.over
      ∙ answer_same see see' g.over evaluated.answer (if_weaker (λ q. SameIn (known q) q) (λ q. see (known q) ≡ see' q) g.over (λ q h. h.seen) over)

  changes : (cs : List (ℕ × RecordChange)) → cs ≡ with_found_numbers (found_changes (here (evaluation found.db.kind call g.at (see d)).changes)) → cs ≡ with_numbers (changes_with st a g (outcome_of st a call g).changes)
  changes cs plan =
      plan ∙ ap (λ (x : Evaluated). with_found_numbers (found_changes (here x.changes))) evaluates
      ∙ numbers_same see see' names names' (here evaluated.changes) (there evaluated.changes) (alike evaluated.changes)

  -- its locks
  abbrev part : Option Part
  part = part_of a.level call

  records : (answer : Answer) → record_needs part (over_of found.over) answer ≡ record_needs part g.over answer
  records answer = ap (λ (o : Option Numbered). record_needs part o answer) is.over ∙ record_same part g.over answer

  abbrev needs_here : List RecordChange → List Need
  needs_here cs = flat_map (change_needs a.level see names) (here cs)

  abbrev needs_there : List RecordChange → List Need
  needs_there cs = flat_map (change_needs a.level see' names') (there cs)

  needs : needs_by a.level call g.at found.db.kind found.db.number (see d) (names d) (record_needs part (over_of found.over)) needs_here ≡ needs_in st a call g
  needs =
      ap₂ (λ (k : Kind) (n : ℕ). needs_by a.level call g.at k n (see d) (names d) (record_needs part (over_of found.over)) needs_here) is.kind is.number
      ∙ ap₂ (λ (ps : List Pair) (ns : List Name). needs_by a.level call g.at g.database.kind g.db ps ns (record_needs part (over_of found.over)) needs_here) own.seen own.names
      ∙ ap₂ (λ (r : Answer → List Need) (f : List RecordChange → List Need). needs_by a.level call g.at g.database.kind g.db (see' e) (names' e) r f) (fun_ext records)
      (fun_ext (λ cs. needs_same a.level see see' names names' (here cs) (there cs) (alike cs)))

  model_of : (p : TargetPlan) → IsTargetPlan a.level a.txn cells found call g.at p → IsPlanIn st a call g p
  model_of p plan = record {
    answer = answers p.answer plan.answer;
    changes = changes p.changes.items plan.changes;
    needs = plan.needs ∙ needs;
    place = plan.place ∙ ap (λ (x : Evaluated). x.place) evaluates;
  }

  -- of one without locks
  abbrev at_place : Option Name → Evaluated
  at_place at = evaluation found.db.kind call at (see d)

  outcome_of_it : (p : OutcomePlan) → g.at ≡ None → IsOutcomePlan a.level a.txn cells found call p → IsOutcomeIn st a call g p
  outcome_of_it p none plan = record {
    answer = answers p.answer (plan.answer ∙ ap (λ (o : Option Name). answer_through (over_of found.over) see (at_place o).answer) (sym none));
    changes = changes p.changes.items (plan.changes ∙ ap (λ (o : Option Name). with_found_numbers (found_changes (here (at_place o).changes))) (sym none));
  }

pub plans_are_models : PlansAreModels
plans_are_models st a call g cells found p is sees plan = model_of st a call g cells found is sees p plan

pub outcomes_are_models : OutcomesAreModels
outcomes_are_models st a call g cells found p is sees none plan = outcome_of_it st a call g cells found is sees p none plan
