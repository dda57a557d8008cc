-- The databases beside that of a call, and its target, are those of the model.
use Rattle.std.proofs.Common.{◌≡◌, ◌∙◌, ◌++◌, ℕ, List, [], ◌∷◌, Option, None, Some, IfSome, map, option_map, unwrap_or, refl, ap, ap₂, sym, subst}
use Rattle.std.specs.Prelude.{option_to_list}
use Rattle.std.specs.List.{AllByRecursion}
use Rattle.std.proofs.lemmas.Option.{same_Some}
use Rattle.store_model.specs.declared.kind.Kind.{Kind}
use Rattle.store_model.specs.declared.kind.Kind.TheVariants.{Plain, Dup}
use Rattle.store_model.specs.declared.store.Database.{Database}
use Rattle.store_model.specs.Indexes.{Numbered}
use Rattle.store_model.specs.Store.{database_of}
use Rattle.je_answers.specs.Standing.{Standing}
use Rattle.je_answers.specs.Views.{Target}
use Rattle.db_catalog.specs.declared.found_db.FoundDb.{FoundDb}
use Rattle.log_replay.specs.Rows.{Rows}
use Rattle.txn_log.specs.Committing.{MakesStore}
use Rattle.db_names.specs.Names.{Names}
use Rattle.index_map.specs.Made.{AreIndexesOf, Made, primary_in}
use Rattle.index_map.specs.Laws.{db_at, indexes_at, known, over_of, records_number}
use Rattle.index_map.specs.declared.found_index.FoundIndex.{FoundIndex}
use Rattle.sessions.specs.declared.named_db.NamedDb.{NamedDb}
use Rattle.sessions.specs.Names.{AreOthersOf, Known, known as known_as, known_in}
use Rattle.txn_views.specs.declared.found_target.FoundTarget.{FoundTarget}
use Rattle.txn_views.specs.Targets.{IsFoundTarget}
use Rattle.engine.specs.declared.kept.Kept.{Kept}
use Rattle.environment.specs.Access.{AreThere, IsDbAt, IsIndexAt, IsOnDb, IsPrimaryAt}
use Rattle.environment.specs.Beside.{Beside, IsTargetBy, as_beside, beside_at, beside_indexes, beside_of, beside_over, name_in}
use Rattle.environment.specs.Valid.{KnowsDatabases, made_at, name_at}
use Rattle.environment.proofs.TargetThere.{indexes_found, over_found, target_there}

-- a database with the name that it has
abbrev named_in : Numbered → Beside
named_in d = (d.0, (Some d.1.name, d.1.kind))

-- what is known of a database that has a name
abbrev with_name : Beside → Known
with_name b = (b.0, (unwrap_or b.1.0 [], b.1.1))

known_others : (others : List NamedDb) → map with_name (map as_beside others) ≡ map known_as others
known_others [] = refl
known_others (o ∷ others) = ap (λ (l : List Known). known_as o ∷ l) (known_others others)

known_dbs : (ds : List Numbered) → map with_name (map named_in ds) ≡ map known_in ds
known_dbs [] = refl
known_dbs (d ∷ ds) = ap (λ (l : List Known). known_in d ∷ l) (known_dbs ds)

named_both : (ds es : List Numbered) → map named_in ds ++ map named_in es ≡ map named_in (ds ++ es)
named_both [] es = refl
named_both (d ∷ ds) es = ap (λ (l : List Beside). named_in d ∷ l) (named_both ds es)

-- the first of some databases, by what a plan knows of it, and those behind it
abbrev first_number : ℕ → List Numbered → ℕ
first_number n [] = n
first_number n (d ∷ ds) = d.0

abbrev behind : List Numbered → List Numbered
behind [] = []
behind (d ∷ ds) = ds

module _ (st : Standing) (names : Names) (same : (n : ℕ) → names n ≡ name_at st.numbers st.store n) where
  -- the name of a database that is there
  at_kind : (d : Numbered) (kind : Kind) → IsDbAt st d → d.1.kind ≡ kind → beside_at names kind d.0 ≡ named_in d
  at_kind d kind at is = ap₂ (λ (x : Option (List ℕ)) (k : Kind). let b : Beside = (d.0, (x, k)) in b) (same d.0 ∙ ap (option_map (λ (x : Database). x.name)) at.there) (sym is)

  over_beside : (g : Target) (o : Option Numbered) (over : Option ℕ) → over_of over ≡ option_map known o → IfSome o (IsPrimaryAt st g) → beside_over names over ≡ map named_in (option_to_list o)
  over_beside g None None is at = refl
  over_beside g None (Some n) is at = absurd cc
  over_beside g (Some p) None is at = absurd cc
  over_beside g (Some p) (Some n) is at =
      let number : n ≡ p.0 = ap (λ (d : Numbered). d.0) (same_Some (db_at n Plain) (known p) is) in
      ap (λ (b : Beside). b ∷ []) (ap (beside_at names Plain) number ∙ at_kind p Plain at.at at.kind)

  indexes_beside : (is : List Numbered) (fs : List FoundIndex) → indexes_at fs ≡ map known is → AllByRecursion (IsIndexAt st) is → beside_indexes names fs ≡ map named_in is
  indexes_beside [] [] e all = refl
  indexes_beside [] (f ∷ fs) e all = absurd cc
  indexes_beside (i ∷ is) [] e all = absurd cc
  indexes_beside (i ∷ is) (f ∷ fs) e all =
      let number : f.number ≡ i.0 = ap (first_number 0) e in
      ap₂ (λ (b : Beside) (l : List Beside). b ∷ l) (ap (beside_at names Dup) number ∙ at_kind i Dup all.0.at all.0.kind) (indexes_beside is fs (ap behind e) all.1)

  -- so those beside a target are named
  beside_target : (g : Target) (others : List NamedDb) (over : Option ℕ) (fs : List FoundIndex) → over_of over ≡ option_map known g.over → indexes_at fs ≡ map known g.indexes → AreThere st g →
      map as_beside others ≡ beside_of names over fs → AreOthersOf others g
  beside_target g others over fs over_is indexes_is there is =
      let all : map as_beside others ≡ map named_in (option_to_list g.over ++ g.indexes) =
      is ∙ ap₂ (λ (l : List Beside) (m : List Beside). l ++ m) (over_beside g g.over over over_is there.over) (indexes_beside g.indexes fs indexes_is there.indexes)
      ∙ named_both (option_to_list g.over) g.indexes in
      sym (known_others others) ∙ ap (map with_name) all ∙ known_dbs (option_to_list g.over ++ g.indexes)

-- ---- the target of a call on a database

-- a database that a call is on is there
pub at_db : (st : Standing) (db : List ℕ) (f : FoundDb) (g : Target) → IsOnDb st db f g → IsDbAt st (g.db, g.database)
at_db st db f g on = record { is = ap (λ (n : List ℕ). database_of n st.store) on.name ∙ on.is; there = on.there; named = on.named; above = on.above }

module _ (rows : Rows) (st : Standing) (makes : MakesStore rows st.last_db st) (kept : Kept) (knows : KnowsDatabases st kept) (db : List ℕ) (f : FoundDb) (g : Target) (on : IsOnDb st db f g) where
  -- and so are all of its target
  pub db_there : AreThere st g
  db_there = target_there rows st makes kept.indexes knows.indexes_are g on.over on.indexes (at_db st db f g on)

  abbrev made : Made
  made = made_at st.numbers st.store

  module _ (target : FoundTarget) (is : IsTargetBy kept.indexes f target) where
    primary_is : target.over ≡ primary_in made g.db
    primary_is = is.over made knows.indexes_are ∙ ap (primary_in made) (sym on.number)

    over_known : over_of target.over ≡ option_map known g.over
    over_known = ap over_of primary_is ∙ over_found rows st makes kept.indexes knows.indexes_are g on.over on.indexes (at_db st db f g on)

    are_of : AreIndexesOf made (records_number made g.db) target.indexes.now
    are_of =
        subst (λ (n : ℕ). AreIndexesOf made n target.indexes.now) (ap₂ (λ (o : Option ℕ) (n : ℕ). unwrap_or o n) primary_is (sym on.number)) (is.indexes made knows.indexes_are)

    indexes_known : indexes_at target.indexes.now ≡ map known g.indexes
    indexes_known = indexes_found rows st makes kept.indexes knows.indexes_are g on.over on.indexes (at_db st db f g on) target.indexes.now are_of

    -- the databases that are found are its
    pub found_target : IsFoundTarget g target
    found_target = record {
      number = ap (λ (d : FoundDb). d.number) is.db ∙ sym on.number;
      kind = ap (λ (d : FoundDb). d.kind) is.db ∙ sym on.kind;
      over = over_known;
      indexes = indexes_known;
    }

    -- and those beside are named
    pub others_beside : (others : List NamedDb) → map as_beside others ≡ beside_of (name_in kept.names) target.over target.indexes.now → AreOthersOf others g
    others_beside others named = beside_target st (name_in kept.names) knows.names_are g others target.over target.indexes.now over_known indexes_known db_there named
