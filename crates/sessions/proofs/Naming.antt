-- The name of a need's database, among those of the call's target.
use Rattle.std.proofs.Common.{◌≡◌, ℕ, ◌==◌, Bool, true, false, cond, List, [], ◌∷◌, ◌++◌, map, find, Some, refl, ap, sym, ◌∙◌}
use Rattle.std.specs.Prelude.{option_map, option_to_list, unwrap_or}
use Rattle.std.specs.Option.{option_map_or}
use Rattle.store_model.specs.declared.kind.Kind.{Kind}
use Rattle.store_model.specs.declared.need.Need.{Need}
use Rattle.store_model.specs.declared.store.Database.{Database}
use Rattle.store_model.specs.declared.lock_target.LockTarget.{LockTarget}
use Rattle.store_model.specs.Indexes.{Numbered}
use Rattle.je_answers.specs.Views.{Target}
use Rattle.je_answers.specs.Events.{lock_target}
use Rattle.sessions.specs.declared.named_db.NamedDb.{NamedDb}
use Rattle.sessions.specs.Names.{Known, known, known_in, AreOthersOf, named_by, target_by}

-- what the first of a number is known as
pick : List Known → ℕ → List ℕ × Kind → List ℕ × Kind
pick [] number own = own
pick (k ∷ ks) number own = cond (k.0 == number) k.1 (pick ks number own)

by_others : (others : List NamedDb) (number : ℕ) (own : List ℕ × Kind) → named_by others number own ≡ pick (map known others) number own
unfolding pick
by_others [] number own = refl
by_others (d ∷ others) number own = by (d.number == number) (by_others others number own)
  where
    by : (b : Bool) → named_by others number own ≡ pick (map known others) number own →
        option_map_or (λ (x : NamedDb). (x.name, x.kind)) (cond b (Some d) (find (λ x. x.number == number) others)) own ≡ cond b (d.name, d.kind) (pick (map known others) number own)
    by true h = refl
    by false h = h

abbrev name_and_kind : Database → List ℕ × Kind
name_and_kind d = (d.name, d.kind)

by_databases : (ds : List Numbered) (number : ℕ) (own : Database) →
    name_and_kind (unwrap_or (option_map (λ d. d.1) (find (λ d. d.0 == number) ds)) own) ≡ pick (map known_in ds) number (name_and_kind own)
unfolding pick
by_databases [] number own = refl
by_databases (d ∷ ds) number own = by (d.0 == number) (by_databases ds number own)
  where
    by : (b : Bool) → name_and_kind (unwrap_or (option_map (λ x. x.1) (find (λ x. x.0 == number) ds)) own) ≡ pick (map known_in ds) number (name_and_kind own) →
        name_and_kind (unwrap_or (option_map (λ (x : Numbered). x.1) (cond b (Some d) (find (λ x. x.0 == number) ds))) own) ≡ cond b (name_and_kind d.1) (pick (map known_in ds) number (name_and_kind own))
    by true h = refl
    by false h = h

pub target_is : (others : List NamedDb) (g : Target) (need : Need) → AreOthersOf others g → target_by others (g.database.name, g.database.kind) need ≡ lock_target g need
target_is others g need beside =
    let at : List ℕ × Kind → LockTarget = λ d. record { db = d.0; kind = d.1; at = need.at } in
    ap at
    (by_others others need.db (name_and_kind g.database)
    ∙ ap (λ (ks : List Known). pick ks need.db (name_and_kind g.database)) beside
    ∙ sym (by_databases (option_to_list g.over ++ g.indexes) need.db g.database))

-- ---- the walk along the others

pub found_now : (d : NamedDb) (left rest all : List NamedDb) (number : ℕ) (own : List ℕ × Kind) → left ≡ d ∷ rest → (d.number == number) ≡ true → named_by left number own ≡ named_by all number own →
    (d.name, d.kind) ≡ named_by all number own
found_now d left rest all number own is here same =
    sym (ap (λ (b : Bool). option_map_or (λ (x : NamedDb). (x.name, x.kind)) (cond b (Some d) (find (λ x. x.number == number) rest)) own) here)
    ∙ ap (λ (l : List NamedDb). named_by l number own) (sym is) ∙ same

pub found_later : (d : NamedDb) (left rest all : List NamedDb) (number : ℕ) (own : List ℕ × Kind) → left ≡ d ∷ rest → (d.number == number) ≡ false → named_by left number own ≡ named_by all number own →
    named_by rest number own ≡ named_by all number own
found_later d left rest all number own is there same =
    sym (ap (λ (b : Bool). option_map_or (λ (x : NamedDb). (x.name, x.kind)) (cond b (Some d) (find (λ x. x.number == number) rest)) own) there)
    ∙ ap (λ (l : List NamedDb). named_by l number own) (sym is) ∙ same

pub found_none : (left all : List NamedDb) (number : ℕ) (own : List ℕ × Kind) → left ≡ [] → named_by left number own ≡ named_by all number own → own ≡ named_by all number own
found_none left all number own is same = ap (λ (l : List NamedDb). named_by l number own) (sym is) ∙ same
