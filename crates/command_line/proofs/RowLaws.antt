-- Each row that a walk over a command's arguments makes has a value, and that of a number one in its bounds; of any table of
-- options that are numbers.
use Rattle.std.proofs.Common.{◌≡◌, ◌∙◌, ◌++◌, ◌||◌, ℕ, Bool, true, false, ap, refl, sym, subst, List, [], ◌∷◌, Option, Some, None, is_some, cond, pos}
use Rattle.std.specs.Prelude.{find, option_map, option_and_then, slice_get, unwrap_or}
use Rattle.std.specs.List.{AllByRecursion}
use Rattle.std.specs.Str.{bytes_eq}
use Rattle.clap.specs.ValueTests.{accepts}
use Rattle.clap.specs.Values.{read_as}
use Rattle.clap.specs.Walk.{Row, Rule, Text, at_row, default_rows, first_of, has_row, more_values, one_of, row_text, used_as, with_default, with_values, without, reading_by}
use Rattle.clap.specs.Lexer.{without_minus}
use Rattle.clap.specs.declared.builder.action.ArgAction.TheVariants.{Set}
use Rattle.clap.specs.declared.builder.value_parser.Reading.{Reading}
use Rattle.clap.specs.declared.builder.value_parser.Reading.TheVariants.{WithoutMinus}
use Rattle.clap.specs.declared.builder.value_parser.ValueParser.TheVariants as parser
use Rattle.clap.specs.declared.parser.matches.ValueSource.{ValueSource}

-- the parser of a number in these bounds takes the value
abbrev pub IsNumber : ℕ → ℕ → Text → Type 0
IsNumber low high text = accepts false (parser.Signed (pos low) (pos high)) text ≡ true

-- an option that is a number: its name and its bounds
pub record Number : Type 0 where
  pub name : Text
  pub low : ℕ
  pub high : ℕ

-- where the option is of this name, its value is read as a number in its bounds
abbrev pub IsNumberIf : Text → Reading → Text → Number → Type 0
IsNumberIf id how value number = bytes_eq id number.name ≡ true → (how ≡ WithoutMinus) × IsNumber number.low number.high value

-- a value of an option: that of each number of the table is in its bounds
abbrev pub IsValue : List Number → Text → Reading → Text → Type 0
IsValue table id how value = AllByRecursion (IsNumberIf id how value) table

-- values of an option: there is a first one
abbrev pub AreValues : List Number → Text → Reading → List Text → Type 0
AreValues table id how [] = ⊥
AreValues table id how (v ∷ vs) = IsValue table id how v

abbrev pub IsFilled : List Number → Row → Type 0
IsFilled table r = AreValues table r.id r.reading r.values

abbrev pub AreFilled : List Number → List Row → Type 0
AreFilled table = AllByRecursion (IsFilled table)

-- ---- rows of defaults

values_there : (id : Text) (how : Reading) (s : ValueSource) (values : List Text) (rows : List Row) → bytes_eq id id ≡ true → has_row id (with_values id how s values rows) ≡ true
values_there id how s values [] same = ap (λ b. b || false) same
values_there id how s values (r ∷ rs) same = go (values_there id how s values rs same) (bytes_eq r.id id) refl
  where
    go : has_row id (with_values id how s values rs) ≡ true → (b : Bool) → bytes_eq r.id id ≡ b → has_row id (cond b (more_values s values r ++ rs) (r ∷ with_values id how s values rs)) ≡ true
    go rest true is = ap (λ b. b || has_row id rs) is
    go rest false is = ap (λ b. b || has_row id (with_values id how s values rs)) is ∙ rest

-- an option with a default has a row
pub default_there : (a : Rule) (v : Text) (vs : List Text) (rows : List Row) → a.defaults ≡ v ∷ vs → bytes_eq a.id a.id ≡ true → has_row a.id (with_default rows a) ≡ true
default_there a v vs rows has same = go (has_row a.id rows) refl
  where
    go : (b : Bool) → has_row a.id rows ≡ b → has_row a.id (cond b rows (default_rows a.id (reading_by a) a.defaults rows)) ≡ true
    go true is = is
    go false is = subst (λ values. has_row a.id (default_rows a.id (reading_by a) values rows) ≡ true) (sym has) (values_there a.id (reading_by a) _ (v ∷ vs) rows same)

-- a row that is there stays
values_stay : (id other : Text) (how : Reading) (s : ValueSource) (values : List Text) (rows : List Row) → has_row id rows ≡ true → has_row id (with_values other how s values rows) ≡ true
values_stay id other how s values [] there = cc
values_stay id other how s values (r ∷ rs) there = go (bytes_eq r.id other) (bytes_eq r.id id) refl there (values_stay id other how s values rs)
  where
    go : (b mine : Bool) → bytes_eq r.id id ≡ mine → (mine || has_row id rs) ≡ true → (has_row id rs ≡ true → has_row id (with_values other how s values rs) ≡ true)
        → has_row id (cond b (more_values s values r ++ rs) (r ∷ with_values other how s values rs)) ≡ true
    go true mine is there rest = ap (λ b. b || has_row id rs) is ∙ there
    go false true is there rest = ap (λ b. b || has_row id (with_values other how s values rs)) is
    go false false is there rest = ap (λ b. b || has_row id (with_values other how s values rs)) is ∙ rest there

pub default_stays : (id : Text) (a : Rule) (v : Text) (vs : List Text) (rows : List Row) → a.defaults ≡ v ∷ vs → has_row id rows ≡ true → has_row id (with_default rows a) ≡ true
default_stays id a v vs rows has there = go (has_row a.id rows)
  where
    go : (b : Bool) → has_row id (cond b rows (default_rows a.id (reading_by a) a.defaults rows)) ≡ true
    go true = there
    go false = subst (λ values. has_row id (default_rows a.id (reading_by a) values rows) ≡ true) (sym has) (values_stay id a.id (reading_by a) _ (v ∷ vs) rows there)

pub no_default : (a : Rule) (rows : List Row) → a.defaults ≡ [] → with_default rows a ≡ rows
no_default a rows none = go (has_row a.id rows)
  where
    go : (b : Bool) → cond b rows (default_rows a.id (reading_by a) a.defaults rows) ≡ rows
    go true = refl
    go false = ap (λ values. default_rows a.id (reading_by a) values rows) none

pub row_there : (id : Text) (rows : List Row) → has_row id rows ≡ true → is_some (find (λ r. bytes_eq r.id id) rows) ≡ true
row_there id [] has = has
row_there id (r ∷ rs) has = go (row_there id rs) (bytes_eq r.id id) has
  where
    go : (has_row id rs ≡ true → is_some (find (λ x. bytes_eq x.id id) rs) ≡ true) → (b : Bool) → (b || has_row id rs) ≡ true → is_some (cond b (Some r) (find (λ x. bytes_eq x.id id) rs)) ≡ true
    go rest true has = refl
    go rest false has = rest has

module _ (table : List Number) where
  joined : (xs ys : List Row) → AreFilled table xs → AreFilled table ys → AreFilled table (xs ++ ys)
  joined [] ys front back = back
  joined (x ∷ xs) ys front back = (front.0, joined xs ys front.1 back)

  at_row_filled : (id : Text) (change : Row → List Row) (missing rows : List Row) → ((r : Row) → IsFilled table r → AreFilled table (change r)) → AreFilled table missing → AreFilled table rows
      → AreFilled table (at_row id change missing rows)
  at_row_filled id change missing [] changed new held = new
  at_row_filled id change missing (r ∷ rs) changed new held = go (bytes_eq r.id id) (at_row_filled id change missing rs changed new held.1)
    where
      go : (b : Bool) → AreFilled table (at_row id change missing rs) → AreFilled table (cond b (change r ++ rs) (r ∷ at_row id change missing rs))
      go true rest = joined (change r) rs (changed r held.0) held.1
      go false rest = (held.0, rest)

  more : (id : Text) (how : Reading) (xs ys : List Text) → AreValues table id how xs → AreValues table id how (xs ++ ys)
  more id how [] ys are = absurd are
  more id how (x ∷ xs) ys are = are

  with_values_filled : (id : Text) (how : Reading) (s : ValueSource) (values : List Text) (rows : List Row) → AreValues table id how values → AreFilled table rows → AreFilled table (with_values id how s values rows)
  with_values_filled id how s values rows are held =
      at_row_filled id (more_values s values) _ rows (λ r filled. (more r.id r.reading r.values values filled, tt)) (are, tt) held

  pub set_filled : (id : Text) (how : Reading) (values : List Text) (rows : List Row) → AreValues table id how values → AreFilled table rows → AreFilled table (used_as Set id how values rows)
  set_filled id how values rows are held =
      with_values_filled id how _ values (without id rows) are (at_row_filled id (λ _. []) [] rows (λ r filled. tt) tt held)

  pub default_filled : (a : Rule) (rows : List Row) → AreValues table a.id (reading_by a) a.defaults → AreFilled table rows → AreFilled table (with_default rows a)
  default_filled a rows are held = go (has_row a.id rows)
    where
      given : (values : List Text) → AreValues table a.id (reading_by a) values → AreFilled table (default_rows a.id (reading_by a) values rows)
      given [] are = absurd are
      given (v ∷ vs) are = with_values_filled a.id (reading_by a) _ (v ∷ vs) rows are held

      go : (b : Bool) → AreFilled table (cond b rows (default_rows a.id (reading_by a) a.defaults rows))
      go true = held
      go false = given a.defaults are

  pub found_filled : (id : Text) (rows : List Row) (r : Row) → AreFilled table rows → find (λ x. bytes_eq x.id id) rows ≡ Some r → (bytes_eq r.id id ≡ true) × IsFilled table r
  found_filled id [] r held found = cc
  found_filled id (x ∷ xs) r held found = go (found_filled id xs r held.1) (bytes_eq x.id id) refl found
    where
      go : (find (λ y. bytes_eq y.id id) xs ≡ Some r → (bytes_eq r.id id ≡ true) × IsFilled table r) → (b : Bool) → bytes_eq x.id id ≡ b → cond b (Some x) (find (λ y. bytes_eq y.id id) xs) ≡ Some r → (bytes_eq r.id id ≡ true) × IsFilled table r
      go rest true is same =
          let are : x ≡ r = ap (λ o. unwrap_or o r) same in
          (subst (λ y. bytes_eq y.id id ≡ true) are is, subst (IsFilled table) are held.0)
      go rest false is same = rest same

  -- a row that is there gives its first value
  pub first_there : (id : Text) (rows : List Row) → AreFilled table rows → is_some (find (λ r. bytes_eq r.id id) rows) ≡ true → (v : Text) × (first_of id rows ≡ Some v)
  first_there id rows held there = go (find (λ r. bytes_eq r.id id) rows) refl there
    where
      read : (r : Row) (values : List Text) → AreValues table r.id r.reading values → (v : Text) × (slice_get values 0 ≡ Some v)
      read r [] are = absurd are
      read r (v ∷ vs) are = (v, refl)

      go : (o : Option Row) → find (λ r. bytes_eq r.id id) rows ≡ o → is_some o ≡ true → (v : Text) × (option_and_then (λ r. slice_get r.values 0) o ≡ Some v)
      go None is some = cc
      go (Some r) is some = read r r.values (found_filled id rows r held is).1

  -- an option of the table that has a row gives a number in its bounds
  pub number_there : (number : Number) (rows : List Row) → ((id : Text) (how : Reading) (v : Text) → IsValue table id how v → IsNumberIf id how v number) → AreFilled table rows →
      is_some (find (λ r. bytes_eq r.id number.name) rows) ≡ true → (v : Text) × (one_of number.name rows ≡ Some (without_minus v)) × IsNumber number.low number.high v
  number_there number rows part held there = go (find (λ r. bytes_eq r.id number.name) rows) refl there
    where
      read : (r : Row) (values : List Text) (how : Reading) → bytes_eq r.id number.name ≡ true → AreValues table r.id how values
          → (v : Text) × (option_map (read_as how) (slice_get values 0) ≡ Some (without_minus v)) × IsNumber number.low number.high v
      read r [] how is are = absurd are
      read r (v ∷ vs) how is are = let own = part r.id how v are is in (v, ap (λ h. Some (read_as h v)) own.0, own.1)

      go : (o : Option Row) → find (λ r. bytes_eq r.id number.name) rows ≡ o → is_some o ≡ true → (v : Text) × (option_and_then row_text o ≡ Some (without_minus v)) × IsNumber number.low number.high v
      go None is some = cc
      go (Some r) is some =
          let at = found_filled number.name rows r held is in
          read r r.values r.reading at.0 at.1
