-- A command's arguments at which a parse meets no fault, for any rules and any table of options that are numbers: each option that is
-- required or has a default has a value, and that of a number is in its bounds.
use Rattle.std.proofs.Common.{◌≡◌, ◌∙◌, ◌&&◌, ◌||◌, ◌⊎◌, ◌==◌, ℕ, arith, Bool, true, false, not, ap, refl, sym, subst, ⊎_elim, codes, length, List, [], ◌∷◌, Some, cond}
use Rattle.std.specs.Prelude.{find, fold, unwrap_or, if◌then◌else◌}
use Rattle.std.specs.List.{AllByRecursion, list_any}
use Rattle.std.proofs.lemmas.Bool.{eqb-true}
use Rattle.std.proofs.lemmas.Slice.Eq.{bytes_eq-Decides}
use Rattle.clap.specs.ValueTests.{accepts}
use Rattle.clap.specs.Values.{refused_kind}
use Rattle.clap.specs.Facts.{parser_of_value}
use Rattle.clap.specs.Walk.{Row, Rule, Text, finished, has_row, is_empty, nothing_held, reading_by, settled, used, walk, walk_from, with_default}
use Rattle.clap.specs.Simple.{Shape, filled, help_rule}
use Rattle.clap.specs.Takes.{is_given}
use Rattle.clap.specs.Kinds.{check_kinds, or_else, range_kinds, value_kinds, values_kinds}
use Rattle.clap.specs.Faults.{action_fault, check_fault, defaults_fault, level_fault, repeat_fault, settle_fault, use_fault, values_fault, walk_fault}
use Rattle.clap.specs.declared.builder.action.ArgAction.TheVariants.{Set, SetTrue}
use Rattle.clap.specs.declared.builder.value_parser.Reading.TheVariants.{WithoutMinus}
use Rattle.clap.specs.declared.error.kind.ErrorKind.{ErrorKind}
use Rattle.clap.specs.declared.error.kind.ErrorKind.TheVariants.{DisplayHelp, WrongNumberOfValues}
use Rattle.command_line.specs.Arguments.{flag_option, number_option, text_option}
use Rattle.command_line.proofs.WalkLaws.{UseKeeps, neither, settled_keeps, walk_keeps}
use Rattle.command_line.proofs.RowLaws.{AreFilled, AreValues, IsNumber, IsValue, Number, default_filled, default_stays, default_there, no_default, set_filled}

-- ---- a use of an option

passed : (b : Bool) (k : ErrorKind) → (if b then [] else k ∷ []) ≡ [] → b ≡ true
passed true k none = refl
passed false k none = cc

-- the first value of a use without fault passes its parser
first_passes : (a : Rule) (v : Text) (vs : List Text) (rows : List Row) → action_fault Set false a (v ∷ vs) rows ≡ [] → accepts a.ignore_case (parser_of_value a.parser) v ≡ true
first_passes a v vs rows none =
    let values = (neither (repeat_fault false a.id rows) (values_fault a (v ∷ vs)) none).1 in
    let first = neither (value_kinds a.ignore_case (parser_of_value a.parser) v) (values_kinds a.ignore_case (parser_of_value a.parser) vs) values in
    passed (accepts a.ignore_case (parser_of_value a.parser) v) (refused_kind (parser_of_value a.parser)) first.0

-- what holds of each holds of the one that is found
found_in : (P : Rule → Type 0) (test : Rule → Bool) (rules : List Rule) (a : Rule) → AllByRecursion P rules → find test rules ≡ Some a → P a
found_in P test [] a all found = cc
found_in P test (r ∷ rs) a all found = go (test r) (found_in P test rs a all.1) found
  where
    go : (b : Bool) → (find test rs ≡ Some a → P a) → cond b (Some r) (find test rs) ≡ Some a → P a
    go true later is = subst P (ap (λ o. unwrap_or o a) is) all.0
    go false later is = later is

-- where no value is wanted, a value is one too many
some_values : (v : Text) (vs : List Text) → range_kinds 0 0 (length (v ∷ vs)) ≡ [] → ⊥
some_values v vs none = go (0 == length (v ∷ vs)) refl none
  where
    go : (b : Bool) → (0 == length (v ∷ vs)) ≡ b → cond b [] (WrongNumberOfValues ∷ []) ≡ [] → ⊥
    go false is none = cc
    go true is none = (let same : 0 ≡ length (v ∷ vs) = eqb-true 0 (length (v ∷ vs)) is in omega (arith, same))

module _ (table : List Number) where
  -- a use without fault fills the option's row
  abbrev pub Kept : Rule → Type 0
  Kept a = (values : List Text) (rows : List Row) → use_fault false a values rows ≡ [] → AreFilled table rows → AreFilled table (used a values rows)

  pub text_kept : (name : Text) → ((v : Text) → IsValue table name (reading_by (filled (text_option name))) v) → Kept (filled (text_option name))
  text_kept name any [] rows none held = cc
  text_kept name any (v ∷ vs) rows none held = set_filled table name (reading_by (filled (text_option name))) (v ∷ vs) rows (any v) held

  pub flag_kept : (name : Text) → IsValue table name (reading_by (filled (flag_option name))) (codes "true") → Kept (filled (flag_option name))
  flag_kept name is [] rows none held = set_filled table name (reading_by (filled (flag_option name))) (codes "true" ∷ []) rows is held
  flag_kept name is (v ∷ vs) rows none held =
      absurd (some_values v vs (neither (range_kinds 0 0 (length (v ∷ vs))) (action_fault SetTrue false (filled (flag_option name)) (v ∷ vs) rows) none).0)

  pub number_kept : (name : Text) (low high : ℕ) (defaults : List Text) (required : Bool) → ((v : Text) → IsNumber low high v → IsValue table name WithoutMinus v) →
      Kept (filled (number_option name low high defaults required))
  number_kept name low high defaults required fits [] rows none held = cc
  number_kept name low high defaults required fits (v ∷ vs) rows none held =
      let rule = filled (number_option name low high defaults required) in
      let parts = neither (range_kinds 1 1 (length (v ∷ vs))) (action_fault Set false rule (v ∷ vs) rows) none in
      set_filled table name WithoutMinus (v ∷ vs) rows (fits v (first_passes rule v vs rows parts.1)) held

  pub help_kept : Kept (filled help_rule)
  help_kept values rows none held =
      let parts = neither (range_kinds 0 0 (length values)) (DisplayHelp ∷ []) none in
      let bad : DisplayHelp ∷ [] ≡ [] = parts.1 in
      cc

  pub uses_kept : (rules : List Rule) → AllByRecursion Kept rules → UseKeeps (AreFilled table) false rules
  uses_kept rules kept test a values rows found none held = found_in Kept test rules a kept found values rows none held

  -- ---- defaults

  -- where an option has a default, that is a value of its own
  abbrev pub HasRightDefault : Rule → Type 0
  HasRightDefault a = (a.defaults ≡ []) ⊎ AreValues table a.id (reading_by a) a.defaults

  defaults_filled : (rules : List Rule) (rows : List Row) → AllByRecursion HasRightDefault rules → AreFilled table rows → AreFilled table (fold with_default rows rules)
  defaults_filled [] rows right held = held
  defaults_filled (a ∷ rest) rows right held =
      defaults_filled rest (with_default rows a) right.1
      (⊎_elim
      (λ (none : a.defaults ≡ []). subst (AreFilled table) (sym (no_default a rows none)) held)
      (λ (are : AreValues table a.id (reading_by a) a.defaults). default_filled table a rows are held)
      right.0)

stays : (id : Text) (a : Rule) (rows : List Row) → has_row id rows ≡ true → has_row id (with_default rows a) ≡ true
stays id a rows there = go a.defaults refl
  where
    go : (values : List Text) → a.defaults ≡ values → has_row id (with_default rows a) ≡ true
    go [] none = ap (has_row id) (no_default a rows none) ∙ there
    go (v ∷ vs) has = default_stays id a v vs rows has there

all_stay : (id : Text) (rules : List Rule) (rows : List Row) → has_row id rows ≡ true → has_row id (fold with_default rows rules) ≡ true
all_stay id [] rows there = there
all_stay id (a ∷ rest) rows there = all_stay id rest (with_default rows a) (stays id a rows there)

-- an option with a default has a row at the end
abbrev pub IsThere : List Row → Rule → Type 0
IsThere rows a = is_empty a.defaults ≡ false → has_row a.id rows ≡ true

there : (a : Rule) (rows : List Row) → is_empty a.defaults ≡ false → has_row a.id (with_default rows a) ≡ true
there a rows some = go a.defaults refl some
  where
    go : (values : List Text) → a.defaults ≡ values → is_empty values ≡ false → has_row a.id (with_default rows a) ≡ true
    go [] has none = cc
    go (v ∷ vs) has some = default_there a v vs rows has ((bytes_eq-Decides a.id a.id).1 refl)

defaults_there : (rules : List Rule) (rows : List Row) → AllByRecursion (IsThere (fold with_default rows rules)) rules
defaults_there [] rows = tt
defaults_there (a ∷ rest) rows = ((λ some. all_stay a.id rest (with_default rows a) (there a rows some)), defaults_there rest (with_default rows a))

-- ---- what is required

abbrev pub IsGiven : List Row → Rule → Type 0
IsGiven rows a = a.required ≡ true → is_given a.id rows ≡ true

either_false : (a b : Bool) → (a || b) ≡ false → (a ≡ false) × (b ≡ false)
either_false true b none = cc
either_false false b none = (refl, none)

given_if : (required given : Bool) → (required && not given) ≡ false → required ≡ true → given ≡ true
given_if true true none is = refl
given_if true false none is = cc
given_if false given none is = cc

required_given : (rules : List Rule) (rows : List Row) → list_any (λ a. a.required && not (is_given a.id rows)) rules ≡ false → AllByRecursion (IsGiven rows) rules
required_given [] rows none = tt
required_given (a ∷ rest) rows none =
    let parts = either_false (a.required && not (is_given a.id rows)) (list_any (λ b. b.required && not (is_given b.id rows)) rest) none in
    (given_if a.required (is_given a.id rows) parts.0, required_given rest rows parts.1)

wants_none : (wants_help wants_subcommand wants_argument : Bool) → check_kinds wants_help wants_subcommand wants_argument ≡ [] → wants_argument ≡ false
wants_none true wants_subcommand wants_argument none = cc
wants_none false true wants_argument none = cc
wants_none false false true none = cc
wants_none false false false none = refl

behind_none : (b wants : Bool) → (not (b && false) && wants) ≡ false → wants ≡ false
behind_none true wants none = none
behind_none false wants none = none

-- ---- the whole

-- the rows of a command's arguments: their values are right, and what is required or has a default is there
pub record AreRead (table : List Number) (s : Shape) (rows : List Row) : Type 0 where
  pub filled : AreFilled table rows
  pub given : AllByRecursion (IsGiven rows) s.rules
  pub defaulted : AllByRecursion (IsThere rows) s.rules

pub level_read : (table : List Number) (s : Shape) (args : List Text) → UseKeeps (AreFilled table) s.args_override_self s.rules → AllByRecursion (HasRightDefault table) s.rules →
    level_fault s [] nothing_held args false [] ≡ [] → AreRead table s (finished s.rules (walk s.rules [] nothing_held args).held)
level_read table s args keeps right none =
    let end = (walk s.rules [] nothing_held args).held in
    let checks = check_fault s (finished s.rules end) false in
    let defaults = or_else (defaults_fault (settled s.rules end).rows s.rules) checks in
    let walked = neither (walk_fault s [] (walk_from nothing_held) args) (or_else (settle_fault s.rules s.args_override_self end) defaults) none in
    let ended = neither (settle_fault s.rules s.args_override_self end) defaults walked.1 in
    let checked = neither (defaults_fault (settled s.rules end).rows s.rules) checks ended.1 in
    let by_words : AreFilled table end.rows = walk_keeps (AreFilled table) s keeps [] args (walk_from nothing_held) walked.0 tt in
    let at_end : AreFilled table (settled s.rules end).rows = settled_keeps (AreFilled table) s keeps end.pending end.rows ended.0 by_words in
    let wants = list_any (λ a. a.required && not (is_given a.id (finished s.rules end))) s.rules in
    record {
      filled = defaults_filled table s.rules (settled s.rules end).rows right at_end;
      given = required_given s.rules (finished s.rules end) (behind_none s.subcommand_negates_reqs wants (wants_none _ _ _ checked.1));
      defaulted = defaults_there s.rules (settled s.rules end).rows;
    }
