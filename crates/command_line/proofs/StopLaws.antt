-- A walk that meets no fault never enters the subcommand `help`.
use Rattle.std.proofs.Common.{◌≡◌, ◌&&◌, ℕ, Bool, true, false, not, refl, subst, sym, codes, List, [], ◌∷◌, Option, Some, None, is_some}
use Rattle.std.specs.Prelude.{⊤, if◌then◌else◌, fold}
use Rattle.std.specs.Str.{bytes_eq}
use Rattle.clap.specs.Lexer.{long_of, short_of}
use Rattle.clap.specs.Walk.{Held, Names, Outcome, Rule, Step, Text, Waiting, Walk, after_flag, after_step, arg_by_index, arg_by_long, bundle, done, long_met, long_or_other, next, option, plain_word, short_or_plain, subcommand, subcommand_met, subcommand_or_other, to_positional, trailing, value, waits, walked, walked_from, word_met}
use Rattle.clap.specs.Simple.{Shape}
use Rattle.clap.specs.Kinds.{or_else}
use Rattle.clap.specs.Faults.{other_fault, step_fault, turn_fault, walk_fault, word_fault}
use Rattle.clap.specs.declared.error.kind.ErrorKind.TheVariants as kind
use Rattle.command_line.proofs.WalkLaws.{neither}

-- the name is not `help`
abbrev IsOther : Text → Type 0
IsOther name = bytes_eq name (codes "help") ≡ false

abbrev StepsOther : Step → Type 0
StepsOther (subcommand name) = IsOther name
StepsOther _ = ⊤

-- a walk stopped at no `help`
abbrev pub StopsOther : Option (Text × List Text) → Type 0
StopsOther None = ⊤
StopsOther (Some p) = IsOther p.0

module _ (s : Shape) (helps : s.disable_help_subcommand ≡ false) where
  plain_other : (waiting : Waiting) (word : Text) (h : Held) → StepsOther (plain_word s.rules waiting word h).1
  plain_other (option id) word h = tt
  plain_other _ word h = tt

  after_flag_other : (waiting : Waiting) (word : Text) (h : Held) (x : Outcome) → StepsOther (after_flag s.rules waiting word h x).1
  after_flag_other waiting word h done = tt
  after_flag_other waiting word h (waits id) = tt
  after_flag_other waiting word h x = plain_other waiting word h

  flag_word_other : (o : Option (Text × Option Text)) (waiting : Waiting) (word : Text) (h : Held) → StepsOther (long_or_other s.rules waiting word o h).1
  flag_word_other (Some p) waiting word h =
      let met = long_met s.rules (arg_by_long s.rules p.0) p.1 h in
      after_flag_other waiting word met.0 met.1
  flag_word_other None waiting word h = go (short_of word)
    where
      go : (o : Option Text) → StepsOther (short_or_plain s.rules waiting word o h).1
      go None = plain_other waiting word h
      go (Some flags) = after_flag_other waiting word (bundle s.rules flags h).0 (bundle s.rules flags h).1

  other_other : (o : Option Text) (waiting : Waiting) (position : ℕ) (word : Text) (h : Held) → other_fault s o word h ≡ []
      → StepsOther (subcommand_or_other s.rules o waiting position word h).1
  other_other (Some name) waiting position word h none = go (bytes_eq name (codes "help")) s.disable_help_subcommand helps none
    where
      go : (b off : Bool) → off ≡ false → (if b && not off then kind.DisplayHelp ∷ kind.InvalidSubcommand ∷ [] else []) ≡ [] → b ≡ false
      go false off is none = refl
      go true false is none = cc
      go true true is none = is
  other_other None waiting position word h none = go (bytes_eq word (45 ∷ 45 ∷ []))
    where
      go : (b : Bool) → StepsOther (if b then (h, trailing position) else long_or_other s.rules waiting word (long_of word) h).1
      go true = tt
      go false = flag_word_other (long_of word) waiting word h

  word_other : (names : Names) (is_trailing : Bool) (waiting : Waiting) (position : ℕ) (word : Text) (h : Held) → word_fault s names is_trailing waiting word h ≡ []
      → StepsOther (word_met s.rules names is_trailing waiting position word h).1
  word_other names true waiting position word h none = tt
  word_other names false waiting position word h none = other_other (subcommand_met names waiting word) waiting position word h none

  step_other : (x : Step) (word : Text) (w : Walk) (h : Held) → w.stopped ≡ None → StepsOther x → StopsOther (after_step s.rules word w h x).stopped
  step_other (next waiting) word w h going other = subst StopsOther (sym going) tt
  step_other (trailing position) word w h going other = subst StopsOther (sym going) tt
  step_other (subcommand name) word w h going other = other
  step_other value word w h going other = go (arg_by_index s.rules w.position)
    where
      go : (o : Option Rule) → StopsOther (to_positional s.rules o word w h).stopped
      go None = subst StopsOther (sym going) tt
      go (Some a) = tt

  turn_other : (names : Names) (w : Walk) (word : Text) → turn_fault s names w word ≡ [] → StopsOther w.stopped → StopsOther (walked s.rules names w word).stopped
  unfolding walked
  turn_other names w word none other = go w.stopped refl none other
    where
      go : (o : Option (Text × List Text)) → w.stopped ≡ o
          → (if is_some o then [] else or_else (word_fault s names w.is_trailing w.waiting word w.held)
          (step_fault s w.position (word_met s.rules names w.is_trailing w.waiting w.position word w.held).0 (word_met s.rules names w.is_trailing w.waiting w.position word w.held).1)) ≡ []
          → StopsOther o → StopsOther (walked_from s.rules names o w word).stopped
      go (Some p) is none other = other
      go None is none other =
          let met = word_met s.rules names w.is_trailing w.waiting w.position word w.held in
          let parts = neither (word_fault s names w.is_trailing w.waiting word w.held) (step_fault s w.position met.0 met.1) none in
          step_other met.1 word w met.0 is (word_other names w.is_trailing w.waiting w.position word w.held parts.0)

  pub walk_other : (names : Names) (args : List Text) (w : Walk) → walk_fault s names w args ≡ [] → StopsOther w.stopped → StopsOther (fold (walked s.rules names) w args).stopped
  unfolding walk_fault
  walk_other names [] w none other = other
  walk_other names (word ∷ rest) w none other =
      let parts = neither (turn_fault s names w word) (walk_fault s names (walked s.rules names w word) rest) none in
      walk_other names rest (walked s.rules names w word) parts.1 (turn_other names w word parts.0 other)
