-- A walk that meets no fault keeps what each use without fault keeps.
use Rattle.std.proofs.Common.{◌≡◌, ◌&&◌, ℕ, Bool, true, false, not, zero, suc, refl, List, [], ◌∷◌, length, drop, Option, Some, None, is_some}
use Rattle.std.specs.Prelude.{if◌then◌else◌, find, fold, slice_get, encode_utf8}
use Rattle.std.specs.Option.{option_map_or}
use Rattle.std.specs.Str.{bytes_eq, chars}
use Rattle.clap.specs.Lexer.{long_of, short_of}
use Rattle.clap.specs.Walk.{Held, Names, Outcome, Row, Rule, Step, Text, Waiting, Walk, after_flag, after_step, arg_by_id, arg_by_index, arg_by_long, arg_by_short, attached_value, bundle_met, bundle_step, done, flag_met, has_long, has_short, is_pending, long_met, long_or_other, next, option, option_met, option_word, plain, plain_word, positional_held, pushed, reacted, settled, settled_rows, short_met, short_or_plain, subcommand, subcommand_met, subcommand_or_other, takes_several, takes_values, to_positional, trailing, used, used_by_id, value, waits, walked, walked_from, word_met}
use Rattle.clap.specs.Simple.{Shape}
use Rattle.clap.specs.Kinds.{Kinds, or_else}
use Rattle.clap.specs.Faults.{bundle_fault, bundle_step_fault, flag_word_fault, flags_fault, long_fault, option_fault, other_fault, positional_fault, react_fault, settle_fault, short_fault, step_fault, stray_fault, turn_fault, use_fault, walk_fault, word_fault}
use Rattle.clap.specs.declared.error.kind.ErrorKind.TheVariants as kind

-- two steps without fault
pub neither : (a b : Kinds) → or_else a b ≡ [] → (a ≡ []) × (b ≡ [])
neither [] b none = (refl, none)
neither (k ∷ ks) b none = cc

-- a use without fault, of an argument that is found among these, keeps what P says of the rows
abbrev pub UseKeeps : (List Row → Type 0) → Bool → List Rule → Type 0
UseKeeps P again c =
    (test : Rule → Bool) (a : Rule) (values : List Text) (rows : List Row) → find test c ≡ Some a → use_fault again a values rows ≡ [] → P rows → P (used a values rows)

module _ (P : List Row → Type 0) (s : Shape) (keeps : UseKeeps P s.args_override_self s.rules) where
  used_keeps : (test : Rule → Bool) (o : Option Rule) (values : List Text) (rows : List Row) → find test s.rules ≡ o
      → option_map_or (λ a. use_fault s.args_override_self a values rows) o [] ≡ [] → P rows → P (used_by_id o values rows)
  used_keeps test None values rows found none held = held
  used_keeps test (Some a) values rows found none held = keeps test a values rows found none held

  pub settled_keeps : (p : Option (Text × List Text)) (rows : List Row)
      → option_map_or (λ q. option_map_or (λ a. use_fault s.args_override_self a q.1 rows) (arg_by_id s.rules q.0) []) p [] ≡ [] → P rows → P (settled_rows s.rules p rows)
  settled_keeps None rows none held = held
  settled_keeps (Some p) rows none held = used_keeps (λ a. bytes_eq a.id p.0) (arg_by_id s.rules p.0) p.1 rows refl none held

  reacted_keeps : (test : Rule → Bool) (a : Rule) (values : List Text) (h : Held) → find test s.rules ≡ Some a
      → react_fault s.rules s.args_override_self a values h ≡ [] → P h.rows → P (reacted s.rules a values h).rows
  reacted_keeps test a values h found none held =
      let parts = neither (settle_fault s.rules s.args_override_self h) (use_fault s.args_override_self a values (settled s.rules h).rows) none in
      keeps test a values (settled s.rules h).rows found parts.1 (settled_keeps h.pending h.rows parts.0 held)

  option_keeps : (test : Rule → Bool) (a : Rule) (v : Option Text) (h : Held) → find test s.rules ≡ Some a
      → option_fault s.rules s.args_override_self a v h ≡ [] → P h.rows → P (option_met s.rules a v h).0.rows
  option_keeps test a (Some v) h found none held = reacted_keeps test a (v ∷ []) h found none held
  option_keeps test a None h found none held = settled_keeps h.pending h.rows none held

  flag_keeps : (test : Rule → Bool) (a : Rule) (v : Option Text) (h : Held) → find test s.rules ≡ Some a
      → (if is_some v then kind.TooManyValues ∷ [] else react_fault s.rules s.args_override_self a [] h) ≡ [] → P h.rows → P (flag_met s.rules a v h).0.rows
  flag_keeps test a (Some v) h found none held = held
  flag_keeps test a None h found none held = reacted_keeps test a [] h found none held

  long_keeps : (test : Rule → Bool) (o : Option Rule) (v : Option Text) (h : Held) → find test s.rules ≡ o
      → long_fault s.rules s.args_override_self o v h ≡ [] → P h.rows → P (long_met s.rules o v h).0.rows
  long_keeps test None v h found none held = held
  long_keeps test (Some a) v h found none held = go (takes_values a) none
    where
      go : (b : Bool)
          → (if b then option_fault s.rules s.args_override_self a v h else (if is_some v then kind.TooManyValues ∷ [] else react_fault s.rules s.args_override_self a [] h)) ≡ []
          → P (if b then option_met s.rules a v h else flag_met s.rules a v h).0.rows
      go true none = option_keeps test a v h found none held
      go false none = flag_keeps test a v h found none held

  short_keeps : (test : Rule → Bool) (o : Option Rule) (rest : Text) (h : Held) (fault : Held → Kinds) (after : Held → Held × Outcome)
      → ((g : Held) → fault g ≡ [] → P g.rows → P (after g).0.rows) → find test s.rules ≡ o
      → short_fault s.rules s.args_override_self o rest h fault ≡ [] → P h.rows → P (short_met s.rules o rest h after).0.rows
  short_keeps test None rest h fault after next_keeps found none held = held
  short_keeps test (Some a) rest h fault after next_keeps found none held = go (takes_values a) none
    where
      go : (b : Bool)
          → (if b then option_fault s.rules s.args_override_self a (attached_value rest) h
          else or_else (react_fault s.rules s.args_override_self a [] h) (fault (reacted s.rules a [] h))) ≡ []
          → P (if b then option_met s.rules a (attached_value rest) h else after (reacted s.rules a [] h)).0.rows
      go true none = option_keeps test a (attached_value rest) h found none held
      go false none =
          let parts = neither (react_fault s.rules s.args_override_self a [] h) (fault (reacted s.rules a [] h)) none in
          next_keeps (reacted s.rules a [] h) parts.1 (reacted_keeps test a [] h found parts.0 held)

  character_keeps : (o : Option ℕ) (flags : Text) (skip : ℕ) (so_far : Outcome) (h : Held) (fault : Text → ℕ → Held → Kinds) (after : Text → ℕ → Outcome → Held → Held × Outcome)
      → ((rest : Text) (k : ℕ) (x : Outcome) (g : Held) → fault rest k g ≡ [] → P g.rows → P (after rest k x g).0.rows)
      → bundle_step_fault s.rules s.args_override_self o flags skip h fault ≡ [] → P h.rows → P (bundle_step s.rules o flags skip so_far h after).0.rows
  character_keeps None flags skip so_far h fault after next_keeps none held = held
  character_keeps (Some x) flags zero so_far h fault after next_keeps none held =
      let rest = drop (length (encode_utf8 x)) flags in
      short_keeps (λ a. not (is_some a.index) && has_short a x) (arg_by_short s.rules x) rest h (fault rest 0) (after rest 0 done) (next_keeps rest 0 done) refl none held
  character_keeps (Some x) flags (suc skip) so_far h fault after next_keeps none held = next_keeps (drop (length (encode_utf8 x)) flags) skip so_far h none held

  bundle_keeps : (k : ℕ) (flags : Text) (skip : ℕ) (so_far : Outcome) (h : Held)
      → flags_fault s.rules s.args_override_self k flags skip h ≡ [] → P h.rows → P (bundle_met s.rules k flags skip so_far h).0.rows
  unfolding flags_fault bundle_met
  bundle_keeps zero flags skip so_far h none held = held
  bundle_keeps (suc k) flags skip so_far h none held =
      character_keeps (slice_get (chars flags) 0) flags skip so_far h (flags_fault s.rules s.args_override_self k) (bundle_met s.rules k) (bundle_keeps k) none held

  plain_keeps : (waiting : Waiting) (word : Text) (h : Held) → P h.rows → P (plain_word s.rules waiting word h).0.rows
  plain_keeps (option id) word h held = go (arg_by_id s.rules id)
    where
      go : (o : Option Rule) → P (option_word o id word h).0.rows
      go None = held
      go (Some a) = held
  plain_keeps _ word h held = held

  after_flag_keeps : (waiting : Waiting) (word : Text) (h : Held) (x : Outcome) → P h.rows → P (after_flag s.rules waiting word h x).0.rows
  after_flag_keeps waiting word h done held = held
  after_flag_keeps waiting word h (waits id) held = held
  after_flag_keeps waiting word h x held = plain_keeps waiting word h held

  flag_word_keeps : (o : Option (Text × Option Text)) (waiting : Waiting) (word : Text) (h : Held)
      → flag_word_fault s.rules s.args_override_self o word h ≡ [] → P h.rows → P (long_or_other s.rules waiting word o h).0.rows
  flag_word_keeps (Some p) waiting word h none held =
      let met = long_met s.rules (arg_by_long s.rules p.0) p.1 h in
      after_flag_keeps waiting word met.0 met.1 (long_keeps (λ a. not (is_some a.index) && has_long a p.0) (arg_by_long s.rules p.0) p.1 h refl none held)
  flag_word_keeps None waiting word h none held = go (short_of word) none
    where
      go : (o : Option Text) → option_map_or (λ flags. bundle_fault s.rules s.args_override_self flags h) o [] ≡ [] → P (short_or_plain s.rules waiting word o h).0.rows
      go None none = plain_keeps waiting word h held
      go (Some flags) none =
          let met = bundle_met s.rules (length flags) flags h.skip plain (record h { skip = 0 }) in
          after_flag_keeps waiting word met.0 met.1 (bundle_keeps (length flags) flags h.skip plain (record h { skip = 0 }) none held)

  other_keeps : (o : Option Text) (waiting : Waiting) (position : ℕ) (word : Text) (h : Held) → other_fault s o word h ≡ [] → P h.rows
      → P (subcommand_or_other s.rules o waiting position word h).0.rows
  other_keeps (Some name) waiting position word h none held = held
  other_keeps None waiting position word h none held = go (bytes_eq word (45 ∷ 45 ∷ [])) none
    where
      go : (b : Bool) → (if b then [] else flag_word_fault s.rules s.args_override_self (long_of word) word h) ≡ []
          → P (if b then (h, trailing position) else long_or_other s.rules waiting word (long_of word) h).0.rows
      go true none = held
      go false none = flag_word_keeps (long_of word) waiting word h none held

  word_keeps : (names : Names) (is_trailing : Bool) (waiting : Waiting) (position : ℕ) (word : Text) (h : Held) → word_fault s names is_trailing waiting word h ≡ [] → P h.rows
      → P (word_met s.rules names is_trailing waiting position word h).0.rows
  word_keeps names true waiting position word h none held = held
  word_keeps names false waiting position word h none held = other_keeps (subcommand_met names waiting word) waiting position word h none held

  positional_keeps : (a : Rule) (word : Text) (h : Held) → positional_fault s.rules s.args_override_self a h ≡ [] → P h.rows → P (positional_held s.rules a word h).rows
  positional_keeps a word h none held = go (is_pending a h.pending && takes_several a) none
    where
      go : (b : Bool) → (if b then [] else settle_fault s.rules s.args_override_self h) ≡ [] → P (pushed a.id word (if b then h else settled s.rules h)).rows
      go true none = held
      go false none = settled_keeps h.pending h.rows none held

  stray_keeps : (o : Option Rule) (word : Text) (w : Walk) (h : Held)
      → option_map_or (λ a. positional_fault s.rules s.args_override_self a h) o (stray_fault s) ≡ [] → P h.rows → P (to_positional s.rules o word w h).held.rows
  stray_keeps None word w h none held = held
  stray_keeps (Some a) word w h none held = positional_keeps a word h none held

  step_keeps : (x : Step) (word : Text) (w : Walk) (h : Held) → step_fault s w.position h x ≡ [] → P h.rows → P (after_step s.rules word w h x).held.rows
  step_keeps (next waiting) word w h none held = held
  step_keeps (trailing position) word w h none held = held
  step_keeps (subcommand name) word w h none held = held
  step_keeps value word w h none held = stray_keeps (arg_by_index s.rules w.position) word w h none held

  turn_keeps : (names : Names) (w : Walk) (word : Text) → turn_fault s names w word ≡ [] → P w.held.rows → P (walked s.rules names w word).held.rows
  unfolding walked
  turn_keeps names w word none held = go w.stopped none
    where
      go : (o : Option (Text × List Text))
          → (if is_some o then [] else or_else (word_fault s names w.is_trailing w.waiting word w.held)
          (step_fault s w.position (word_met s.rules names w.is_trailing w.waiting w.position word w.held).0 (word_met s.rules names w.is_trailing w.waiting w.position word w.held).1)) ≡ []
          → P (walked_from s.rules names o w word).held.rows
      go (Some p) none = held
      go None none =
          let met = word_met s.rules names w.is_trailing w.waiting w.position word w.held in
          let parts = neither (word_fault s names w.is_trailing w.waiting word w.held) (step_fault s w.position met.0 met.1) none in
          step_keeps met.1 word w met.0 parts.1 (word_keeps names w.is_trailing w.waiting w.position word w.held parts.0 held)

  pub walk_keeps : (names : Names) (args : List Text) (w : Walk) → walk_fault s names w args ≡ [] → P w.held.rows → P (fold (walked s.rules names) w args).held.rows
  unfolding walk_fault
  walk_keeps names [] w none held = held
  walk_keeps names (word ∷ rest) w none held =
      let parts = neither (turn_fault s names w word) (walk_fault s names (walked s.rules names w word) rest) none in
      walk_keeps names rest (walked s.rules names w word) parts.1 (turn_keeps names w word parts.0 held)
