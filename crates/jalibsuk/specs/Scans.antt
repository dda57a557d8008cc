-- Scans.
use Rattle.std.specs.Prelude.{ℕ, ◌≡◌, ◌⊎◌, ◌&&◌, ◌-◌, ◌^◌, Bool, true, false, not, List, Option, None, Some, Result, Ok, Err, if◌then◌else◌}
use Rattle.std.specs.Ordering.{is_lt, is_ge}
use Rattle.std.specs.Result.{result_transpose}
use Rattle.je_order.specs.Order.{bytes_cmp}
use Rattle.je_disk.specs.DiskMeaning.{DiskMeaning}
use Rattle.store_model.specs.declared.answer.Answer.{Answer}
use Rattle.store_model.specs.declared.answer.Answer.TheVariants.{Rec, IndexRec}
use Rattle.store_model.specs.declared.call.Call.TheVariants.{Cur, Close}
use Rattle.environment.specs.declared.environment.Environment.{Environment}
use Rattle.jalibsuk.specs.declared.error.Error.{Error}
use Rattle.jalibsuk.specs.declared.keys.Keys.{Keys}
use Rattle.jalibsuk.specs.declared.keys.Keys.TheVariants.{All, From, Before, Between}
use Rattle.jalibsuk.specs.declared.direction.Direction.{Direction}
use Rattle.jalibsuk.specs.declared.direction.Direction.TheVariants.{Forward, Backward}
use Rattle.jalibsuk.specs.declared.seek.Seek.{Seek}
use Rattle.jalibsuk.specs.declared.seek.Seek.TheVariants.{Next, Prev, Range}
use Rattle.jalibsuk.specs.declared.walk.Walk.{Walk}
use Rattle.jalibsuk.specs.Told.{and_then, record_told}
use Rattle.jalibsuk.specs.Methods.{Gives}
use Rattle.jalibsuk.specs.Cursors.{Opens, motion_by}
use Rattle.jalibsuk.specs.Seen.{Seen}

-- whether a key is one of them
abbrev pub has_key : Keys → List ℕ → Bool
has_key All key = true
has_key (From from) key = is_ge (bytes_cmp key from.now)
has_key (Before to) key = is_lt (bytes_cmp key to.now)
has_key (Between from to) key = is_ge (bytes_cmp key from.now) && is_lt (bytes_cmp key to.now)

-- whether a record was found that has none of them
abbrev pub is_past : Keys → Result Answer Error → Bool
is_past keys (Ok (Rec key value)) = not (has_key keys key)
is_past keys (Ok (IndexRec key primary_key value)) = not (has_key keys key)
is_past keys answered = false

-- where a walk goes down from a key, the first record that is not below it is found first
abbrev pub place_of : Direction → Keys → Option Seek
place_of Backward (Before to) = Some (Range to)
place_of Backward (Between from to) = Some (Range to)
place_of direction keys = None

-- the first motion, and each other one
abbrev pub first_of : Direction → Keys → Seek
first_of Forward (From from) = Range from
first_of Forward (Between from to) = Range from
first_of Forward keys = Next
first_of Backward keys = Prev

abbrev pub next_of : Direction → Seek
next_of Forward = Next
next_of Backward = Prev

-- the walk of a session's cursor, as it begins
abbrev pub walk_of : ℕ → ℕ → Direction → Keys → Walk
walk_of session number direction keys = record { session = session; number = number; direction = direction; keys = keys; seek = first_of direction keys; left = 2 ^ 64 - 1 }

module _ {R : Type 0} where
  -- what a step gives: nothing behind the last record, which is where none is left or the next one has another key
  abbrev pub item_of : (Answer → Result (Option R) Error) → Keys → Result Answer Error → Option (Result R Error)
  item_of f keys answered = if is_past keys answered then None else result_transpose (and_then answered f)

  -- a walk ends where it gives no record
  abbrev pub left_after : ℕ → Option (Result R Error) → ℕ
  left_after left (Some (Ok r)) = left - 1
  left_after left item = 0

  abbrev pub walk_after : Walk → Option (Result R Error) → Walk
  walk_after walk item = record walk { seek = next_of walk.direction; left = left_after walk.left item }

module _ {D : Type 0} (meaning : DiskMeaning D) where
  -- a walk's step: a walk that has ended gives nothing; each other one moves its cursor
  abbrev pub Steps : {R : Type 0} → (Answer → Result (Option R) Error) → Seen D → Seen D → Walk → Walk → Option (Result R Error) → Type 0
  Steps f old new walk after item =
      ((walk.left ≡ 0) × (item ≡ None) × (after ≡ walk) × (new ≡ old))
      ⊎ ((answered : Result Answer Error) × Gives meaning old.environment new.environment walk.session (Some (Cur walk.number (motion_by walk.seek) false)) answered
      × (item ≡ item_of f walk.keys answered) × (after ≡ walk_after walk item) × (new.names ≡ old.names))

  -- a session's cursor was closed, if there was memory for it
  abbrev pub Closes : Environment D → Environment D → ℕ → ℕ → Type 0
  Closes old new session number = (answered : Result Answer Error) × Gives meaning old new session (Some (Close number)) answered

  -- a walk was placed: it goes on, or its cursor was closed
  abbrev pub Placed : Environment D → Environment D → Walk → Result (Unit {0}) Error → Result Walk Error → Type 0
  Placed old new walk (Ok u) result = (new ≡ old) × (result ≡ Ok walk)
  Placed old new walk (Err e) result = Closes old new walk.session walk.number × (result ≡ Err e)

  -- a walk begins where it is to
  abbrev pub Places : Option Seek → Environment D → Environment D → Walk → Result Walk Error → Type 0
  Places None old new walk result = (new ≡ old) × (result ≡ Ok walk)
  Places (Some seek) old new walk result =
      (middle : Environment D) × (answered : Result Answer Error) × Gives meaning old middle walk.session (Some (Cur walk.number (motion_by seek) false)) answered
      × Placed middle new walk (and_then (and_then answered record_told) (λ o. Ok tt)) result

  -- a walk begins with a cursor of its own
  abbrev pub BeginsWalk : Direction → Keys → Environment D → Environment D → ℕ → Result ℕ Error → Result Walk Error → Type 0
  BeginsWalk direction keys old new session (Ok number) result = Places (place_of direction keys) old new (walk_of session number direction keys) result
  BeginsWalk direction keys old new session (Err e) result = (new ≡ old) × (result ≡ Err e)

  abbrev pub Walks : Direction → Keys → Environment D → Environment D → ℕ → Option (List ℕ) → Result Walk Error → Type 0
  Walks direction keys old new session name result =
      (middle : Environment D) × (number : Result ℕ Error) × Opens meaning 8 1 old middle session name number × BeginsWalk direction keys middle new session number result
