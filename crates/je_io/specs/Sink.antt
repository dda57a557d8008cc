-- What writing does to the bytes that a sink has been given, if it is observable.
use Rattle.std.specs.Prelude.{◌≡◌, ℕ, List, ◌++◌, take, Option, Some, None}

-- what an observable sink has written gains these bytes at its end; an unobservable one stays unobservable
abbrev pub Gains : Option (List ℕ) → Option (List ℕ) → List ℕ → Type 0
Gains (Some before) (Some after) bytes = after ≡ before ++ bytes
Gains (Some before) None bytes = ⊥
Gains None (Some after) bytes = ⊥
Gains None None bytes = Unit {0}

-- it gains the first of these bytes, any number of them
abbrev pub GainsPart : Option (List ℕ) → Option (List ℕ) → List ℕ → Type 0
GainsPart before after bytes = (count : ℕ) × Gains before after (take count bytes)
