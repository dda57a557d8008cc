-- What a call reads of a database's records: one range of names, and of the records within it the first, the last or all.
use Rattle.std.specs.Prelude.{ℕ, ◌++◌, ◌∷◌, [], List, Bool, filter}
use Rattle.std.specs.Ordering.{is_eq}
use Rattle.je_order.specs.Order.{name_cmp}
use Rattle.je_order.specs.Edges.{Edge, is_between}
use Rattle.je_order.specs.Edges.Edge.{First, At, Behind, End}
use Rattle.je_order.specs.declared.name.Name.{Name}
use Rattle.store_model.specs.declared.kind.Kind.{Kind}
use Rattle.store_model.specs.Store.{Pair, named, name_of}

-- the names from an edge up to another one
pub record Range : Type 0 where
  pub from : Edge
  pub upto : Edge

-- the names from an edge up to another one
abbrev pub range : Edge → Edge → Range
range from upto = record { from = from; upto = upto }

-- whether a name is in a range
abbrev pub is_within : Range → Name → Bool
is_within r n = is_between r.from r.upto n

-- no names, all names, one name
abbrev pub empty_range : Range
empty_range = range First First

-- all names
abbrev pub whole_range : Range
whole_range = range First End

-- one name
abbrev pub just : Name → Range
just n = range (At n) (Behind n)

-- behind all names of a key: in front of the least key that is greater
abbrev pub behind_key : List ℕ → Edge
behind_key key = At (named (key ++ 0 ∷ []) [])

-- all names of a key
abbrev pub of_key : List ℕ → Range
of_key key = range (At (named key [])) (behind_key key)

-- which records of a range are taken
pub data Way : Type 0 where
  Lowest : Way
  Highest : Way
  Each : Way

-- the last record of a list, as a list of one or none
abbrev pub last_of : List Pair → List Pair
last_of [] = []
last_of (p ∷ []) = p ∷ []
last_of (p ∷ q ∷ ps) = last_of (q ∷ ps)

-- the records that are taken of those of a range
abbrev pub taken_by : Way → List Pair → List Pair
taken_by Lowest [] = []
taken_by Lowest (p ∷ ps) = p ∷ []
taken_by Highest ps = last_of ps
taken_by Each ps = ps

-- what is seen: the records of the range, and of these the one or those that are taken
abbrev pub seen : Kind → Way → Range → List Pair → List Pair
seen kind way r pairs = taken_by way (filter (λ p. is_within r (name_of kind p)) pairs)

-- the names that were passed: the range, cut behind the lowest or in front of the highest record where one was taken
abbrev pub passed_to : Kind → Way → Range → List Pair → Range
passed_to kind Lowest r (p ∷ ps) = range r.from (Behind (name_of kind p))
passed_to kind Highest r (p ∷ ps) = range (At (name_of kind p)) r.upto
passed_to kind way r taken = r

abbrev pub passed : Kind → Way → Range → List Pair → Range
passed kind way r pairs = passed_to kind way r (seen kind way r pairs)

-- the record of a name, as a list of one or none
abbrev pub at_name : Kind → Name → List Pair → List Pair
at_name kind n pairs = filter (λ p. is_eq (name_cmp (name_of kind p) n)) pairs

-- where a call looks
pub record Look : Type 0 where
  pub way : Way
  pub range : Range

-- a look by that way in that range
abbrev pub look : Way → Range → Look
look way r = record { way = way; range = r }
