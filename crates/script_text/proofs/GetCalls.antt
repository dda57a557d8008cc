-- What the words of a get spell.
use Rattle.std.proofs.Common.{◌≡◌, ℕ, List, [], ◌∷◌, ◌&&◌, Bool, true, false, cond, Some, None, ap, refl, codes}
use Rattle.std.specs.Str.{bytes_eq}
use Rattle.std.proofs.lemmas.Option.{same_Some}
use Rattle.je_order.specs.Words.{is_word}
use Rattle.script_text.specs.Bytes.{bytes_of}
use Rattle.script_text.specs.Cursors.{rmw_of}
use Rattle.script_text.specs.Grammar.{get_call, get_of}

pub get_is : (db key : List ℕ) (rest : List (List ℕ)) (rmw : Bool) → Some rmw ≡ rmw_of rest → cond (is_word db) (get_call db rmw (bytes_of key)) None ≡ get_of (db ∷ key ∷ rest)
get_is db key [] rmw is = ap (λ (b : Bool). cond (is_word db) (get_call db b (bytes_of key)) None) (same_Some rmw false is)
get_is db key (word ∷ []) rmw is = by_case (is_word db) (bytes_eq word (codes "rmw")) is
  where
    by_case : (a b : Bool) → Some rmw ≡ cond b (Some true) None → cond a (get_call db rmw (bytes_of key)) None ≡ cond (a && b) (get_call db true (bytes_of key)) None
    by_case true true h = ap (λ (b : Bool). get_call db b (bytes_of key)) (same_Some rmw true h)
    by_case false true h = refl
    by_case a false h = cc
get_is db key (word ∷ more ∷ rest) rmw is = cc

pub get_is_none : (db key : List ℕ) (rest : List (List ℕ)) → None ≡ rmw_of rest → None ≡ get_of (db ∷ key ∷ rest)
get_is_none db key [] is = cc
get_is_none db key (word ∷ []) is = by_case (is_word db) (bytes_eq word (codes "rmw")) is
  where
    by_case : (a b : Bool) → None ≡ cond b (Some true) None → None ≡ cond (a && b) (get_call db true (bytes_of key)) None
    by_case true true h = cc
    by_case false true h = refl
    by_case true false h = refl
    by_case false false h = refl
get_is_none db key (word ∷ more ∷ rest) is = refl
