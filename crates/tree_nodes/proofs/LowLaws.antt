-- The lows of a level, by the nodes that have them.
use Rattle.std.proofs.Common.{◌≡◌, ℕ, List, [], ◌∷◌, Bool, true, false, cond, Option, Some, option_map, filter, set, length, unwrap_or, get_or, refl, ap, sym, ◌∙◌, Ordering, Less, Equal, Greater, suc, zero}
use Rattle.std.specs.List.{slice_get}
use Rattle.std.proofs.lemmas.Map.Entries.{length-keys_of}
use Rattle.std.proofs.lemmas.Option.{slice_get-map}
use Rattle.std.specs.Map.{keys_of}
use Rattle.std.specs.BTreeMap.{insert_entry}
use Rattle.std.specs.BTreeSet.{insert_key}
use Rattle.std.specs.Ordering.{match_ordering}
use Rattle.je_order.specs.Order.{name_cmp}
use Rattle.je_order.specs.Edges.{is_below, is_between}
use Rattle.je_order.specs.Edges.Edge.{Behind, End}
use Rattle.je_order.specs.declared.name.Name.{Name}
use Rattle.record_map.specs.Cells.{first_of, last_of, from_edge, below_edge}
use Rattle.tree_nodes.specs.declared.node.Node.{Node}
use Rattle.tree_nodes.specs.Nodes.{NodeRow, least, placed, low_behind}
use Rattle.tree_nodes.specs.Lows.{lows_of, lows_at, low_up_to, low_after, with_low}

-- the names that pass a test are those of what passes it
pub keys_passed : {V : Type 0} (p : Name → Bool) (es : List (Name × V)) → keys_of (filter (λ e. p e.0) es) ≡ filter p (keys_of es)
keys_passed p [] = refl
keys_passed p (e ∷ es) = by_test (p e.0) (keys_passed p es)
  where
    by_test : (t : Bool) → keys_of (filter (λ (k : Name × _). p k.0) es) ≡ filter p (keys_of es) →
        keys_of (cond t (e ∷ filter (λ (k : Name × _). p k.0) es) (filter (λ (k : Name × _). p k.0) es)) ≡ cond t (e.0 ∷ filter p (keys_of es)) (filter p (keys_of es))
    by_test true rest = ap (λ (names : List Name). e.0 ∷ names) rest
    by_test false rest = rest

pub first_key : {V : Type 0} (es : List (Name × V)) → option_map (λ e. e.0) (first_of es) ≡ first_of (keys_of es)
first_key [] = refl
first_key (e ∷ es) = refl

pub last_key : {V : Type 0} (es : List (Name × V)) → option_map (λ e. e.0) (last_of es) ≡ last_of (keys_of es)
last_key [] = refl
last_key (e ∷ []) = refl
last_key (e ∷ f ∷ es) = last_key (f ∷ es)

-- the low behind one, by the lows alone
pub low_after_is : (low : Name) (row : NodeRow) → low_behind low row ≡ low_after low (keys_of row)
low_after_is low row = first_key (from_edge (Behind low) row) ∙ ap first_of (keys_passed (is_between (Behind low) End) row)

-- the lows are those that have places
pub lows_placed : (lows : List (Name × ℕ)) (nodes : List Node) → keys_of (placed lows nodes) ≡ keys_of lows
lows_placed [] nodes = refl
lows_placed (e ∷ lows) nodes = ap (λ (names : List Name). e.0 ∷ names) (lows_placed lows nodes)

-- the last low up to a name is the greatest one
pub low_found : (lows : List (Name × ℕ)) (nodes : List Node) (x : Name) (e : Name × ℕ) → last_of (below_edge (Behind x) lows) ≡ Some e → e.0 ≡ low_up_to x (keys_of (placed lows nodes))
low_found lows nodes x e is =
    sym (ap (λ (names : List Name). unwrap_or (last_of (filter (is_below (Behind x)) names)) least) (lows_placed lows nodes)
    ∙ ap (λ (names : List Name). unwrap_or (last_of names) least) (sym (keys_passed (is_below (Behind x)) lows))
    ∙ ap (λ (o : Option Name). unwrap_or o least) (sym (last_key (below_edge (Behind x) lows)) ∙ ap (option_map (λ (l : Name × ℕ). l.0)) is))

-- an entry more has its key among the keys
pub keys_inserted : {V : Type 0} (es : List (Name × V)) (k : Name) (v : V) → keys_of (insert_entry name_cmp es k v) ≡ insert_key name_cmp (keys_of es) k
keys_inserted [] k v = refl
keys_inserted (e ∷ es) k v = by_order (name_cmp k e.0) (keys_inserted es k v)
  where
    by_order : (o : Ordering) → keys_of (insert_entry name_cmp es k v) ≡ insert_key name_cmp (keys_of es) k →
        keys_of (match_ordering o ((k, v) ∷ e ∷ es) ((e.0, v) ∷ es) (e ∷ insert_entry name_cmp es k v)) ≡ match_ordering o (k ∷ e.0 ∷ keys_of es) (e.0 ∷ keys_of es) (e.0 ∷ insert_key name_cmp (keys_of es) k)
    by_order Less rest = refl
    by_order Equal rest = refl
    by_order Greater rest = ap (λ (names : List Name). e.0 ∷ names) rest

-- the lows of one level
pub lows_at_is : (rows : List NodeRow) (level : ℕ) → lows_at (lows_of rows) level ≡ keys_of (get_or rows level [])
lows_at_is [] level = refl
lows_at_is (row ∷ rows) zero = refl
lows_at_is (row ∷ rows) (suc level) = lows_at_is rows level

-- another level in the place of one
lows_set : (rows : List NodeRow) (level : ℕ) (row : NodeRow) → lows_of (set rows level row) ≡ set (lows_of rows) level (keys_of row)
lows_set [] level row = refl
lows_set (r ∷ rows) zero row = refl
lows_set (r ∷ rows) (suc level) row = ap (λ (lows : List (List Name)). keys_of r ∷ lows) (lows_set rows level row)

pub low_put : (rows : List NodeRow) (level : ℕ) (row : NodeRow) (low : Name) → keys_of row ≡ insert_key name_cmp (keys_of (get_or rows level [])) low → lows_of (set rows level row) ≡ with_low level low (lows_of rows)
low_put rows level row low is =
    lows_set rows level row ∙ ap (λ (names : List Name). set (lows_of rows) level names) (is ∙ ap (λ (names : List Name). insert_key name_cmp names low) (sym (lows_at_is rows level)))

-- how many lows pass a test, by those that have places
pub lows_counted : (p : Name → Bool) (lows : List (Name × ℕ)) (nodes : List Node) → length (filter (λ e. p e.0) lows) ≡ length (filter p (keys_of (placed lows nodes)))
lows_counted p lows nodes =
    sym (length-keys_of (filter (λ (e : Name × ℕ). p e.0) lows)) ∙ ap length (keys_passed p lows ∙ ap (filter p) (sym (lows_placed lows nodes)))

-- the low with so many before it that pass a test
pub low_nth : (p : Name → Bool) (lows : List (Name × ℕ)) (nodes : List Node) (n : ℕ) →
    option_map (λ e. e.0) (slice_get (filter (λ e. p e.0) lows) n) ≡ slice_get (filter p (keys_of (placed lows nodes))) n
low_nth p lows nodes n =
    sym (slice_get-map (λ (e : Name × ℕ). e.0) (filter (λ (e : Name × ℕ). p e.0) lows) n)
    ∙ ap (λ (names : List Name). slice_get names n) (keys_passed p lows ∙ ap (filter p) (sym (lows_placed lows nodes)))
