-- Records that go in many at a time.
use Rattle.std.proofs.Common.{◌≡◌, ℕ, List, [], ◌∷◌, ◌++◌, ◌==◌, Bool, true, false, cond, refl, ap, ap₂, sym, subst, ◌∙◌}
use mathlib.Core.Path.{fun_ext}
use Rattle.std.specs.Option.{option_or}
use Rattle.std.specs.declared.option.Option.{Option}
use Rattle.std.specs.declared.option.Option.TheVariants.{None, Some}
use Rattle.std.specs.declared.cmp.Ordering.{Ordering}
use Rattle.std.specs.declared.cmp.Ordering.TheVariants.{Less, Equal, Greater}
use Rattle.std.specs.Ordering.{is_eq, match_ordering, eq_by_cmp, ordering_reverse}
use Rattle.std.specs.Map.{lookup, update, update_all}
use Rattle.std.specs.BTreeMap.{insert_entry, is_at}
use Rattle.std.proofs.lemmas.Bool.{cond-false}
use Rattle.std.proofs.lemmas.Option.{none-some, same_Some}
use Rattle.std.specs.List.{AllByRecursion}
use Rattle.je_order.specs.Order.{name_cmp}
use Rattle.je_order.specs.declared.name.Name.{Name}
use Rattle.log_replay.specs.Rows.{Row, Rows, IsRising, row_changed, rows_with, rows_put}
use Rattle.log_replay.proofs.MapRows.{name_cmp_total, flips_equal, insert_is_set}
use Rattle.je_order.proofs.Orderings.{name_exact, equal_from_test}
use Rattle.log_replay.proofs.RowLaws.{rising-changed, rising_head, rising_tail, name_flipped_back}
use Rattle.je_order.proofs.Lists.{all_weaker}

-- ---- puts, one behind the other

-- a put behind others
pub rows_put-push : (puts : List Row) (put : Row) (rows : List Row) → rows_put (puts ++ put ∷ []) rows ≡ rows_with put.0 (Some put.1) (rows_put puts rows)
rows_put-push [] put rows = refl
rows_put-push (p ∷ puts) put rows = rows_put-push puts put (rows_with p.0 (Some p.1) rows)

-- puts leave names rising
pub rising-put : (puts rows : List Row) → IsRising rows → IsRising (rows_put puts rows)
rising-put [] rows up = up
rising-put (p ∷ puts) rows up = rising-put puts (rows_with p.0 (Some p.1) rows) (rising-changed rows p.0 (Some p.1) up)

-- ---- what a name finds

-- the data of a name, as a map looks it up
abbrev pub found : List Row → Name → Option (List ℕ)
found rows q = lookup (is_at (name_cmp q)) rows

-- at the front row, by how the name compares to it
found_at : (name : Name) (value : List ℕ) (q : Name) (r : Row) (rows : List Row) (o : Ordering) → name_cmp name r.0 ≡ o →
    found (insert_entry name_cmp rows name value) q ≡ cond (is_eq (name_cmp name q)) (Some value) (found rows q) →
    found (match_ordering o ((name, value) ∷ r ∷ rows) ((r.0, value) ∷ rows) (r ∷ insert_entry name_cmp rows name value)) q
    ≡ cond (is_eq (name_cmp name q)) (Some value) (found (r ∷ rows) q)
found_at name value q r rows Less h step =
    ap (λ (b : Bool). cond b (Some value) (found (r ∷ rows) q)) (flips_equal name q (name_cmp name q) refl)
found_at name value q r rows Equal h step = by_case (is_eq (name_cmp q r.0)) refl
  where
    here : is_eq (name_cmp name q) ≡ is_eq (name_cmp q r.0)
    here = ap is_eq (ap (λ (n : Name). name_cmp n q) (name_exact name r.0 h)) ∙ flips_equal q r.0 (name_cmp q r.0) refl

    by_case : (b : Bool) → is_eq (name_cmp q r.0) ≡ b → cond b (Some value) (found rows q) ≡ cond (is_eq (name_cmp name q)) (Some value) (cond b (Some r.1) (found rows q))
    by_case true e = rw (here, e) refl
    by_case false e = rw (here, e) refl
found_at name value q r rows Greater h step =
    ap (λ (o : Option (List ℕ)). cond (is_eq (name_cmp q r.0)) (Some r.1) o) step ∙ by_case (is_eq (name_cmp q r.0)) (is_eq (name_cmp name q)) refl refl
  where
    by_case : (a b : Bool) → is_eq (name_cmp q r.0) ≡ a → is_eq (name_cmp name q) ≡ b →
        cond a (Some r.1) (cond b (Some value) (found rows q)) ≡ cond b (Some value) (cond a (Some r.1) (found rows q))
    by_case true true ea eb =
        let there : name_cmp name r.0 ≡ Equal = name_cmp_total.congr name q r.0 (equal_from_test (name_cmp name q) eb) ∙ equal_from_test (name_cmp q r.0) ea in
        cc
    by_case true false ea eb = refl
    by_case false true ea eb = refl
    by_case false false ea eb = refl

-- after an insertion
found-insert : (name : Name) (value : List ℕ) (q : Name) (rows : List Row) →
    found (insert_entry name_cmp rows name value) q ≡ cond (is_eq (name_cmp name q)) (Some value) (found rows q)
found-insert name value q [] = ap (λ (b : Bool). let none : Option (List ℕ) = None in cond b (Some value) none) (flips_equal name q (name_cmp name q) refl)
found-insert name value q (r ∷ rows) = found_at name value q r rows (name_cmp name r.0) refl (found-insert name value q rows)

-- after a put
found-set : (put : Row) (rows : List Row) → IsRising rows → (q : Name) →
    found (rows_with put.0 (Some put.1) rows) q ≡ update (eq_by_cmp name_cmp) (found rows) put.0 (Some put.1) q
found-set put rows up q = ap (λ (l : List Row). found l q) (sym (insert_is_set put.0 put.1 rows up)) ∙ found-insert put.0 put.1 q rows

-- after puts
found-put : (puts rows : List Row) → IsRising rows → (q : Name) → found (rows_put puts rows) q ≡ update_all (eq_by_cmp name_cmp) (found rows) puts q
found-put [] rows up q = refl
found-put (p ∷ puts) rows up q =
    found-put puts (rows_with p.0 (Some p.1) rows) (rising-changed rows p.0 (Some p.1) up) q
    ∙ ap (λ (f : Name → Option (List ℕ)). update_all (eq_by_cmp name_cmp) f puts q) (fun_ext (found-set p rows up))

-- ---- rows in which each name finds the same

self_equal : (n : Name) → name_cmp n n ≡ Equal
self_equal n = by_case (name_cmp n n) (name_cmp_total.antisymm n n)
  where
    by_case : (o : Ordering) → o ≡ ordering_reverse o → o ≡ Equal
    by_case Less h = cc
    by_case Equal h = refl
    by_case Greater h = cc

-- a name before all rows is not among them
not_found : (q : Name) (rows : List Row) → AllByRecursion (λ (r : Row). name_cmp q r.0 ≡ Less) rows → found rows q ≡ None
not_found q [] h = refl
not_found q (r ∷ rows) h = rw h.0 (not_found q rows h.1)

-- and so is one before the first of rows that rise
before_first : (q : Name) (r : Row) (rows : List Row) → IsRising (r ∷ rows) → name_cmp q r.0 ≡ Less → found (r ∷ rows) q ≡ None
before_first q r rows up less =
    not_found q (r ∷ rows)
    (less, all_weaker (λ (y : Row). name_cmp r.0 y.0 ≡ Less) (λ y. name_cmp q y.0 ≡ Less) (λ y e. name_cmp_total.trans q r.0 y.0 less e) rows (rising_head r rows up))

scan_first : (r : Row) (rows : List Row) → found (r ∷ rows) r.0 ≡ Some r.1
scan_first r rows = rw (self_equal r.0) refl

-- behind the first row, by whether the name is its
scan_after_header : (r s : Row) (a b : List Row) (q : Name) (t : Bool) → is_eq (name_cmp q r.0) ≡ t → r.0 ≡ s.0 → IsRising (r ∷ a) → IsRising (s ∷ b) →
    found (r ∷ a) q ≡ found (s ∷ b) q → found a q ≡ found b q
scan_after_header r s a b q true e same up_a up_b h =
    let at : q ≡ r.0 = name_exact q r.0 (equal_from_test (name_cmp q r.0) e) in
    let none_a : found a q ≡ None = not_found q a (subst (λ (n : Name). AllByRecursion (λ (y : Row). name_cmp n y.0 ≡ Less) a) (sym at) (rising_head r a up_a)) in
    let none_b : found b q ≡ None = not_found q b (subst (λ (n : Name). AllByRecursion (λ (y : Row). name_cmp n y.0 ≡ Less) b) (sym same ∙ sym at) (rising_head s b up_b)) in
    none_a ∙ sym none_b
scan_after_header r s a b q false e same up_a up_b h =
    let other : is_eq (name_cmp q s.0) ≡ false = sym (ap (λ (n : Name). is_eq (name_cmp q n)) same) ∙ e in
    sym (cond-false (is_eq (name_cmp q r.0)) (Some r.1) (found a q) e) ∙ h ∙ cond-false (is_eq (name_cmp q s.0)) (Some s.1) (found b q) other

-- by how the first names compare
same_by : (r s : Row) (a b : List Row) (o : Ordering) → name_cmp r.0 s.0 ≡ o → IsRising (r ∷ a) → IsRising (s ∷ b) → ((q : Name) → found (r ∷ a) q ≡ found (s ∷ b) q) →
    (((q : Name) → found a q ≡ found b q) → a ≡ b) → r ∷ a ≡ s ∷ b
same_by r s a b Less e up_a up_b h step =
    absurd (none-some r.1 (sym (before_first r.0 s b up_b e) ∙ sym (h r.0) ∙ scan_first r a))
same_by r s a b Equal e up_a up_b h step =
    let same : r.0 ≡ s.0 = name_exact r.0 s.0 e in
    let there : found (s ∷ b) r.0 ≡ Some s.1 = ap (λ (n : Name). found (s ∷ b) n) same ∙ scan_first s b in
    let data_ : r.1 ≡ s.1 = same_Some r.1 s.1 (sym (scan_first r a) ∙ h r.0 ∙ there) in
    let make : Name → List ℕ → Row = λ n d. (n, d) in
    let front : r ≡ s = ap₂ make same data_ in
    ap₂ (λ (x : Row) (l : List Row). x ∷ l) front (step (λ q. scan_after_header r s a b q (is_eq (name_cmp q r.0)) refl same up_a up_b (h q)))
same_by r s a b Greater e up_a up_b h step =
    absurd (none-some s.1 (sym (before_first s.0 r a up_a (name_flipped_back r.0 s.0 e)) ∙ h s.0 ∙ scan_first s b))

-- rows that rise, and in which each name finds the same, are the same
pub same_rows : (a b : List Row) → IsRising a → IsRising b → ((q : Name) → found a q ≡ found b q) → a ≡ b
same_rows [] [] up_a up_b h = refl
same_rows [] (s ∷ b) up_a up_b h = absurd (none-some s.1 (h s.0 ∙ scan_first s b))
same_rows (r ∷ a) [] up_a up_b h = absurd (none-some r.1 (sym (h r.0) ∙ scan_first r a))
same_rows (r ∷ a) (s ∷ b) up_a up_b h =
    same_by r s a b (name_cmp r.0 s.0) refl up_a up_b h (same_rows a b (rising_tail r a up_a) (rising_tail s b up_b))

-- ---- a map that was filled

-- pairs inserted in turn over f: those that they have from nothing, and else what f has
over : (f g h : Name → Option (List ℕ)) (puts : List Row) → ((q : Name) → h q ≡ option_or (g q) (f q)) → (q : Name) →
    update_all (eq_by_cmp name_cmp) h puts q ≡ option_or (update_all (eq_by_cmp name_cmp) g puts q) (f q)
over f g h [] is q = is q
over f g h (p ∷ puts) is q =
    over f (update (eq_by_cmp name_cmp) g p.0 (Some p.1)) (update (eq_by_cmp name_cmp) h p.0 (Some p.1)) puts (λ n. by_case n (is_eq (name_cmp p.0 n)) (is n)) q
  where
    by_case : (n : Name) (b : Bool) → h n ≡ option_or (g n) (f n) → cond b (Some p.1) (h n) ≡ option_or (cond b (Some p.1) (g n)) (f n)
    by_case n true e = refl
    by_case n false e = e

-- ---- the records by databases

-- a put that waits behind others changes the records that are loaded
pub put_waits : (at db txn : ℕ) (name : Name) (value : List ℕ) (rows all : Rows) (waiting more : List Row) → at ≡ db → more ≡ waiting ++ (name, value) ∷ [] →
    ((d : ℕ) → cond (d == at) (rows_put waiting (rows d)) (rows d) ≡ all d) →
    (d : ℕ) → cond (d == at) (rows_put more (rows d)) (rows d) ≡ row_changed (record { txn = txn; db = db; name = name; value = Some value }) all d
put_waits at db txn name value rows all waiting more here is same d =
    by_case (d == at) (same d) ∙ ap (λ (n : ℕ). cond (d == n) (rows_with name (Some value) (all d)) (all d)) here
  where
    by_case : (b : Bool) → cond b (rows_put waiting (rows d)) (rows d) ≡ all d →
        cond b (rows_put more (rows d)) (rows d) ≡ cond b (rows_with name (Some value) (all d)) (all d)
    by_case true e =
        ap (λ (l : List Row). rows_put l (rows d)) is ∙ rows_put-push waiting (name, value) (rows d) ∙ ap (λ (l : List Row). rows_with name (Some value) l) e
    by_case false e = e
