-- What stands under a name after changes, and what of it a redo from an LSN on leaves.
use Rattle.std.proofs.Common.{◌≡◌, ℕ, ◌<◌, ◌≤◌, nat_le, Bool, true, false, cond, List, [], ◌∷◌, ◌++◌, refl, sym, ap, ◌∙◌, arith}
use Rattle.std.proofs.lemmas.Bool.{true≢false, or_parts, leb-true, leb-false, le-leb, lt-leb, cond-true, cond-false, cond_both}
use Rattle.std.specs.List.{AllByRecursion}
use Rattle.je_order.specs.declared.name.Name.{Name}
use Rattle.log_trees.specs.Changes.{Written, LoggedChange, is_of, last_of, changes_from}
use Rattle.log_meaning.specs.Stands.{pick, Rises, has}

-- what holds of what stood before and of each change holds of what is left
pub last-holds : (P : Written → Type 0) (d : ℕ) (x : Name) (cs : List LoggedChange) (w : Written) → P w → AllByRecursion (λ c. P c.written) cs → P (last_of d x cs w)
last-holds P d x [] w before all = before
last-holds P d x (c ∷ cs) w before all = last-holds P d x cs (cond (is_of d x c) c.written w) (cond_both (is_of d x c) c.written w P (λ _. all.0) (λ _. before)) all.1

-- changes of which none is of a name leave what stood there
pub last-unchanged : (d : ℕ) (x : Name) (cs : List LoggedChange) (w : Written) → has d x cs ≡ false → last_of d x cs w ≡ w
last-unchanged d x [] w none = refl
last-unchanged d x (c ∷ cs) w none =
    let both = or_parts (is_of d x c) (has d x cs) none in
    ap (last_of d x cs) (cond-false (is_of d x c) c.written w both.0) ∙ last-unchanged d x cs w both.1

-- the data left hangs on the data that stood before alone
pub last-value : (d : ℕ) (x : Name) (cs : List LoggedChange) (w v : Written) → w.value ≡ v.value → (last_of d x cs w).value ≡ (last_of d x cs v).value
last-value d x [] w v same = same
last-value d x (c ∷ cs) w v same = by_test (is_of d x c) (last-value d x cs w v same)
  where
    by_test : (b : Bool) → (last_of d x cs w).value ≡ (last_of d x cs v).value → (last_of d x cs (cond b c.written w)).value ≡ (last_of d x cs (cond b c.written v)).value
    by_test true rest = refl
    by_test false rest = rest

-- and so does that of what stands behind an LSN
pub last-tied : (d : ℕ) (x : Name) (base : ℕ) (cs : List LoggedChange) (w v : Written) → (base ≤ w.at → w.value ≡ v.value) → base ≤ (last_of d x cs w).at →
    (last_of d x cs w).value ≡ (last_of d x cs v).value
last-tied d x base [] w v same le = same le
last-tied d x base (c ∷ cs) w v same le = by_test (is_of d x c) (last-tied d x base cs w v same) le
  where
    by_test : (b : Bool) → (base ≤ (last_of d x cs w).at → (last_of d x cs w).value ≡ (last_of d x cs v).value) → base ≤ (last_of d x cs (cond b c.written w)).at → (last_of d x cs (cond b c.written w)).value ≡ (last_of d x cs (cond b c.written v)).value
    by_test true rest le = refl
    by_test false rest le = rest le

-- ---- rising changes

pub rises-none : (d : ℕ) (x : Name) (w : Written) (cs : List LoggedChange) → has d x cs ≡ false → Rises d x w cs
rises-none d x w [] none = tt
rises-none d x w (c ∷ cs) none =
    let both = or_parts (is_of d x c) (has d x cs) none in
    (λ h. absurd (true≢false (sym h ∙ both.0)), rises-none d x (cond (is_of d x c) c.written w) cs both.1)

pub rises-push : (d : ℕ) (x : Name) (w : Written) (cs : List LoggedChange) (c : LoggedChange) → Rises d x w cs → (last_of d x cs w).at < c.written.at → Rises d x w (cs ++ c ∷ [])
rises-push d x w [] c up lt = (λ _. lt, tt)
rises-push d x w (e ∷ cs) c up lt = (up.0, rises-push d x (cond (is_of d x e) e.written w) cs c up.1 lt)

-- ---- redo

pick-there : (r : ℕ) (w s : Written) → r ≤ w.at → pick r w s ≡ w
pick-there r w s le = cond-true (nat_le r w.at) w s (le-leb r w.at le)

pick-before : (r : ℕ) (w s : Written) → w.at < r → pick r w s ≡ s
pick-before r w s lt = cond-false (nat_le r w.at) w s (lt-leb r w.at lt)

pub pick_there : (r : ℕ) (w s : Written) → r ≤ w.at → pick r w s ≡ w
pick_there r w s le = pick-there r w s le

-- rising changes from an LSN on, over a redo from there, leave a redo from there of all of them
pub redo_changes : (d : ℕ) (x : Name) (r : ℕ) (cs : List LoggedChange) (w s v : Written) → Rises d x w cs → v ≡ pick r w s → last_of d x (changes_from r cs) v ≡ pick r (last_of d x cs w) s
redo_changes d x r [] w s v up is = is
redo_changes d x r (c ∷ cs) w s v up is = by_tests (nat_le r c.written.at) (is_of d x c) refl refl up.1 (redo_changes d x r cs)
  where
    by_tests : (a b : Bool) → nat_le r c.written.at ≡ a → is_of d x c ≡ b → Rises d x (cond b c.written w) cs →
        ((f t u : Written) → Rises d x f cs → u ≡ pick r f t → last_of d x (changes_from r cs) u ≡ pick r (last_of d x cs f) t) →
        last_of d x (cond a (c ∷ changes_from r cs) (changes_from r cs)) v ≡ pick r (last_of d x cs (cond b c.written w)) s
    by_tests true true at of rest goes =
        ap (last_of d x (changes_from r cs)) (cond-true (is_of d x c) c.written v of)
        ∙ goes c.written s c.written rest (sym (pick-there r c.written s (leb-true r c.written.at at)))
    by_tests true false at of rest goes = ap (last_of d x (changes_from r cs)) (cond-false (is_of d x c) c.written v of) ∙ goes w s v rest is
    by_tests false true at of rest goes =
        let low : c.written.at < r = leb-false r c.written.at at in
        let less : w.at < c.written.at = up.0 of in
        goes c.written s v rest (is ∙ pick-before r w s (omega (arith, low, less)) ∙ sym (pick-before r c.written s low))
    by_tests false false at of rest goes = goes w s v rest is

-- changes that all stand behind an LSN
pub all_from : (r : ℕ) (cs : List LoggedChange) → AllByRecursion (λ c. r ≤ c.written.at) cs → changes_from r cs ≡ cs
all_from r [] all = refl
all_from r (c ∷ cs) all = cond-true (nat_le r c.written.at) (c ∷ changes_from r cs) (changes_from r cs) (le-leb r c.written.at all.0) ∙ ap (λ (l : List LoggedChange). c ∷ l) (all_from r cs all.1)

pub none_from : (r : ℕ) (cs : List LoggedChange) → AllByRecursion (λ c. c.written.at < r) cs → changes_from r cs ≡ []
none_from r [] all = refl
none_from r (c ∷ cs) all = cond-false (nat_le r c.written.at) (c ∷ changes_from r cs) (changes_from r cs) (lt-leb r c.written.at all.0) ∙ none_from r cs all.1
