-- What a checkpoint noted, while nodes of one tree change.
use Rattle.std.proofs.Common.{◌≡◌, ◌<◌, ◌||◌, ◌⊎◌, inl, inr, ℕ, suc, min, Bool, true, false, List, [], ◌∷◌, Option, None, Some, IsSome, option_map, length, refl, ap, sym, subst, ◌∙◌, arith}
use Rattle.std.specs.Prelude.{IfSome}
use Rattle.std.proofs.lemmas.Bool.{true≢false, cases_order}
use Rattle.std.proofs.lemmas.Option.{none-some, same_Some}
use Rattle.je_order.specs.declared.name.Name.{Name}
use Rattle.record_map.specs.Cells.{value_at}
use Rattle.tree_nodes.specs.declared.node.Node.{Node}
use Rattle.tree_nodes.specs.Nodes.{NodeRow, IsOver, earlier, logged, marked, without_mark}
use Rattle.tree_nodes.specs.Levels.{row_of, HasMarkedAt, HasPutAt}
use Rattle.tree_nodes.proofs.LevelLaws.{is_level}
use Rattle.db_tree.specs.declared.node_at.NodeAt.{NodeAt}
use Rattle.db_tree.specs.declared.node_split.NodeSplit.{NodeSplit}
use Rattle.record_map.specs.declared.cell.Cell.{Cell}
use Rattle.db_tree.specs.Dirty.{HasSettled, is_as_imaged}
use Rattle.db_tree.specs.NodeSteps.{IsHandedUp, IsLoggedUp, mark_above}
use Rattle.db_tree.specs.Shapes.{AreForced, forced_if}
use Rattle.db_tree.specs.Splitting.{AreSplit, IsSplitAt}
use Rattle.db_tree.specs.Waiting.{is_among}
use Rattle.db_tree.proofs.NodeSteps.{IsElsewhere, place_of, put_elsewhere, put_here}
use Rattle.db_tree.proofs.Over.{is_over, over_low, over_put, there_is}
use Rattle.db_tree.proofs.SplitLaws.{level_cases}
use Rattle.tree_images.specs.Notes.{NotesHold}
use Rattle.tree_images.proofs.LateMarks.{or_left, or_right}
use Rattle.tree_images.proofs.NodeSteps.{elsewhere}

pub some_weaker : (o : Option ℕ) (P Q : ℕ → Type 0) → ((n : ℕ) → P n → Q n) → IfSome o P → IfSome o Q
some_weaker None P Q weaker h = tt
some_weaker (Some n) P Q weaker h = weaker n h

-- what holds of two numbers holds of the lesser
min_by : (P : ℕ → Type 0) (a b : ℕ) → P a → P b → P (min a b)
min_by P a b pa pb = by_order (cases_order a b)
  where
    by_order : (a ≡ b) ⊎ ((a < b) ⊎ (b < a)) → P (min a b)
    by_order (inl same) = subst P (omega (arith, same)) pa
    by_order (inr (inl less)) = subst P (omega (arith, less)) pa
    by_order (inr (inr more)) = subst P (omega (arith, more)) pb

-- ---- nodes over names

-- a node over a name comes from one that was over it, with its note
pub record WasNoted (row : NodeRow) (x : Name) (noted : Bool) : Type 0 where
  pub was : Name × Node
  pub over : IsOver row x was
  pub same : noted ≡ was.1.noted

abbrev pub Above : List NodeRow → Type 0
Above rows = (level : ℕ) (x : Name) (e c : Name × Node) → IsOver (row_of rows (suc level)) x e → IsOver (row_of rows level) x c → c.1.noted ≡ true → e.1.noted ≡ true

pub above_from : (old new : List NodeRow) → ((level : ℕ) (x : Name) (e : Name × Node) → IsOver (row_of new level) x e → WasNoted (row_of old level) x e.1.noted) → Above old → Above new
above_from old new was above level x e c upper lower noted =
    let u = was (suc level) x e upper in let l = was level x c lower in u.same ∙ above level x u.was l.was u.over l.over (sym l.same ∙ noted)

put_was : (old new : List NodeRow) (level : ℕ) (low at : Name) (m n : Node) → IsOver (row_of old level) at (low, m) → HasPutAt old new level at n → n.noted ≡ m.noted → (k : ℕ) (x : Name) (e : Name × Node) → IsOver (row_of new k) x e →
    WasNoted (row_of old k) x e.1.noted
put_was old new level low at m n under put noted k x e over = by_level (level_cases k level)
  where
    at_level : (x : Name) (e : Name × Node) → ((e.1 ≡ n) × IsOver (row_of old level) x (low, m)) ⊎ IsOver (row_of old level) x e → WasNoted (row_of old level) x e.1.noted
    at_level x e (inl is) = record { was = (low, m); over = is.1; same = ap (λ (o : Node). o.noted) is.0 ∙ noted }
    at_level x e (inr was) = record { was = e; over = was; same = refl }

    by_level : (k ≡ level) ⊎ (k ≡ level → ⊥) → WasNoted (row_of old k) x e.1.noted
    by_level (inl same) =
        subst (λ (i : ℕ). WasNoted (row_of old i) x e.1.noted) (sym same)
        (at_level x e (over_put (row_of old level) (row_of new level) at low x m n e put.here under (subst (λ (i : ℕ). IsOver (row_of new i) x e) same over)))
    by_level (inr other) = record { was = e; over = subst (λ (row : NodeRow). IsOver row x e) (put.others k other) over; same = refl }

-- ---- one node changes

-- a node that is not noted has no mark, or one that passes
abbrev pub IsFine : (ℕ → Bool) → Node → Type 0
IsFine passes n = n.noted ≡ false → IfSome n.from (λ lsn. passes lsn ≡ true)

pub notes_put : (passes : ℕ → Name → ℕ → Bool) (old new : List NodeRow) (level : ℕ) (low at : Name) (m n : Node) → IsOver (row_of old level) at (low, m) → HasPutAt old new level at n → n.noted ≡ m.noted →
    (n.noted ≡ false → IfSome n.from (λ lsn. passes level at lsn ≡ true)) → NotesHold passes old → NotesHold passes new
notes_put passes old new level low at m n under put noted fine notes = record {
  marks = λ k x o there. by_place k x o there (place_of level at k x);
  above = above_from old new (put_was old new level low at m n under put noted) notes.above;
}
  where
    by_place : (k : ℕ) (x : Name) (o : Node) → value_at x (row_of new k) ≡ Some o → ((level ≡ k) × (at ≡ x)) ⊎ IsElsewhere level at k x → IsFine (passes k x) o
    by_place k x o there (inr away) = notes.marks k x o (sym (put_elsewhere old new level at n k x put away) ∙ there)
    by_place k x o there (inl is) =
        subst (λ (i : ℕ). IsFine (passes i x) o) is.0
        (subst (λ (y : Name). IsFine (passes level y) o) is.1
        (subst (IsFine (passes level at)) (same_Some n o (sym (put_here old new level at n put) ∙ subst (λ (i : ℕ). value_at at (row_of new i) ≡ Some o) (sym is.0) (subst (λ (y : Name). value_at y (row_of new k) ≡ Some o) (sym is.1) there))) fine))

pub notes_weaker : (passes later : ℕ → Name → ℕ → Bool) (rows : List NodeRow) → ((level : ℕ) (x : Name) (lsn : ℕ) → passes level x lsn ≡ true → later level x lsn ≡ true) → NotesHold passes rows → NotesHold later rows
notes_weaker passes later rows weaker notes = record {
  marks = λ level x n there unnoted. some_weaker n.from (λ lsn. passes level x lsn ≡ true) (λ lsn. later level x lsn ≡ true) (weaker level x) (notes.marks level x n there unnoted);
  above = notes.above;
}

earlier_passes : (P : ℕ → Type 0) (own : Option ℕ) (from : ℕ) → IfSome own P → P from → P (earlier own from)
earlier_passes P None from h new = new
earlier_passes P (Some f) from h new = min_by P f from h new

-- the node over a name is marked from an LSN that passes, if it is not noted
notes_marked_if : (passes : ℕ → Name → ℕ → Bool) (old new : List NodeRow) (level : ℕ) (x : Name) (from : ℕ) → (m : HasMarkedAt old new level x from) → (m.e.1.noted ≡ false → passes level m.e.0 from ≡ true) → NotesHold passes old → NotesHold passes new
notes_marked_if passes old new level x from m passed notes =
    notes_put passes old new level m.e.0 m.e.0 m.e.1 (marked from m.e.1) (over_low (row_of old level) m.e.0 m.e.1 m.over.there) m.put refl
    (λ unnoted. earlier_passes (λ lsn. passes level m.e.0 lsn ≡ true) m.e.1.from from (notes.marks level m.e.0 m.e.1 m.over.there unnoted) (passed unnoted)) notes

pub notes_marked : (passes : ℕ → Name → ℕ → Bool) (old new : List NodeRow) (level : ℕ) (x : Name) (from : ℕ) → HasMarkedAt old new level x from → ((low : Name) → passes level low from ≡ true) → NotesHold passes old → NotesHold passes new
notes_marked passes old new level x from m passed notes = notes_marked_if passes old new level x from m (λ unnoted. passed m.e.0) notes

-- the mark of the node over a name goes, where it has its last image's content
pub notes_settled : (passes : ℕ → Name → ℕ → Bool) (cells : List (Name × Cell)) (old new : List NodeRow) (x : Name) → HasSettled cells old new x → NotesHold passes old → NotesHold passes new
notes_settled passes cells old new x s notes = by_test (is_as_imaged (row_of old 0) cells s.e) refl
  where
    by_test : (t : Bool) → is_as_imaged (row_of old 0) cells s.e ≡ t → NotesHold passes new
    by_test true is = notes_put passes old new 0 s.e.0 s.e.0 s.e.1 (without_mark s.e.1) (over_low (row_of old 0) s.e.0 s.e.1 s.over.there) (s.cleared is) refl (λ unnoted. tt) notes
    by_test false is = subst (NotesHold passes) (sym (s.kept is)) notes

-- ---- an image is logged

module _ (passes later : ℕ → Name → ℕ → Bool) (old new : List NodeRow) (level : ℕ) (low : Name) (at : ℕ) (up : IsLoggedUp old new level low at)
    (others : (k : ℕ) (x : Name) (lsn : ℕ) → (k ≡ level → x ≡ low → ⊥) → passes k x lsn ≡ true → later k x lsn ≡ true)
    (handed : (x : Name) (lsn : ℕ) → suc level < length old → passes level low lsn ≡ true → later (suc level) x lsn ≡ true)
    (own : (x : Name) → later (suc level) x at ≡ true) (notes : NotesHold passes old) where
  abbrev one_of : ℕ → Name → ℕ → Bool
  one_of k x lsn = passes k x lsn || later k x lsn

  notes_one : NotesHold one_of old
  notes_one = notes_weaker passes one_of old (λ k x lsn h. or_left (passes k x lsn) (later k x lsn) h) notes

  -- the node above is noted if the node is; else it gets a mark that passes
  parent_passes : (x : Name) (n : Option ℕ) → suc level < length old → IfSome n (λ lsn. passes level low lsn ≡ true) → one_of (suc level) x (mark_above n at) ≡ true
  parent_passes x None lt h = or_right (passes (suc level) x at) (later (suc level) x at) (own x)
  parent_passes x (Some from) lt h = or_right (passes (suc level) x from) (later (suc level) x from) (handed x from lt h)

  notes_mid : IsHandedUp old up.mid level low (mark_above up.node.from at) → NotesHold one_of up.mid
  notes_mid (inl top) = subst (NotesHold one_of) (sym top.1) notes_one
  notes_mid (inr m) = notes_marked_if one_of old up.mid (suc level) low (mark_above up.node.from at) m (λ unnoted. passed unnoted up.node.noted refl) notes_one
    where
      passed : m.e.1.noted ≡ false → (b : Bool) → up.node.noted ≡ b → one_of (suc level) m.e.0 (mark_above up.node.from at) ≡ true
      passed unnoted true noted = absurd (true≢false (sym (notes.above level low m.e (low, up.node) m.over (over_low (row_of old level) low up.node up.there) noted) ∙ unnoted))
      passed unnoted false noted =
          parent_passes m.e.0 up.node.from (is_level old (suc level) m.e.0 (there_is (row_of old (suc level)) m.e.0 m.e.1 m.over.there)) (notes.marks level low up.node up.there noted)

  there_mid : IsHandedUp old up.mid level low (mark_above up.node.from at) → value_at low (row_of up.mid level) ≡ Some up.node
  there_mid (inl top) = ap (λ (rows : List NodeRow). value_at low (row_of rows level)) top.1 ∙ up.there
  there_mid (inr m) = ap (value_at low) (m.put.others level (λ same. absurd (omega (arith, same)))) ∙ up.there

  notes_new : NotesHold one_of new
  notes_new =
      notes_put one_of up.mid new level low low up.node (logged at up.node) (over_low (row_of up.mid level) low up.node (there_mid up.handed)) up.put refl (λ unnoted. tt) (notes_mid up.handed)

  pub notes_logged : NotesHold later new
  notes_logged = record { marks = λ k x n there unnoted. by_place k x n there unnoted (place_of level low k x); above = notes_new.above }
    where
      no_mark : (n : Node) (P : ℕ → Type 0) → logged at up.node ≡ n → IfSome n.from P
      no_mark n P is = subst (λ (o : Node). IfSome o.from P) is tt

      by_place : (k : ℕ) (x : Name) (n : Node) → value_at x (row_of new k) ≡ Some n → n.noted ≡ false → ((level ≡ k) × (low ≡ x)) ⊎ IsElsewhere level low k x → IfSome n.from (λ lsn. later k x lsn ≡ true)
      by_place k x n there unnoted (inl is) =
          no_mark n (λ lsn. later k x lsn ≡ true)
          (same_Some (logged at up.node) n (sym (put_here up.mid new level low (logged at up.node) up.put) ∙ subst (λ (i : ℕ). value_at low (row_of new i) ≡ Some n) (sym is.0) (subst (λ (y : Name). value_at y (row_of new k) ≡ Some n) (sym is.1) there)))
      by_place k x n there unnoted (inr away) =
          some_weaker n.from (λ lsn. one_of k x lsn ≡ true) (λ lsn. later k x lsn ≡ true) (λ lsn h. passed lsn (passes k x lsn) refl h) (notes_new.marks k x n there unnoted)
        where
          passed : (lsn : ℕ) (b : Bool) → passes k x lsn ≡ b → (b || later k x lsn) ≡ true → later k x lsn ≡ true
          passed lsn true is h = others k x lsn (elsewhere level low k x away) is
          passed lsn false is h = h

-- ---- nodes that wait, or do not

forced_noted : (t : Bool) (forced : Bool) (n : Node) → (forced_if t forced n).noted ≡ n.noted
forced_noted true forced n = refl
forced_noted false forced n = refl

forced_from : (t : Bool) (forced : Bool) (n : Node) → (forced_if t forced n).from ≡ n.from
forced_from true forced n = refl
forced_from false forced n = refl

was_forced : (t : Bool) (forced : Bool) (o : Option Node) (n : Node) → option_map (forced_if t forced) o ≡ Some n → (m : Node) × (o ≡ Some m) × (n.noted ≡ m.noted) × (n.from ≡ m.from)
was_forced t forced None n is = absurd (none-some n is)
was_forced t forced (Some m) n is =
    let same = same_Some (forced_if t forced m) n is in (m, refl, sym (ap (λ (o : Node). o.noted) same) ∙ forced_noted t forced m, sym (ap (λ (o : Node). o.from) same) ∙ forced_from t forced m)

pub some_forced : (t : Bool) (forced : Bool) (o : Option Node) → IsSome o → IsSome (option_map (forced_if t forced) o)
some_forced t forced None h = h
some_forced t forced (Some n) h = refl

pub notes_forced : (passes : ℕ → Name → ℕ → Bool) (forced : Bool) (nodes : List NodeAt) (old new : List NodeRow) → AreForced forced nodes old new → NotesHold passes old → NotesHold passes new
notes_forced passes forced nodes old new are notes = record {
  marks = λ k x n there unnoted. (let w = was k x n there in subst (λ (o : Option ℕ). IfSome o (λ lsn. passes k x lsn ≡ true)) (sym w.3) (notes.marks k x w.0 w.1 (sym w.2 ∙ unnoted)));
  above = above_from old new (λ k x e over. (let w = was k e.0 e.1 over.there in
      record {
        was = (e.0, w.0);
        over = record { there = w.1; below = over.below; most = λ q some upto. over.most q (subst IsSome (sym (are.each k q)) (some_forced (is_among nodes k q) forced (value_at q (row_of old k)) some)) upto };
        same = w.2;
      })) notes.above;
}
  where
    was : (k : ℕ) (x : Name) (n : Node) → value_at x (row_of new k) ≡ Some n → (m : Node) × (value_at x (row_of old k) ≡ Some m) × (n.noted ≡ m.noted) × (n.from ≡ m.from)
    was k x n there = was_forced (is_among nodes k x) forced (value_at x (row_of old k)) n (sym (are.each k x) ∙ there)

-- ---- splits

-- a node over a name comes from one that was over it, with its note and its mark
pub record WasNode (row : NodeRow) (x : Name) (n : Node) : Type 0 where
  pub was : Name × Node
  pub over : IsOver row x was
  pub noted : n.noted ≡ was.1.noted
  pub from : n.from ≡ was.1.from

split_was : (old new : List NodeRow) (level : ℕ) (middle : Name) → IsSplitAt old new level middle → (k : ℕ) (x : Name) (e : Name × Node) → IsOver (row_of new k) x e → WasNode (row_of old k) x e.1
split_was old new level middle s k x e over = by_level (level_cases k level)
  where
    under : (e : Name × Node) × IsOver (row_of old level) middle e
    under = is_over (row_of old level) middle (s.parts.rising level) (s.parts.parts level s.there)

    at_level : (x : Name) (e : Name × Node) → ((e.1 ≡ s.node) × IsOver (row_of old level) x under.0) ⊎ IsOver (row_of old level) x e → WasNode (row_of old level) x e.1
    at_level x e (inl is) = record {
      was = under.0;
      over = is.1;
      noted = ap (λ (o : Node). o.noted) is.0 ∙ s.noted under.0 under.1;
      from = ap (λ (o : Node). o.from) is.0 ∙ s.from under.0 under.1;
    }
    at_level x e (inr was) = record { was = e; over = was; noted = refl; from = refl }

    by_level : (k ≡ level) ⊎ (k ≡ level → ⊥) → WasNode (row_of old k) x e.1
    by_level (inl same) =
        subst (λ (i : ℕ). WasNode (row_of old i) x e.1) (sym same)
        (at_level x e (over_put (row_of old level) (row_of new level) middle under.0.0 x under.0.1 s.node e s.put.here under.1 (subst (λ (i : ℕ). IsOver (row_of new i) x e) same over)))
    by_level (inr other) = record { was = e; over = subst (λ (row : NodeRow). IsOver row x e) (s.put.others k other) over; noted = refl; from = refl }

pub splits_was : (level : ℕ) (splits : List NodeSplit) (old new : List NodeRow) → AreSplit level splits old new → (k : ℕ) (x : Name) (e : Name × Node) → IsOver (row_of new k) x e → WasNode (row_of old k) x e.1
splits_was level [] old new same k x e over =
    record { was = e; over = subst (λ (rows : List NodeRow). IsOver (row_of rows k) x e) same over; noted = refl; from = refl }
splits_was level (split ∷ splits) old new are k x e over =
    let later = splits_was (suc level) splits are.0 new are.2 k x e over in
    let first = split_was old are.0 level split.middle are.1 k x later.was later.over in
    record { was = first.was; over = first.over; noted = later.noted ∙ first.noted; from = later.from ∙ first.from }

-- marks that pass pass under each low
pub notes_split : (passes : ℕ → ℕ → Bool) (splits : List NodeSplit) (old new : List NodeRow) → AreSplit 0 splits old new → NotesHold (λ level x. passes level) old → NotesHold (λ level x. passes level) new
notes_split passes splits old new are notes = record {
  marks = λ k x n there unnoted. (let w = splits_was 0 splits old new are k x (x, n) (over_low (row_of new k) x n there) in
      subst (λ (o : Option ℕ). IfSome o (λ lsn. passes k lsn ≡ true)) (sym w.from) (notes.marks k w.was.0 w.was.1 w.over.there (sym w.noted ∙ unnoted)));
  above = above_from old new (λ k x e over. (let w = splits_was 0 splits old new are k x e over in record { was = w.was; over = w.over; same = w.noted })) notes.above;
}
