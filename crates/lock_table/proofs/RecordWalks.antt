-- A walk over the records of a transaction that changes each: what was done so far.
use Rattle.std.proofs.Common.{◌≡◌, ℕ, Bool, true, false, cond, ◌||◌, List, [], ◌∷◌, Some, Option, Vec, refl, ap, sym, ◌∙◌, subst, ◌⊎◌, inl, inr, ⊎_elim}
use Rattle.std.specs.declared.alloc.Global.{Global}
use Rattle.std.specs.List.{list_any}
use Rattle.std.specs.Option.{option_map_or}
use Rattle.std.specs.Ordering.{nat_cmp, is_eq}
use Rattle.std.proofs.lemmas.Bool.{cases_Bool, or_parts, cond-true, cond-false}
use Rattle.lock_table.specs.declared.record_id.RecordId.{RecordId}
use Rattle.lock_table.specs.Locks.{IsSettled}
use Rattle.lock_table.specs.Records.{is_record}
use Rattle.lock_table.specs.Table.{at_db, lists_record, is_in_one}
use Rattle.lock_table.proofs.QueueMaps.{Queue}

-- the record is among `all` and was changed, or it is as it was and is to come as far as it is among `all`
abbrev pub IsDone : (Queue → Queue) → Queue → Queue → Bool → Bool → Type 0
IsDone f old now all rest = ((now ≡ f old) × (all ≡ true)) ⊎ ((now ≡ old) × (all ≡ rest))

pub done_begins : (f : Queue → Queue) (q : Queue) (all rest : Bool) → rest ≡ all → IsDone f q q all rest
done_begins f q all rest is = inr (refl, sym is)

-- one more: a record that comes twice is as after the first time
pub done_step : (f : Queue → Queue) (old now next : Queue) (all b less rest : Bool) → f (f old) ≡ f old → rest ≡ (b || less) → IsDone f old now all rest → next ≡ cond b (f now) now → IsDone f old next all less
done_step f old now next all true less rest twice is (inl d) n = inl (n ∙ (ap f d.0 ∙ twice), d.1)
done_step f old now next all true less rest twice is (inr d) n = inl (n ∙ ap f d.0, d.1 ∙ is)
done_step f old now next all false less rest twice is (inl d) n = inl (n ∙ d.0, d.1)
done_step f old now next all false less rest twice is (inr d) n = inr (n ∙ d.0, d.1 ∙ is)

pub done_ends : (f : Queue → Queue) (old now : Queue) (all rest : Bool) → rest ≡ false → IsDone f old now all rest → now ≡ cond all (f old) old
done_ends f old now all rest none (inl d) = d.0 ∙ sym (ap (λ b. cond b (f old) old) d.1)
done_ends f old now all rest none (inr d) = d.0 ∙ sym (ap (λ b. cond b (f old) old) (d.1 ∙ none))

-- in either case the record is settled
pub done_settled : (f : Queue → Queue) (old now : Queue) (all rest : Bool) → (IsSettled old → IsSettled (f old)) → IsSettled old → IsDone f old now all rest → IsSettled now
done_settled f old now all rest keeps s (inl d) = subst IsSettled (sym d.0) (keeps s)
done_settled f old now all rest keeps s (inr d) = subst IsSettled (sym d.0) s

-- a record that no list has stands at no database
pub in_none : (dbs : List (ℕ × Vec RecordId Global)) (r : RecordId) → is_in_one dbs r ≡ false → lists_record dbs r ≡ false
in_none [] r h = refl
in_none (e ∷ es) r h = let p = or_parts (list_any (is_record r) e.1.items) (is_in_one es r) h in ⊎_elim
    (λ k. ap (reads r) (cond-true (is_eq (nat_cmp r.db e.0)) (Some e.1) (at_db r.db es) k) ∙ p.0)
    (λ k. ap (reads r) (cond-false (is_eq (nat_cmp r.db e.0)) (Some e.1) (at_db r.db es) k) ∙ in_none es r p.1)
    (cases_Bool (is_eq (nat_cmp r.db e.0)))
  where
    reads : RecordId → Option (Vec RecordId Global) → Bool
    reads r o = option_map_or (λ s. list_any (is_record r) s.items) o false

-- where a change of a record that is not listed is none, all records are changed
pub all_done : (f : Queue → Queue) (old now : Queue) (all : Bool) → now ≡ cond all (f old) old → (all ≡ false → f old ≡ old) → now ≡ f old
all_done f old now true is none = is
all_done f old now false is none = is ∙ sym (none refl)
