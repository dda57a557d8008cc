-- The room for entries, and the write buffer's bytes by file, as the fields change.
use Rattle.std.proofs.Common.{◌≡◌, ◌≢◌, ℕ, ◌+◌, ◌≤◌, List, [], ◌∷◌, ◌++◌, length, refl, sym, ap, ap₂, ◌∙◌}
use Rattle.std.specs.Prelude.{Result, Ok, Err, OnOk, OnErr, true}
use Rattle.std.specs.Result.{is_err}
use Rattle.std.proofs.Common.{length-append}
use Rattle.log_entry.specs.declared.entry.Entry.{Entry}
use Rattle.log_entry.specs.declared.entry.Entry.TheVariants.{FileHeader}
use Rattle.log_entry.specs.Encoding.{encoding, size_of}
use Rattle.log_entry.proofs.ReadingLaws.{length-encoding}
use Rattle.log_buffer.specs.Flip.{header_size}
use Rattle.log_buffer.specs.WriteBuffer.{bytes_for, first_for}
use Rattle.log_buffer.proofs.WriteBufferPieces.{IsCut}
use Rattle.log_buffer.proofs.WriteBuffers.{push_last, push_other, begin_next, begin_other}

-- the same places and bytes are the same for each file
pub same_for : (bytes starts bytes' starts' : List ℕ) (last f : ℕ) → bytes' ≡ bytes → starts' ≡ starts → bytes_for bytes' starts' last f ≡ bytes_for bytes starts last f
same_for bytes starts bytes' starts' last f p q = ap₂ (λ (b s : List ℕ). bytes_for b s last f) p q

pub pushed_last : (bytes starts bytes' starts' more : List ℕ) (last : ℕ) → length starts ≤ last → IsCut (length bytes) starts → bytes' ≡ bytes ++ more → starts' ≡ starts
    → bytes_for bytes' starts' last last ≡ bytes_for bytes starts last last ++ more
pushed_last bytes starts bytes' starts' more last le cut p q = same_for (bytes ++ more) starts bytes' starts' last last p q ∙ push_last bytes more starts last le cut

pub pushed_other : (bytes starts bytes' starts' more : List ℕ) (last f : ℕ) → length starts ≤ last → IsCut (length bytes) starts → bytes' ≡ bytes ++ more → starts' ≡ starts → f ≢ last
    → bytes_for bytes' starts' last f ≡ bytes_for bytes starts last f
pushed_other bytes starts bytes' starts' more last f le cut p q apart = same_for (bytes ++ more) starts bytes' starts' last f p q ∙ push_other bytes more starts last f le cut apart

pub begun_next : (bytes starts bytes' starts' more : List ℕ) (last : ℕ) → length starts ≤ last → bytes' ≡ bytes ++ more → starts' ≡ starts ++ length bytes ∷ []
    → bytes_for bytes' starts' (last + 1) (last + 1) ≡ more
begun_next bytes starts bytes' starts' more last le p q =
    same_for (bytes ++ more) (starts ++ length bytes ∷ []) bytes' starts' (last + 1) (last + 1) p q ∙ begin_next bytes more starts last (last + 1) le refl

pub begun_other : (bytes starts bytes' starts' more : List ℕ) (last f : ℕ) → length starts ≤ last → IsCut (length bytes) starts → bytes' ≡ bytes ++ more → starts' ≡ starts ++ length bytes ∷ [] → f ≢ last + 1
    → bytes_for bytes' starts' (last + 1) f ≡ bytes_for bytes starts last f
begun_other bytes starts bytes' starts' more last f le cut p q apart =
    same_for (bytes ++ more) (starts ++ length bytes ∷ []) bytes' starts' (last + 1) f p q ∙ begin_other bytes more starts last (last + 1) f le refl cut apart

-- a header and an entry behind it
pub encoded_size : (bytes : List ℕ) (f : ℕ) (e : Entry) → bytes ≡ encoding (FileHeader 1 f) 0 ++ encoding e 0 → length bytes ≡ header_size + size_of e
encoded_size bytes f e is =
    ap length is ∙ length-append (encoding (FileHeader 1 f) 0) (encoding e 0) ∙ ap₂ (λ (a b : ℕ). a + b) (length-encoding (FileHeader 1 f) 0) (length-encoding e 0)

pub on_err : {T E : Type 0} (r : Result T E) (P : Type 0) → P → OnErr r P
on_err (Ok v) P p = tt
on_err (Err e) P p = p

pub not_ok : {T E : Type 0} (r : Result T E) (P : Type 0) → is_err r ≡ true → OnOk r P
not_ok (Ok v) P err = absurd cc
not_ok (Err e) P err = tt

pub on_ok : {T E : Type 0} (r : Result T E) (P Q : Type 0) → OnOk r P → (P → Q) → OnOk r Q
on_ok (Ok v) P Q p to = to p
on_ok (Err e) P Q p to = tt

pub on_oks : {T E : Type 0} (r : Result T E) (P Q R : Type 0) → OnOk r P → OnOk r Q → (P → Q → R) → OnOk r R
on_oks (Ok v) P Q R p q both = both p q
on_oks (Err e) P Q R p q both = tt

-- where the first byte is for the first file, it was so before a next file began
pub first_before : (starts starts' : List ℕ) (at first first' : ℕ) → starts' ≡ starts ++ at ∷ [] → first' ≡ first → first_for starts' first' ≡ first' → first_for starts first ≡ first
first_before starts starts' at first first' begun same is = by_cases starts (sym (ap₂ (λ (s : List ℕ) (n : ℕ). first_for s n) begun same) ∙ is ∙ same) where
  by_cases : (s : List ℕ) → first_for (s ++ at ∷ []) first ≡ first → first_for s first ≡ first
  by_cases [] e = refl
  by_cases (x ∷ s) e = e

pub first_same : (starts starts' : List ℕ) (first first' : ℕ) → starts' ≡ starts → first' ≡ first → first_for starts' first' ≡ first' → first_for starts first ≡ first
first_same starts starts' first first' same number is = sym (ap₂ (λ (s : List ℕ) (n : ℕ). first_for s n) same number) ∙ is ∙ number
