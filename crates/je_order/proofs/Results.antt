-- What a result says that is an error, and one that is said in other words.
use Rattle.std.proofs.Common.{Result, Ok, Err, IsErr, IfOk, OnOk, OnErr}

-- an error has no value of which anything need hold
pub no_value : {T E : Type 0} (result : Result T E) (P : T → Type 0) → IsErr result → IfOk result P
no_value (Ok value) P is = cc
no_value (Err e) P is = tt

pub no_ok : {T E : Type 0} (result : Result T E) (P : Type 0) → IsErr result → OnOk result P
no_ok (Ok value) P is = cc
no_ok (Err e) P is = tt

-- what holds anyway holds at an error
pub at_error : {T E P : Type 0} (result : Result T E) → P → OnErr result P
at_error (Ok value) so = tt
at_error (Err e) so = so

-- what holds of a value holds in other words
pub if_ok : {T E : Type 0} {P Q : T → Type 0} (r : Result T E) → ((x : T) → P x → Q x) → IfOk r P → IfOk r Q
if_ok (Ok x) k h = k x h
if_ok (Err e) k h = tt
