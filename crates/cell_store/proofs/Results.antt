-- Facts that hold whatever a call returns.
use Rattle.std.proofs.Common.{Option, Some, None, IfNone, IfSome, Result, Ok, Err, IfOk, OnErr}

pub on_err : {X E P : Type 0} (r : Result X E) → P → OnErr r P
on_err (Ok x) p = tt
on_err (Err e) p = p

pub if_none : {X P : Type 0} (o : Option X) → P → IfNone o P
if_none None p = p
if_none (Some x) p = tt

pub none_had : {X E P Q : Type 0} (r : Result (Option X) E) → (P → Q) → IfOk r (λ had. IfNone had P) → IfOk r (λ had. IfNone had Q)
none_had (Ok None) f p = f p
none_had (Ok (Some x)) f p = tt
none_had (Err e) f p = tt

pub some_had : {X E P Q : Type 0} (r : Result (Option X) E) → (P → Q) → IfOk r (λ had. IfSome had (λ _. P)) → IfOk r (λ had. IfSome had (λ _. Q))
some_had (Ok None) f p = tt
some_had (Ok (Some x)) f p = f p
some_had (Err e) f p = tt

-- what follows from each of the three ends of a call
pub in_each : {X E N S U P : Type 0} (r : Result (Option X) E) → IfOk r (λ had. IfNone had N) → IfOk r (λ had. IfSome had (λ _. S)) → OnErr r U → (N → P) → (S → P) → (U → P) → P
in_each (Ok None) n s u f g h = f n
in_each (Ok (Some x)) n s u f g h = g s
in_each (Err e) n s u f g h = h u
