-- What a put says of its octets, in the words of the command's status.
use Rattle.std.proofs.Common.{◌≡◌, ◌≢◌, inl, inr, ℕ, List, Ok, Err, ap, subst, arith}
use Rattle.dv_outside.specs.Station.{Content, Puts}
use Rattle.dv_exit.specs.declared.status.Status.{Status}
use Rattle.dv_exit.specs.declared.status.Status.TheVariants.{Station}
use Rattle.dv_exit.specs.Status.{number_of}
use Rattle.dv_tool.specs.Tool.{IsPutStatus, put_result}

-- a put that succeeded
pub put_done : {T E : Type 0} (x : T) (octets request : List ℕ) (old new : Content) → octets ≡ request
    → Puts {T = T} {E = E} octets (Ok x) old new → Puts request (put_result 0) old new
put_done x octets request old new same put =
    subst (λ (o : List ℕ). Puts o (put_result 0) old new) same (record { keeps = put.keeps; reads = put.reads; images = put.images; sending = put.sending; whole = put.whole })

-- a put that failed
pub put_cut : {T E : Type 0} (e : E) (octets request : List ℕ) (old new : Content) → octets ≡ request
    → Puts {T = T} {E = E} octets (Err e) old new → Puts request (put_result 5) old new
put_cut e octets request old new same put =
    subst (λ (o : List ℕ). Puts o (put_result 5) old new) same (record { keeps = put.keeps; reads = put.reads; images = put.images; sending = put.sending; whole = tt })

-- a command that puts what it makes of a file asks nothing of the register's file
pub no_register : (s : Status) → IsPutStatus (number_of s) → s ≢ Station
no_register s h e = let six : number_of s ≡ 6 = ap number_of e in
    elim h [
      | inl a ↦ omega (arith, a, six)
      | inr b ↦ elim b [
        | inl a ↦ omega (arith, a, six)
        | inr d ↦ elim d [ inl a ↦ omega (arith, a, six) | inr f ↦ elim f [ inl a ↦ omega (arith, a, six) | inr a ↦ omega (arith, a, six) ] ]
      ]
    ]
