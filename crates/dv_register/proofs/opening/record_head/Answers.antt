use Rattle.std.proofs.Common.{◌≡◌, ⊎_elim, inl, inr, ◌<◌, length, get_or, arith, rules}
use Rattle.dv_register.specs.Layout.{IsKnownKind}
use Rattle.dv_register.proofs.OpeningLemmas.{no_kind, long_one, cut_one}
use Rattle.dv_register.proofs.opening.record_head.Goals as goal

pub returns-then-kind-ne2-clause-refused : goal.returns-then-kind-ne2-clause-refused
returns-then-kind-ne2-clause-refused c = λ octets size is.
    let some : 0 < length c.args.head.now = search rules in
    no_kind octets c.args.head.now is some (λ known. ⊎_elim c.if-kind-ne1.true c.if-kind-ne2.true known)

pub returns-then-len-gt1048576-clause-refused : goal.returns-then-len-gt1048576-clause-refused
returns-then-len-gt1048576-clause-refused c = λ octets size is.
    let five : length c.args.head.now ≡ 5 = omega (arith, c.requires, c.if-head-lt5.false) in
    let known : IsKnownKind (get_or c.args.head.now 0 0) = ⊎_elim (λ both. inr both.1) (λ one. inl one) c.else-kind-ne1.either in
    long_one octets c.args.head.now is five known (omega (arith, c.if-len-gt1048576.true, c.from_be_bytes-len.ensures))

pub returns-then-behind-len-clause-refused : goal.returns-then-behind-len-clause-refused
returns-then-behind-len-clause-refused c = λ octets size is.
    let five : length c.args.head.now ≡ 5 = omega (arith, c.requires, c.if-head-lt5.false) in
    let known : IsKnownKind (get_or c.args.head.now 0 0) = ⊎_elim (λ both. inr both.1) (λ one. inl one) c.else-kind-ne1.either in
    cut_one octets c.args.head.now is five known (omega (arith, c.if-len-gt1048576.false, c.from_be_bytes-len.ensures)) (omega (arith, size, c.if-behind-len.true, c.from_be_bytes-len.ensures))
