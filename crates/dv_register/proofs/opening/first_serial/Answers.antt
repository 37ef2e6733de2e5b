use Rattle.std.proofs.Common.{◌≡◌, ◌≢◌, ◌∙◌, ◌<◌, ℕ, length, take, drop, get_or, ap, arith, rules}
use Rattle.std.specs.Int.{from_be_bytes, w64}
use Rattle.dv_register.specs.Layout.{magic}
use Rattle.dv_register.specs.Refusals.{IsFirstSerial}
use Rattle.dv_register.proofs.HeadLemmas.{other_key, other_serial, head_is}
use Rattle.dv_register.proofs.opening.first_serial.Goals as goal
use Rattle.dv_register.proofs.opening.first_serial.Goals.{then-first-eq0-via-then-first-eq0, then-first-eq0-via-else-first-eq0+then-first}

pub returns-then-ne-2-clause-refused : goal.returns-then-ne-2-clause-refused
returns-then-ne-2-clause-refused c = λ octets long is limit before now.
    let begins : take 8 c.args.head.now ≡ magic = search rules in
    let differs : take 60 (drop 8 c.args.head.now) ≢ c.args.key.now = search rules in
    other_key octets c.args.head.now long is c.args.key.now begins differs

pub returns-then-first-eq0-clause-refused : goal.returns-then-first-eq0-clause-refused
returns-then-first-eq0-clause-refused c = λ octets long is limit before now.
    let begins : take 8 c.args.head.now ≡ magic = search rules in
    let same : take 60 (drop 8 c.args.head.now) ≡ c.args.key.now = search rules in
    let value : c.from_be_bytes-first.result ≡ from_be_bytes w64 (take 8 (drop 68 c.args.head.now)) = c.from_be_bytes-first.ensures ∙ ap (from_be_bytes w64) c.copy_from_slice.ensures.after in
    let bad : ¬ IsFirstSerial c.from_be_bytes-first.result = λ good. elim c.then-first-eq0.branch [
      | then-first-eq0-via-then-first-eq0 w ↦ omega (arith, good.positive)
      | then-first-eq0-via-else-first-eq0+then-first w ↦ omega (arith, good.small)
    ] in
    other_serial octets c.args.head.now long is c.args.key.now limit c.from_be_bytes-first.result begins same value bad

pub returns-clause-head : goal.returns-clause-head
returns-clause-head c =
    let begins : take 8 c.args.head.now ≡ magic = search rules in
    let same : take 60 (drop 8 c.args.head.now) ≡ c.args.key.now = search rules in
    let size : length c.args.head.now ≡ 76 = search rules in
    let value : c.from_be_bytes-first.result ≡ from_be_bytes w64 (take 8 (drop 68 c.args.head.now)) = c.from_be_bytes-first.ensures ∙ ap (from_be_bytes w64) c.copy_from_slice.ensures.after in
    let octets : (i : ℕ) → get_or c.args.head.now i 0 < 256 = λ i. search rules in
    head_is c.args.head.now c.args.key.now c.from_be_bytes-first.result size octets begins same value
