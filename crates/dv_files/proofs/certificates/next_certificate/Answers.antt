use Rattle.std.proofs.Common.{◌≡◌, ℕ, Ok, Err, subst}
use Rattle.dv_schema.specs.Reading.{Spot, Item, item_at, is_tag_of}
use Rattle.dv_draft.specs.Records.{certificate_at, kept_at}
use Rattle.dv_files.specs.declared.faults.NoCertificate.{NoCertificate}
use Rattle.dv_files.specs.Certificates.{HasNone, IsPlaceOf}
use Rattle.dv_files.proofs.Nexts.{item_kept, item_refused, next_found, no_item, none_next, told}
use Rattle.dv_files.proofs.certificates.next_certificate.Goals as goal

pub returns-in_err-enter-clause-refused : goal.returns-in_err-enter-clause-refused
returns-in_err-enter-clause-refused c =
    let h = no_item c.args.c.now c.in_err-enter.field-0.0 (subst (λ (p : Spot). item_at (is_tag_of 48) p ≡ Err c.in_err-enter.field-0.0) c.fork-next.ensures.same c.in_err-enter.ensures.item.0) in
    told c.from_residual.result (record { place = c.in_err-enter.field-0.0.place }) (λ (e : NoCertificate). IsPlaceOf (certificate_at c.args.c.now) e.place) c.from_residual.ensures h

pub returns-in_err-enter-clause-none : goal.returns-in_err-enter-clause-none
returns-in_err-enter-clause-none c =
    let h = no_item c.args.c.now c.in_err-enter.field-0.0 (subst (λ (p : Spot). item_at (is_tag_of 48) p ≡ Err c.in_err-enter.field-0.0) c.fork-next.ensures.same c.in_err-enter.ensures.item.0) in
    let none : HasNone c.args.c.now = none_next c.spelled_is_read.ensures c.slice_is_read_where_spelled.ensures c.args.c.now c.in_err-enter.field-0.0.place c.fork-next.ensures.octets c.requires h in
    told c.from_residual.result (record { place = c.in_err-enter.field-0.0.place }) (λ (_ : NoCertificate). HasNone c.args.c.now) c.from_residual.ensures none

pub returns-in-Err-clause-refused : goal.returns-in-Err-clause-refused
returns-in-Err-clause-refused c =
    let i : Item = record { tag = 48; inside = c.in_ok-enter.field-0; after = c.enter.new.self } in
    let item : item_at (is_tag_of 48) c.args.c.now ≡ Ok i = subst (λ (p : Spot). item_at (is_tag_of 48) p ≡ Ok i) c.fork-next.ensures.same c.in_ok-enter.ensures.item in
    item_refused c.args.c.now i c.up_to-octets.result.now c.in-Err.cause c.place_of-place.result item c.up_to-octets.ensures c.in-Err.ensures.exact
    (λ o. subst (λ (place : ℕ). IsPlaceOf (kept_at place o (Err c.in-Err.cause)) c.place_of-place.result) c.place.ensures (c.place_of-place.ensures o))

pub returns-in-Err-clause-none : goal.returns-in-Err-clause-none
returns-in-Err-clause-none c =
    let i : Item = record { tag = 48; inside = c.in_ok-enter.field-0; after = c.enter.new.self } in
    let item : item_at (is_tag_of 48) c.args.c.now ≡ Ok i = subst (λ (p : Spot). item_at (is_tag_of 48) p ≡ Ok i) c.fork-next.ensures.same c.in_ok-enter.ensures.item in
    let refused =
    item_refused c.args.c.now i c.up_to-octets.result.now c.in-Err.cause c.place_of-place.result item c.up_to-octets.ensures c.in-Err.ensures.exact
    (λ o. subst (λ (place : ℕ). IsPlaceOf (kept_at place o (Err c.in-Err.cause)) c.place_of-place.result) c.place.ensures (c.place_of-place.ensures o)) in
    none_next c.spelled_is_read.ensures c.slice_is_read_where_spelled.ensures c.args.c.now c.place_of-place.result c.fork-next.ensures.octets c.requires refused

pub returns-in-Ok-clause-found : goal.returns-in-Ok-clause-found
returns-in-Ok-clause-found c =
    let i : Item = record { tag = 48; inside = c.in_ok-enter.field-0; after = c.enter.new.self } in
    let item : item_at (is_tag_of 48) c.args.c.now ≡ Ok i = subst (λ (p : Spot). item_at (is_tag_of 48) p ≡ Ok i) c.fork-next.ensures.same c.in_ok-enter.ensures.item in
    let kept = item_kept c.args.c.now i c.up_to-octets.result.now _ item c.up_to-octets.ensures c.in-Ok.ensures.exact in
    next_found c.read_is_spelled.ensures c.spelled_is_read.ensures c.slice_is_read_where_spelled.ensures c.args.c.now c.up_to-octets.result.now c.enter.new.self c.fork-next.ensures.octets c.requires kept
