use Rattle.std.proofs.Common.{◌≡◌, ◌≢◌, ◌∙◌, ◌-◌, ◌<◌, ◌≤◌, ℕ, List, take, drop, length, get_or, sym, ap, subst, arith}
use Rattle.std.proofs.lemmas.List.{drop-drop, length-drop, take_all}
use Rattle.dv_lms.specs.declared.height.Height.TheVariants.{H5}
use Rattle.dv_files.specs.Seed.{IsSeedFile, seed_start}
use Rattle.dv_files.proofs.Seeds.{file_is, no_length, no_start}
use Rattle.dv_files.proofs.seed.read_seed.Goals as goal

pub returns-then-same-lt12-clause-refused : goal.returns-then-same-lt12-clause-refused
returns-then-same-lt12-clause-refused c =
    let octets : List ℕ = c.args.octets.now in
    let n : ℕ = c.agreement-same.result in
    let start : c.seed_start-start.result ≡ seed_start H5 = c.seed_start-start.ensures in
    let same : take n octets ≡ take n (seed_start H5) = c.agreement-same.ensures.same ∙ ap (take n) start in
    let differs : n < length octets → get_or octets n 0 ≢ get_or (seed_start H5) n 0 =
    λ more. subst (λ (s : List ℕ). get_or octets n 0 ≢ get_or s n 0) start (c.agreement-same.ensures.differs c.if-same-lt12.true more) in
    no_start octets n c.if-same-lt12.true c.agreement-same.ensures.within same differs

pub returns-then-octets-ne-FILE_LEN-clause-refused : goal.returns-then-octets-ne-FILE_LEN-clause-refused
returns-then-octets-ne-FILE_LEN-clause-refused c =
    let octets : List ℕ = c.args.octets.now in
    let n : ℕ = c.agreement-same.result in
    let twelve : n ≡ 12 = omega (arith, c.if-same-lt12.false, c.agreement-same.ensures.start) in
    let start : take 12 octets ≡ seed_start H5 = subst (λ (k : ℕ). take k octets ≡ take k (seed_start H5)) twelve (c.agreement-same.ensures.same ∙ ap (take n) c.seed_start-start.ensures) in
    let low : 12 ≤ length octets = omega (arith, twelve, c.agreement-same.ensures.within) in
    let other : length octets ≢ 60 = c.if-octets-ne-FILE_LEN.true in
    no_length octets c.min.result start low other (omega (arith, c.min.ensures)) (omega (arith, c.min.ensures)) (λ e. omega (arith, e, c.min.ensures, other)) (omega (arith, low, c.min.ensures)) (λ more. omega (arith, more, c.min.ensures))

pub returns-clause-found : goal.returns-clause-found
returns-clause-found c =
    let octets : List ℕ = c.args.octets.now in
    let n : ℕ = c.agreement-same.result in
    let twelve : n ≡ 12 = omega (arith, c.if-same-lt12.false, c.agreement-same.ensures.start) in
    let start : take 12 octets ≡ seed_start H5 = subst (λ (k : ℕ). take k octets ≡ take k (seed_start H5)) twelve (c.agreement-same.ensures.same ∙ ap (take n) c.seed_start-start.ensures) in
    let size : length octets ≡ 60 = c.if-octets-ne-FILE_LEN.false in
    let key = c.new.ensures ∙ c.in_ok-key.ensures in
    let seed : c.copy_from_slice-2.new.self ≡ drop 16 (drop 12 octets) = c.copy_from_slice-2.ensures.after ∙ take_all (length octets - 28) (drop 28 octets) (omega (arith, length-drop 28 octets)) ∙ sym (drop-drop 16 12 octets) in
    subst (IsSeedFile octets) (sym key) (file_is octets c.copy_from_slice.new.self c.copy_from_slice-2.new.self start size c.copy_from_slice.ensures.after seed)
