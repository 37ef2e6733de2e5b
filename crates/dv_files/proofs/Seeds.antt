-- The octets of seed files, and where octets are none.
use Rattle.std.proofs.Common.{◌≡◌, ◌≢◌, ℕ, ◌+◌, ◌-◌, ◌<◌, ◌≤◌, List, ◌++◌, take, drop, length, get_or, replicate, refl, sym, ap, subst, ◌∙◌, arith, append_assoc}
use Rattle.std.proofs.lemmas.List.{get_or-take, get_or_append_left, length-append, length-drop, length-replicate, length-take, take-append-drop, take_at, take-append-le, take-take}
use Rattle.dv_lms.specs.declared.height.Height.{Height}
use Rattle.dv_lms.specs.declared.height.Height.TheVariants.{H5}
use Rattle.dv_lms.specs.Identity.{Identity}
use Rattle.dv_files.specs.Seed.{BeginsSeedFile, IsSeedFault, IsSeedFile, seed_start}

-- the key of this identifier and seed
abbrev key_of : List ℕ → List ℕ → Identity
key_of id seed = record { height = H5; id = id; seed = seed }

-- each seed file begins so
begins : (h : Height) → seed_start h ≡ seed_start H5
begins H5 = refl

-- what stands behind the start
behind_start : (octets : List ℕ) (key : Identity) → IsSeedFile octets key → octets ≡ seed_start H5 ++ (key.id ++ key.seed)
behind_start octets key h = h.is ∙ append_assoc (seed_start key.height) key.id key.seed ∙ ap (λ (s : List ℕ). s ++ (key.id ++ key.seed)) (begins key.height)

-- a seed file has 60 octets
length-file : (octets : List ℕ) (key : Identity) → IsSeedFile octets key → length octets ≡ 60
length-file octets key h =
    let start : length (seed_start H5) ≡ 12 = refl in
    omega (arith, ap length (behind_start octets key h), length-append (seed_start H5) (key.id ++ key.seed), length-append key.id key.seed, h.id, h.seed, start)

-- the front of a seed file begins one
front : (octets : List ℕ) (key : Identity) (n : ℕ) → IsSeedFile octets key → BeginsSeedFile (take n octets)
front octets key n h = (key, drop n octets, subst (λ (o : List ℕ). IsSeedFile o key) (sym (take-append-drop n octets)) h)

-- octets of the right length with the right start are a seed file
pub file_is : (octets id seed : List ℕ) → take 12 octets ≡ seed_start H5 → length octets ≡ 60 → id ≡ take 16 (drop 12 octets) → seed ≡ drop 16 (drop 12 octets) → IsSeedFile octets (key_of id seed)
file_is octets id seed start size is_id is_seed =
    let split : id ++ seed ≡ drop 12 octets = ap (λ (x : List ℕ). x ++ seed) is_id ∙ ap (λ (x : List ℕ). take 16 (drop 12 octets) ++ x) is_seed ∙ take-append-drop 16 (drop 12 octets) in
    record {
      id = omega (arith, ap length is_id, length-take 16 (drop 12 octets), length-drop 12 octets, size);
      seed = omega (arith, ap length is_seed, length-drop 16 (drop 12 octets), length-drop 12 octets, size);
      is = sym (take-append-drop 12 octets) ∙ ap (λ (x : List ℕ). x ++ drop 12 octets) start ∙ ap (λ (x : List ℕ). seed_start H5 ++ x) (sym split) ∙ sym (append_assoc (seed_start H5) id seed);
    }

-- octets with the right start, and not too many, begin a seed file
filled : (octets : List ℕ) → take 12 octets ≡ seed_start H5 → 12 ≤ length octets → length octets ≤ 60 → BeginsSeedFile octets
filled octets start low high =
    let zeros : List ℕ = replicate (60 - length octets) 0 in
    let whole : List ℕ = octets ++ zeros in
    let begun : take 12 whole ≡ seed_start H5 = take-append-le 12 octets zeros low ∙ start in
    let size : length whole ≡ 60 = omega (arith, length-append octets zeros, length-replicate {A = ℕ} (60 - length octets) 0) in
    let id : List ℕ = take 16 (drop 12 whole) in
    let seed : List ℕ = drop 16 (drop 12 whole) in
    (key_of id seed, zeros, file_is whole id seed begun size refl refl)

-- the front of the start begins a seed file
started : (n : ℕ) → BeginsSeedFile (take n (seed_start H5))
started n =
    let zeros : List ℕ = replicate 48 0 in
    let whole : List ℕ = seed_start H5 ++ zeros in
    let id : List ℕ = take 16 (drop 12 whole) in
    let seed : List ℕ = drop 16 (drop 12 whole) in
    let file = file_is whole id seed (take_at (seed_start H5) zeros 12 refl) refl refl refl in
    let same : whole ≡ take n (seed_start H5) ++ (drop n (seed_start H5) ++ zeros) =
    ap (λ (x : List ℕ). x ++ zeros) (sym (take-append-drop n (seed_start H5))) ∙ append_assoc (take n (seed_start H5)) (drop n (seed_start H5)) zeros in
    (key_of id seed, drop n (seed_start H5) ++ zeros, subst (λ (o : List ℕ). IsSeedFile o (key_of id seed)) same file)

-- what begins a seed file has the octets of the start
same_start : (octets : List ℕ) (n : ℕ) → n < 12 → n < length octets → BeginsSeedFile (take (n + 1) octets) → get_or octets n 0 ≡ get_or (seed_start H5) n 0
same_start octets n low within b =
    let whole : List ℕ = take (n + 1) octets ++ b.1 in
    let size : n < length (take (n + 1) octets) = omega (arith, length-take (n + 1) octets) in
    let start : n < length (seed_start H5) = low in
    sym (get_or-take (n + 1) octets n 0 (omega arith)) ∙ sym (get_or_append_left (take (n + 1) octets) b.1 0 n size)
    ∙ ap (λ (o : List ℕ). get_or o n 0) (behind_start whole b.0 b.2) ∙ get_or_append_left (seed_start H5) (b.0.id ++ b.0.seed) 0 n start

-- octets that differ from the start are no seed file
pub no_start : (octets : List ℕ) (n : ℕ) → n < 12 → n ≤ length octets → take n octets ≡ take n (seed_start H5) → (n < length octets → get_or octets n 0 ≢ get_or (seed_start H5) n 0) → IsSeedFault octets n
no_start octets n low within same differs =
    record {
      none = λ key h.
          (let more : n < length octets = omega (arith, length-file octets key h) in
          differs more (same_start octets n low more (front octets key (n + 1) h)));
      within = within;
      before = subst BeginsSeedFile (sym same) (started n);
      breaks = λ more b. differs more (same_start octets n low more b);
    }

-- octets of another length are no seed file
pub no_length : (octets : List ℕ) (n : ℕ) → take 12 octets ≡ seed_start H5 → 12 ≤ length octets → length octets ≢ 60 → n ≤ 60 → n ≤ length octets → ((n ≡ 60) → 60 < length octets) → 12 ≤ n → (n < length octets → n ≡ 60) → IsSeedFault octets n
no_length octets n start low other high within past least cut =
    let size : length (take n octets) ≡ n = omega (arith, length-take n octets) in
    record {
      none = λ key h. other (length-file octets key h);
      within = within;
      before = filled (take n octets) (take-take 12 n octets least ∙ start) (omega (arith, size)) (omega (arith, size));
      breaks = λ more b.
          (let file = length-file (take (n + 1) octets ++ b.1) b.0 b.2 in
          omega (arith, file, length-append (take (n + 1) octets) b.1, length-take (n + 1) octets, cut more));
    }
