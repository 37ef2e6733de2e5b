-- Certificates that are read from files, one after another.
use Rattle.std.proofs.Common.{◌≡◌, ◌∙◌, ◌<◌, ◌≤◌, ◌+◌, ◌*◌, ◌∷◌, ◌++◌, ℕ, suc, List, [], length, map, take, drop, get_or, sym, ap, subst, arith}
use Rattle.std.proofs.Math.Seq.{drop-cons}
use Rattle.std.proofs.lemmas.List.{length-append, map-append, map_more, take-append-drop}
use Rattle.std.proofs.lemmas.List.Elements.{All-append, All-cons, All-nil}
use Rattle.std.proofs.lemmas.List.Sums.{sum_by-append}
use Rattle.std.specs.Prelude.{All, IfSome, sum_by}
use Rattle.std.specs.Borrow.{Bor}
use Rattle.std.specs.declared.alloc.Global.{Global}
use Rattle.std.specs.declared.vec.Vec.{Vec}
use Rattle.dv_asn1.specs.Lists.{lists_of}
use Rattle.dv_request.specs.Materials.{IsCertificate as FitsRequest}
use Rattle.dv_tool.specs.Certificates.{AreFilesOf, HasBadFile, IsFileOf, IsNoCertificate}
use Rattle.dv_exit.specs.Files.{Files}

-- the names of files
abbrev pub names_of : List (Bor (List ℕ)) → List (List ℕ)
names_of names = map (λ n. n.now) names

-- what stands for the name behind the last one
abbrev pub blank : Bor (List ℕ)
blank = record { ref_ptr = (0, 0); now = [] }

-- one more file is the certificate beside it
one_more : (files : Files) (texts certificates : List (List ℕ)) (text certificate : List ℕ) → AreFilesOf files texts certificates → IsFileOf files text certificate
    → AreFilesOf files (texts ++ text ∷ []) (certificates ++ certificate ∷ [])
one_more files [] [] text certificate are is = (is, tt)
one_more files (t ∷ ts) (c ∷ cs) text certificate are is = (are.0, one_more files ts cs text certificate are.1 is)
one_more files [] (c ∷ cs) text certificate are is = absurd are
one_more files (t ∷ ts) [] text certificate are is = absurd are

pub held_more : (files before : Files) (names : List (Bor (List ℕ))) (i : ℕ) (cs new : List (Vec ℕ Global)) (v : Vec ℕ Global) → i < length names → new ≡ cs ++ v ∷ [] → before ≡ files
    → AreFilesOf files (names_of (take i names)) (lists_of cs) → IsFileOf before (get_or names i blank).now v.items → AreFilesOf files (names_of (take (i + 1) names)) (lists_of new)
held_more files before names i cs new v lt is same held here =
    let text = (get_or names i blank).now in
    let texts : names_of (take (i + 1) names) ≡ names_of (take i names) ++ text ∷ [] = map_more (λ n. n.now) names i blank lt in
    let lists : lists_of new ≡ lists_of cs ++ v.items ∷ [] = ap (λ (vs : List (Vec ℕ Global)). lists_of vs) is ∙ map-append (λ (w : Vec ℕ Global). w.items) cs (v ∷ []) in
    rw (texts, lists) (one_more files (names_of (take i names)) (lists_of cs) text v.items held (subst (λ (f : Files). IsFileOf f text v.items) same here))

pub fit_more : (cs new : List (Vec ℕ Global)) (v : Vec ℕ Global) → new ≡ cs ++ v ∷ [] → All FitsRequest (lists_of cs) → FitsRequest v.items → All FitsRequest (lists_of new)
fit_more cs new v is fit here =
    let lists : lists_of new ≡ lists_of cs ++ v.items ∷ [] = ap (λ (vs : List (Vec ℕ Global)). lists_of vs) is ∙ map-append (λ (w : Vec ℕ Global). w.items) cs (v ∷ []) in
    subst (λ (l : List (List ℕ)). All FitsRequest l) (sym lists)
    (All-append FitsRequest (lists_of cs) (v.items ∷ []) fit (All-cons FitsRequest v.items [] here (All-nil FitsRequest)))

pub count_more : (cs new : List (Vec ℕ Global)) (v : Vec ℕ Global) (i : ℕ) → new ≡ cs ++ v ∷ [] → length cs ≡ i → length new ≡ i + 1
count_more cs new v i is count = ap length is ∙ omega (arith, length-append cs (v ∷ []), count)

pub short_more : (cs new : List (Vec ℕ Global)) (v : Vec ℕ Global) (i : ℕ) → new ≡ cs ++ v ∷ [] → sum_by (λ c. length c.items) cs ≤ i * 8192 → length v.items ≤ 8192
    → sum_by (λ c. length c.items) new ≤ (i + 1) * 8192
short_more cs new v i is short here =
    let size : Vec ℕ Global → ℕ = λ c. length c.items in
    omega (arith, ap (sum_by size) is, sum_by-append size cs (v ∷ []), short, here)

-- the names around one of them
names_around : (names : List (Bor (List ℕ))) (i : ℕ) (d : Bor (List ℕ)) → i < length names
    → names_of names ≡ names_of (take i names) ++ (get_or names i d).now ∷ names_of (drop (suc i) names)
names_around names i d lt =
    ap names_of (sym (take-append-drop i names)) ∙ map-append (λ n. n.now) (take i names) (drop i names)
    ∙ ap (λ (l : List (Bor (List ℕ))). names_of (take i names) ++ names_of l) (drop-cons names i d lt)

-- the first file that is no certificate
pub bad_file : (files before : Files) (names : List (Bor (List ℕ))) (i : ℕ) (cs : List (Vec ℕ Global)) → i < length names → before ≡ files
    → AreFilesOf files (names_of (take i names)) (lists_of cs) → IfSome before (λ file. IsNoCertificate (file (get_or names i blank).now)) → HasBadFile files (names_of names)
bad_file files before names i cs lt same held none = record {
  front = names_of (take i names);
  name = (get_or names i blank).now;
  behind = names_of (drop (suc i) names);
  are = names_around names i blank lt;
  good = (lists_of cs, held);
  bad = subst (λ (f : Files). IfSome f (λ file. IsNoCertificate (file (get_or names i blank).now))) same none;
}
