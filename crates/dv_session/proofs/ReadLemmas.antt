-- Pieces that are fed one after another give the requests of the stream that they make.
use Rattle.std.proofs.Common.{◌≡◌, ◌∙◌, ℕ, ◌+◌, Bool, true, false, List, [], ◌++◌, IsTrue, length, refl, sym, ap, subst, length-append, arith}
use Rattle.std.specs.List.{concat}
use Rattle.std.proofs.lemmas.List.{append-nil}
use Rattle.std.proofs.lemmas.List.Folds.{concat-append}
use Rattle.dv_session.specs.declared.framer.Fed.{Fed}
use Rattle.dv_session.specs.Requests.{Requests, HasNoHeader}
use Rattle.dv_session.specs.Progress.{Progress, start, IsAt, Reads}
use Rattle.dv_session.specs.Feeding.{requests_of, Feeds}
use Rattle.dv_session.proofs.FrontLemmas.{no_header_more}
use Rattle.dv_session.proofs.RequestLemmas.{nothing_begun, begun_open, begun_header, split_more, split_stopped}

-- nothing of a stream
pub reads_none : Reads start [] []
reads_none = (
  [],
  record { whole = refl; each = tt; open_end = λ front behind cut is. begun_open [] front behind nothing_begun cut is },
  record { before = refl; behind = refl; kept = refl; stopped = ((λ t. absurd (cc t)), (λ never. absurd (begun_header [] nothing_begun never))) },
)

-- a piece that comes after the stop
more_stopped : (old : Progress) (stream piece : List ℕ) (requests : List (List ℕ)) → IsTrue old.stopped → Reads old stream requests
    → Reads (record old { behind = old.behind + length piece }) (stream ++ piece) requests
more_stopped old stream piece requests stopped reads =
    let rest = reads.0 in
    let at = reads.2 in
    let never : HasNoHeader rest = at.stopped.0 stopped in
    let dropped : old.rest ≡ [] = at.kept ∙ rw stopped refl in (
      rest ++ piece,
      split_stopped stream piece rest requests reads.1 never,
      record {
        before = at.before;
        behind = omega (arith, at.behind, length-append rest piece);
        kept = dropped ∙ rw stopped refl;
        stopped = ((λ t. no_header_more rest piece never), (λ n. stopped));
      },
    )

-- a piece that comes before
more_read : (old new : Progress) (stream piece : List ℕ) (requests more : List (List ℕ)) (last : List ℕ) → old.stopped ≡ false → Reads old stream requests
    → Requests (old.rest ++ piece) more last → IsAt new (old.before + length (concat more)) last → Reads new (stream ++ piece) (requests ++ more)
more_read old new stream piece requests more last going reads then at =
    let rest = reads.0 in
    let kept : old.rest ≡ rest = reads.2.kept ∙ rw going refl in
    let also : Requests (rest ++ piece) more last = subst (λ (l : List ℕ). Requests (l ++ piece) more last) kept then in
    let taken : old.before + length (concat more) ≡ length (concat (requests ++ more)) =
    omega (arith, reads.2.before, ap length (concat-append requests more), length-append (concat requests) (concat more)) in
    (last, split_more stream piece rest last requests more reads.1 also, subst (λ (n : ℕ). IsAt new n last) taken at)

-- a piece more
pub reads_more : (old new : Progress) (stream piece : List ℕ) (requests : List (List ℕ)) (fed : Fed) → Reads old stream requests → Feeds old piece fed new
    → Reads new (stream ++ piece) (requests ++ requests_of fed)
reads_more old new stream piece requests fed reads feeds = by_stop old.stopped refl
  where
    by_stop : (stopped : Bool) → old.stopped ≡ stopped → Reads new (stream ++ piece) (requests ++ requests_of fed)
    by_stop true stopped =
        let last = feeds.stopped stopped in
        let same : requests ≡ requests ++ requests_of fed = sym (ap (λ (l : List (List ℕ)). requests ++ l) last.0 ∙ append-nil requests) in
        subst (Reads new (stream ++ piece)) same
        (subst (λ (p : Progress). Reads p (stream ++ piece) requests) (sym last.1) (more_stopped old stream piece requests stopped reads))
    by_stop false going =
        let last = feeds.reads going in
        more_read old new stream piece requests (requests_of fed) last.0 going reads last.1 last.2

-- each octet is counted
pub reads_octets : (progress : Progress) (stream : List ℕ) (requests : List (List ℕ)) → Reads progress stream requests → progress.before + progress.behind ≡ length stream
reads_octets progress stream requests reads =
    omega (arith, reads.2.before, reads.2.behind, ap length reads.1.whole, length-append (concat requests) reads.0)
