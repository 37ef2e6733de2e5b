-- What a piece of a stream gives.
use Rattle.std.specs.Prelude.{◌≡◌, ◌+◌, ℕ, false, IsTrue, List, [], ◌++◌, length}
use Rattle.std.specs.List.{concat}
use Rattle.dv_session.specs.declared.framer.Fed.{Fed}
use Rattle.dv_session.specs.Requests.{Requests}
use Rattle.dv_session.specs.Progress.{Progress, stop_of, IsAt}

-- the requests that a piece gave
abbrev pub requests_of : Fed → List (List ℕ)
requests_of fed = fed.requests

-- A piece of the stream came. Where the stream had stopped, it gives no request and is only counted. Else the octets after
-- the last request and then those of the piece are the requests that it gives, and a rest.
pub record Feeds (old : Progress) (piece : List ℕ) (fed : Fed) (new : Progress) : Type 0 where
  pub stopped : IsTrue old.stopped → (requests_of fed ≡ []) × (new ≡ record old { behind = old.behind + length piece })
  pub reads : old.stopped ≡ false → (rest : List ℕ) × Requests (old.rest ++ piece) (requests_of fed) rest
      × IsAt new (old.before + length (concat (requests_of fed))) rest
  pub stop : fed.stop ≡ stop_of new
