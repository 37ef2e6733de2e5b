-- A call past the room does nothing.
use Rattle.std.proofs.Common.{ℕ, List, refl, arith}
use Rattle.std.specs.Prelude.{Err}
use Rattle.dv_outside.specs.Station.{Content, Keeps, Writes, Puts}

keeps_none : (c : Content) → Keeps c c
keeps_none c = record { later = omega arith; images = λ m b le at. at; kept = λ m b le at. at; sent = λ m le. refl }

pub puts_none : {T E : Type 0} (c : Content) (octets : List ℕ) (e : E) → Puts {T = T} octets (Err e) c c
puts_none c octets e = record {
  keeps = keeps_none c;
  reads = refl;
  images = λ m lt le. absurd (omega (arith, lt, le));
  sending = λ m lt le. absurd (omega (arith, lt, le));
  whole = tt;
}

pub writes_none : {T E : Type 0} (c : Content) (place : ℕ) (octets : List ℕ) (e : E) → Writes {T = T} place octets (Err e) c c
writes_none c place octets e = record {
  keeps = keeps_none c;
  written = tt;
  outside = record { before = refl; after = refl };
  images = λ m lt le. absurd (omega (arith, lt, le));
  silent = λ m lt le. absurd (omega (arith, lt, le));
}
