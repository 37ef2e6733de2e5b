-- What the steps of a reservation make of a file.
use Rattle.std.specs.Prelude.{◌≡◌, ◌⊎◌, ◌+◌, ◌<◌, ℕ, List, [], ◌∷◌, ◌++◌, length, take, drop}
use Rattle.dv_outside.specs.Station.{Content}
use Rattle.dv_outside.specs.Releases.{Entry}
use Rattle.dv_register.specs.Layout.{body_of, open_gate}

-- A crash leaves what the file holds, and that has the gate.
pub record IsQuiet (gate : ℕ) (c : Content) : Type 0 where
  pub within : gate < length c.reads
  pub durable : (b : List ℕ) → c.image c.moment b → b ≡ c.reads

-- The first n octets are the file's.
abbrev pub SameFront : ℕ → List ℕ → List ℕ → Type 0
SameFront n file b = take n b ≡ take n file

-- Behind the gate of a file stand a record and a closed gate, and a crash leaves that.
pub record IsStagedFile (gate : ℕ) (file : List ℕ) (e : Entry) (c : Content) : Type 0 where
  pub rest : List ℕ
  pub is : c.reads ≡ take (gate + 1) file ++ body_of e ++ 0 ∷ rest
  pub durable : (b : List ℕ) → c.image c.moment b → b ≡ c.reads

-- A file whose gate may be any octet; anything may stand past its end.
abbrev pub GateOnly : ℕ → List ℕ → List ℕ → Type 0
GateOnly gate file b = (octet : ℕ) × (past : List ℕ) × (b ≡ take gate file ++ octet ∷ drop (gate + 1) file ++ past)

-- The file with this octet for its gate, and a crash leaves that.
pub record IsGateSet (gate octet : ℕ) (file : List ℕ) (c : Content) : Type 0 where
  pub is : c.reads ≡ take gate file ++ octet ∷ drop (gate + 1) file
  pub durable : (b : List ℕ) → c.image c.moment b → b ≡ c.reads

-- The front up to the gate, some gate, the record and a closed gate.
pub record HasBody (gate : ℕ) (file : List ℕ) (e : Entry) (b : List ℕ) : Type 0 where
  pub octet : ℕ
  pub rest : List ℕ
  pub is : b ≡ take gate file ++ octet ∷ body_of e ++ 0 ∷ rest

-- Nothing up to the gate has changed, or the record stands behind some gate.
abbrev pub BeforeOrAfter : ℕ → List ℕ → Entry → List ℕ → Type 0
BeforeOrAfter gate file e b = SameFront (gate + 1) file b ⊎ HasBody gate file e b

-- The record stands behind an open gate, and a crash leaves that.
pub record IsAppended (gate : ℕ) (file : List ℕ) (e : Entry) (c : Content) : Type 0 where
  pub rest : List ℕ
  pub is : c.reads ≡ take gate file ++ open_gate ∷ body_of e ++ 0 ∷ rest
  pub durable : (b : List ℕ) → c.image c.moment b → b ≡ c.reads

-- A head and a closed gate, and a crash leaves that.
pub record IsEmptyRegister (head : List ℕ) (c : Content) : Type 0 where
  pub is : c.reads ≡ head ++ 0 ∷ []
  pub durable : (b : List ℕ) → c.image c.moment b → b ≡ c.reads
