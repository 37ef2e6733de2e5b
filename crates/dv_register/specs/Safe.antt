-- What holds of a register at every moment since it was opened.
use Rattle.std.specs.Prelude.{◌≡◌, ◌+◌, ◌-◌, ◌^◌, ◌≤◌, ℕ, List, [], ◌∷◌, ◌++◌, length, take, min, nat_le, if◌then◌else◌}
use Rattle.std.specs.List.{AllByRecursion}
use Rattle.dv_outside.specs.Station.{Content}
use Rattle.dv_outside.specs.Releases.{Entry}
use Rattle.dv_register.specs.Layout.{Sound, SoundFor, BeginsWith, records_of}

-- A piece that was put, and how many of its octets went out.
pub record Part : Type 0 where
  pub piece : List ℕ
  pub stands : ℕ

-- The octets of the pieces that went out.
abbrev pub joined : List Part → List ℕ
joined [] = []
joined (p ∷ parts) = take p.stands p.piece ++ joined parts

-- How many of the pieces don't stand whole.
abbrev pub cut_count : List Part → ℕ
cut_count [] = 0
cut_count (p ∷ parts) = (if nat_le (length p.piece) p.stands then 0 else 1) + cut_count parts

-- What was sent from the opening up to a moment is allowed pieces. Each stands whole, but for those whose put failed and for
-- one that is still going on: no more pieces are cut than puts failed.
pub record SentAs (c : Content) (opened m : ℕ) (allows : List ℕ → Type 0) (faults_then faults_now : ℕ) (parts going : List Part) : Type 0 where
  pub is : c.sent m ≡ c.sent opened ++ joined parts ++ joined going
  pub allowed : AllByRecursion (λ p. allows p.piece) parts
  pub going_allowed : AllByRecursion (λ p. allows p.piece) going
  pub one : length going ≤ 1
  pub cut : min (faults_then + cut_count parts) (2 ^ 64 - 1) ≤ faults_now

abbrev pub Sent : Content → ℕ → ℕ → (List ℕ → Type 0) → ℕ → ℕ → Type 0
Sent c opened m allows faults_then faults_now = (parts : List Part) × (going : List Part) × SentAs c opened m allows faults_then faults_now parts going

-- What a register is measured by: the moment of its opening, the octets of its head, how many records it may hold, the list
-- at the opening, what may be put under a list, and how many puts had failed at the opening.
pub record Terms : Type 1 where
  pub opened : ℕ
  pub head : List ℕ
  pub limit : ℕ
  pub base : List Entry
  pub allows : List Entry → List ℕ → Type 0
  pub put_faults : ℕ

-- Each octets that a crash at this moment may leave are sound for a list that begins with that at the opening, and under it
-- all that was sent is allowed.
abbrev pub SafeAt : Terms → Content → ℕ → ℕ → Type 0
SafeAt t c put_faults m = (b : List ℕ) → c.image m b →
    (list : List Entry) × Sound b t.head t.limit list × BeginsWith list t.base
    × Sent c t.opened m (t.allows list) t.put_faults put_faults

-- Safe at every moment since the opening, and ready for the next call: each image of the present moment is sound for a list
-- that begins with the register's, and no put is going on.
pub record IsSafe (t : Terms) (c : Content) (put_faults : ℕ) (list : List Entry) : Type 0 where
  pub later : t.opened ≤ c.moment
  pub since : (m : ℕ) → t.opened ≤ m → m ≤ c.moment → SafeAt t c put_faults m
  pub present : (b : List ℕ) → c.image c.moment b → SoundFor t.head t.limit list b
  pub begins : BeginsWith list t.base
  pub sent : (parts : List Part) × SentAs c t.opened c.moment (t.allows list) t.put_faults put_faults parts []

-- The file as it stands between two calls of a register that isn't shut: the list, and a closed gate that is surely closed.
pub record IsSettled (c : Content) (head : List ℕ) (list : List Entry) : Type 0 where
  pub rest : List ℕ
  pub is : c.reads ≡ head ++ records_of list ++ 0 ∷ rest
  pub durable : (b : List ℕ) → c.image c.moment b → b ≡ c.reads
