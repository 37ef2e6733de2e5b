-- How a dotted decimal is read octet by octet: what private steps answer. No public contract names these.
use Rattle.std.specs.Prelude.{ℕ, ◌+◌, ◌-◌, ◌*◌, Bool, true, false, ◌&&◌, ◌==◌, nat_le, if◌then◌else◌, Option, Some, None, is_some}
use Rattle.dv_names.specs.declared.dotted.Turn.{Turn}
use Rattle.dv_names.specs.declared.dotted.Turn.TheVariants.{First, Second, Later}
use Rattle.dv_names.specs.declared.dotted.Point.{Point}
use Rattle.dv_names.specs.Arcs.{largest_arc, second_limit}

-- the most that the arc may be
abbrev pub limit_of : Turn → ℕ
limit_of First = 2
limit_of (Second a) = second_limit a
limit_of Later = largest_arc

-- which arc comes behind this one
abbrev pub turn_after : Turn → ℕ → Turn
turn_after First n = Second n
turn_after (Second a) n = Later
turn_after Later n = Later

-- with one digit more
abbrev pub grown_of : Point → ℕ → ℕ → Option Point
grown_of p n c =
    if (nat_le 48 c && nat_le c 57) && nat_le (n * 10 + (c - 48)) (limit_of p.turn)
    then Some (record { turn = p.turn; number = Some (n * 10 + (c - 48)) })
    else None

-- with one octet more, where the arc has no digit yet, and where it has some
abbrev pub next_from : Point → Option ℕ → ℕ → Option Point
next_from p None c = grown_of p 0 c
next_from p (Some n) c =
    if c == 46 then Some (record { turn = turn_after p.turn n; number = None }) else
    if n == 0 then None else grown_of p n c

abbrev pub next_of : Point → ℕ → Option Point
next_of p c = next_from p p.number c

-- a text may end after a digit of the second arc or a later one
abbrev pub ends_turn : Turn → Bool
ends_turn First = false
ends_turn (Second a) = true
ends_turn Later = true

abbrev pub ends_of : Point → Bool
ends_of p = ends_turn p.turn && is_some p.number
