-- What a command line says to both top calls.
use Rattle.std.specs.Prelude.{ℕ, List, Option, Some, option_map}
use Rattle.std.specs.Borrow.{Bor}
use Rattle.dv_lines.specs.declared.policy.Policy.{Policy}
use Rattle.dv_lines.specs.Line.{policy_octets, Told, serve as serve_line}

-- the line is the server's
abbrev pub IsServe : Option Told → Type 0
IsServe (Some (serve_line register seed certificate trust policy)) = Unit {0}
IsServe _ = ⊥

-- the policy that a line names, by its identifier
abbrev pub policy_named : Option (Bor Policy) → Option (List ℕ)
policy_named policy = option_map (λ p. policy_octets p.now) policy
