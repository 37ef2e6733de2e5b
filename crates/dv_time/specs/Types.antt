-- The types of moments, one line each.
use Rattle.dv_schema.specs.Schema.{Schema, choice}
use Rattle.dv_schema.specs.Types.{primitive}
use Rattle.dv_time.specs.Text.{is_generalized, is_late, is_utc}

-- a GeneralizedTime (X.680 46) in its one form: YYYYMMDDHHMMSSZ
abbrev pub generalized_time : Schema
generalized_time = primitive 24 is_generalized

-- Time (RFC 5280 4.1.2.5): a UTCTime up to 2049, and a GeneralizedTime from 2050 on
abbrev pub time : Schema
time = choice (primitive 23 is_utc) (primitive 24 is_late)
