-- What a command that had no memory for its words did.
use Rattle.std.proofs.Common.{◌≡◌, Bool, inl, inr, refl, ap, arith}
use Rattle.std.specs.Prelude.{Option, Some, None}
use Rattle.dv_lines.specs.Line.{Told, init, reissue, request, serve, show, tool_line, validate}
use Rattle.dv_outside.proofs.Counting.{spends_less, spends_none}
use Rattle.dv_outside.specs.Station.{Content, Counts}
use Rattle.dv_exit.specs.declared.status.Status.TheVariants.{Memory as MemoryStatus}
use Rattle.dv_exit.specs.Files.{Files}
use Rattle.dv_tool.specs.Tool.{Ends, init_unread, reissue_unread}

-- the line of a command that ends by itself is the words' line
pub tool_is_line : (line : Option Told) (told : Told) → tool_line line ≡ Some told → line ≡ Some told
tool_is_line None told is = absurd (cc)
tool_is_line (Some (request service file octets at)) told is = is
tool_is_line (Some (validate files octets at)) told is = is
tool_is_line (Some (show file)) told is = is
tool_is_line (Some (init register seed name from until first)) told is = is
tool_is_line (Some (serve register seed certificate trust policy)) told is = absurd (cc)
tool_is_line (Some (reissue register seed serial)) told is = is

-- what a command did that had no memory for its words
pub memory_ends : {V : Type 0} (tells : V → Bool) (content : V → Content) (counts : V → Counts) (files : Files) (line : Option Told) (told : Told) (station : V)
    → tool_line line ≡ Some told → Ends tells content counts files told 8 station station
memory_ends tells content counts files line (request service file octets at) station is = record {
  ends = inr (inr (inr (inl refl)));
  put = λ e. absurd (elim e [ inl a ↦ omega (arith, a) | inr a ↦ omega (arith, a) ]);
  long = λ e. absurd (omega (arith, e));
  quiet = λ n m. refl;
  spends = spends_less 0 0 1 262144 (counts station) (counts station) (omega arith) (omega arith) (spends_none (counts station));
}
memory_ends tells content counts files line (validate names octets at) station is = record {
  ends = inr (inr (inr (inl refl)));
  put = λ e. absurd (elim e [ inl a ↦ omega (arith, a) | inr a ↦ omega (arith, a) ]);
  bad = λ e. absurd (omega (arith, e));
  quiet = λ n m. refl;
  spends = spends_less 0 0 1 262144 (counts station) (counts station) (omega arith) (omega arith) (spends_none (counts station));
}
memory_ends tells content counts files line (show file) station is = record {
  ends = inr (inr (inr (inl refl)));
  put = λ e. absurd (elim e [ inl a ↦ omega (arith, a) | inr a ↦ omega (arith, a) ]);
  not_shown = λ e. absurd (omega (arith, e));
  quiet = λ n m. refl;
  spends = spends_less 0 0 1 67108864 (counts station) (counts station) (omega arith) (omega arith) (spends_none (counts station));
}
memory_ends tells content counts files line (init register seed name from until first) station is =
    init_unread MemoryStatus (inr (inr refl)) refl refl (λ e. absurd (cc))
memory_ends tells content counts files line (serve register seed certificate trust policy) station is =
    let served : line ≡ Some (serve register seed certificate trust policy) = tool_is_line line _ is in
    let none : tool_line line ≡ None = ap tool_line served in absurd (cc)
memory_ends tells content counts files line (reissue register seed serial) station is =
    reissue_unread MemoryStatus (inr (inr refl)) refl refl (λ e. absurd (cc))
