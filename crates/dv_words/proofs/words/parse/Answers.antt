use Rattle.std.proofs.Common.{◌≡◌, ◌≢◌, None, drop, map}
use Rattle.std.specs.String.{string_bytes}
use Rattle.dv_words.specs.declared.fault.WordsFault.TheVariants.{Memory}
use Rattle.dv_words.specs.Uses.{uses_of}
use Rattle.dv_words.specs.Commands.{names_of}
use Rattle.dv_words.proofs.Ends.{err_none, none_if_dashed, not_dashed, some_mapped, ok_says}
use Rattle.dv_words.proofs.GrammarLemmas.{in_grammar, no_command}
use Rattle.dv_words.proofs.words.parse.Goals as goal
use Rattle.dv_words.proofs.words.parse.Goals.{Joined-error}

pub returns-in-Some-clause-reading : goal.returns-in-Some-clause-reading
returns-in-Some-clause-reading c = λ _. none_if_dashed (λ w. string_bytes w) c.args.words.now (names_of c.args.options.now) c.in-Some.ensures

pub returns-in-Some-clause-refused : goal.returns-in-Some-clause-refused
returns-in-Some-clause-refused c = λ _. no_command (names_of c.args.options.now) (drop 1 (map (λ w. string_bytes w) c.args.words.now)) c.requires.names
    (none_if_dashed (λ w. string_bytes w) c.args.words.now (names_of c.args.options.now) c.in-Some.ensures)

pub returns-in-Ok-try_get_matches_from-clause-reading : goal.returns-in-Ok-try_get_matches_from-clause-reading
returns-in-Ok-try_get_matches_from-clause-reading c =
    ok_says c.args.command_word.now (names_of c.args.options.now) c.requires.fresh _ c.in-Ok.ensures (map (λ w. string_bytes w) c.args.words.now) c.in-Ok-try_get_matches_from.matches
    (some_mapped (λ w. string_bytes w) c.args.words.now c.requires.some) (not_dashed (λ w. string_bytes w) c.args.words.now c.in-None.ensures)
    c.in-Ok-try_get_matches_from.ensures.kinds c.in-Ok-try_get_matches_from.ensures.matches

pub returns-in-Ok-try_get_matches_from-clause-ok : goal.returns-in-Ok-try_get_matches_from-clause-ok
returns-in-Ok-try_get_matches_from-clause-ok c =
    in_grammar (names_of c.args.options.now) (drop 1 (map (λ w. string_bytes w) c.args.words.now)) c.requires.names (record { matches = c.in-Ok-try_get_matches_from.matches })
    (returns-in-Ok-try_get_matches_from-clause-reading c)

-- clap refused them
refused : (c : Joined-error) → c.fault_of.result ≢ Memory → uses_of (names_of c.args.options.now) (drop 1 (map (λ w. string_bytes w) c.args.words.now)) ≡ None
refused c other =
    err_none c.args.command_word.now (names_of c.args.options.now) c.requires.fresh _ c.in-Ok.ensures (map (λ w. string_bytes w) c.args.words.now) c.in-Err.error
    (some_mapped (λ w. string_bytes w) c.args.words.now c.requires.some) (not_dashed (λ w. string_bytes w) c.args.words.now c.in-None.ensures)
    c.in-Err.ensures.kinds (c.fault_of.ensures other)

pub returns-in-Err-clause-reading : goal.returns-in-Err-clause-reading
returns-in-Err-clause-reading c = refused c

pub returns-in-Err-clause-refused : goal.returns-in-Err-clause-refused
returns-in-Err-clause-refused c = λ other. no_command (names_of c.args.options.now) (drop 1 (map (λ w. string_bytes w) c.args.words.now)) c.requires.names (refused c other)
