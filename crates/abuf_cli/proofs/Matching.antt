-- What a parse by `clap` says of the matches.
use Rattle.std.proofs.Common.{◌≡◌, ◌<◌, ◌+◌, ℕ, List, [], ◌∷◌, take, length, get_or, Some, None, refl, ap, sym, ◌∙◌}
use Rattle.std.proofs.lemmas.List.{take_more}
use Rattle.std.proofs.lemmas.List.Sums.{fold-append}
use Rattle.clap.specs.Words.{App, Row, with_rule}
use Rattle.clap.specs.Kinds.{Kinds, IsAmong}
use Rattle.clap.specs.declared.error.kind.ErrorKind.{ErrorKind}
use Rattle.abuf_cli.specs.Options.{name_of}
use Rattle.abuf_cli.specs.Commands.{option_rule, with_options, matches_if}
use Rattle.abuf_cli.specs.declared.job.Opt.{Opt}

pub options_more : (app : App) (options : List Opt) (i : ℕ) (d : Opt) → i < length options
    → with_options app (take (i + 1) options) ≡ with_rule (with_options app (take i options)) (option_rule (name_of (get_or options i d)))
options_more app options i d here = ap (with_options app) (take_more options i d here) ∙ fold-append _ app (take i options) _

pub none_from : (kinds : Kinds) (rows : List Row) (k : ErrorKind) → IsAmong k kinds → matches_if kinds rows ≡ None
none_from [] rows k among = absurd among
none_from (x ∷ kinds) rows k among = refl

pub some_from : (kinds : Kinds) (found rows : List Row) → kinds ≡ [] → rows ≡ found → matches_if kinds found ≡ Some rows
some_from kinds found rows none same = rw (none, same) refl

-- a command gets one more option, of the name of the list's next
pub options_step : (app before after : App) (options : List Opt) (i : ℕ) (d : Opt) (name : List ℕ) → i < length options → name ≡ name_of (get_or options i d)
    → after ≡ with_rule before (option_rule name) → before ≡ with_options app (take i options) → after ≡ with_options app (take (i + 1) options)
options_step app before after options i d name here is added so_far =
    added ∙ ap (λ (t : List ℕ). with_rule before (option_rule t)) is ∙ ap (λ (a : App). with_rule a (option_rule (name_of (get_or options i d)))) so_far ∙ sym (options_more app options i d here)
