-- The program's command is one of which `clap` says all.
use Rattle.std.proofs.Common.{◌≡◌, ◌∙◌, ap, refl, sym, List, ◌==◌, length, true, []}
use Rattle.std.specs.Prelude.{Option}
use Rattle.clap.specs.Words.{fault_of, found_of, is_simple, is_simple_and_free, matches_of, rows_of, App, HasMatchesOf, Kinds, Text}
use Rattle.clap.specs.declared.parser.matches.ArgMatches.{ArgMatches}
use Rattle.clap.proofs.OnLiterals.{clap_on_literals}
use Rattle.tb_words.specs.Words.{asked, command, mode_in, takes_words}
use Rattle.tb_words.specs.declared.Mode.{Mode}

command_simple : is_simple command ≡ true
unfolding clap_on_literals
command_simple = refl

pub command_free : (a : App) → a ≡ command → is_simple_and_free a ≡ true
unfolding clap_on_literals
command_free a is = rw is refl

pub asked_of : (a : App) (words : List Text) (m : ArgMatches) (mode : Option Mode) → a ≡ command → HasMatchesOf a words m → fault_of a words ≡ [] → mode ≡ mode_in (rows_of (found_of m)) → asked words ≡ mode
unfolding asked
asked_of a words m mode is matches none named =
    let simple : is_simple a ≡ true = ap is_simple is ∙ command_simple in
    let rows : rows_of (found_of m) ≡ matches_of command words = (matches simple).0 ∙ ap (λ x. matches_of x words) is in
    let free : fault_of command words ≡ [] = ap (λ x. fault_of x words) (sym is) ∙ none in
    let takes : takes_words words ≡ true = ap (λ (ks : Kinds). length ks == 0) free in
    rw takes (sym (named ∙ ap mode_in rows))
