use Rattle.std.proofs.Common.{◌≡◌, ◌<◌, true, false, Some, length, arith, rules, sym, ap, ◌∙◌}
use Rattle.std.specs.Prelude.{slice_get, slice_set}
use Rattle.std.proofs.lemmas.Option.{slice_get-get_or}
use Rattle.tb_float.proofs.ClassLemmas.{one-class-more, left-added, set-again}
use Rattle.tb_float.proofs.classes.ClassSet.add.Goals as goal

pub returns-then-self-place-clause-flags : goal.returns-then-self-place-clause-flags
returns-then-self-place-clause-flags c =
    let s = c.args.self.now in
    let many : length s.flags ≡ 256 = search rules in
    let got : slice_get s.flags c.args.class ≡ Some true = ap (slice_get s.flags) (sym c.from-place.ensures) ∙ slice_get-get_or s.flags c.from-place.result false (omega arith) ∙ ap Some c.if-self-place.true in
    sym (set-again s.flags c.args.class true got)

pub returns-then-self-place-clause-classes : goal.returns-then-self-place-clause-classes
returns-then-self-place-clause-classes c = λ fs f is h.
    let s = c.args.self.now in
    let many : length s.flags ≡ 256 = search rules in
    let low : f.class < 256 = omega (arith, is) in
    let got : slice_get s.flags c.args.class ≡ Some true = ap (slice_get s.flags) (sym c.from-place.ensures) ∙ slice_get-get_or s.flags c.from-place.result false (omega arith) ∙ ap Some c.if-self-place.true in
    one-class-more s s fs f low many (sym (set-again s.flags f.class true (ap (slice_get s.flags) is ∙ got))) h

pub returns-clause-classes : goal.returns-clause-classes
returns-clause-classes c = λ fs f is h.
    let s = c.args.self.now in
    let many : length s.flags ≡ 256 = search rules in
    let low : f.class < 256 = omega (arith, is) in
    one-class-more s (record { flags = slice_set s.flags c.from-place.result true; left = c.one_less-self.result }) fs f low many (ap (λ k. slice_set s.flags k true) (c.from-place.ensures ∙ sym is)) h

pub returns-clause-left : goal.returns-clause-left
returns-clause-left c = λ all has h.
    let s = c.args.self.now in
    let many : length s.flags ≡ 256 = search rules in
    let got : slice_get s.flags c.args.class ≡ Some false = ap (slice_get s.flags) (sym c.from-place.ensures) ∙ slice_get-get_or s.flags c.from-place.result false (omega arith) ∙ ap Some c.if-self-place.false in
    left-added s (record { flags = slice_set s.flags c.from-place.result true; left = c.one_less-self.result }) c.args.class all got (ap (λ k. slice_set s.flags k true) c.from-place.ensures) c.one_less-self.ensures has h

pub returns-clause-flags : goal.returns-clause-flags
returns-clause-flags c = ap (λ k. slice_set c.args.self.now.flags k true) c.from-place.ensures
