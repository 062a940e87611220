use Rattle.std.proofs.Common.{◌≡◌, ◌∙◌, ◌+◌, ◌*◌, ap, arith}
use Rattle.std.specs.Prelude.{◌/◌, ◌%◌}
use Rattle.std.proofs.lemmas.List.{length-set}
use Rattle.tb_generator.specs.GeneratedGalleys.{letter_number}
use Rattle.tb_generator.proofs.LastDigit.{digit_set}
use Rattle.tb_generator.proofs.name_box.Goals as goal

pub returns-then-k-last-clause-last : goal.returns-then-k-last-clause-last
returns-then-k-last-clause-last c =
    let last = c.requires.last in
    record {
      long = length-set c.args.last.now.text 5 (48 + c.args.k % 10) ∙ last.long;
      within = last.within;
      few = last.few;
      digit = c.args.k % 10;
      low = omega arith;
      name = digit_set c.args.last.now.text c.args.last.now.start 98 c.args.last.now.tens last.digit (c.args.k % 10) last.long last.within last.few last.low (omega arith) last.name;
    }

pub returns-then-k-last-clause-name : goal.returns-then-k-last-clause-name
returns-then-k-last-clause-name c =
    let last = c.requires.last in
    let whole : c.args.last.now.tens * 10 + c.args.k % 10 ≡ c.args.k = omega (arith, c.if-k-last.true) in
    digit_set c.args.last.now.text c.args.last.now.start 98 c.args.last.now.tens last.digit (c.args.k % 10) last.long last.within last.few last.low (omega arith) last.name ∙ ap (letter_number 98) whole

pub returns-else-k-last-clause-last : goal.returns-else-k-last-clause-last
returns-else-k-last-clause-last c =
    let whole : c.args.k ≡ c.args.k / 10 * 10 + c.args.k % 10 = omega arith in
    record {
      long = c.write_led-last.array_long;
      within = c.write_led-last.ensures.within;
      few = omega (arith, c.requires.few);
      digit = c.args.k % 10;
      low = omega arith;
      name = c.write_led-last.ensures.written ∙ ap (letter_number 98) whole;
    }
